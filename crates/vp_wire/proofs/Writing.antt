-- Bytes that go out part by part.
use Rattle.std.proofs.Common.{◌≡◌, ◌∙◌, ℕ, List, [], ◌++◌, take, drop, Option, sym, ap, subst, take-append-drop, append-nil, append_assoc}
use Rattle.std.specs.Io.KnownBytes.{Appends, Keeps}
use Rattle.std.proofs.KnownBytes.{Appends-kept, Appends-trans}
use Rattle.vp_wire.specs.Dialogue.{IsFront}

-- of some bytes a rest is left, and what stands before it went out
pub record Wrote (held holds : Option (List ℕ)) (bytes rest : List ℕ) : Type 0 where
  pub front : List ℕ
  pub whole : bytes ≡ front ++ rest
  pub out : Appends held holds front

-- nothing is left: all of it went out
pub wrote_all : (held holds : Option (List ℕ)) (bytes rest : List ℕ) → Wrote held holds bytes rest → rest ≡ [] → Appends held holds bytes
wrote_all held holds bytes rest w none =
    subst (Appends held holds) (sym (w.whole ∙ ap (λ (r : List ℕ). w.front ++ r) none ∙ append-nil w.front)) w.out

-- a front of the rest went out as well
pub wrote_more : (held mid holds : Option (List ℕ)) (bytes rest : List ℕ) (n : ℕ) → Wrote held mid bytes rest → Appends mid holds (take n rest) → Wrote held holds bytes (drop n rest)
wrote_more held mid holds bytes rest n w more = record {
  front = w.front ++ take n rest;
  whole = w.whole ∙ ap (λ (r : List ℕ). w.front ++ r) (sym (take-append-drop n rest)) ∙ sym (append_assoc w.front (take n rest) (drop n rest));
  out = Appends-trans held mid holds w.front (take n rest) w.out more;
}

-- nothing more went out
pub wrote_kept : (held mid holds : Option (List ℕ)) (bytes rest : List ℕ) → Wrote held mid bytes rest → Keeps mid holds → Wrote held holds bytes rest
wrote_kept held mid holds bytes rest w kept = record { front = w.front; whole = w.whole; out = Appends-kept held mid holds w.front w.out kept }

-- where it stops, a front of the bytes went out
pub wrote_front : (held holds : Option (List ℕ)) (bytes rest : List ℕ) → Wrote held holds bytes rest → (front : List ℕ) × IsFront front bytes × Appends held holds front
wrote_front held holds bytes rest w = (w.front, (rest, w.whole), w.out)
