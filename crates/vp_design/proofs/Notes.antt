-- The words of a note.
use Rattle.std.proofs.Common.{◌≡◌, ◌∙◌, ℕ, ◌≤◌, ◌==◌, Bool, false, List, [], ◌∷◌, ◌++◌, length, map, take, refl, sym, ap, arith, le-ltb}
use Rattle.std.specs.Prelude.{codes, nat_lt, if◌then◌else◌}
use Rattle.std.specs.Borrow.{Bor}
use Rattle.std.specs.List.{flat_map, join_by}
use Rattle.std.proofs.lemmas.List.{length-map}
use Rattle.vp_design.specs.Expected.{expected_note, listed, told_limit}
use Rattle.vp_design.specs.Rendering.{ellipsis}

-- a word as it is reported
abbrev pub now_of : Bor (List ℕ) → List ℕ
now_of w = w.now

further_map : (between : List ℕ) (words : List (Bor (List ℕ))) → flat_map (λ w. between ++ now_of w) words ≡ flat_map (λ w. between ++ w) (map now_of words)
further_map between [] = refl
further_map between (w ∷ words) = ap (λ (rest : List ℕ). (between ++ now_of w) ++ rest) (further_map between words)

joined_map : (between : List ℕ) (words : List (Bor (List ℕ))) → join_by now_of between words ≡ join_by (λ w. w) between (map now_of words)
joined_map between [] = refl
joined_map between (w ∷ words) = ap (λ (rest : List ℕ). now_of w ++ rest) (further_map between words)

-- at most six words are listed whole
pub listed_whole : (words : List (Bor (List ℕ))) → length words ≤ 6 → join_by (λ w. w.now) (codes ", ") words ≡ listed (map (λ w. w.now) words)
listed_whole words few =
    let same : length (map now_of words) ≡ length words = length-map words now_of in
    let within : length (map now_of words) ≤ 6 = omega arith in
    let test : nat_lt told_limit (length (map now_of words)) ≡ false = le-ltb 6 (length (map now_of words)) within in
    joined_map (codes ", ") words
    ∙ sym (ap (λ (b : Bool). if b then join_by (λ w. w) (codes ", ") (take told_limit (map now_of words)) ++ (codes ", " ++ ellipsis) else join_by (λ w. w) (codes ", ") (map now_of words)) test)

-- where there are words they are reported
pub note_long : (found : List ℕ) (words : List (Bor (List ℕ))) → (length words == 0) ≡ false → codes "found " ++ (found ++ (codes "; here would be read: " ++ (listed (map (λ w. w.now) words) ++ codes "\n"))) ≡ expected_note found (map (λ w. w.now) words)
note_long found [] e = cc
note_long found (w ∷ words) e = refl
