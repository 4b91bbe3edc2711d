-- The first step at which a right is lacking, and the words of a denial.
use Rattle.std.proofs.Common.{◌≡◌, ◌∙◌, ℕ, zero, suc, ◌-◌, ◌≤◌, List, [], ◌∷◌, ◌++◌, length, map, slice_get, take, Option, Some, None, Result, Ok, Err, Bool, true, false, refl, sym, ap, arith}
use Rattle.std.specs.Prelude.{IsSome, MatchOption, OnErr, find, if◌then◌else◌, is_none, is_some, not, option_map}
use Rattle.std.specs.Borrow.{Bor}
use Rattle.std.specs.Slice.{IsItemAt}
use Rattle.std.specs.Option.{option_map_or, option_or}
use Rattle.std.proofs.lemmas.List.Folds.{find-append}
use Rattle.std.proofs.lemmas.Option.{slice_get-map, slice_get_past, slice_get_read}
use Rattle.vp_pragma.specs.declared.rights.Right.{Right}
use Rattle.vp_pragma.specs.declared.rights.Right.TheVariants as right
use Rattle.vp_pragma.specs.Rights.{has}
use Rattle.vp_policy.specs.declared.view.SeenObject.{SeenObject}
use Rattle.vp_policy.specs.SeenObjects.{node_after, own_step}
use Rattle.vp_policy.specs.View.{SeenNode, SeenStep, View}
use Rattle.vp_replay.specs.Objects.{envelope_at}
use Rattle.vp_replay.specs.Seen.{denial_seen, denied_seen, listed_seen, path_seen, words_at}

-- ---- rights

-- a step lacks a right
abbrev pub is_missing : Right → SeenStep → Bool
is_missing r s = not (has r s.rights)

or_assoc : {X : Type 0} (a b c : Option X) → option_or (option_or a b) c ≡ option_or a (option_or b c)
or_assoc None b c = refl
or_assoc (Some x) b c = refl

module _ (r : Right) (path above : List SeenStep) (s : SeenStep) (found : Option SeenStep) (is : path ≡ above ++ s ∷ []) where
  missing_by : (b : Bool) → is_missing r s ≡ b
      → option_or (find (is_missing r) path) found ≡ option_or (find (is_missing r) above) (option_or (if b then Some s else None) found)
  missing_by b lacks =
      ap (λ p. option_or (find (is_missing r) p) found) is ∙ ap (λ x. option_or x found) (find-append (is_missing r) above (s ∷ []))
      ∙ or_assoc (find (is_missing r) above) (if is_missing r s then Some s else None) found
      ∙ ap (λ x. option_or (find (is_missing r) above) (option_or (if x then Some s else None) found)) lacks

  -- the first step that lacks a right, where the last one does
  pub missing_step : has r s.rights ≡ false → option_or (find (is_missing r) above) (Some s) ≡ option_or (find (is_missing r) path) found
  missing_step lacks = sym (missing_by true (ap not lacks))

  -- the same, where the last one has it
  pub having_step : has r s.rights ≡ true → option_or (find (is_missing r) above) found ≡ option_or (find (is_missing r) path) found
  having_step had = sym (missing_by false (ap not had))

denial_by : (v : View) (r : Right) (s : SeenStep) (path : List SeenStep) (b : Bool)
    → denial_seen v r path ≡ option_map (words_at v r) (find (is_missing r) path)
    → (if b then denial_seen v r path else Some (words_at v r s)) ≡ option_map (words_at v r) (if not b then Some s else find (is_missing r) path)
denial_by v r s path true h = h
denial_by v r s path false h = refl

-- the words of a denial are those of the first step that lacks the right
denial_is : (v : View) (r : Right) (path : List SeenStep) → denial_seen v r path ≡ option_map (words_at v r) (find (is_missing r) path)
denial_is v r [] = refl
denial_is v r (s ∷ path) = denial_by v r s path (has r s.rights) (denial_is v r path)

none_map : {A B : Type 0} (f : A → B) (x : Option A) → is_none (option_map f x) ≡ is_none x
none_map f None = refl
none_map f (Some x) = refl

none_told : {X : Type 0} (x : Option X) (none : Bool) → is_some x ≡ not none → none ≡ is_none x
none_told None true h = refl
none_told None false h = absurd cc
none_told (Some x) true h = absurd cc
none_told (Some x) false h = refl

listed_by : (v : View) (n : ℕ) (node : Option SeenNode) (x : SeenNode) (missing_right : Option (Bor SeenObject)) → node ≡ Some x
    → option_map (λ o. own_step o.now) missing_right ≡ find (is_missing right.List) (option_map_or (λ (y : SeenNode). y.path) node [])
    → is_none missing_right ≡ option_map_or (λ (y : SeenNode). is_none (denial_seen v right.List y.path)) node false
listed_by v n node x missing_right at is =
    let path : option_map_or (λ (y : SeenNode). y.path) node [] ≡ x.path = ap (λ z. option_map_or (λ (y : SeenNode). y.path) z []) at in
    sym (none_map (λ o. own_step o.now) missing_right) ∙ ap is_none (is ∙ ap (find (is_missing right.List)) path)
    ∙ sym (none_map (words_at v right.List) (find (is_missing right.List) x.path)) ∙ ap is_none (sym (denial_is v right.List x.path))
    ∙ sym (ap (λ z. option_map_or (λ (y : SeenNode). is_none (denial_seen v right.List y.path)) z false) at)

-- an object that is there is listed, if no step to it lacks the right
pub listed_is : (v : View) (n : ℕ) (got missing_right : Option (Bor SeenObject))
    → MatchOption got (slice_get v.nodes n ≡ None) (λ o. slice_get v.nodes n ≡ Some (node_after (take n v.nodes) o.now)) → is_some got ≡ true
    → option_map (λ o. own_step o.now) missing_right ≡ find (is_missing right.List) (path_seen v n)
    → (none : Bool) → is_some missing_right ≡ not none → none ≡ listed_seen v n
listed_is v n None missing_right at there is none tells = absurd cc
listed_is v n (Some o) missing_right at there is none tells =
    none_told missing_right none tells ∙ listed_by v n (slice_get v.nodes n) (node_after (take n v.nodes) o.now) missing_right at is

-- a denial is reported, if there is a first step that lacks the right
pub denied_is : (v : View) (r : Right) (n : ℕ) (first : Option (Bor SeenObject)) → option_map (λ o. own_step o.now) first ≡ find (is_missing r) (path_seen v n)
    → denied_seen v r n ≡ option_map (λ o. words_at v r (own_step o.now)) first
denied_is v r n None is = denial_is v r (path_seen v n) ∙ ap (option_map (words_at v r)) (sym is)
denied_is v r n (Some o) is = denial_is v r (path_seen v n) ∙ ap (option_map (words_at v r)) (sym is)

-- and then it is there, whatever an error is reported for
pub denied_error : {T E : Type 0} (v : View) (r : Right) (n : ℕ) (first : Option (Bor SeenObject)) (o : Bor SeenObject) (told : Result T E) → option_map (λ o. own_step o.now) first ≡ find (is_missing r) (path_seen v n)
    → first ≡ Some o → OnErr told (IsSome (denied_seen v r n))
denied_error v r n first o (Ok x) is there = tt
denied_error v r n first o (Err e) is there = ap is_some (denied_is v r n first is ∙ ap (option_map (λ o. words_at v r (own_step o.now))) there)

-- ---- envelopes

-- what is got of a list at an index, as it is seen
pub item_got : {X Y : Type 0} (f : X → Y) (xs : List X) (n : ℕ) (got : Option (Bor X)) → IsItemAt xs n got → option_map (λ x. f x.now) got ≡ slice_get (map f xs) n
item_got f xs n None h = sym (slice_get-map f xs n ∙ ap (option_map f) (slice_get_past xs n h.3))
item_got f xs n (Some x) h = sym (slice_get-map f xs n ∙ ap (option_map f) (slice_get_read xs (length xs) n x.now refl h.3.0 h.1))

-- the envelopes are numbered from 1
pub envelope_there : (v : View) (n index : ℕ) → 1 ≤ n → n - 1 ≡ index → slice_get v.envelopes index ≡ envelope_at v n
envelope_there v zero index some is = absurd (omega arith)
envelope_there v (suc n) index some is = ap (slice_get v.envelopes) (omega arith)
