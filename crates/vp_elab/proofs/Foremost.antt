-- The first objects of modules, object by object.
use Rattle.std.proofs.Common.{◌≡◌, ℕ, zero, suc, ◌+◌, ◌<◌, ◌≤◌, Bool, true, false, cond, List, [], ◌∷◌, ◌++◌, length, take, position, get_or, set, Option, Some, None, refl, sym, ap, ◌∙◌, arith}
use Rattle.std.specs.Prelude.{nat_eq, option_map}
use Rattle.std.specs.List.{position_from}
use Rattle.std.specs.Option.{option_map_or, option_or}
use Rattle.std.proofs.lemmas.Bool.{eqb-true, eqb-false}
use Rattle.std.proofs.lemmas.List.{get_or-set_other, get_or-set_same, length-set, take_more}
use Rattle.vp_elab.specs.declared.object.Kind.TheVariants as kind
use Rattle.vp_elab.specs.declared.object.Object.{Object}
use Rattle.vp_elab.specs.declared.object.ObjectId.{ObjectId}
use Rattle.vp_elab.specs.Objects.{AreFirsts, is_of}
use Rattle.vp_elab.specs.laws.Positions.{or_else, position_from-append, position_is}

-- an object, for a number past the end of a list
abbrev pub no_object : Object
no_object = record { kind = kind.Module; parent = None; index = 0; scope = None; place = 0; envelope = 0; width = 0; lowest = None }

or_same : (a b : Option ℕ) → or_else a b ≡ option_or a b
or_same None b = refl
or_same (Some n) b = refl

position_more : {X : Type 0} (t : X → Bool) (xs : List X) (x : X) (n : ℕ) → n ≡ length xs → position t (xs ++ x ∷ []) ≡ option_or (position t xs) (cond (t x) (Some n) None)
position_more t xs x n e =
    position_is t (xs ++ x ∷ []) ∙ position_from-append t 0 n xs (x ∷ []) (omega arith)
    ∙ or_same (position_from t 0 xs) (cond (t x) (Some n) None) ∙ ap (λ (o : Option ℕ). option_or o (cond (t x) (Some n) None)) (sym (position_is t xs))

long_take : {X : Type 0} (n : ℕ) (xs : List X) → n ≤ length xs → length (take n xs) ≡ n
long_take zero xs l = refl
long_take (suc n) [] l = absurd (omega arith)
long_take (suc n) (x ∷ xs) l = let rest = long_take n xs (omega arith) in omega arith

number_or : (a : Option ObjectId) (b : Bool) (id : ℕ) → option_map (λ (o : ObjectId). o.0) (option_or a (cond b (Some (record { 0 = id })) None)) ≡ option_or (option_map (λ (o : ObjectId). o.0) a) (cond b (Some id) None)
number_or None true id = refl
number_or None false id = refl
number_or (Some o) b id = refl

-- one object more
turn :
    (objects : List Object) (id count : ℕ) (old new : List (Option ObjectId)) → id < length objects → AreFirsts (take id objects) count old → length new ≡ count
    → ((k : ℕ) → k < count → get_or new k None ≡ option_or (get_or old k None) (cond (is_of k (get_or objects id no_object)) (Some (record { 0 = id })) None))
    → AreFirsts (take (id + 1) objects) count new
turn objects id count old new within before long each = record {
  each = long;
  first = λ k l.
      let x : Object = get_or objects id no_object in
      ap (option_map (λ (o : ObjectId). o.0)) (each k l) ∙ number_or (get_or old k None) (is_of k x) id
      ∙ ap (λ (o : Option ℕ). option_or o (cond (is_of k x) (Some id) None)) (before.first k l)
      ∙ sym (position_more (is_of k) (take id objects) x id (sym (long_take id objects (omega arith))))
      ∙ ap (position (is_of k)) (sym (take_more objects id no_object within));
}

or_none : (a : Option ObjectId) → a ≡ option_or a None
or_none None = refl
or_none (Some o) = refl

other_by : (k number : ℕ) (scope : Option ℕ) (b : Bool) → scope ≡ Some number → nat_eq k number ≡ b → option_map_or (nat_eq k) scope false ≡ b
other_by k number scope b is same = ap (λ (o : Option ℕ). option_map_or (nat_eq k) o false) is ∙ same

not_same : (k number : ℕ) → (k ≡ number → ⊥) → nat_eq k number ≡ false
not_same k number differs = by (nat_eq k number) refl
  where
    by : (b : Bool) → nat_eq k number ≡ b → nat_eq k number ≡ false
    by true h = absurd (differs (eqb-true k number h))
    by false h = h

-- of a module of a number
pub turn_of :
    (objects : List Object) (id count : ℕ) (old : List (Option ObjectId)) (number : ℕ) → id < length objects → AreFirsts (take id objects) count old
    → (get_or objects id no_object).scope ≡ Some number → number < count
    → AreFirsts (take (id + 1) objects) count (set old number (option_or (get_or old number None) (Some (record { 0 = id }))))
turn_of objects id count old number within before is small =
    let value : Option ObjectId = option_or (get_or old number None) (Some (record { 0 = id })) in
    let x : Object = get_or objects id no_object in
    let long : length old ≡ count = before.each in
    turn objects id count old (set old number value) within before (length-set old number value ∙ before.each)
    (λ k l. by k (nat_eq k number) refl long)
  where
    by :
        (k : ℕ) (b : Bool) → nat_eq k number ≡ b → length old ≡ count
        → get_or (set old number (option_or (get_or old number None) (Some (record { 0 = id })))) k None
        ≡ option_or (get_or old k None) (cond (is_of k (get_or objects id no_object)) (Some (record { 0 = id })) None)
    by k true h long =
        let same : k ≡ number = eqb-true k number h in
        let value : Option ObjectId = option_or (get_or old number None) (Some (record { 0 = id })) in
        ap (get_or (set old number value) k) refl
        ∙ ap (λ (n : ℕ). get_or (set old number value) n None) same ∙ get_or-set_same old number value None (omega arith)
        ∙ ap (λ (n : ℕ). option_or (get_or old n None) (Some (record { 0 = id }))) (sym same)
        ∙ ap (λ (t : Bool). option_or (get_or old k None) (cond t (Some (record { 0 = id })) None)) (sym (other_by k number (get_or objects id no_object).scope true is h))
    by k false h long =
        let value : Option ObjectId = option_or (get_or old number None) (Some (record { 0 = id })) in
        get_or-set_other old number k value None (eqb-false k number h)
        ∙ or_none (get_or old k None)
        ∙ ap (λ (t : Bool). option_or (get_or old k None) (cond t (Some (record { 0 = id })) None)) (sym (other_by k number (get_or objects id no_object).scope false is h))

-- of a module of another number, which there is not
pub turn_after :
    (objects : List Object) (id count : ℕ) (old : List (Option ObjectId)) (number : ℕ) → id < length objects → AreFirsts (take id objects) count old
    → (get_or objects id no_object).scope ≡ Some number → count ≤ number → AreFirsts (take (id + 1) objects) count old
turn_after objects id count old number within before is large =
    turn objects id count old old within before before.each
    (λ k l.
    or_none (get_or old k None)
    ∙ ap (λ (t : Bool). option_or (get_or old k None) (cond t (Some (record { 0 = id })) None))
    (sym (other_by k number (get_or objects id no_object).scope false is (not_same k number (λ same. absurd (omega arith))))))

-- of what is no module
pub turn_leaf :
    (objects : List Object) (id count : ℕ) (old : List (Option ObjectId)) → id < length objects → AreFirsts (take id objects) count old
    → (get_or objects id no_object).scope ≡ None → AreFirsts (take (id + 1) objects) count old
turn_leaf objects id count old within before is =
    turn objects id count old old within before before.each
    (λ k l.
    or_none (get_or old k None)
    ∙ ap (λ (t : Bool). option_or (get_or old k None) (cond t (Some (record { 0 = id })) None))
    (sym (ap (λ (o : Option ℕ). option_map_or (nat_eq k) o false) is)))

-- what a list has at a number that it reaches
pub or_any : {X : Type 0} (xs : List X) (k : ℕ) (d e : X) → k < length xs → get_or xs k d ≡ get_or xs k e
or_any [] k d e l = absurd (omega arith)
or_any (x ∷ xs) zero d e l = refl
or_any (x ∷ xs) (suc k) d e l = or_any xs k d e (omega arith)
