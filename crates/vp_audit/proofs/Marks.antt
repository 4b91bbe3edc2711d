-- Lists by marks, one object after the other.
use Rattle.std.proofs.Common.{◌≡◌, ◌∙◌, ℕ, zero, suc, ◌+◌, ◌<◌, Bool, true, false, List, [], ◌∷◌, ◌++◌, drop, length, map, Option, Some, None, refl, ap, sym, subst, arith}
use Rattle.std.specs.Prelude.{◌||◌, if◌then◌else◌, option_map, slice_get, unwrap_or}
use Rattle.std.specs.Option.{option_flatten, option_map_or}
use Rattle.std.proofs.lemmas.List.{append_assoc, length-map, map-append}
use Rattle.vp_elab.specs.Tree.{Node, Tree, below}
use Rattle.vp_policy.specs.Filter.{is_listed}
use Rattle.vp_policy.specs.SeenObjects.{numbers_from}
use Rattle.vp_policy.specs.Users.{Member}
use Rattle.vp_policy.specs.View.{HoldScopes, listed_marks, marked}
use Rattle.vp_policy.proofs.Views.{listed_scopes}
use Rattle.vp_sim.specs.States as sim
use Rattle.vp_expr.specs.declared.change.Change.{Change}
use Rattle.vp_replay.specs.Known.{known_also, known_index}
use Rattle.vp_audit.specs.Projections.{change_seen, is_followed, moved_numbers, number_in, values_but}
use Rattle.vp_audit.specs.Readings.{either_marked, value_but}

-- of the marked objects from a number on, something of each
abbrev pub over_marked : {X : Type 0} → ℕ → (marks : List Bool) → (ℕ → X) → List X
over_marked n [] f = []
over_marked n (m ∷ marks) f = if m then f n ∷ over_marked (n + 1) marks f else over_marked (n + 1) marks f

-- ---- the mark of a number

-- the marks from a number on
first_by : (marks : List Bool) (n : ℕ) → n < length marks → drop n marks ≡ unwrap_or (slice_get marks n) false ∷ drop (suc n) marks
first_by [] n l = absurd (omega arith)
first_by (m ∷ marks) zero l = refl
first_by (m ∷ marks) (suc n) l = first_by marks n (omega arith)

pub mark_first : (marks : List Bool) (n : ℕ) → n < length marks → drop n marks ≡ unwrap_or (slice_get marks n) false ∷ drop (n + 1) marks
mark_first marks n l = let next : suc n ≡ n + 1 = omega arith in first_by marks n l ∙ ap (λ k. unwrap_or (slice_get marks n) false ∷ drop k marks) next

-- one more of the marked
pub over_more : {X : Type 0} (f : ℕ → X) (marks : List Bool) (n : ℕ) (done : List X) (x : X) → n < length marks → unwrap_or (slice_get marks n) false ≡ true → x ≡ f n
    → done ++ over_marked n (drop n marks) f ≡ (done ++ x ∷ []) ++ over_marked (n + 1) (drop (n + 1) marks) f
over_more f marks n done x l set is =
    ap (λ ms. done ++ over_marked n ms f) (mark_first marks n l)
    ∙ ap (λ b. done ++ (if b then f n ∷ over_marked (n + 1) (drop (n + 1) marks) f else over_marked (n + 1) (drop (n + 1) marks) f)) set
    ∙ ap (λ y. done ++ y ∷ over_marked (n + 1) (drop (n + 1) marks) f) (sym is)
    ∙ sym (append_assoc done (x ∷ []) (over_marked (n + 1) (drop (n + 1) marks) f))

-- one that is not marked
pub over_same : {X : Type 0} (f : ℕ → X) (marks : List Bool) (n : ℕ) (done : List X) → n < length marks → unwrap_or (slice_get marks n) false ≡ false
    → done ++ over_marked n (drop n marks) f ≡ done ++ over_marked (n + 1) (drop (n + 1) marks) f
over_same f marks n done l set =
    ap (λ ms. done ++ over_marked n ms f) (mark_first marks n l)
    ∙ ap (λ b. done ++ (if b then f n ∷ over_marked (n + 1) (drop (n + 1) marks) f else over_marked (n + 1) (drop (n + 1) marks) f)) set

-- ---- by the indexes of numbers

-- what is alike of all is alike of a list
map_like : {X Y : Type 0} (f g : X → Y) (xs : List X) → ((x : X) → f x ≡ g x) → map f xs ≡ map g xs
map_like f g [] h = refl
map_like f g (x ∷ xs) h = ap (λ y. y ∷ map f xs) (h x) ∙ ap (λ ys. g x ∷ ys) (map_like f g xs h)

-- of the numbers below, the first and the others
map_below : {X : Type 0} (f : ℕ → X) (n : ℕ) → map f (below (suc n)) ≡ f 0 ∷ map (λ k. f (suc k)) (below n)
map_below f zero = refl
map_below f (suc n) =
    map-append f (below (suc n)) (suc n ∷ [])
    ∙ ap (λ xs. xs ++ f (suc n) ∷ []) (map_below f n)
    ∙ ap (λ xs. f 0 ∷ xs) (sym (map-append (λ k. f (suc k)) (below n) (n ∷ [])))

-- something of the index of each number
pub over_is : {X : Type 0} (f : ℕ → X) (n : ℕ) (known : List Bool) → map (λ k. f (n + known_index known k)) (below (length (marked known known))) ≡ over_marked n known f
over_is f n [] = refl
over_is f n (true ∷ known) =
    map_below (λ k. f (n + known_index (true ∷ known) k)) (length (marked known known))
    ∙ ap (λ o. f o ∷ map (λ k. f (n + suc (known_index known k))) (below (length (marked known known)))) (the_first n)
    ∙ ap (λ xs. f n ∷ xs)
    (map_like (λ k. f (n + suc (known_index known k))) (λ k. f ((n + 1) + known_index known k)) (below (length (marked known known))) (λ k. ap f (next n (known_index known k)))
    ∙ over_is f (n + 1) known)
  where
    the_first : (n : ℕ) → n + 0 ≡ n
    the_first n = omega arith

    next : (n k : ℕ) → n + suc k ≡ (n + 1) + k
    next n k = omega arith
over_is f n (false ∷ known) =
    map_like (λ k. f (n + suc (known_index known k))) (λ k. f ((n + 1) + known_index known k)) (below (length (marked known known))) (λ k. ap f (next n (known_index known k)))
    ∙ over_is f (n + 1) known
  where
    next : (n k : ℕ) → n + suc k ≡ (n + 1) + k
    next n k = omega arith

-- the values of the known objects that a user may read, but for those that are marked
pub values_are : (marks : List Bool) (run : sim.State) (u : Member) (known : List Bool) → values_but marks run u known ≡ over_marked 0 known (value_but marks run.design.tree run.values u)
values_are marks run u known =
    map_like (λ k. value_but marks run.design.tree run.values u (known_index known k)) (λ k. value_but marks run.design.tree run.values u (0 + known_index known k)) (below (length (marked known known)))
    (λ k. ap (value_but marks run.design.tree run.values u) (at_first (known_index known k)))
    ∙ over_is (value_but marks run.design.tree run.values u) 0 known
  where
    at_first : (k : ℕ) → k ≡ 0 + k
    at_first k = omega arith

-- ---- numbers of marks

-- one more of them
pub numbers_more : (marks : List Bool) (n count : ℕ) (done : List (Option ℕ)) → n < length marks → unwrap_or (slice_get marks n) false ≡ true
    → done ++ numbers_from count (drop n marks) ≡ (done ++ Some count ∷ []) ++ numbers_from (count + 1) (drop (n + 1) marks)
numbers_more marks n count done l set =
    ap (λ ms. done ++ numbers_from count ms) (mark_first marks n l)
    ∙ ap (λ b. done ++ (if b then Some count ∷ numbers_from (count + 1) (drop (n + 1) marks) else None ∷ numbers_from count (drop (n + 1) marks))) set
    ∙ sym (append_assoc done (Some count ∷ []) (numbers_from (count + 1) (drop (n + 1) marks)))

-- one that has none
pub numbers_same : (marks : List Bool) (n count : ℕ) (done : List (Option ℕ)) → n < length marks → unwrap_or (slice_get marks n) false ≡ false
    → done ++ numbers_from count (drop n marks) ≡ (done ++ None ∷ []) ++ numbers_from count (drop (n + 1) marks)
numbers_same marks n count done l set =
    ap (λ ms. done ++ numbers_from count ms) (mark_first marks n l)
    ∙ ap (λ b. done ++ (if b then Some count ∷ numbers_from (count + 1) (drop (n + 1) marks) else None ∷ numbers_from count (drop (n + 1) marks))) set
    ∙ sym (append_assoc done (None ∷ []) (numbers_from count (drop (n + 1) marks)))

-- the number of an object is that among the marked
number_from : (marks : List Bool) (n o : ℕ) → option_flatten (slice_get (numbers_from n marks) o) ≡ option_map (λ k. n + k) (number_in marks o)
number_from [] n o = refl
number_from (true ∷ marks) n zero = ap Some (sym (none_more n)) where
  none_more : (n : ℕ) → n + 0 ≡ n
  none_more n = omega arith
number_from (false ∷ marks) n zero = refl
number_from (true ∷ marks) n (suc o) = number_from marks (n + 1) o ∙ shifted n (number_in marks o) where
  shifted : (n : ℕ) (k : Option ℕ) → option_map (λ j. (n + 1) + j) k ≡ option_map (λ j. n + j) (option_map suc k)
  shifted n None = refl
  shifted n (Some k) = let e : (n + 1) + k ≡ n + suc k = omega arith in ap Some e
number_from (false ∷ marks) n (suc o) = number_from marks n o

-- counted from the first
pub number_is : (marks : List Bool) (o : ℕ) → option_flatten (slice_get (numbers_from 0 marks) o) ≡ number_in marks o
number_is marks o = number_from marks 0 o ∙ same (number_in marks o) where
  same : (k : Option ℕ) → option_map (λ j. 0 + j) k ≡ k
  same None = refl
  same (Some k) = let e : 0 + k ≡ k = omega arith in ap Some e

-- a change of an object that is followed, by its number
pub change_by : (tree : Tree) (u : Member) (known : List Bool) (numbers : List (Option ℕ)) → numbers ≡ numbers_from 0 known → (c : Change) (change : Option Change) → change ≡ Some c
    → is_followed tree u c.object.0 ≡ true → (found : Option ℕ) → option_flatten (slice_get numbers c.object.0) ≡ found
    → change_seen tree u known change ≡ option_map (λ k. record { object = record { 0 = k }; value = c.value }) found
change_by tree u known numbers are c change is followed found at =
    ap (change_seen tree u known) is
    ∙ ap (λ (b : Bool). option_map (λ k. record { object = record { 0 = k }; value = c.value }) (if b then number_in known c.object.0 else None)) followed
    ∙ ap (option_map (λ k. record { object = record { 0 = k }; value = c.value }))
    (sym (number_is known c.object.0) ∙ ap (λ (ns : List (Option ℕ)). option_flatten (slice_get ns c.object.0)) (sym are) ∙ at)

-- the numbers now of what was known before
pub moved_are : (before now : List Bool) → moved_numbers before now ≡ over_marked 0 before (λ o. unwrap_or (option_flatten (slice_get (numbers_from 0 now) o)) 0)
moved_are before now =
    map_like (λ k. option_map_or (λ n. n) (number_in now (known_index before k)) 0) (λ k. unwrap_or (option_flatten (slice_get (numbers_from 0 now) (0 + known_index before k))) 0) (below (length (marked before before)))
    (λ k. or_zero (number_in now (known_index before k)) ∙ ap (λ n. unwrap_or n 0) (sym (at_first k)))
    ∙ over_is (λ o. unwrap_or (option_flatten (slice_get (numbers_from 0 now) o)) 0) 0 before
  where
    or_zero : (n : Option ℕ) → option_map_or (λ (m : ℕ). m) n 0 ≡ unwrap_or n 0
    or_zero None = refl
    or_zero (Some n) = refl

    at_first : (k : ℕ) → option_flatten (slice_get (numbers_from 0 now) (0 + known_index before k)) ≡ number_in now (known_index before k)
    at_first k = let e : 0 + known_index before k ≡ known_index before k = omega arith in ap (λ o. option_flatten (slice_get (numbers_from 0 now) o)) e ∙ number_is now (known_index before k)

-- ---- marks of two lists

-- what was known before or is listed now
pub known_also_is : (tree : Tree) (u : Member) (known : List Bool) (nodes : List Node) → either_marked known (listed_marks tree u nodes) ≡ known_also tree u known nodes
known_also_is tree u [] nodes = refl
known_also_is tree u (k ∷ known) [] = refl
known_also_is tree u (k ∷ known) (node ∷ nodes) = ap (λ ms. (k || is_listed tree u node) ∷ ms) (known_also_is tree u known nodes)

-- as many
pub either_length : (first second : List Bool) → length first ≡ length second → length (either_marked first second) ≡ length first
either_length [] second e = refl
either_length (a ∷ first) [] e = absurd (cc)
either_length (a ∷ first) (b ∷ second) e = ap suc (either_length first second (omega (arith, e)))

-- the marks from an index on
either_by : (first second : List Bool) (n : ℕ) (a b : Bool) → slice_get first n ≡ Some a → slice_get second n ≡ Some b
    → either_marked (drop n first) (drop n second) ≡ (a || b) ∷ either_marked (drop (suc n) first) (drop (suc n) second)
either_by [] second n a b f s = absurd (cc)
either_by (x ∷ first) [] n a b f s = absurd (cc)
either_by (x ∷ first) (y ∷ second) zero a b f s =
    let p : x ≡ a = cc in
    let q : y ≡ b = cc in
    ap (λ c. (c || y) ∷ either_marked first second) p ∙ ap (λ c. (a || c) ∷ either_marked first second) q
either_by (x ∷ first) (y ∷ second) (suc n) a b f s = either_by first second n a b f s

pub either_more : (first second : List Bool) (n : ℕ) (done : List Bool) (a b : Bool) → slice_get first n ≡ Some a → slice_get second n ≡ Some b
    → done ++ either_marked (drop n first) (drop n second) ≡ (done ++ (a || b) ∷ []) ++ either_marked (drop (n + 1) first) (drop (n + 1) second)
either_more first second n done a b f s =
    let next : suc n ≡ n + 1 = omega arith in
    ap (λ ms. done ++ ms) (either_by first second n a b f s ∙ ap (λ k. (a || b) ∷ either_marked (drop k first) (drop k second)) next)
    ∙ sym (append_assoc done ((a || b) ∷ []) (either_marked (drop (n + 1) first) (drop (n + 1) second)))

-- one that is marked in the first
either_first : (first second : List Bool) (n : ℕ) → length first ≡ length second → slice_get first n ≡ Some true → slice_get (either_marked first second) n ≡ Some true
either_first [] second n e h = absurd (cc)
either_first (a ∷ first) [] n e h = absurd (cc)
either_first (a ∷ first) (b ∷ second) zero e h = let is : a ≡ true = cc in ap (λ (c : Bool). Some (c || b)) is
either_first (a ∷ first) (b ∷ second) (suc n) e h = either_first first second n (omega (arith, e)) h

-- one that is marked in the second
either_second : (first second : List Bool) (n : ℕ) → length first ≡ length second → slice_get second n ≡ Some true → slice_get (either_marked first second) n ≡ Some true
either_second [] [] n e h = absurd (cc)
either_second [] (b ∷ second) n e h = absurd (cc)
either_second (a ∷ first) [] n e h = absurd (cc)
either_second (a ∷ first) (b ∷ second) zero e h = let is : b ≡ true = cc in ap (λ (c : Bool). Some (a || c)) is ∙ or_true a where
  or_true : (c : Bool) → Some (c || true) ≡ Some true
  or_true true = refl
  or_true false = refl
either_second (a ∷ first) (b ∷ second) (suc n) e h = either_second first second n (omega (arith, e)) h

-- one that is marked in both is in one of them
either_of : (first second : List Bool) (n : ℕ) → slice_get (either_marked first second) n ≡ Some true → (b : Bool) → slice_get first n ≡ Some b → (b ≡ true → ⊥) → slice_get second n ≡ Some true
either_of [] second n h b f unset = absurd (cc)
either_of (x ∷ first) [] n h b f unset = absurd (cc)
either_of (x ∷ first) (y ∷ second) zero h b f unset = by_bit x y h b f unset where
  by_bit : (x y : Bool) → Some (x || y) ≡ Some true → (b : Bool) → Some x ≡ Some b → (b ≡ true → ⊥) → Some y ≡ Some true
  by_bit true y h b f unset = absurd (unset (let e : true ≡ b = cc in sym e))
  by_bit false y h b f unset = h
either_of (x ∷ first) (y ∷ second) (suc n) h b f unset = either_of first second n h b f unset

-- a list of both has no mark where the first has none
none_there : (first second : List Bool) (n : ℕ) → slice_get first n ≡ None → slice_get (either_marked first second) n ≡ Some true → ⊥
none_there [] second n is h = cc
none_there (a ∷ first) [] n is h = cc
none_there (a ∷ first) (b ∷ second) zero is h = cc
none_there (a ∷ first) (b ∷ second) (suc n) is h = none_there first second n is h

-- with each that is marked in one of two lists the one in which it is declared is marked, where that is so in each
pub either_scopes : (nodes : List Node) (first second : List Bool) → length first ≡ length second → HoldScopes nodes first → HoldScopes nodes second → HoldScopes nodes (either_marked first second)
either_scopes nodes first second e holds also n node mark there p scope s l at path =
    by_mark (slice_get first n) refl
  where
    within : p < length first
    within = let long = either_length first second e in omega (arith, l, long)

    by_mark : (m : Option Bool) → slice_get first n ≡ m → slice_get (either_marked first second) p ≡ Some true
    by_mark (Some true) is = either_first first second p e (holds n node is there p scope s within at path)
    by_mark (Some false) is =
        let other : slice_get second n ≡ Some true = either_of first second n mark false is (λ h. let other : false ≡ true = h in cc) in
        either_second first second p e (also n node other there p scope s (omega (arith, within, e)) at path)
    by_mark None is = absurd (none_there first second n is mark)

-- ---- what is learned

-- what is listed is as much as the objects
pub listed_long : (tree : Tree) (u : Member) (listed : List Bool) → listed ≡ listed_marks tree u tree.nodes → length listed ≡ length tree.nodes
listed_long tree u listed are = ap length are ∙ length-map tree.nodes (is_listed tree u)

module _ (tree : Tree) (u : Member) (known listed now : List Bool) (are : listed ≡ listed_marks tree u tree.nodes) (long : length known ≡ length tree.nodes) (is : now ≡ either_marked known listed) where
  -- as long as what is listed
  as_long : length known ≡ length listed
  as_long = long ∙ sym (listed_long tree u listed are)

  -- what is known after it is as much
  pub learned_long : length now ≡ length tree.nodes
  learned_long = ap length is ∙ either_length known listed as_long ∙ long

  -- with their scopes
  pub learned_scopes : HoldScopes tree.nodes known → HoldScopes tree.nodes now
  learned_scopes holds =
      subst (HoldScopes tree.nodes) (sym is)
      (either_scopes tree.nodes known listed as_long holds (subst (HoldScopes tree.nodes) (sym are) (listed_scopes tree u)))

  -- it is what was known or is listed
  pub learned_is : now ≡ known_also tree u known tree.nodes
  learned_is = is ∙ ap (either_marked known) are ∙ known_also_is tree u known tree.nodes
