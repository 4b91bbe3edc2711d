-- Names, step by step from the end of a path.
use Rattle.std.proofs.Common.{◌≡◌, ◌∙◌, ℕ, List, [], ◌∷◌, ◌++◌, map, Option, Some, None, Bool, true, false, refl, sym, ap}
use Rattle.std.specs.Prelude.{◌==◌, ◌&&◌, if◌then◌else◌, nat_eq, not}
use Rattle.std.specs.Option.{option_eq}
use Rattle.std.specs.Str.{bytes_eq}
use Rattle.std.proofs.Math.Bool.{and-true, and-false, and_assoc}
use Rattle.std.proofs.lemmas.Bool.{eqb-true}
use Rattle.std.proofs.lemmas.List.{map-append}
use Rattle.std.proofs.lemmas.Slice.Eq.{bytes_eq-Decides}
use Rattle.vp_policy.specs.View.{SeenStep}
use Rattle.vp_replay.specs.Seen.{is_in_seen, is_named_seen, last_name}

-- ---- paths

-- the names of a path
abbrev pub names_of : List SeenStep → List (List ℕ)
names_of path = map (λ s. s.name) path

longer : (m n : List ℕ) (t s : SeenStep) (path : List SeenStep) → is_named_seen (m ∷ []) (t ∷ (path ++ s ∷ [])) ≡ false
longer m n t s [] = and-false (bytes_eq m t.name)
longer m n t s (u ∷ path) = and-false (bytes_eq m t.name)

shorter : (m n : List ℕ) (s : SeenStep) (names : List (List ℕ)) → is_named_seen (m ∷ (names ++ n ∷ [])) (s ∷ []) ≡ false
shorter m n s [] = and-false (bytes_eq m s.name)
shorter m n s (k ∷ names) = and-false (bytes_eq m s.name)

-- a name more, and a step more
named_end : (names : List (List ℕ)) (n : List ℕ) (path : List SeenStep) (s : SeenStep) → is_named_seen (names ++ n ∷ []) (path ++ s ∷ []) ≡ (is_named_seen names path && bytes_eq n s.name)
named_end [] n [] s = and-true (bytes_eq n s.name)
named_end [] n (t ∷ path) s = longer n n t s path
named_end (m ∷ names) n [] s = shorter m n s names
named_end (m ∷ names) n (t ∷ path) s =
    ap (λ b. bytes_eq m t.name && b) (named_end names n path s) ∙ sym (and_assoc (bytes_eq m t.name) (is_named_seen names path) (bytes_eq n s.name))

-- a name more than none
pub named_none : (names : List (List ℕ)) (n : List ℕ) → is_named_seen (names ++ n ∷ []) [] ≡ false
named_none [] n = refl
named_none (m ∷ names) n = refl

-- with a step of this name
pub name_same : (names : List (List ℕ)) (n : List ℕ) (path above : List SeenStep) (s : SeenStep) → path ≡ above ++ s ∷ [] → bytes_eq n s.name ≡ true
    → is_named_seen names above ≡ is_named_seen (names ++ n ∷ []) path
name_same names n path above s is same =
    sym (ap (is_named_seen (names ++ n ∷ [])) is ∙ named_end names n above s ∙ ap (λ b. is_named_seen names above && b) same ∙ and-true (is_named_seen names above))

-- with a step of another
pub name_other : (names : List (List ℕ)) (n : List ℕ) (path above : List SeenStep) (s : SeenStep) → path ≡ above ++ s ∷ [] → bytes_eq n s.name ≡ false
    → false ≡ is_named_seen (names ++ n ∷ []) path
name_other names n path above s is differs =
    sym (ap (is_named_seen (names ++ n ∷ [])) is ∙ named_end names n above s ∙ ap (λ b. is_named_seen names above && b) differs ∙ and-false (is_named_seen names above))

-- a path has its own names
pub named_self : (path : List SeenStep) → is_named_seen (names_of path) path ≡ true
named_self [] = refl
named_self (s ∷ path) = ap (λ b. b && is_named_seen (names_of path) path) ((bytes_eq-Decides s.name s.name).1 refl) ∙ named_self path

not_in_none : (names : List (List ℕ)) → is_in_seen names [] ≡ false
not_in_none [] = refl
not_in_none (n ∷ names) = refl

if_and : (a b c : Bool) → c ≡ b → (if a then c else false) ≡ (a && b)
if_and true b c h = h
if_and false b c h = refl

if_none : (a c : Bool) → c ≡ false → (if a then c else false) ≡ false
if_none true c h = h
if_none false c h = refl

not_above : (t s : SeenStep) (path : List SeenStep) → is_in_seen [] (t ∷ (path ++ s ∷ [])) ≡ false
not_above t s [] = refl
not_above t s (u ∷ path) = refl

-- an object stands in the scope of the names of the steps above its own
pub in_end : (names : List (List ℕ)) (path : List SeenStep) (s : SeenStep) → is_in_seen names (path ++ s ∷ []) ≡ is_named_seen names path
in_end [] [] s = refl
in_end [] (t ∷ path) s = not_above t s path
in_end (n ∷ names) [] s = if_none (bytes_eq n s.name) (is_in_seen names []) (not_in_none names)
in_end (n ∷ names) (t ∷ path) s = if_and (bytes_eq n t.name) (is_named_seen names path) (is_in_seen names (path ++ s ∷ [])) (in_end names path s)

-- where no step leads there, it stands in none
pub in_none : (names : List (List ℕ)) (path : List SeenStep) → path ≡ [] → is_in_seen names path ≡ false
in_none names path none = ap (is_in_seen names) none ∙ not_in_none names

names_end : (path above : List SeenStep) (s : SeenStep) → path ≡ above ++ s ∷ [] → names_of path ≡ names_of above ++ s.name ∷ []
names_end path above s is = ap names_of is ∙ map-append (λ (t : SeenStep). t.name) above (s ∷ [])

last_after : (t s : SeenStep) (above : List SeenStep) → last_name (names_of (t ∷ (above ++ s ∷ []))) ≡ s.name
last_after t s [] = refl
last_after t s (u ∷ above) = last_after u s above

last_end : (above : List SeenStep) (s : SeenStep) → last_name (names_of (above ++ s ∷ [])) ≡ s.name
last_end [] s = refl
last_end (t ∷ above) s = last_after t s above

-- the last name is that of the last step
pub last_is : (path above : List SeenStep) (s : SeenStep) → path ≡ above ++ s ∷ [] → last_name (names_of path) ≡ s.name
last_is path above s is = ap (λ steps. last_name (names_of steps)) is ∙ last_end above s

-- ---- what is compared

twice_not : (b : Bool) → not (not b) ≡ b
twice_not true = refl
twice_not false = refl

-- names differ, or not, as the texts do that are compared
pub compared : (x y m n : List ℕ) (differ b : Bool) → x ≡ m → y ≡ n → differ ≡ not (bytes_eq x y) → differ ≡ b → bytes_eq m n ≡ not b
compared x y m n differ b first second is told =
    ap (λ z. bytes_eq z n) (sym first) ∙ ap (bytes_eq x) (sym second) ∙ sym (twice_not (bytes_eq x y)) ∙ ap not (sym is ∙ told)

same_by : (x y : ℕ) → not (x == y) ≡ false → ◌≡◌ {A = Option ℕ} (Some y) (Some x)
same_by x y h = ap Some (sym (eqb-true x y (sym (twice_not (x == y)) ∙ ap not h)))

-- numbers that do not differ are the same
pub same_number : (a b : Option ℕ) (differ : Bool) → differ ≡ not (option_eq nat_eq a b) → differ ≡ false → b ≡ a
same_number None None differ is told = refl
same_number None (Some y) differ is told = absurd cc
same_number (Some x) None differ is told = absurd cc
same_number (Some x) (Some y) differ is told = same_by x y (sym is ∙ told)

-- ---- two paths

module _ (first second : List SeenStep) where
  -- both end in a step
  both_end : (above beside : List SeenStep) (one other : SeenStep) → first ≡ above ++ one ∷ [] → second ≡ beside ++ other ∷ []
      → is_named_seen (names_of first) second ≡ (is_named_seen (names_of above) beside && bytes_eq one.name other.name)
  both_end above beside one other at there =
      ap (λ ns. is_named_seen ns second) (names_end first above one at) ∙ ap (is_named_seen (names_of above ++ one.name ∷ [])) there
      ∙ named_end (names_of above) one.name beside other

  -- in steps of one name
  pub same_end : (above beside : List SeenStep) (one other : SeenStep) → first ≡ above ++ one ∷ [] → second ≡ beside ++ other ∷ [] → bytes_eq one.name other.name ≡ true
      → is_named_seen (names_of above) beside ≡ is_named_seen (names_of first) second
  same_end above beside one other at there same =
      sym (both_end above beside one other at there ∙ ap (λ b. is_named_seen (names_of above) beside && b) same ∙ and-true (is_named_seen (names_of above) beside))

  -- in steps of two names
  pub other_end : (above beside : List SeenStep) (one other : SeenStep) → first ≡ above ++ one ∷ [] → second ≡ beside ++ other ∷ [] → bytes_eq one.name other.name ≡ false
      → false ≡ is_named_seen (names_of first) second
  other_end above beside one other at there differs =
      sym (both_end above beside one other at there ∙ ap (λ b. is_named_seen (names_of above) beside && b) differs ∙ and-false (is_named_seen (names_of above) beside))

  -- only the first does
  pub first_longer : (above : List SeenStep) (one : SeenStep) → first ≡ above ++ one ∷ [] → second ≡ [] → false ≡ is_named_seen (names_of first) second
  first_longer above one at none =
      sym (ap (λ ns. is_named_seen ns second) (names_end first above one at) ∙ ap (is_named_seen (names_of above ++ one.name ∷ [])) none ∙ named_none (names_of above) one.name)
