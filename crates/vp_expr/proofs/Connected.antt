-- The first connection to a port is the first of two: of those that name the port, and of that at its position.
use Rattle.std.proofs.Common.{◌≡◌, ℕ, zero, suc, ◌+◌, ◌<◌, ◌≤◌, ◌==◌, ◌&&◌, min, Bool, true, false, cond, List, [], ◌∷◌, length, slice_get, Option, Some, None, refl, sym, ap, ◌∙◌, arith}
use Rattle.std.specs.Prelude.{not, nat_lt, unwrap_or}
use Rattle.std.specs.List.{position, position_or_len}
use Rattle.std.specs.Option.{option_map_or}
use Rattle.std.specs.Str.{bytes_eq}
use Rattle.std.proofs.lemmas.Bool.{eq-eqb, eqb-true, ltb-false}
use Rattle.vp_source.specs.Places.{word_at}
use Rattle.vp_source.specs.declared.source.Connection.{Connection}
use Rattle.vp_source.specs.declared.source.Source.{Source}
use Rattle.vp_expr.specs.Origins.{connected, names_port, place_of_port}

-- there is no name
abbrev is_blank : Option ℕ → Bool
is_blank None = true
is_blank (Some p) = false

-- the place of the first connection, after so many, that is to the port of an index by its position; how many there are, where there
-- is none
abbrev place_from : ℕ → ℕ → List Connection → ℕ
place_from index before [] = 0
place_from index before (c ∷ cs) = cond (is_blank c.port && (before == index)) 0 (1 + place_from index (before + 1) cs)

-- ---- the place by position

after_by : (index before : ℕ) (o : Option ℕ) (n : ℕ) (b : Bool) → (before == index) ≡ b → index < before → cond (is_blank o && (before == index)) 0 (1 + n) ≡ 1 + n
after_by index before (Some p) n b e l = refl
after_by index before None n true e l = let same : before ≡ index = eqb-true before index e in absurd (omega arith)
after_by index before None n false e l = ap (λ (x : Bool). cond x 0 (1 + n)) e

-- after its index none is
following : (index before : ℕ) (cs : List Connection) → index < before → place_from index before cs ≡ length cs
following index before [] l = refl
following index before (c ∷ cs) l =
    let rest : place_from index (before + 1) cs ≡ length cs = following index (before + 1) cs (omega arith) in
    after_by index before c.port (place_from index (before + 1) cs) (before == index) refl l ∙ ap (λ (n : ℕ). 1 + n) rest ∙ omega arith

here_by : (index before : ℕ) (o : Option ℕ) (n m : ℕ) → n ≡ m → (before == index) ≡ true → cond (is_blank o && (before == index)) 0 (1 + n) ≡ option_map_or (λ (p : ℕ). suc m) o 0
here_by index before None n m e t = ap (λ (b : Bool). cond b 0 (1 + n)) t
here_by index before (Some p) n m e t = omega arith

shift_port : (o : Option ℕ) (n k : ℕ) → 1 + option_map_or (λ (p : ℕ). n) o k ≡ option_map_or (λ (p : ℕ). suc n) o (suc k)
shift_port None n k = omega arith
shift_port (Some p) n k = omega arith

shift_place : (o : Option Connection) (n k : ℕ) → 1 + option_map_or (λ (c : Connection). option_map_or (λ (p : ℕ). n) c.port k) o n ≡ option_map_or (λ (c : Connection). option_map_or (λ (p : ℕ). suc n) c.port (suc k)) o (suc n)
shift_place None n k = omega arith
shift_place (Some c) n k = shift_port c.port n k

before_by : (index before k : ℕ) (o : Option ℕ) (n : ℕ) (b : Bool) → (before == index) ≡ b → before + suc k ≡ index → cond (is_blank o && (before == index)) 0 (1 + n) ≡ 1 + n
before_by index before k (Some p) n b e l = refl
before_by index before k None n true e l = let same : before ≡ index = eqb-true before index e in absurd (omega arith)
before_by index before k None n false e l = ap (λ (x : Bool). cond x 0 (1 + n)) e

-- the place is at the index
place_is : (index before k : ℕ) (cs : List Connection) → before + k ≡ index → place_from index before cs ≡ place_of_port cs k
place_is index before k [] e = refl
place_is index before zero (c ∷ cs) e =
    let same : before ≡ index = omega arith in
    here_by index before c.port (place_from index (before + 1) cs) (length cs) (following index (before + 1) cs (omega arith)) (eq-eqb before index same)
place_is index before (suc k) (c ∷ cs) e =
    before_by index before k c.port (place_from index (before + 1) cs) (before == index) refl e
    ∙ ap (λ (n : ℕ). 1 + n) (place_is index (before + 1) k cs (omega arith))
    ∙ shift_place (slice_get cs k) (length cs) k

-- ---- the first of the two

module _ (source : Source) (index : ℕ) (name : List ℕ) where
  by_place : (b : Bool) (c : Connection) (cs : List Connection) (rest : Option Connection) (m n : ℕ) → rest ≡ slice_get cs (min m n) → cond b (Some c) rest ≡ slice_get (c ∷ cs) (min (1 + m) (cond b 0 (1 + n)))
  by_place true c cs rest m n h = let first : 0 ≡ min (1 + m) 0 = omega arith in ap (slice_get (c ∷ cs)) first
  by_place false c cs rest m n h = let later : suc (min m n) ≡ min (1 + m) (1 + n) = omega arith in h ∙ ap (slice_get (c ∷ cs)) later

  by_name : (b : Bool) (c : Connection) (cs : List Connection) (rest : Option Connection) (m n : ℕ) → rest ≡ slice_get cs (min m n) → cond b (Some c) rest ≡ slice_get (c ∷ cs) (min (cond (not b) (1 + m) 0) (1 + n))
  by_name true c cs rest m n h = let first : 0 ≡ min 0 (1 + n) = omega arith in ap (slice_get (c ∷ cs)) first
  by_name false c cs rest m n h = let later : suc (min m n) ≡ min (1 + m) (1 + n) = omega arith in h ∙ ap (slice_get (c ∷ cs)) later

  by_port :
      (before : ℕ) (o : Option ℕ) (c : Connection) (cs : List Connection) (rest : Option Connection) (m n : ℕ) → rest ≡ slice_get cs (min m n)
      → cond (option_map_or (λ place. bytes_eq name (word_at source place)) o (before == index)) (Some c) rest
      ≡ slice_get (c ∷ cs) (min (cond (not (option_map_or (λ place. bytes_eq name (word_at source place)) o false)) (1 + m) 0) (cond (is_blank o && (before == index)) 0 (1 + n)))
  by_port before None c cs rest m n h = by_place (before == index) c cs rest m n h
  by_port before (Some p) c cs rest m n h = by_name (bytes_eq name (word_at source p)) c cs rest m n h

  first_of_both : (before : ℕ) (cs : List Connection) → connected source index name before cs ≡ slice_get cs (min (position_or_len (names_port source name) cs) (place_from index before cs))
  first_of_both before [] = refl
  first_of_both before (c ∷ cs) =
      by_port before c.port c cs (connected source index name (before + 1) cs) (position_or_len (names_port source name) cs) (place_from index (before + 1) cs)
      (first_of_both (before + 1) cs)

-- ---- of what the code has

long_by : {X : Type 0} (p : X → Bool) (b : Bool) (xs : List X) (n : ℕ) → n ≤ length xs → cond (not b) (1 + n) 0 ≤ suc (length xs)
long_by p true xs n l = omega arith
long_by p false xs n l = omega arith

not_long : {X : Type 0} (p : X → Bool) (xs : List X) → position_or_len p xs ≤ length xs
not_long p [] = omega arith
not_long p (x ∷ xs) = long_by p (p x) xs (position_or_len p xs) (not_long p xs)

or_len_by : (b : Bool) (n l : ℕ) → nat_lt n l ≡ b → n ≤ l → unwrap_or (cond b (Some n) None) l ≡ n
or_len_by true n l e h = refl
or_len_by false n l e h = let past : l ≤ n = ltb-false n l e in omega arith

-- the place of the first that passes, or else how many there are
or_len : {X : Type 0} (p : X → Bool) (xs : List X) → unwrap_or (position p xs) (length xs) ≡ position_or_len p xs
or_len p xs = or_len_by (nat_lt (position_or_len p xs) (length xs)) (position_or_len p xs) (length xs) refl (not_long p xs)

-- the first connection to a port, by the place of the first that names it and the place by position
pub connected_is :
    (source : Source) (index : ℕ) (name : List ℕ) (cs : List Connection)
    → slice_get cs (min (unwrap_or (position (names_port source name) cs) (length cs)) (place_of_port cs index)) ≡ connected source index name 0 cs
connected_is source index name cs =
    ap (λ (n : ℕ). slice_get cs (min n (place_of_port cs index))) (or_len (names_port source name) cs)
    ∙ ap (λ (n : ℕ). slice_get cs (min (position_or_len (names_port source name) cs) n)) (sym (place_is index 0 index cs (omega arith)))
    ∙ sym (first_of_both source index name 0 cs)
