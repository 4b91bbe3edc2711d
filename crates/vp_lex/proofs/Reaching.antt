-- Runs and base parts: what is computed after a first byte is the longest that may stand there.
use Rattle.std.proofs.Common.{◌≡◌, ℕ, suc, ◌+◌, Bool, true, false, cond, List, [], ◌∷◌, ◌++◌, take, Option, Some, None, Result, Ok, Err, refl, sym, ◌∙◌, ap, subst, arith}
use Rattle.std.specs.Prelude.{option_map}
use Rattle.std.proofs.lemmas.Bool.{and_parts}
use Rattle.std.specs.List.{prefix_len, list_all, take_while}
use Rattle.vp_lex.specs.declared.piece.Base.{Base}
use Rattle.vp_lex.specs.declared.piece.Fault.{Fault}
use Rattle.vp_lex.specs.declared.piece.Fault.TheVariants.{BadCharacter}
use Rattle.vp_lex.specs.Bytes.{is_space, is_sign, base_of, is_digit, goes_on_digits}
use Rattle.vp_lex.specs.Pieces.{is_run, after_space, are_digits, ends_digits, ends_based, ends_base_part}
use Rattle.vp_lex.specs.Cutting.{run_front, or_bad, after_byte, digits_front, any_digits_front, based_front, base_front}
use Rattle.vp_lex.proofs.Fronts.{Reaches, reaches_more, reaches_begun}

-- a test that gave true, or false
pub on_test : (P : Type 0) (test : Bool) → (test ≡ true → P) → (test ≡ false → P) → P
on_test P true here there = here refl
on_test P false here there = there refl

-- ---- runs

run_at : (begins goes_on : ℕ → Bool) (b : ℕ) (bytes tail : List ℕ) (test : Bool) → begins b ≡ test → cond test (Some (b ∷ take_while goes_on bytes)) None ≡ Some tail → Reaches (is_run begins goes_on) (b ∷ bytes) tail
run_at begins goes_on b bytes tail true e h =
    let same : b ∷ take_while goes_on bytes ≡ tail = cc in
    subst (λ (x : List ℕ). Reaches (is_run begins goes_on) (b ∷ bytes) x) same (reaches_begun begins goes_on b bytes e)
run_at begins goes_on b bytes tail false e h = absurd cc

pub reaches_run_front : (begins goes_on : ℕ → Bool) (bytes tail : List ℕ) → run_front begins goes_on bytes ≡ Some tail → Reaches (is_run begins goes_on) bytes tail
reaches_run_front begins goes_on [] tail h = absurd cc
reaches_run_front begins goes_on (b ∷ bytes) tail h = run_at begins goes_on b bytes tail (begins b) refl h

-- ---- base parts

abbrev pub spaced_digits : Base → List ℕ → Bool
spaced_digits base bytes = are_digits base (after_space bytes)

one_more : (n : ℕ) → 1 + n ≡ suc n
one_more n = omega arith

pub after_space-yes : (b : ℕ) (bytes : List ℕ) → is_space b ≡ true → after_space (b ∷ bytes) ≡ after_space bytes
after_space-yes b bytes e = rw (e, one_more (prefix_len is_space bytes)) refl

pub after_space-no : (b : ℕ) (bytes : List ℕ) → is_space b ≡ false → after_space (b ∷ bytes) ≡ b ∷ bytes
after_space-no b bytes e = rw e refl

pub digits_yes : (base : Base) (b : ℕ) (bytes : List ℕ) → is_space b ≡ true → digits_front base (b ∷ bytes) ≡ option_map (λ digits. b ∷ (take (prefix_len is_space bytes) bytes ++ digits)) (run_front (is_digit base) (goes_on_digits base) (after_space bytes))
digits_yes base b bytes e = rw (e, one_more (prefix_len is_space bytes)) refl

map_own : (o : Option (List ℕ)) → option_map (λ digits. digits) o ≡ o
map_own None = refl
map_own (Some x) = refl

pub digits_no : (base : Base) (b : ℕ) (bytes : List ℕ) → is_space b ≡ false → digits_front base (b ∷ bytes) ≡ run_front (is_digit base) (goes_on_digits base) (b ∷ bytes)
digits_no base b bytes e = rw e (map_own (run_front (is_digit base) (goes_on_digits base) (b ∷ bytes)))

one_front : (b : ℕ) (f : List ℕ → List ℕ) (o : Option (List ℕ)) (tail : List ℕ) → option_map (λ x. b ∷ f x) o ≡ Some tail → (t : List ℕ) × (option_map f o ≡ Some t) × (b ∷ t ≡ tail)
one_front b f None tail h = absurd cc
one_front b f (Some x) tail h = (f x, refl, cc)

digits_nothing : (base : Base) (b : ℕ) (bytes x : List ℕ) → is_space b ≡ false → spaced_digits base (b ∷ x) ≡ are_digits base (b ∷ x)
digits_nothing base b bytes x e = ap (are_digits base) (after_space-no b x e)

-- the same bytes reach by a test that agrees on what begins with their first byte
reaches_by : (test other : List ℕ → Bool) (b : ℕ) (bytes tail : List ℕ) → other [] ≡ false → ((x : List ℕ) → other (b ∷ x) ≡ test (b ∷ x)) → Reaches test (b ∷ bytes) (b ∷ tail) → Reaches other (b ∷ bytes) (b ∷ tail)
reaches_by test other b bytes tail empty same h = reaches_more (λ x. test (b ∷ x)) other b bytes tail same (record {
  rest = h.rest;
  splits = let e = h.splits in cc;
  passes = h.passes;
  longest = λ t following e passes. let le = h.longest (b ∷ t) following (ap (λ (x : List ℕ). b ∷ x) e) passes in omega arith;
})

digits_begun : (base : Base) (b : ℕ) (bytes tail : List ℕ) (test : Bool) → is_space b ≡ false → is_digit base b ≡ test → cond test (Some (b ∷ take_while (goes_on_digits base) bytes)) None ≡ Some tail → Reaches (spaced_digits base) (b ∷ bytes) tail
digits_begun base b bytes tail true apart e h =
    let same : b ∷ take_while (goes_on_digits base) bytes ≡ tail = cc in
    subst (λ (x : List ℕ). Reaches (spaced_digits base) (b ∷ bytes) x) same
    (reaches_by (are_digits base) (spaced_digits base) b bytes (take_while (goes_on_digits base) bytes) refl (λ x. digits_nothing base b bytes x apart) (reaches_begun (is_digit base) (goes_on_digits base) b bytes e))
digits_begun base b bytes tail false apart e h = absurd cc

pub reaches_digits : (base : Base) (bytes tail : List ℕ) → digits_front base bytes ≡ Some tail → Reaches (spaced_digits base) bytes tail
reaches_digits base [] tail h = absurd cc
reaches_digits base (b ∷ bytes) tail h =
    on_test (Reaches (spaced_digits base) (b ∷ bytes) tail) (is_space b)
    (λ e.
    let f = one_front b (λ digits. take (prefix_len is_space bytes) bytes ++ digits) (run_front (is_digit base) (goes_on_digits base) (after_space bytes)) tail (sym (digits_yes base b bytes e) ∙ h) in
    subst (λ (x : List ℕ). Reaches (spaced_digits base) (b ∷ bytes) x) f.2
    (reaches_more (spaced_digits base) (spaced_digits base) b bytes f.0 (λ x. ap (are_digits base) (after_space-yes b x e)) (reaches_digits base bytes f.0 f.1)))
    (λ e. digits_begun base b bytes tail (is_digit base b) e refl (sym (digits_no base b bytes e) ∙ h))

one_after : (b : ℕ) (r : Result (List ℕ) Fault) (tail : List ℕ) → after_byte b r ≡ Ok tail → (t : List ℕ) × (r ≡ Ok t) × (b ∷ t ≡ tail)
one_after b (Err fault) tail h = absurd cc
one_after b (Ok x) tail h = (x, refl, cc)

any_digits : (o : Option Base) (bytes tail : List ℕ) → any_digits_front o bytes ≡ Ok tail → Reaches (ends_digits o) bytes tail
any_digits None bytes tail h = absurd cc
any_digits (Some base) bytes tail h = reaches_digits base bytes tail (found_of (digits_front base bytes) tail h)
  where
    found_of : (o : Option (List ℕ)) (tail : List ℕ) → or_bad o ≡ Ok tail → o ≡ Some tail
    found_of None tail h = absurd cc
    found_of (Some x) tail h = let same : x ≡ tail = cc in ap (λ (y : List ℕ). (let o : Option (List ℕ) = Some y in o)) same

reaches_based : (b : ℕ) (bytes tail : List ℕ) → based_front (b ∷ bytes) ≡ Ok tail → (t : List ℕ) × (b ∷ t ≡ tail) × Reaches ends_based (b ∷ bytes) (b ∷ t)
reaches_based b bytes tail h =
    let f = one_after b (any_digits_front (base_of b) bytes) tail h in
    (f.0, f.2, reaches_more (ends_digits (base_of b)) ends_based b bytes f.0 (λ x. refl) (any_digits (base_of b) bytes f.0 f.1))

reaches_signed : (b : ℕ) (bytes t : List ℕ) → is_sign b ≡ true → based_front bytes ≡ Ok t → Reaches ends_base_part (b ∷ bytes) (b ∷ t)
reaches_signed b [] t s h = absurd cc
reaches_signed b (c ∷ bytes) t s h =
    let f = reaches_based c bytes t h in
    let same : (x : List ℕ) → ends_base_part (b ∷ x) ≡ ends_based x = λ x. ap (λ (v : Bool). cond v (ends_based x) (ends_based (b ∷ x))) s in
    reaches_more ends_based ends_base_part b (c ∷ bytes) t same (subst (λ (x : List ℕ). Reaches ends_based (c ∷ bytes) x) f.1 f.2)

base_at : (b : ℕ) (bytes tail : List ℕ) (test : Bool) → is_sign b ≡ test → cond test (after_byte b (based_front bytes)) (based_front (b ∷ bytes)) ≡ Ok tail → Reaches ends_base_part (b ∷ bytes) tail
base_at b bytes tail true s h =
    let f = one_after b (based_front bytes) tail h in
    subst (λ (x : List ℕ). Reaches ends_base_part (b ∷ bytes) x) f.2 (reaches_signed b bytes f.0 s f.1)
base_at b bytes tail false s h =
    let f = reaches_based b bytes tail h in
    let same : (x : List ℕ) → ends_base_part (b ∷ x) ≡ ends_based (b ∷ x) = λ x. ap (λ (v : Bool). cond v (ends_based x) (ends_based (b ∷ x))) s in
    subst (λ (x : List ℕ). Reaches ends_base_part (b ∷ bytes) x) f.1 (reaches_by ends_based ends_base_part b bytes f.0 refl same f.2)

pub reaches_base : (bytes tail : List ℕ) → base_front bytes ≡ Ok tail → Reaches ends_base_part bytes tail
reaches_base [] tail h = absurd cc
reaches_base (b ∷ bytes) tail h = base_at b bytes tail (is_sign b) refl h

-- ---- what ends as it should is found

pub run_found : (begins goes_on : ℕ → Bool) (tail rest : List ℕ) → is_run begins goes_on tail ≡ true → (found : List ℕ) × (run_front begins goes_on (tail ++ rest) ≡ Some found)
run_found begins goes_on [] rest h = absurd cc
run_found begins goes_on (b ∷ tail) rest h =
    let e : begins b ≡ true = (and_parts (begins b) (list_all goes_on tail) h).0 in
    (b ∷ take_while goes_on (tail ++ rest), rw e refl)

map_more : (b : ℕ) (f : List ℕ → List ℕ) (o : Option (List ℕ)) (found : List ℕ) → option_map f o ≡ Some found → option_map (λ x. b ∷ f x) o ≡ Some (b ∷ found)
map_more b f None found h = absurd cc
map_more b f (Some x) found h = let e : f x ≡ found = cc in ap (λ (y : List ℕ). (let o : Option (List ℕ) = Some (b ∷ y) in o)) e

digits_found : (base : Base) (tail rest : List ℕ) → spaced_digits base tail ≡ true → (found : List ℕ) × (digits_front base (tail ++ rest) ≡ Some found)
digits_found base [] rest h = absurd cc
digits_found base (b ∷ tail) rest h =
    on_test ((found : List ℕ) × (digits_front base (b ∷ (tail ++ rest)) ≡ Some found)) (is_space b)
    (λ e.
    let f = digits_found base tail rest (ap (is_run (is_digit base) (goes_on_digits base)) (sym (after_space-yes b tail e)) ∙ h) in
    let bytes : List ℕ = tail ++ rest in
    (b ∷ f.0, digits_yes base b bytes e ∙ map_more b (λ digits. take (prefix_len is_space bytes) bytes ++ digits) (run_front (is_digit base) (goes_on_digits base) (after_space bytes)) f.0 f.1))
    (λ e.
    let f = run_found (is_digit base) (goes_on_digits base) (b ∷ tail) rest (ap (is_run (is_digit base) (goes_on_digits base)) (sym (after_space-no b tail e)) ∙ h) in
    (f.0, digits_no base b (tail ++ rest) e ∙ f.1))

any_digits_there : (o : Option Base) (tail rest : List ℕ) → ends_digits o tail ≡ true → (found : List ℕ) × (any_digits_front o (tail ++ rest) ≡ Ok found)
any_digits_there None tail rest h = absurd cc
any_digits_there (Some base) tail rest h = let f = digits_found base tail rest h in (f.0, ap or_bad f.1)

based_there : (tail rest : List ℕ) → ends_based tail ≡ true → (found : List ℕ) × (based_front (tail ++ rest) ≡ Ok found)
based_there [] rest h = absurd cc
based_there (b ∷ tail) rest h = let f = any_digits_there (base_of b) tail rest h in (b ∷ f.0, ap (after_byte b) f.1)

base_there_at : (b : ℕ) (tail rest : List ℕ) (test : Bool) → cond test (ends_based tail) (ends_based (b ∷ tail)) ≡ true → (found : List ℕ) × (cond test (after_byte b (based_front (tail ++ rest))) (based_front (b ∷ (tail ++ rest))) ≡ Ok found)
base_there_at b tail rest true h = let f = based_there tail rest h in (b ∷ f.0, ap (after_byte b) f.1)
base_there_at b tail rest false h = based_there (b ∷ tail) rest h

pub base_there : (tail rest : List ℕ) → ends_base_part tail ≡ true → (found : List ℕ) × (base_front (tail ++ rest) ≡ Ok found)
base_there [] rest h = absurd cc
base_there (b ∷ tail) rest h = base_there_at b tail rest (is_sign b) h

-- the fault of a base part
fault_after : (b : ℕ) (r : Result (List ℕ) Fault) (fault : Fault) → after_byte b r ≡ Err fault → r ≡ Err fault
fault_after b (Err other) fault h = h
fault_after b (Ok bytes) fault h = absurd cc

digits_fault : (o : Option (List ℕ)) (fault : Fault) → or_bad o ≡ Err fault → fault ≡ BadCharacter
digits_fault None fault h = let same : BadCharacter ≡ fault = cc in sym same
digits_fault (Some bytes) fault h = absurd cc

any_digits_fault : (o : Option Base) (bytes : List ℕ) (fault : Fault) → any_digits_front o bytes ≡ Err fault → fault ≡ BadCharacter
any_digits_fault None bytes fault h = let same : BadCharacter ≡ fault = cc in sym same
any_digits_fault (Some base) bytes fault h = digits_fault (digits_front base bytes) fault h

based_fault : (bytes : List ℕ) (fault : Fault) → based_front bytes ≡ Err fault → fault ≡ BadCharacter
based_fault [] fault h = let same : BadCharacter ≡ fault = cc in sym same
based_fault (b ∷ bytes) fault h = any_digits_fault (base_of b) bytes fault (fault_after b (any_digits_front (base_of b) bytes) fault h)

base_fault_at : (b : ℕ) (bytes : List ℕ) (fault : Fault) (test : Bool) → cond test (after_byte b (based_front bytes)) (based_front (b ∷ bytes)) ≡ Err fault → fault ≡ BadCharacter
base_fault_at b bytes fault true h = based_fault bytes fault (fault_after b (based_front bytes) fault h)
base_fault_at b bytes fault false h = based_fault (b ∷ bytes) fault h

pub base_fault : (bytes : List ℕ) (fault : Fault) → base_front bytes ≡ Err fault → fault ≡ BadCharacter
base_fault [] fault h = let same : BadCharacter ≡ fault = cc in sym same
base_fault (b ∷ bytes) fault h = base_fault_at b bytes fault (is_sign b) h
