-- The line and the column after more bytes.
use Rattle.std.proofs.Common.{◌≡◌, ℕ, ◌+◌, ◌-◌, ◌<◌, ◌≤◌, get_or, take, drop, Bool, true, false, cond, ◌&&◌, List, [], ◌∷◌, ◌++◌, length, refl, ◌∙◌, ap, arith}
use Rattle.std.specs.Prelude.{not, reverse, eqb, slice_range}
use Rattle.std.specs.List.{prefix_len, suffix_len, list_all, count_by}
use Rattle.std.proofs.lemmas.Bool.{and_parts, ne_eqb, eq-eqb}
use Rattle.std.proofs.lemmas.Grind.{reverse_onto}
use Rattle.std.proofs.lemmas.List.{length-reverse, reverse-append, take_more, length-take, length-drop, get_or-drop}
use Rattle.std.proofs.lemmas.List.Folds.{prefix_len-append, list_all-append}
use Rattle.std.proofs.lemmas.List.Sums.{sum_by-append, count_by-le-length}
use Rattle.vp_lex.specs.Bytes.{is_newline}
use Rattle.vp_lex.specs.Tokens.{line_after, column_after}

-- each newline is one more line
pub line_after-append : (before bytes : List ℕ) → line_after (before ++ bytes) ≡ line_after before + count_by is_newline bytes
line_after-append before bytes = omega (arith, sum_by-append (λ byte. cond (is_newline byte) 1 0) before bytes)

all_one : (p : ℕ → Bool) (b : ℕ) → list_all p (b ∷ []) ≡ p b
all_one p b = elim (p b) as (λ v. (v && true) ≡ v) [ true ↦ refl | false ↦ refl ]

both_swap : (x y : Bool) → (x && y) ≡ (y && x)
both_swap true true = refl
both_swap true false = refl
both_swap false true = refl
both_swap false false = refl

all_reversed : (p : ℕ → Bool) (bytes : List ℕ) → list_all p (reverse bytes) ≡ list_all p bytes
all_reversed p [] = refl
all_reversed p (b ∷ bytes) =
    ap (list_all p) (reverse_onto bytes b []) ∙ list_all-append p (reverse bytes) (b ∷ [])
    ∙ ap (λ (v : Bool). list_all p (reverse bytes) && v) (all_one p b)
    ∙ ap (λ (v : Bool). v && p b) (all_reversed p bytes) ∙ both_swap (list_all p bytes) (p b)

all_long : (p : ℕ → Bool) (bytes : List ℕ) → list_all p bytes ≡ true → prefix_len p bytes ≡ length bytes
all_long p [] h = refl
all_long p (b ∷ bytes) h =
    let parts = and_parts (p b) (list_all p bytes) h in
    let e : p b ≡ true = parts.0 in
    let more = all_long p bytes parts.1 in
    rw e (omega arith)

not_all_at : (p : ℕ → Bool) (b : ℕ) (bytes : List ℕ) (test : Bool) → (list_all p bytes ≡ false → prefix_len p bytes < length bytes) → (test && list_all p bytes) ≡ false → cond test (1 + prefix_len p bytes) 0 < length (b ∷ bytes)
not_all_at p b bytes true more h = let less = more h in omega arith
not_all_at p b bytes false more h = omega arith

not_all_long : (p : ℕ → Bool) (bytes : List ℕ) → list_all p bytes ≡ false → prefix_len p bytes < length bytes
not_all_long p [] h = absurd cc
not_all_long p (b ∷ bytes) h = not_all_at p b bytes (p b) (not_all_long p bytes) h

suffix_parts : (p : ℕ → Bool) (before bytes : List ℕ) → suffix_len p (before ++ bytes) ≡ cond (eqb (prefix_len p (reverse bytes)) (length (reverse bytes))) (length (reverse bytes) + suffix_len p before) (prefix_len p (reverse bytes))
suffix_parts p before bytes = ap (prefix_len p) (reverse-append before bytes) ∙ prefix_len-append p (reverse bytes) (reverse before)

-- on the same line, each byte is one more column
pub column_same_line : (before bytes : List ℕ) → list_all (λ byte. not (is_newline byte)) bytes ≡ true → column_after (before ++ bytes) ≡ column_after before + length bytes
column_same_line before bytes h =
    let p : ℕ → Bool = λ byte. not (is_newline byte) in
    let whole : prefix_len p (reverse bytes) ≡ length (reverse bytes) = all_long p (reverse bytes) (all_reversed p bytes ∙ h) in
    let parts = suffix_parts p before bytes ∙ ap (λ (v : Bool). cond v (length (reverse bytes) + suffix_len p before) (prefix_len p (reverse bytes))) (eq-eqb _ _ whole) in
    omega (arith, parts, length-reverse bytes)

-- after a newline, what stood before it no longer counts
pub column_new_line : (before bytes : List ℕ) → list_all (λ byte. not (is_newline byte)) bytes ≡ false → column_after (before ++ bytes) ≡ column_after bytes
column_new_line before bytes h =
    let p : ℕ → Bool = λ byte. not (is_newline byte) in
    let less : prefix_len p (reverse bytes) < length (reverse bytes) = not_all_long p (reverse bytes) (all_reversed p bytes ∙ h) in
    let apart : eqb (prefix_len p (reverse bytes)) (length (reverse bytes)) ≡ false = ne_eqb _ _ (λ e. omega arith) in
    let parts = suffix_parts p before bytes ∙ ap (λ (v : Bool). cond v (length (reverse bytes) + suffix_len p before) (prefix_len p (reverse bytes))) apart in
    omega (arith, parts)

-- ---- one byte more

line_by : (text : List ℕ) (at : ℕ) → at < length text → line_after (take (at + 1) text) ≡ line_after (take at text) + (0 + cond (is_newline (get_or text at 0)) 1 0)
line_by text at l = ap line_after (take_more text at 0 l) ∙ line_after-append (take at text) (get_or text at 0 ∷ [])

-- after a newline stands the next line
pub line_newline : (text : List ℕ) (at : ℕ) → at < length text → is_newline (get_or text at 0) ≡ true → line_after (take (at + 1) text) ≡ line_after (take at text) + 1
line_newline text at l e = let by = rw e at (line_by text at l) in omega arith

-- after another byte stands the same
pub line_other : (text : List ℕ) (at : ℕ) → at < length text → is_newline (get_or text at 0) ≡ false → line_after (take (at + 1) text) ≡ line_after (take at text)
line_other text at l e = let by = rw e at (line_by text at l) in omega arith

-- after a newline the columns begin again
pub column_newline : (text : List ℕ) (at : ℕ) → at < length text → is_newline (get_or text at 0) ≡ true → column_after (take (at + 1) text) ≡ 1
column_newline text at l e =
    let b : ℕ = get_or text at 0 in
    let none : list_all (λ byte. not (is_newline byte)) (b ∷ []) ≡ false = rw e refl in
    let one : column_after (b ∷ []) ≡ 1 = rw e refl in
    ap column_after (take_more text at 0 l) ∙ column_new_line (take at text) (b ∷ []) none ∙ one

-- after another byte stands the next column
pub column_other : (text : List ℕ) (at : ℕ) → at < length text → is_newline (get_or text at 0) ≡ false → column_after (take (at + 1) text) ≡ column_after (take at text) + 1
column_other text at l e =
    let b : ℕ = get_or text at 0 in
    let all : list_all (λ byte. not (is_newline byte)) (b ∷ []) ≡ true = rw e refl in
    ap column_after (take_more text at 0 l) ∙ column_same_line (take at text) (b ∷ []) all

-- a line has no fewer bytes before it than lines
pub line_counted : (text : List ℕ) (at : ℕ) → at ≤ length text → line_after (take at text) ≤ at + 1
line_counted text at l = omega (arith, count_by-le-length is_newline (take at text), length-take at text)

-- no newline stands in a part and the byte after it
pub all_more : (p : ℕ → Bool) (text : List ℕ) (start at : ℕ) → start ≤ at → at < length text → list_all p (slice_range text start (at + 1)) ≡ (list_all p (slice_range text start at) && p (get_or text at 0))
all_more p text start at l m =
    let n : ℕ = at - start in
    let long : at + 1 - start ≡ n + 1 = omega arith in
    let within : n < length (drop start text) = omega (arith, length-drop start text) in
    let place : start + n ≡ at = omega arith in
    ap (λ (k : ℕ). list_all p (take k (drop start text))) long
    ∙ ap (list_all p) (take_more (drop start text) n 0 within)
    ∙ list_all-append p (take n (drop start text)) (get_or (drop start text) n 0 ∷ [])
    ∙ ap (λ (v : Bool). list_all p (take n (drop start text)) && v) (all_one p (get_or (drop start text) n 0))
    ∙ ap (λ (b : ℕ). list_all p (take n (drop start text)) && p b) (get_or-drop start text n 0 ∙ ap (λ (k : ℕ). get_or text k 0) place)

pub both_join : (x y z : Bool) → ((x && y) && z) ≡ (x && (y && z))
both_join true y z = refl
both_join false y z = refl
