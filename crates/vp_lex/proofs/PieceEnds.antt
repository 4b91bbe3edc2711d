-- A token begins and ends with an ASCII byte, so a text may be cut before it and after it.
use Rattle.std.proofs.Common.{◌≡◌, Option, Some, None, inl, inr, eqb, ℕ, zero, suc, ◌+◌, ◌-◌, ◌<◌, ◌≤◌, Bool, true, false, cond, ◌&&◌, ◌||◌, ltb, List, [], ◌∷◌, length, get_or, drop, refl, sym, ◌∙◌, subst, arith}
use Rattle.std.specs.Prelude.{not, slice_range, IsUtf8}
use Rattle.std.specs.Str.{IsCharBoundary}
use Rattle.std.specs.List.{prefix_len, list_all}
use Rattle.std.proofs.Common.{add-zero}
use Rattle.std.proofs.lemmas.List.{length-drop, length-take, get_or-take, get_or-drop}
use Rattle.std.proofs.lemmas.Bool.{and_parts, or_cases, eqb-true, ltb-true}
use Rattle.std.proofs.lemmas.Bool.Decides.{nat_tests}
use Rattle.std.proofs.lemmas.Str.{IsCharBoundary-before_ascii, IsCharBoundary-after_ascii, IsUtf8-between}
use Rattle.vp_lex.specs.Bytes.{is_space, begins_name, goes_on_name, is_decimal, goes_on_number, base_of, is_sign, is_any_digit, is_digit, goes_on_digits, is_quote, is_newline}
use Rattle.vp_lex.specs.Symbols.{is_symbol}
use Rattle.std.specs.Char.{is_ascii_hexdigit}
use Rattle.std.specs.Int.{is_in_range}
use Rattle.vp_lex.specs.declared.piece.Base.{Base}
use Rattle.vp_lex.specs.declared.piece.Base.TheVariants.{Binary, Octal, Decimal, Hexadecimal}
use Rattle.vp_lex.specs.declared.piece.Fault.{Fault}
use Rattle.vp_lex.specs.declared.piece.Fault.TheVariants.{OpenString}
use Rattle.vp_lex.specs.Pieces.{PieceKind, WhiteSpace, Comment, Word, SystemWord, Number, BasePart, Quoted, Operator, Directive, is_run, is_piece, is_empty, after_space, ends_digits, ends_based, ends_base_part, closes, escapes, ends_string, has_string_end, unless, unread}
use Rattle.vp_lex.proofs.FirstBytes.{begins, ends, is_piece-parts, symbol_all}

-- ---- classes of ASCII bytes

-- each byte of the class is ASCII
abbrev pub IsLow : (ℕ → Bool) → Type 0
IsLow p = (b : ℕ) → p b ≡ true → b < 128

space_low : IsLow is_space
space_low b h = grind (arith, nat_tests)

letter_low : IsLow begins_name
letter_low b h = grind (arith, nat_tests)

name_low : IsLow goes_on_name
name_low b h = grind (arith, nat_tests)

decimal_low : IsLow is_decimal
decimal_low b h = grind (arith, nat_tests)

number_low : IsLow goes_on_number
number_low b h = grind (arith, nat_tests)

any_digit_low : IsLow is_any_digit
any_digit_low b h = grind (arith, nat_tests)

low_of_two : (x y : Bool) (b : ℕ) → (x ≡ true → b < 128) → (y ≡ true → b < 128) → (x || y) ≡ true → b < 128
low_of_two x y b f g h = elim (or_cases x y h) [ inl e ↦ f e | inr e ↦ g e ]

range_low : (low high : ℕ) → high < 128 → IsLow (is_in_range low high)
range_low low high l b h = grind (arith, nat_tests)

hexdigit_low : IsLow is_ascii_hexdigit
hexdigit_low b h = grind (arith, nat_tests)

digit_low : (base : Base) → IsLow (is_digit base)
digit_low Binary b h = low_of_two (is_in_range 48 49 b) (is_any_digit b) b (range_low 48 49 (omega arith) b) (any_digit_low b) h
digit_low Octal b h = low_of_two (is_in_range 48 55 b) (is_any_digit b) b (range_low 48 55 (omega arith) b) (any_digit_low b) h
digit_low Decimal b h = low_of_two (is_decimal b) (is_any_digit b) b (decimal_low b) (any_digit_low b) h
digit_low Hexadecimal b h = low_of_two (is_ascii_hexdigit b) (is_any_digit b) b (hexdigit_low b) (any_digit_low b) h

underscore_low : (b : ℕ) → eqb b 95 ≡ true → b < 128
underscore_low b h = omega (arith, eqb-true b 95 h)

digits_low : (base : Base) → IsLow (goes_on_digits base)
digits_low base b h = low_of_two (is_digit base b) (eqb b 95) b (digit_low base b) (underscore_low b) h

low_low : IsLow (λ b. ltb b 128)
low_low b h = ltb-true b 128 h

byte_low : (byte : ℕ) → byte < 128 → (b : ℕ) → b ≡ byte → b < 128
byte_low byte l b e = omega arith

-- ---- the last byte

-- the last byte, if there is one, is ASCII
abbrev pub EndsLow : List ℕ → Type 0
EndsLow bytes = (j : ℕ) → j + 1 ≡ length bytes → get_or bytes j 0 < 128

-- one byte more in front of some
more_ends : (b : ℕ) (bytes : List ℕ) → 1 ≤ length bytes → EndsLow bytes → EndsLow (b ∷ bytes)
more_ends b bytes l h zero e = absurd (omega arith)
more_ends b bytes l h (suc j) e = h j (omega arith)

-- one byte alone, or in front of some
any_ends : (b : ℕ) (bytes : List ℕ) → b < 128 → EndsLow bytes → EndsLow (b ∷ bytes)
any_ends b bytes l h zero e = l
any_ends b bytes l h (suc j) e = h j (omega arith)

all_ends : (p : ℕ → Bool) (bytes : List ℕ) → IsLow p → list_all p bytes ≡ true → EndsLow bytes
all_ends p [] low h j e = absurd (omega arith)
all_ends p (b ∷ bytes) low h j e =
    let parts = and_parts (p b) (list_all p bytes) h in
    any_ends b bytes (low b parts.0) (all_ends p bytes low parts.1) j e

run_ends : (begins goes_on : ℕ → Bool) (bytes : List ℕ) → IsLow begins → IsLow goes_on → is_run begins goes_on bytes ≡ true → EndsLow bytes × (1 ≤ length bytes)
run_ends begins goes_on [] low more h = absurd cc
run_ends begins goes_on (b ∷ bytes) low more h =
    let parts = and_parts (begins b) (list_all goes_on bytes) h in
    (any_ends b bytes (low b parts.0) (all_ends goes_on bytes more parts.1), omega arith)

after_ends : (n : ℕ) (bytes : List ℕ) → 1 ≤ length (drop n bytes) → EndsLow (drop n bytes) → EndsLow bytes
after_ends zero bytes l h j e = h j e
after_ends (suc n) [] l h j e = absurd (omega arith)
after_ends (suc n) (b ∷ bytes) l h j e =
    let some : 1 ≤ length bytes = omega (arith, length-drop n bytes) in
    more_ends b bytes some (after_ends n bytes l h) j e

empty_long : (bytes : List ℕ) → is_empty bytes ≡ true → length bytes ≡ 0
empty_long [] h = refl
empty_long (b ∷ bytes) h = absurd cc

empty_ends : (bytes : List ℕ) → is_empty bytes ≡ true → EndsLow bytes
empty_ends bytes h j e = let none = empty_long bytes h in absurd (omega arith)

string_at : (escaped : Bool) (b : ℕ) (bytes : List ℕ) (quote newline : Bool) → closes escaped b ≡ quote → (ends_string (escapes escaped b) bytes ≡ true → has_string_end (escapes escaped b) bytes ≡ true → EndsLow bytes × (1 ≤ length bytes)) → cond quote (is_empty bytes) (not newline && ends_string (escapes escaped b) bytes) ≡ true → (quote || has_string_end (escapes escaped b) bytes) ≡ true → EndsLow (b ∷ bytes)
string_at escaped b bytes true newline q more h c = any_ends b bytes (byte_low 34 (omega arith) b (eqb-true b 34 (and_parts (not escaped) (is_quote b) q).1)) (empty_ends bytes h)
string_at escaped b bytes false true q more h c = absurd cc
string_at escaped b bytes false false q more h c = let rest = more h c in more_ends b bytes rest.1 rest.0

string_ends : (escaped : Bool) (bytes : List ℕ) → ends_string escaped bytes ≡ true → has_string_end escaped bytes ≡ true → EndsLow bytes × (1 ≤ length bytes)
string_ends escaped [] h c = absurd cc
string_ends escaped (b ∷ bytes) h c = (
  string_at escaped b bytes (closes escaped b) (is_newline b) refl (string_ends (escapes escaped b) bytes) h c,
  omega arith,
)

digits_ends : (o : Option Base) (bytes : List ℕ) → ends_digits o bytes ≡ true → EndsLow bytes × (1 ≤ length bytes)
digits_ends None bytes h = absurd cc
digits_ends (Some base) bytes h =
    let digits = run_ends (is_digit base) (goes_on_digits base) (after_space bytes) (digit_low base) (digits_low base) h in
    let some : 1 ≤ length bytes = omega (arith, digits.1, length-drop (prefix_len is_space bytes) bytes) in
    (after_ends (prefix_len is_space bytes) bytes digits.1 digits.0, some)

based_ends : (bytes : List ℕ) → ends_based bytes ≡ true → EndsLow bytes × (1 ≤ length bytes)
based_ends [] h = absurd cc
based_ends (b ∷ bytes) h = let digits = digits_ends (base_of b) bytes h in (more_ends b bytes digits.1 digits.0, omega arith)

base_at : (b : ℕ) (bytes : List ℕ) (test : Bool) → cond test (ends_based bytes) (ends_based (b ∷ bytes)) ≡ true → EndsLow (b ∷ bytes) × (1 ≤ length (b ∷ bytes))
base_at b bytes true h = let based = based_ends bytes h in (more_ends b bytes based.1 based.0, omega arith)
base_at b bytes false h = based_ends (b ∷ bytes) h

base_ends : (bytes : List ℕ) → ends_base_part bytes ≡ true → EndsLow bytes × (1 ≤ length bytes)
base_ends [] h = absurd cc
base_ends (b ∷ bytes) h = base_at b bytes (is_sign b) h

closed_of : (test : Bool) (fault : Fault) → unless test fault ≡ None → test ≡ true
closed_of true fault h = refl
closed_of false fault h = absurd cc

symbol_ends : (b : ℕ) (bytes : List ℕ) → is_symbol (b ∷ bytes) ≡ true → (b < 128) × EndsLow (b ∷ bytes)
symbol_ends b bytes h =
    let all : list_all (λ c. ltb c 128) (b ∷ bytes) ≡ true = symbol_all (list_all (λ c. ltb c 128)) (b ∷ bytes) refl h in
    (ltb-true b 128 (and_parts (ltb b 128) (list_all (λ c. ltb c 128) bytes) all).0, all_ends (λ c. ltb c 128) (b ∷ bytes) low_low all)

-- a token begins and ends with an ASCII byte
token_ends : (kind : PieceKind) (b : ℕ) (bytes : List ℕ) → (kind ≡ Comment → ⊥) → begins kind b ≡ true → ends kind b bytes ≡ true → unread kind (b ∷ bytes) ≡ None → (b < 128) × EndsLow (b ∷ bytes)
token_ends WhiteSpace b bytes other f h r = let l = space_low b f in (l, any_ends b bytes l (all_ends is_space bytes space_low h))
token_ends Comment b bytes other f h r = absurd (other refl)
token_ends Word b bytes other f h r = let l = letter_low b f in (l, any_ends b bytes l (all_ends goes_on_name bytes name_low h))
token_ends SystemWord b bytes other f h r = let l = byte_low 36 (omega arith) b (eqb-true b 36 f) in (l, any_ends b bytes l (run_ends begins_name goes_on_name bytes letter_low name_low h).0)
token_ends Number b bytes other f h r = let l = decimal_low b f in (l, any_ends b bytes l (all_ends goes_on_number bytes number_low h))
token_ends BasePart b bytes other f h r = let l = byte_low 39 (omega arith) b (eqb-true b 39 f) in (l, any_ends b bytes l (base_ends bytes h).0)
token_ends Quoted b bytes other f h r = let l = byte_low 34 (omega arith) b (eqb-true b 34 f) in (l, any_ends b bytes l (string_ends false bytes h (closed_of (has_string_end false bytes) OpenString r)).0)
token_ends Operator b bytes other f h r = symbol_ends b bytes h
token_ends Directive b bytes other f h r = let l = byte_low 96 (omega arith) b (eqb-true b 96 f) in (l, any_ends b bytes l (run_ends begins_name goes_on_name bytes letter_low name_low h).0)

-- so does a piece that is no comment, and is read
pub piece_ends : (kind : PieceKind) (bytes : List ℕ) → (kind ≡ Comment → ⊥) → is_piece kind bytes ≡ true → unread kind bytes ≡ None → (get_or bytes 0 0 < 128) × EndsLow bytes
piece_ends kind [] other h r = (omega arith, λ j e. absurd (omega arith))
piece_ends kind (b ∷ bytes) other h r =
    let parts = and_parts (begins kind b) (ends kind b bytes) (sym (is_piece-parts kind b bytes) ∙ h) in
    token_ends kind b bytes other parts.0 parts.1 r

-- ---- where a text may be cut

-- a part of a text that may be cut out
pub record IsPart (text : List ℕ) (start end : ℕ) : Type 0 where
  pub before : IsCharBoundary text start
  pub following : IsCharBoundary text end
  pub utf8 : IsUtf8 (slice_range text start end)

-- a piece of a text that is no comment, and is read, may be cut out of it
pub piece_part : (text : List ℕ) (start end : ℕ) (kind : PieceKind) → IsUtf8 text → start < end → end ≤ length text → (kind ≡ Comment → ⊥) → is_piece kind (slice_range text start end) ≡ true → unread kind (slice_range text start end) ≡ None → IsPart text start end
piece_part text start end kind utf8 l m other h r =
    let bytes : List ℕ = slice_range text start end in
    let low = piece_ends kind bytes other h r in
    let long : length bytes ≡ end - start = length_part text start end m in
    let at : (j : ℕ) → j < end - start → get_or bytes j 0 ≡ get_or text (start + j) 0 =
    λ j k. get_or-take (end - start) (drop start text) j 0 k ∙ get_or-drop start text j 0 in
    let first : get_or text start 0 < 128 = subst (λ (n : ℕ). get_or text n 0 < 128) (add-zero start) (subst (λ (n : ℕ). n < 128) (at 0 (omega arith)) low.0) in
    let last : get_or text (end - 1) 0 < 128 =
    let place : start + (end - start - 1) ≡ end - 1 = omega arith in
    subst (λ (n : ℕ). get_or text n 0 < 128) place (subst (λ (n : ℕ). n < 128) (at (end - start - 1) (omega arith)) (low.1 (end - start - 1) (omega arith))) in
    let before = IsCharBoundary-before_ascii text start (omega arith) first in
    let following : IsCharBoundary text end =
    let place : end - 1 + 1 ≡ end = omega arith in
    subst (λ (n : ℕ). IsCharBoundary text n) place (IsCharBoundary-after_ascii text (end - 1) utf8 (omega arith) last) in
    record { before = before; following = following; utf8 = IsUtf8-between text start end utf8 (omega arith) before following }
  where
    length_part : (text : List ℕ) (start end : ℕ) → end ≤ length text → length (slice_range text start end) ≡ end - start
    length_part text start end m = omega (arith, length-take (end - start) (drop start text), length-drop start text)
