-- Runs, strings and base parts from a place in a text on, a byte at a time.
use Rattle.std.proofs.Common.{◌≡◌, ℕ, ◌+◌, ◌-◌, ◌<◌, ◌≤◌, Bool, true, false, cond, ◌&&◌, List, [], ◌∷◌, length, get_or, take, drop, Option, Some, None, Result, Ok, Err, refl, sym, ◌∙◌, ap, arith}
use Rattle.std.specs.List.{take_while}
use Rattle.std.proofs.lemmas.List.{drop_more, drop_all}
use Rattle.std.proofs.lemmas.List.Sums.{take_while-cons}
use Rattle.vp_lex.specs.declared.piece.Fault.{Fault}
use Rattle.vp_lex.specs.declared.piece.Fault.TheVariants.{BadCharacter, OpenComment, OpenString, UnknownDirective}
use Rattle.std.specs.Prelude.{option_map, slice_range}
use Rattle.std.proofs.Math.Seq.{take-append_seam}
use Rattle.vp_lex.specs.Bytes.{is_newline, is_solidus, is_asterisk, is_sign, base_of, begins_name, goes_on_name}
use Rattle.vp_lex.proofs.Reaching.{reaches_run_front}
use Rattle.vp_lex.specs.Pieces.{is_within_line, closes, escapes}
use Rattle.vp_lex.specs.Cutting.{after_byte, block_front, comment_front, string_front, any_digits_front, based_front, base_front, run_front, is_known_name, known_directive}
use Rattle.vp_lex.specs.Scanning.{end_of}

-- ---- runs

taken_cons : (p : ℕ → Bool) (b : ℕ) (bytes : List ℕ) → length (take_while p (b ∷ bytes)) ≡ cond (p b) (1 + length (take_while p bytes)) 0
taken_cons p b bytes = ap length (take_while-cons p b bytes) ∙ at (p b)
  where
    at : (c : Bool) → length (cond c (b ∷ take_while p bytes) []) ≡ cond c (1 + length (take_while p bytes)) 0
    at true = omega arith
    at false = refl

-- the longest run from a place on is one byte longer where its first byte is one of the class
pub taken_more : (p : ℕ → Bool) (bytes : List ℕ) (i : ℕ) → i < length bytes → p (get_or bytes i 0) ≡ true → length (take_while p (drop i bytes)) ≡ 1 + length (take_while p (drop (i + 1) bytes))
taken_more p bytes i l e =
    ap (λ (x : List ℕ). length (take_while p x)) (drop_more bytes i 0 l) ∙ taken_cons p (get_or bytes i 0) (drop (i + 1) bytes)
    ∙ ap (λ (c : Bool). cond c (1 + length (take_while p (drop (i + 1) bytes))) 0) e

-- and else empty
pub taken_stop : (p : ℕ → Bool) (bytes : List ℕ) (i : ℕ) → i < length bytes → p (get_or bytes i 0) ≡ false → length (take_while p (drop i bytes)) ≡ 0
taken_stop p bytes i l e =
    ap (λ (x : List ℕ). length (take_while p x)) (drop_more bytes i 0 l) ∙ taken_cons p (get_or bytes i 0) (drop (i + 1) bytes)
    ∙ ap (λ (c : Bool). cond c (1 + length (take_while p (drop (i + 1) bytes))) 0) e

-- at the end of the bytes there is none
pub taken_end : (p : ℕ → Bool) (bytes : List ℕ) (i : ℕ) → length bytes ≤ i → length (take_while p (drop i bytes)) ≡ 0
taken_end p bytes i l = ap (λ (x : List ℕ). length (take_while p x)) (drop_all i bytes l)

-- ---- ends

-- a byte in front moves the place by one
pub end_after : (start byte : ℕ) (r : Result (List ℕ) Fault) → end_of start (after_byte byte r) ≡ end_of (start + 1) r
end_after start byte (Ok bytes) = ap (λ (n : ℕ). (let r : Result ℕ Fault = Ok n in r)) (omega arith)
end_after start byte (Err fault) = refl

-- ---- strings

-- the end of a string by its first byte
abbrev pub string_next : ℕ → Bool → ℕ → Result ℕ Fault → Result ℕ Fault
string_next i escaped byte more = cond (closes escaped byte) (Ok (i + 1)) (cond (is_newline byte) (Err OpenString) more)

string_cases : (i byte : ℕ) (r : Result (List ℕ) Fault) (quote newline : Bool) → end_of i (cond quote (Ok (byte ∷ [])) (cond newline (Err OpenString) (after_byte byte r))) ≡ cond quote (Ok (i + 1)) (cond newline (Err OpenString) (end_of (i + 1) r))
string_cases i byte r true newline = refl
string_cases i byte r false true = refl
string_cases i byte r false false = end_after i byte r

pub string_more : (escaped : Bool) (bytes : List ℕ) (i : ℕ) → i < length bytes → end_of i (string_front escaped (drop i bytes)) ≡ string_next i escaped (get_or bytes i 0) (end_of (i + 1) (string_front (escapes escaped (get_or bytes i 0)) (drop (i + 1) bytes)))
string_more escaped bytes i l =
    let b : ℕ = get_or bytes i 0 in
    ap (λ (x : List ℕ). end_of i (string_front escaped x)) (drop_more bytes i 0 l)
    ∙ string_cases i b (string_front (escapes escaped b) (drop (i + 1) bytes)) (closes escaped b) (is_newline b)

pub string_none : (escaped : Bool) (bytes : List ℕ) (i : ℕ) → length bytes ≤ i → end_of i (string_front escaped (drop i bytes)) ≡ Err OpenString
string_none escaped bytes i l = ap (λ (x : List ℕ). end_of i (string_front escaped x)) (drop_all i bytes l)

-- ---- comments

block_cases : (i byte : ℕ) (r : Result (List ℕ) Fault) (test : Bool) → end_of i (cond test (Ok (byte ∷ [])) (after_byte byte r)) ≡ cond test (Ok (i + 1)) (end_of (i + 1) r)
block_cases i byte r true = refl
block_cases i byte r false = end_after i byte r

pub block_more : (starred : Bool) (bytes : List ℕ) (i : ℕ) → i < length bytes → end_of i (block_front starred (drop i bytes)) ≡ cond (starred && is_solidus (get_or bytes i 0)) (Ok (i + 1)) (end_of (i + 1) (block_front (is_asterisk (get_or bytes i 0)) (drop (i + 1) bytes)))
block_more starred bytes i l =
    let b : ℕ = get_or bytes i 0 in
    ap (λ (x : List ℕ). end_of i (block_front starred x)) (drop_more bytes i 0 l)
    ∙ block_cases i b (block_front (is_asterisk b) (drop (i + 1) bytes)) (starred && is_solidus b)

pub block_none : (starred : Bool) (bytes : List ℕ) (i : ℕ) → length bytes ≤ i → end_of i (block_front starred (drop i bytes)) ≡ Err OpenComment
block_none starred bytes i l = ap (λ (x : List ℕ). end_of i (block_front starred x)) (drop_all i bytes l)

line_case : (i byte : ℕ) (bytes line : List ℕ) (test : Bool) → end_of i (after_byte byte (cond test (Ok line) (block_front false bytes))) ≡ cond test (Ok (i + 1 + length line)) (end_of (i + 1) (block_front false bytes))
line_case i byte bytes line true = end_after i byte (Ok line)
line_case i byte bytes line false = end_after i byte (block_front false bytes)

pub comment_more : (bytes : List ℕ) (i : ℕ) → i < length bytes → end_of i (comment_front (drop i bytes)) ≡ cond (is_solidus (get_or bytes i 0)) (Ok (i + 1 + length (take_while is_within_line (drop (i + 1) bytes)))) (end_of (i + 1) (block_front false (drop (i + 1) bytes)))
comment_more bytes i l =
    let b : ℕ = get_or bytes i 0 in
    ap (λ (x : List ℕ). end_of i (comment_front x)) (drop_more bytes i 0 l)
    ∙ line_case i b (drop (i + 1) bytes) (take_while is_within_line (drop (i + 1) bytes)) (is_solidus b)

pub comment_none : (bytes : List ℕ) (i : ℕ) → length bytes ≤ i → end_of i (comment_front (drop i bytes)) ≡ Err BadCharacter
comment_none bytes i l = ap (λ (x : List ℕ). end_of i (comment_front x)) (drop_all i bytes l)

-- ---- base parts

pub based_more : (bytes : List ℕ) (i : ℕ) → i < length bytes → end_of i (based_front (drop i bytes)) ≡ end_of (i + 1) (any_digits_front (base_of (get_or bytes i 0)) (drop (i + 1) bytes))
based_more bytes i l =
    let b : ℕ = get_or bytes i 0 in
    ap (λ (x : List ℕ). end_of i (based_front x)) (drop_more bytes i 0 l) ∙ end_after i b (any_digits_front (base_of b) (drop (i + 1) bytes))

pub based_none : (bytes : List ℕ) (i : ℕ) → length bytes ≤ i → end_of i (based_front (drop i bytes)) ≡ Err BadCharacter
based_none bytes i l = ap (λ (x : List ℕ). end_of i (based_front x)) (drop_all i bytes l)

sign_cases : (i byte : ℕ) (signed other : Result (List ℕ) Fault) (test : Bool) → end_of i (cond test (after_byte byte signed) other) ≡ cond test (end_of (i + 1) signed) (end_of i other)
sign_cases i byte signed other true = end_after i byte signed
sign_cases i byte signed other false = refl

pub base_more : (bytes : List ℕ) (i : ℕ) → i < length bytes → end_of i (base_front (drop i bytes)) ≡ cond (is_sign (get_or bytes i 0)) (end_of (i + 1) (based_front (drop (i + 1) bytes))) (end_of i (based_front (drop i bytes)))
base_more bytes i l =
    let b : ℕ = get_or bytes i 0 in
    let rest : List ℕ = drop (i + 1) bytes in
    ap (λ (x : List ℕ). end_of i (base_front x)) (drop_more bytes i 0 l)
    ∙ sign_cases i b (based_front rest) (based_front (b ∷ rest)) (is_sign b)
    ∙ ap (λ (x : List ℕ). cond (is_sign b) (end_of (i + 1) (based_front rest)) (end_of i (based_front x))) (sym (drop_more bytes i 0 l))

pub base_none : (bytes : List ℕ) (i : ℕ) → length bytes ≤ i → end_of i (base_front (drop i bytes)) ≡ end_of i (based_front (drop i bytes))
base_none bytes i l = ap (λ (x : List ℕ). end_of i (base_front x)) (drop_all i bytes l) ∙ ap (λ (x : List ℕ). end_of i (based_front x)) (sym (drop_all i bytes l))

-- ---- directives

front_of_run : (begins goes_on : ℕ → Bool) (bytes front : List ℕ) → run_front begins goes_on bytes ≡ Some front → take (length front) bytes ≡ front
front_of_run begins goes_on bytes front e =
    let h = reaches_run_front begins goes_on bytes front e in
    ap (take (length front)) h.splits ∙ take-append_seam front h.rest

directive_of : (o : Option (List ℕ)) (bytes : List ℕ) (start end : ℕ) → run_front begins_name goes_on_name (drop start bytes) ≡ o → Some end ≡ option_map (λ front. start + length front) o → end_of start (known_directive o) ≡ cond (is_known_name (slice_range bytes start end)) (Ok end) (Err UnknownDirective)
directive_of None bytes start end e h = absurd cc
directive_of (Some front) bytes start end e h =
    let ends : end ≡ start + length front = cc in
    let long : end - start ≡ length front = omega arith in
    let same : slice_range bytes start end ≡ front = ap (λ (n : ℕ). take n (drop start bytes)) long ∙ front_of_run begins_name goes_on_name (drop start bytes) front e in
    rw (same, ends) (known front (is_known_name front))
  where
    known : (front : List ℕ) (test : Bool) → end_of start (cond test (Ok front) (Err UnknownDirective)) ≡ cond test (Ok (start + length front)) (Err UnknownDirective)
    known front true = refl
    known front false = refl

-- a directive that has a name is read where the name is the one that is known
pub directive_at : (bytes : List ℕ) (start end : ℕ) → Some end ≡ option_map (λ front. start + length front) (run_front begins_name goes_on_name (drop start bytes)) → end_of start (known_directive (run_front begins_name goes_on_name (drop start bytes))) ≡ cond (is_known_name (slice_range bytes start end)) (Ok end) (Err UnknownDirective)
directive_at bytes start end h = directive_of (run_front begins_name goes_on_name (drop start bytes)) bytes start end refl h
