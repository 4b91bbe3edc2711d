-- Octal numbers are small, and the value of what is left of a string goes on by one character.
use Rattle.std.proofs.Common.{◌≡◌, ℕ, zero, suc, ◌+◌, ◌^◌, ◌<◌, ◌≤◌, Bool, List, [], ◌∷◌, ◌++◌, length, get_or, take, drop, refl, sym, ◌∙◌, ap, arith}
use Rattle.std.specs.List.{take_while}
use Rattle.std.specs.Char.{IsScalar}
use Rattle.std.specs.Str.{encode_utf8_all}
use lib.Utf8.{encode}
use Rattle.std.proofs.lemmas.Bool.{lt-ltb}
use Rattle.std.proofs.lemmas.List.{drop-drop, drop_all, append_assoc, append-nil, length-drop}
use Rattle.std.proofs.Math.Seq.{take-append_seam}
use Rattle.vp_lex.specs.Strings.{element, value_after}
use Rattle.vp_lex.proofs.Fronts.{reaches_run}

-- so many characters in front as a run has are the run
pub taken_front : (p : ℕ → Bool) (characters : List ℕ) → take (length (take_while p characters)) characters ≡ take_while p characters
taken_front p characters =
    let run = reaches_run p characters in
    ap (take (length (take_while p characters))) run.splits ∙ take-append_seam (take_while p characters) run.rest

pub power_small : (n : ℕ) → n ≤ 3 → 8 ^ n ≤ 512
power_small zero l = omega arith
power_small (suc zero) l = omega arith
power_small (suc (suc zero)) l = omega arith
power_small (suc (suc (suc zero))) l = omega arith
power_small (suc (suc (suc (suc n)))) l = absurd (omega arith)

-- what is taken is dropped
value_after-drop : (taken : ℕ) (characters : List ℕ) → value_after taken characters ≡ value_after 0 (drop taken characters)
value_after-drop zero characters = refl
value_after-drop (suc taken) [] = refl
value_after-drop (suc taken) (character ∷ characters) = value_after-drop taken characters

value_first : (characters : List ℕ) (e : ℕ × ℕ) → 0 < length characters → e ≡ element (get_or characters 0 0) (drop 1 characters) → value_after 0 characters ≡ e.0 ∷ value_after 0 (drop (e.1 + 1) characters)
value_first [] e l h = absurd (omega arith)
value_first (c ∷ characters) e l h =
    ap (λ (f : ℕ × ℕ). f.0 ∷ value_after f.1 characters) (sym h)
    ∙ ap (λ (x : List ℕ). e.0 ∷ x) (value_after-drop e.1 characters)
    ∙ ap (λ (x : List ℕ). e.0 ∷ value_after 0 x) (drop-drop e.1 1 (c ∷ characters))
    ∙ ap (λ (n : ℕ). e.0 ∷ value_after 0 (drop n (c ∷ characters))) (omega arith)

-- the value of what is left, by its first character
pub value_more : (characters : List ℕ) (at next : ℕ) (e : ℕ × ℕ) → at < length characters → e ≡ element (get_or (drop at characters) 0 0) (drop 1 (drop at characters)) → next ≡ at + (1 + e.1) → value_after 0 (drop at characters) ≡ e.0 ∷ value_after 0 (drop next characters)
value_more characters at next e l h n =
    let some : 0 < length (drop at characters) = omega (arith, length-drop at characters) in
    let sum : at + (e.1 + 1) ≡ next = omega arith in
    value_first (drop at characters) e some h
    ∙ ap (λ (x : List ℕ). e.0 ∷ value_after 0 x) (drop-drop (e.1 + 1) at characters)
    ∙ ap (λ (n : ℕ). e.0 ∷ value_after 0 (drop n characters)) sum

-- more characters of a value, and what is left of it, are all of it
pub encoded_more : (old new all remainder : List ℕ) (c : ℕ) (rest : List ℕ) → old ++ encode_utf8_all remainder ≡ all → remainder ≡ c ∷ rest → new ≡ old ++ encode c → new ++ encode_utf8_all rest ≡ all
encoded_more old new all remainder c rest h l n =
    ap (λ (x : List ℕ). x ++ encode_utf8_all rest) n ∙ append_assoc old (encode c) (encode_utf8_all rest)
    ∙ ap (λ (x : List ℕ). old ++ encode_utf8_all x) (sym l) ∙ h

-- at the end there is all of it
pub encoded_all : (old all characters : List ℕ) (at : ℕ) → length characters ≤ at → old ++ encode_utf8_all (value_after 0 (drop at characters)) ≡ all → old ≡ all
encoded_all old all characters at l h =
    sym (append-nil old) ∙ ap (λ (x : List ℕ). old ++ encode_utf8_all (value_after 0 x)) (sym (drop_all at characters l)) ∙ h

-- a small number is that of a character
pub small_scalar : (n : ℕ) → n < 512 → IsScalar n
small_scalar n l = rw (lt-ltb n 55296 (omega arith)) refl
