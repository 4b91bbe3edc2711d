-- A text cut at its first line `%%`, line by line.
use Rattle.std.proofs.Common.{◌≡◌, ◌∙◌, ℕ, suc, ◌-◌, ◌≤◌, ◌==◌, Bool, true, false, cond, List, [], ◌∷◌, ◌++◌, length, take, Option, Some, None, refl, sym, ap, arith}
use Rattle.std.specs.Prelude.{codes, option_map}
use Rattle.std.specs.Str.{bytes_eq}
use Rattle.std.specs.Prelude.{MatchOption}
use Rattle.std.specs.Option.{unwrap_or}
use Rattle.std.proofs.lemmas.Bool.{eqb-true}
use Rattle.std.proofs.lemmas.List.{append_assoc, append-nil, length-append}
use Rattle.std.proofs.Math.Seq.{take-append_seam}
use Rattle.vp_text.specs.Texts.{begun, part_and_rest, parts}
use Rattle.vp_text.specs.laws.Texts.{parts_some}
use Rattle.vp_script.specs.Bundles.{cut_lines, cut_of, joined, prefixed}

joined_begun : (byte : ℕ) (ps : List (List ℕ)) → joined (begun byte ps) ≡ byte ∷ joined ps
joined_begun byte [] = refl
joined_begun byte (p ∷ []) = refl
joined_begun byte (p ∷ q ∷ qs) = refl

joined_front : (ps : List (List ℕ)) → 1 ≤ length ps → joined ([] ∷ ps) ≡ 10 ∷ joined ps
joined_front [] h = absurd (omega arith)
joined_front (p ∷ ps) h = refl

joined_by : (byte : ℕ) (bytes : List ℕ) (b : Bool) → (byte == 10) ≡ b → joined (parts 10 bytes) ≡ bytes → joined (cond b ([] ∷ parts 10 bytes) (begun byte (parts 10 bytes))) ≡ byte ∷ bytes
joined_by byte bytes true e h = joined_front (parts 10 bytes) (parts_some 10 bytes) ∙ ap (λ (bs : List ℕ). 10 ∷ bs) h ∙ ap (λ (n : ℕ). n ∷ bytes) (sym (eqb-true byte 10 e))
joined_by byte bytes false e h = joined_begun byte (parts 10 bytes) ∙ ap (λ (bs : List ℕ). byte ∷ bs) h

-- the parts of a text round newlines, joined by newlines, are the text
pub joined_parts : (bytes : List ℕ) → joined (parts 10 bytes) ≡ bytes
joined_parts [] = refl
joined_parts (byte ∷ bytes) = joined_by byte bytes (byte == 10) refl (joined_parts bytes)

-- what is in front of what is in front
pub prefixed_twice : (a b : List ℕ) (cut : Option (List ℕ × List ℕ)) → prefixed a (prefixed b cut) ≡ prefixed (a ++ b) cut
prefixed_twice a b None = refl
prefixed_twice a b (Some (x, y)) = ap (λ (l : List ℕ). Some (l, y)) (sym (append_assoc a b x))

at_mark : (lines : List (List ℕ)) (line : List ℕ) (b : Bool) → bytes_eq line (codes "%%") ≡ b → cut_lines (line ∷ lines) ≡ cond b (Some ([], joined lines)) (prefixed (line ++ 10 ∷ []) (cut_lines lines))
at_mark lines line b e = ap (λ (x : Bool). cond x (Some ([], joined lines)) (prefixed (line ++ 10 ∷ []) (cut_lines lines))) e

-- what is left of a text that is cut: where nothing is left it is cut nowhere; else it is cut where what is left is
abbrev pub Left : List ℕ → Option (List ℕ) → Type 0
Left bytes None = None ≡ cut_of bytes
Left bytes (Some rest) =
    (bytes ≡ take (length bytes - length rest) bytes ++ rest)
    × (cut_of bytes ≡ prefixed (take (length bytes - length rest) bytes) (cut_of rest))

-- how much is left
abbrev pub left_size : Option (List ℕ) → ℕ
left_size None = 0
left_size (Some rest) = suc (length rest)

-- what follows a line, or nothing
abbrev pub rest_of : Option (List ℕ) → List ℕ
rest_of None = []
rest_of (Some next) = next

cut_here : (line : List ℕ) (following : Option (List ℕ)) → bytes_eq line (codes "%%") ≡ true → cut_lines (part_and_rest 10 line following) ≡ Some ([], rest_of following)
cut_here line None e = at_mark [] line true e
cut_here line (Some next) e = at_mark (parts 10 next) line true e ∙ ap (λ (t : List ℕ). Some ([], t)) (joined_parts next)

-- at a line `%%` the text is cut
pub cut_at_mark : (bytes rest line : List ℕ) (following : Option (List ℕ)) → Left bytes (Some rest) → parts 10 rest ≡ part_and_rest 10 line following → bytes_eq line (codes "%%") ≡ true → Some (take (length bytes - length rest) bytes, rest_of following) ≡ cut_of bytes
cut_at_mark bytes rest line following left is e =
    let front : List ℕ = take (length bytes - length rest) bytes in
    sym
    (left.1
    ∙ ap (λ ls. prefixed front (cut_lines ls)) is
    ∙ ap (λ c. prefixed front c) (cut_here line following e)
    ∙ ap (λ (l : List ℕ). Some (l, rest_of following)) (append-nil front))

front_is : (bytes pre rest : List ℕ) → bytes ≡ pre ++ rest → take (length bytes - length rest) bytes ≡ pre
front_is bytes pre rest is =
    let size : length (pre ++ rest) - length rest ≡ length pre = (let l = length-append pre rest in omega (arith, l)) in
    ap (λ (b : List ℕ). take (length b - length rest) b) is
    ∙ ap (λ n. take n (pre ++ rest)) size
    ∙ take-append_seam pre rest

-- after another line the rest is left
pub left_after_line : (bytes rest line : List ℕ) (following : Option (List ℕ)) → Left bytes (Some rest) → parts 10 rest ≡ part_and_rest 10 line following → MatchOption following (rest ≡ line) (λ r. rest ≡ line ++ 10 ∷ r) → bytes_eq line (codes "%%") ≡ false → Left bytes following
left_after_line bytes rest line None left is whole e =
    let front : List ℕ = take (length bytes - length rest) bytes in
    sym (left.1 ∙ ap (λ ls. prefixed front (cut_lines ls)) is ∙ ap (λ c. prefixed front c) (at_mark [] line false e))
left_after_line bytes rest line (Some next) left is whole e =
    let front : List ℕ = take (length bytes - length rest) bytes in
    let pre : List ℕ = front ++ (line ++ 10 ∷ []) in
    let again : bytes ≡ pre ++ next =
    left.0 ∙ ap (λ r. front ++ r) (whole ∙ sym (append_assoc line (10 ∷ []) next)) ∙ sym (append_assoc front (line ++ 10 ∷ []) next) in
    let at = front_is bytes pre next again in (
      again ∙ ap (λ p. p ++ next) (sym at),
      left.1
          ∙ ap (λ ls. prefixed front (cut_lines ls)) is
          ∙ ap (λ c. prefixed front c) (at_mark (parts 10 next) line false e)
          ∙ prefixed_twice front (line ++ 10 ∷ []) (cut_of next)
          ∙ ap (λ p. prefixed p (cut_of next)) (sym at),
    )

-- a value or what stands for none, as it is seen
pub unwrapped : {A : Type 0} (f : A → List ℕ) (o : Option A) (d : A) → f d ≡ [] → f (unwrap_or o d) ≡ rest_of (option_map f o)
unwrapped f None d h = h
unwrapped f (Some x) d h = refl

-- a fact by cases, of what is seen
pub matched : {A : Type 0} (f : A → List ℕ) (o : Option A) (P : Type 0) (Q : List ℕ → Type 0) → MatchOption o P (λ x. Q (f x)) → MatchOption (option_map f o) P Q
matched f None P Q h = h
matched f (Some x) P Q h = h
