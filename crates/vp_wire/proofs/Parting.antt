-- The parts of bytes read one after another, and the lines of an input by its parts.
use Rattle.std.proofs.Common.{◌≡◌, ◌∙◌, ℕ, ◌≤◌, ◌==◌, Bool, true, false, cond, List, [], ◌∷◌, ◌++◌, length, Option, Some, None, refl, ap, arith, subst, sym}
use Rattle.std.proofs.lemmas.List.{append-nil}
use Rattle.vp_text.specs.Texts.{begun, part_and_rest, parts}
use Rattle.vp_text.specs.laws.Texts.{parts_some}
use Rattle.vp_wire.specs.Dialogue.{lines_of, whole_lines, without_empty_end, without_last}

-- ---- parts

-- a byte in front of a part
begun_after : (byte : ℕ) (part : List ℕ) (rest : Option (List ℕ)) → begun byte (part_and_rest 10 part rest) ≡ part_and_rest 10 (byte ∷ part) rest
begun_after byte part None = refl
begun_after byte part (Some rest) = refl

begun_only : (byte : ℕ) (bytes : List ℕ) (ps : List (List ℕ)) → 1 ≤ length ps → begun byte ps ≡ (byte ∷ bytes) ∷ [] → ps ≡ bytes ∷ []
begun_only byte bytes [] h e = absurd (omega arith)
begun_only byte bytes (p ∷ ps) h e = cc

only_by : (byte : ℕ) (bytes : List ℕ) (b : Bool) → cond b ([] ∷ parts 10 bytes) (begun byte (parts 10 bytes)) ≡ (byte ∷ bytes) ∷ [] → (parts 10 bytes ≡ bytes ∷ []) × (b ≡ false)
only_by byte bytes true e = cc
only_by byte bytes false e = (begun_only byte bytes (parts 10 bytes) (parts_some 10 bytes) e, refl)

-- bytes without a newline stand in front of the first part of what follows
pub joined_part : (front bytes part : List ℕ) (rest : Option (List ℕ)) → parts 10 front ≡ front ∷ [] → parts 10 bytes ≡ part_and_rest 10 part rest → parts 10 (front ++ bytes) ≡ part_and_rest 10 (front ++ part) rest
joined_part [] bytes part rest none cut = cut
joined_part (byte ∷ front) bytes part rest none cut =
    let parted = only_by byte front (byte == 10) none in
    ap (λ (b : Bool). cond b ([] ∷ parts 10 (front ++ bytes)) (begun byte (parts 10 (front ++ bytes)))) parted.1
    ∙ ap (begun byte) (joined_part front bytes part rest parted.0 cut)
    ∙ begun_after byte (front ++ part) rest

one_part : (last part : List ℕ) (parts : List (List ℕ)) → part ∷ parts ≡ last ∷ [] → (part ≡ last) × (parts ≡ [])
one_part last part ps e = (cc, cc)

first_part : (line last part : List ℕ) (lines ps : List (List ℕ)) → part ∷ ps ≡ line ∷ lines ++ last ∷ [] → (part ≡ line) × (ps ≡ lines ++ last ∷ [])
first_part line last part lines ps e = (cc, cc)

-- a byte in front of bytes with these parts
more_by : (byte : ℕ) (front bytes : List ℕ) (lines : List (List ℕ)) (last : List ℕ) (b : Bool) → (byte == 10) ≡ b
    → ((ls : List (List ℕ)) (l : List ℕ) → parts 10 front ≡ ls ++ l ∷ [] → parts 10 (front ++ bytes) ≡ ls ++ parts 10 (l ++ bytes))
    → cond b ([] ∷ parts 10 front) (begun byte (parts 10 front)) ≡ lines ++ last ∷ [] → cond b ([] ∷ parts 10 (front ++ bytes)) (begun byte (parts 10 (front ++ bytes))) ≡ lines ++ parts 10 (last ++ bytes)
more_by byte front bytes [] last true is more cut =
    let none = (one_part last [] (parts 10 front) cut).1 in
    let some : 1 ≤ 0 = subst (λ (ps : List (List ℕ)). 1 ≤ length ps) none (parts_some 10 front) in
    absurd (omega arith)
more_by byte front bytes (line ∷ lines) last true is more cut =
    let split = first_part line last [] lines (parts 10 front) cut in
    ap (λ (l : List ℕ). l ∷ parts 10 (front ++ bytes)) split.0 ∙ ap (λ (ps : List (List ℕ)). line ∷ ps) (more lines last split.1)
more_by byte front bytes lines last false is more cut = by_parts byte front bytes lines last (parts 10 front) refl is more cut
  where
    by_parts : (byte : ℕ) (front bytes : List ℕ) (lines : List (List ℕ)) (last : List ℕ) (ps : List (List ℕ)) → parts 10 front ≡ ps → (byte == 10) ≡ false
        → ((ls : List (List ℕ)) (l : List ℕ) → parts 10 front ≡ ls ++ l ∷ [] → parts 10 (front ++ bytes) ≡ ls ++ parts 10 (l ++ bytes))
        → begun byte ps ≡ lines ++ last ∷ [] → begun byte (parts 10 (front ++ bytes)) ≡ lines ++ parts 10 (last ++ bytes)
    by_parts byte front bytes lines last [] ps_is is more cut =
        let some : 1 ≤ 0 = subst (λ (ps : List (List ℕ)). 1 ≤ length ps) ps_is (parts_some 10 front) in
        absurd (omega arith)
    by_parts byte front bytes [] last (p ∷ ps) ps_is is more cut =
        let split = one_part last (byte ∷ p) ps cut in
        let own = more [] p (ps_is ∙ ap (λ (qs : List (List ℕ)). p ∷ qs) split.1) in
        ap (begun byte) own
        ∙ sym (ap (λ (b : Bool). cond b ([] ∷ parts 10 (p ++ bytes)) (begun byte (parts 10 (p ++ bytes)))) is)
        ∙ ap (λ (l : List ℕ). parts 10 (l ++ bytes)) split.0
    by_parts byte front bytes (line ∷ lines) last (p ∷ ps) ps_is is more cut =
        let split = first_part line last (byte ∷ p) lines ps cut in
        let own = more (p ∷ lines) last (ps_is ∙ ap (λ (qs : List (List ℕ)). p ∷ qs) split.1) in
        ap (begun byte) own ∙ ap (λ (l : List ℕ). l ∷ (lines ++ parts 10 (last ++ bytes))) split.0

-- bytes after others go on their last part
pub parts_more : (front bytes : List ℕ) (lines : List (List ℕ)) (last : List ℕ) → parts 10 front ≡ lines ++ last ∷ [] → parts 10 (front ++ bytes) ≡ lines ++ parts 10 (last ++ bytes)
parts_more [] bytes [] last cut = ap (λ (l : List ℕ). parts 10 (l ++ bytes)) (one_part last [] [] cut).0
parts_more [] bytes (line ∷ []) last cut = cc
parts_more [] bytes (line ∷ l ∷ lines) last cut = cc
parts_more (byte ∷ front) bytes lines last cut = more_by byte front bytes lines last (byte == 10) refl (parts_more front bytes) cut

-- ---- lines

end_more : (line : List ℕ) (lines : List (List ℕ)) → 1 ≤ length lines → without_empty_end (line ∷ lines) ≡ line ∷ without_empty_end lines
end_more line [] h = absurd (omega arith)
end_more [] (l ∷ ls) h = refl
end_more (b ∷ bs) (l ∷ ls) h = refl

some_after : (lines more : List (List ℕ)) → 1 ≤ length more → 1 ≤ length (lines ++ more)
some_after [] more h = h
some_after (l ∷ ls) more h = omega arith

-- only at the end an empty line is none
pub end_after : (lines more : List (List ℕ)) → 1 ≤ length more → without_empty_end (lines ++ more) ≡ lines ++ without_empty_end more
end_after [] more h = refl
end_after (l ∷ ls) more h = end_more l (ls ++ more) (some_after ls more h) ∙ ap (λ (ms : List (List ℕ)). l ∷ ms) (end_after ls more h)

last_more : (line : List ℕ) (lines : List (List ℕ)) → 1 ≤ length lines → without_last (line ∷ lines) ≡ line ∷ without_last lines
last_more line [] h = absurd (omega arith)
last_more line (l ∷ ls) h = refl

last_after : (lines : List (List ℕ)) (last : List ℕ) → without_last (lines ++ last ∷ []) ≡ lines
last_after [] last = refl
last_after (l ∷ ls) last = last_more l (ls ++ last ∷ []) (some_after ls (last ∷ []) (omega arith)) ∙ ap (λ (ms : List (List ℕ)). l ∷ ms) (last_after ls last)

-- the whole lines of an input are all parts but the last
pub whole_by_parts : (input : List ℕ) (lines : List (List ℕ)) (last : List ℕ) → parts 10 input ≡ lines ++ last ∷ [] → whole_lines input ≡ lines
whole_by_parts input lines last cut = ap without_last cut ∙ last_after lines last

-- the first of them, where more parts follow
pub whole_first : (input : List ℕ) (lines more : List (List ℕ)) → parts 10 input ≡ lines ++ more → 1 ≤ length more → whole_lines input ≡ lines ++ without_last more
whole_first input lines more cut h = ap without_last cut ∙ by_lines lines more h where
  by_lines : (lines more : List (List ℕ)) → 1 ≤ length more → without_last (lines ++ more) ≡ lines ++ without_last more
  by_lines [] more h = refl
  by_lines (l ∷ ls) more h = last_more l (ls ++ more) (some_after ls more h) ∙ ap (λ (ms : List (List ℕ)). l ∷ ms) (by_lines ls more h)

-- the lines of an input that ends in a newline
pub lines_ended : (input : List ℕ) (lines : List (List ℕ)) → parts 10 input ≡ lines ++ [] ∷ [] → lines_of input ≡ lines
lines_ended input lines cut = ap without_empty_end cut ∙ end_after lines ([] ∷ []) (omega arith) ∙ append-nil lines

-- the lines of an input whose last line lacks its newline
pub lines_open : (input : List ℕ) (lines : List (List ℕ)) (byte : ℕ) (bytes : List ℕ) → parts 10 input ≡ lines ++ (byte ∷ bytes) ∷ [] → lines_of input ≡ lines ++ (byte ∷ bytes) ∷ []
lines_open input lines byte bytes cut = ap without_empty_end cut ∙ end_after lines ((byte ∷ bytes) ∷ []) (omega arith)
