-- Steps of the loops, and what the first and the last of them say.
use Rattle.std.proofs.Common.{◌≡◌, ◌∙◌, ℕ, zero, suc, ◌+◌, ◌-◌, ◌<◌, ◌≤◌, Bool, true, false, cond, List, [], ◌∷◌, ◌++◌, Option, Some, None, length, map, get_or, take, drop, refl, sym, ap, subst, arith, append_assoc, ne_eqb, inl, inr}
use Rattle.std.specs.Borrow.{Bor}
use Rattle.std.specs.Prelude.{IsUtf8, MatchBool, if◌then◌else◌}
use Rattle.std.specs.Str.{IsCharBoundary, bytes_eq, is_utf8}
use Rattle.std.proofs.lemmas.List.{append-nil, drop_all, drop_more, map-append, take_more}
use Rattle.std.proofs.lemmas.List.Concat.{flat_map-append}
use Rattle.std.proofs.lemmas.Str.{is_utf8-from_IsUtf8, IsUtf8-from_is_utf8}
use Rattle.vp_lex.specs.declared.error.LexError.{LexError}
use Rattle.vp_lex.specs.declared.error.LexError.TheVariants as error
use Rattle.vp_lex.specs.declared.token.Token.{Token}
use Rattle.vp_lex.specs.Bytes.{is_newline}
use Rattle.vp_lex.specs.Texts.{part_of}
use Rattle.vp_lex.specs.Tokens.{IsFaultOf}
use Rattle.vp_text.specs.Texts.{part_and_rest, parts}
use Rattle.vp_design.specs.Expected.{AreRead, IsReadOrNot}
use Rattle.vp_design.specs.Fronts.{HasNoTokens}
use Rattle.vp_design.specs.LeftOut.{reason_in}
use Rattle.vp_design.specs.Lines.{after_newlines, blank_of, blanks, first_of, text_in}
use Rattle.vp_design.specs.Spreading.{spread_from}

-- ---- lines

-- some bytes that are text
pub text_there : (bytes : List ℕ) → IsUtf8 bytes → text_in bytes ≡ bytes
text_there bytes h = rw (is_utf8-from_IsUtf8 bytes h) refl

no_text : (bytes : List ℕ) (b : Bool) → is_utf8 bytes ≡ b → (IsUtf8 bytes → ⊥) → text_in bytes ≡ []
no_text bytes true e h = absurd (h (IsUtf8-from_is_utf8 bytes e))
no_text bytes false e h = rw e refl

-- some bytes that are none
pub text_absent : (bytes : List ℕ) → (IsUtf8 bytes → ⊥) → text_in bytes ≡ []
text_absent bytes h = no_text bytes (is_utf8 bytes) refl h

first_after : (part : List ℕ) (rest : Option (List ℕ)) → first_of (part_and_rest 10 part rest) ≡ part
first_after part None = refl
first_after part (Some r) = refl

-- the part before what follows is the first
pub first_is : (bytes part : List ℕ) (rest : Option (List ℕ)) → parts 10 bytes ≡ part_and_rest 10 part rest → part ≡ first_of (parts 10 bytes)
first_is bytes part rest e = sym (ap first_of e ∙ first_after part rest)

-- a newline is passed
pub newline_passed : (bytes : List ℕ) (at missing : ℕ) → at < length bytes → (missing ≡ 0 → ⊥) → get_or bytes at 0 ≡ 10 → after_newlines missing (drop at bytes) ≡ after_newlines (missing - 1) (drop (at + 1) bytes) + 1
newline_passed bytes at zero within some is = absurd (some refl)
newline_passed bytes at (suc n) within some is =
    let less : n ≡ suc n - 1 = omega arith in
    ap (after_newlines (suc n)) (drop_more bytes at 0 within)
    ∙ ap (λ (b : ℕ). after_newlines (if is_newline b then n else suc n) (drop (at + 1) bytes) + 1) is
    ∙ ap (λ (k : ℕ). after_newlines k (drop (at + 1) bytes) + 1) less

-- another byte is passed
pub byte_passed : (bytes : List ℕ) (at missing : ℕ) → at < length bytes → (missing ≡ 0 → ⊥) → (get_or bytes at 0 ≡ 10 → ⊥) → after_newlines missing (drop at bytes) ≡ after_newlines missing (drop (at + 1) bytes) + 1
byte_passed bytes at zero within some other = absurd (some refl)
byte_passed bytes at (suc n) within some other =
    ap (after_newlines (suc n)) (drop_more bytes at 0 within)
    ∙ ap (λ (b : Bool). after_newlines (if b then n else suc n) (drop (at + 1) bytes) + 1) (ne_eqb (get_or bytes at 0) 10 other)

-- no newline is missing
pub newlines_here : (missing : ℕ) (bytes : List ℕ) → missing ≡ 0 → after_newlines missing bytes ≡ 0
newlines_here zero bytes e = refl
newlines_here (suc n) bytes e = absurd (omega arith)

newlines_none : (missing : ℕ) → after_newlines missing [] ≡ 0
newlines_none zero = refl
newlines_none (suc n) = refl

-- no byte is left
pub newlines_end : (missing at : ℕ) (bytes : List ℕ) → length bytes ≤ at → after_newlines missing (drop at bytes) ≡ 0
newlines_end missing at bytes l = ap (after_newlines missing) (drop_all at bytes l) ∙ newlines_none missing

-- a byte more leads under the caret
pub blanks_more : (bytes : List ℕ) (i : ℕ) → i < length bytes → blanks (take (i + 1) bytes) ≡ blanks (take i bytes) ++ blank_of (get_or bytes i 0)
blanks_more bytes i within =
    ap blanks (take_more bytes i 0 within) ∙ flat_map-append blank_of (take i bytes) (get_or bytes i 0 ∷ [])
    ∙ ap (λ (x : List ℕ). blanks (take i bytes) ++ x) (append-nil (blank_of (get_or bytes i 0)))

-- ---- spreading

-- a token more is spread
pub spread_more :
    (text : List ℕ) (tokens : List Token) (i at : ℕ) (t : Token) (before parted now whole : List ℕ) → i < length tokens → t ≡ get_or tokens i t
    → parted ≡ before ++ part_of text at t.start → now ≡ parted ++ 10 ∷ [] → before ++ spread_from text at (drop i tokens) ≡ whole
    → now ++ spread_from text t.start (drop (i + 1) tokens) ≡ whole
spread_more text tokens i at t before parted now whole within here adds ends so_far =
    let rest : List ℕ = spread_from text t.start (drop (i + 1) tokens) in
    let part : List ℕ = part_of text at t.start in
    let front : drop i tokens ≡ t ∷ drop (i + 1) tokens =
    drop_more tokens i t within ∙ ap (λ (x : Token). x ∷ drop (i + 1) tokens) (sym here) in
    let step : spread_from text at (drop i tokens) ≡ part ++ 10 ∷ rest = ap (spread_from text at) front in
    ap (λ (x : List ℕ). x ++ rest) (ends ∙ ap (λ (x : List ℕ). x ++ 10 ∷ []) adds)
    ∙ append_assoc (before ++ part) (10 ∷ []) rest ∙ append_assoc before part (10 ∷ rest)
    ∙ ap (λ (x : List ℕ). before ++ x) (sym step) ∙ so_far

-- the last token is spread
pub spread_end :
    (text : List ℕ) (tokens : List Token) (i at : ℕ) (before now whole : List ℕ) → length tokens ≤ i
    → now ≡ before ++ part_of text at (length text) → before ++ spread_from text at (drop i tokens) ≡ whole → now ≡ whole
spread_end text tokens i at before now whole l adds so_far =
    adds ∙ ap (λ (x : List ℕ). before ++ x) (sym (ap (spread_from text at) (drop_all i tokens l))) ∙ so_far

-- ---- fronts

-- what holds of each number of bytes fewer than these holds of each greater length
pub longest_of :
    (text : List ℕ) (end at fewer : ℕ) → at ≡ end - fewer
    → ((k : ℕ) → k < fewer → IsCharBoundary text (end - k) → HasNoTokens (take (end - k) text))
    → (n : ℕ) → at < n → n ≤ end → IsCharBoundary text n → HasNoTokens (take n text)
longest_of text end at fewer is below n low high boundary =
    let back : end - (end - n) ≡ n = omega arith in
    let within : end - n < fewer = omega arith in
    subst (λ (m : ℕ). HasNoTokens (take m text)) back
    (below (end - n) within (subst (λ (m : ℕ). IsCharBoundary text m) (sym back) boundary))

-- ---- candidates

-- the words, and one more if its candidate is read
abbrev pub words_with : Bool → List (List ℕ) → List ℕ → List (List ℕ)
words_with b words word = if b then words ++ word ∷ [] else words

words_after : (b d : Bool) (word last : List ℕ) (words rest : List (List ℕ)) → words ≡ (if b then word ∷ rest else rest) → words_with d words last ≡ (if b then word ∷ words_with d rest last else words_with d rest last)
words_after true true word last words rest e = ap (λ (ws : List (List ℕ)). ws ++ last ∷ []) e
words_after true false word last words rest e = e
words_after false true word last words rest e = ap (λ (ws : List (List ℕ)). ws ++ last ∷ []) e
words_after false false word last words rest e = e

words_alone : (b : Bool) (word : List ℕ) (words : List (List ℕ)) → words ≡ [] → words_with b words word ≡ (if b then word ∷ [] else [])
words_alone true word words e = ap (λ (ws : List (List ℕ)). ws ++ word ∷ []) e
words_alone false word words e = e

-- a candidate more is tried
pub read_more : (front : List ℕ) (table : List (List ℕ × List ℕ)) (words : List (List ℕ)) (c : List ℕ × List ℕ) (b : Bool) → AreRead front table words → IsReadOrNot b front c.0 → AreRead front (table ++ c ∷ []) (words_with b words c.1)
read_more front [] words c b e is = (b, is, ([], refl, words_alone b c.1 words e))
read_more front (x ∷ table) words c b h is =
    (h.0, h.1, (words_with b h.2.0 c.1, read_more front table h.2.0 c b h.2.1 is, words_after h.0 b x.1 c.1 words h.2.0 h.2.2))

-- ---- reasons

-- the reason beside a word is that of its entry, if this is the first that is left
pub reason_here : {X : Type 0} (shown : X → List ℕ × List ℕ) (table : List X) (otherwise word : List ℕ) (i : ℕ) (other : X) → i < length table → bytes_eq word (shown (get_or table i other)).0 ≡ true → reason_in (map shown (drop i table)) otherwise word ≡ (shown (get_or table i other)).1
reason_here shown table otherwise word i other l e =
    ap (λ rest. reason_in (map shown rest) otherwise word) (drop_more table i other l)
    ∙ ap (λ (b : Bool). cond b (shown (get_or table i other)).1 (reason_in (map shown (drop (i + 1) table)) otherwise word)) e

-- and else that of those after it
pub reason_passed : {X : Type 0} (shown : X → List ℕ × List ℕ) (table : List X) (otherwise word : List ℕ) (i : ℕ) (other : X) → i < length table → bytes_eq word (shown (get_or table i other)).0 ≡ false → reason_in (map shown (drop i table)) otherwise word ≡ reason_in (map shown (drop (i + 1) table)) otherwise word
reason_passed shown table otherwise word i other l e =
    ap (λ rest. reason_in (map shown rest) otherwise word) (drop_more table i other l)
    ∙ ap (λ (b : Bool). cond b (shown (get_or table i other)).1 (reason_in (map shown (drop (i + 1) table)) otherwise word)) e

-- where none is left it is the other text
pub reason_none : {X : Type 0} (shown : X → List ℕ × List ℕ) (table : List X) (otherwise word : List ℕ) (i : ℕ) → length table ≤ i → reason_in (map shown (drop i table)) otherwise word ≡ otherwise
reason_none shown table otherwise word i l = ap (λ rest. reason_in (map shown rest) otherwise word) (drop_all i table l)

-- ---- faults

-- an error of a text that is not out of memory
pub no_tokens : (text : List ℕ) (e : LexError) → IsFaultOf text e → (e ≡ error.NoMemory → ⊥) → HasNoTokens text
no_tokens text e (inl same) other = absurd (other same)
no_tokens text e (inr is) other = (e, is)

-- ---- tests

-- what is so where a test holds, and where it does not
pub match_true : (b : Bool) (P Q : Type 0) → b ≡ true → MatchBool b P Q → P
match_true true P Q e h = h
match_true false P Q e h = cc

pub match_false : (b : Bool) (P Q : Type 0) → b ≡ false → MatchBool b P Q → Q
match_false true P Q e h = cc
match_false false P Q e h = h

-- ---- tables of candidates

-- a candidate of a table and its words
abbrev pub shown : Bor (List ℕ) × Bor (List ℕ) → List ℕ × List ℕ
shown c = (c.0.now, c.1.now)

-- one turn of the loop over candidates
pub candidate_more :
    (front : List ℕ) (table : List (Bor (List ℕ) × Bor (List ℕ))) (i : ℕ) (other : Bor (List ℕ) × Bor (List ℕ)) (words now : List (List ℕ)) (b : Bool)
    → i < length table → AreRead front (map shown (take i table)) words → IsReadOrNot b front (get_or table i other).0.now
    → now ≡ words_with b words (get_or table i other).1.now → AreRead front (map shown (take (i + 1) table)) now
candidate_more front table i other words now b within so_far is pushed =
    let more : map shown (take (i + 1) table) ≡ map shown (take i table) ++ shown (get_or table i other) ∷ [] =
    ap (map shown) (take_more table i other within) ∙ map-append shown (take i table) (get_or table i other ∷ []) in
    subst (λ (ws : List (List ℕ)). AreRead front (map shown (take (i + 1) table)) ws) (sym pushed)
    (subst (λ (t : List (List ℕ × List ℕ)). AreRead front t (words_with b words (get_or table i other).1.now)) (sym more)
    (read_more front (map shown (take i table)) words (shown (get_or table i other)) b so_far is))

pub words_pushed : (b : Bool) (words now : List (List ℕ)) (word : List ℕ) → b ≡ true → now ≡ words ++ word ∷ [] → now ≡ words_with b words word
words_pushed true words now word e h = h
words_pushed false words now word e h = cc

pub words_kept : (b : Bool) (words now : List (List ℕ)) (word : List ℕ) → b ≡ false → now ≡ words → now ≡ words_with b words word
words_kept true words now word e h = cc
words_kept false words now word e h = h
