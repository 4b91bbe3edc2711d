-- A table of words is searched an entry at a time, and the keywords by their length.
use Rattle.std.proofs.Common.{◌≡◌, ℕ, ◌+◌, ◌<◌, ◌&&◌, ◌⊎◌, inl, inr, Bool, true, false, cond, eqb, leb, List, [], ◌∷◌, ◌++◌, length, get_or, drop, map, Some, None, refl, sym, ◌∙◌, ap, arith}
use Rattle.std.specs.Prelude.{bytes_eq, filter}
use Rattle.std.specs.List.{list_all}
use Rattle.std.proofs.lemmas.Bool.{and_parts, eq-eqb, ne_eqb, leb-true}
use Rattle.std.proofs.lemmas.Slice.Eq.{bytes_eq-Decides}
use Rattle.std.specs.Borrow.{Bor}
use Rattle.std.proofs.lemmas.List.{drop_more}
use Rattle.vp_lex.specs.declared.keyword.Keyword.{Keyword}
use Rattle.vp_lex.specs.declared.keyword.Keyword.TheVariants.{LeftOut}
use Rattle.vp_lex.specs.Tables.{looked_up}
use Rattle.vp_lex.specs.Words.{used_words, left_out_words, left_out, keyword_of, found_in}

abbrev Entry : Type 0
Entry = Bor (List ℕ) × Keyword

at : (table : List Entry) (word : List ℕ) (i : ℕ) (other : Entry) → i < length table → found_in (drop i table) word ≡ cond (bytes_eq word (get_or table i other).0.now) (Some (get_or table i other).1) (found_in (drop (i + 1) table) word)
at table word i other l = ap (λ (entries : List Entry). found_in entries word) (drop_more table i other l)

-- an entry with the word gives its keyword
pub entry_found : (table : List Entry) (word : List ℕ) (i : ℕ) (other : Entry) → i < length table → bytes_eq word (get_or table i other).0.now ≡ true → found_in (drop i table) word ≡ Some (get_or table i other).1
entry_found table word i other l e =
    at table word i other l ∙ ap (λ (b : Bool). cond b (Some (get_or table i other).1) (found_in (drop (i + 1) table) word)) e

-- and one with another word is passed over
pub entry_passed : (table : List Entry) (word : List ℕ) (i : ℕ) (other : Entry) → i < length table → bytes_eq word (get_or table i other).0.now ≡ false → found_in (drop i table) word ≡ found_in (drop (i + 1) table) word
entry_passed table word i other l e =
    at table word i other l ∙ ap (λ (b : Bool). cond b (Some (get_or table i other).1) (found_in (drop (i + 1) table) word)) e

-- ---- tables by length

-- all keywords, each with its word
abbrev pub all_words : List (List ℕ × Keyword)
all_words = used_words ++ map (λ word. (word, LeftOut)) left_out_words

joined : (table others : List (List ℕ × Keyword)) (word : List ℕ) → looked_up (table ++ others) word None ≡ looked_up table word (looked_up others word None)
joined [] others word = refl
joined ((entry, value) ∷ table) others word = ap (cond (bytes_eq word entry) (Some value)) (joined table others word)

left_out_is : (words : List (List ℕ)) (word : List ℕ) → looked_up (map (λ entry. (entry, LeftOut)) words) word None ≡ left_out words word
left_out_is [] word = refl
left_out_is (entry ∷ words) word = ap (cond (bytes_eq word entry) (Some LeftOut)) (left_out_is words word)

-- a keyword is what stands beside it among all
keyword_is : (word : List ℕ) → looked_up all_words word None ≡ keyword_of word
keyword_is word = joined used_words (map (λ entry. (entry, LeftOut)) left_out_words) word ∙ ap (looked_up used_words word) (left_out_is left_out_words word)

-- the words of so many letters
abbrev pub of_length : ℕ → List (List ℕ × Keyword) → List (List ℕ × Keyword)
of_length n table = filter (λ entry. eqb (length entry.0) n) table

kept : (word entry : List ℕ) (value : Keyword) (table : List (List ℕ × Keyword)) (same test : Bool) → bytes_eq word entry ≡ same → eqb (length entry) (length word) ≡ test → looked_up (of_length (length word) table) word None ≡ looked_up table word None → looked_up (cond test ((entry, value) ∷ of_length (length word) table) (of_length (length word) table)) word None ≡ cond same (Some value) (looked_up table word None)
kept word entry value table true true e l h = ap (λ (v : Bool). cond v (Some value) (looked_up (of_length (length word) table) word None)) e
kept word entry value table true false e l h =
    let same : word ≡ entry = (bytes_eq-Decides word entry).0 e in
    let long : true ≡ false = sym (eq-eqb (length entry) (length word) (ap length (sym same))) ∙ l in
    absurd cc
kept word entry value table false true e l h = ap (λ (v : Bool). cond v (Some value) (looked_up (of_length (length word) table) word None)) e ∙ h
kept word entry value table false false e l h = h

of_length_is : (word : List ℕ) (table : List (List ℕ × Keyword)) → looked_up (of_length (length word) table) word None ≡ looked_up table word None
of_length_is word [] = refl
of_length_is word ((entry, value) ∷ table) = kept word entry value table (bytes_eq word entry) (eqb (length entry) (length word)) refl refl (of_length_is word table)

-- a keyword of so many letters is what stands beside it among those of that length
pub keyword_by_length : (word : List ℕ) (n : ℕ) → length word ≡ n → looked_up (of_length n all_words) word None ≡ keyword_of word
keyword_by_length word n l =
    ap (λ (k : ℕ). looked_up (of_length k all_words) word None) (sym l) ∙ of_length_is word all_words ∙ keyword_is word

none_long : (n : ℕ) (table : List (List ℕ × Keyword)) → list_all (λ entry. leb 2 (length entry.0) && leb (length entry.0) 10) table ≡ true → (n < 2) ⊎ (10 < n) → of_length n table ≡ []
none_long n [] h l = refl
none_long n ((entry, value) ∷ table) h l =
    let parts = and_parts (leb 2 (length entry) && leb (length entry) 10) (list_all (λ (e : List ℕ × Keyword). leb 2 (length e.0) && leb (length e.0) 10) table) h in
    let range = and_parts (leb 2 (length entry)) (leb (length entry) 10) parts.0 in
    let apart : eqb (length entry) n ≡ false = ne_eqb (length entry) n (λ e. elim l [
      | inl low ↦ omega (arith, leb-true 2 (length entry) range.0)
      | inr high ↦ omega (arith, leb-true (length entry) 10 range.1)
    ]) in
    ap (λ (v : Bool). cond v ((entry, value) ∷ of_length n table) (of_length n table)) apart ∙ none_long n table parts.1 l

-- no keyword has fewer than 2 letters or more than 10
pub no_keyword : (word : List ℕ) → (length word < 2) ⊎ (10 < length word) → None ≡ keyword_of word
no_keyword word l =
    ap (λ (table : List (List ℕ × Keyword)). looked_up table word None) (sym (none_long (length word) all_words refl l)) ∙ keyword_by_length word (length word) refl
