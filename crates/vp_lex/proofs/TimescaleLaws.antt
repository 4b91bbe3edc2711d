-- What is left of the timescales among tokens goes on by one token.
use Rattle.std.proofs.Common.{◌≡◌, ℕ, ◌+◌, ◌<◌, ◌≤◌, Bool, true, false, cond, List, [], ◌∷◌, length, get_or, drop, Option, Some, None, refl, sym, ◌∙◌, ap}
use Rattle.std.proofs.lemmas.List.{drop_more, drop_all}
use Rattle.vp_lex.specs.declared.token.Token.{Token}
use Rattle.vp_lex.specs.Timescales.{Timescale, begins_line, is_timescale, texts_on, with_timescale, timescales_after, is_before, timescales_before, are_same, differing}

-- the line of the first timescale among these tokens that says something else than the first
abbrev pub differing_after : Option (List (List ℕ)) → List ℕ → Option ℕ → ℕ → List Token → Option ℕ
differing_after first text limit line tokens = differing first (timescales_before limit (timescales_after text line tokens))

after_at : (first : Option (List (List ℕ))) (text : List ℕ) (limit : Option ℕ) (line i : ℕ) (tokens : List Token) (token : Token) → i < length tokens → token ≡ get_or tokens i token → differing_after first text limit line (drop i tokens) ≡ differing_after first text limit line (token ∷ drop (i + 1) tokens)
after_at first text limit line i tokens token l e =
    ap (differing_after first text limit line) (drop_more tokens i token l)
    ∙ ap (λ (t : Token). differing_after first text limit line (t ∷ drop (i + 1) tokens)) (sym e)

-- a token that begins no line of directives
pub after_passed : (first : Option (List (List ℕ))) (text : List ℕ) (limit : Option ℕ) (line i : ℕ) (tokens : List Token) (token : Token) → i < length tokens → token ≡ get_or tokens i token → begins_line line token ≡ false → differing_after first text limit line (drop i tokens) ≡ differing_after first text limit line (drop (i + 1) tokens)
after_passed first text limit line i tokens token l e b =
    after_at first text limit line i tokens token l e
    ∙ ap (λ (v : Bool). differing first (timescales_before limit (cond v (with_timescale text token (drop (i + 1) tokens) (timescales_after text token.line (drop (i + 1) tokens))) (timescales_after text line (drop (i + 1) tokens))))) b

begun : (first : Option (List (List ℕ))) (text : List ℕ) (limit : Option ℕ) (line i : ℕ) (tokens : List Token) (token : Token) → i < length tokens → token ≡ get_or tokens i token → begins_line line token ≡ true → differing_after first text limit line (drop i tokens) ≡ differing first (timescales_before limit (with_timescale text token (drop (i + 1) tokens) (timescales_after text token.line (drop (i + 1) tokens))))
begun first text limit line i tokens token l e b =
    after_at first text limit line i tokens token l e
    ∙ ap (λ (v : Bool). differing first (timescales_before limit (cond v (with_timescale text token (drop (i + 1) tokens) (timescales_after text token.line (drop (i + 1) tokens))) (timescales_after text line (drop (i + 1) tokens))))) b

-- a directive of another name
pub after_other : (first : Option (List (List ℕ))) (text : List ℕ) (limit : Option ℕ) (line i : ℕ) (tokens : List Token) (token : Token) → i < length tokens → token ≡ get_or tokens i token → begins_line line token ≡ true → is_timescale text token ≡ false → differing_after first text limit line (drop i tokens) ≡ differing_after first text limit token.line (drop (i + 1) tokens)
after_other first text limit line i tokens token l e b t =
    let others : List Timescale = timescales_after text token.line (drop (i + 1) tokens) in
    begun first text limit line i tokens token l e b
    ∙ ap (λ (v : Bool). differing first (timescales_before limit (cond v (record { line = token.line; texts = texts_on text token.line (drop (i + 1) tokens) } ∷ others) others))) t

late_at : (limit : Option ℕ) (timescale : Timescale) (others : List Timescale) (first : Option (List (List ℕ))) (test : Bool) → is_before limit timescale.line ≡ false → differing first (timescales_before limit (cond test (timescale ∷ others) others)) ≡ differing first (timescales_before limit others)
late_at limit timescale others first true e = ap (λ (v : Bool). differing first (cond v (timescale ∷ timescales_before limit others) (timescales_before limit others))) e
late_at limit timescale others first false e = refl

-- a directive after the line that limits
pub after_late : (first : Option (List (List ℕ))) (text : List ℕ) (limit : Option ℕ) (line i : ℕ) (tokens : List Token) (token : Token) → i < length tokens → token ≡ get_or tokens i token → begins_line line token ≡ true → is_before limit token.line ≡ false → differing_after first text limit line (drop i tokens) ≡ differing_after first text limit token.line (drop (i + 1) tokens)
after_late first text limit line i tokens token l e b t =
    begun first text limit line i tokens token l e b
    ∙ late_at limit (record { line = token.line; texts = texts_on text token.line (drop (i + 1) tokens) }) (timescales_after text token.line (drop (i + 1) tokens)) first (is_timescale text token) t

-- a timescale that counts
counted : (first : Option (List (List ℕ))) (text : List ℕ) (limit : Option ℕ) (line i : ℕ) (tokens : List Token) (token : Token) → i < length tokens → token ≡ get_or tokens i token → begins_line line token ≡ true → is_timescale text token ≡ true → is_before limit token.line ≡ true → differing_after first text limit line (drop i tokens) ≡ differing first (record { line = token.line; texts = texts_on text token.line (drop (i + 1) tokens) } ∷ timescales_before limit (timescales_after text token.line (drop (i + 1) tokens)))
counted first text limit line i tokens token l e b t c =
    let others : List Timescale = timescales_after text token.line (drop (i + 1) tokens) in
    let its : Timescale = record { line = token.line; texts = texts_on text token.line (drop (i + 1) tokens) } in
    begun first text limit line i tokens token l e b
    ∙ ap (λ (v : Bool). differing first (timescales_before limit (cond v (its ∷ others) others))) t
    ∙ ap (λ (v : Bool). differing first (cond v (its ∷ timescales_before limit others) (timescales_before limit others))) c

-- the first timescale
pub after_first : (text : List ℕ) (limit : Option ℕ) (line i : ℕ) (tokens : List Token) (token : Token) → i < length tokens → token ≡ get_or tokens i token → begins_line line token ≡ true → is_timescale text token ≡ true → is_before limit token.line ≡ true → differing_after None text limit line (drop i tokens) ≡ differing_after (Some (texts_on text token.line (drop (i + 1) tokens))) text limit token.line (drop (i + 1) tokens)
after_first text limit line i tokens token l e b t c = counted None text limit line i tokens token l e b t c

-- another, by whether it says the same
pub after_next : (texts : List (List ℕ)) (text : List ℕ) (limit : Option ℕ) (line i : ℕ) (tokens : List Token) (token : Token) → i < length tokens → token ≡ get_or tokens i token → begins_line line token ≡ true → is_timescale text token ≡ true → is_before limit token.line ≡ true → differing_after (Some texts) text limit line (drop i tokens) ≡ cond (are_same texts (texts_on text token.line (drop (i + 1) tokens))) (differing_after (Some texts) text limit token.line (drop (i + 1) tokens)) (Some token.line)
after_next texts text limit line i tokens token l e b t c = counted (Some texts) text limit line i tokens token l e b t c

-- at the end none is left
pub after_none : (first : Option (List (List ℕ))) (text : List ℕ) (limit : Option ℕ) (line i : ℕ) (tokens : List Token) → length tokens ≤ i → differing_after first text limit line (drop i tokens) ≡ None
after_none first text limit line i tokens l = ap (differing_after first text limit line) (drop_all i tokens l) ∙ nothing first
  where
    nothing : (first : Option (List (List ℕ))) → differing first [] ≡ None
    nothing None = refl
    nothing (Some texts) = refl
