-- What the grammar sees of the first tokens, and of one more.
use Rattle.std.proofs.Common.{◌≡◌, ℕ, ◌+◌, ◌<◌, List, [], ◌∷◌, ◌++◌, length, take, get_or, Option, Some, None, refl, sym, ap, ◌∙◌, arith}
use Rattle.std.specs.Prelude.{option_map}
use Rattle.std.specs.List.{enumerate_from, filter_map, cons_option}
use Rattle.std.proofs.lemmas.List.{take_more, length-take-le}
use Rattle.std.proofs.lemmas.List.Elements.{filter_map-append}
use Rattle.vp_lex.specs.declared.token.Token.{Token}
use Rattle.vp_source.specs.declared.symbol.Symbol.{Symbol}
use Rattle.vp_source.specs.declared.symbol.SymbolKind.{SymbolKind}
use Rattle.vp_source.specs.Kinds.{symbol_at}
use Rattle.vp_parse_expr.specs.Symbols.{symbol_kind, symbols_of}

enumerate_from-append : {X : Type 0} (n m : ℕ) (xs ys : List X) → n + length xs ≡ m → enumerate_from n (xs ++ ys) ≡ enumerate_from n xs ++ enumerate_from m ys
enumerate_from-append n m [] ys e = let h : n ≡ m = omega arith in rw h refl
enumerate_from-append n m (x ∷ xs) ys e = let h = enumerate_from-append (n + 1) m xs ys (omega arith) in rw h refl

-- the symbol that is seen of a token at a place, or nothing
abbrev pub seen_at : ℕ → Option SymbolKind → List Symbol
seen_at place None = []
seen_at place (Some kind) = symbol_at kind place ∷ []

-- the symbols of tokens from a place on
abbrev seen_from : List ℕ → ℕ → List Token → List Symbol
seen_from text n ts = filter_map (λ p. option_map (λ kind. symbol_at kind p.0) (symbol_kind text p.1)) (enumerate_from n ts)

one_by : (place : ℕ) (seen : Option SymbolKind) → cons_option (option_map (λ kind. symbol_at kind place) seen) [] ≡ seen_at place seen
one_by place None = refl
one_by place (Some kind) = refl

symbols-append : (text : List ℕ) (n m : ℕ) (xs : List Token) (t : Token) → n + length xs ≡ m → seen_from text n (xs ++ t ∷ []) ≡ seen_from text n xs ++ seen_at m (symbol_kind text t)
symbols-append text n m xs t e =
    ap (filter_map (λ p. option_map (λ kind. symbol_at kind p.0) (symbol_kind text p.1))) (enumerate_from-append n m xs (t ∷ []) e)
    ∙ filter_map-append (λ p. option_map (λ kind. symbol_at kind p.0) (symbol_kind text p.1)) (enumerate_from n xs) ((m, t) ∷ [])
    ∙ ap (λ (r : List Symbol). seen_from text n xs ++ r) (one_by m (symbol_kind text t))

-- one more token
pub symbols_more : (text : List ℕ) (tokens : List Token) (i : ℕ) (d : Token) (seen : Option SymbolKind) → i < length tokens → seen ≡ symbol_kind text (get_or tokens i d) → symbols_of text (take (i + 1) tokens) ≡ symbols_of text (take i tokens) ++ seen_at i seen
symbols_more text tokens i d seen lt is =
    let n : 0 + length (take i tokens) ≡ i = omega (arith, length-take-le i tokens (omega arith)) in
    ap (symbols_of text) (take_more tokens i d lt)
    ∙ symbols-append text 0 i (take i tokens) (get_or tokens i d) n
    ∙ ap (λ (r : Option SymbolKind). symbols_of text (take i tokens) ++ seen_at i r) (sym is)
