-- What stands around a place of a text: whether an envelope may begin or end there, and in which module.
use Rattle.std.specs.Prelude.{ℕ, ◌≤◌, ◌+◌, ◌-◌, ◌==◌, ◌&&◌, not, Bool, true, false, if◌then◌else◌, List, map, filter, take, drop, fold, count_by, Option, Some, None, option_map}
use Rattle.std.specs.List.{find}
use Rattle.std.specs.Option.{option_map_or}
use Rattle.vp_lex.specs.declared.keyword.Keyword.TheVariants as keyword
use Rattle.vp_lex.specs.declared.token.Punctuator.TheVariants as punctuator
use Rattle.vp_lex.specs.declared.token.Token.{Token}
use Rattle.vp_lex.specs.declared.token.TokenKind.{TokenKind}
use Rattle.vp_lex.specs.declared.token.TokenKind.TheVariants as token
use Rattle.vp_pragma.specs.declared.surroundings.Surroundings.{Surroundings}

-- the kinds of the tokens before a place that the grammar sees
abbrev pub kinds_before : ℕ → List Token → List TokenKind
kinds_before place tokens = map (λ t. t.kind) (filter (λ t. not t.directive) (take place tokens))

-- the kind of the first token from a place on that the grammar sees
abbrev pub kind_from : ℕ → List Token → Option TokenKind
kind_from place tokens = option_map (λ t. t.kind) (find (λ t. not t.directive) (drop place tokens))

-- a begin block opens (clause 9.8.1)
abbrev pub opens_block : TokenKind → Bool
opens_block (token.Keyword keyword.Begin) = true
opens_block _ = false

-- a begin block closes (clause 9.8.1)
abbrev pub closes_block : TokenKind → Bool
closes_block (token.Keyword keyword.End) = true
closes_block _ = false

-- a case statement opens (clause 9.5)
abbrev pub opens_case : TokenKind → Bool
opens_case (token.Keyword keyword.Case) = true
opens_case (token.Keyword keyword.Casez) = true
opens_case (token.Keyword keyword.Casex) = true
opens_case _ = false

-- a case statement closes (clause 9.5)
abbrev pub closes_case : TokenKind → Bool
closes_case (token.Keyword keyword.Endcase) = true
closes_case _ = false

-- a parenthesis opens
abbrev pub opens_parenthesis : TokenKind → Bool
opens_parenthesis (token.Punctuator punctuator.LeftParenthesis) = true
opens_parenthesis _ = false

-- a parenthesis closes
abbrev pub closes_parenthesis : TokenKind → Bool
closes_parenthesis (token.Punctuator punctuator.RightParenthesis) = true
closes_parenthesis _ = false

-- a bracket opens
abbrev pub opens_bracket : TokenKind → Bool
opens_bracket (token.Punctuator punctuator.LeftBracket) = true
opens_bracket _ = false

-- a bracket closes
abbrev pub closes_bracket : TokenKind → Bool
closes_bracket (token.Punctuator punctuator.RightBracket) = true
closes_bracket _ = false

-- a brace opens
abbrev pub opens_brace : TokenKind → Bool
opens_brace (token.Punctuator punctuator.LeftBrace) = true
opens_brace _ = false

-- a brace closes
abbrev pub closes_brace : TokenKind → Bool
closes_brace (token.Punctuator punctuator.RightBrace) = true
closes_brace _ = false

-- a module begins (clause 12.1)
abbrev pub begins_module : TokenKind → Bool
begins_module (token.Keyword keyword.Module) = true
begins_module _ = false

-- a module ends (clause 12.1)
abbrev pub ends_module : TokenKind → Bool
ends_module (token.Keyword keyword.Endmodule) = true
ends_module _ = false

-- a statement, an item or a module may end with this token
abbrev pub may_end : TokenKind → Bool
may_end (token.Punctuator punctuator.Semicolon) = true
may_end (token.Keyword keyword.End) = true
may_end (token.Keyword keyword.Endcase) = true
may_end (token.Keyword keyword.Endmodule) = true
may_end _ = false

-- the other branch of an if begins (clause 9.4)
abbrev pub is_else : TokenKind → Bool
is_else (token.Keyword keyword.Else) = true
is_else _ = false

-- how many are open after these kinds, where a closing without an opening counts nothing (profile)
abbrev pub open_count : (TokenKind → Bool) → (TokenKind → Bool) → List TokenKind → ℕ
open_count opens closes kinds = fold (λ n kind. if opens kind then n + 1 else (if closes kind then n - 1 else n)) 0 kinds

-- the last of these kinds is absent, or one that may end a statement, an item or a module
abbrev pub is_at_boundary : List TokenKind → Bool
is_at_boundary kinds = fold (λ before kind. may_end kind) true kinds

-- no block, case, parenthesis, bracket or brace is open after these kinds, each counted by itself, and a statement, an item or a
-- module may have ended (profile)
abbrev pub is_free_after : List TokenKind → Bool
is_free_after kinds =
    (open_count opens_block closes_block kinds == 0)
    && (open_count opens_case closes_case kinds == 0)
    && (open_count opens_parenthesis closes_parenthesis kinds == 0)
    && (open_count opens_bracket closes_bracket kinds == 0)
    && (open_count opens_brace closes_brace kinds == 0)
    && is_at_boundary kinds

-- the grammar's next token from a place on is an else
abbrev pub is_before_else : List Token → ℕ → Bool
is_before_else tokens place = option_map_or is_else (kind_from place tokens) false

-- an envelope may begin or end on the line of the directive at a place (profile)
abbrev pub is_free : List Token → ℕ → Bool
is_free tokens place = is_free_after (kinds_before place tokens) && not (is_before_else tokens place)

-- after these kinds a module is open
abbrev pub is_in_module : List TokenKind → Bool
is_in_module kinds = fold (λ inside kind. if begins_module kind then true else (if ends_module kind then false else inside)) false kinds

-- after these kinds the how-many-th module is open; none outside of all modules
abbrev pub module_after : List TokenKind → Option ℕ
module_after kinds = if is_in_module kinds then Some (count_by begins_module kinds) else None

-- the how-many-th module a place stands in; none outside of all modules
abbrev pub module_at : List Token → ℕ → Option ℕ
module_at tokens place = module_after (kinds_before place tokens)

-- ---- as they are kept while a text is read

-- what is open after these kinds
abbrev pub around_of : List TokenKind → Surroundings
around_of kinds = record {
  blocks = open_count opens_block closes_block kinds;
  cases = open_count opens_case closes_case kinds;
  parentheses = open_count opens_parenthesis closes_parenthesis kinds;
  brackets = open_count opens_bracket closes_bracket kinds;
  braces = open_count opens_brace closes_brace kinds;
  modules = count_by begins_module kinds;
  in_module = is_in_module kinds;
  at_boundary = is_at_boundary kinds;
}

-- the count after one more token that opens, closes, or does neither
abbrev pub counted : Bool → Bool → ℕ → ℕ
counted opens closes n = if opens then n + 1 else (if closes then n - 1 else n)

-- what is open after one more token
abbrev pub around_after : Surroundings → TokenKind → Surroundings
around_after s kind = record {
  blocks = counted (opens_block kind) (closes_block kind) s.blocks;
  cases = counted (opens_case kind) (closes_case kind) s.cases;
  parentheses = counted (opens_parenthesis kind) (closes_parenthesis kind) s.parentheses;
  brackets = counted (opens_bracket kind) (closes_bracket kind) s.brackets;
  braces = counted (opens_brace kind) (closes_brace kind) s.braces;
  modules = counted (begins_module kind) false s.modules;
  in_module = if begins_module kind then true else (if ends_module kind then false else s.in_module);
  at_boundary = may_end kind;
}

-- the same, where a statement, an item or a module may have ended or not
abbrev pub with_boundary : Bool → Surroundings → Surroundings
with_boundary at_boundary s = record s { at_boundary = at_boundary }

-- nothing is open, and a statement, an item or a module may have ended
abbrev pub is_free_around : Surroundings → Bool
is_free_around s =
    (s.blocks == 0) && (s.cases == 0) && (s.parentheses == 0) && (s.brackets == 0) && (s.braces == 0) && s.at_boundary

-- no count is above this
abbrev pub CountsUpTo : ℕ → Surroundings → Type 0
CountsUpTo limit s =
    (s.blocks ≤ limit) × (s.cases ≤ limit) × (s.parentheses ≤ limit) × (s.brackets ≤ limit) × (s.braces ≤ limit)
    × (s.modules ≤ limit)
