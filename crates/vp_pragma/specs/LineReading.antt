-- The pragmas of a text as they are read, token by token.
use Rattle.std.specs.Prelude.{ℕ, zero, suc, ◌+◌, ◌==◌, not, Bool, if◌then◌else◌, List, [], ◌∷◌, ◌++◌, length, map, Option, Some, None, option_map, option_and_then, Result, Ok, codes}
use Rattle.std.specs.Option.{option_map_or}
use Rattle.std.specs.Str.{bytes_eq}
use Rattle.vp_lex.specs.declared.token.Token.{Token}
use Rattle.vp_lex.specs.declared.token.TokenKind.{TokenKind}
use Rattle.vp_lex.specs.Texts.{text_of}
use Rattle.vp_pragma.specs.declared.pragma_effect.PragmaEffect.{PragmaEffect}
use Rattle.vp_pragma.specs.declared.pragma_effect.PragmaEffect.TheVariants.{Forgets, Bad}
use Rattle.vp_pragma.specs.declared.pragma_effect.Pragma.{Pragma}
use Rattle.vp_pragma.specs.declared.pragma_effect.Pragma.TheVariants.{Protect, Reset}
use Rattle.vp_pragma.specs.declared.line.Expression.{Expression}
use Rattle.vp_pragma.specs.declared.line.Expression.TheVariants.{Alone, Assigned, Only}
use Rattle.vp_pragma.specs.declared.line.Pair.{Pair}
use Rattle.vp_pragma.specs.declared.line.Value.{Value}
use Rattle.vp_pragma.specs.declared.line.Value.TheVariants.{Text, Pairs, Other}
use Rattle.vp_pragma.specs.declared.lists.Due.TheVariants as due
use Rattle.vp_pragma.specs.declared.token_class.TokenClass.{TokenClass}
use Rattle.vp_pragma.specs.declared.token_class.TokenClass.TheVariants as token_class
use Rattle.vp_pragma.specs.declared.error.PragmaError.{PragmaError}
use Rattle.vp_pragma.specs.Envelopes.{Protection}
use Rattle.vp_pragma.specs.EnvelopesOf.{after_effects, at_start, envelopes_after}
use Rattle.vp_pragma.specs.Lists.{scan}
use Rattle.vp_pragma.specs.Pragmas.{before_effects, begins_line, effect_of, is_pragma, on_line, pragma_line}
use Rattle.vp_pragma.specs.TokenClasses.{Placed, begins_with, is_base, is_close, is_comma, is_equals, is_string, is_word, rest_of, class_of}

-- a token of a kind at the front of these, and what follows it
abbrev pub token_if : (TokenKind → Bool) → List Placed → Option (Token × List Placed)
token_if test [] = None
token_if test (p ∷ ps) = if test p.1.kind then Some (p.1, ps) else None

-- what follows a token of a kind
abbrev pub after_sign : (TokenKind → Bool) → List Placed → Option (List Placed)
after_sign test ps = if begins_with test ps then Some (rest_of ps) else None

-- a keyword with a string at the front of these tokens, and what follows it
abbrev pub keyword_text : List Placed → Option (Token × Token × List Placed)
keyword_text ps =
    option_and_then (λ word. option_and_then (λ remainder. option_map (λ text. (word.0, text.0, text.1)) (token_if is_string remainder)) (after_sign is_equals word.1))
    (token_if is_word ps)

-- the last keyword with a string of a list of two, after the first one
abbrev pub pair_with : Token × Token × List Placed → Option Pair
pair_with first =
    option_and_then (λ remainder. option_and_then (λ second. option_map (λ _. record { first = first.0; text = first.1; second = second.0; other = second.1 }) (after_sign is_close second.2))
    (keyword_text remainder)) (after_sign is_comma first.2)

-- two keywords with strings, at the front of these tokens, that end a list
abbrev pub pair_found : List Placed → Option Pair
pair_found ps = option_and_then pair_with (keyword_text ps)

-- the value of a list, from after its parenthesis
abbrev pub pair_of : List Placed → Value
pair_of ps = option_map_or (λ p. Pairs p) (pair_found ps) Other

-- a value at the front of these tokens, and what follows it: a string, a number with or without a base part, a base part, a word, or a
-- list
abbrev pub value_by : TokenClass → Placed → List Placed → Option (Value × List Placed)
value_by token_class.Text p ps = Some (Text p.1, ps)
value_by token_class.Number p ps = Some (Other, if begins_with is_base ps then rest_of ps else ps)
value_by token_class.Base p ps = Some (Other, ps)
value_by token_class.Word p ps = Some (Other, ps)
value_by token_class.Opening p ps = option_map (λ rest. (pair_of ps, rest)) (scan due.Expression 0 ps)
value_by _ p ps = None

-- the same, by the first of these tokens
abbrev pub pragma_value : List Placed → Option (Value × List Placed)
pragma_value [] = None
pragma_value (p ∷ ps) = value_by (class_of p.1.kind) p ps

-- an expression at the front of these tokens, and what follows it: a keyword alone, a keyword with a value, or a value
abbrev pub expression_at : List Placed → Option (Expression × List Placed)
expression_at [] = None
expression_at (p ∷ ps) =
    if not (is_word p.1.kind) then option_map (λ v. (Only, v.1)) (pragma_value (p ∷ ps))
    else (if begins_with is_equals ps
    then option_map (λ v. (Assigned p.1 v.0, v.1)) (pragma_value (rest_of ps))
    else Some (Alone p.0 p.1, ps))

-- what follows an expression does: nothing where it is the last, and else what is reported of the tokens after a comma
abbrev pub next_effects : (List Placed → List PragmaEffect) → List Placed → List PragmaEffect
next_effects more [] = []
next_effects more (p ∷ ps) = if is_comma p.1.kind then more ps else Bad ∷ []

-- what an expression and what follows it do; where there is none, the pragma is bad
abbrev pub first_effects : Pragma → List ℕ → (List Placed → List PragmaEffect) → Option (Expression × List Placed) → List PragmaEffect
first_effects pragma text more None = Bad ∷ []
first_effects pragma text more (Some e) = before_effects (effect_of pragma text e.0) (next_effects more e.1)

-- what expressions separated by commas do, up to the first that is none, at most so many
abbrev pub effects_from : Pragma → List ℕ → ℕ → List Placed → List PragmaEffect
effects_from pragma text zero ps = Bad ∷ []
effects_from pragma text (suc n) ps = first_effects pragma text (effects_from pragma text n) (expression_at ps)

-- what the expressions of a pragma do; it may have none
abbrev pub all_effects : Pragma → List ℕ → List Placed → List PragmaEffect
all_effects pragma text ps = if length ps == 0 then [] else effects_from pragma text (length ps) ps

-- what the pragma of a name does, by the tokens after the name (profile)
abbrev pub named_effects : List ℕ → List ℕ → List Placed → List PragmaEffect
named_effects text name ps =
    if bytes_eq name (codes "protect") then all_effects Protect text ps
    else (if bytes_eq name (codes "reset") then all_effects Reset text ps
    else (if bytes_eq name (codes "resetall") then Forgets ∷ [] else []))

-- what a pragma does, by the tokens after its directive
abbrev pub line_effects : List ℕ → List Placed → List PragmaEffect
line_effects text [] = Bad ∷ []
line_effects text (name ∷ ps) =
    if is_word name.1.kind then named_effects text (text_of text name.1) ps else Bad ∷ []

-- what a directive does, by the tokens after it: nothing, if it is no pragma (clause 19.10)
abbrev pub directive_effects : List ℕ → Token → List Placed → List PragmaEffect
directive_effects text t ps = if is_pragma text t then line_effects text ps else []

-- what a token does as the directive of a pragma, at a place and before these tokens; nothing where it is none
abbrev pub effects_at : List ℕ → Option ℕ → ℕ → Token → List Token → List PragmaEffect
effects_at text before place t ts = if begins_line before t then directive_effects text t (on_line place t ts) else []

-- what the pragmas of these tokens do from a place on, where the token before them stands on this pragma's line or on none
abbrev pub effects_after : List ℕ → Option ℕ → ℕ → List Token → List (Placed × PragmaEffect)
effects_after text before place [] = []
effects_after text before place (t ∷ ts) =
    map (λ effect. ((place, t), effect)) (effects_at text before place t ts) ++ effects_after text (pragma_line t) (place + 1) ts

-- what the pragmas of a text do, in its order, each with the directive of its line
abbrev pub effects_of_text : List ℕ → List Token → List (Placed × PragmaEffect)
effects_of_text text tokens = effects_after text None 0 tokens

-- the envelopes of a text and its viewports, or the first fault of its pragmas, as they are read
abbrev pub envelopes_read : List ℕ → List Token → Result Protection PragmaError
envelopes_read text tokens = envelopes_after (after_effects text tokens (Ok at_start) (effects_of_text text tokens))
