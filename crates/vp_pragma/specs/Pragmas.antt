-- The pragmas of a text, line by line: what each says of envelopes and authors (clause 19.10; profile).
use Rattle.std.specs.Prelude.{◌≡◌, ℕ, ◌+◌, ◌==◌, ◌&&◌, ◌||◌, not, Bool, if◌then◌else◌, List, [], ◌∷◌, ◌++◌, map, Option, Some, None, codes}
use Rattle.std.specs.List.{enumerate_from, list_any, take_while}
use Rattle.std.specs.Str.{bytes_eq}
use Rattle.vp_lex.specs.declared.token.Token.{Token}
use Rattle.vp_lex.specs.Texts.{text_of}
use Rattle.vp_pragma.specs.declared.line.Value.{Value}
use Rattle.vp_pragma.specs.declared.line.Value.TheVariants.{Text, Pairs}
use Rattle.vp_pragma.specs.declared.line.Expression.{Expression}
use Rattle.vp_pragma.specs.declared.line.Expression.TheVariants.{Alone, Assigned, Only}
use Rattle.vp_pragma.specs.declared.pragma_effect.PragmaEffect.{PragmaEffect}
use Rattle.vp_pragma.specs.declared.pragma_effect.PragmaEffect.TheVariants.{Begins, Ends, Names, Forgets, Views, Encrypted, Bad}
use Rattle.vp_pragma.specs.declared.pragma_effect.Pragma.{Pragma}
use Rattle.vp_pragma.specs.declared.pragma_effect.Pragma.TheVariants.{Protect, Reset}
use Rattle.vp_pragma.specs.declared.pragma_effect.ViewportStrings.{ViewportStrings}
use Rattle.vp_pragma.specs.PragmaGrammar.{PragmaExpression, AreExpressions, expression_said}
use Rattle.vp_pragma.specs.TokenClasses.{Placed, is_word}

-- ---- deeds

-- the protect keywords of encrypted envelopes (clause 28)
abbrev pub encryption_words : List (List ℕ)
encryption_words =
    codes "begin_protected" ∷ codes "end_protected" ∷ codes "data_block"
    ∷ codes "key_block" ∷ codes "digest_block" ∷ codes "data_public_key" ∷ codes "data_decrypt_key"
    ∷ codes "digest_public_key" ∷ codes "digest_decrypt_key" ∷ codes "key_public_key" ∷ []

-- a word is a protect keyword of encrypted envelopes
abbrev pub is_encryption : List ℕ → Bool
is_encryption word = list_any (bytes_eq word) encryption_words

-- a deed, where something is so
abbrev pub effect_if : Bool → PragmaEffect → Option PragmaEffect
effect_if so effect = if so then Some effect else None

-- the author that a value names, by its string
abbrev pub author_effect : Value → PragmaEffect
author_effect (Text string) = Names string
author_effect _ = Bad

-- the viewport that a value says: the strings of `object` and of `access`, in this order
abbrev pub view_of : List ℕ → Value → Option ViewportStrings
view_of text (Pairs p) =
    if bytes_eq (text_of text p.first) (codes "object") && bytes_eq (text_of text p.second) (codes "access")
    then Some (record { object = p.text; access = p.other })
    else None
view_of text _ = None

-- what a keyword alone does: it opens or closes an envelope at its place, empties the author, is bad, or does nothing
abbrev pub alone_effect : ℕ → List ℕ → Option PragmaEffect
alone_effect place word =
    if bytes_eq word (codes "begin") then Some (Begins place)
    else (if bytes_eq word (codes "end") then Some (Ends place)
    else (if bytes_eq word (codes "author") then Some Bad
    else (if bytes_eq word (codes "reset") then Some Forgets
    else (if bytes_eq word (codes "viewport") then Some (Views None)
    else effect_if (is_encryption word) Encrypted))))

-- a word is a keyword that has no value
abbrev pub has_no_value : List ℕ → Bool
has_no_value word = bytes_eq word (codes "begin") || bytes_eq word (codes "end") || bytes_eq word (codes "reset")

-- what a keyword with a value does: it sets the author in force, opens a viewport, is bad, or does nothing
abbrev pub assigned_effect : List ℕ → List ℕ → Value → Option PragmaEffect
assigned_effect text word value =
    if bytes_eq word (codes "author") then Some (author_effect value)
    else (if bytes_eq word (codes "viewport") then Some (Views (view_of text value))
    else (if has_no_value word then Some Bad
    else effect_if (is_encryption word) Encrypted))

-- what an expression of a protect pragma does
abbrev pub protect_effect : List ℕ → Expression → Option PragmaEffect
protect_effect text (Alone place keyword) = alone_effect place (text_of text keyword)
protect_effect text (Assigned keyword value) = assigned_effect text (text_of text keyword) value
protect_effect text Only = None

-- what an expression of a reset pragma does: the keyword protect empties the author
abbrev pub reset_effect : List ℕ → Expression → Option PragmaEffect
reset_effect text (Alone place keyword) = effect_if (bytes_eq (text_of text keyword) (codes "protect")) Forgets
reset_effect text _ = None

-- what an expression of a pragma does
abbrev pub effect_of : Pragma → List ℕ → Expression → Option PragmaEffect
effect_of Protect text e = protect_effect text e
effect_of Reset text e = reset_effect text e

-- ---- the expressions of a pragma

-- a deed before others, if there is one
abbrev pub before_effects : Option PragmaEffect → List PragmaEffect → List PragmaEffect
before_effects None effects = effects
before_effects (Some effect) effects = effect ∷ effects

-- what expressions do, one after the other; where they are not the whole of their line, it is bad after them
abbrev pub effects_by : Pragma → List ℕ → List PragmaExpression → (whole : Bool) → List PragmaEffect
effects_by pragma text [] whole = if whole then [] else Bad ∷ []
effects_by pragma text (e ∷ es) whole = before_effects (effect_of pragma text (expression_said e)) (effects_by pragma text es whole)

-- what the expressions of a pragma do, by its tokens; it may have none
abbrev pub ExpressionsDo : Pragma → List ℕ → List Placed → List PragmaEffect → Type 0
ExpressionsDo pragma text [] effects = effects ≡ []
ExpressionsDo pragma text (p ∷ ps) effects =
    (es : List PragmaExpression) × (whole : Bool) × AreExpressions (p ∷ ps) es whole × (effects ≡ effects_by pragma text es whole)

-- ---- the pragma of a line

-- what stands on the line of a directive: nothing that has an effect, a pragma without a name, the pragma that resets all, or one with
-- expressions (clause 19.10, profile)
pub data PragmaLine : Type 0 where
  NoEffect : PragmaLine
  Unnamed : PragmaLine
  ResetAll : PragmaLine
  Expressions : Pragma → List Placed → PragmaLine

-- the pragma of a name, by the tokens after the name (profile)
abbrev pub named_line : (name : List ℕ) → List Placed → PragmaLine
named_line name ps =
    if bytes_eq name (codes "protect") then Expressions Protect ps
    else (if bytes_eq name (codes "reset") then Expressions Reset ps
    else (if bytes_eq name (codes "resetall") then ResetAll else NoEffect))

-- the pragma of these tokens
abbrev pub line_after : List ℕ → List Placed → PragmaLine
line_after text [] = Unnamed
line_after text (name ∷ ps) = if is_word name.1.kind then named_line (text_of text name.1) ps else Unnamed

-- the token is the pragma directive, and not the timescale directive (clauses 19.8 and 19.10)
abbrev pub is_pragma : List ℕ → Token → Bool
is_pragma text t = bytes_eq (text_of text t) (codes "`pragma")

-- what stands on the line of a directive, by the tokens after it: a directive that is no pragma has no effect here
abbrev pub directive_line : List ℕ → Token → List Placed → PragmaLine
directive_line text t ps = if is_pragma text t then line_after text ps else NoEffect

-- what the line of a directive does (profile)
abbrev pub LineDoes : List ℕ → PragmaLine → List PragmaEffect → Type 0
LineDoes text NoEffect effects = effects ≡ []
LineDoes text Unnamed effects = effects ≡ Bad ∷ []
LineDoes text ResetAll effects = effects ≡ Forgets ∷ []
LineDoes text (Expressions pragma ps) effects = ExpressionsDo pragma text ps effects

-- ---- the lines of a text

-- the line of a pragma on which a token stands, if it stands on one
abbrev pub pragma_line : Token → Option ℕ
pragma_line t = if t.directive then Some t.line else None

-- a token stands on the pragma of a line
abbrev pub is_on : ℕ → Token → Bool
is_on line t = t.directive && (t.line == line)

-- a token is the directive of a pragma: it stands on a pragma's line, and the token before it does not stand on that line
abbrev pub begins_line : Option ℕ → Token → Bool
begins_line None t = t.directive
begins_line (Some before) t = t.directive && not (t.line == before)

-- the tokens of a line after its directive, with their places: the longest run of those on the line, in the order of the text
abbrev pub on_line : ℕ → Token → List Token → List Placed
on_line place d ts = enumerate_from (place + 1) (take_while (is_on d.line) ts)

-- the lines of the directives among these tokens, from a place on, where the token before them stands on this directive's line or on
-- none
abbrev pub lines_from : List ℕ → Option ℕ → ℕ → List Token → List (Placed × PragmaLine)
lines_from text before place [] = []
lines_from text before place (t ∷ ts) =
    if begins_line before t
    then ((place, t), directive_line text t (on_line place t ts)) ∷ lines_from text (pragma_line t) (place + 1) ts
    else lines_from text (pragma_line t) (place + 1) ts

-- the lines of the directives of a text, in its order
abbrev pub lines_of : List ℕ → List Token → List (Placed × PragmaLine)
lines_of text tokens = lines_from text None 0 tokens

-- what lines do, one after the other, each with its directive
abbrev pub LinesDo : List ℕ → List (Placed × PragmaLine) → List (Placed × PragmaEffect) → Type 0
LinesDo text [] effects = effects ≡ []
LinesDo text (l ∷ ls) effects =
    (here : List PragmaEffect) × (more : List (Placed × PragmaEffect)) × LineDoes text l.1 here × LinesDo text ls more
    × (effects ≡ map (λ effect. (l.0, effect)) here ++ more)
