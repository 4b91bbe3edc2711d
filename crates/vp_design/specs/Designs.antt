-- The design of a text.
use Rattle.std.specs.Prelude.{◌≡◌, ◌<◌, ◌≤◌, List, length, ℕ, None, Ok}
use Rattle.vp_lex.specs.declared.token.Token.{Token}
use Rattle.vp_lex.specs.Tokens as lex
use Rattle.vp_lex.specs.Tokens.{AreTokens}
use Rattle.vp_pragma.specs.Envelopes.{Protection}
use Rattle.vp_pragma.specs.EnvelopesOf.{AreEnvelopes, IsFaultOf}
use Rattle.vp_source.specs.declared.source.Source.{Source}
use Rattle.vp_source.specs.Grammar.{Derivation, IsDerivation}
use Rattle.vp_source.specs.Layout.{IsSourceOf}
use Rattle.vp_parse.specs.Reading.{read}
use Rattle.vp_parse_expr.specs.Symbols.{symbols_of}
use Rattle.vp_parse.specs.Told.{IsUnderivable, Tells}
use Rattle.vp_elab.specs.Built.{Elaborated, design_of}
use Rattle.vp_elab.specs.Refusals.{refusal_of}
use Rattle.vp_text.specs.Refusals.{MayExplain}
use Rattle.vp_modules.specs.declared.error.ElabError.TheVariants as elab_error
use Rattle.vp_resolve.specs.declared.error.ExprError.TheVariants as expr_error
use Rattle.vp_resolve.specs.Checks as expr
use Rattle.vp_design.specs.declared.error.DesignError.{DesignError}
use Rattle.vp_design.specs.declared.error.DesignError.TheVariants as fault

-- the greatest length of the text of a design and of a policy file, in bytes (profile)
abbrev pub text_limit : ℕ
text_limit = 1048576

-- a text is not too long, and has these tokens
pub record HasTokens (text : List ℕ) (tokens : List Token) : Type 0 where
  pub fits : length text ≤ text_limit
  pub are : AreTokens text tokens

-- they have these envelopes and viewports
pub record HasEnvelopes (text : List ℕ) (tokens : List Token) (protection : Protection) : Type 0 where
  pub lexed : HasTokens text tokens
  pub are : AreEnvelopes text tokens (Ok protection)

-- and this source, which is that of a derivation of what the grammar sees of them
pub record HasSource (text : List ℕ) (source : Source) (protection : Protection) : Type 0 where
  pub tokens : List Token
  pub enveloped : HasEnvelopes text tokens protection
  pub derivation : Derivation
  pub derived : IsDerivation derivation (symbols_of text tokens)
  pub laid : IsSourceOf text tokens derivation source

-- a text has this design: it is elaborated of the text's source, and no name and no expression is refused
pub record IsDesignOf (text : List ℕ) (design : Elaborated) : Type 0 where
  pub source : Source
  pub protection : Protection
  pub parsed : HasSource text source protection
  pub names : refusal_of source protection ≡ None
  pub is_design : design ≡ design_of source protection
  pub expressions : expr.refusal_of design ≡ None

-- a text is refused by a fault: it is too long; or it is the first fault of its tokens, its envelopes, its grammar, its names and
-- its expressions, where all that comes before is right; or memory is lacking
abbrev pub IsRefusedBy : List ℕ → DesignError → Type 0
IsRefusedBy text fault.TooLong = text_limit < length text
IsRefusedBy text (fault.Tokens e) = (length text ≤ text_limit) × lex.IsFaultOf text e
IsRefusedBy text (fault.Envelopes e) = (tokens : List Token) × HasTokens text tokens × IsFaultOf text tokens e
IsRefusedBy text (fault.Source e) =
    (tokens : List Token) × (protection : Protection) × HasEnvelopes text tokens protection
    × IsUnderivable (symbols_of text tokens) e × Tells tokens (symbols_of text tokens) e (read (symbols_of text tokens))
IsRefusedBy text (fault.Names e) =
    (source : Source) × (protection : Protection) × HasSource text source protection
    × MayExplain elab_error.NoMemory (refusal_of source protection) e
IsRefusedBy text (fault.Expressions e) =
    (source : Source) × (protection : Protection) × HasSource text source protection
    × (refusal_of source protection ≡ None) × MayExplain expr_error.NoMemory (expr.refusal_of (design_of source protection)) e
IsRefusedBy text fault.NoMemory = Unit {0}
