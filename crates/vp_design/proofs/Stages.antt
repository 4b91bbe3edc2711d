-- The stages of a text, each where those before it are right.
use Rattle.std.proofs.Common.{◌≡◌, ◌∙◌, ◌≤◌, ℕ, List, length, None, Ok, sym, subst}
use Rattle.vp_text.specs.Refusals.{MayExplain}
use Rattle.vp_lex.specs.declared.token.Token.{Token}
use Rattle.vp_lex.specs.Tokens.{AreTokens}
use Rattle.vp_pragma.specs.declared.error.PragmaError.{PragmaError}
use Rattle.vp_pragma.specs.Envelopes.{Protection}
use Rattle.vp_pragma.specs.EnvelopesOf.{AreEnvelopes, IsFaultOf}
use Rattle.vp_source.specs.declared.source.Source.{Source}
use Rattle.vp_source.specs.Grammar.{Derivation, IsDerivation}
use Rattle.vp_source.specs.Layout.{IsSourceOf}
use Rattle.vp_parse.specs.declared.error.ParseError.{ParseError}
use Rattle.vp_parse.specs.Reading.{read}
use Rattle.vp_parse.specs.Told.{IsUnderivable, Tells}
use Rattle.vp_parse_expr.specs.Symbols.{symbols_of}
use Rattle.vp_elab.specs.Built.{Elaborated, design_of}
use Rattle.vp_elab.specs.Refusals.{refusal_of}
use Rattle.vp_resolve.specs.declared.error.ExprError.{ExprError}
use Rattle.vp_resolve.specs.declared.error.ExprError.TheVariants as expr_error
use Rattle.vp_resolve.specs.Checks as expr
use Rattle.vp_design.specs.declared.error.DesignError.TheVariants as fault
use Rattle.vp_design.specs.Designs.{HasEnvelopes, HasSource, HasTokens, IsDesignOf, IsRefusedBy, text_limit}

-- the tokens of a text, as they are lent to a stage
module _ (text : List ℕ) (tokens : List Token) (fits : length text ≤ text_limit) (are : AreTokens text tokens) where
  has_tokens : (lent : List Token) → lent ≡ tokens → HasTokens text lent
  has_tokens lent same = record { fits = fits; are = subst (AreTokens text) (sym same) are }

  pub envelopes_refused : (lent : List Token) (e : PragmaError) → lent ≡ tokens → IsFaultOf text lent e → IsRefusedBy text (fault.Envelopes e)
  envelopes_refused lent e same is = (lent, has_tokens lent same, is)

  module _ (first : List Token) (protection : Protection) (one : first ≡ tokens) (enveloped : AreEnvelopes text first (Ok protection)) where
    has_envelopes : (lent : List Token) → lent ≡ tokens → HasEnvelopes text lent protection
    has_envelopes lent same = record {
      lexed = has_tokens lent same;
      are = subst (λ (ts : List Token). AreEnvelopes text ts (Ok protection)) (one ∙ sym same) enveloped;
    }

    pub source_refused : (lent : List Token) (e : ParseError) → lent ≡ tokens → IsUnderivable (symbols_of text lent) e → Tells lent (symbols_of text lent) e (read (symbols_of text lent)) → IsRefusedBy text (fault.Source e)
    source_refused lent e same none tells = (lent, protection, has_envelopes lent same, none, tells)

    pub has_source : (lent : List Token) (source : Source) → lent ≡ tokens → (d : Derivation) × IsDerivation d (symbols_of text lent) × IsSourceOf text lent d source → HasSource text source protection
    has_source lent source same (d, derived, laid) = record {
      tokens = lent;
      enveloped = has_envelopes lent same;
      derivation = d;
      derived = derived;
      laid = laid;
    }

-- the expressions of a design are refused
pub expressions_refused : (text : List ℕ) (source : Source) (protection : Protection) (design : Elaborated) (e : ExprError) → HasSource text source protection → refusal_of source protection ≡ None → design ≡ design_of source protection → MayExplain expr_error.NoMemory (expr.refusal_of design) e → IsRefusedBy text (fault.Expressions e)
expressions_refused text source protection design e parsed names is refused =
    (source, protection, parsed, names, subst (λ (d : Elaborated). MayExplain expr_error.NoMemory (expr.refusal_of d) e) is refused)

-- a text has a design
pub has_design : (text : List ℕ) (source : Source) (protection : Protection) (design checked : Elaborated) → HasSource text source protection → refusal_of source protection ≡ None → design ≡ design_of source protection → checked ≡ design → expr.refusal_of design ≡ None → IsDesignOf text checked
has_design text source protection design checked parsed names is same expressions = record {
  source = source;
  protection = protection;
  parsed = parsed;
  names = names;
  is_design = same ∙ is;
  expressions = subst (λ (d : Elaborated). expr.refusal_of d ≡ None) (sym same) expressions;
}
