-- A text has one design.
use Rattle.std.proofs.Common.{◌≡◌, ◌∙◌, ℕ, List, Result, Ok, sym, subst, ap}
use Rattle.vp_lex.specs.declared.token.Token.{Token}
use Rattle.vp_lex.proofs.TokenLaws.{one_list}
use Rattle.vp_pragma.specs.declared.error.PragmaError.{PragmaError}
use Rattle.vp_pragma.specs.Envelopes.{Protection}
use Rattle.vp_pragma.specs.EnvelopesOf.{AreEnvelopes}
use Rattle.vp_pragma.proofs.Lines.{envelopes_once}
use Rattle.vp_source.specs.declared.source.TheConstants.{DEPTH_LIMIT}
use Rattle.vp_source.specs.declared.source.Module.{Module}
use Rattle.vp_source.specs.declared.source.Source.{Source}
use Rattle.vp_source.specs.Grammar.{Derivation, IsDerivation}
use Rattle.vp_source.specs.Layout.{IsSourceOf, Lists, lists_of}
use Rattle.vp_parse_expr.specs.Symbols.{symbols_of}
use Rattle.vp_parse.proofs.Laws.{derived_once}
use Rattle.vp_elab.specs.Built.{Elaborated, design_of}
use Rattle.vp_design.specs.Designs.{HasSource, IsDesignOf}

-- a source is its text, its tokens, its modules and its lists
source_once : (a b : Source) → a.text ≡ b.text → a.tokens ≡ b.tokens → ◌≡◌ {A = List Module × Lists} (a.modules, lists_of a) (b.modules, lists_of b) → a ≡ b
source_once a b texts tokens parts =
    let modules : a.modules ≡ b.modules = ap (λ (x : List Module × Lists). x.0) parts in
    let lists : lists_of a ≡ lists_of b = ap (λ (x : List Module × Lists). x.1) parts in
    let make : List ℕ → List Token → List Module → Lists → Source = λ text tokens modules lists. record {
      text = text;
      tokens = tokens;
      modules = modules;
      items = lists.items;
      connections = lists.connections;
      statements = lists.parts.statements;
      expressions = lists.parts.expressions;
      terms = lists.parts.terms;
      choices = lists.parts.choices;
    } in
    ap (λ (t : List ℕ). make t a.tokens a.modules (lists_of a)) texts
    ∙ ap (λ (t : List Token). make b.text t a.modules (lists_of a)) tokens
    ∙ ap (λ (m : List Module). make b.text b.tokens m (lists_of a)) modules
    ∙ ap (make b.text b.tokens b.modules) lists

laid_once : (text : List ℕ) (tokens : List Token) (d : Derivation) (a b : Source) → IsSourceOf text tokens d a → IsSourceOf text tokens d b → a ≡ b
laid_once text tokens d a b is-a is-b =
    source_once a b (is-a.of_text ∙ sym is-b.of_text) (is-a.of_tokens ∙ sym is-b.of_tokens) (is-a.parts ∙ sym is-b.parts)

protection_once : (a b : Protection) → ◌≡◌ {A = Result Protection PragmaError} (Ok a) (Ok b) → a ≡ b
protection_once a b same = cc

-- its source is one, and so are its envelopes and viewports
parsed_once : (text : List ℕ) (s t : Source) (p q : Protection) → HasSource text s p → HasSource text t q → design_of s p ≡ design_of t q
parsed_once text s t p q a b =
    let tokens : a.tokens ≡ b.tokens = one_list text a.tokens b.tokens a.enveloped.lexed.are b.enveloped.lexed.are in
    let own-are = subst (λ (ts : List Token). AreEnvelopes text ts (Ok p)) tokens a.enveloped.are in
    let protections : p ≡ q = protection_once p q (envelopes_once text b.tokens (Ok p) (Ok q) own-are b.enveloped.are) in
    let derived = subst (λ (ts : List Token). IsDerivation a.derivation (symbols_of text ts)) tokens a.derived in
    let derivations : a.derivation ≡ b.derivation = derived_once DEPTH_LIMIT (symbols_of text b.tokens) a.derivation b.derivation derived b.derived in
    let laid = subst (λ (d : Derivation). IsSourceOf text b.tokens d s) derivations (subst (λ (ts : List Token). IsSourceOf text ts a.derivation s) tokens a.laid) in
    let sources : s ≡ t = laid_once text b.tokens b.derivation s t laid b.laid in
    ap (λ (x : Source). design_of x p) sources ∙ ap (design_of t) protections

-- a text has one design
pub design_once : (text : List ℕ) (d e : Elaborated) → IsDesignOf text d → IsDesignOf text e → d ≡ e
design_once text d e a b =
    a.is_design ∙ parsed_once text a.source b.source a.protection b.protection a.parsed b.parsed ∙ sym b.is_design
