-- The diagnostic of a fault of a design.
use Rattle.std.specs.Prelude.{◌≡◌, ◌<◌, ◌⊎◌, ◌-◌, ℕ, List, [], length, Option, Some, None}
use Rattle.vp_lex.specs.declared.token.Token.{Token}
use Rattle.vp_lex.specs.Faults as lex
use Rattle.vp_lex.specs.Texts.{text_of}
use Rattle.vp_lex.specs.Tokens.{AreTokens}
use Rattle.vp_lex.specs.declared.error.LexError.{LexError}
use Rattle.vp_parse.specs.declared.error.ParseError.{ParseError}
use Rattle.vp_parse.specs.declared.error.ParseError.TheVariants as grammar
use Rattle.vp_design.specs.declared.error.DesignError.{DesignError}
use Rattle.vp_design.specs.declared.error.DesignError.TheVariants as fault
use Rattle.vp_design.specs.Designs.{text_limit}
use Rattle.vp_design.specs.Faults.{code_of, line_of}
use Rattle.vp_design.specs.declared.design.Located.{Located}
use Rattle.vp_design.specs.Expected.{IsExpectedNote}
use Rattle.vp_design.specs.Fronts.{HasNoTokens, IsOffset}
use Rattle.vp_design.specs.Places.{IsTokenAtFault}
use Rattle.vp_design.specs.Rendering.{IsLocated, head_without_line}
use Rattle.vp_design.specs.Tables.{IsLeftOutNote, candidates}
use Rattle.vp_design.specs.Words.{design_words}

-- the notes on a fault of the grammar at a token: what would be read, or why it is left out
abbrev pub AreGrammarNotes : List ℕ → Token → ParseError → List ℕ → Type 0
AreGrammarNotes text token (grammar.Syntax line) notes = IsExpectedNote text token candidates notes
AreGrammarNotes text token (grammar.LeftOut word line) notes = IsLeftOutNote (text_of text token) notes
AreGrammarNotes text token _ notes = notes ≡ []

-- the notes on a fault at a token: those of the grammar; none for other faults
abbrev pub AreNotes : List ℕ → Token → DesignError → List ℕ → Type 0
AreNotes text token (fault.Source e) notes = AreGrammarNotes text token e notes
AreNotes text token _ notes = notes ≡ []

-- a token's place, and the notes, are those of a fault there
pub record IsAtToken (text : List ℕ) (token : Token) (f : DesignError) (located : Located) : Type 0 where
  pub line : located.place.line ≡ token.line
  pub offset : located.place.offset ≡ token.column - 1
  pub notes : AreNotes text token f located.notes

-- a fault of tokens stands after the longest front of its line that has tokens, without notes
pub record IsAtFront (text : List ℕ) (e : LexError) (located : Located) : Type 0 where
  pub line : located.place.line ≡ lex.line_of e
  pub offset : IsOffset text e (lex.line_of e) located.place.offset
  pub notes : located.notes ≡ []

-- where another fault of a text that has these tokens stands: at the token at fault, if there is one
abbrev pub IsLocatedAmong : List ℕ → List Token → DesignError → Option Located → Type 0
IsLocatedAmong text tokens f (Some located) = (token : Token) × IsTokenAtFault text tokens f (Some token) × IsAtToken text token f located
IsLocatedAmong text tokens f None = IsTokenAtFault text tokens f None

-- where it stands in a text, which has tokens; nowhere, where it has none
abbrev pub IsLocatedIn : List ℕ → DesignError → Option Located → Type 0
IsLocatedIn text f located =
    ((tokens : List Token) × AreTokens text tokens × IsLocatedAmong text tokens f located) ⊎ (HasNoTokens text × (located ≡ None))

-- the fault of tokens that a fault is, if it is one
abbrev pub fault_of_tokens : DesignError → Option LexError
fault_of_tokens (fault.Tokens e) = Some e
fault_of_tokens _ = None

-- where a fault stands, of tokens or not; nowhere, where the text is too long or no line is known
abbrev pub IsFoundBy : List ℕ → Option LexError → DesignError → Option Located → Type 0
IsFoundBy text e f None = (text_limit < length text) ⊎ ((line_of f ≡ 0) ⊎ IsLocatedIn text f None)
IsFoundBy text (Some e) f (Some located) = IsAtFront text e located
IsFoundBy text None f (Some located) = IsLocatedIn text f (Some located)

-- where a fault stands
abbrev pub IsFound : List ℕ → DesignError → Option Located → Type 0
IsFound text f located = IsFoundBy text (fault_of_tokens f) f located

-- the text of a fault that stands there
abbrev pub IsRendered : (name text : List ℕ) → DesignError → Option Located → List ℕ → Type 0
IsRendered name text f (Some located) result = IsLocated name text located.place (code_of f) (design_words f) located.notes result
IsRendered name text f None result = result ≡ head_without_line name (code_of f) (design_words f)

-- the diagnostic of a fault of the text of a design
abbrev pub IsDesignDiagnostic : (name text : List ℕ) → DesignError → List ℕ → Type 0
IsDesignDiagnostic name text f result =
    (located : Option Located) × IsFound text f located × IsRendered name text f located result
