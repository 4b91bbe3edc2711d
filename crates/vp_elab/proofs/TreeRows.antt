-- The tree of a text with one envelope, computed from its bytes. Each row is an equation that holds by computation.
use Rattle.std.proofs.Common.{◌≡◌, ℕ, List, [], ◌∷◌, Some, None, Result, Ok, Err, refl}
use Rattle.std.specs.Prelude.{codes}
use Rattle.std.specs.Fmt.{digits}
use Rattle.std.specs.Str.{chars, is_utf8}
use Rattle.std.specs.Char.{encode_utf8}
use Rattle.vp_lex.specs.declared.error.LexError.{LexError}
use Rattle.vp_lex.specs.declared.token.Token.{Token}
use Rattle.vp_lex.specs.Tokens.{tokens_of}
use Rattle.vp_source.specs.declared.statement.Span.{Span}
use Rattle.vp_source.specs.declared.source.Source.{Source}
use Rattle.vp_source.specs.declared.source.Item.TheVariants as item
use Rattle.vp_pragma.specs.declared.error.PragmaError.{PragmaError}
use Rattle.vp_pragma.specs.Envelopes.{Protection}
use Rattle.vp_pragma.specs.LineReading.{envelopes_read}
use Rattle.vp_pragma.specs.Lists.{scan}
use Rattle.vp_elab.specs.declared.object.Kind.{Kind}
use Rattle.vp_elab.specs.declared.object.Kind.TheVariants.{Module, Reg, Initial}
use Rattle.vp_elab.specs.Tree.{Step, Node, Tree}
use Rattle.vp_elab.specs.Elaboration.{further_limit, tree_of}

abbrev text : List ℕ
text = codes "module top;\n  reg a;\n`pragma protect author=\"acme\", begin\n  reg k;\n`pragma protect end\n  initial begin end\nendmodule\n"

abbrev tokens_in : Result (List Token) LexError → List Token
tokens_in (Ok tokens) = tokens
tokens_in (Err e) = []

abbrev protection_in : Result Protection PragmaError → Protection
protection_in (Ok protection) = protection
protection_in (Err e) = record { envelopes = []; viewports = [] }

abbrev span : ℕ → ℕ → Span
span first end = record { first = first; end = end }

-- the source of the text: its statements name nothing
abbrev source : Source
source = record {
  text = text;
  tokens = tokens_in (tokens_of text);
  modules = record { name = 1; items = span 0 3; ports = 0; statements = span 0 0; expressions = span 0 0; terms = span 0 0; choices = span 0 0 } ∷ [];
  items = item.Reg 4 None ∷ item.Reg 14 None ∷ item.Initial 19 0 ∷ [];
  connections = [];
  statements = [];
  expressions = [];
  terms = [];
  choices = [];
}

abbrev tree : Tree
tree = tree_of source (protection_in (envelopes_read text (tokens_in (tokens_of text))))

abbrev root : Step
root = record { name = codes "top"; place = 1; envelope = 0; in_module = None }

abbrev declared : List ℕ → ℕ → ℕ → Kind → ℕ → Node
declared name place envelope kind line = record {
  path = root ∷ record { name = name; place = place; envelope = envelope; in_module = Some (codes "top") } ∷ [];
  kind = kind;
  width = 1;
  lowest = None;
  line = line;
  definition = None;
}

nodes_of_text :
    tree.nodes
    ≡ record { path = root ∷ []; kind = Module; width = 1; lowest = None; line = 1; definition = Some (codes "top") }
    ∷ declared (codes "a") 4 0 Reg 2
    ∷ declared (codes "k") 14 1 Reg 4
    ∷ declared (codes "initial@6:3") 19 0 Initial 6
    ∷ []
unfolding digits is_utf8 chars encode_utf8 scan further_limit
nodes_of_text = refl

authors_of_text : tree.authors ≡ codes "acme" ∷ []
unfolding is_utf8 chars encode_utf8 scan
authors_of_text = refl
