-- The words of faults (profile).
use Rattle.std.specs.Prelude.{ℕ, List, codes}
use Rattle.vp_lex.specs.declared.error.LexError.{LexError}
use Rattle.vp_lex.specs.declared.error.LexError.TheVariants as lex
use Rattle.vp_pragma.specs.declared.error.PragmaError.{PragmaError}
use Rattle.vp_pragma.specs.declared.error.PragmaError.TheVariants as pragma
use Rattle.vp_parse.specs.declared.error.ParseError.{ParseError}
use Rattle.vp_parse.specs.declared.error.ParseError.TheVariants as grammar
use Rattle.vp_modules.specs.declared.error.ElabError.{ElabError}
use Rattle.vp_modules.specs.declared.error.ElabError.TheVariants as name
use Rattle.vp_resolve.specs.declared.error.ExprError.{ExprError}
use Rattle.vp_resolve.specs.declared.error.ExprError.TheVariants as expression
use Rattle.vp_design.specs.declared.error.DesignError.{DesignError}
use Rattle.vp_design.specs.declared.error.DesignError.TheVariants as design
use Rattle.vp_policy.specs.declared.error.PolicyError.{PolicyError}
use Rattle.vp_policy.specs.declared.error.PolicyError.TheVariants as policy

-- the words of a fault of tokens (201 to 206)
abbrev pub token_words : LexError → List ℕ
token_words (lex.BadCharacter line) = codes "no token begins here"
token_words (lex.OpenComment line) = codes "the comment does not end"
token_words (lex.OpenString line) = codes "the string does not end on its line"
token_words (lex.UnknownDirective line) = codes "only `pragma and `timescale are read here"
token_words (lex.TimescaleDiffers line) = codes "the timescale is not the first one"
token_words lex.NoMemory = codes "no memory"

-- the words of a fault of envelopes (301 to 310)
abbrev pub pragma_words : PragmaError → List ℕ
pragma_words (pragma.NestedBegin line) = codes "an envelope begins within an envelope"
pragma_words (pragma.EndWithoutBegin line) = codes "an envelope ends that did not begin"
pragma_words (pragma.OpenEnvelope line) = codes "the envelope does not end"
pragma_words (pragma.Unbalanced line) = codes "an envelope may not begin or end here, but between items"
pragma_words (pragma.ViewportOutside line) = codes "a viewport outside of every envelope"
pragma_words (pragma.BadAccess line) = codes "the rights are list, read, watch, put and race, joined by +"
pragma_words (pragma.NeedsDecryption line) = codes "encrypted envelopes are not read"
pragma_words (pragma.TooMany line) = codes "more than 255 envelopes"
pragma_words (pragma.BadPragma line) = codes "bad pragma"
pragma_words pragma.NoMemory = codes "no memory"

-- the words of a fault of the grammar (401 to 404)
abbrev pub grammar_words : ParseError → List ℕ
grammar_words (grammar.Syntax line) = codes "syntax error"
grammar_words (grammar.LeftOut word line) = codes "left out"
grammar_words (grammar.TooDeep line) = codes "nested more than 64 deep"
grammar_words grammar.NoMemory = codes "no memory"

-- the words of a fault of names (501 to 510)
abbrev pub name_words : ElabError → List ℕ
name_words (name.Duplicate line) = codes "the name is declared already"
name_words (name.UnknownModule line) = codes "no such module"
name_words (name.Recursive line) = codes "the module instantiates itself"
name_words (name.Undeclared line) = codes "not declared"
name_words (name.BadTarget line) = codes "a procedure assigns a reg, and assign a net that is no input"
name_words (name.BadConnection line) = codes "no port that can be connected so"
name_words (name.MultipleDrivers line) = codes "the net has a driver already"
name_words name.TooManyObjects = codes "too many objects"
name_words (name.ViewportUnknown line) = codes "no item of this name for a viewport"
name_words name.NoMemory = codes "no memory"

-- the words of a fault of expressions (601 to 604)
abbrev pub expression_words : ExprError → List ℕ
expression_words (expression.TooWide line) = codes "wider than 64 bits"
expression_words (expression.SignedCompare line) = codes "comparison of signed operands"
expression_words (expression.BadSelect line) = codes "a select that is not within its range"
expression_words expression.NoMemory = codes "no memory"

-- the words of a fault of a design
abbrev pub design_words : DesignError → List ℕ
design_words (design.Tokens e) = token_words e
design_words (design.Envelopes e) = pragma_words e
design_words (design.Source e) = grammar_words e
design_words (design.Names e) = name_words e
design_words (design.Expressions e) = expression_words e
design_words design.TooLong = codes "a design has at most 1,048,576 bytes"
design_words design.NoMemory = codes "no memory"

-- the words of a fault of a policy (901 to 905)
abbrev pub policy_words : PolicyError → List ℕ
policy_words policy.BadPolicy = codes "no policy"
policy_words policy.DuplicateUser = codes "two users of one name"
policy_words policy.NoSuchEnvelope = codes "the design has no such envelope"
policy_words policy.TooManyUsers = codes "more than 256 users"
policy_words policy.NoMemory = codes "no memory"
