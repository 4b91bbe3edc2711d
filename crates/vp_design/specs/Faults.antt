-- The numbers and the lines of the faults of a design's text.
use Rattle.std.specs.Prelude.{ℕ}
use Rattle.vp_lex.specs.Faults as lex
use Rattle.vp_pragma.specs.Faults as pragma
use Rattle.vp_parse.specs.Faults as parse
use Rattle.vp_modules.specs.Faults as elab
use Rattle.vp_resolve.specs.Faults as expr
use Rattle.vp_design.specs.declared.error.DesignError.{DesignError}
use Rattle.vp_design.specs.declared.error.DesignError.TheVariants.{Tokens, Envelopes, Source, Names, Expressions, TooLong, NoMemory}

-- the number of a fault (profile)
abbrev pub code_of : DesignError → ℕ
code_of (Tokens e) = lex.code_of e
code_of (Envelopes e) = pragma.code_of e
code_of (Source e) = parse.code_of e
code_of (Names e) = elab.code_of e
code_of (Expressions e) = expr.code_of e
code_of TooLong = 1603
code_of NoMemory = 1607

-- its line in the text, 0 where none is known (profile)
abbrev pub line_of : DesignError → ℕ
line_of (Tokens e) = lex.line_of e
line_of (Envelopes e) = pragma.line_of e
line_of (Source e) = parse.line_of e
line_of (Names e) = elab.line_of e
line_of (Expressions e) = expr.line_of e
line_of TooLong = 0
line_of NoMemory = 0
