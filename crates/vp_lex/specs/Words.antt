-- The keywords, by their words.
use Rattle.std.specs.Prelude.{ℕ, List, [], ◌∷◌, Option, Some, None, map, codes, bytes_eq, if◌then◌else◌}
use Rattle.std.specs.Borrow.{Bor}
use Rattle.vp_lex.specs.declared.keyword.Keyword.{Keyword}
use Rattle.vp_lex.specs.declared.keyword.Keyword.TheVariants as keyword
use Rattle.vp_lex.specs.Tables.{looked_up}

-- the keywords that the language uses, and casex, each with its word (IEEE Std 1364-2005, annex B; profile)
abbrev pub used_words : List (List ℕ × Keyword)
used_words =
    (codes "module", keyword.Module) ∷ (codes "endmodule", keyword.Endmodule)
    ∷ (codes "input", keyword.Input) ∷ (codes "output", keyword.Output)
    ∷ (codes "wire", keyword.Wire) ∷ (codes "reg", keyword.Reg)
    ∷ (codes "localparam", keyword.Localparam) ∷ (codes "assign", keyword.Assign)
    ∷ (codes "initial", keyword.Initial) ∷ (codes "always", keyword.Always)
    ∷ (codes "begin", keyword.Begin) ∷ (codes "end", keyword.End)
    ∷ (codes "if", keyword.If) ∷ (codes "else", keyword.Else)
    ∷ (codes "case", keyword.Case) ∷ (codes "casez", keyword.Casez)
    ∷ (codes "endcase", keyword.Endcase) ∷ (codes "default", keyword.Default)
    ∷ (codes "while", keyword.While) ∷ (codes "for", keyword.For)
    ∷ (codes "forever", keyword.Forever) ∷ (codes "wait", keyword.Wait)
    ∷ (codes "posedge", keyword.Posedge) ∷ (codes "negedge", keyword.Negedge)
    ∷ (codes "or", keyword.Or) ∷ (codes "casex", keyword.Casex)
    ∷ []

-- the other keywords that the language leaves out (IEEE Std 1364-2005, annex B; profile)
abbrev pub left_out_words : List (List ℕ)
left_out_words =
    codes "inout" ∷ codes "parameter" ∷ codes "defparam" ∷ codes "generate" ∷ codes "genvar" ∷ codes "task"
    ∷ codes "function" ∷ codes "specify" ∷ codes "signed" ∷ codes "integer" ∷ codes "time" ∷ codes "real"
    ∷ codes "realtime" ∷ codes "event" ∷ codes "tri" ∷ codes "supply0" ∷ codes "supply1" ∷ codes "primitive"
    ∷ codes "fork" ∷ codes "join" ∷ codes "repeat" ∷ codes "disable" ∷ codes "force" ∷ codes "release"
    ∷ codes "deassign" ∷ codes "and" ∷ codes "nand" ∷ codes "nor" ∷ codes "not" ∷ codes "xor" ∷ codes "xnor"
    ∷ codes "buf" ∷ []

-- a keyword that is left out, if the word is in a list
abbrev pub left_out : List (List ℕ) → List ℕ → Option Keyword
left_out [] word = None
left_out (entry ∷ entries) word = if bytes_eq word entry then Some keyword.LeftOut else left_out entries word

-- the keyword that a word is, if it is one (IEEE Std 1364-2005, 3.7.2 and annex B)
abbrev pub keyword_of : List ℕ → Option Keyword
keyword_of word = looked_up used_words word (left_out left_out_words word)

-- what a table of words beside their keywords says of a word
abbrev pub found_in : List (Bor (List ℕ) × Keyword) → List ℕ → Option Keyword
found_in table word = looked_up (map (λ entry. (entry.0.now, entry.1)) table) word None
