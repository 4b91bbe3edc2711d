-- Why a construct is left out.
use Rattle.std.specs.Prelude.{ℕ, List, [], ◌∷◌, ◌++◌, bytes_eq, codes, if◌then◌else◌}
use Rattle.vp_design.specs.Expected.{quoted}

-- what stands beside a word in a table of words with their reasons; another text where the word is not there
abbrev pub reason_in : List (List ℕ × List ℕ) → (otherwise word : List ℕ) → List ℕ
reason_in [] otherwise word = otherwise
reason_in (entry ∷ table) otherwise word =
    if bytes_eq word entry.0 then entry.1 else reason_in table otherwise word

-- the note on a word that is left out, for a reason
abbrev pub left_out_note : (word reason : List ℕ) → List ℕ
left_out_note word reason = quoted word ++ (codes " is Verilog that is left out here: " ++ (reason ++ codes "\n"))
