-- The tables of candidates and of reasons.
use Rattle.std.specs.Prelude.{◌≡◌, ℕ, List, map}
use Rattle.vp_design.specs.LeftOut.{left_out_note, reason_in}
use Rattle.vp_design.specs.declared.expected.TheConstants.{CANDIDATES}
use Rattle.vp_design.specs.declared.unsupported.TheConstants.{OTHERWISE, REASONS}

-- what is tried where a text has a syntax error, with the words for it
abbrev pub candidates : List (List ℕ × List ℕ)
candidates = map (λ c. (c.0.now, c.1.now)) CANDIDATES

-- the words that are left out, with their reasons
abbrev pub reasons : List (List ℕ × List ℕ)
reasons = map (λ c. (c.0.now, c.1.now)) REASONS

-- the reason of another
abbrev pub other_reason : List ℕ
other_reason = OTHERWISE.now

-- the note on a word that is left out, with its reason by the table
unfoldable pub IsLeftOutNote : (word note : List ℕ) → Type 0
IsLeftOutNote word note = note ≡ left_out_note word (reason_in reasons other_reason word)
