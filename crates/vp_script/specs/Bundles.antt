-- A bundle, cut at its lines `%%` (profile).
use Rattle.std.specs.Prelude.{ℕ, if◌then◌else◌, List, [], ◌∷◌, ◌++◌, Option, Some, None, option_map, codes}
use Rattle.std.specs.Str.{bytes_eq}
use Rattle.vp_text.specs.Texts.{parts}

-- lines, with newlines between them
abbrev pub joined : List (List ℕ) → List ℕ
joined [] = []
joined (line ∷ []) = line
joined (line ∷ next ∷ lines) = line ++ 10 ∷ joined (next ∷ lines)

-- a cut text with this in front
abbrev pub prefixed : List ℕ → Option (List ℕ × List ℕ) → Option (List ℕ × List ℕ)
prefixed front cut = option_map (λ c. (front ++ c.0, c.1)) cut

-- lines cut at the first that is `%%`: what stands before it, and what stands after it; nothing where there is none
abbrev pub cut_lines : List (List ℕ) → Option (List ℕ × List ℕ)
cut_lines [] = None
cut_lines (line ∷ lines) =
    if bytes_eq line (codes "%%") then Some ([], joined lines) else prefixed (line ++ 10 ∷ []) (cut_lines lines)

-- a text cut at its first line `%%`; the newline before it belongs to what stands before it
abbrev pub cut_of : List ℕ → Option (List ℕ × List ℕ)
cut_of text = cut_lines (parts 10 text)
