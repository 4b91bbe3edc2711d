-- Lines of a text, which are numbered from 1, and columns.
use Rattle.std.specs.Prelude.{ℕ, zero, suc, ◌+◌, ◌-◌, ◌==◌, if◌then◌else◌, Bool, not, List, [], ◌∷◌, count_by, drop, min}
use Rattle.std.specs.Int.{is_in_range}
use Rattle.std.specs.List.{flat_map}
use Rattle.std.specs.Str.{is_utf8}
use Rattle.vp_lex.specs.Bytes.{is_newline}
use Rattle.vp_text.specs.Texts.{parts}

-- where the line stands that has so many newlines before it; the end of the text where there are fewer
abbrev pub after_newlines : ℕ → List ℕ → ℕ
after_newlines zero text = 0
after_newlines (suc n) [] = 0
after_newlines (suc n) (byte ∷ bytes) = after_newlines (if is_newline byte then n else suc n) bytes + 1

-- where the line of a number begins
abbrev pub line_start : ℕ → List ℕ → ℕ
line_start number text = after_newlines (number - 1) text

-- the first of some parts
abbrev pub first_of : List (List ℕ) → List ℕ
first_of [] = []
first_of (part ∷ others) = part

-- some bytes, if they are text; else nothing
abbrev pub text_in : List ℕ → List ℕ
text_in bytes = if is_utf8 bytes then bytes else []

-- the line of a number, without its newline
abbrev pub line_of : ℕ → List ℕ → List ℕ
line_of number text = text_in (first_of (parts 10 (drop (line_start number text) text)))

-- a byte that goes on a character (UTF-8)
abbrev pub goes_on_character : ℕ → Bool
goes_on_character byte = is_in_range 128 191 byte

-- what leads under the place after a byte: a tab under a tab, a space under another character
abbrev pub blank_of : ℕ → List ℕ
blank_of byte = if byte == 9 then 9 ∷ [] else (if goes_on_character byte then [] else 32 ∷ [])

-- what leads under the place after these bytes
abbrev pub blanks : List ℕ → List ℕ
blanks front = flat_map blank_of front

-- how many characters these bytes are
abbrev pub count_characters : List ℕ → ℕ
count_characters front = count_by (λ byte. not (goes_on_character byte)) front

-- the column after these bytes of a line: 1, and one more for each character; it is reported up to 2 ^ 64 - 1
abbrev pub column_after : List ℕ → ℕ
column_after front = min (count_characters front + 1) 18446744073709551615
