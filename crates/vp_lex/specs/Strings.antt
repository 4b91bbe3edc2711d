-- What strings stand for.
use Rattle.std.specs.Prelude.{ℕ, zero, suc, ◌+◌, ◌-◌, ◌*◌, ◌==◌, ◌&&◌, ◌||◌, Bool, List, [], ◌∷◌, length, take, take_while, fold, nat_le, slice_index, slice_range, if◌then◌else◌}
use Rattle.std.specs.Int.{is_in_range}
use Rattle.std.specs.Str.{chars, encode_utf8_all}
use Rattle.vp_lex.specs.Bytes.{is_backslash, is_quote}

-- the characters begin and end with a quotation mark, each its own
abbrev pub is_quoted : List ℕ → Bool
is_quoted characters =
    nat_le 2 (length characters) && (is_quote (slice_index characters 0) && is_quote (slice_index characters (length characters - 1)))

-- what stands between the quotation marks; nothing where they are not there
abbrev pub between_quotes : List ℕ → List ℕ
between_quotes characters = if is_quoted characters then slice_range characters 1 (length characters - 1) else []

-- an octal digit
abbrev pub is_octal : ℕ → Bool
is_octal character = is_in_range 48 55 character

-- the octal digits in front, three at most (IEEE Std 1364-2005, 3.6.3)
abbrev pub octal_digits : List ℕ → List ℕ
octal_digits characters = take_while is_octal (take 3 characters)

-- the number of octal digits
abbrev pub octal_number : List ℕ → ℕ
octal_number digits = fold (λ number digit. number * 8 + (digit - 48)) 0 digits

-- what an escape by one character after its backslash stands for, and how many characters that takes: none, where the backslash stands for itself (IEEE Std 1364-2005, 3.6.3; profile)
abbrev pub named_escape : List ℕ → ℕ × ℕ
named_escape [] = (92, 0)
named_escape (character ∷ characters) =
    (if character == 110 then (10, 1) else
    (if character == 116 then (9, 1) else
    (if is_backslash character || is_quote character then (character, 1) else
    (92, 0))))

-- the same of octal digits, where there are some
abbrev pub octal_escape : List ℕ → List ℕ → ℕ × ℕ
octal_escape [] characters = named_escape characters
octal_escape (digit ∷ digits) characters = (octal_number (digit ∷ digits), length (digit ∷ digits))

-- the character that a character stands for with those after it, and how many of these that takes (IEEE Std 1364-2005, 3.6.3)
abbrev pub element : ℕ → List ℕ → ℕ × ℕ
element character characters =
    if is_backslash character then octal_escape (octal_digits characters) characters else (character, 0)

-- the characters that characters stand for, after so many that are taken (IEEE Std 1364-2005, 3.6)
abbrev pub value_after : ℕ → List ℕ → List ℕ
value_after taken [] = []
value_after zero (character ∷ characters) =
    (element character characters).0 ∷ value_after (element character characters).1 characters
value_after (suc taken) (character ∷ characters) = value_after taken characters

-- the value of a string with its quotation marks: what stands between them, its escapes undone; nothing where they are not there (IEEE Std 1364-2005, 3.6)
abbrev pub string_value : List ℕ → List ℕ
string_value text = encode_utf8_all (value_after 0 (between_quotes (chars text)))
