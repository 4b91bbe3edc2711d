-- Which bytes stand where in a piece of a text.
use Rattle.std.specs.Prelude.{ℕ, ◌==◌, ◌||◌, Bool, Option, Some, None, if◌then◌else◌}
use Rattle.std.specs.Char.{is_ascii_whitespace, is_ascii_alphabetic, is_ascii_alphanumeric, is_ascii_digit, is_ascii_hexdigit}
use Rattle.std.specs.Int.{is_in_range}
use Rattle.vp_lex.specs.declared.piece.Base.{Base}
use Rattle.vp_lex.specs.declared.piece.Base.TheVariants.{Binary, Octal, Decimal, Hexadecimal}

-- space, tab, line feed, form feed or carriage return (IEEE Std 1364-2005, 3.2; carriage return: profile)
abbrev pub is_space : ℕ → Bool
is_space byte = is_ascii_whitespace byte

-- a line feed ends a line (profile)
abbrev pub is_newline : ℕ → Bool
is_newline byte = byte == 10

-- a letter or an underscore begins an identifier (IEEE Std 1364-2005, 3.7)
abbrev pub begins_name : ℕ → Bool
begins_name byte = is_ascii_alphabetic byte || (byte == 95)

-- a letter, a digit, an underscore or a dollar sign goes on an identifier (IEEE Std 1364-2005, 3.7)
abbrev pub goes_on_name : ℕ → Bool
goes_on_name byte = (is_ascii_alphanumeric byte || (byte == 95)) || (byte == 36)

-- a decimal digit begins a number (IEEE Std 1364-2005, 3.5.1)
abbrev pub is_decimal : ℕ → Bool
is_decimal byte = is_ascii_digit byte

-- a decimal digit or an underscore goes on a number (IEEE Std 1364-2005, 3.5.1)
abbrev pub goes_on_number : ℕ → Bool
goes_on_number byte = is_ascii_digit byte || (byte == 95)

-- an apostrophe begins a base part (IEEE Std 1364-2005, 3.5.1)
abbrev pub is_apostrophe : ℕ → Bool
is_apostrophe byte = byte == 39

-- s or S makes a base part signed (IEEE Std 1364-2005, 3.5.1)
abbrev pub is_sign : ℕ → Bool
is_sign byte = (byte == 115) || (byte == 83)

-- the base that a letter names, in either case (IEEE Std 1364-2005, 3.5.1)
abbrev pub base_of : ℕ → Option Base
base_of byte =
    (if (byte == 98) || (byte == 66) then Some Binary else
    (if (byte == 111) || (byte == 79) then Some Octal else
    (if (byte == 100) || (byte == 68) then Some Decimal else
    (if (byte == 104) || (byte == 72) then Some Hexadecimal else
    None))))

-- x, X, z, Z or ? is a digit of each base (IEEE Std 1364-2005, 3.5.1; of the decimal base: profile)
abbrev pub is_any_digit : ℕ → Bool
is_any_digit byte = (((byte == 120) || (byte == 88)) || ((byte == 122) || (byte == 90))) || (byte == 63)

-- a digit of a base (IEEE Std 1364-2005, 3.5.1)
abbrev pub is_digit : Base → ℕ → Bool
is_digit Binary byte = is_in_range 48 49 byte || is_any_digit byte
is_digit Octal byte = is_in_range 48 55 byte || is_any_digit byte
is_digit Decimal byte = is_ascii_digit byte || is_any_digit byte
is_digit Hexadecimal byte = is_ascii_hexdigit byte || is_any_digit byte

-- a digit of a base or an underscore goes on its digits (IEEE Std 1364-2005, 3.5.1)
abbrev pub goes_on_digits : Base → ℕ → Bool
goes_on_digits base byte = is_digit base byte || (byte == 95)

-- a quotation mark begins and ends a string (IEEE Std 1364-2005, 3.6)
abbrev pub is_quote : ℕ → Bool
is_quote byte = byte == 34

-- a backslash begins an escape (IEEE Std 1364-2005, 3.6.3)
abbrev pub is_backslash : ℕ → Bool
is_backslash byte = byte == 92

-- a solidus begins a comment, with another byte after it (IEEE Std 1364-2005, 3.3)
abbrev pub is_solidus : ℕ → Bool
is_solidus byte = byte == 47

-- an asterisk stands in what begins and what ends a block comment (IEEE Std 1364-2005, 3.3)
abbrev pub is_asterisk : ℕ → Bool
is_asterisk byte = byte == 42

-- a dollar sign begins the name of a system task or function (IEEE Std 1364-2005, 3.7.3)
abbrev pub is_dollar : ℕ → Bool
is_dollar byte = byte == 36

-- a grave accent begins a compiler directive (IEEE Std 1364-2005, 19)
abbrev pub is_accent : ℕ → Bool
is_accent byte = byte == 96
