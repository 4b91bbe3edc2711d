-- The tokens of texts that are worked out by hand.
use Rattle.std.proofs.Common.{◌≡◌, true, false, [], ◌∷◌, ◌++◌, Ok, Err, refl}
use Rattle.std.specs.Prelude.{codes}
use Rattle.std.specs.Str.{is_utf8, chars}
use lib.Utf8.{encode}
use Rattle.vp_lex.specs.declared.error.LexError.TheVariants.{BadCharacter, OpenComment, OpenString, UnknownDirective, TimescaleDiffers}
use Rattle.vp_lex.specs.declared.keyword.Keyword.TheVariants as keyword
use Rattle.vp_lex.specs.declared.token.Punctuator.TheVariants.{ArithmeticShiftLeft, LessOrEqual, Equals, Comma, Semicolon}
use Rattle.vp_lex.specs.declared.token.TokenKind.TheVariants as token
use Rattle.vp_lex.specs.Tokens.{tokens_of}

-- a = 1'b1; has a name, a punctuator, a number, a base part and a punctuator
pub row-assignment : tokens_of (codes "a = 1'b1;") ≡ Ok (
    record { kind = token.Name; start = 0; end = 1; line = 1; column = 1; directive = false }
    ∷ record { kind = token.Punctuator Equals; start = 2; end = 3; line = 1; column = 3; directive = false }
    ∷ record { kind = token.Number; start = 4; end = 5; line = 1; column = 5; directive = false }
    ∷ record { kind = token.Base; start = 5; end = 8; line = 1; column = 6; directive = false }
    ∷ record { kind = token.Punctuator Semicolon; start = 8; end = 9; line = 1; column = 9; directive = false }
    ∷ [])
row-assignment = refl

-- 4'b 1 has a number and one base part, with the space in it
pub row-base_part : tokens_of (codes "4'b 1") ≡ Ok (
    record { kind = token.Number; start = 0; end = 1; line = 1; column = 1; directive = false }
    ∷ record { kind = token.Base; start = 1; end = 5; line = 1; column = 2; directive = false }
    ∷ [])
row-base_part = refl

-- reg, a newline (10) and r: a keyword, and a name on line 2
pub row-lines : tokens_of (codes "reg" ++ 10 ∷ codes "r") ≡ Ok (
    record { kind = token.Keyword keyword.Reg; start = 0; end = 3; line = 1; column = 1; directive = false }
    ∷ record { kind = token.Name; start = 4; end = 5; line = 2; column = 1; directive = false }
    ∷ [])
row-lines = refl

-- a and b on two lines, b after two spaces
pub row-columns : tokens_of (codes "a" ++ 10 ∷ codes "  b") ≡ Ok (
    record { kind = token.Name; start = 0; end = 1; line = 1; column = 1; directive = false }
    ∷ record { kind = token.Name; start = 4; end = 5; line = 2; column = 3; directive = false }
    ∷ [])
row-columns = refl

-- reg2 and casex1 are names, casex is a keyword that is left out, and so is buf
pub row-words : tokens_of (codes "reg2 casex1 casex buf") ≡ Ok (
    record { kind = token.Name; start = 0; end = 4; line = 1; column = 1; directive = false }
    ∷ record { kind = token.Name; start = 5; end = 11; line = 1; column = 6; directive = false }
    ∷ record { kind = token.Keyword keyword.Casex; start = 12; end = 17; line = 1; column = 13; directive = false }
    ∷ record { kind = token.Keyword keyword.LeftOut; start = 18; end = 21; line = 1; column = 19; directive = false }
    ∷ [])
row-words = refl

-- `pragma p marks its line and no other
pub row-directive : tokens_of (codes "a `pragma p" ++ 10 ∷ codes "b") ≡ Ok (
    record { kind = token.Name; start = 0; end = 1; line = 1; column = 1; directive = false }
    ∷ record { kind = token.Directive; start = 2; end = 9; line = 1; column = 3; directive = true }
    ∷ record { kind = token.Name; start = 10; end = 11; line = 1; column = 11; directive = true }
    ∷ record { kind = token.Name; start = 12; end = 13; line = 2; column = 1; directive = false }
    ∷ [])
unfolding is_utf8 chars encode
row-directive = refl

-- a string between quotes (34) and a comma
pub row-string : tokens_of (34 ∷ codes "a;" ++ 34 ∷ codes ",") ≡ Ok (
    record { kind = token.String; start = 0; end = 4; line = 1; column = 1; directive = false }
    ∷ record { kind = token.Punctuator Comma; start = 4; end = 5; line = 1; column = 5; directive = false }
    ∷ [])
row-string = refl

-- a text with no token
pub row-nothing : tokens_of (32 ∷ 10 ∷ []) ≡ Ok []
row-nothing = refl

-- a backslash (92) begins no token
pub row-backslash : tokens_of (92 ∷ codes "a") ≡ Err (BadCharacter 1)
row-backslash = refl

-- a string that does not end
pub row-open_string : tokens_of (34 ∷ codes "a") ≡ Err (OpenString 1)
row-open_string = refl

-- a string that does not end on its line
pub row-string_line : tokens_of (34 ∷ codes "a" ++ 10 ∷ 34 ∷ []) ≡ Err (OpenString 1)
row-string_line = refl

-- a string with a newline escaped (92) in it, and a quotation mark (34)
pub row-escape : tokens_of (34 ∷ 92 ∷ 110 ∷ 92 ∷ 34 ∷ 34 ∷ codes ";") ≡ Ok (
    record { kind = token.String; start = 0; end = 6; line = 1; column = 1; directive = false }
    ∷ record { kind = token.Punctuator Semicolon; start = 6; end = 7; line = 1; column = 7; directive = false }
    ∷ [])
row-escape = refl

-- a block comment over two lines, and a name after it
pub row-block : tokens_of (codes "/* " ++ 10 ∷ codes "**/a // b") ≡ Ok (record { kind = token.Name; start = 7; end = 8; line = 2; column = 4; directive = false } ∷ [])
row-block = refl

-- a block comment that does not end, on the line on which it begins
pub row-open_comment : tokens_of (10 ∷ codes "/* a" ++ 10 ∷ []) ≡ Err (OpenComment 2)
row-open_comment = refl

-- the longest symbols come first
pub row-symbols : tokens_of (codes "<<<<=$a") ≡ Ok (
    record { kind = token.Punctuator ArithmeticShiftLeft; start = 0; end = 3; line = 1; column = 1; directive = false }
    ∷ record { kind = token.Punctuator LessOrEqual; start = 3; end = 5; line = 1; column = 4; directive = false }
    ∷ record { kind = token.SystemName; start = 5; end = 7; line = 1; column = 6; directive = false }
    ∷ [])
row-symbols = refl

-- a directive other than `pragma
pub row-define : tokens_of (codes "`define A") ≡ Err (UnknownDirective 1)
row-define = refl

-- a longer name than pragma
pub row-pragmas : tokens_of (codes "`pragmas") ≡ Err (UnknownDirective 1)
row-pragmas = refl

-- the digits of a base part do not begin with an underscore
pub row-underscore : tokens_of (codes "4'b_1") ≡ Err (BadCharacter 1)
row-underscore = refl

-- a fault on line 2, after a token
pub row-fault_line : tokens_of (codes "a" ++ 10 ∷ codes "b $") ≡ Err (BadCharacter 2)
row-fault_line = refl

-- `timescale marks its line, and a `pragma on it is one more token of it
pub row-timescale : tokens_of (codes "`timescale 1`pragma" ++ 10 ∷ codes "b") ≡ Ok (
    record { kind = token.Directive; start = 0; end = 10; line = 1; column = 1; directive = true }
    ∷ record { kind = token.Number; start = 11; end = 12; line = 1; column = 12; directive = true }
    ∷ record { kind = token.Directive; start = 12; end = 19; line = 1; column = 13; directive = true }
    ∷ record { kind = token.Name; start = 20; end = 21; line = 2; column = 1; directive = false }
    ∷ [])
unfolding is_utf8 chars encode
row-timescale = refl

-- the same tokens in other white space, and others
pub row-timescales_same : tokens_of (codes "`timescale 1s" ++ 10 ∷ codes "`timescale  1 s") ≡ Ok (
    record { kind = token.Directive; start = 0; end = 10; line = 1; column = 1; directive = true }
    ∷ record { kind = token.Number; start = 11; end = 12; line = 1; column = 12; directive = true }
    ∷ record { kind = token.Name; start = 12; end = 13; line = 1; column = 13; directive = true }
    ∷ record { kind = token.Directive; start = 14; end = 24; line = 2; column = 1; directive = true }
    ∷ record { kind = token.Number; start = 26; end = 27; line = 2; column = 13; directive = true }
    ∷ record { kind = token.Name; start = 28; end = 29; line = 2; column = 15; directive = true }
    ∷ [])
unfolding is_utf8 chars encode
row-timescales_same = refl

pub row-timescale_differs : tokens_of (codes "`timescale 1s" ++ 10 ∷ codes "`timescale 1ms") ≡ Err (TimescaleDiffers 2)
unfolding is_utf8 chars encode
row-timescale_differs = refl

-- one that is longer
pub row-timescale_longer : tokens_of (codes "`timescale 1" ++ 10 ∷ codes "`timescale 1/1") ≡ Err (TimescaleDiffers 2)
unfolding is_utf8 chars encode
row-timescale_longer = refl

-- a fault on the line of the timescale comes before it, and one on the next line after it
pub row-timescale_fault : tokens_of (codes "`timescale 1" ++ 10 ∷ codes "`timescale 2 $") ≡ Err (BadCharacter 2)
unfolding is_utf8 chars encode
row-timescale_fault = refl

pub row-timescale_before : tokens_of (codes "`timescale 1" ++ 10 ∷ codes "`timescale 2" ++ 10 ∷ codes "$") ≡ Err (TimescaleDiffers 2)
unfolding is_utf8 chars encode
row-timescale_before = refl

-- one after a `pragma on its line says nothing
pub row-timescale_pragma : tokens_of (codes "`timescale" ++ 10 ∷ codes "`pragma `timescale a") ≡ Ok (
    record { kind = token.Directive; start = 0; end = 10; line = 1; column = 1; directive = true }
    ∷ record { kind = token.Directive; start = 11; end = 18; line = 2; column = 1; directive = true }
    ∷ record { kind = token.Directive; start = 19; end = 29; line = 2; column = 9; directive = true }
    ∷ record { kind = token.Name; start = 30; end = 31; line = 2; column = 20; directive = true }
    ∷ [])
unfolding is_utf8 chars encode
row-timescale_pragma = refl
