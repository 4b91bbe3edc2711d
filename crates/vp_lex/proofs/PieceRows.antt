-- Pieces and cuts of texts that are worked out by hand.
use Rattle.std.proofs.Common.{◌≡◌, true, false, [], ◌∷◌, ◌++◌, Some, None, Ok, Err, refl}
use Rattle.std.specs.Prelude.{codes}
use Rattle.vp_lex.specs.declared.keyword.Keyword.TheVariants as keyword
use Rattle.vp_lex.specs.declared.piece.Fault.TheVariants.{BadCharacter, OpenComment, OpenString, UnknownDirective}
use Rattle.vp_lex.specs.Symbols.{symbol_of}
use Rattle.vp_lex.specs.Pieces.{WhiteSpace, Comment, Word, SystemWord, Number, BasePart, Quoted, Operator, Directive, is_piece, unread}
use Rattle.vp_lex.specs.Cutting.{cut_text}
use Rattle.vp_lex.specs.Words.{keyword_of}

-- a name may have digits and dollar signs after its first byte
pub row-word : is_piece Word (codes "_a1$") ≡ true
row-word = refl

pub row-word_digit : is_piece Word (codes "1a") ≡ false
row-word_digit = refl

pub row-word_nothing : is_piece Word [] ≡ false
row-word_nothing = refl

pub row-number : is_piece Number (codes "1_000") ≡ true
row-number = refl

-- all digits of a base part, a space after the letter, and an underscore after a digit
pub row-base_part : is_piece BasePart (codes "'B 01xXzZ?_") ≡ true
row-base_part = refl

-- a base part has a digit
pub row-base_part_empty : is_piece BasePart (codes "'b ") ≡ false
row-base_part_empty = refl

-- the digits of the octal, the decimal and the hexadecimal base, and s in front
pub row-base_part_octal : is_piece BasePart (codes "'o 07xZ_") ≡ true
row-base_part_octal = refl

pub row-base_part_octal_eight : is_piece BasePart (codes "'o8") ≡ false
row-base_part_octal_eight = refl

pub row-base_part_decimal : is_piece BasePart (codes "'Sd09?") ≡ true
row-base_part_decimal = refl

pub row-base_part_decimal_letter : is_piece BasePart (codes "'da") ≡ false
row-base_part_decimal_letter = refl

pub row-base_part_hexadecimal : is_piece BasePart (codes "'sH0fF_z") ≡ true
row-base_part_hexadecimal = refl

pub row-base_part_hexadecimal_letter : is_piece BasePart (codes "'hg") ≡ false
row-base_part_hexadecimal_letter = refl

-- s alone names no base
pub row-base_part_sign : is_piece BasePart (codes "'s1") ≡ false
row-base_part_sign = refl

-- a string ends at its next quotation mark (34)
pub row-string : is_piece Quoted (34 ∷ codes "a b" ++ 34 ∷ []) ≡ true
row-string = refl

pub row-string_two : is_piece Quoted (34 ∷ 34 ∷ 34 ∷ []) ≡ false
row-string_two = refl

-- space, tab, line feed, form feed and carriage return
pub row-white_space : is_piece WhiteSpace (32 ∷ 9 ∷ 10 ∷ 12 ∷ 13 ∷ []) ≡ true
row-white_space = refl

-- vertical tab is none
pub row-vertical_tab : is_piece WhiteSpace (11 ∷ []) ≡ false
row-vertical_tab = refl

-- the longest symbols, and none longer
pub row-operators : is_piece Operator (codes "<<<") ≡ true
row-operators = refl

pub row-operators_longer : is_piece Operator (codes "<<<=") ≡ false
row-operators_longer = refl

pub row-operator_equivalence : symbol_of (codes "^~") ≡ symbol_of (codes "~^")
row-operator_equivalence = refl

-- a name with a dollar sign in front
pub row-system_word : is_piece SystemWord (codes "$finish") ≡ true
row-system_word = refl

pub row-system_word_digit : is_piece SystemWord (codes "$1") ≡ false
row-system_word_digit = refl

-- a line comment has no newline (10), and always ends
pub row-line : is_piece Comment (codes "// a") ≡ true
row-line = refl

pub row-line_newline : is_piece Comment (codes "// a" ++ 10 ∷ []) ≡ false
row-line_newline = refl

pub row-line_ends : unread Comment (codes "//") ≡ None
row-line_ends = refl

-- a block comment ends with its first asterisk and solidus, which are not its own asterisk and a solidus
pub row-block : is_piece Comment (codes "/***/") ≡ true
row-block = refl

pub row-block_ends : unread Comment (codes "/**/") ≡ None
row-block_ends = refl

pub row-block_open : unread Comment (codes "/*/") ≡ Some OpenComment
row-block_open = refl

pub row-block_two : is_piece Comment (codes "/**/ */") ≡ false
row-block_two = refl

-- a quotation mark (34) after a backslash (92) ends no string, but one after two does
pub row-escape : is_piece Quoted (34 ∷ 92 ∷ 34 ∷ 34 ∷ []) ≡ true
row-escape = refl

pub row-escape_open : unread Quoted (34 ∷ 92 ∷ 34 ∷ []) ≡ Some OpenString
row-escape_open = refl

pub row-escape_two : unread Quoted (34 ∷ 92 ∷ 92 ∷ 34 ∷ []) ≡ None
row-escape_two = refl

-- another directive is a piece, but is not read
pub row-directive : is_piece Directive (codes "`define") ≡ true
row-directive = refl

pub row-directive_unread : unread Directive (codes "`define") ≡ Some UnknownDirective
row-directive_unread = refl

pub row-directive_read : unread Directive (codes "`pragma") ≡ None
row-directive_read = refl

pub row-directive_timescale : unread Directive (codes "`timescale") ≡ None
row-directive_timescale = refl

-- a1 =2 is cut into a name, white space, an operator and a number
pub row-cut : cut_text (codes "a1 =2") ≡ Ok (
    record { kind = Word; bytes = codes "a1" }
    ∷ record { kind = WhiteSpace; bytes = codes " " }
    ∷ record { kind = Operator; bytes = codes "=" }
    ∷ record { kind = Number; bytes = codes "2" }
    ∷ [])
row-cut = refl

-- the first fault, after three bytes
pub row-refusal : cut_text (codes "a1 $ `x") ≡ Err (record {
  fault = BadCharacter;
  at = 3;
  pieces = record { kind = Word; bytes = codes "a1" } ∷ record { kind = WhiteSpace; bytes = codes " " } ∷ [];
})
row-refusal = refl

pub row-keyword : keyword_of (codes "endmodule") ≡ Some keyword.Endmodule
row-keyword = refl

pub row-keyword_left_out : keyword_of (codes "signed") ≡ Some keyword.LeftOut
row-keyword_left_out = refl

-- keywords have lower case letters
pub row-keyword_upper : keyword_of (codes "Reg") ≡ None
row-keyword_upper = refl
