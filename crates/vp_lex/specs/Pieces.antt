-- The pieces of a text: white space, comments and tokens, and which byte strings they are.
use Rattle.std.specs.Prelude.{◌≡◌, ℕ, ◌&&◌, ◌||◌, Bool, true, false, not, List, [], ◌∷◌, drop, Option, Some, None, codes, bytes_eq, if◌then◌else◌}
use Rattle.std.specs.List.{prefix_len, list_all}
use Rattle.vp_lex.specs.declared.piece.Base.{Base}
use Rattle.vp_lex.specs.declared.piece.Fault.{Fault}
use Rattle.vp_lex.specs.declared.piece.Fault.TheVariants.{OpenComment, OpenString, UnknownDirective}
use Rattle.vp_lex.specs.Bytes.{is_space, is_newline, begins_name, goes_on_name, is_decimal, goes_on_number, is_apostrophe, is_sign, base_of, is_digit, goes_on_digits, is_quote, is_backslash, is_solidus, is_asterisk, is_dollar, is_accent}
use Rattle.vp_lex.specs.Symbols.{is_symbol}

-- the kinds of pieces: white space, comments and the lexical tokens that are read (IEEE Std 1364-2005, 3.1; profile)
pub data PieceKind : Type 0 where
  WhiteSpace : PieceKind
  Comment : PieceKind
  Word : PieceKind
  SystemWord : PieceKind
  Number : PieceKind
  BasePart : PieceKind
  Quoted : PieceKind
  Operator : PieceKind
  Directive : PieceKind

-- a piece of a text: its kind and its bytes
pub record Piece : Type 0 where
  pub kind : PieceKind
  pub bytes : List ℕ

-- a byte that begins, and then only bytes that go on
abbrev pub is_run : (ℕ → Bool) → (ℕ → Bool) → List ℕ → Bool
is_run begins goes_on [] = false
is_run begins goes_on (byte ∷ bytes) = begins byte && list_all goes_on bytes

-- what is left after the white space in front
abbrev pub after_space : List ℕ → List ℕ
after_space bytes = drop (prefix_len is_space bytes) bytes

-- nothing is left
abbrev pub is_empty : List ℕ → Bool
is_empty [] = true
is_empty (byte ∷ bytes) = false

-- a nonempty run of white space (IEEE Std 1364-2005, 3.2)
abbrev pub is_white_space : List ℕ → Bool
is_white_space bytes = is_run is_space is_space bytes

-- a byte within a line
abbrev pub is_within_line : ℕ → Bool
is_within_line byte = not (is_newline byte)

-- after the first two bytes of a block comment, and after an asterisk or not: no asterisk and solidus stand there but at the end (IEEE Std 1364-2005, 3.3)
abbrev pub ends_block : Bool → List ℕ → Bool
ends_block starred [] = true
ends_block starred (byte ∷ bytes) = if starred && is_solidus byte then is_empty bytes else ends_block (is_asterisk byte) bytes

-- the same bytes have an asterisk and a solidus, so that the comment ends
abbrev pub has_block_end : Bool → List ℕ → Bool
has_block_end starred [] = false
has_block_end starred (byte ∷ bytes) = (starred && is_solidus byte) || has_block_end (is_asterisk byte) bytes

-- after the first solidus of a comment: another, and a line; or an asterisk, and a block (IEEE Std 1364-2005, 3.3)
abbrev pub ends_comment : List ℕ → Bool
ends_comment [] = false
ends_comment (byte ∷ bytes) =
    if is_solidus byte then list_all is_within_line bytes else is_asterisk byte && ends_block false bytes

-- a comment, also one that does not end (IEEE Std 1364-2005, 3.3)
abbrev pub is_comment : List ℕ → Bool
is_comment [] = false
is_comment (byte ∷ bytes) = is_solidus byte && ends_comment bytes

-- after the first solidus of a comment: the comment ends (IEEE Std 1364-2005, 3.3)
abbrev pub has_comment_end : List ℕ → Bool
has_comment_end [] = false
has_comment_end (byte ∷ bytes) = is_solidus byte || has_block_end false bytes

-- a simple identifier or a keyword (IEEE Std 1364-2005, 3.7 and 3.7.2)
abbrev pub is_word : List ℕ → Bool
is_word bytes = is_run begins_name goes_on_name bytes

-- a dollar sign and a name (IEEE Std 1364-2005, 3.7.3)
abbrev pub is_system_word : List ℕ → Bool
is_system_word [] = false
is_system_word (byte ∷ bytes) = is_dollar byte && is_word bytes

-- an unsigned number (IEEE Std 1364-2005, 3.5.1)
abbrev pub is_number : List ℕ → Bool
is_number bytes = is_run is_decimal goes_on_number bytes

-- digits of a base, the first of them no underscore (IEEE Std 1364-2005, 3.5.1)
abbrev pub are_digits : Base → List ℕ → Bool
are_digits base bytes = is_run (is_digit base) (goes_on_digits base) bytes

-- any white space, and digits of the base, if there is one (IEEE Std 1364-2005, 3.5.1)
abbrev pub ends_digits : Option Base → List ℕ → Bool
ends_digits None bytes = false
ends_digits (Some base) bytes = are_digits base (after_space bytes)

-- a letter that names a base, any white space, and digits of the base (IEEE Std 1364-2005, 3.5.1)
abbrev pub ends_based : List ℕ → Bool
ends_based [] = false
ends_based (letter ∷ bytes) = ends_digits (base_of letter) bytes

-- after the apostrophe: s or not, a letter that names a base, any white space, and digits (IEEE Std 1364-2005, 3.5.1)
abbrev pub ends_base_part : List ℕ → Bool
ends_base_part [] = false
ends_base_part (byte ∷ bytes) = if is_sign byte then ends_based bytes else ends_based (byte ∷ bytes)

-- an apostrophe, s or not, a letter that names a base, any white space, and digits (IEEE Std 1364-2005, 3.5.1)
abbrev pub is_base_part : List ℕ → Bool
is_base_part [] = false
is_base_part (byte ∷ bytes) = is_apostrophe byte && ends_base_part bytes

-- a quotation mark with no escape before it (IEEE Std 1364-2005, 3.6)
abbrev pub closes : Bool → ℕ → Bool
closes escaped byte = not escaped && is_quote byte

-- a backslash with no escape before it, which begins one (IEEE Std 1364-2005, 3.6.3)
abbrev pub escapes : Bool → ℕ → Bool
escapes escaped byte = not escaped && is_backslash byte

-- after the opening quotation mark, and after a backslash that escapes or not: no newline stands there, and no quotation mark that closes but at the end (IEEE Std 1364-2005, 3.6)
abbrev pub ends_string : Bool → List ℕ → Bool
ends_string escaped [] = true
ends_string escaped (byte ∷ bytes) =
    if closes escaped byte then is_empty bytes else not (is_newline byte) && ends_string (escapes escaped byte) bytes

-- the same bytes have a quotation mark that closes
abbrev pub has_string_end : Bool → List ℕ → Bool
has_string_end escaped [] = false
has_string_end escaped (byte ∷ bytes) = closes escaped byte || has_string_end (escapes escaped byte) bytes

-- what stands between two quotation marks on one line, and these; also one that does not end there (IEEE Std 1364-2005, 3.6)
abbrev pub is_string : List ℕ → Bool
is_string [] = false
is_string (byte ∷ bytes) = is_quote byte && ends_string false bytes

-- a grave accent and a name (IEEE Std 1364-2005, 19)
abbrev pub is_directive : List ℕ → Bool
is_directive [] = false
is_directive (byte ∷ bytes) = is_accent byte && is_word bytes

-- the byte strings that are pieces of a kind (IEEE Std 1364-2005, 3)
abbrev pub is_piece : PieceKind → List ℕ → Bool
is_piece WhiteSpace bytes = is_white_space bytes
is_piece Comment bytes = is_comment bytes
is_piece Word bytes = is_word bytes
is_piece SystemWord bytes = is_system_word bytes
is_piece Number bytes = is_number bytes
is_piece BasePart bytes = is_base_part bytes
is_piece Quoted bytes = is_string bytes
is_piece Operator bytes = is_symbol bytes
is_piece Directive bytes = is_directive bytes

-- the piece is one of its kind
abbrev pub IsPiece : Piece → Type 0
IsPiece piece = is_piece piece.kind piece.bytes ≡ true

-- no fault where it holds, and else this one
abbrev pub unless : Bool → Fault → Option Fault
unless true fault = None
unless false fault = Some fault

-- the compiler directives that are read (IEEE Std 1364-2005, 19.8 and 19.10; profile)
abbrev pub is_known : List ℕ → Bool
is_known bytes = bytes_eq bytes (codes "`pragma") || bytes_eq bytes (codes "`timescale")

-- why a piece of a kind is not read, if it is not: it does not end, or it is a compiler directive that is not known (IEEE Std 1364-2005, 3.3, 3.6 and 19; profile)
abbrev pub unread : PieceKind → List ℕ → Option Fault
unread Comment bytes = unless (has_comment_end (drop 1 bytes)) OpenComment
unread Quoted bytes = unless (has_string_end false (drop 1 bytes)) OpenString
unread Directive bytes = unless (is_known bytes) UnknownDirective
unread kind bytes = None

-- the piece is read
abbrev pub IsRead : Piece → Type 0
IsRead piece = unread piece.kind piece.bytes ≡ None
