-- The cut of a text, computed: from left to right, by the first bytes of each piece.
use Rattle.std.specs.Prelude.{ℕ, zero, suc, ◌+◌, ◌&&◌, ◌||◌, Bool, false, List, [], ◌∷◌, ◌++◌, length, take, drop, take_while, Option, Some, None, option_map, Result, Ok, Err, codes, bytes_eq, if◌then◌else◌}
use Rattle.std.specs.List.{prefix_len}
use Rattle.vp_lex.specs.declared.piece.Base.{Base}
use Rattle.vp_lex.specs.declared.piece.Fault.{Fault}
use Rattle.vp_lex.specs.declared.piece.Fault.TheVariants.{BadCharacter, OpenComment, OpenString, UnknownDirective}
use Rattle.vp_lex.specs.Bytes.{is_space, is_newline, begins_name, goes_on_name, is_decimal, goes_on_number, is_apostrophe, is_sign, base_of, is_digit, goes_on_digits, is_quote, is_solidus, is_asterisk, is_dollar, is_accent}
use Rattle.vp_lex.specs.Symbols.{is_symbol}
use Rattle.vp_lex.specs.Pieces.{PieceKind, WhiteSpace, Comment, Word, SystemWord, Number, BasePart, Quoted, Operator, Directive, Piece, after_space, is_within_line, closes, escapes}
use Rattle.vp_lex.specs.Cuts.{Refusal}

-- the longest run in front: a byte that begins, and the bytes that go on
abbrev pub run_front : (ℕ → Bool) → (ℕ → Bool) → List ℕ → Option (List ℕ)
run_front begins goes_on [] = None
run_front begins goes_on (byte ∷ bytes) = if begins byte then Some (byte ∷ take_while goes_on bytes) else None

-- the kind of piece that a byte begins, where no comment does (IEEE Std 1364-2005, 3)
abbrev pub kind_begun : ℕ → Option PieceKind
kind_begun byte =
    (if is_space byte then Some WhiteSpace else
    (if begins_name byte then Some Word else
    (if is_dollar byte then Some SystemWord else
    (if is_decimal byte then Some Number else
    (if is_apostrophe byte then Some BasePart else
    (if is_quote byte then Some Quoted else
    (if is_accent byte then Some Directive else
    (if is_symbol (byte ∷ []) then Some Operator else
    None))))))))

-- a solidus or an asterisk is first
abbrev pub goes_on_comment : List ℕ → Bool
goes_on_comment [] = false
goes_on_comment (byte ∷ bytes) = is_solidus byte || is_asterisk byte

-- a comment begins with this byte, with these after it (IEEE Std 1364-2005, 3.3)
abbrev pub begins_comment : ℕ → List ℕ → Bool
begins_comment byte bytes = is_solidus byte && goes_on_comment bytes

-- the kind of piece that a byte begins, with these after it (IEEE Std 1364-2005, 3)
abbrev pub kind_in_front : ℕ → List ℕ → Option PieceKind
kind_in_front byte bytes = if begins_comment byte bytes then Some Comment else kind_begun byte

-- what there is, or else the fault that no token begins here (profile)
abbrev pub or_bad : Option (List ℕ) → Result (List ℕ) Fault
or_bad None = Err BadCharacter
or_bad (Some bytes) = Ok bytes

-- with one more byte in front
abbrev pub after_byte : ℕ → Result (List ℕ) Fault → Result (List ℕ) Fault
after_byte byte (Err fault) = Err fault
after_byte byte (Ok bytes) = Ok (byte ∷ bytes)

-- any white space in front, and the longest run of digits of a base after it (IEEE Std 1364-2005, 3.5.1)
abbrev pub digits_front : Base → List ℕ → Option (List ℕ)
digits_front base bytes =
    option_map (λ digits. take (prefix_len is_space bytes) bytes ++ digits) (run_front (is_digit base) (goes_on_digits base) (after_space bytes))

-- the same of a base, if there is one (IEEE Std 1364-2005, 3.5.1)
abbrev pub any_digits_front : Option Base → List ℕ → Result (List ℕ) Fault
any_digits_front None bytes = Err BadCharacter
any_digits_front (Some base) bytes = or_bad (digits_front base bytes)

-- a letter that names a base, any white space, and the longest run of digits (IEEE Std 1364-2005, 3.5.1)
abbrev pub based_front : List ℕ → Result (List ℕ) Fault
based_front [] = Err BadCharacter
based_front (letter ∷ bytes) = after_byte letter (any_digits_front (base_of letter) bytes)

-- what ends a base part, after its apostrophe (IEEE Std 1364-2005, 3.5.1)
abbrev pub base_front : List ℕ → Result (List ℕ) Fault
base_front [] = Err BadCharacter
base_front (byte ∷ bytes) = if is_sign byte then after_byte byte (based_front bytes) else based_front (byte ∷ bytes)

-- what ends a string, after its opening quotation mark, and after a backslash that escapes or not (IEEE Std 1364-2005, 3.6; profile)
abbrev pub string_front : Bool → List ℕ → Result (List ℕ) Fault
string_front escaped [] = Err OpenString
string_front escaped (byte ∷ bytes) =
    (if closes escaped byte then Ok (byte ∷ []) else
    (if is_newline byte then Err OpenString else
    after_byte byte (string_front (escapes escaped byte) bytes)))

-- what ends a block comment, after its first two bytes, and after an asterisk or not (IEEE Std 1364-2005, 3.3)
abbrev pub block_front : Bool → List ℕ → Result (List ℕ) Fault
block_front starred [] = Err OpenComment
block_front starred (byte ∷ bytes) =
    if starred && is_solidus byte then Ok (byte ∷ []) else after_byte byte (block_front (is_asterisk byte) bytes)

-- what ends a comment, after its first solidus (IEEE Std 1364-2005, 3.3)
abbrev pub comment_front : List ℕ → Result (List ℕ) Fault
comment_front [] = Err BadCharacter
comment_front (byte ∷ bytes) =
    after_byte byte (if is_solidus byte then Ok (take_while is_within_line bytes) else block_front false bytes)

-- what goes on the longest symbol after its first byte (IEEE Std 1364-2005, 3.4)
abbrev pub symbol_front : ℕ → List ℕ → List ℕ
symbol_front byte bytes =
    (if is_symbol (byte ∷ take 2 bytes) then take 2 bytes else
    (if is_symbol (byte ∷ take 1 bytes) then take 1 bytes else
    []))

-- the name of a compiler directive that is read (IEEE Std 1364-2005, 19.8 and 19.10; profile)
abbrev pub is_known_name : List ℕ → Bool
is_known_name name = bytes_eq name (codes "pragma") || bytes_eq name (codes "timescale")

-- the same, or why it is not read (profile)
abbrev pub known_directive : Option (List ℕ) → Result (List ℕ) Fault
known_directive None = Err BadCharacter
known_directive (Some name) = if is_known_name name then Ok name else Err UnknownDirective

-- how far a piece of a kind goes on after its first byte
abbrev pub front_of : PieceKind → ℕ → List ℕ → Result (List ℕ) Fault
front_of WhiteSpace byte bytes = Ok (take_while is_space bytes)
front_of Comment byte bytes = comment_front bytes
front_of Word byte bytes = Ok (take_while goes_on_name bytes)
front_of SystemWord byte bytes = or_bad (run_front begins_name goes_on_name bytes)
front_of Number byte bytes = Ok (take_while goes_on_number bytes)
front_of BasePart byte bytes = base_front bytes
front_of Quoted byte bytes = string_front false bytes
front_of Operator byte bytes = Ok (symbol_front byte bytes)
front_of Directive byte bytes = known_directive (run_front begins_name goes_on_name bytes)

-- the piece of a kind with this first byte
abbrev pub piece_of : PieceKind → ℕ → Result (List ℕ) Fault → Result Piece Fault
piece_of kind byte (Err fault) = Err fault
piece_of kind byte (Ok bytes) = Ok (record { kind = kind; bytes = byte ∷ bytes })

-- the piece of the kind that its first byte begins
abbrev pub piece_begun : Option PieceKind → ℕ → List ℕ → Result Piece Fault
piece_begun None byte bytes = Err BadCharacter
piece_begun (Some kind) byte bytes = piece_of kind byte (front_of kind byte bytes)

-- the longest piece at the front of a text, or why none is read there
abbrev pub first_piece : List ℕ → Result Piece Fault
first_piece [] = Err BadCharacter
first_piece (byte ∷ bytes) = piece_begun (kind_in_front byte bytes) byte bytes

-- goes on after a piece, or reports the fault at this place
abbrev pub on_piece : ℕ → Result Piece Fault → (Piece → Result (List Piece) Refusal) → Result (List Piece) Refusal
on_piece at (Err fault) next = Err (record { fault = fault; at = at; pieces = [] })
on_piece at (Ok piece) next = next piece

-- with one more piece in front
abbrev pub following_piece : Piece → Result (List Piece) Refusal → Result (List Piece) Refusal
following_piece piece (Err refusal) = Err (record { fault = refusal.fault; at = refusal.at; pieces = piece ∷ refusal.pieces })
following_piece piece (Ok pieces) = Ok (piece ∷ pieces)

-- the pieces of what is left of a text after so many bytes, at most so many pieces
abbrev pub cut_from : ℕ → ℕ → List ℕ → Result (List Piece) Refusal
cut_from zero at text = Ok []
cut_from (suc turns) at [] = Ok []
cut_from (suc turns) at (byte ∷ bytes) =
    on_piece at (first_piece (byte ∷ bytes))
    (λ piece. following_piece piece (cut_from turns (at + length piece.bytes) (drop (length piece.bytes) (byte ∷ bytes))))

-- the pieces of a text, of which there are no more than bytes; or its first fault in the order of the text
abbrev pub cut_text : List ℕ → Result (List Piece) Refusal
cut_text text = cut_from (length text) 0 text
