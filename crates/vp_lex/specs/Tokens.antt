-- The tokens of a text.
use Rattle.std.specs.Prelude.{◌≡◌, ℕ, ◌+◌, ◌-◌, ◌≤◌, ◌<◌, ◌&&◌, ◌||◌, ◌⊎◌, Bool, true, false, not, List, [], ◌∷◌, ◌++◌, length, take, drop, Option, Some, None, option_map, Result, Ok, Err, count_by}
use Rattle.std.specs.List.{list_all, suffix_len}
use Rattle.vp_lex.specs.declared.error.LexError.{LexError}
use Rattle.vp_lex.specs.declared.error.LexError.TheVariants as error
use Rattle.vp_lex.specs.declared.keyword.Keyword.{Keyword}
use Rattle.vp_lex.specs.declared.piece.Fault.{Fault}
use Rattle.vp_lex.specs.declared.piece.Fault.TheVariants.{BadCharacter, OpenComment, OpenString, UnknownDirective}
use Rattle.vp_lex.specs.declared.token.Token.{Token}
use Rattle.vp_lex.specs.declared.token.TokenKind.{TokenKind}
use Rattle.vp_lex.specs.declared.token.TokenKind.TheVariants as token
use Rattle.vp_lex.specs.Bytes.{is_newline}
use Rattle.vp_lex.specs.Pieces.{PieceKind, WhiteSpace, Comment, Word, SystemWord, Number, BasePart, Quoted, Operator, Directive, Piece}
use Rattle.vp_lex.specs.Cuts.{Refusal, Cut, IsRefused}
use Rattle.vp_lex.specs.Cutting.{cut_text}
use Rattle.vp_lex.specs.Symbols.{symbol_of}
use Rattle.vp_lex.specs.Faults.{line_of}
use Rattle.vp_lex.specs.Timescales.{timescales, timescales_before, differing}
use Rattle.vp_lex.specs.Words.{keyword_of}

-- ---- what a token is

-- a keyword, or else a name (IEEE Std 1364-2005, 3.7 and 3.7.2)
abbrev pub word_kind : Option Keyword → TokenKind
word_kind None = token.Name
word_kind (Some keyword) = token.Keyword keyword

-- what a piece is as a token: white space and comments are none (IEEE Std 1364-2005, 3.1)
abbrev pub token_kind : PieceKind → List ℕ → Option TokenKind
token_kind WhiteSpace bytes = None
token_kind Comment bytes = None
token_kind Word bytes = Some (word_kind (keyword_of bytes))
token_kind SystemWord bytes = Some token.SystemName
token_kind Number bytes = Some token.Number
token_kind BasePart bytes = Some token.Base
token_kind Quoted bytes = Some token.String
token_kind Operator bytes = option_map token.Punctuator (symbol_of bytes)
token_kind Directive bytes = Some token.Directive

-- ---- where a token stands

-- the line after these bytes: 1, and one more for each newline (profile)
abbrev pub line_after : List ℕ → ℕ
line_after before = count_by is_newline before + 1

-- the column after these bytes: 1, and one more for each byte since the last newline (profile)
abbrev pub column_after : List ℕ → ℕ
column_after before = suffix_len (λ byte. not (is_newline byte)) before + 1

-- the piece is a directive
abbrev pub is_mark : PieceKind → Bool
is_mark Directive = true
is_mark kind = false

-- A directive stands on the line before what follows the piece: the piece is one, or one stood before it and no newline is in it (IEEE Std 1364-2005, 19.10; profile)
abbrev pub marks : Bool → Piece → Bool
marks marked piece = (is_mark piece.kind || marked) && list_all (λ byte. not (is_newline byte)) piece.bytes

-- the token of this kind that these bytes are, after those before, on a line with a directive before it or not
abbrev pub token_at : List ℕ → Bool → List ℕ → TokenKind → Bool → Token
token_at before marked bytes kind mark = record {
  kind = kind;
  start = length before;
  end = length before + length bytes;
  line = line_after before;
  column = column_after before;
  directive = mark || marked;
}

-- the bytes of a token in its text
abbrev pub bytes_of : List ℕ → Token → List ℕ
bytes_of text token = take (token.end - token.start) (drop token.start text)

-- the tokens begin no earlier than this place, one after the other, each has a byte, and they end no later than that place
abbrev pub AreInOrder : ℕ → ℕ → List Token → Type 0
AreInOrder start end [] = start ≤ end
AreInOrder start end (token ∷ tokens) = (start ≤ token.start) × (token.start < token.end) × AreInOrder token.end end tokens

-- a piece's token in front of others, if it is one
abbrev pub with_token : List ℕ → Bool → Piece → Option TokenKind → List Token → List Token
with_token before marked piece None tokens = tokens
with_token before marked piece (Some kind) tokens = token_at before marked piece.bytes kind (is_mark piece.kind) ∷ tokens

-- the tokens of pieces after these bytes, on a line with a directive before them or not
abbrev pub tokens_following : List ℕ → Bool → List Piece → List Token
tokens_following before marked [] = []
tokens_following before marked (piece ∷ pieces) =
    with_token before marked piece (token_kind piece.kind piece.bytes)
    (tokens_following (before ++ piece.bytes) (marks marked piece) pieces)

-- the bytes of a piece in front of others, if it is a token
abbrev pub with_bytes : List ℕ → Option TokenKind → List (List ℕ) → List (List ℕ)
with_bytes bytes None others = others
with_bytes bytes (Some kind) others = bytes ∷ others

-- the bytes of those pieces that are tokens
abbrev pub bytes_of_pieces : List Piece → List (List ℕ)
bytes_of_pieces [] = []
bytes_of_pieces (piece ∷ pieces) = with_bytes piece.bytes (token_kind piece.kind piece.bytes) (bytes_of_pieces pieces)

-- ---- all of them

-- the error of a fault on a line (profile)
abbrev pub error_of : Fault → ℕ → LexError
error_of BadCharacter line = error.BadCharacter line
error_of OpenComment line = error.OpenComment line
error_of OpenString line = error.OpenString line
error_of UnknownDirective line = error.UnknownDirective line

-- the error of a refusal of a text, by the line of its place (profile)
abbrev pub error_at : List ℕ → Refusal → LexError
error_at text refusal = error_of refusal.fault (line_after (take refusal.at text))

-- what is read of a text: the tokens before its first fault, and its error, if it has one
pub record Scan : Type 0 where
  pub tokens : List Token
  pub fault : Option LexError

-- this is what is read of the text: the tokens of the pieces of its cut; or those before its first fault, and the error of that (IEEE Std 1364-2005, 3; profile)
abbrev pub IsScan : List ℕ → Scan → Type 0
IsScan text scan =
    ((pieces : List Piece) × Cut text pieces × (scan ≡ record { tokens = tokens_following [] false pieces; fault = None }))
    ⊎ ((refusal : Refusal) × IsRefused text refusal × (scan ≡ record { tokens = tokens_following [] false refusal.pieces; fault = Some (error_at text refusal) }))

-- the fault, or else the tokens
abbrev pub told_fault : Option LexError → List Token → Result (List Token) LexError
told_fault (Some error) tokens = Err error
told_fault None tokens = Ok tokens

-- the error of the line of a timescale that says something else; or else the fault, or else the tokens
abbrev pub told : Option ℕ → Scan → Result (List Token) LexError
told (Some line) scan = Err (error.TimescaleDiffers line)
told None scan = told_fault scan.fault scan.tokens

-- the tokens, if each timescale on a line before that of the text's fault says the same, and there is no fault; else the error of what comes first (IEEE Std 1364-2005, 19.8; profile)
abbrev pub judged : List ℕ → Scan → Result (List Token) LexError
judged text scan = told (differing None (timescales_before (option_map line_of scan.fault) (timescales text scan.tokens))) scan

-- these are the tokens of the text
abbrev pub AreTokens : List ℕ → List Token → Type 0
AreTokens text tokens = (scan : Scan) × IsScan text scan × (judged text scan ≡ Ok tokens)

-- this is the error of the text
abbrev pub IsError : List ℕ → LexError → Type 0
IsError text error = (scan : Scan) × IsScan text scan × (judged text scan ≡ Err error)

-- an error is that of the text; out of memory may be reported at any time
abbrev pub IsFaultOf : List ℕ → LexError → Type 0
IsFaultOf text e = (e ≡ error.NoMemory) ⊎ IsError text e

-- ---- all of them, computed

-- what is read of a text after these bytes, on a line with a directive before it or not, where this is its cut
abbrev pub scanned : List ℕ → List ℕ → Bool → Result (List Piece) Refusal → Scan
scanned text before marked (Ok pieces) = record { tokens = tokens_following before marked pieces; fault = None }
scanned text before marked (Err refusal) = record { tokens = tokens_following before marked refusal.pieces; fault = Some (error_at text refusal) }

-- what is read of a text
abbrev pub scan_of : List ℕ → Scan
scan_of text = scanned text [] false (cut_text text)

-- the tokens of a text, in its order, or the error of its first fault (IEEE Std 1364-2005, 3; profile)
abbrev pub tokens_of : List ℕ → Result (List Token) LexError
tokens_of text = judged text (scan_of text)
