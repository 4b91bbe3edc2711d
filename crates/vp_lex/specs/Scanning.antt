-- What is read of a text from a place on.
use Rattle.std.specs.Prelude.{ℕ, ◌+◌, Bool, List, length, Result, Ok, Err}
use Rattle.vp_lex.specs.declared.piece.Class.{Class}
use Rattle.vp_lex.specs.declared.piece.Class.TheVariants as class
use Rattle.vp_lex.specs.declared.piece.Fault.{Fault}
use Rattle.vp_lex.specs.declared.piece.Kind.{Kind}
use Rattle.vp_lex.specs.declared.piece.Kind.TheVariants as kind
use Rattle.vp_lex.specs.Bytes.{is_space, begins_name, goes_on_name, goes_on_number, is_digit, goes_on_digits}
use Rattle.vp_lex.specs.Pieces.{PieceKind, WhiteSpace, Comment, Word, SystemWord, Number, BasePart, Quoted, Operator, Directive, is_within_line}

-- the bytes of a class
abbrev pub class_test : Class → ℕ → Bool
class_test class.Space = is_space
class_test class.Line = is_within_line
class_test class.Letter = begins_name
class_test class.Name = goes_on_name
class_test class.Decimal = goes_on_number
class_test (class.Digit base) = is_digit base
class_test (class.Digits base) = goes_on_digits base

-- the kind of piece that a kind stands for
abbrev pub kind_of : Kind → PieceKind
kind_of kind.Space = WhiteSpace
kind_of kind.Comment = Comment
kind_of kind.Word = Word
kind_of kind.SystemWord = SystemWord
kind_of kind.Number = Number
kind_of kind.Base = BasePart
kind_of kind.String = Quoted
kind_of kind.Operator = Operator
kind_of kind.Directive = Directive

-- where bytes that begin at a place end, or the fault
abbrev pub end_of : ℕ → Result (List ℕ) Fault → Result ℕ Fault
end_of start (Ok bytes) = Ok (start + length bytes)
end_of start (Err fault) = Err fault
