-- Expressions in a list that names parts by their places, as trees.
use Rattle.std.specs.Prelude.{◌≡◌, true, ℕ, ◌+◌, ◌*◌, ◌&&◌, length, max, nat_le, Bool, false, if◌then◌else◌, List, [], ◌∷◌, ◌++◌, map, slice_index_or, take, Option, Some, None}
use Rattle.std.specs.List.{fold, list_all}
use Rattle.vp_bits.specs.declared.bit.Bit.{Bit}
use Rattle.vp_operand.specs.declared.operand.Infix.{Infix}
use Rattle.vp_operand.specs.declared.operand.Infix.TheVariants as pair
use Rattle.vp_operand.specs.declared.operand.Operand.{Operand}
use Rattle.vp_operand.specs.declared.operand.Operand.TheVariants as operand
use Rattle.vp_operand.specs.Terms.{Term, Object, Constant, BitSelect, PartSelect, Applied, Reduced, Combined, Shifted, Compared, Joined, Conditional, Concatenated, Appended, Replicated, size, is_signed, value}
use Rattle.vp_operand.specs.Values.{no_value}

-- what stands for a part that is not there: one unknown bit
abbrev pub blank : Term
blank = Constant no_value false

-- the term at a place
abbrev pub part_in : List Term → ℕ → Term
part_in terms place = slice_index_or terms place blank

-- the term of an operand, by the terms of those before it
abbrev pub term_from : List Term → Operand → Term
term_from terms (operand.Object slot width) = Object slot.0 width
term_from terms (operand.Constant bits s) = Constant bits s
term_from terms (operand.BitSelect slot lowest index) = BitSelect slot.0 lowest (part_in terms index)
term_from terms (operand.PartSelect slot place width) = PartSelect slot.0 place width
term_from terms (operand.Applied o a) = Applied o (part_in terms a)
term_from terms (operand.Reduced o a) = Reduced o (part_in terms a)
term_from terms (operand.Paired (pair.Combined o) a b) = Combined o (part_in terms a) (part_in terms b)
term_from terms (operand.Paired (pair.Shifted o) a b) = Shifted o (part_in terms a) (part_in terms b)
term_from terms (operand.Paired (pair.Compared o) a b) = Compared o (part_in terms a) (part_in terms b)
term_from terms (operand.Paired (pair.Joined o) a b) = Joined o (part_in terms a) (part_in terms b)
term_from terms (operand.Conditional c a b) = Conditional (part_in terms c) (part_in terms a) (part_in terms b)
term_from terms (operand.Concatenated a) = Concatenated (part_in terms a)
term_from terms (operand.Appended list a) = Appended (part_in terms list) (part_in terms a)
term_from terms (operand.Replicated count list) = Replicated count (part_in terms list)

-- terms, and after them that of one more operand
abbrev pub with_term : List Term → Operand → List Term
with_term terms o = terms ++ term_from terms o ∷ []

-- the terms of operands
abbrev pub terms_of : List Operand → List Term
terms_of operands = fold with_term [] operands

-- the term of the operand at a place
abbrev pub term_at : List Operand → ℕ → Term
term_at operands place = part_in (terms_of operands) place

-- the term of the operand at a place before an end
abbrev pub term_below : List Operand → (end place : ℕ) → Term
term_below operands end place = part_in (take end (terms_of operands)) place

-- the term of an operand that stands at a place
abbrev pub term_made : List Operand → (place : ℕ) → Operand → Term
term_made operands place o = term_from (take place (terms_of operands)) o

-- the value of an object by its slot, from the values of an instance and of the objects after it; one unknown bit for one that
-- is not there
abbrev pub value_in : List (List Bit) → ℕ → List Bit
value_in values slot = slice_index_or values slot no_value

-- the sizes of operands
unfoldable pub sizes_in : List Operand → List ℕ
sizes_in operands = map size (terms_of operands)

-- which operands are signed
abbrev pub signs_in : List Operand → List Bool
signs_in operands = map is_signed (terms_of operands)

-- the size of an operator between operands, by the sizes of those before it (IEEE Std 1364-2005, 5.4.1)
abbrev pub pair_size : List ℕ → Infix → (left right : ℕ) → ℕ
pair_size sizes (pair.Combined o) a b = max (slice_index_or sizes a 1) (slice_index_or sizes b 1)
pair_size sizes (pair.Shifted o) a b = slice_index_or sizes a 1
pair_size sizes (pair.Compared o) a b = 1
pair_size sizes (pair.Joined o) a b = 1

-- the size of an operand, by the sizes of those before it (IEEE Std 1364-2005, 5.4.1)
abbrev pub operand_size : List ℕ → Operand → ℕ
operand_size sizes (operand.Object slot width) = width
operand_size sizes (operand.Constant bits s) = length bits
operand_size sizes (operand.BitSelect slot lowest index) = 1
operand_size sizes (operand.PartSelect slot place width) = width
operand_size sizes (operand.Applied o a) = slice_index_or sizes a 1
operand_size sizes (operand.Reduced o a) = 1
operand_size sizes (operand.Paired o a b) = pair_size sizes o a b
operand_size sizes (operand.Conditional c a b) = max (slice_index_or sizes a 1) (slice_index_or sizes b 1)
operand_size sizes (operand.Concatenated a) = slice_index_or sizes a 1
operand_size sizes (operand.Appended list a) = slice_index_or sizes list 1 + slice_index_or sizes a 1
operand_size sizes (operand.Replicated count list) = count * slice_index_or sizes list 1

-- an operator between operands is signed, by the signs of those before it (IEEE Std 1364-2005, 5.5.1)
abbrev pub pair_sign : List Bool → Infix → (left right : ℕ) → Bool
pair_sign signs (pair.Combined o) a b = slice_index_or signs a false && slice_index_or signs b false
pair_sign signs (pair.Shifted o) a b = slice_index_or signs a false
pair_sign signs (pair.Compared o) a b = false
pair_sign signs (pair.Joined o) a b = false

-- an operand is signed, by the signs of those before it (IEEE Std 1364-2005, 5.5.1)
abbrev pub operand_sign : List Bool → Operand → Bool
operand_sign signs (operand.Object slot width) = false
operand_sign signs (operand.Constant bits s) = s
operand_sign signs (operand.BitSelect slot lowest index) = false
operand_sign signs (operand.PartSelect slot place width) = false
operand_sign signs (operand.Applied o a) = slice_index_or signs a false
operand_sign signs (operand.Reduced o a) = false
operand_sign signs (operand.Paired o a b) = pair_sign signs o a b
operand_sign signs (operand.Conditional c a b) = slice_index_or signs a false && slice_index_or signs b false
operand_sign signs (operand.Concatenated a) = false
operand_sign signs (operand.Appended list a) = false
operand_sign signs (operand.Replicated count list) = false

-- a size is that of a vector (profile)
abbrev pub is_width : ℕ → Bool
is_width n = nat_le 1 n && nat_le n 64

-- sizes, where each is that of a vector
abbrev pub fitting : List ℕ → Option (List ℕ)
fitting sizes = if list_all is_width sizes then Some sizes else None

-- the value of the operand at a place in a context of a size, by the values of objects
abbrev pub value_at : List Operand → List (List Bit) → (place n : ℕ) → List Bit
value_at operands values place n = value (value_in values) n (term_at operands place)

-- sizes are those of operands, and each is that of a vector
pub record IsSized (operands : List Operand) (sizes : List ℕ) : Type 0 where
  pub are_sizes : sizes ≡ sizes_in operands
  pub fit : list_all is_width sizes ≡ true
