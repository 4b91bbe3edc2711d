-- What an expression reads.
use Rattle.std.specs.Prelude.{ℕ, List, [], ◌∷◌, ◌++◌, map}
use Rattle.vp_operand.specs.declared.operand.Operand.{Operand}
use Rattle.vp_operand.specs.declared.operand.Slot.{Slot}
use Rattle.vp_operand.specs.Arena.{term_at}
use Rattle.vp_operand.specs.Terms.{Term, Object, Constant, BitSelect, PartSelect, Applied, Reduced, Combined, Shifted, Compared, Joined, Conditional, Concatenated, Appended, Replicated}

-- the slots of the names of a term, those of indexes too, in the order of the text (clause 9.7.5)
abbrev pub reads : Term → List ℕ
reads (Object slot width) = slot ∷ []
reads (Constant bits s) = []
reads (BitSelect slot lowest index) = slot ∷ reads index
reads (PartSelect slot place width) = slot ∷ []
reads (Applied o a) = reads a
reads (Reduced o a) = reads a
reads (Combined o a b) = reads a ++ reads b
reads (Shifted o a b) = reads a ++ reads b
reads (Compared o a b) = reads a ++ reads b
reads (Joined o a b) = reads a ++ reads b
reads (Conditional c a b) = reads c ++ reads a ++ reads b
reads (Concatenated a) = reads a
reads (Appended list a) = reads list ++ reads a
reads (Replicated count list) = reads list

-- the slot of a number
abbrev pub slot_at : ℕ → Slot
slot_at number = record { 0 = number }

-- the slots that the expression at a place reads, those of indexes too
abbrev pub slots_at : List Operand → (place : ℕ) → List Slot
slots_at operands place = map slot_at (reads (term_at operands place))
