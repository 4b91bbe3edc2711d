-- The truth tables of bits, and vectors made bit by bit.
use Rattle.std.specs.Prelude.{List, [], ◌∷◌, map}
use Rattle.vp_bits.specs.declared.bit.Bit.{Bit}
use Rattle.vp_bits.specs.declared.bit.Bit.TheVariants.{Zero, One, Unknown, HighImpedance}

-- bitwise and (IEEE Std 1364-2005, 5.1.10)
abbrev pub and_bit : Bit → Bit → Bit
and_bit Zero Zero = Zero
and_bit Zero One = Zero
and_bit Zero Unknown = Zero
and_bit Zero HighImpedance = Zero
and_bit One Zero = Zero
and_bit One One = One
and_bit One Unknown = Unknown
and_bit One HighImpedance = Unknown
and_bit Unknown Zero = Zero
and_bit Unknown One = Unknown
and_bit Unknown Unknown = Unknown
and_bit Unknown HighImpedance = Unknown
and_bit HighImpedance Zero = Zero
and_bit HighImpedance One = Unknown
and_bit HighImpedance Unknown = Unknown
and_bit HighImpedance HighImpedance = Unknown

-- bitwise or (IEEE Std 1364-2005, 5.1.10)
abbrev pub or_bit : Bit → Bit → Bit
or_bit Zero Zero = Zero
or_bit Zero One = One
or_bit Zero Unknown = Unknown
or_bit Zero HighImpedance = Unknown
or_bit One Zero = One
or_bit One One = One
or_bit One Unknown = One
or_bit One HighImpedance = One
or_bit Unknown Zero = Unknown
or_bit Unknown One = One
or_bit Unknown Unknown = Unknown
or_bit Unknown HighImpedance = Unknown
or_bit HighImpedance Zero = Unknown
or_bit HighImpedance One = One
or_bit HighImpedance Unknown = Unknown
or_bit HighImpedance HighImpedance = Unknown

-- bitwise exclusive or (IEEE Std 1364-2005, 5.1.10)
abbrev pub xor_bit : Bit → Bit → Bit
xor_bit Zero Zero = Zero
xor_bit Zero One = One
xor_bit Zero Unknown = Unknown
xor_bit Zero HighImpedance = Unknown
xor_bit One Zero = One
xor_bit One One = Zero
xor_bit One Unknown = Unknown
xor_bit One HighImpedance = Unknown
xor_bit Unknown Zero = Unknown
xor_bit Unknown One = Unknown
xor_bit Unknown Unknown = Unknown
xor_bit Unknown HighImpedance = Unknown
xor_bit HighImpedance Zero = Unknown
xor_bit HighImpedance One = Unknown
xor_bit HighImpedance Unknown = Unknown
xor_bit HighImpedance HighImpedance = Unknown

-- bitwise negation (IEEE Std 1364-2005, 5.1.10)
abbrev pub not_bit : Bit → Bit
not_bit Zero = One
not_bit One = Zero
not_bit Unknown = Unknown
not_bit HighImpedance = Unknown

-- one bit of the two arms of a conditional operator whose condition is unknown (IEEE Std 1364-2005, 5.1.13)
abbrev pub merge_bit : Bit → Bit → Bit
merge_bit Zero Zero = Zero
merge_bit Zero One = Unknown
merge_bit Zero Unknown = Unknown
merge_bit Zero HighImpedance = Unknown
merge_bit One Zero = Unknown
merge_bit One One = One
merge_bit One Unknown = Unknown
merge_bit One HighImpedance = Unknown
merge_bit Unknown Zero = Unknown
merge_bit Unknown One = Unknown
merge_bit Unknown Unknown = Unknown
merge_bit Unknown HighImpedance = Unknown
merge_bit HighImpedance Zero = Unknown
merge_bit HighImpedance One = Unknown
merge_bit HighImpedance Unknown = Unknown
merge_bit HighImpedance HighImpedance = Unknown

-- the table at the first bits, then at the next, and so on (IEEE Std 1364-2005, 5.1.10)
abbrev pub bitwise : (Bit → Bit → Bit) → List Bit → List Bit → List Bit
bitwise table [] others = []
bitwise table (bit ∷ bits) [] = []
bitwise table (bit ∷ bits) (other ∷ others) = table bit other ∷ bitwise table bits others

-- the negation of each bit (IEEE Std 1364-2005, 5.1.10)
abbrev pub negated : List Bit → List Bit
negated bits = map not_bit bits

-- the table over all bits, from a first value (IEEE Std 1364-2005, 5.1.11)
abbrev pub folded : (Bit → Bit → Bit) → Bit → List Bit → Bit
folded table start [] = start
folded table start (bit ∷ bits) = table bit (folded table start bits)

-- the truth of a vector: 1 if some bit is 1, 0 if all are 0, else x (IEEE Std 1364-2005, 5.1.9; profile)
abbrev pub truth : List Bit → Bit
truth bits = folded or_bit Zero bits

-- reduction and: from 1 (IEEE Std 1364-2005, 5.1.11)
abbrev pub and_of_all : List Bit → List Bit
and_of_all bits = folded and_bit One bits ∷ []

-- reduction or: from 0 (IEEE Std 1364-2005, 5.1.11)
abbrev pub or_of_all : List Bit → List Bit
or_of_all bits = folded or_bit Zero bits ∷ []

-- reduction exclusive or: from 0 (IEEE Std 1364-2005, 5.1.11)
abbrev pub xor_of_all : List Bit → List Bit
xor_of_all bits = folded xor_bit Zero bits ∷ []
