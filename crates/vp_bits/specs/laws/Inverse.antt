-- The words of a vector, from its bits.
use Rattle.std.proofs.Common.{◌≡◌, length, refl}
use Rattle.vp_bits.specs.declared.bits.Bits.TheInside.{Inside}
use Rattle.vp_bits.specs.Vector.{bits_of, aval_of, bval_of, IsStored}
use Rattle.vp_bits.specs.laws.Words.{length-bits_of, aval_of-bits_of, bval_of-bits_of}

-- the bits of a vector give its words back
pub inverse_of_view : (v : Inside) → IsStored v.width v.aval v.bval → (let bits = bits_of v.width v.aval v.bval in let given : Inside = record { width = length bits; aval = aval_of bits; bval = bval_of bits } in given ≡ v)
inverse_of_view v stored =
    rw (length-bits_of v.width v.aval v.bval, aval_of-bits_of v.width v.aval v.bval stored.aval_fits, bval_of-bits_of v.width v.aval v.bval stored.bval_fits) refl
