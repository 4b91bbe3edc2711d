-- The values of a design's objects.
use Rattle.std.specs.Prelude.{List, [], ◌∷◌}
use Rattle.vp_bits.specs.declared.bit.Bit.{Bit}
use Rattle.vp_bits.specs.declared.bit.Bit.TheVariants.{Unknown}

-- what stands for the value of an object that is not there
abbrev pub no_value : List Bit
no_value = Unknown ∷ []
