-- The values of objects before anything has happened, at rows that are worked out by hand.
use Rattle.std.proofs.Common.{◌≡◌, [], ◌∷◌, refl}
use Rattle.vp_bits.specs.declared.bit.Bit.TheVariants.{Zero, One, Unknown, HighImpedance}
use Rattle.vp_elab.specs.declared.object.Kind.TheVariants as kind
use Rattle.vp_expr.specs.Start.{start_value}

-- a localparam starts with its constant, a reg with x, a net with z
localparam_starts : start_value kind.Parameter 2 (One ∷ Zero ∷ []) ≡ One ∷ Zero ∷ []
localparam_starts = refl

reg_starts : start_value kind.Reg 2 (One ∷ Zero ∷ []) ≡ Unknown ∷ Unknown ∷ []
reg_starts = refl

net_starts : start_value kind.Net 2 (One ∷ Zero ∷ []) ≡ HighImpedance ∷ HighImpedance ∷ []
net_starts = refl
