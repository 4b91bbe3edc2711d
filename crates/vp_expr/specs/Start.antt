-- The value of an object before anything has happened.
use Rattle.std.specs.Prelude.{ℕ, List, [], ◌∷◌, replicate}
use Rattle.vp_bits.specs.declared.bit.Bit.{Bit}
use Rattle.vp_bits.specs.declared.bit.Bit.TheVariants.{Unknown, HighImpedance}
use Rattle.vp_elab.specs.Built.{Elaborated}
use Rattle.vp_elab.specs.Tree.{Node}
use Rattle.vp_elab.specs.declared.object.Kind.{Kind}
use Rattle.vp_elab.specs.declared.object.Kind.TheVariants as kind
use Rattle.vp_resolve.specs.Constants.{constant_of}

-- every bit of a reg is x, of a net without a driver z (clause 4.2.2); a localparam has its constant (clause 4.10.2); any
-- other object has one bit x, which nothing reads (profile)
abbrev pub start_value : Kind → (width : ℕ) → (constant : List Bit) → List Bit
start_value kind.Reg width constant = replicate width Unknown
start_value kind.Net width constant = replicate width HighImpedance
start_value kind.Parameter width constant = constant
start_value kind.Module width constant = Unknown ∷ []
start_value kind.Always width constant = Unknown ∷ []
start_value kind.Initial width constant = Unknown ∷ []
start_value kind.Assign width constant = Unknown ∷ []

-- the value of an object of a design before anything has happened
abbrev pub start_of : Elaborated → Node → List Bit
start_of design node = start_value node.kind node.width (constant_of design node)
