-- The bits of an object that a name stands for, by the node that the object stands for.
use Rattle.std.proofs.Common.{◌≡◌, ◌∙◌, ℕ, List, Option, Some, sym, ap}
use Rattle.std.specs.Prelude.{slice_get, option_map}
use Rattle.vp_elab.specs.declared.object.Object.{Object}
use Rattle.vp_elab.specs.Objects.{StandsFor}
use Rattle.vp_elab.specs.Tree.{Node}

-- how many bits a node has, and the lowest index, if there is one
abbrev pub bits_of : Node → ℕ × Option ℕ
bits_of n = (n.width, n.lowest)

-- an object has the bits of the node that it stands for
pub bits_there : (nodes : List Node) (id : ℕ) (o : Object) → StandsFor nodes id o → option_map bits_of (slice_get nodes id) ≡ Some (o.width, o.lowest)
bits_there nodes id o s =
    ap (option_map bits_of) s.there
    ∙ ap (λ (w : ℕ). Some (w, s.node.lowest)) (sym s.width)
    ∙ ap (λ (l : Option ℕ). Some (o.width, l)) (sym s.lowest)
