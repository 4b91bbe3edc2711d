-- The values of a design's objects at the start, by the nodes that they stand for.
use Rattle.std.proofs.Common.{◌≡◌, ◌∙◌, ℕ, zero, suc, ◌+◌, ◌<◌, List, [], ◌∷◌, ◌++◌, Option, Some, None, length, map, take, slice_get, refl, ap, arith}
use Rattle.std.specs.Option.{option_map_or}
use Rattle.std.specs.Prelude.{option_and_then}
use Rattle.std.proofs.lemmas.Option.{slice_get-get_or}
use Rattle.vp_bits.specs.declared.bit.Bit.{Bit}
use Rattle.vp_elab.specs.declared.object.Kind.{Kind}
use Rattle.vp_elab.specs.declared.object.Object.{Object}
use Rattle.vp_elab.specs.Built.{Elaborated}
use Rattle.vp_elab.specs.Items.{node_item}
use Rattle.vp_elab.specs.Tree.{Node}
use Rattle.vp_operand.specs.Values.{no_value}
use Rattle.vp_resolve.specs.Constants.{constant_among}
use Rattle.vp_expr.specs.Start.{start_of, start_value}
use Rattle.vp_expr.proofs.Growing.{map_taken}

-- an object starts with the value of the node of its number
pub start_there : (d : Elaborated) (os : List Object) (ns : List Node) (id : ℕ) (o : Object) → map (λ (o : Object). o.kind) os ≡ map (λ (n : Node). n.kind) ns → map (λ (o : Object). o.width) os ≡ map (λ (n : Node). n.width) ns → slice_get os id ≡ Some o → start_value o.kind o.width (constant_among d.source o.width (option_and_then (node_item d.source) (slice_get ns id))) ≡ option_map_or (start_of d) (slice_get ns id) no_value
start_there d [] ns id o k w is = absurd cc
start_there d (p ∷ os) [] id o k w is = absurd cc
start_there d (p ∷ os) (n ∷ ns) zero o k w is =
    let kind : o.kind ≡ n.kind = cc in
    let width : o.width ≡ n.width = cc in
    ap (λ (x : Kind). start_value x o.width (constant_among d.source o.width (node_item d.source n))) kind
    ∙ ap (λ (x : ℕ). start_value n.kind x (constant_among d.source x (node_item d.source n))) width
start_there d (p ∷ os) (n ∷ ns) (suc id) o k w is =
    let kinds : map (λ (o : Object). o.kind) os ≡ map (λ (n : Node). n.kind) ns = cc in
    let widths : map (λ (o : Object). o.width) os ≡ map (λ (n : Node). n.width) ns = cc in
    start_there d os ns id o kinds widths is

-- after the objects there are no nodes
pub none_there : (d : Elaborated) (os : List Object) (ns : List Node) (id : ℕ) → map (λ (o : Object). o.kind) os ≡ map (λ (n : Node). n.kind) ns → slice_get os id ≡ None → no_value ≡ option_map_or (start_of d) (slice_get ns id) no_value
none_there d [] [] id k is = refl
none_there d [] (n ∷ ns) id k is = absurd cc
none_there d (p ∷ os) [] id k is = absurd cc
none_there d (p ∷ os) (n ∷ ns) zero k is = absurd cc
none_there d (p ∷ os) (n ∷ ns) (suc id) k is =
    let kinds : map (λ (o : Object). o.kind) os ≡ map (λ (n : Node). n.kind) ns = cc in
    none_there d os ns id kinds is

-- one more value of those of the first nodes
pub start_more : (d : Elaborated) (ns : List Node) (values : List (List Bit)) (i : ℕ) (value : List Bit) → i < length ns → values ≡ map (start_of d) (take i ns) → value ≡ option_map_or (start_of d) (slice_get ns i) no_value → values ++ value ∷ [] ≡ map (start_of d) (take (i + 1) ns)
start_more d [] values i value h so_far is = absurd (omega arith)
start_more d (n ∷ ns) values i value h so_far is =
    map_taken (start_of d) values (n ∷ ns) i n value h so_far
    (is ∙ ap (λ (o : Option Node). option_map_or (start_of d) o no_value) (slice_get-get_or (n ∷ ns) i n h))
