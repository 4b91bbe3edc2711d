-- The objects of a view, and the steps to them.
use Rattle.std.proofs.Common.{◌≡◌, ◌∙◌, ℕ, zero, suc, ◌+◌, ◌≤◌, List, [], ◌∷◌, ◌++◌, length, slice_get, take, drop, Option, Some, None, refl, sym, ap, arith, append_assoc}
use Rattle.std.specs.Prelude.{MatchOption}
use Rattle.std.specs.Borrow.{Bor}
use Rattle.std.specs.Slice.{IsItemAt}
use Rattle.std.proofs.lemmas.List.{append-nil, length-append, length-take}
use Rattle.std.proofs.lemmas.Option.{slice_get_past, slice_get_read, slice_get_within}
use Rattle.vp_policy.specs.declared.view.SeenObject.{SeenObject}
use Rattle.vp_policy.specs.SeenObjects.{node_after, nodes_from}
use Rattle.vp_policy.specs.View.{SeenNode}

-- ---- nodes

-- the nodes of objects after others
nodes_from-append : (nodes : List SeenNode) (os more : List SeenObject) → nodes_from nodes (os ++ more) ≡ nodes_from (nodes_from nodes os) more
nodes_from-append nodes [] more = refl
nodes_from-append nodes (o ∷ os) more = nodes_from-append (nodes ++ node_after nodes o ∷ []) os more

-- there are as many as objects
length-nodes_from : (nodes : List SeenNode) (os : List SeenObject) → length (nodes_from nodes os) ≡ length nodes + length os
length-nodes_from nodes [] = omega arith
length-nodes_from nodes (o ∷ os) =
    let more = length-nodes_from (nodes ++ node_after nodes o ∷ []) os in
    let longer = length-append nodes (node_after nodes o ∷ []) in
    omega arith

-- the nodes of the objects after these
more_from : List SeenNode → List SeenObject → List SeenNode
more_from nodes [] = []
more_from nodes (o ∷ os) = node_after nodes o ∷ more_from (nodes ++ node_after nodes o ∷ []) os

nodes_from-more : (nodes : List SeenNode) (os : List SeenObject) → nodes_from nodes os ≡ nodes ++ more_from nodes os
unfolding more_from
nodes_from-more nodes [] = sym (append-nil nodes)
nodes_from-more nodes (o ∷ os) =
    nodes_from-more (nodes ++ node_after nodes o ∷ []) os
    ∙ append_assoc nodes (node_after nodes o ∷ []) (more_from (nodes ++ node_after nodes o ∷ []) os)

-- a list round an item
split_at : {X : Type 0} (xs : List X) (n : ℕ) (x : X) → slice_get xs n ≡ Some x → xs ≡ take n xs ++ x ∷ drop (suc n) xs
split_at [] n x h = absurd cc
split_at (y ∷ xs) zero x h = ap (λ z. z ∷ xs) cc
split_at (y ∷ xs) (suc n) x h = ap (λ zs. y ∷ zs) (split_at xs n x h)

get_seam : {X : Type 0} (xs : List X) (y : X) (ys : List X) → slice_get (xs ++ y ∷ ys) (length xs) ≡ Some y
get_seam [] y ys = refl
get_seam (x ∷ xs) y ys = get_seam xs y ys

take_seam : {X : Type 0} (xs ys : List X) → take (length xs) (xs ++ ys) ≡ xs
take_seam [] ys = refl
take_seam (x ∷ xs) ys = ap (λ zs. x ∷ zs) (take_seam xs ys)

-- the node of an object stands after those before it
node_there : (os : List SeenObject) (n : ℕ) (o : SeenObject) → slice_get os n ≡ Some o → slice_get (nodes_from [] os) n ≡ Some (node_after (take n (nodes_from [] os)) o)
node_there os n o at =
    let front : List SeenNode = nodes_from [] (take n os) in
    let rest : List SeenNode = more_from (front ++ node_after front o ∷ []) (drop (suc n) os) in
    let within = slice_get_within os n o at in
    let long : length front ≡ n = let a = length-nodes_from [] (take n os) in let b = length-take n os in omega arith in
    let whole : nodes_from [] os ≡ front ++ node_after front o ∷ rest =
    ap (nodes_from []) (split_at os n o at) ∙ nodes_from-append [] (take n os) (o ∷ drop (suc n) os)
    ∙ nodes_from-more (front ++ node_after front o ∷ []) (drop (suc n) os)
    ∙ append_assoc front (node_after front o ∷ []) rest in
    let start : take n (nodes_from [] os) ≡ front =
    ap (take n) whole ∙ ap (λ k. take k (front ++ node_after front o ∷ rest)) (sym long) ∙ take_seam front (node_after front o ∷ rest) in
    ap (λ ns. slice_get ns n) whole ∙ ap (slice_get (front ++ node_after front o ∷ rest)) (sym long) ∙ get_seam front (node_after front o) rest
    ∙ ap (λ ns. Some (node_after ns o)) (sym start)

-- where no object is, no node is
no_node : (os : List SeenObject) (n : ℕ) → length os ≤ n → slice_get (nodes_from [] os) n ≡ None
no_node os n past = slice_get_past (nodes_from [] os) n (let long = length-nodes_from [] os in omega arith)

-- what is got of objects at a number is the object whose node stands there
pub node_got : (os : List SeenObject) (n : ℕ) (got : Option (Bor SeenObject)) → IsItemAt os n got
    → MatchOption got (slice_get (nodes_from [] os) n ≡ None) (λ o. slice_get (nodes_from [] os) n ≡ Some (node_after (take n (nodes_from [] os)) o.now))
node_got os n None h = no_node os n h.3
node_got os n (Some o) h = node_there os n o.now (slice_get_read os (length os) n o.now refl h.3.0 h.1)
