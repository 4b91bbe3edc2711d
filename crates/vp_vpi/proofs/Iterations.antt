-- The objects of an iteration, one more at the end.
use Rattle.std.proofs.Common.{◌≡◌, ◌∙◌, ◌<◌, ◌≤◌, ℕ, suc, ◌+◌, List, [], ◌∷◌, ◌++◌, length, map, take, get_or, ap, arith}
use Rattle.std.proofs.Math.Seq.{take-suc}
use Rattle.std.proofs.lemmas.List.{length-map, length-take-le, map-append}
use Rattle.vp_elab.specs.declared.object.ObjectId.{ObjectId}
use Rattle.vp_vpi.specs.Calls.{items_from}

-- the object after others has the handle after theirs
items_more : (name : ℕ → List ℕ) (handle : ℕ) (os : List ℕ) (o n : ℕ) → n ≡ handle + length os → items_from name handle (os ++ o ∷ []) ≡ items_from name handle os ++ record { handle = n; name = name o } ∷ []
items_more name handle [] o n e = ap (λ h. (record { handle = h; name = name o } ∷ [])) (let k : handle ≡ n = omega (arith, e) in k)
items_more name handle (x ∷ os) o n e =
    ap (λ items. record { handle = handle; name = name x } ∷ items) (items_more name (suc handle) os o n (omega (arith, e)))

-- the numbers of the first of these objects, and of one more
ids_more : (os : List ObjectId) (k : ℕ) (d : ObjectId) → k < length os → map (λ (o : ObjectId). o.0) (take (k + 1) os) ≡ map (λ (o : ObjectId). o.0) (take k os) ++ (get_or os k d).0 ∷ []
ids_more os k d within =
    let e : k + 1 ≡ suc k = omega arith in
    ap (λ j. map (λ (o : ObjectId). o.0) (take j os)) e
    ∙ ap (map (λ (o : ObjectId). o.0)) (take-suc os k d within)
    ∙ map-append (λ (o : ObjectId). o.0) (take k os) (get_or os k d ∷ [])

-- as many numbers as objects
ids_count : (os : List ObjectId) (k : ℕ) → k ≤ length os → length (map (λ (o : ObjectId). o.0) (take k os)) ≡ k
ids_count os k within = length-map (take k os) (λ (o : ObjectId). o.0) ∙ length-take-le k os within

-- the first of the objects, and one more
pub items_step : (name : ℕ → List ℕ) (last k n : ℕ) (os : List ObjectId) (d : ObjectId) → k < length os → n ≡ last + k + 1 → items_from name (suc last) (map (λ (o : ObjectId). o.0) (take (k + 1) os)) ≡ items_from name (suc last) (map (λ (o : ObjectId). o.0) (take k os)) ++ record { handle = n; name = name (get_or os k d).0 } ∷ []
items_step name last k n os d within e =
    let count = ids_count os k (omega (arith, within)) in
    ap (items_from name (suc last)) (ids_more os k d within)
    ∙ items_more name (suc last) (map (λ (o : ObjectId). o.0) (take k os)) (get_or os k d).0 n (omega (arith, e, count))
