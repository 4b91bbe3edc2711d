-- What is read of the items of an array, one by one.
use Rattle.std.proofs.Common.{◌≡◌, ℕ, suc, ◌+◌, ◌<◌, List, [], ◌∷◌, ◌++◌, length, drop, get_or, Option, Some, None, refl, sym, ap, ◌∙◌, arith}
use Rattle.std.specs.Prelude.{option_and_then, option_map}
use Rattle.std.proofs.Math.Seq.{drop-cons}
use Rattle.std.proofs.lemmas.List.{append_assoc}
use Rattle.serde_json.specs.Data.{Data}
use Rattle.serde_json.specs.View.{view, items_view}
use Rattle.serde_json.specs.declared.value.Value.{Value}
use Rattle.vp_policy.specs.File.{each_of}

-- the first of the items from a place on, and those after it
each_at :
    {X : Type 0} (f : Data → Option X) (vs : List Value) (i : ℕ) (d : Value) → i < length vs
    → each_of f (items_view (drop i vs)) ≡ option_and_then (λ x. option_map (λ xs. x ∷ xs) (each_of f (items_view (drop (i + 1) vs)))) (f (view (get_or vs i d)))
each_at f vs i d in_list =
    let next : suc i ≡ i + 1 = omega arith in
    ap (λ (ws : List Value). each_of f (items_view ws)) (drop-cons vs i d in_list)
    ∙ ap (λ (n : ℕ). option_and_then (λ x. option_map (λ xs. x ∷ xs) (each_of f (items_view (drop n vs)))) (f (view (get_or vs i d)))) next

joined : {X : Type 0} (done : List X) (x : X) (rest : Option (List X)) → option_map (λ xs. (done ++ x ∷ []) ++ xs) rest ≡ option_map (λ xs. done ++ xs) (option_map (λ xs. x ∷ xs) rest)
joined done x None = refl
joined done x (Some xs) = ap Some (append_assoc done (x ∷ []) xs)

-- what is read of the first is read after what was read before
pub each_more :
    {X : Type 0} (f : Data → Option X) (done : List X) (vs : List Value) (i : ℕ) (d : Value) (x : X) → i < length vs
    → f (view (get_or vs i d)) ≡ Some x
    → option_map (λ xs. (done ++ x ∷ []) ++ xs) (each_of f (items_view (drop (i + 1) vs))) ≡ option_map (λ xs. done ++ xs) (each_of f (items_view (drop i vs)))
each_more f done vs i d x in_list h =
    let rest = each_of f (items_view (drop (i + 1) vs)) in
    joined done x rest
    ∙ ap (option_map (λ xs. done ++ xs)) (sym (each_at f vs i d in_list ∙ ap (option_and_then (λ x. option_map (λ xs. x ∷ xs) rest)) h))
