-- The objects of a view that are found, or listed, by their numbers one after the other.
use Rattle.std.proofs.Common.{◌≡◌, ◌∙◌, ℕ, zero, suc, ◌+◌, ◌<◌, ◌≤◌, List, [], ◌∷◌, length, filter, slice_get, drop, cond, Option, Some, None, Bool, true, false, refl, sym, ap, arith}
use Rattle.std.specs.List.{position, position_from}
use Rattle.std.specs.Option.{option_map_or}
use Rattle.std.proofs.Math.ListN.{drop_of_length-le}
use Rattle.std.proofs.lemmas.Iterator.Adapters.{position_from-zero}
use Rattle.vp_elab.specs.Tree.{below}
use Rattle.vp_policy.specs.SeenObjects.{path_to}
use Rattle.vp_policy.specs.View.{SeenNode, View}
use Rattle.vp_replay.specs.Objects.{names_to}
use Rattle.vp_replay.specs.Seen.{is_in_seen, is_named_seen, listed_seen, scope_seen}

-- ---- the first that passes

-- what is there
got : {X : Type 0} (xs : List X) (n : ℕ) → n < length xs → (x : X) × (slice_get xs n ≡ Some x)
got [] n h = absurd (omega arith)
got (x ∷ xs) zero h = (x, refl)
got (x ∷ xs) (suc n) h = got xs n (omega arith)

drop_there : {X : Type 0} (xs : List X) (n : ℕ) (x : X) → slice_get xs n ≡ Some x → drop n xs ≡ x ∷ drop (suc n) xs
drop_there [] n x h = absurd cc
drop_there (y ∷ xs) zero x h = ap (λ z. z ∷ xs) cc
drop_there (y ∷ xs) (suc n) x h = drop_there xs n x h

module _ (nodes : List SeenNode) (names : List (List ℕ)) where
  -- a node has these names
  abbrev pub has_names : SeenNode → Bool
  has_names node = is_named_seen names node.path

  -- the first of them is the first from the beginning on
  pub first_is : position has_names nodes ≡ position_from has_names 0 nodes
  first_is = position_from-zero has_names nodes

  here_by : (n : ℕ) (node : SeenNode) (b : Bool) → slice_get nodes n ≡ Some node → is_named_seen names (path_to nodes (Some n)) ≡ b
      → cond b (Some n) (position_from has_names (n + 1) (drop (suc n) nodes)) ≡ position_from has_names n (drop n nodes)
  here_by n node b at tells =
      let own : has_names node ≡ b = sym (ap (λ x. is_named_seen names (option_map_or (λ (y : SeenNode). y.path) x [])) at) ∙ tells in
      ap (λ x. cond x (Some n) (position_from has_names (n + 1) (drop (suc n) nodes))) (sym own)
      ∙ sym (ap (position_from has_names n) (drop_there nodes n node at))

  -- one that has them
  pub named_here : (n : ℕ) → n < length nodes → is_named_seen names (path_to nodes (Some n)) ≡ true → Some n ≡ position_from has_names n (drop n nodes)
  named_here n within tells = let there = got nodes n within in here_by n there.0 true there.1 tells

  -- one that does not
  pub named_later : (n : ℕ) → n < length nodes → is_named_seen names (path_to nodes (Some n)) ≡ false → position_from has_names (n + 1) (drop (n + 1) nodes) ≡ position_from has_names n (drop n nodes)
  named_later n within tells =
      let there = got nodes n within in
      let next : n + 1 ≡ suc n = omega arith in
      ap (λ k. position_from has_names (n + 1) (drop k nodes)) next ∙ here_by n there.0 false there.1 tells

  -- after the last there is none
  pub named_nowhere : (n : ℕ) → length nodes ≤ n → None ≡ position_from has_names n (drop n nodes)
  named_nowhere n past = sym (ap (position_from has_names n) (drop_of_length-le nodes past))

-- ---- those that are listed

-- the names of a scope
pub scope_is : (v : View) (scope : Option ℕ) → scope_seen v scope ≡ names_to v.nodes scope
scope_is v None = refl
scope_is v (Some o) = refl

module _ (v : View) (scope : Option ℕ) where
  -- the object of a number stands in the scope
  abbrev stands : ℕ → Bool
  stands o = option_map_or (λ node. is_in_seen (scope_seen v scope) node.path) (slice_get v.nodes o) false

  -- of the objects below a number those that are listed in the scope
  abbrev pub listed_below : ℕ → List ℕ
  listed_below n = filter (listed_seen v) (filter stands (below n))
