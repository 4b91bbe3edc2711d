-- Sizes that are not too many are the same, however deep paths may be.
use Rattle.std.proofs.Common.{◌≡◌, ℕ, zero, suc, ◌+◌, ◌≤◌, List, [], ◌∷◌, ◌++◌, length, Option, Some, None, refl, ap, ◌∙◌, arith}
use Rattle.std.specs.Option.{option_map_or}
use Rattle.std.proofs.lemmas.List.{length-append}
use Rattle.vp_source.specs.declared.source.Source.{Source}
use Rattle.vp_source.specs.declared.source.Module.{Module}
use Rattle.vp_source.specs.declared.source.Item.{Item}
use Rattle.vp_modules.specs.Items.{definition_of, items_in}
use Rattle.vp_pragma.specs.declared.envelope.Envelope.{Envelope}
use Rattle.vp_elab.specs.declared.object.TheConstants.{OBJECT_LIMIT}
use Rattle.vp_elab.specs.Tree.{Step}
use Rattle.vp_elab.specs.Elaboration.{item_step}
use Rattle.vp_elab.specs.Sizes.{item_size, size, total}
use Rattle.vp_elab.proofs.Entries.{Entry, entries_below, entries_from, item_entries}

-- a sum over lists that follow each other
pub total-append : {X : Type 0} (f : X → ℕ) (xs ys : List X) → total f (xs ++ ys) ≡ total f xs + total f ys
total-append f [] ys = omega arith
total-append f (x ∷ xs) ys = let rest = total-append f xs ys in omega arith

-- sums of what is the same as far as it is no more than a number
pub total_same : {X : Type 0} (limit : ℕ) (f g : X → ℕ) → ((x : X) → f x ≤ limit → g x ≡ f x) → (xs : List X) → total f xs ≤ limit → total g xs ≡ total f xs
total_same limit f g same [] few = refl
total_same limit f g same (x ∷ xs) few =
    let here : g x ≡ f x = same x (omega arith) in
    let rest : total g xs ≡ total f xs = total_same limit f g same xs (omega arith) in
    omega arith

module _ (source : Source) where
  stable_by : (d e : ℕ) → ((m : Module) → size source d m ≤ OBJECT_LIMIT → size source e m ≡ size source d m) → (o : Option Module) → 1 + option_map_or (size source d) o 0 ≤ OBJECT_LIMIT → 1 + option_map_or (size source e) o 0 ≡ 1 + option_map_or (size source d) o 0
  stable_by d e same None few = refl
  stable_by d e same (Some m) few = ap (λ (n : ℕ). 1 + n) (same m (omega arith))

  -- the size of an item
  pub stable : (d e : ℕ) (i : Item) → item_size source d i ≤ OBJECT_LIMIT → d ≤ e → item_size source e i ≡ item_size source d i
  stable zero e i few less = absurd (omega arith)
  stable (suc d) zero i few less = absurd (omega arith)
  stable (suc d) (suc e) i few less =
      stable_by d e (λ m few. total_same OBJECT_LIMIT (item_size source d) (item_size source e) (λ i few. stable d e i few (omega arith)) (items_in source m) few) (definition_of source i) few

  -- the size of a module
  pub size_stable : (d e : ℕ) (m : Module) → size source d m ≤ OBJECT_LIMIT → d ≤ e → size source e m ≡ size source d m
  size_stable d e m few less = total_same OBJECT_LIMIT (item_size source d) (item_size source e) (λ i few. stable d e i few less) (items_in source m) few

  -- ---- how many entries there are

  module _ (envelopes : List Envelope) where
    long_by :
        (d : ℕ) → ((above : List Step) (p : ℕ) (m : Module) → size source d m ≤ OBJECT_LIMIT → length (entries_below source envelopes (suc d) above p m) ≡ size source d m)
        → (path : List Step) (next : ℕ) (o : Option Module) → 1 + option_map_or (size source d) o 0 ≤ OBJECT_LIMIT
        → length (option_map_or (entries_below source envelopes (suc d) path next) o []) ≡ option_map_or (size source d) o 0
    long_by d long path next None few = refl
    long_by d long path next (Some m) few = long path next m (omega arith)

    long_from :
        (d : ℕ) → ((above : List Step) (p : ℕ) (m : Module) (k next : ℕ) (i : Item) → item_size source d i ≤ OBJECT_LIMIT → length (item_entries source envelopes (entries_below source envelopes d) above p m k next i) ≡ item_size source d i)
        → (above : List Step) (p : ℕ) (m : Module) (k next : ℕ) (is : List Item) → total (item_size source d) is ≤ OBJECT_LIMIT
        → length (entries_from source envelopes (entries_below source envelopes d) above p m k next is) ≡ total (item_size source d) is
    long_from d long above p m k next [] few = refl
    long_from d long above p m k next (i ∷ is) few =
        let own : List Entry = item_entries source envelopes (entries_below source envelopes d) above p m k next i in
        let here : length own ≡ item_size source d i = long above p m k next i (omega arith) in
        let rest = long_from d long above p m (k + 1) (next + length own) is (omega arith) in
        length-append own (entries_from source envelopes (entries_below source envelopes d) above p m (k + 1) (next + length own) is) ∙ omega arith

    -- those of an item
    pub long_item : (d : ℕ) (above : List Step) (p : ℕ) (m : Module) (k next : ℕ) (i : Item) → item_size source d i ≤ OBJECT_LIMIT → length (item_entries source envelopes (entries_below source envelopes d) above p m k next i) ≡ item_size source d i
    long_item zero above p m k next i few = absurd (omega arith)
    long_item (suc d) above p m k next i few =
        let sub = long_by d (λ above p m few. long_from d (long_item d) above p m 0 (p + 1) (items_in source m) few) (above ++ item_step source envelopes m i ∷ []) next (definition_of source i) few in
        omega arith

    -- those below a module's object
    pub long_below : (d : ℕ) (above : List Step) (p : ℕ) (m : Module) → size source d m ≤ OBJECT_LIMIT → length (entries_below source envelopes (suc d) above p m) ≡ size source d m
    long_below d above p m few = long_from d (long_item d) above p m 0 (p + 1) (items_in source m) few
