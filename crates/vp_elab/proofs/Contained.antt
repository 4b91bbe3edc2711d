-- An object is declared in the scope of the object above it, and in no other.
use Rattle.std.proofs.Common.{◌≡◌, ℕ, ◌≤◌, Bool, true, false, cond, List, [], ◌∷◌, ◌++◌, length, map, slice_get, Option, Some, None, is_some, refl, sym, ap, subst, ◌∙◌, arith}
use Rattle.std.specs.Prelude.{nat_eq, option_map}
use Rattle.std.specs.Option.{option_eq, option_map_or}
use Rattle.std.specs.Str.{bytes_eq}
use Rattle.std.proofs.lemmas.Bool.{eq-eqb, eqb-true, false_from_ne_true}
use Rattle.std.proofs.lemmas.List.{length-map}
use Rattle.std.proofs.lemmas.Option.{slice_get-map, slice_get_within}
use Rattle.vp_source.specs.declared.source.Source.{Source}
use Rattle.vp_modules.specs.Refusals.{twice_in}
use Rattle.vp_pragma.specs.declared.envelope.Envelope.{Envelope}
use Rattle.vp_elab.specs.declared.object.ObjectId.{ObjectId}
use Rattle.vp_elab.specs.Tree.{Node, Step, is_declared_in, is_in, names_of, step_in}
use Rattle.vp_elab.specs.Elaboration.{item_step, root_step}
use Rattle.vp_elab.proofs.Entries.{Entry, Inner, Top, node_at, object_at, path_at}
use Rattle.vp_elab.proofs.Found.{path_is}
use Rattle.vp_elab.proofs.Listed.{some_there}
use Rattle.vp_elab.proofs.Placed.{AllFrom, Good}
use Rattle.vp_elab.proofs.Scopes.{bool_same, step_last, step_read}
use Rattle.vp_elab.proofs.Unique.{good_at, path_some, same_ends, unique}

-- a path of several steps is that of no top module
not_top : (above : List Step) (s : Step) → 1 ≤ length above → step_in [] (above ++ s ∷ []) ≡ None
not_top [] s some = absurd (omega arith)
not_top (t ∷ []) s some = refl
not_top (t ∷ u ∷ above) s some = refl

step_in_none : (names : List (List ℕ)) → step_in names [] ≡ None
step_in_none [] = refl
step_in_none (n ∷ names) = refl

deeper_by : (b : Bool) (o : Option Step) → o ≡ None → is_some (cond b o None) ≡ false
deeper_by true o none = ap is_some none
deeper_by false o none = refl

-- a path of one step stands below no object
not_below : (names : List (List ℕ)) (s : Step) → 1 ≤ length names → is_some (step_in names (s ∷ [])) ≡ false
not_below [] s some = absurd (omega arith)
not_below (n ∷ names) s some = deeper_by (bytes_eq n s.name) (step_in names []) (step_in_none names)

-- objects are the same where their numbers are
pub ids_same : (a b : Option ObjectId) → option_eq (λ (x y : ObjectId). nat_eq x.0 y.0) a b ≡ option_eq nat_eq (option_map (λ (o : ObjectId). o.0) a) (option_map (λ (o : ObjectId). o.0) b)
ids_same None None = refl
ids_same None (Some y) = refl
ids_same (Some x) None = refl
ids_same (Some x) (Some y) = refl

module _ (source : Source) (envelopes : List Envelope) (once : twice_in source [] source.modules ≡ None) (all : List Entry) (placed : AllFrom (Good source envelopes all) 0 all) where
  abbrev nodes : List Node
  nodes = map (node_at source envelopes) all

  -- the number of the object above an entry
  abbrev pub above_of : Entry → Option ℕ
  above_of e = option_map (λ (o : ObjectId). o.0) (object_at source envelopes e).parent

  -- below the object of an entry
  below_entry : (id j : ℕ) (e f : Entry) → slice_get all id ≡ Some e → slice_get all j ≡ Some f → is_some (step_in (names_of (path_at source envelopes f)) (path_at source envelopes e)) ≡ option_eq nat_eq (above_of e) (Some j)
  below_entry id j (Top k m) f at at_f =
      let some = path_some source envelopes once all placed f in
      let long = length-map (path_at source envelopes f) (λ (s : Step). s.name) in
      not_below (names_of (path_at source envelopes f)) (root_step source envelopes m) (omega arith)
  below_entry id j (Inner above p m k i) f at at_f =
      let role = (good_at source envelopes once all placed id (Inner above p m k i) at).role in
      let s : Step = item_step source envelopes m i in
      bool_same (is_some (step_in (names_of (path_at source envelopes f)) (above ++ s ∷ []))) (nat_eq p j)
      (λ h.
      let it = some_there (step_in (names_of (path_at source envelopes f)) (above ++ s ∷ [])) h in
      let last = step_read (names_of (path_at source envelopes f)) (above ++ s ∷ []) it.0 it.1 in
      let ends = same_ends above last.0 s it.0 last.1 in
      let names : names_of (path_at source envelopes role.0) ≡ names_of (path_at source envelopes f) = ap names_of role.3 ∙ ap names_of ends.0 ∙ last.2 in
      let within = slice_get_within all p role.0 role.1 in
      let same : p ≡ j = unique source envelopes once all placed (length all) p j role.0 f within role.1 at_f names in
      eq-eqb p j same)
      (λ h.
      let same : p ≡ j = eqb-true p j h in
      let entry : role.0 ≡ f = cc (role.1, at_f, same) in
      let path : above ≡ path_at source envelopes f = sym role.3 ∙ ap (path_at source envelopes) entry in
      ap is_some (ap (λ (x : List Step). step_in (names_of x) (above ++ s ∷ [])) (sym path) ∙ step_last above s))

  -- below no object
  top_entry : (id : ℕ) (e : Entry) → slice_get all id ≡ Some e → is_some (step_in [] (path_at source envelopes e)) ≡ option_eq nat_eq (above_of e) None
  top_entry id (Top k m) at = refl
  top_entry id (Inner above p m k i) at =
      let role = (good_at source envelopes once all placed id (Inner above p m k i) at).role in
      ap is_some (not_top above (item_step source envelopes m i) (subst (λ (path : List Step). 1 ≤ length path) role.3 (path_some source envelopes once all placed role.0)))

  -- below what is not there
  nowhere_entry : (id j : ℕ) (e : Entry) → slice_get all id ≡ Some e → slice_get all j ≡ None → false ≡ option_eq nat_eq (above_of e) (Some j)
  nowhere_entry id j (Top k m) at none = refl
  nowhere_entry id j (Inner above p m k i) at none =
      let role = (good_at source envelopes once all placed id (Inner above p m k i) at).role in
      sym (false_from_ne_true (nat_eq p j) (λ h.
      let there : Some role.0 ≡ None = sym role.1 ∙ ap (slice_get all) (eqb-true p j h) ∙ none in
      absurd cc))

  below_by : (id j : ℕ) (e : Entry) (o : Option Entry) → slice_get all id ≡ Some e → slice_get all j ≡ o → option_map_or (λ names. is_some (step_in names (path_at source envelopes e))) (option_map (λ (n : Node). names_of n.path) (option_map (node_at source envelopes) o)) false ≡ option_eq nat_eq (above_of e) (Some j)
  below_by id j e None at at_j = nowhere_entry id j e at at_j
  below_by id j e (Some f) at at_j =
      ap (λ (path : List Step). is_some (step_in (names_of path) (path_at source envelopes e))) (path_is source envelopes once all placed f)
      ∙ below_entry id j e f at at_j

  -- an object is declared in the scope of the object above it, and in no other
  pub declared_in_parent : (id : ℕ) (e : Entry) (scope : Option ℕ) → slice_get all id ≡ Some e → is_declared_in nodes scope id ≡ option_eq nat_eq (above_of e) scope
  declared_in_parent id e None at =
      ap (λ (x : Option Node). option_map_or (is_in []) x false) (slice_get-map (node_at source envelopes) all id ∙ ap (option_map (node_at source envelopes)) at)
      ∙ ap (λ (path : List Step). is_some (step_in [] path)) (path_is source envelopes once all placed e)
      ∙ top_entry id e at
  declared_in_parent id e (Some j) at =
      ap (λ (x : Option Node). option_map_or (λ names. option_map_or (is_in names) x false) (option_map (λ (n : Node). names_of n.path) (slice_get nodes j)) false) (slice_get-map (node_at source envelopes) all id ∙ ap (option_map (node_at source envelopes)) at)
      ∙ ap (λ (path : List Step). option_map_or (λ names. is_some (step_in names path)) (option_map (λ (n : Node). names_of n.path) (slice_get nodes j)) false) (path_is source envelopes once all placed e)
      ∙ ap (λ (x : Option Node). option_map_or (λ names. is_some (step_in names (path_at source envelopes e))) (option_map (λ (n : Node). names_of n.path) x) false) (slice_get-map (node_at source envelopes) all j)
      ∙ below_by id j e (slice_get all j) at refl

  -- what is not there is declared in no scope
  pub declared_nowhere : (id : ℕ) (names : Option (List (List ℕ))) → slice_get all id ≡ None → option_map_or (λ names. option_map_or (is_in names) (slice_get nodes id) false) names false ≡ false
  declared_nowhere id None at = refl
  declared_nowhere id (Some names) at = ap (λ (x : Option Node). option_map_or (is_in names) x false) (slice_get-map (node_at source envelopes) all id ∙ ap (option_map (node_at source envelopes)) at)
