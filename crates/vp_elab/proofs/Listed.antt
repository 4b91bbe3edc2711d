-- What is declared in a scope stands at the numbers that its slots give.
use Rattle.std.proofs.Common.{◌≡◌, ℕ, suc, ◌+◌, ◌<◌, ◌≤◌, Bool, true, false, cond, List, [], ◌∷◌, ◌++◌, length, map, filter, take, slice_get, Option, Some, None, refl, sym, ap, subst, ◌∙◌, arith}
use Rattle.std.specs.Prelude.{is_some, option_map}
use Rattle.std.specs.List.{cons_option, filter_map}
use Rattle.std.specs.Option.{option_map_or}
use Rattle.std.proofs.lemmas.List.{append_assoc, append-nil, length-append, length-map, map-append}
use Rattle.std.proofs.lemmas.List.Elements.{filter-append}
use Rattle.std.proofs.lemmas.Option.{slice_get-map, slice_get_within}
use Rattle.vp_source.specs.Places.{word_at}
use Rattle.vp_source.specs.declared.source.Source.{Source}
use Rattle.vp_source.specs.declared.source.Module.{Module}
use Rattle.vp_source.specs.declared.source.Item.{Item}
use Rattle.vp_modules.specs.Items.{is_top, items_in}
use Rattle.vp_modules.specs.Refusals.{twice_in}
use Rattle.vp_pragma.specs.declared.envelope.Envelope.{Envelope}
use Rattle.vp_elab.specs.declared.object.TheConstants.{OBJECT_LIMIT}
use Rattle.vp_elab.specs.Tree.{Node, Step, below, find_named, is_in, names_of, step_in}
use Rattle.vp_elab.specs.Elaboration.{item_step, root_step, tops}
use Rattle.vp_elab.specs.Sizes.{capped, slots_from, slots_in, total, whole_size}
use Rattle.vp_elab.proofs.Entries.{Entry, Top, Inner, module_at, node_at, path_at}
use Rattle.vp_elab.proofs.Found.{child_of, found_entry, nothing_named, path_is, root_of}
use Rattle.vp_elab.proofs.Named.{module_index}
use Rattle.vp_elab.proofs.Placed.{AllFrom, Good, at_after, full_size, root_slot, slot, take_front}
use Rattle.vp_elab.proofs.Rising.{In, filtered_is, passing_at, passing_read, starts, starts_at, starts_after, starts_read, starts_rise}
use Rattle.vp_elab.proofs.Scopes.{step_last, step_read}
use Rattle.vp_elab.specs.laws.Children.{filter_none}
use Rattle.vp_elab.proofs.Marks.{filter_below_same}
use Rattle.vp_elab.proofs.Stable.{total-append}
use Rattle.vp_elab.proofs.Unique.{good_at}

pub some_there : {X : Type 0} (o : Option X) → is_some o ≡ true → (x : X) × (o ≡ Some x)
some_there None h = absurd cc
some_there (Some x) h = (x, refl)

module _ (source : Source) (envelopes : List Envelope) where
  -- an item is an object
  size_some : (i : Item) → 1 ≤ full_size source envelopes i
  size_some i = omega arith

  -- the slots of items, where none is beyond the greatest number of objects
  pub slots_start :
      (n : ℕ) (is : List Item) → ((k : ℕ) (i : Item) → slice_get is k ≡ Some i → n + total (full_size source envelopes) (take k is) ≤ OBJECT_LIMIT)
      → slots_from source n is ≡ starts (full_size source envelopes) n is
  slots_start n [] few = refl
  slots_start n (i ∷ is) few =
      let here : n + 0 ≤ OBJECT_LIMIT = few 0 i refl in
      let same : capped n ≡ n = omega arith in
      ap (λ (m : ℕ). m ∷ slots_from source (n + full_size source envelopes i) is) same
      ∙ ap (λ (ms : List ℕ). n ∷ ms) (slots_start (n + full_size source envelopes i) is (λ k j at. let l = few (suc k) j at in omega (arith, l)))

  module _ (once : twice_in source [] source.modules ≡ None) (all : List Entry) (placed : AllFrom (Good source envelopes all) 0 all) where
    abbrev nodes : List Node
    nodes = map (node_at source envelopes) all

    -- the object of a number is declared after these names
    abbrev pub listed : List (List ℕ) → ℕ → Bool
    listed scope e = option_map_or (is_in scope) (slice_get nodes e) false

    abbrev Declared : List (List ℕ) → ℕ → Type 0
    Declared scope e = (f : Entry) × (s : Step) × (above : List Step) × (slice_get all e ≡ Some f) × (path_at source envelopes f ≡ above ++ s ∷ []) × (names_of above ≡ scope)

    entry_by : (scope : List (List ℕ)) (e : ℕ) (o : Option Entry) → slice_get all e ≡ o → option_map_or (is_in scope) (option_map (node_at source envelopes) o) false ≡ true → Declared scope e
    entry_by scope e None at h = absurd cc
    entry_by scope e (Some f) at h =
        let some = some_there (step_in scope (node_at source envelopes f).path) h in
        let read = step_read scope (node_at source envelopes f).path some.0 some.1 in
        (f, some.0, read.0, at, sym (path_is source envelopes once all placed f) ∙ read.1, read.2)

    -- the entry of an object that is
    listed_entry : (scope : List (List ℕ)) (e : ℕ) → listed scope e ≡ true → Declared scope e
    listed_entry scope e h =
        entry_by scope e (slice_get all e) refl (ap (λ (x : Option Node). option_map_or (is_in scope) x false) (sym (slice_get-map (node_at source envelopes) all e)) ∙ h)

    -- and the other way round
    listed_there : (e : ℕ) (f : Entry) (above : List Step) (s : Step) → slice_get all e ≡ Some f → path_at source envelopes f ≡ above ++ s ∷ [] → (listed (names_of above) e ≡ true) × (e < length nodes)
    listed_there e f above s at path =
        let long = length-map all (node_at source envelopes) in
        let within = slice_get_within all e f at in (
          ap (λ (x : Option Node). option_map_or (is_in (names_of above)) x false) (slice_get-map (node_at source envelopes) all e ∙ ap (option_map (node_at source envelopes)) at)
              ∙ ap is_some (ap (step_in (names_of above)) (path_is source envelopes once all placed f ∙ path) ∙ step_last above s),
          omega arith,
        )

    -- ---- below an object

    one_name : (above : List Step) (s : Step) (path : List Step) (scope : List (List ℕ)) → path ≡ above ++ s ∷ [] → names_of above ≡ scope → names_of path ≡ scope ++ s.name ∷ []
    one_name above s path scope is names =
        ap names_of is ∙ map-append (λ (s : Step). s.name) above (s ∷ []) ∙ ap (λ (ns : List (List ℕ)). ns ++ s.name ∷ []) names

    child_there : (id : ℕ) (o : Entry) (m : Module) (e : ℕ) → slice_get all id ≡ Some o → module_at source envelopes o ≡ Some m → listed (names_of (path_at source envelopes o)) e ≡ true → In (starts (full_size source envelopes) (id + 1) (items_in source m)) e
    child_there id o m e at inside h =
        let it = listed_entry (names_of (path_at source envelopes o)) e h in
        let child = child_of source envelopes once all placed id o it.1.name e it.0 at it.3 (one_name it.2 it.1 (path_at source envelopes it.0) (names_of (path_at source envelopes o)) it.4 it.5) in
        let modules : child.0 ≡ m = cc (child.3, inside) in
        let item : slice_get (items_in source m) child.1 ≡ Some child.2 = subst (λ (x : Module). slice_get (items_in source x) child.1 ≡ Some child.2) modules child.4 in
        let number : e ≡ id + slot source envelopes m child.1 = subst (λ (x : Module). e ≡ id + slot source envelopes x child.1) modules child.7 in
        let same : (id + 1) + total (full_size source envelopes) (take child.1 (items_in source m)) ≡ e = omega (arith, number) in
        (child.1, starts_at (full_size source envelopes) (id + 1) child.1 (items_in source m) child.2 item ∙ ap {B = Option ℕ} Some same)

    pub child_back : (id : ℕ) (o : Entry) (m : Module) (k e : ℕ) → slice_get all id ≡ Some o → module_at source envelopes o ≡ Some m → slice_get (starts (full_size source envelopes) (id + 1) (items_in source m)) k ≡ Some e → (listed (names_of (path_at source envelopes o)) e ≡ true) × (e < length nodes)
    child_back id o m k e at inside at_e =
        let it = starts_read (full_size source envelopes) (id + 1) k (items_in source m) e at_e in
        let number : id + slot source envelopes m k ≡ e = omega (arith, it.2) in
        let child = (good_at source envelopes once all placed id o at).children m inside k it.0 it.1 in
        listed_there e (Inner (path_at source envelopes o) id m k it.0) (path_at source envelopes o) (item_step source envelopes m it.0)
        (subst (λ (n : ℕ). slice_get all n ≡ Some (Inner (path_at source envelopes o) id m k it.0)) number child) refl

    -- the items of its module
    pub child_list :
        (id : ℕ) (o : Entry) (m : Module) → slice_get all id ≡ Some o → module_at source envelopes o ≡ Some m
        → filter (listed (names_of (path_at source envelopes o))) (below (length nodes)) ≡ starts (full_size source envelopes) (id + 1) (items_in source m)
    child_list id o m at inside =
        filtered_is (listed (names_of (path_at source envelopes o))) (length nodes) (starts (full_size source envelopes) (id + 1) (items_in source m))
        (starts_rise (full_size source envelopes) size_some 0 (id + 1) (omega arith) (items_in source m))
        (λ e h. child_there id o m e at inside h) (λ k e at_e. child_back id o m k e at inside at_e)

    -- which stand as far after it as its slots say
    pub child_slots : (id : ℕ) (o : Entry) (m : Module) → length all ≤ OBJECT_LIMIT → slice_get all id ≡ Some o → module_at source envelopes o ≡ Some m → map (λ s. id + s) (slots_in source m) ≡ starts (full_size source envelopes) (id + 1) (items_in source m)
    child_slots id o m few at inside =
        ap (map (λ s. id + s))
        (slots_start 1 (items_in source m) (λ k i at_i.
        let within = slice_get_within all (id + slot source envelopes m k) _ ((good_at source envelopes once all placed id o at).children m inside k i at_i) in
        omega arith))
        ∙ starts_after (full_size source envelopes) id 1 (id + 1) refl (items_in source m)

    nothing_by : (id : ℕ) (o : Entry) (e : ℕ) (b : Bool) → slice_get all id ≡ Some o → module_at source envelopes o ≡ None → listed (names_of (path_at source envelopes o)) e ≡ b → b ≡ false
    nothing_by id o e false at none is = refl
    nothing_by id o e true at none is =
        let it = listed_entry (names_of (path_at source envelopes o)) e is in
        let child = child_of source envelopes once all placed id o it.1.name e it.0 at it.3 (one_name it.2 it.1 (path_at source envelopes it.0) (names_of (path_at source envelopes o)) it.4 it.5) in
        absurd (let wrong : Some child.0 ≡ None = sym child.3 ∙ none in cc)

    -- nothing below what is no module
    pub leaf_list : (id : ℕ) (o : Entry) → slice_get all id ≡ Some o → module_at source envelopes o ≡ None → filter (listed (names_of (path_at source envelopes o))) (below (length nodes)) ≡ []
    leaf_list id o at none =
        filter_below_same (listed (names_of (path_at source envelopes o))) (λ e. false) (length nodes) (λ e l. nothing_by id o e (listed (names_of (path_at source envelopes o)) e) at none refl)
        ∙ filter_none (below (length nodes))

    -- ---- top modules

    -- how many objects a top module is
    abbrev pub top_size : Module → ℕ
    top_size m = 1 + whole_size source m

    module _ (roots : (k : ℕ) (m : Module) → slice_get source.modules k ≡ Some m → is_top source m ≡ true → slice_get all (root_slot source envelopes k) ≡ Some (Top k m)) where
      root_there : (e : ℕ) → listed [] e ≡ true → In (starts top_size 0 (tops source)) e
      root_there e h =
          let it = listed_entry [] e h in
          let root = root_of source envelopes once all placed it.1.name e it.0 it.3 (one_name it.2 it.1 (path_at source envelopes it.0) [] it.4 it.5) in
          let at : slice_get all e ≡ Some (Top root.0 root.1) = it.3 ∙ ap {B = Option Entry} Some root.2 in
          let number : e ≡ root_slot source envelopes root.0 = (good_at source envelopes once all placed e (Top root.0 root.1) at).role.2 in
          let top = passing_at (is_top source) root.0 source.modules root.1 root.3 root.4 in
          let same : 0 + total top_size (take top.0 (tops source)) ≡ e = (let sum = ap (total top_size) top.2 in omega (arith, sum, number)) in
          (top.0, starts_at top_size 0 top.0 (tops source) root.1 top.1 ∙ ap {B = Option ℕ} Some same)

      root_back : (j e : ℕ) → slice_get (starts top_size 0 (tops source)) j ≡ Some e → (listed [] e ≡ true) × (e < length nodes)
      root_back j e at_e =
          let it = starts_read top_size 0 j (tops source) e at_e in
          let top = passing_read (is_top source) j source.modules it.0 it.1 in
          let number : root_slot source envelopes top.0 ≡ e = (let sum = ap (total top_size) top.3 in omega (arith, sum, it.2)) in
          listed_there e (Top top.0 it.0) [] (root_step source envelopes it.0)
          (subst (λ (n : ℕ). slice_get all n ≡ Some (Top top.0 it.0)) number (roots top.0 it.0 top.1 top.2)) refl

      root_list : filter (listed []) (below (length nodes)) ≡ starts top_size 0 (tops source)
      root_list =
          filtered_is (listed []) (length nodes) (starts top_size 0 (tops source)) (starts_rise top_size (λ m. omega arith) 0 0 (omega arith) (tops source)) root_there root_back

      -- the number of the top module of this module, if it is one
      abbrev pub found : Module → Option ℕ
      found m = find_named nodes (word_at source m.name ∷ [])

      found_at : (k : ℕ) (m : Module) (b : Bool) → slice_get source.modules k ≡ Some m → is_top source m ≡ b → found m ≡ cond b (Some (root_slot source envelopes k)) None
      found_at k m true at top = found_entry source envelopes once all placed (root_slot source envelopes k) (Top k m) (word_at source m.name ∷ []) (roots k m at top) refl
      found_at k m false at top =
          nothing_named source envelopes once all placed (word_at source m.name ∷ []) (λ j f at_f same.
          let it = root_of source envelopes once all placed (word_at source m.name) j f at_f same in
          let number : it.0 ≡ k = module_index source it.0 k it.1 m once it.3 at it.5 in
          let modules : it.1 ≡ m = cc (it.3, at, number) in
          let other : is_top source it.1 ≡ false = ap (is_top source) modules ∙ top in
          cc (it.4, other))

      found_by :
          (before : List Module) (m : Module) (ms : List Module) (n : ℕ) (b : Bool) → is_top source m ≡ b → n ≡ total top_size (filter (is_top source) before) → found m ≡ cond b (Some n) None
          → ((n : ℕ) → n ≡ total top_size (filter (is_top source) (before ++ m ∷ [])) → filter_map found ms ≡ starts top_size n (filter (is_top source) ms))
          → cons_option (found m) (filter_map found ms) ≡ starts top_size n (cond b (m ∷ filter (is_top source) ms) (filter (is_top source) ms))
      found_by before m ms n true top is here rest =
          let more : filter (is_top source) (before ++ m ∷ []) ≡ filter (is_top source) before ++ m ∷ [] =
          filter-append (is_top source) before (m ∷ []) ∙ ap (λ (b : Bool). filter (is_top source) before ++ cond b (m ∷ []) []) top in
          let sum : total top_size (filter (is_top source) (before ++ m ∷ [])) ≡ total top_size (filter (is_top source) before) + top_size m =
          ap (total top_size) more ∙ total-append top_size (filter (is_top source) before) (m ∷ []) ∙ omega arith in
          ap (λ (o : Option ℕ). cons_option o (filter_map found ms)) here ∙ ap (λ (ns : List ℕ). n ∷ ns) (rest (n + top_size m) (omega arith))
      found_by before m ms n false top is here rest =
          let more : filter (is_top source) (before ++ m ∷ []) ≡ filter (is_top source) before =
          filter-append (is_top source) before (m ∷ []) ∙ ap (λ (b : Bool). filter (is_top source) before ++ cond b (m ∷ []) []) top ∙ append-nil (filter (is_top source) before) in
          ap (λ (o : Option ℕ). cons_option o (filter_map found ms)) here ∙ rest n (is ∙ ap (total top_size) (sym more))

      found_starts : (before ms : List Module) (k n : ℕ) → source.modules ≡ before ++ ms → length before ≡ k → n ≡ total top_size (filter (is_top source) before) → filter_map found ms ≡ starts top_size n (filter (is_top source) ms)
      found_starts before [] k n split long is = refl
      found_starts before (m ∷ ms) k n split long is =
          let at : slice_get source.modules k ≡ Some m = at_after k source.modules before m ms split long in
          let slot_is : root_slot source envelopes k ≡ n = ap (λ (xs : List Module). total top_size (filter (is_top source) xs)) (ap (take k) split ∙ take_front k before (m ∷ ms) long) ∙ sym is in
          found_by before m ms n (is_top source m) refl is
          (found_at k m (is_top source m) at refl ∙ ap (λ (j : ℕ). cond (is_top source m) (Some j) None) slot_is)
          (λ j is_j. found_starts (before ++ m ∷ []) ms (k + 1) j (split ∙ sym (append_assoc before (m ∷ []) ms)) (length-append before (m ∷ []) ∙ omega arith) is_j)

      -- those of the modules, in order
      pub roots_are : filter_map found source.modules ≡ filter (listed []) (below (length nodes))
      roots_are = found_starts [] source.modules 0 0 refl refl refl ∙ sym root_list
