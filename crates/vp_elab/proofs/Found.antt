-- What is found by a name in a scope.
use Rattle.std.proofs.Common.{◌≡◌, ℕ, zero, suc, ◌+◌, ◌≤◌, Bool, true, false, cond, ◌||◌, List, [], ◌∷◌, ◌++◌, length, map, position, slice_get, Option, Some, None, refl, sym, ap, subst, ◌∙◌, arith, rules, tests}
use Rattle.std.specs.Prelude.{not, nat_eq, option_map}
use Rattle.std.specs.List.{list_any, position_from}
use Rattle.std.specs.Option.{option_and_then, option_map_or}
use Rattle.std.specs.Str.{bytes_eq}
use Rattle.std.proofs.lemmas.List.{length-append, length-map, map-append}
use Rattle.std.proofs.lemmas.Bool.{eqb-true}
use Rattle.std.proofs.lemmas.List.Quantifiers.{position-Some}
use Rattle.std.proofs.lemmas.Option.{get_or_from_slice_get, slice_get-map}
use Rattle.vp_source.specs.Places.{word_at}
use Rattle.vp_source.specs.declared.source.Source.{Source}
use Rattle.vp_source.specs.declared.source.Module.{Module}
use Rattle.vp_source.specs.declared.source.Item.{Item}
use Rattle.vp_modules.specs.Items.{definition_number, definition_of, instantiates, is_top, item_name, items_in}
use Rattle.vp_modules.specs.Refusals.{twice_in}
use Rattle.vp_pragma.specs.declared.envelope.Envelope.{Envelope}
use Rattle.vp_elab.specs.declared.object.Object.{Object}
use Rattle.vp_elab.specs.declared.object.ObjectId.{ObjectId}
use Rattle.vp_elab.specs.Tree.{Node, Step, find_named, is_named, names_of}
use Rattle.vp_elab.specs.Elaboration.{item_step}
use Rattle.vp_elab.specs.Objects.{is_of}
use Rattle.vp_elab.proofs.Distinct.{bytes_eq-self}
use Rattle.vp_elab.proofs.Entries.{Entry, Top, Inner, module_at, node_at, object_at, path_at}
use Rattle.vp_elab.proofs.Named.{definition_named, found_at, item_in_text, item_position, module_position, once_in}
use Rattle.vp_elab.proofs.Parts.{definition_at, some_same}
use Rattle.vp_elab.proofs.Placed.{AllFrom, Good, slot}
use Rattle.vp_elab.proofs.Unique.{good_at, module_there, names_are, names_read, not_root, path_some, same_ends, unique}
use Rattle.vp_elab.specs.laws.Positions.{position_is}

-- ---- searches

position_by : {X : Type 0} (t : X → Bool) (n j : ℕ) (y : X) (ys : List X) (b : Bool) → t y ≡ b → ((i : ℕ) (z : X) → slice_get (y ∷ ys) i ≡ Some z → t z ≡ true → i ≡ suc j) → position_from t (n + 1) ys ≡ Some ((n + 1) + j) → cond b (Some n) (position_from t (n + 1) ys) ≡ Some (n + suc j)
position_by t n j y ys true is only rest = let wrong : 0 ≡ suc j = only 0 y refl is in absurd (omega arith)
position_by t n j y ys false is only rest = rest ∙ some_same _ _ (omega arith)

position_found : {X : Type 0} (t : X → Bool) (n j : ℕ) (xs : List X) (x : X) → slice_get xs j ≡ Some x → t x ≡ true → ((i : ℕ) (y : X) → slice_get xs i ≡ Some y → t y ≡ true → i ≡ j) → position_from t n xs ≡ Some (n + j)
position_found t n j [] x at is only = absurd cc
position_found t n zero (y ∷ ys) x at is only =
    let same : y ≡ x = cc in
    ap (λ b. cond b (Some n) (position_from t (n + 1) ys)) (ap t same ∙ is) ∙ some_same n (n + 0) (omega arith)
position_found t n (suc j) (y ∷ ys) x at is only =
    position_by t n j y ys (t y) refl only
    (position_found t (n + 1) j ys x at is (λ i z at_z is_z. let next : suc i ≡ suc j = only (suc i) z at_z is_z in omega arith))

-- the one that passes is found
pub position_unique : {X : Type 0} (t : X → Bool) (j : ℕ) (xs : List X) (x : X) → slice_get xs j ≡ Some x → t x ≡ true → ((i : ℕ) (y : X) → slice_get xs i ≡ Some y → t y ≡ true → i ≡ j) → position t xs ≡ Some j
position_unique t j xs x at is only = position_is t xs ∙ position_found t 0 j xs x at is only ∙ some_same (0 + j) j (omega arith)

none_by : {X : Type 0} (t : X → Bool) (n : ℕ) (y : X) (rest : Option ℕ) (b : Bool) → t y ≡ b → (t y ≡ true → ⊥) → rest ≡ None → cond b (Some n) rest ≡ None
none_by t n y rest true is none h = absurd (none is)
none_by t n y rest false is none h = h

nothing_from : {X : Type 0} (t : X → Bool) (n : ℕ) (xs : List X) → ((i : ℕ) (y : X) → slice_get xs i ≡ Some y → t y ≡ true → ⊥) → position_from t n xs ≡ None
nothing_from t n [] none = refl
nothing_from t n (y ∷ ys) none = none_by t n y (position_from t (n + 1) ys) (t y) refl (none 0 y refl) (nothing_from t (n + 1) ys (λ i z at is. none (suc i) z at is))

-- where none passes, none is found
pub position_nothing : {X : Type 0} (t : X → Bool) (xs : List X) → ((i : ℕ) (y : X) → slice_get xs i ≡ Some y → t y ≡ true → ⊥) → position t xs ≡ None
position_nothing t xs none = position_is t xs ∙ nothing_from t 0 xs none

fails_by : {X : Type 0} (t : X → Bool) (n : ℕ) (y : X) (rest : Option ℕ) (b : Bool) → t y ≡ b → cond b (Some n) rest ≡ None → (t y ≡ false) × (rest ≡ None)
fails_by t n y rest true is h = absurd cc
fails_by t n y rest false is h = (is, h)

fails_from : {X : Type 0} (t : X → Bool) (n : ℕ) (xs : List X) (j : ℕ) (x : X) → position_from t n xs ≡ None → slice_get xs j ≡ Some x → t x ≡ false
fails_from t n [] j x h at = absurd cc
fails_from t n (y ∷ ys) zero x h at =
    let same : y ≡ x = cc in
    subst (λ z. t z ≡ false) same (fails_by t n y (position_from t (n + 1) ys) (t y) refl h).0
fails_from t n (y ∷ ys) (suc j) x h at = fails_from t (n + 1) ys j x (fails_by t n y (position_from t (n + 1) ys) (t y) refl h).1 at

-- where none is found, none passes
pub position_fails : {X : Type 0} (t : X → Bool) (xs : List X) (j : ℕ) (x : X) → position t xs ≡ None → slice_get xs j ≡ Some x → t x ≡ false
position_fails t xs j x h at = fails_from t 0 xs j x (sym (position_is t xs) ∙ h) at

-- an item of what f gives
pub at_mapped : {X Y : Type 0} (f : X → Y) (xs : List X) (j : ℕ) (y : Y) → slice_get (map f xs) j ≡ Some y → (x : X) × (slice_get xs j ≡ Some x) × (f x ≡ y)
at_mapped f [] j y at = absurd cc
at_mapped f (x ∷ xs) zero y at = (x, refl, cc)
at_mapped f (x ∷ xs) (suc j) y at = at_mapped f xs j y at

-- one passes, and so there is one
pub any_of : {X : Type 0} (p : X → Bool) (xs : List X) (j : ℕ) (x : X) → slice_get xs j ≡ Some x → p x ≡ true → list_any p xs ≡ true
any_of p [] j x at is = absurd cc
any_of p (y ∷ ys) zero x at is = let same : y ≡ x = cc in ap (λ z. p z || list_any p ys) same ∙ ap (λ b. b || list_any p ys) is
any_of p (y ∷ ys) (suc j) x at is = ap (λ b. p y || b) (any_of p ys j x at is) ∙ or_true (p y)
  where
    or_true : (b : Bool) → (b || true) ≡ true
    or_true true = refl
    or_true false = refl

-- a number is itself
pub nat_same : (n : ℕ) → nat_eq n n ≡ true
nat_same n = search (rules, tests)

module _ (source : Source) (envelopes : List Envelope) (once : twice_in source [] source.modules ≡ None) (all : List Entry) (placed : AllFrom (Good source envelopes all) 0 all) where
  abbrev pub nodes : List Node
  nodes = map (node_at source envelopes) all

  abbrev pub objects : List Object
  objects = map (object_at source envelopes) all

  pub path_is : (e : Entry) → (node_at source envelopes e).path ≡ path_at source envelopes e
  path_is (Top k m) = refl
  path_is (Inner above p m k i) = refl

  -- what has one name more than an object is an item of its module
  pub child_of :
      (id : ℕ) (e : Entry) (name : List ℕ) (j : ℕ) (f : Entry) → slice_get all id ≡ Some e → slice_get all j ≡ Some f → names_of (path_at source envelopes f) ≡ names_of (path_at source envelopes e) ++ name ∷ []
      → (m : Module) × (k : ℕ) × (i : Item) × (module_at source envelopes e ≡ Some m) × (slice_get (items_in source m) k ≡ Some i) × (item_name source i ≡ name) × (f ≡ Inner (path_at source envelopes e) id m k i) × (j ≡ id + slot source envelopes m k)
  child_of id e name j (Top k m) at_e at_f same =
      let lengths : 1 ≡ length (names_of (path_at source envelopes e) ++ name ∷ []) = ap length same in
      let long = length-append (names_of (path_at source envelopes e)) (name ∷ []) in
      let more = length-map (path_at source envelopes e) (λ (s : Step). s.name) in
      let some = path_some source envelopes once all placed e in
      absurd (omega arith)
  child_of id e name j (Inner above p m k i) at_e at_f same =
      let role = (good_at source envelopes once all placed j (Inner above p m k i) at_f).role in
      let ends =
      same_ends (names_of above) (names_of (path_at source envelopes e)) (item_name source i) name
      (sym (map-append (λ (s : Step). s.name) above (item_step source envelopes m i ∷ [])) ∙ same) in
      let parent : p ≡ id = unique source envelopes once all placed (suc p) p id role.0 e (omega arith) role.1 at_e (ap names_of role.3 ∙ ends.0) in
      let entry : role.0 ≡ e = cc (role.1, at_e, parent) in
      let inside : module_at source envelopes e ≡ Some m = ap (module_at source envelopes) (sym entry) ∙ role.2 in
      let path : above ≡ path_at source envelopes e = sym role.3 ∙ ap (path_at source envelopes) entry in (
        m,
        k,
        i,
        inside,
        role.4,
        ends.1,
        ap (λ (x : List Step). Inner x p m k i) path ∙ ap (λ (x : ℕ). Inner (path_at source envelopes e) x m k i) parent,
        role.5 ∙ ap (λ (x : ℕ). x + slot source envelopes m k) parent,
      )

  -- what has one name is a top module
  pub root_of :
      (name : List ℕ) (j : ℕ) (f : Entry) → slice_get all j ≡ Some f → names_of (path_at source envelopes f) ≡ name ∷ []
      → (k : ℕ) × (m : Module) × (f ≡ Top k m) × (slice_get source.modules k ≡ Some m) × (is_top source m ≡ true) × (word_at source m.name ≡ name)
  root_of name j (Top k m) at same =
      let role = (good_at source envelopes once all placed j (Top k m) at).role in
      (k, m, refl, role.0, role.1, cc)
  root_of name j (Inner above p m k i) at same =
      let role = (good_at source envelopes once all placed j (Inner above p m k i) at).role in
      absurd (not_root source envelopes once all placed above (item_step source envelopes m i) name
      (subst (λ (path : List Step). 1 ≤ length path) role.3 (path_some source envelopes once all placed role.0)) same)

  -- the entry of a node that has these names
  named_at : (names : List (List ℕ)) (j : ℕ) (n : Node) → slice_get nodes j ≡ Some n → is_named names n.path ≡ true → (f : Entry) × (slice_get all j ≡ Some f) × (names_of (path_at source envelopes f) ≡ names)
  named_at names j n at named =
      let there = at_mapped (node_at source envelopes) all j n at in
      (there.0, there.1, ap names_of (sym (path_is there.0) ∙ ap (λ (x : Node). x.path) there.2) ∙ sym (names_read names n.path named))

  node_there : (j : ℕ) (f : Entry) → slice_get all j ≡ Some f → slice_get nodes j ≡ Some (node_at source envelopes f)
  node_there j f at = slice_get-map (node_at source envelopes) all j ∙ ap (option_map (node_at source envelopes)) at

  -- what has the names of an entry is found there
  pub found_entry : (j : ℕ) (f : Entry) (names : List (List ℕ)) → slice_get all j ≡ Some f → names_of (path_at source envelopes f) ≡ names → find_named nodes names ≡ Some j
  found_entry j f names at same =
      position_unique (λ (n : Node). is_named names n.path) j nodes (node_at source envelopes f) (node_there j f at)
      (ap (is_named names) (path_is f) ∙ ap (λ (x : List (List ℕ)). is_named x (path_at source envelopes f)) (sym same) ∙ names_are (path_at source envelopes f))
      (λ i n at_n named.
      let there = named_at names i n at_n named in
      unique source envelopes once all placed (suc i) i j there.0 f (omega arith) there.1 at (there.2 ∙ sym same))

  pub nothing_named : (names : List (List ℕ)) → ((j : ℕ) (f : Entry) → slice_get all j ≡ Some f → names_of (path_at source envelopes f) ≡ names → ⊥) → find_named nodes names ≡ None
  nothing_named names none =
      position_nothing (λ (n : Node). is_named names n.path) nodes (λ j n at named. let there = named_at names j n at named in none j there.0 there.1 there.2)

  -- ---- below an object

  -- an item of its module
  pub child_found : (id : ℕ) (e : Entry) (m : Module) (name : List ℕ) (k : ℕ) → slice_get all id ≡ Some e → module_at source envelopes e ≡ Some m → position (bytes_eq name) (map (item_name source) (items_in source m)) ≡ Some k → find_named nodes (names_of (path_at source envelopes e) ++ name ∷ []) ≡ Some (id + slot source envelopes m k)
  child_found id e m name k at inside found =
      let it = found_at source (item_name source) (items_in source m) name k found in
      let there = (good_at source envelopes once all placed id e at).children m inside k it.0 it.1 in
      found_entry (id + slot source envelopes m k) (Inner (path_at source envelopes e) id m k it.0) (names_of (path_at source envelopes e) ++ name ∷ []) there
      (map-append (λ (s : Step). s.name) (path_at source envelopes e) (item_step source envelopes m it.0 ∷ []) ∙ ap (λ (n : List ℕ). names_of (path_at source envelopes e) ++ n ∷ []) it.2)

  -- nothing of another name
  pub child_nothing : (id : ℕ) (e : Entry) (m : Module) (name : List ℕ) → slice_get all id ≡ Some e → module_at source envelopes e ≡ Some m → position (bytes_eq name) (map (item_name source) (items_in source m)) ≡ None → find_named nodes (names_of (path_at source envelopes e) ++ name ∷ []) ≡ None
  child_nothing id e m name at inside none =
      nothing_named (names_of (path_at source envelopes e) ++ name ∷ []) (λ j f at_f same.
      let it = child_of id e name j f at at_f same in
      let modules : it.0 ≡ m = cc (it.3, inside) in
      let there = module_there source envelopes once all placed id e it.0 at it.3 in
      let found = item_position source (items_in source it.0) it.1 it.2 (once_in source there.0 it.0 once there.1) it.4 in
      let other : position (bytes_eq (item_name source it.2)) (map (item_name source) (items_in source it.0)) ≡ None =
      ap (λ (n : List ℕ). position (bytes_eq n) (map (item_name source) (items_in source it.0))) it.5
      ∙ ap (λ (x : Module). position (bytes_eq name) (map (item_name source) (items_in source x))) modules ∙ none in
      cc (found, other))

  -- nothing below what is no module
  pub leaf_nothing : (id : ℕ) (e : Entry) (name : List ℕ) → slice_get all id ≡ Some e → module_at source envelopes e ≡ None → find_named nodes (names_of (path_at source envelopes e) ++ name ∷ []) ≡ None
  leaf_nothing id e name at none =
      nothing_named (names_of (path_at source envelopes e) ++ name ∷ []) (λ j f at_f same.
      let it = child_of id e name j f at at_f same in
      cc (it.3, none))

  -- ---- top modules

  -- the object of a module of a number is of this number
  root_is_of : (k : ℕ) (m : Module) → is_of k (object_at source envelopes (Top k m)) ≡ true
  root_is_of k m = nat_same k

  -- no module has this name
  pub root_unknown : (name : List ℕ) → position (bytes_eq name) (map (λ (x : Module). word_at source x.name) source.modules) ≡ None → find_named nodes (name ∷ []) ≡ None
  root_unknown name none =
      nothing_named (name ∷ []) (λ j f at_f same.
      let it = root_of name j f at_f same in
      let found = module_position source it.0 it.1 once it.3 in
      let other = ap (λ (n : List ℕ). position (bytes_eq n) (map (λ (x : Module). word_at source x.name) source.modules)) it.5 ∙ none in
      cc (found, other))

  -- the entry of the first object of a module is of it
  is_of_entry : (k id : ℕ) (e : Entry) → position (is_of k) objects ≡ Some id → slice_get all id ≡ Some e → is_of k (object_at source envelopes e) ≡ true
  is_of_entry k id e found at =
      let there : slice_get objects id ≡ Some (object_at source envelopes e) = slice_get-map (object_at source envelopes) all id ∙ ap (option_map (object_at source envelopes)) at in
      ap (is_of k) (sym (get_or_from_slice_get objects id (object_at source envelopes e) (object_at source envelopes e) there)) ∙ (position-Some (is_of k) objects id (object_at source envelopes e) found).1

  -- a module without an object is no top module
  pub root_after : (name : List ℕ) (k : ℕ) → position (bytes_eq name) (map (λ (x : Module). word_at source x.name) source.modules) ≡ Some k → position (is_of k) objects ≡ None → find_named nodes (name ∷ []) ≡ None
  root_after name k found none =
      nothing_named (name ∷ []) (λ j f at_f same.
      let it = root_of name j f at_f same in
      let number = module_position source it.0 it.1 once it.3 in
      let other = ap (λ (n : List ℕ). position (bytes_eq n) (map (λ (x : Module). word_at source x.name) source.modules)) it.5 ∙ found in
      let numbers : it.0 ≡ k = cc (number, other) in
      let there : slice_get objects j ≡ Some (object_at source envelopes f) = slice_get-map (object_at source envelopes) all j ∙ ap (option_map (object_at source envelopes)) at_f in
      let fails : is_of k (object_at source envelopes f) ≡ false = position_fails (is_of k) objects j (object_at source envelopes f) none there in
      let passes : is_of k (object_at source envelopes f) ≡ true =
      ap (λ (x : Entry). is_of k (object_at source envelopes x)) it.2 ∙ ap (λ (n : ℕ). is_of n (object_at source envelopes (Top it.0 it.1))) (sym numbers) ∙ root_is_of it.0 it.1 in
      cc (fails, passes))

  -- a top module is the first object of its module
  pub root_first : (name : List ℕ) (k id : ℕ) (e : Entry) → position (bytes_eq name) (map (λ (x : Module). word_at source x.name) source.modules) ≡ Some k → position (is_of k) objects ≡ Some id → slice_get all id ≡ Some e → (object_at source envelopes e).parent ≡ None → find_named nodes (name ∷ []) ≡ Some id
  root_first name k id (Top j m) found first at top =
      let role = (good_at source envelopes once all placed id (Top j m) at).role in
      let number : k ≡ j = eqb-true k j (is_of_entry k id (Top j m) first at) in
      let it = found_at source (λ (x : Module). word_at source x.name) source.modules name k found in
      let same : m ≡ it.0 = cc (role.0, it.1, number) in
      found_entry id (Top j m) (name ∷ []) at (ap (λ (x : Module). word_at source x.name ∷ []) same ∙ ap (λ (n : List ℕ). n ∷ []) it.2)
  root_first name k id (Inner above p m j i) found first at top = absurd cc

  number_by : (k : ℕ) (o : Option ℕ) → option_map_or (nat_eq k) o false ≡ true → o ≡ Some k
  number_by k None h = absurd cc
  number_by k (Some n) h = some_same n k (sym (eqb-true k n h))

  -- a module whose first object is an instance is no top module
  pub root_other : (name : List ℕ) (k id : ℕ) (e : Entry) (parent : ObjectId) → position (bytes_eq name) (map (λ (x : Module). word_at source x.name) source.modules) ≡ Some k → position (is_of k) objects ≡ Some id → slice_get all id ≡ Some e → (object_at source envelopes e).parent ≡ Some parent → find_named nodes (name ∷ []) ≡ None
  root_other name k id (Top j m) parent found first at inside = absurd cc
  root_other name k id (Inner above p m j i) parent found first at inside =
      nothing_named (name ∷ []) (λ n f at_f same.
      let role = (good_at source envelopes once all placed id (Inner above p m j i) at).role in
      let it = root_of name n f at_f same in
      let number = module_position source it.0 it.1 once it.3 in
      let other = ap (λ (x : List ℕ). position (bytes_eq x) (map (λ (x : Module). word_at source x.name) source.modules)) it.5 ∙ found in
      let numbers : it.0 ≡ k = cc (number, other) in
      let instance : definition_number source i ≡ Some k = number_by k (definition_number source i) (is_of_entry k id (Inner above p m j i) first at) in
      let module_is : definition_of source i ≡ Some it.1 =
      sym (definition_at source i) ∙ ap (option_and_then (slice_get source.modules)) instance ∙ ap (slice_get source.modules) (sym numbers) ∙ it.3 in
      let word : List ℕ = word_at source it.1.name in
      let instantiates_it : instantiates source word i ≡ true =
      ap (λ (x : Option (List ℕ)). option_map_or (bytes_eq word) x false) (definition_named source i it.1 module_is) ∙ bytes_eq-self word in
      let there = item_in_text source m j i role.4 in
      let any : list_any (instantiates source word) source.items ≡ true = any_of (instantiates source word) source.items there.0 i there.1 instantiates_it in
      let no_top : is_top source it.1 ≡ false = ap not any in
      cc (it.4, no_top))
