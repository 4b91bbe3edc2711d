-- What is looked up in a view is what is looked up in the design, under the numbers of what is known.
use Rattle.std.proofs.Common.{◌≡◌, ℕ, zero, suc, ◌+◌, ◌<◌, ◌≤◌, Bool, false, true, List, [], ◌∷◌, ◌++◌, length, Option, Some, None, refl, ap, sym, subst, ◌∙◌, arith}
use Rattle.std.specs.Prelude.{◌==◌, ◌&&◌, ◌||◌, cond, filter, if◌then◌else◌, is_none, is_some, map, option_and_then, option_map, slice_get}
use Rattle.std.specs.List.{All, position, position_from}
use Rattle.std.proofs.lemmas.Iterator.Adapters.{position_from-zero}
use Rattle.std.specs.Option.{option_map_or}
use Rattle.std.specs.Str.{bytes_eq}
use Rattle.std.proofs.lemmas.List.{length-map, map-append}
use Rattle.std.proofs.lemmas.List.Elements.{All-append, All-cons, All-nil}
use Rattle.std.proofs.lemmas.Slice.Eq.{bytes_eq-Decides}
use Rattle.vp_pragma.specs.declared.rights.Right.{Right}
use Rattle.vp_pragma.specs.declared.rights.Right.TheVariants as right
use Rattle.vp_pragma.specs.Rights.{has}
use Rattle.vp_elab.specs.Built.{Elaborated}
use Rattle.vp_elab.specs.Tree.{Node, Step, Tree, declares_in, envelopes_in, below, children_named, find_named, is_in, is_named, last_step, names_of, path_of, step_in}
use Rattle.vp_policy.specs.Filter.{from_found, look_in, unlisted, viewport_object, by_step, is_closed, closed, closed_in, denial, find_listed, is_listed, is_listed_at, listed, listed_in, opened, rights, walk, words_of}
use Rattle.vp_policy.specs.declared.denial.DeniedBy.TheVariants as by
use Rattle.vp_policy.specs.declared.denial.Look.{Look}
use Rattle.vp_policy.specs.declared.denial.Look.TheVariants as look
use Rattle.vp_policy.specs.Users.{Member, has_entry}
use Rattle.vp_policy.specs.View.{SeenStep, seen_node, seen_path, known_view, marked}
use Rattle.vp_answer.specs.Renumbering as under
use Rattle.vp_vpi.specs.Observers.{Absent, Denied, Found, Lookup, lookup_of}
use Rattle.vp_replay.specs.Known.{known_index}
use Rattle.vp_replay.specs.Seen.{from_seen, listed_in_seen, closed_seen, denial_seen, find_listed_seen, find_seen, is_in_seen, is_named_seen, last_name, listed_seen, names_seen, scope_seen, unlisted_seen, walk_seen}
use Rattle.vp_replay.specs.laws.Denials.{AllInEnvelopes, author_is, denial_after, grant_is, has_all, has_both, node_seen}
use Rattle.vp_replay.specs.laws.Known.{by_index, get_marked}
use Rattle.vp_replay.specs.laws.Names.{Differ, filter_all, found_by_names, keys, names_only}

-- ---- paths

-- the names of a path, as its user sees it
names_same : (tree : Tree) (u : Member) (above path : List Step) → map (λ s. s.name) (seen_path tree u above path) ≡ names_of path
names_same tree u above [] = refl
names_same tree u above (s ∷ path) = ap (λ ns. s.name ∷ ns) (names_same tree u (above ++ s ∷ []) path)

-- it has the same names
named_same : (tree : Tree) (u : Member) (above path : List Step) (names : List (List ℕ)) → is_named_seen names (seen_path tree u above path) ≡ is_named names path
named_same tree u above [] [] = refl
named_same tree u above [] (n ∷ names) = refl
named_same tree u above (s ∷ path) [] = refl
named_same tree u above (s ∷ path) (n ∷ names) = ap (λ b. bytes_eq n s.name && b) (named_same tree u (above ++ s ∷ []) path names)

-- it stands in the same scope
pub in_same : (tree : Tree) (u : Member) (above path : List Step) (names : List (List ℕ)) → is_in_seen names (seen_path tree u above path) ≡ is_some (step_in names path)
in_same tree u above [] [] = refl
in_same tree u above (s ∷ []) [] = refl
in_same tree u above (s ∷ t ∷ path) [] = refl
in_same tree u above [] (n ∷ names) = refl
in_same tree u above (s ∷ path) (n ∷ names) = by_test (bytes_eq n s.name) (in_same tree u (above ++ s ∷ []) path names) where
  by_test : (b : Bool) → is_in_seen names (seen_path tree u (above ++ s ∷ []) path) ≡ is_some (step_in names path)
      → (if b then is_in_seen names (seen_path tree u (above ++ s ∷ []) path) else false) ≡ is_some (if b then step_in names path else None)
  by_test true e = e
  by_test false e = refl

-- its last name is that of its last step
pub last_same : (path : List Step) → last_name (names_of path) ≡ option_map_or (λ s. s.name) (last_step path) []
last_same [] = refl
last_same (s ∷ []) = refl
last_same (s ∷ t ∷ path) = last_same (t ∷ path)

-- the same at one step
undenied_test : {A : Type 0} (b : Bool) (x : Option A) (d : A) (c : Bool) → is_none x ≡ c → is_none (if b then x else Some d) ≡ (b && c)
undenied_test true x d c e = e
undenied_test false x d c e = refl

-- a right is not denied exactly where it is the user's
undenied_same : (tree : Tree) (u : Member) (r : Right) (path : List Step) → is_none (denial tree u r path) ≡ has r (rights tree u path)
undenied_same tree u r [] = sym (has_all r)
undenied_same tree u r (s ∷ path) =
    undenied_test (has r (opened tree u s)) (denial tree u r path) (record { by = by_step tree u s; envelope = s.envelope; right = r }) (has r (rights tree u path)) (undenied_same tree u r path)
    ∙ sym (has_both r (opened tree u s) (rights tree u path))

-- none under another form
none_mapped : {A B : Type 0} (f : A → B) (x : Option A) → is_none (option_map f x) ≡ is_none x
none_mapped f None = refl
none_mapped f (Some x) = refl

-- ---- lists

-- the numbers below one, from the front
abbrev range : ℕ → List ℕ
range zero = []
range (suc n) = zero ∷ map suc (range n)

-- are those below it
range_push : (n : ℕ) → range n ++ n ∷ [] ≡ range (suc n)
range_push zero = refl
range_push (suc n) = ap (λ xs. zero ∷ xs) (sym (map-append suc (range n) (n ∷ [])) ∙ ap (map suc) (range_push n))

-- so the numbers below one are
below_is : (n : ℕ) → below n ≡ range n
below_is zero = refl
below_is (suc n) = ap (λ xs. xs ++ n ∷ []) (below_is n) ∙ range_push n

-- what passes a test under another form
pub filter_mapped : {X Y : Type 0} (f : X → Y) (q : Y → Bool) (xs : List X) → filter q (map f xs) ≡ map f (filter (λ x. q (f x)) xs)
filter_mapped f q [] = refl
filter_mapped f q (x ∷ xs) = by_test (q (f x)) (filter_mapped f q xs) where
  by_test : (b : Bool) → filter q (map f xs) ≡ map f (filter (λ x. q (f x)) xs)
      → (if b then f x ∷ filter q (map f xs) else filter q (map f xs)) ≡ map f (if b then x ∷ filter (λ x. q (f x)) xs else filter (λ x. q (f x)) xs)
  by_test true e = ap (λ ys. f x ∷ ys) e
  by_test false e = e

-- the same by tests that agree
filter_alike : {X : Type 0} (p q : X → Bool) → ((x : X) → p x ≡ q x) → (xs : List X) → filter p xs ≡ filter q xs
filter_alike p q h [] = refl
filter_alike p q h (x ∷ xs) =
    ap (λ (b : Bool). if b then x ∷ filter p xs else filter p xs) (h x) ∙ ap (λ ys. if q x then x ∷ ys else ys) (filter_alike p q h xs)

-- two forms, one after the other
map_twice : {X Y Z : Type 0} (f : X → Y) (g : Y → Z) (xs : List X) → map g (map f xs) ≡ map (λ x. g (f x)) xs
map_twice f g [] = refl
map_twice f g (x ∷ xs) = ap (λ ys. g (f x) ∷ ys) (map_twice f g xs)

-- two tests, one after the other
filter_twice : {X : Type 0} (p q : X → Bool) (xs : List X) → filter p (filter q xs) ≡ filter (λ x. q x && p x) xs
filter_twice p q [] = refl
filter_twice p q (x ∷ xs) = by_test (q x) (filter_twice p q xs) where
  by_test : (b : Bool) → filter p (filter q xs) ≡ filter (λ x. q x && p x) xs
      → filter p (if b then x ∷ filter q xs else filter q xs) ≡ (if b && p x then x ∷ filter (λ x. q x && p x) xs else filter (λ x. q x && p x) xs)
  by_test true e = ap (λ ys. if p x then x ∷ ys else ys) e
  by_test false e = e

-- the indexes that pass a test which the marked alone pass are those of the marked that pass it
indexes_marked : {X : Type 0} (marks : List Bool) (xs : List X) (q : ℕ → Bool) → length marks ≡ length xs → ((o : ℕ) → q o ≡ true → slice_get marks o ≡ Some true)
    → filter q (range (length xs)) ≡ map (known_index marks) (filter (λ k. q (known_index marks k)) (range (length (marked marks xs))))
indexes_marked [] [] q long h = refl
indexes_marked [] (x ∷ xs) q long h = absurd (cc)
indexes_marked (m ∷ marks) [] q long h = absurd (cc)
indexes_marked (true ∷ marks) (x ∷ xs) q long h =
    let rest = indexes_marked marks xs (λ o. q (suc o)) (omega (arith, long)) (λ o is. h (suc o) is) in
    let left_side = filter_mapped suc q (range (length xs)) ∙ ap (map suc) rest in
    let right_side = filter_mapped suc (λ k. q (known_index (true ∷ marks) k)) (range (length (marked marks xs))) in
    one (q 0) (filter q (map suc (range (length xs)))) (filter (λ k. q (known_index (true ∷ marks) k)) (map suc (range (length (marked marks xs)))))
    (left_side ∙ map_twice (known_index marks) suc (filter (λ k. q (suc (known_index marks k))) (range (length (marked marks xs))))
    ∙ sym (map_twice suc (known_index (true ∷ marks)) (filter (λ k. q (suc (known_index marks k))) (range (length (marked marks xs)))))
    ∙ sym (ap (map (known_index (true ∷ marks))) right_side))
  where
    one : (b : Bool) (ys zs : List ℕ) → ys ≡ map (known_index (true ∷ marks)) zs → (if b then 0 ∷ ys else ys) ≡ map (known_index (true ∷ marks)) (if b then 0 ∷ zs else zs)
    one true ys zs e = ap (λ ws. 0 ∷ ws) e
    one false ys zs e = e
indexes_marked (false ∷ marks) (x ∷ xs) q long h =
    let rest = indexes_marked marks xs (λ o. q (suc o)) (omega (arith, long)) (λ o is. h (suc o) is) in
    none (q 0) refl ∙ filter_mapped suc q (range (length xs)) ∙ ap (map suc) rest
    ∙ map_twice (known_index marks) suc (filter (λ k. q (suc (known_index marks k))) (range (length (marked marks xs))))
  where
    none : (b : Bool) → q 0 ≡ b → (if q 0 then 0 ∷ filter q (map suc (range (length xs))) else filter q (map suc (range (length xs)))) ≡ filter q (map suc (range (length xs)))
    none true is = let no : slice_get (false ∷ marks) 0 ≡ Some true = h 0 is in absurd (cc)
    none false is = ap (λ (b : Bool). if b then 0 ∷ filter q (map suc (range (length xs))) else filter q (map suc (range (length xs)))) is

-- an index that is marked is that of some number
number_at : (marks : List Bool) (o : ℕ) → slice_get marks o ≡ Some true → (k : ℕ) × (known_index marks k ≡ o)
number_at [] o is = absurd (cc)
number_at (true ∷ marks) zero is = (0, refl)
number_at (false ∷ marks) zero is = absurd (cc)
number_at (true ∷ marks) (suc o) is = let rest = number_at marks o is in (suc rest.0, ap suc rest.1)
number_at (false ∷ marks) (suc o) is = let rest = number_at marks o is in (rest.0, ap suc rest.1)

-- where the first of some things that passes a test stands, from a number on
abbrev Passes : {X : Type 0} → (X → Bool) → List X → (from index : ℕ) → Type 0
Passes {X} p xs from index = (j : ℕ) × (x : X) × (index ≡ from + j) × (slice_get xs j ≡ Some x) × (p x ≡ true)

-- so it stands
passes_from : {X : Type 0} (p : X → Bool) (xs : List X) (i n : ℕ) → position_from p i xs ≡ Some n → Passes p xs i n
passes_from p [] i n e = absurd (cc)
passes_from p (x ∷ xs) i n e = by_test (p x) refl e (passes_from p xs (i + 1) n) where
  by_test : (b : Bool) → p x ≡ b → cond b (Some i) (position_from p (i + 1) xs) ≡ Some n → (position_from p (i + 1) xs ≡ Some n → Passes p xs (i + 1) n) → Passes p (x ∷ xs) i n
  by_test true is here rest = let same : i ≡ n = cc in (0, x, omega (arith, same), refl, is)
  by_test false is more rest = let (j, y, at, there, passes) = rest more in (suc j, y, omega (arith, at), there, passes)

-- the first that passes a test passes it, and stands there
pub first_passes : {X : Type 0} (p : X → Bool) (xs : List X) (k : ℕ) → position p xs ≡ Some k → (x : X) × (slice_get xs k ≡ Some x) × (p x ≡ true)
first_passes p xs k is =
    let (j, x, at, there, passes) = passes_from p xs 0 k (sym (position_from-zero p xs) ∙ is) in
    let same : j ≡ k = omega (arith, at) in
    (x, ap (slice_get xs) (sym same) ∙ there, passes)

-- where none passes it, none does
none_from : {X : Type 0} (p : X → Bool) (xs : List X) (i : ℕ) → position_from p i xs ≡ None → (k : ℕ) (x : X) → slice_get xs k ≡ Some x → p x ≡ false
none_from p [] i e k x at = absurd (cc)
none_from p (y ∷ xs) i e k x at = by_test (p y) refl e k at (none_from p xs (i + 1)) where
  by_test : (b : Bool) → p y ≡ b → cond b (Some i) (position_from p (i + 1) xs) ≡ None → (k : ℕ) → slice_get (y ∷ xs) k ≡ Some x
      → (position_from p (i + 1) xs ≡ None → (k : ℕ) (x : _) → slice_get xs k ≡ Some x → p x ≡ false) → p x ≡ false
  by_test true is none k at rest = absurd (cc)
  by_test false is none zero at rest = let same : y ≡ x = cc in ap p (sym same) ∙ is
  by_test false is none (suc k) at rest = rest none k x at

-- so from the first on
none_passes : {X : Type 0} (p : X → Bool) (xs : List X) → position p xs ≡ None → (k : ℕ) (x : X) → slice_get xs k ≡ Some x → p x ≡ false
none_passes p xs is k x at = none_from p xs 0 (sym (position_from-zero p xs) ∙ is) k x at

-- both of two
both_of : (a b : Bool) → (a && b) ≡ true → (a ≡ true) × (b ≡ true)
both_of true b h = (refl, h)
both_of false b h = absurd (cc)

-- the first that passes a test, under another form
position_mapped : {X Y : Type 0} (f : X → Y) (p : X → Bool) (q : Y → Bool) → ((x : X) → q (f x) ≡ p x) → (xs : List X) (i : ℕ) → position_from q i (map f xs) ≡ position_from p i xs
position_mapped f p q h [] i = refl
position_mapped f p q h (x ∷ xs) i =
    ap (λ (b : Bool). cond b (Some i) (position_from q (i + 1) (map f xs))) (h x) ∙ ap (λ n. cond (p x) (Some i) n) (position_mapped f p q h xs (i + 1))

-- steps that a user sees have their own names alone
seen_only : (names : List (List ℕ)) (path : List SeenStep) → is_named_seen names path ≡ true → names ≡ map (λ s. s.name) path
seen_only [] [] h = refl
seen_only [] (s ∷ path) h = absurd (cc)
seen_only (n ∷ names) [] h = absurd (cc)
seen_only (n ∷ names) (s ∷ path) h =
    let (first, rest) = both_of (bytes_eq n s.name) (is_named_seen names path) h in
    ap (λ (x : List ℕ). x ∷ names) ((bytes_eq-Decides n s.name).0 first) ∙ ap (λ xs. s.name ∷ xs) (seen_only names path rest)

-- the numbers below one are less than it
all_below : (n : ℕ) → All (λ e. e < n) (below n)
all_below zero = All-nil (λ e. e < 0)
all_below (suc n) =
    All-append (λ e. e < suc n) (below n) (n ∷ []) (λ k d l. let less = all_below n k d l in omega (arith, less))
    (All-cons (λ e. e < suc n) n [] (omega arith) (All-nil (λ e. e < suc n)))

-- ---- what is listed

-- every object that is listed to a user is known
abbrev pub AreKnown : Elaborated → Member → List Bool → Type 0
AreKnown design u known = (o : ℕ) (node : Node) → slice_get design.tree.nodes o ≡ Some node → is_listed design.tree u node ≡ true → slice_get known o ≡ Some true

-- a scope is there
abbrev pub Stands : Elaborated → List Bool → (scope : Option ℕ) → Type 0
Stands design known None = Unit {0}
Stands design known (Some k) = (node : Node) × (slice_get design.tree.nodes (known_index known k) ≡ Some node)

module _ (design : Elaborated) (u : Member) (known : List Bool) (long : length known ≡ length design.tree.nodes) (envelopes : AllInEnvelopes design.tree) where
  -- an object is listed
  listed_is : (k : ℕ) → listed_seen (known_view design u known) k ≡ is_listed_at design.tree u (known_index known k)
  listed_is k =
      ap (λ node. option_map_or (λ n. is_none (denial_seen (known_view design u known) right.List n.path)) node false) (node_seen design u known k long)
      ∙ by_node (slice_get design.tree.nodes (known_index known k)) refl
    where
      by_node : (node : Option Node) → slice_get design.tree.nodes (known_index known k) ≡ node
          → option_map_or (λ n. is_none (denial_seen (known_view design u known) right.List n.path)) (option_map (seen_node design u) node) false
          ≡ option_map_or (is_listed design.tree u) node false
      by_node None is = refl
      by_node (Some node) is =
          ap is_none (denial_after design u known right.List [] node.path refl (envelopes (known_index known k) node is))
          ∙ none_mapped (words_of design.tree) (denial design.tree u right.List node.path)
          ∙ undenied_same design.tree u right.List node.path

  -- ---- names

  -- the names to an object
  pub names_are : (k : ℕ) → names_seen (known_view design u known) k ≡ names_of (path_of design.tree.nodes (Some (known_index known k)))
  names_are k =
      ap (λ node. map (λ (s : SeenStep). s.name) (option_map_or (λ n. n.path) node [])) (node_seen design u known k long)
      ∙ by_node (slice_get design.tree.nodes (known_index known k))
    where
      by_node : (node : Option Node) → map (λ (s : SeenStep). s.name) (option_map_or (λ n. n.path) (option_map (seen_node design u) node) []) ≡ names_of (option_map_or (λ n. n.path) node [])
      by_node None = refl
      by_node (Some node) = names_same design.tree u [] node.path

  -- the closed list of a scope
  pub closed_is : (scope : Option ℕ) → closed_seen (known_view design u known) scope ≡ closed_in design.tree u (option_map (known_index known) scope)
  closed_is None = refl
  closed_is (Some k) =
      ap (λ node. option_map_or (λ n. n.closed_list) node []) (node_seen design u known k long)
      ∙ by_node (slice_get design.tree.nodes (known_index known k))
    where
      by_node : (node : Option Node) → option_map_or (λ n. n.closed_list) (option_map (seen_node design u) node) []
          ≡ filter (is_closed u) (option_map_or (envelopes_in design.tree) (option_map (λ n. names_of n.path) node) [])
      by_node None = refl
      by_node (Some node) = refl

  -- ---- what is found

  -- an object that is listed is known
  listed_known : AreKnown design u known → (o : ℕ) → is_listed_at design.tree u o ≡ true → slice_get known o ≡ Some true
  listed_known covers o is = by_node (slice_get design.tree.nodes o) refl is where
    by_node : (node : Option Node) → slice_get design.tree.nodes o ≡ node → option_map_or (is_listed design.tree u) node false ≡ true → slice_get known o ≡ Some true
    by_node None at never = absurd (cc)
    by_node (Some node) at so = covers o node at so

  -- the first of these names among what is known
  find_is : (names : List (List ℕ)) → find_seen (known_view design u known) names ≡ position (λ node. is_named names node.path) (marked known design.tree.nodes)
  find_is names =
      position_from-zero (λ node. is_named_seen names node.path) (map (seen_node design u) (marked known design.tree.nodes))
      ∙ position_mapped (seen_node design u) (λ node. is_named names node.path) (λ node. is_named_seen names node.path) (λ node. named_same design.tree u [] node.path names)
      (marked known design.tree.nodes) 0
      ∙ sym (position_from-zero (λ node. is_named names node.path) (marked known design.tree.nodes))

  -- of a name that is not known nothing is listed
  unknown_is : AreKnown design u known → (names : List (List ℕ)) → position (λ node. is_named names node.path) (marked known design.tree.nodes) ≡ None
      → find_listed design.tree u names ≡ None
  unknown_is covers names none = by_found (find_named design.tree.nodes names) refl where
    by_listed : (o : ℕ) → find_named design.tree.nodes names ≡ Some o → (b : Bool) → is_listed_at design.tree u o ≡ b → (if b then Some o else None) ≡ None
    by_listed o found true is =
        let (k, at) = number_at known o (listed_known covers o is) in
        let (node, there, passes) = first_passes (λ n. is_named names n.path) design.tree.nodes o found in
        let fails = none_passes (λ n. is_named names n.path) (marked known design.tree.nodes) none k node
        (get_marked known design.tree.nodes k long ∙ ap (slice_get design.tree.nodes) at ∙ there) in
        absurd (cc)
    by_listed o found false is = refl

    by_found : (found : Option ℕ) → find_named design.tree.nodes names ≡ found → listed_in design.tree u found ≡ None
    by_found None is = refl
    by_found (Some o) is = ap (λ (b : Bool). if b then Some o else None) refl ∙ by_test (is_listed_at design.tree u o) refl where
      by_test : (b : Bool) → is_listed_at design.tree u o ≡ b → (if is_listed_at design.tree u o then Some o else None) ≡ None
      by_test b e = ap (λ (c : Bool). if c then Some o else None) e ∙ by_listed o is b e

  -- a known object of some names, if it is listed
  known_is : Differ (keys design.tree.nodes) → (names : List (List ℕ)) (k : ℕ) → position (λ node. is_named names node.path) (marked known design.tree.nodes) ≡ Some k
      → find_listed design.tree u names ≡ option_map (known_index known) (if listed_seen (known_view design u known) k then Some k else None)
  known_is differ names k found =
      let (node, there, passes) = first_passes (λ n. is_named names n.path) (marked known design.tree.nodes) k found in
      let at : slice_get design.tree.nodes (known_index known k) ≡ Some node = sym (get_marked known design.tree.nodes k long) ∙ there in
      let is = ap (find_named design.tree.nodes) (names_only names node.path passes) ∙ found_by_names design.tree.nodes (known_index known k) node differ at in
      ap (listed_in design.tree u) is
      ∙ ap (λ (b : Bool). if b then Some (known_index known k) else None) (sym (listed_is k))
      ∙ by_test (listed_seen (known_view design u known) k)
    where
      by_test : (b : Bool) → (if b then Some (known_index known k) else None) ≡ option_map (known_index known) (if b then Some k else None)
      by_test true = refl
      by_test false = refl

  -- the object of some names that is listed
  find_listed_is : AreKnown design u known → Differ (keys design.tree.nodes) → (names : List (List ℕ))
      → find_listed design.tree u names ≡ option_map (known_index known) (find_listed_seen (known_view design u known) names)
  find_listed_is covers differ names =
      by_found (position (λ node. is_named names node.path) (marked known design.tree.nodes)) refl
      ∙ ap (λ found. option_map (known_index known) (option_and_then (λ o. if listed_seen (known_view design u known) o then Some o else None) found)) (sym (find_is names))
    where
      by_found : (found : Option ℕ) → position (λ node. is_named names node.path) (marked known design.tree.nodes) ≡ found
          → find_listed design.tree u names
          ≡ option_map (known_index known) (option_and_then (λ o. if listed_seen (known_view design u known) o then Some o else None)
          (position (λ node. is_named names node.path) (marked known design.tree.nodes)))
      by_found None is =
          unknown_is covers names is
          ∙ sym (ap (λ found. option_map (known_index known) (option_and_then (λ o. if listed_seen (known_view design u known) o then Some o else None) found)) is)
      by_found (Some k) is =
          known_is differ names k is
          ∙ sym (ap (λ found. option_map (known_index known) (option_and_then (λ o. if listed_seen (known_view design u known) o then Some o else None) found)) is)

  -- an object that is listed under some names is there, and has these names
  found_stands : (names : List (List ℕ)) (k : ℕ) → find_listed_seen (known_view design u known) names ≡ Some k
      → Stands design known (Some k) × (names_seen (known_view design u known) k ≡ names)
  found_stands names k found = by_found (position (λ node. is_named names node.path) (marked known design.tree.nodes)) refl where
    by_test : (b : Bool) (j : ℕ) → position (λ node. is_named names node.path) (marked known design.tree.nodes) ≡ Some j → (if b then Some j else None) ≡ Some k
        → Stands design known (Some k) × (names_seen (known_view design u known) k ≡ names)
    by_test false j is e = absurd (cc)
    by_test true j is e =
        let same : j ≡ k = cc in
        let (node, there, passes) = first_passes (λ n. is_named names n.path) (marked known design.tree.nodes) j is in
        let at : slice_get design.tree.nodes (known_index known k) ≡ Some node = ap (λ (i : ℕ). slice_get design.tree.nodes (known_index known i)) (sym same) ∙ sym (get_marked known design.tree.nodes j long) ∙ there in
        ((node, at), names_are k ∙ ap (λ n. names_of (option_map_or (λ (m : Node). m.path) n [])) at ∙ sym (names_only names node.path passes))

    by_found : (index : Option ℕ) → position (λ node. is_named names node.path) (marked known design.tree.nodes) ≡ index
        → Stands design known (Some k) × (names_seen (known_view design u known) k ≡ names)
    by_found None is =
        let none = ap (option_and_then (λ o. if listed_seen (known_view design u known) o then Some o else None)) (sym is ∙ sym (find_is names)) ∙ found in absurd (cc)
    by_found (Some j) is =
        by_test (listed_seen (known_view design u known) j) j is
        (ap (option_and_then (λ o. if listed_seen (known_view design u known) o then Some o else None)) (sym is ∙ sym (find_is names)) ∙ found)

  -- the closed list of a scope that is there
  scope_closed : (scope : Option ℕ) → Stands design known scope → closed design.tree u (scope_seen (known_view design u known) scope) ≡ closed_seen (known_view design u known) scope
  scope_closed None h = refl
  scope_closed (Some k) (node, at) =
      ap (closed design.tree u) (names_are k ∙ ap (λ n. names_of (option_map_or (λ (m : Node). m.path) n [])) at)
      ∙ sym (closed_is (Some k) ∙ ap (λ n. filter (is_closed u) (option_map_or (envelopes_in design.tree) (option_map (λ (m : Node). names_of m.path) n) [])) at)

  -- its envelopes are those of the design
  closed_few : (scope : List (List ℕ)) → All (λ e. e ≤ length design.tree.authors) (closed design.tree u scope)
  closed_few scope =
      filter_all (λ e. e ≤ length design.tree.authors) (is_closed u) (envelopes_in design.tree scope)
      (filter_all (λ e. e ≤ length design.tree.authors) (declares_in design.tree scope) (below (suc (length design.tree.authors)))
      (λ k d l. let less = all_below (suc (length design.tree.authors)) k d l in omega (arith, less)))

  -- what a name that is not listed is answered
  unlisted_is : (es : List ℕ) → All (λ e. e ≤ length design.tree.authors) es
      → lookup_of design.tree (unlisted u es) ≡ under.lookup (by_index known) (unlisted_seen (known_view design u known) es)
  unlisted_is [] few = refl
  unlisted_is (e ∷ es) few =
      let by = grant_is design u known e (few 0 e (omega arith)) in
      let author = author_is design u known e in
      let object = no_viewport ((e == 0) || has_entry u e) in
      ap (λ words. Denied words) cc
    where
      no_viewport : (b : Bool) → viewport_object design.tree.viewports (if b then by.Grant else by.Envelope) ≡ None
      no_viewport true = refl
      no_viewport false = refl

  -- a step of the walk of names
  walk_step : AreKnown design u known → Differ (keys design.tree.nodes) → (n : List ℕ) (names : List (List ℕ)) (scope : Option ℕ) → Stands design known scope
      → (found : Option ℕ) → find_listed_seen (known_view design u known) (scope_seen (known_view design u known) scope ++ n ∷ []) ≡ found
      → ((k : ℕ) → Stands design known (Some k)
      → lookup_of design.tree (walk design.tree u (look.Found (record { 0 = known_index known k })) (scope_seen (known_view design u known) (Some k)) names)
      ≡ under.lookup (by_index known) (walk_seen (known_view design u known) (Found k) (Some k) names))
      → lookup_of design.tree (from_found (find_listed design.tree u (scope_seen (known_view design u known) scope ++ n ∷ [])) (unlisted u (closed design.tree u (scope_seen (known_view design u known) scope)))
      (λ o. walk design.tree u (look.Found (record { 0 = o })) (scope_seen (known_view design u known) scope ++ n ∷ []) names))
      ≡ under.lookup (by_index known) (from_seen (find_listed_seen (known_view design u known) (scope_seen (known_view design u known) scope ++ n ∷ []))
      (unlisted_seen (known_view design u known) (closed_seen (known_view design u known) scope)) (λ o. walk_seen (known_view design u known) (Found o) (Some o) names))
  walk_step covers differ n names scope stands None is rest =
      let next = scope_seen (known_view design u known) scope ++ n ∷ [] in
      let otherwise = unlisted u (closed design.tree u (scope_seen (known_view design u known) scope)) in
      let few = subst (All (λ e. e ≤ length design.tree.authors)) (scope_closed scope stands) (closed_few (scope_seen (known_view design u known) scope)) in
      ap (λ f. lookup_of design.tree (from_found f otherwise (λ o. walk design.tree u (look.Found (record { 0 = o })) next names)))
      (find_listed_is covers differ next ∙ ap (option_map (known_index known)) is)
      ∙ ap (λ es. lookup_of design.tree (unlisted u es)) (scope_closed scope stands)
      ∙ unlisted_is (closed_seen (known_view design u known) scope) few
      ∙ sym (ap (λ f. under.lookup (by_index known) (from_seen f (unlisted_seen (known_view design u known) (closed_seen (known_view design u known) scope))
      (λ o. walk_seen (known_view design u known) (Found o) (Some o) names))) is)
  walk_step covers differ n names scope stands (Some k) is rest =
      let next = scope_seen (known_view design u known) scope ++ n ∷ [] in
      let otherwise = unlisted u (closed design.tree u (scope_seen (known_view design u known) scope)) in
      let (there, same) = found_stands next k is in
      ap (λ f. lookup_of design.tree (from_found f otherwise (λ o. walk design.tree u (look.Found (record { 0 = o })) next names)))
      (find_listed_is covers differ next ∙ ap (option_map (known_index known)) is)
      ∙ ap (λ (ns : List (List ℕ)). lookup_of design.tree (walk design.tree u (look.Found (record { 0 = known_index known k })) ns names)) (sym same)
      ∙ rest k there
      ∙ sym (ap (λ f. under.lookup (by_index known) (from_seen f (unlisted_seen (known_view design u known) (closed_seen (known_view design u known) scope))
      (λ o. walk_seen (known_view design u known) (Found o) (Some o) names))) is)

  -- the walk of names
  walk_is : AreKnown design u known → Differ (keys design.tree.nodes) → (names : List (List ℕ)) (here : Look) (found : Lookup) (scope : Option ℕ) → Stands design known scope
      → lookup_of design.tree here ≡ under.lookup (by_index known) found
      → lookup_of design.tree (walk design.tree u here (scope_seen (known_view design u known) scope) names)
      ≡ under.lookup (by_index known) (walk_seen (known_view design u known) found scope names)
  walk_is covers differ [] here found scope stands e = e
  walk_is covers differ (n ∷ names) here found scope stands e =
      walk_step covers differ n names scope stands (find_listed_seen (known_view design u known) (scope_seen (known_view design u known) scope ++ n ∷ [])) refl
      (λ k there. walk_is covers differ names (look.Found (record { 0 = known_index known k })) (Found k) (Some k) there refl)

  -- what is found under names in a scope
  pub named_is : AreKnown design u known → Differ (keys design.tree.nodes) → (scope : Option ℕ) → Stands design known scope → (names : List (List ℕ))
      → lookup_of design.tree (look_in design.tree u (option_map (known_index known) scope) names)
      ≡ under.lookup (by_index known) (walk_seen (known_view design u known) Absent scope names)
  named_is covers differ None stands names = walk_is covers differ names look.Absent Absent None stands refl
  named_is covers differ (Some k) (node, at) names =
      ap (λ n. lookup_of design.tree (option_map_or (λ above. walk design.tree u look.Absent above names) (option_map (λ (m : Node). names_of m.path) n) look.Absent)) at
      ∙ ap (λ (ns : List (List ℕ)). lookup_of design.tree (walk design.tree u look.Absent ns names))
      (sym (names_are k ∙ ap (λ n. names_of (option_map_or (λ (m : Node). m.path) n [])) at))
      ∙ walk_is covers differ names look.Absent Absent (Some k) (node, at) refl

  -- ---- what a scope lists

  -- an object stands in a scope
  in_scope : (names : List (List ℕ)) (k : ℕ)
      → option_map_or (λ node. is_in_seen names node.path) (slice_get (known_view design u known).nodes k) false
      ≡ option_map_or (is_in names) (slice_get design.tree.nodes (known_index known k)) false
  in_scope names k =
      ap (λ node. option_map_or (λ n. is_in_seen names n.path) node false) (node_seen design u known k long)
      ∙ by_node (slice_get design.tree.nodes (known_index known k))
    where
      by_node : (node : Option Node) → option_map_or (λ n. is_in_seen names n.path) (option_map (seen_node design u) node) false ≡ option_map_or (is_in names) node false
      by_node None = refl
      by_node (Some node) = in_same design.tree u [] node.path names

  -- what is listed there
  children_is : AreKnown design u known → (names : List (List ℕ))
      → filter (is_listed_at design.tree u) (children_named design.tree.nodes names)
      ≡ map (known_index known) (filter (listed_seen (known_view design u known))
      (filter (λ o. option_map_or (λ node. is_in_seen names node.path) (slice_get (known_view design u known).nodes o) false) (below (length (known_view design u known).nodes))))
  children_is covers names =
      let stands : ℕ → Bool = λ o. option_map_or (is_in names) (slice_get design.tree.nodes o) false in
      let seen : ℕ → Bool = λ k. option_map_or (λ node. is_in_seen names node.path) (slice_get (known_view design u known).nodes k) false in
      let many = length-map (marked known design.tree.nodes) (seen_node design u) in
      filter_twice (is_listed_at design.tree u) stands (below (length design.tree.nodes))
      ∙ ap (filter (λ o. stands o && is_listed_at design.tree u o)) (below_is (length design.tree.nodes))
      ∙ indexes_marked known design.tree.nodes (λ o. stands o && is_listed_at design.tree u o) long
      (λ o is. listed_known covers o (both_of (stands o) (is_listed_at design.tree u o) is).1)
      ∙ ap (map (known_index known)) (
      filter_alike (λ k. stands (known_index known k) && is_listed_at design.tree u (known_index known k)) (λ k. seen k && listed_seen (known_view design u known) k)
      (λ k. let a = in_scope names k in let b = listed_is k in cc) (range (length (marked known design.tree.nodes)))
      ∙ ap (λ (n : ℕ). filter (λ k. seen k && listed_seen (known_view design u known) k) (range n)) (sym many)
      ∙ ap (filter (λ k. seen k && listed_seen (known_view design u known) k)) (sym (below_is (length (known_view design u known).nodes)))
      ∙ sym (filter_twice (listed_seen (known_view design u known)) seen (below (length (known_view design u known).nodes))))

  pub listed_in_is : AreKnown design u known → (scope : Option ℕ) → Stands design known scope
      → listed design.tree u (option_map (known_index known) scope) ≡ map (known_index known) (listed_in_seen (known_view design u known) scope)
  listed_in_is covers None stands = children_is covers []
  listed_in_is covers (Some k) (node, at) =
      ap (λ n. filter (is_listed_at design.tree u) (option_map_or (children_named design.tree.nodes) (option_map (λ (m : Node). names_of m.path) n) [])) at
      ∙ ap (λ (ns : List (List ℕ)). filter (is_listed_at design.tree u) (children_named design.tree.nodes ns))
      (sym (names_are k ∙ ap (λ n. names_of (option_map_or (λ (m : Node). m.path) n [])) at))
      ∙ children_is covers (names_seen (known_view design u known) k)
