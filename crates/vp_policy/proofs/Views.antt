-- What a user sees of the objects of a design, one after the other.
use Rattle.std.proofs.Common.{◌≡◌, ℕ, zero, suc, ◌+◌, ◌<◌, Bool, true, false, List, [], ◌∷◌, ◌++◌, length, map, filter, take, get_or, slice_get, Option, Some, None, refl, sym, ap, subst, ◌∙◌, arith}
use Rattle.std.specs.Prelude.{IfSome, if◌then◌else◌, is_some, option_and_then, option_map, unwrap_or}
use Rattle.std.specs.Option.{option_map_or}
use Rattle.std.proofs.lemmas.List.{append_assoc, append-nil, length-append, length-map, length-take, map-append, take_more}
use Rattle.std.proofs.lemmas.Option.{slice_get-get_or, slice_get-map}
use Rattle.vp_bits.specs.declared.bit.Bit.{Bit}
use Rattle.vp_pragma.specs.declared.rights.Right.TheVariants as right
use Rattle.vp_pragma.specs.Rights.{RightSet, has, nothing, set_of}
use Rattle.vp_elab.specs.declared.object.Kind.{Kind}
use Rattle.vp_elab.specs.declared.object.Kind.TheVariants as kind
use Rattle.vp_elab.specs.declared.object.Object.{Object}
use Rattle.vp_elab.specs.declared.object.ObjectId.{ObjectId}
use Rattle.vp_elab.specs.Built.{Elaborated}
use Rattle.vp_elab.specs.Items.{node_item}
use Rattle.vp_elab.specs.Objects.{StandsFor}
use Rattle.vp_elab.specs.Tree.{Step, Node, Tree, author_in, declared_envelopes, matches, matches_at, name_at, names_of, path_of}
use Rattle.vp_elab.proofs.LastSteps.{match_there, name_there}
use Rattle.vp_resolve.specs.Constants.{constant_among, constant_at}
use Rattle.vp_policy.specs.declared.view.SeenObject.{SeenObject}
use Rattle.vp_policy.specs.declared.grant.GrantedBy.{GrantedBy}
use Rattle.vp_policy.specs.Users.{Member, entry_of}
use Rattle.vp_policy.specs.Filter.{closed, is_closed, is_listed, is_listed_at, rights, rights_at}
use Rattle.vp_policy.specs.View.{HasScope, HoldScopes, SeenNode, SeenStep, SeenViewport, View, is_value_seen, known_nodes, known_view, listed_marks, marked, seen_envelopes, seen_node, seen_path, seen_step, seen_value, seen_viewport, view_of}
use Rattle.vp_policy.specs.SeenObjects.{node_after, nodes_from, number_in, numbers_from, own_step, path_to, viewport_shown}
use Rattle.vp_policy.proofs.Laws.{right_above}
use Rattle.vp_policy.proofs.Walks.{closed_is, there_before}

-- ---- lists

-- tests that agree leave the same
filter_same : {X : Type 0} (p q : X → Bool) (xs : List X) → ((x : X) → p x ≡ q x) → filter p xs ≡ filter q xs
filter_same p q [] same = refl
filter_same p q (x ∷ xs) same =
    ap (λ (b : Bool). if b then x ∷ filter p xs else filter p xs) (same x)
    ∙ ap (λ ys. if q x then x ∷ ys else ys) (filter_same p q xs same)

-- what stands among the first so many
among_first : (nodes : List Node) (n i : ℕ) (m : Node) → i < n → slice_get nodes i ≡ Some m → slice_get (take n nodes) i ≡ Some m
among_first [] n i m l h = absurd cc
among_first (x ∷ xs) zero i m l h = absurd (omega arith)
among_first (x ∷ xs) (suc n) zero m l h = h
among_first (x ∷ xs) (suc n) (suc i) m l h = among_first xs n i m (omega arith) h

-- what stands before a place stands among the first so many
get_before : {X : Type 0} (xs : List X) (n i : ℕ) → i < n → slice_get (take n xs) i ≡ slice_get xs i
get_before [] zero i l = refl
get_before [] (suc n) i l = refl
get_before (x ∷ xs) zero i l = absurd (omega arith)
get_before (x ∷ xs) (suc n) zero l = refl
get_before (x ∷ xs) (suc n) (suc i) l = get_before xs n i (omega arith)

-- ---- objects by their numbers in a view

-- an object has a number from this one on, and stands there among those that are kept
abbrev Placed : ℕ → List (Option ℕ) → List Node → ℕ → Node → Type 0
Placed n numbers kept j m = (q : ℕ) × (slice_get numbers j ≡ Some (Some (n + q))) × (slice_get kept q ≡ Some m)

number_same : (a b : ℕ) → a ≡ b → ◌≡◌ {A = Option (Option ℕ)} (Some (Some a)) (Some (Some b))
number_same a b h = cc

placed_first : (b : Bool) (n : ℕ) (more same : List (Option ℕ)) (kept : List Node) (x m : Node) → b ≡ true → x ≡ m → Placed n (if b then Some n ∷ more else None ∷ same) (if b then x ∷ kept else kept) 0 m
placed_first true n more same kept x m l h = (0, number_same n (n + 0) (omega arith), ap Some h)
placed_first false n more same kept x m l h = absurd cc

placed_next : (b : Bool) (n j : ℕ) (more same : List (Option ℕ)) (kept : List Node) (x m : Node) → Placed (n + 1) more kept j m → Placed n same kept j m → Placed n (if b then Some n ∷ more else None ∷ same) (if b then x ∷ kept else kept) (suc j) m
placed_next true n j more same kept x m h k = (suc h.0, h.1 ∙ number_same ((n + 1) + h.0) (n + suc h.0) (omega arith), h.2)
placed_next false n j more same kept x m h k = k

-- an object that is marked has its number among those marked
placed : (n : ℕ) (marks : List Bool) (nodes : List Node) (j : ℕ) (m : Node) → slice_get nodes j ≡ Some m → slice_get marks j ≡ Some true → Placed n (numbers_from n marks) (marked marks nodes) j m
placed n [] nodes j m h l = absurd cc
placed n (b ∷ marks) [] j m h l = absurd cc
placed n (b ∷ marks) (x ∷ xs) zero m h l =
    let same : x ≡ m = cc in
    let set : b ≡ true = cc in
    placed_first b n (numbers_from (n + 1) marks) (numbers_from n marks) (marked marks xs) x m set same
placed n (b ∷ marks) (x ∷ xs) (suc j) m h l =
    placed_next b n j (numbers_from (n + 1) marks) (numbers_from n marks) (marked marks xs) x m (placed (n + 1) marks xs j m h l) (placed n marks xs j m h l)

-- ---- paths

-- the path after which one step more stands
seen_path-append : (tree : Tree) (u : Member) (above path : List Step) (s : Step) → seen_path tree u above (path ++ s ∷ []) ≡ seen_path tree u above path ++ seen_step tree u (above ++ path) s ∷ []
seen_path-append tree u above [] s = ap (λ (p : List Step). seen_step tree u p s ∷ []) (sym (append-nil above))
seen_path-append tree u above (t ∷ path) s =
    ap (λ (p : List SeenStep). seen_step tree u above t ∷ p) (seen_path-append tree u (above ++ t ∷ []) path s)
    ∙ ap (λ (p : List Step). seen_step tree u above t ∷ (seen_path tree u (above ++ t ∷ []) path ++ seen_step tree u p s ∷ [])) (append_assoc above (t ∷ []) path)

-- of a parent that is marked, the path among the nodes before is the one that the user sees
parent_path :
    (design : Elaborated) (u : Member) (marks : List Bool) (id p : ℕ) (m : Node) → p < id → slice_get design.tree.nodes p ≡ Some m → slice_get marks p ≡ Some true
    → path_to (known_nodes design u marks (take id design.tree.nodes)) (number_in (numbers_from 0 marks) (Some p)) ≡ seen_path design.tree u [] m.path
parent_path design u marks id p m l there set =
    let before : List Node = take id design.tree.nodes in
    let done : List SeenNode = known_nodes design u marks before in
    let place = placed 0 marks before p m (among_first design.tree.nodes id p m l there) set in
    let kept : slice_get done place.0 ≡ Some (seen_node design u m) =
    slice_get-map (seen_node design u) (marked marks before) place.0 ∙ ap (option_map (seen_node design u)) place.2 in
    let number : 0 + place.0 ≡ place.0 = omega arith in
    ap (λ (x : Option (Option ℕ)). path_to done (option_and_then (λ n. n) x)) place.1 ∙ ap (λ (q : ℕ). path_to done (Some q)) number
    ∙ ap (λ (x : Option SeenNode). option_map_or (λ (n : SeenNode). n.path) x []) kept

same_steps :
    (n m : List ℕ) (e f : ℕ) (r q : RightSet) (v w : List SeenViewport) → n ≡ m → e ≡ f → r ≡ q → v ≡ w
    → ◌≡◌ {A = SeenStep} (record { name = n; envelope = e; rights = r; viewports = v }) (record { name = m; envelope = f; rights = q; viewports = w })
same_steps n m e f r q v w a b c d = cc

same_nodes :
    (p q : List SeenStep) (k l : Kind) (w v i j : ℕ) (d e : Option (List ℕ)) (x y : Option (List Bit)) (c b : List ℕ)
    → p ≡ q → k ≡ l → w ≡ v → i ≡ j → d ≡ e → x ≡ y → c ≡ b
    → ◌≡◌ {A = SeenNode} (record { path = p; kind = k; width = w; line = i; definition = d; value = x; closed_list = c }) (record { path = q; kind = l; width = v; line = j; definition = e; value = y; closed_list = b })
same_nodes p q k l w v i j d e x y c b hp hk hw hi hd hx hc = cc

-- ---- one object

module _ (design : Elaborated) (u : Member) (id : ℕ) (object : Object) (h : StandsFor design.tree.nodes id object) where
  -- the steps above the object
  abbrev above : List Step
  above = path_of design.tree.nodes (option_map (λ (p : ObjectId). p.0) object.parent)

  -- the path to the object in which it is declared, by the numbers of those that are marked among as many as stand before it
  above_by :
      (marks : List Bool) → length marks ≡ id → HasScope design.tree.nodes marks h.node → (parent : Option ObjectId) → IfSome parent (λ p. p.0 < id)
      → h.node.path ≡ path_of design.tree.nodes (option_map (λ (p : ObjectId). p.0) parent) ++ h.step ∷ []
      → path_to (known_nodes design u marks (take id design.tree.nodes)) (number_in (numbers_from 0 marks) (option_map (λ (p : ObjectId). p.0) parent))
      ≡ seen_path design.tree u [] (path_of design.tree.nodes (option_map (λ (p : ObjectId). p.0) parent))
  above_by marks long scope None l r = refl
  above_by marks long scope (Some p) l r =
      let there = there_before design.tree.nodes id p.0 h.node h.there l in
      let path : path_of design.tree.nodes (Some p.0) ≡ there.0.path = ap (λ (x : Option Node). option_map_or (λ (n : Node). n.path) x []) there.1 in
      let set : slice_get marks p.0 ≡ Some true = scope p.0 there.0 h.step (omega (arith, l, long)) there.1 (r ∙ ap (λ (q : List Step). q ++ h.step ∷ []) path) in
      parent_path design u marks id p.0 there.0 l there.1 set ∙ ap (seen_path design.tree u []) (sym path)

  -- its step
  own_is :
      (o : SeenObject) → o.name ≡ name_at design.tree id → o.envelope ≡ object.envelope → set_of o.rights ≡ rights_at design.tree u id
      → map viewport_shown o.viewports ≡ map seen_viewport (filter (λ v. matches_at design.tree v id) design.tree.viewports) → own_step o ≡ seen_step design.tree u above h.step
  own_is o name envelope rights_are viewports =
      same_steps o.name h.step.name o.envelope h.step.envelope (set_of o.rights) (rights design.tree u (above ++ h.step ∷ [])) (map viewport_shown o.viewports) (map seen_viewport (filter (matches h.step) design.tree.viewports))
      (name ∙ name_there design.tree id object h) (envelope ∙ sym h.envelope)
      (rights_are ∙ ap (λ (x : Option Node). option_map_or (λ (n : Node). rights design.tree u n.path) x nothing) h.there ∙ ap (rights design.tree u) h.path)
      (viewports ∙ ap (map seen_viewport) (filter_same (λ v. matches_at design.tree v id) (matches h.step) design.tree.viewports (match_there design.tree id object h)))

  -- its value
  value_is :
      (value : Option (List Bit)) (his : RightSet)
      → value ≡ (if is_value_seen object.kind object.width his then Some (constant_at design id object.width) else None)
      → his ≡ rights_at design.tree u id → value ≡ seen_value design u h.node
  value_is value his is rights_are =
      let his_are : his ≡ rights design.tree u h.node.path =
      rights_are ∙ ap (λ (x : Option Node). option_map_or (λ (n : Node). rights design.tree u n.path) x nothing) h.there in
      is
      ∙ ap (λ (k : Kind). if is_value_seen k object.width his then Some (constant_at design id object.width) else None) h.kind
      ∙ ap (λ (w : ℕ). if is_value_seen h.node.kind w his then Some (constant_at design id w) else None) h.width
      ∙ ap (λ (r : RightSet). if is_value_seen h.node.kind h.node.width r then Some (constant_at design id h.node.width) else None) his_are
      ∙ ap (λ (x : Option Node). if is_value_seen h.node.kind h.node.width (rights design.tree u h.node.path) then Some (constant_among design.source h.node.width (option_and_then (node_item design.source) x)) else None) h.there

  -- its node, after those of the objects before it
  pub seen_is :
      (o : SeenObject) (numbers : List (Option ℕ)) → length numbers ≡ id → numbers ≡ numbers_from 0 (map is_some numbers)
      → IfSome (slice_get design.tree.nodes id) (HasScope design.tree.nodes (map is_some numbers))
      → o.parent ≡ number_in numbers (option_map (λ (p : ObjectId). p.0) object.parent)
      → o.name ≡ name_at design.tree id → o.envelope ≡ object.envelope → set_of o.rights ≡ rights_at design.tree u id
      → map viewport_shown o.viewports ≡ map seen_viewport (filter (λ v. matches_at design.tree v id) design.tree.viewports)
      → o.kind ≡ object.kind → o.width ≡ object.width → o.line ≡ option_map_or (λ (n : Node). n.line) (slice_get design.tree.nodes id) 0
      → o.definition ≡ option_and_then (λ (n : Node). n.definition) (slice_get design.tree.nodes id)
      → o.value ≡ (if is_value_seen object.kind object.width (set_of o.rights) then Some (constant_at design id object.width) else None)
      → o.closed ≡ filter (is_closed u) (declared_envelopes design.tree (Some id))
      → IfSome (slice_get design.tree.nodes id) (λ node. node_after (known_nodes design u (map is_some numbers) (take id design.tree.nodes)) o ≡ seen_node design u node)
  seen_is o numbers long are scopes parent name envelope rights_are viewports kind_is width line definition value closed_is_filter =
      let marks : List Bool = map is_some numbers in
      let done : List SeenNode = known_nodes design u marks (take id design.tree.nodes) in
      let scope : HasScope design.tree.nodes marks h.node = subst (λ (x : Option Node). IfSome x (HasScope design.tree.nodes marks)) h.there scopes in
      let path : path_to done o.parent ++ own_step o ∷ [] ≡ seen_path design.tree u [] h.node.path =
      ap (λ (x : Option ℕ). path_to done x ++ own_step o ∷ []) (parent ∙ ap (λ (ns : List (Option ℕ)). number_in ns (option_map (λ (p : ObjectId). p.0) object.parent)) are)
      ∙ ap (λ (p : List SeenStep). p ++ own_step o ∷ []) (above_by marks (length-map numbers is_some ∙ long) scope object.parent h.following h.path)
      ∙ ap (λ (s : SeenStep). seen_path design.tree u [] above ++ s ∷ []) (own_is o name envelope rights_are viewports)
      ∙ sym (seen_path-append design.tree u [] above h.step) ∙ ap (seen_path design.tree u []) (sym h.path) in
      let closed_here = closed_is design.tree u (Some id) (names_of h.node.path) (ap (option_map (λ (n : Node). names_of n.path)) h.there) in
      subst (λ (x : Option Node). IfSome x (λ node. node_after done o ≡ seen_node design u node)) (sym h.there)
      (same_nodes _ _ _ _ _ _ _ _ _ _ _ _ _ _ path (kind_is ∙ h.kind) (width ∙ h.width)
      (line ∙ ap (λ (x : Option Node). option_map_or (λ (n : Node). n.line) x 0) h.there)
      (definition ∙ ap (option_and_then (λ (n : Node). n.definition)) h.there)
      (value_is o.value (set_of o.rights) value rights_are) (closed_is_filter ∙ closed_here))

-- ---- one turn of the loop

-- one object more
nodes_from-append : (nodes : List SeenNode) (os : List SeenObject) (o : SeenObject) → nodes_from nodes (os ++ o ∷ []) ≡ nodes_from nodes os ++ node_after (nodes_from nodes os) o ∷ []
nodes_from-append nodes [] o = refl
nodes_from-append nodes (x ∷ os) o = nodes_from-append (nodes ++ node_after nodes x ∷ []) os o

nodes_from-length : (nodes : List SeenNode) (os : List SeenObject) → length (nodes_from nodes os) ≡ length nodes + length os
nodes_from-length nodes [] = omega arith
nodes_from-length nodes (o ∷ os) =
    let more = nodes_from-length (nodes ++ node_after nodes o ∷ []) os in
    let one = length-append nodes (node_after nodes o ∷ []) in
    omega arith

number_last : (b : Bool) (n : ℕ) → ◌≡◌ {A = List (Option ℕ)} (if b then Some n ∷ [] else None ∷ []) ((if b then Some (n + 0) else None) ∷ [])
number_last true n = let same : n ≡ n + 0 = omega arith in ap (λ (i : ℕ). (let o : Option ℕ = Some i in o ∷ [])) same
number_last false n = refl

numbers_next :
    (b c : Bool) (n : ℕ) (more same ys zs : List (Option ℕ)) (kept : List Node) (x : Node)
    → ys ≡ more ++ (if c then Some ((n + 1) + length kept) else None) ∷ [] → zs ≡ same ++ (if c then Some (n + length kept) else None) ∷ []
    → (if b then Some n ∷ ys else None ∷ zs) ≡ (if b then Some n ∷ more else None ∷ same) ++ (if c then Some (n + length (if b then x ∷ kept else kept)) else None) ∷ []
numbers_next true c n more same ys zs kept x h k =
    let count : (n + 1) + length kept ≡ n + length (x ∷ kept) = omega arith in
    ap (λ (l : List (Option ℕ)). Some n ∷ l) h ∙ ap (λ (i : ℕ). Some n ∷ (more ++ (if c then Some i else None) ∷ [])) count
numbers_next false c n more same ys zs kept x h k = ap (λ (l : List (Option ℕ)). None ∷ l) k

-- one number more
numbers_from-append :
    (n : ℕ) (marks : List Bool) (c : Bool) (xs : List Node) → length marks ≡ length xs
    → numbers_from n (marks ++ c ∷ []) ≡ numbers_from n marks ++ (if c then Some (n + length (marked marks xs)) else None) ∷ []
numbers_from-append n [] c [] e = number_last c n
numbers_from-append n [] c (x ∷ xs) e = absurd cc
numbers_from-append n (b ∷ marks) c [] e = absurd cc
numbers_from-append n (b ∷ marks) c (x ∷ xs) e =
    numbers_next b c n (numbers_from (n + 1) marks) (numbers_from n marks) (numbers_from (n + 1) (marks ++ c ∷ [])) (numbers_from n (marks ++ c ∷ [])) (marked marks xs) x
    (numbers_from-append (n + 1) marks c xs (omega (arith, e))) (numbers_from-append n marks c xs (omega (arith, e)))

-- one more that is marked or not
marked-append : {X : Type 0} (marks : List Bool) (xs : List X) (c : Bool) (x : X) → length marks ≡ length xs → marked (marks ++ c ∷ []) (xs ++ x ∷ []) ≡ marked marks xs ++ (if c then x ∷ [] else [])
marked-append [] [] c x e = refl
marked-append [] (y ∷ xs) c x e = absurd cc
marked-append (b ∷ marks) [] c x e = absurd cc
marked-append (true ∷ marks) (y ∷ xs) c x e = ap (λ ys. y ∷ ys) (marked-append marks xs c x (omega (arith, e)))
marked-append (false ∷ marks) (y ∷ xs) c x e = marked-append marks xs c x (omega (arith, e))

-- numbers say which are marked
marks_of_numbers : (n : ℕ) (marks : List Bool) → map is_some (numbers_from n marks) ≡ marks
marks_of_numbers n [] = refl
marks_of_numbers n (true ∷ marks) = ap (λ ms. true ∷ ms) (marks_of_numbers (n + 1) marks)
marks_of_numbers n (false ∷ marks) = ap (λ ms. false ∷ ms) (marks_of_numbers n marks)

module _ (design : Elaborated) (u : Member) (known : List Bool) (n : ℕ) (within : n < length design.tree.nodes) (all : length known ≡ length design.tree.nodes) where
  -- the nodes so far, and which of them are marked
  abbrev so_far : List Node
  so_far = take n design.tree.nodes

  abbrev marks : List Bool
  marks = take n known

  -- the node of this turn
  abbrev here : Node
  here = get_or design.tree.nodes n (record { path = []; kind = kind.Reg; width = 0; lowest = None; line = 0; definition = None })

  there : slice_get design.tree.nodes n ≡ Some here
  there = slice_get-get_or design.tree.nodes n _ within

  one_more : take (n + 1) design.tree.nodes ≡ so_far ++ here ∷ []
  one_more = take_more design.tree.nodes n _ within

  as_many : length marks ≡ length so_far
  as_many = let a = length-take n known in let b = length-take n design.tree.nodes in omega arith

  mark_more : (c : Bool) → unwrap_or (slice_get known n) false ≡ c → take (n + 1) known ≡ marks ++ c ∷ []
  mark_more c h =
      take_more known n false (omega arith)
      ∙ ap (λ (b : Bool). marks ++ b ∷ []) (sym (ap (λ (x : Option Bool). unwrap_or x false) (slice_get-get_or known n false (omega arith))) ∙ h)

  nodes_more : (c : Bool) → unwrap_or (slice_get known n) false ≡ c → known_nodes design u (take (n + 1) known) (take (n + 1) design.tree.nodes) ≡ known_nodes design u marks so_far ++ map (seen_node design u) (if c then here ∷ [] else [])
  nodes_more c h =
      ap (λ (ms : List Bool). known_nodes design u ms (take (n + 1) design.tree.nodes)) (mark_more c h) ∙ ap (known_nodes design u (marks ++ c ∷ [])) one_more
      ∙ ap (map (seen_node design u)) (marked-append marks so_far c here as_many)
      ∙ map-append (seen_node design u) (marked marks so_far) (if c then here ∷ [] else [])

  -- which were marked before, by their numbers
  pub marks_before : (numbers : List (Option ℕ)) → numbers ≡ numbers_from 0 marks → map is_some numbers ≡ marks
  marks_before numbers are = ap (map is_some) are ∙ marks_of_numbers 0 marks

  -- the scope of an object that is marked
  pub scope_here :
      (numbers : List (Option ℕ)) → numbers ≡ numbers_from 0 marks → unwrap_or (slice_get known n) false ≡ true → HoldScopes design.tree.nodes known
      → IfSome (slice_get design.tree.nodes n) (HasScope design.tree.nodes (map is_some numbers))
  scope_here numbers are set hold =
      let set_here : slice_get known n ≡ Some true =
      slice_get-get_or known n false (omega arith) ∙ ap Some (sym (ap (λ (x : Option Bool). unwrap_or x false) (slice_get-get_or known n false (omega arith))) ∙ set) in
      let its : HasScope design.tree.nodes marks here =
      λ p scope s l at is.
      let in_range : p < n = (let a = length-take n known in omega arith) in
      get_before known n p in_range ∙ hold n here set_here there p scope s (let a = length-take n known in omega arith) at is in
      subst (λ (x : Option Node). IfSome x (HasScope design.tree.nodes (map is_some numbers))) (sym there)
      (subst (λ (ms : List Bool). HasScope design.tree.nodes ms here) (sym (marks_before numbers are)) its)

  -- an object that is marked
  pub nodes_marked :
      (os : List SeenObject) (o : SeenObject) (numbers : List (Option ℕ)) → unwrap_or (slice_get known n) false ≡ true → nodes_from [] os ≡ known_nodes design u marks so_far
      → numbers ≡ numbers_from 0 marks
      → IfSome (slice_get design.tree.nodes n) (λ node. node_after (known_nodes design u (map is_some numbers) so_far) o ≡ seen_node design u node)
      → nodes_from [] (os ++ o ∷ []) ≡ known_nodes design u (take (n + 1) known) (take (n + 1) design.tree.nodes)
  nodes_marked os o numbers set nodes are node =
      let by_numbers : node_after (known_nodes design u (map is_some numbers) so_far) o ≡ seen_node design u here =
      subst (λ (x : Option Node). IfSome x (λ node. node_after (known_nodes design u (map is_some numbers) so_far) o ≡ seen_node design u node)) there node in
      let own : node_after (known_nodes design u marks so_far) o ≡ seen_node design u here =
      ap (λ (ms : List Bool). node_after (known_nodes design u ms so_far) o) (sym (marks_before numbers are)) ∙ by_numbers in
      nodes_from-append [] os o ∙ ap (λ (ns : List SeenNode). ns ++ node_after ns o ∷ []) nodes
      ∙ ap (λ (x : SeenNode). known_nodes design u marks so_far ++ x ∷ []) own ∙ sym (nodes_more true set)

  pub numbers_marked :
      (os : List SeenObject) (numbers : List (Option ℕ)) (count : ℕ) → unwrap_or (slice_get known n) false ≡ true → nodes_from [] os ≡ known_nodes design u marks so_far
      → numbers ≡ numbers_from 0 marks → count ≡ length os → numbers ++ Some count ∷ [] ≡ numbers_from 0 (take (n + 1) known)
  numbers_marked os numbers count set nodes are long =
      let number : count ≡ 0 + length (marked marks so_far) =
      let a = nodes_from-length [] os in
      let b = ap length nodes in
      let c = length-map (marked marks so_far) (seen_node design u) in
      omega arith in
      ap (λ (ns : List (Option ℕ)). ns ++ Some count ∷ []) are
      ∙ ap (λ (i : ℕ). numbers_from 0 marks ++ (let o : Option ℕ = Some i in o ∷ [])) number
      ∙ sym (ap (numbers_from 0) (mark_more true set) ∙ numbers_from-append 0 marks true so_far as_many)

  -- one that is not
  pub nodes_unmarked :
      (os : List SeenObject) → unwrap_or (slice_get known n) false ≡ false → nodes_from [] os ≡ known_nodes design u marks so_far
      → nodes_from [] os ≡ known_nodes design u (take (n + 1) known) (take (n + 1) design.tree.nodes)
  nodes_unmarked os unset nodes = nodes ∙ sym (append-nil (known_nodes design u marks so_far)) ∙ sym (nodes_more false unset)

  pub numbers_unmarked : (numbers : List (Option ℕ)) → unwrap_or (slice_get known n) false ≡ false → numbers ≡ numbers_from 0 marks → numbers ++ None ∷ [] ≡ numbers_from 0 (take (n + 1) known)
  numbers_unmarked numbers unset are =
      ap (λ (ns : List (Option ℕ)). ns ++ None ∷ []) are ∙ sym (ap (numbers_from 0) (mark_more false unset) ∙ numbers_from-append 0 marks false so_far as_many)

-- ---- those that are listed

-- what is marked by a test is what the test keeps
marked_by : {X : Type 0} (test : X → Bool) (xs : List X) → marked (map test xs) xs ≡ filter test xs
marked_by test [] = refl
marked_by test (x ∷ xs) = ap (λ ys. if test x then x ∷ ys else ys) (marked_by test xs)

-- one object more
pub listed_more :
    (tree : Tree) (u : Member) (n : ℕ) (before : List Bool) (b : Bool) → n < length tree.nodes → before ≡ listed_marks tree u (take n tree.nodes) → b ≡ is_listed_at tree u n
    → before ++ b ∷ [] ≡ listed_marks tree u (take (n + 1) tree.nodes)
listed_more tree u n before b l are is =
    let none : Node = record { path = []; kind = kind.Reg; width = 0; lowest = None; line = 0; definition = None } in
    let here : b ≡ is_listed tree u (get_or tree.nodes n none) =
    is ∙ ap (λ (x : Option Node). option_map_or (is_listed tree u) x false) (slice_get-get_or tree.nodes n none l) in
    ap (λ (ms : List Bool). ms ++ b ∷ []) are ∙ ap (λ (c : Bool). listed_marks tree u (take n tree.nodes) ++ c ∷ []) here
    ∙ sym (ap (map (is_listed tree u)) (take_more tree.nodes n none l) ∙ map-append (is_listed tree u) (take n tree.nodes) (get_or tree.nodes n none ∷ []))

-- the view of what is listed
pub listed_view : (design : Elaborated) (u : Member) → known_view design u (listed_marks design.tree u design.tree.nodes) ≡ view_of design u
listed_view design u =
    ap (λ (ns : List Node). (let v : View = record { nodes = map (seen_node design u) ns; closed_list = closed design.tree u []; envelopes = seen_envelopes u 1 design.tree.authors; run = u.run } in v))
    (marked_by (is_listed design.tree u) design.tree.nodes)

-- what is listed stands in a scope that is listed
pub listed_scopes : (tree : Tree) (u : Member) → HoldScopes tree.nodes (listed_marks tree u tree.nodes)
listed_scopes tree u n node set there p scope s l at is =
    let mine : is_listed tree u node ≡ true =
    let a = slice_get-map (is_listed tree u) tree.nodes n in
    let b = ap (option_map (is_listed tree u)) there in
    cc in
    let its : is_listed tree u scope ≡ true = right_above tree u right.List scope.path (s ∷ []) (ap (λ (q : List Step). has right.List (rights tree u q)) (sym is) ∙ mine) in
    slice_get-map (is_listed tree u) tree.nodes p ∙ ap (option_map (is_listed tree u)) at ∙ ap Some its

-- ---- envelopes

envelopes_from : (u : Member) (n k : ℕ) (authors : List (List ℕ)) (a : List ℕ) → k ≡ n + length authors → seen_envelopes u n (authors ++ a ∷ []) ≡ seen_envelopes u n authors ++ (a, entry_of u k) ∷ []
envelopes_from u n k [] a e = let same : n ≡ k = omega arith in ap (λ (i : ℕ). (let p : List ℕ × GrantedBy = (a, entry_of u i) in p ∷ [])) same
envelopes_from u n k (b ∷ authors) a e = ap (λ ps. (b, entry_of u n) ∷ ps) (envelopes_from u (n + 1) k authors a (omega arith))

-- one envelope more
pub envelopes_more :
    (u : Member) (authors : List (List ℕ)) (n : ℕ) (seen : List (List ℕ × GrantedBy)) (author : List ℕ) (granted : GrantedBy) → n < length authors
    → seen ≡ seen_envelopes u 1 (take n authors) → author ≡ author_in authors (n + 1) → granted ≡ entry_of u (n + 1)
    → seen ++ (author, granted) ∷ [] ≡ seen_envelopes u 1 (take (n + 1) authors)
envelopes_more u authors n seen author granted l are is own =
    let next : n + 1 ≡ suc n = omega arith in
    let here : author ≡ get_or authors n [] = is ∙ ap (author_in authors) next in
    let count : n + 1 ≡ 1 + length (take n authors) = let long = length-take n authors in omega arith in
    ap (λ (ps : List (List ℕ × GrantedBy)). ps ++ (author, granted) ∷ []) are
    ∙ ap (λ (a : List ℕ). seen_envelopes u 1 (take n authors) ++ (a, granted) ∷ []) here
    ∙ ap (λ (b : GrantedBy). seen_envelopes u 1 (take n authors) ++ (get_or authors n [], b) ∷ []) own
    ∙ sym (ap (seen_envelopes u 1) (take_more authors n [] l) ∙ envelopes_from u 1 (n + 1) (take n authors) (get_or authors n []) count)

-- as many nodes as objects
pub nodes_count : (nodes : List SeenNode) (objects : List SeenObject) → length (nodes_from nodes objects) ≡ length nodes + length objects
nodes_count nodes [] = omega arith
nodes_count nodes (o ∷ objects) =
    let rest = nodes_count (nodes ++ node_after nodes o ∷ []) objects in
    let more = length-append nodes (node_after nodes o ∷ []) in
    omega (arith, rest, more)
