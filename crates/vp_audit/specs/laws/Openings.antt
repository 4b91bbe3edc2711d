-- A user's part of a world in which nothing has happened.
use Rattle.std.proofs.Common.{◌≡◌, ℕ, zero, suc, ◌+◌, ◌≤◌, Bool, false, true, List, [], ◌∷◌, ◌++◌, length, Option, Some, None, refl, ap, sym, subst, ◌∙◌, arith}
use Rattle.std.specs.Prelude.{filter, if◌then◌else◌, map, slice_get, slice_index}
use Rattle.std.specs.List.{All, flat_map}
use Rattle.std.specs.Option.{option_map_or}
use Rattle.std.proofs.lemmas.List.{length-map}
use Rattle.std.proofs.lemmas.List.Elements.{All-append, All-cons, All-nil}
use Rattle.vp_source.specs.declared.source.Source.{Source}
use Rattle.vp_source.specs.declared.source.Module as declared
use Rattle.vp_source.specs.declared.source.Item.{Item}
use Rattle.vp_pragma.specs.declared.envelope.Envelope.{Envelope}
use Rattle.vp_pragma.specs.Envelopes.{Protection, envelope_at, holds, last_holding, or_later}
use Rattle.vp_modules.specs.Items.{definition_of, item_place, items_in}
use Rattle.vp_elab.specs.Built.{Elaborated, IsElaborated}
use Rattle.vp_elab.specs.Elaboration.{further_limit, item_node, item_nodes, item_step, nodes_below, root_node, root_step, top_nodes, tops, tree_of}
use Rattle.vp_elab.specs.Tree.{Node, Step, Tree}
use Rattle.vp_expr.specs.Start.{start_of}
use Rattle.vp_policy.specs.Filter.{is_listed}
use Rattle.vp_policy.specs.Users.{member_at}
use Rattle.vp_policy.specs.View.{seen_node, view_of, marked}
use Rattle.vp_sim.specs.States as sim
use Rattle.vp_world.specs.Worlds.{Opening, start}
use Rattle.vp_audit.specs.Openings.{IsRight}
use Rattle.vp_replay.specs.Parts.{first_part}
use Rattle.vp_audit.specs.Projections.{known_at_first, values_seen}
use Rattle.vp_replay.specs.laws.Denials.{AllInEnvelopes, denied_seen_at}
use Rattle.vp_audit.specs.laws.Events.{IsPartOf}
use Rattle.vp_audit.specs.laws.Grants.{values_are}
use Rattle.vp_replay.specs.laws.Names.{Differ, keys, names_differ}

-- ---- envelopes

-- an envelope that holds a place is one of these
holding_few : (n : ℕ) (envelopes : List Envelope) (place : ℕ) → last_holding (suc n) envelopes place ≤ n + length envelopes
holding_few n [] place = omega arith
holding_few n (e ∷ envelopes) place =
    let rest = holding_few (suc n) envelopes place in
    later (if holds place e then suc n else 0) (last_holding (suc (suc n)) envelopes place) (n + suc (length envelopes)) (first (holds place e)) (omega (arith, rest))
  where
    first : (b : Bool) → (if b then suc n else 0) ≤ n + suc (length envelopes)
    first true = omega arith
    first false = omega arith

    later : (a b m : ℕ) → a ≤ m → b ≤ m → or_later a b ≤ m
    later a zero m h k = h
    later a (suc b) m h k = k

-- so the envelope of a place is one of them, or the open text
envelope_few : (envelopes : List Envelope) (place : ℕ) → envelope_at envelopes place ≤ length envelopes
envelope_few envelopes place = let few = holding_few 0 envelopes place in omega (arith, few)

-- each step of a path stands in one of these, or in the open text
abbrev Few : List Envelope → List Step → Type 0
Few envelopes path = All (λ (s : Step). s.envelope ≤ length envelopes) path

-- so do those of all nodes of a list
abbrev AllFew : List Envelope → List Node → Type 0
AllFew envelopes nodes = All (λ (n : Node). Few envelopes n.path) nodes

-- a step more
few_more : (source : Source) (envelopes : List Envelope) (above : List Step) (m : declared.Module) (i : Item) → Few envelopes above → Few envelopes (above ++ item_step source envelopes m i ∷ [])
few_more source envelopes above m i h =
    All-append (λ (s : Step). s.envelope ≤ length envelopes) above (item_step source envelopes m i ∷ []) h
    (All-cons (λ (s : Step). s.envelope ≤ length envelopes) (item_step source envelopes m i) [] (envelope_few envelopes (item_place i)) (All-nil (λ (s : Step). s.envelope ≤ length envelopes)))

-- the nodes of several things
flat_few : {X : Type 0} (envelopes : List Envelope) (F : X → List Node) (xs : List X) → ((x : X) → AllFew envelopes (F x)) → AllFew envelopes (flat_map F xs)
flat_few envelopes F [] h = All-nil (λ (n : Node). Few envelopes n.path)
flat_few envelopes F (x ∷ xs) h = All-append (λ (n : Node). Few envelopes n.path) (F x) (flat_map F xs) (h x) (flat_few envelopes F xs h)

-- the nodes below an object
nodes_few : (source : Source) (envelopes : List Envelope) (d : ℕ) (above : List Step) (m : declared.Module) → Few envelopes above → AllFew envelopes (nodes_below source envelopes d above m)
nodes_few source envelopes zero above m h = All-nil (λ (n : Node). Few envelopes n.path)
nodes_few source envelopes (suc d) above m h =
    flat_few envelopes (item_nodes source envelopes (nodes_below source envelopes d) above m) (items_in source m)
    (λ i. All-cons (λ (n : Node). Few envelopes n.path) (item_node source envelopes above m i)
    (option_map_or (nodes_below source envelopes d (above ++ item_step source envelopes m i ∷ [])) (definition_of source i) [])
    (few_more source envelopes above m i h)
    (by_definition (nodes_below source envelopes d (above ++ item_step source envelopes m i ∷ [])) (λ n. nodes_few source envelopes d (above ++ item_step source envelopes m i ∷ []) n (few_more source envelopes above m i h))
    (definition_of source i)))
  where
    by_definition : (F : declared.Module → List Node) → ((n : declared.Module) → AllFew envelopes (F n)) → (n : Option declared.Module) → AllFew envelopes (option_map_or F n [])
    by_definition F h None = All-nil (λ (n : Node). Few envelopes n.path)
    by_definition F h (Some n) = h n

-- the nodes of a source
tree_few : (source : Source) (protection : Protection) → AllFew protection.envelopes (tree_of source protection).nodes
tree_few source protection =
    let envelopes = protection.envelopes in
    flat_few envelopes (top_nodes source envelopes (suc further_limit)) (tops source)
    (λ m.
    let root : Few envelopes (root_step source envelopes m ∷ []) =
    All-cons (λ (s : Step). s.envelope ≤ length envelopes) (root_step source envelopes m) [] (envelope_few envelopes m.name) (All-nil (λ (s : Step). s.envelope ≤ length envelopes)) in
    All-cons (λ (n : Node). Few envelopes n.path) (root_node source envelopes m) (nodes_below source envelopes (suc further_limit) (root_step source envelopes m ∷ []) m) root
    (nodes_few source envelopes (suc further_limit) (root_step source envelopes m ∷ []) m root))

-- what all have, one has
one_has : {X : Type 0} (P : X → Type 0) (xs : List X) (i : ℕ) (x : X) → All P xs → slice_get xs i ≡ Some x → P x
one_has P [] i x h at = absurd (cc)
one_has P (y ∷ xs) zero x h at = let same : y ≡ x = cc in subst P same (h 0 y (omega arith))
one_has P (y ∷ xs) (suc i) x h at = one_has P xs i x (λ k d l. h (suc k) d (omega arith)) at

-- each step to each object of a design stands in the open text or in an envelope of it
envelopes_are : (design : Elaborated) → IsElaborated design → AllInEnvelopes design.tree
envelopes_are design built o node at =
    let tree_is : design.tree ≡ tree_of design.source built.protection = ap (λ (d : Elaborated). d.tree) built.is in
    let there : slice_get (tree_of design.source built.protection).nodes o ≡ Some node = ap (λ (t : Tree). slice_get t.nodes o) (sym tree_is) ∙ at in
    let few = one_has (λ (n : Node). Few built.protection.envelopes n.path) (tree_of design.source built.protection).nodes o node (tree_few design.source built.protection) there in
    let many : length built.protection.envelopes ≡ length design.tree.authors =
    sym (ap (λ (t : Tree). length t.authors) tree_is ∙ length-map built.protection.envelopes (λ (e : Envelope). e.author)) in
    λ k d l. let less = few k d l in omega (arith, less, many)

-- ---- what is known at first

-- the listed of a list
marked_listed : {X : Type 0} (p : X → Bool) (xs : List X) → marked (map p xs) xs ≡ filter p xs
marked_listed p [] = refl
marked_listed p (x ∷ xs) = ap (λ ys. if p x then x ∷ ys else ys) (marked_listed p xs)

-- what is listed is marked
listed_known : {X : Type 0} (p : X → Bool) (xs : List X) (o : ℕ) (x : X) → slice_get xs o ≡ Some x → p x ≡ true → slice_get (map p xs) o ≡ Some true
listed_known p [] o x at is = absurd (cc)
listed_known p (y ∷ xs) zero x at is = let same : y ≡ x = cc in ap Some (ap p same ∙ is)
listed_known p (y ∷ xs) (suc o) x at is = listed_known p xs o x at is

-- nobody has opened a session
none_opened : {X : Type 0} (xs : List X) (u : ℕ) → slice_index (map (λ x. 0) xs) u ≡ 0
none_opened [] u = refl
none_opened (x ∷ xs) zero = refl
none_opened (x ∷ xs) (suc u) = none_opened xs u

-- a user's part of it
pub first_is : (opening : Opening) → IsRight opening → (u : ℕ)
    → IsPartOf opening.design u (start opening) (known_at_first opening u)
    (first_part (view_of opening.design (member_at opening.policy.members u)) (values_seen (sim.start opening.design) (member_at opening.policy.members u) (known_at_first opening u)))
first_is opening right u =
    let design = opening.design in
    let m = member_at opening.policy.members u in
    let known = known_at_first opening u in
    let long = length-map design.tree.nodes (is_listed design.tree m) in
    let envelopes = envelopes_are design right.built in
    let tree_is : design.tree ≡ tree_of design.source right.built.protection = ap (λ (d : Elaborated). d.tree) right.built.is in
    record {
      its_design = refl;
      its_tree = right.fits;
      many = length-map design.tree.nodes (start_of design);
      view = ap (λ ns. record { nodes = map (seen_node design m) ns; closed_list = (view_of design m).closed_list; envelopes = (view_of design m).envelopes; run = m.run })
          (sym (marked_listed (is_listed design.tree m) design.tree.nodes));
      is_known = record {
        long = long;
        envelopes = envelopes;
        differ = subst (λ (t : Tree). Differ (keys t.nodes)) (sym tree_is) (names_differ design.source right.built.protection right.right);
        covers = λ o node at is. listed_known (is_listed design.tree m) design.tree.nodes o node at is;
        are_values = values_are (sim.start design) design refl m known long (denied_seen_at design m known long envelopes);
      };
      counts = length-map opening.policy.members (λ x. 0);
      opens = sym (none_opened opening.policy.members u);
      sessions = refl;
      named = All-nil (λ t. t.session_state.user ≡ t.id.user.0);
      watched = All-nil _;
      time = refl;
      finished = refl;
      races = refl;
    }
