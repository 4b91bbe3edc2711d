-- A view of what is known, with the values that may be read, the time, and the races, is all that a user looks up.
use Rattle.std.proofs.Common.{◌≡◌, ℕ, Bool, false, true, List, [], ◌∷◌, length, Option, Some, None, refl, ap, sym, ◌∙◌}
use Rattle.std.specs.Prelude.{◌&&◌, if◌then◌else◌, is_none, option_map, slice_get, slice_index_or}
use Rattle.std.specs.Option.{option_and_then, option_map_or}
use Rattle.vp_text.specs.Texts.{parts}
use Rattle.vp_bits.specs.declared.bit.Bit.{Bit}
use Rattle.vp_bits.specs.declared.bit.Bit.TheVariants.{Unknown}
use Rattle.vp_pragma.specs.declared.rights.Right.{Right}
use Rattle.vp_pragma.specs.declared.rights.Right.TheVariants as right
use Rattle.vp_elab.specs.Tree.{path_of, Node, dotted, names_of, node_name}
use Rattle.vp_elab.specs.Built.{Elaborated}
use Rattle.vp_policy.specs.Filter.{denial_at, words_of}
use Rattle.vp_policy.specs.Users.{Member}
use Rattle.vp_policy.specs.View.{seen_node, known_view}
use Rattle.vp_sim.specs.States.{State}
use Rattle.vp_race.specs.Segments.{FindingState}
use Rattle.vp_vpi.specs.Calls.{is_module}
use Rattle.vp_world.specs.UserObservers.{value_read}
use Rattle.vp_vpi.specs.Observers.{is_readable, kind_at, line_at, width_at}
use Rattle.vp_world.specs.Races.{observer_with, races_seen}
use Rattle.vp_answer.specs.Renumbering.{IsOpen, IsSeenAs}
use Rattle.vp_replay.specs.Known.{known_index}
use Rattle.vp_replay.specs.Seen.{denied_seen, kind_seen, last_name, names_seen, observer_seen, value_seen}
use Rattle.vp_replay.specs.laws.Denials.{AllInEnvelopes, denied_seen_at, node_seen}
use Rattle.vp_replay.specs.laws.Known.{by_index}
use Rattle.vp_replay.specs.laws.Looks.{AreKnown, Stands, closed_is, last_same, listed_in_is, named_is, names_are}
use Rattle.vp_replay.specs.laws.Names.{Differ, keys}

-- the values that are known are those of all objects, of each that may be read
abbrev pub AreValues : Elaborated → (all : List (List Bit)) → Member → List Bool → List (Option (List Bit)) → Type 0
AreValues design all u known values =
    (k : ℕ) → denied_seen (known_view design u known) right.Read k ≡ None → is_readable (kind_seen (known_view design u known) k) ≡ true
    → slice_get values k ≡ Some (Some (slice_index_or all (known_index known k) (Unknown ∷ [])))

-- what has to be so of a design, and of what is known of it and of its values
pub record IsKnown (design : Elaborated) (all : List (List Bit)) (u : Member) (known : List Bool) (values : List (Option (List Bit))) : Type 0 where
  pub long : length known ≡ length design.tree.nodes
  pub envelopes : AllInEnvelopes design.tree
  pub differ : Differ (keys design.tree.nodes)
  pub covers : AreKnown design u known
  pub are_values : AreValues design all u known values

-- a denial that is none in words is none
none_of : {A B : Type 0} (f : A → B) (x : Option A) → option_map f x ≡ None → is_none x ≡ true
none_of f None e = refl
none_of f (Some x) e = absurd (cc)

-- a scope that is open is there
open_stands : (run : State) (u : Member) (known : List Bool) (values : List (Option (List Bit))) → IsKnown run.design run.values u known values → (time : ℕ) (finished : Bool) (book : List FindingState) (scope : Option ℕ)
    → IsOpen (observer_seen (known_view run.design u known) values time finished (races_seen run.design.tree u book)) scope → Stands run.design known scope
open_stands run u known values is time finished book None opened = tt
open_stands run u known values is time finished book (Some k) (listed, modular) =
    by_node (slice_get run.design.tree.nodes (known_index known k)) refl
    (sym (ap (λ node. is_module (option_map (λ n. n.kind) node)) (node_seen run.design u known k is.long)) ∙ modular)
  where
    by_node : (node : Option Node) → slice_get run.design.tree.nodes (known_index known k) ≡ node → is_module (option_map (λ n. n.kind) (option_map (seen_node run.design u) node)) ≡ true
        → Stands run.design known (Some k)
    by_node None at never = absurd (cc)
    by_node (Some node) at so = (node, at)

-- a value, if there is one and it may be read
value_test : (a b : Bool) (bits : List Bit) → a ≡ true → b ≡ true → (if a && b then Some bits else None) ≡ Some bits
value_test true true bits e f = refl
value_test true false bits e f = absurd (cc)
value_test false b bits e f = absurd (cc)

-- none, if there is none
no_value : (a b : Bool) (bits : List Bit) → a ≡ false → (if a && b then Some bits else None) ≡ None
no_value true b bits e = absurd (cc)
no_value false b bits e = refl

-- ---- objects

module _ (run : State) (u : Member) (known : List Bool) (values : List (Option (List Bit))) (is : IsKnown run.design run.values u known values) where
  kind_is : (k : ℕ) → kind_at run.design.tree (known_index known k) ≡ kind_seen (known_view run.design u known) k
  kind_is k = sym (ap (option_map (λ n. n.kind)) (node_seen run.design u known k is.long) ∙ by_node (slice_get run.design.tree.nodes (known_index known k))) where
    by_node : (node : Option Node) → option_map (λ n. n.kind) (option_map (seen_node run.design u) node) ≡ option_map (λ (n : Node). n.kind) node
    by_node None = refl
    by_node (Some node) = refl

  width_is : (k : ℕ) → width_at run.design.tree (known_index known k) ≡ option_map_or (λ n. n.width) (slice_get (known_view run.design u known).nodes k) 0
  width_is k = sym (ap (λ node. option_map_or (λ n. n.width) node 0) (node_seen run.design u known k is.long) ∙ by_node (slice_get run.design.tree.nodes (known_index known k))) where
    by_node : (node : Option Node) → option_map_or (λ n. n.width) (option_map (seen_node run.design u) node) 0 ≡ option_map_or (λ (n : Node). n.width) node 0
    by_node None = refl
    by_node (Some node) = refl

  line_is : (k : ℕ) → line_at run.design.tree (known_index known k) ≡ option_map_or (λ n. n.line) (slice_get (known_view run.design u known).nodes k) 0
  line_is k = sym (ap (λ node. option_map_or (λ n. n.line) node 0) (node_seen run.design u known k is.long) ∙ by_node (slice_get run.design.tree.nodes (known_index known k))) where
    by_node : (node : Option Node) → option_map_or (λ n. n.line) (option_map (seen_node run.design u) node) 0 ≡ option_map_or (λ (n : Node). n.line) node 0
    by_node None = refl
    by_node (Some node) = refl

  definition_is : (k : ℕ) → option_and_then (λ (n : Node). n.definition) (slice_get run.design.tree.nodes (known_index known k))
      ≡ option_and_then (λ n. n.definition) (slice_get (known_view run.design u known).nodes k)
  definition_is k = sym (ap (option_and_then (λ n. n.definition)) (node_seen run.design u known k is.long) ∙ by_node (slice_get run.design.tree.nodes (known_index known k))) where
    by_node : (node : Option Node) → option_and_then (λ n. n.definition) (option_map (seen_node run.design u) node) ≡ option_and_then (λ (n : Node). n.definition) node
    by_node None = refl
    by_node (Some node) = refl

  name_is : (k : ℕ) → option_map_or node_name (slice_get run.design.tree.nodes (known_index known k)) [] ≡ last_name (names_seen (known_view run.design u known) k)
  name_is k = sym (ap last_name (names_are run.design u known is.long is.envelopes k) ∙ by_node (slice_get run.design.tree.nodes (known_index known k))) where
    by_node : (node : Option Node) → last_name (names_of (option_map_or (λ (n : Node). n.path) node [])) ≡ option_map_or node_name node []
    by_node None = refl
    by_node (Some node) = last_same node.path

  full_name_is : (k : ℕ) → dotted (names_of (path_of run.design.tree.nodes (Some (known_index known k)))) ≡ dotted (names_seen (known_view run.design u known) k)
  full_name_is k = ap dotted (sym (names_are run.design u known is.long is.envelopes k))

  denied_is : (r : Right) (k : ℕ) → option_map (words_of run.design.tree) (denial_at run.design.tree u r (known_index known k)) ≡ denied_seen (known_view run.design u known) r k
  denied_is r k = sym (denied_seen_at run.design u known is.long is.envelopes r k)

  -- the value of an object that may be read
  value_is : (k : ℕ) → denied_seen (known_view run.design u known) right.Read k ≡ None
      → value_read run u (known_index known k) ≡ value_seen (known_view run.design u known) values k
  value_is k open_to =
      let undenied = none_of (words_of run.design.tree) (denial_at run.design.tree u right.Read (known_index known k)) (denied_is right.Read k ∙ open_to) in
      let kinds = kind_is k in
      by_kind (is_readable (kind_seen (known_view run.design u known) k)) refl
      (ap is_readable kinds) undenied
    where
      by_kind : (b : Bool) → is_readable (kind_seen (known_view run.design u known) k) ≡ b
          → is_readable (kind_at run.design.tree (known_index known k)) ≡ is_readable (kind_seen (known_view run.design u known) k)
          → is_none (denial_at run.design.tree u right.Read (known_index known k)) ≡ true
          → value_read run u (known_index known k) ≡ value_seen (known_view run.design u known) values k
      by_kind true readable same undenied =
          let value = is.are_values k open_to readable in
          value_test (is_readable (kind_at run.design.tree (known_index known k))) (is_none (denial_at run.design.tree u right.Read (known_index known k)))
          (slice_index_or run.values (known_index known k) (Unknown ∷ [])) (same ∙ readable) undenied
          ∙ sym (value_test (is_readable (kind_seen (known_view run.design u known) k)) (is_none (denied_seen (known_view run.design u known) right.Read k))
          (option_map_or (λ x. option_map_or (λ bits. bits) x (Unknown ∷ [])) (slice_get values k) (Unknown ∷ [])) readable (ap is_none open_to)
          ∙ ap Some (ap (λ y. option_map_or (λ x. option_map_or (λ bits. bits) x (Unknown ∷ [])) y (Unknown ∷ [])) value))
      by_kind false readable same undenied =
          no_value (is_readable (kind_at run.design.tree (known_index known k))) (is_none (denial_at run.design.tree u right.Read (known_index known k)))
          (slice_index_or run.values (known_index known k) (Unknown ∷ [])) (same ∙ readable)
          ∙ sym (no_value (is_readable (kind_seen (known_view run.design u known) k)) (is_none (denied_seen (known_view run.design u known) right.Read k))
          (option_map_or (λ x. option_map_or (λ bits. bits) x (Unknown ∷ [])) (slice_get values k) (Unknown ∷ [])) readable)

-- what a user looks up in a simulation and a book he looks up in the view of what is known, under other numbers
pub seen_as : (run : State) (u : Member) (known : List Bool) (values : List (Option (List Bit))) (book : List FindingState) → IsKnown run.design run.values u known values
    → IsSeenAs (by_index known) (observer_seen (known_view run.design u known) values run.time run.finished (races_seen run.design.tree u book)) (observer_with run u book)
seen_as run u known values book is =
    record {
      denied = denied_is run u known values is;
      kind = kind_is run u known values is;
      width = width_is run u known values is;
      line = line_is run u known values is;
      name = name_is run u known values is;
      full_name = full_name_is run u known values is;
      definition = definition_is run u known values is;
      value = value_is run u known values is;
      named = λ scope opened name.
          named_is run.design u known is.long is.envelopes is.covers is.differ scope (open_stands run u known values is run.time run.finished book scope opened) (parts 46 name);
      listed = λ scope opened. listed_in_is run.design u known is.long is.envelopes is.covers scope (open_stands run u known values is run.time run.finished book scope opened);
      closed = λ scope opened. sym (closed_is run.design u known is.long is.envelopes scope);
      may_run = refl;
      time = refl;
      finished = refl;
      races = refl;
    }
