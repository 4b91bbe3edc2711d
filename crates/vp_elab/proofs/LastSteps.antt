-- The last step of an object's path, and the viewports on it.
use Rattle.std.proofs.Common.{◌≡◌, ℕ, ◌==◌, ◌&&◌, Bool, false, List, [], ◌∷◌, ◌++◌, slice_get, Option, Some, None, refl, sym, ap, ◌∙◌}
use Rattle.std.specs.Prelude.{is_some, option_and_then, option_map}
use Rattle.std.specs.Option.{option_map_or}
use Rattle.std.specs.Str.{bytes_eq}
use Rattle.vp_pragma.specs.Envelopes.{Viewport}
use Rattle.vp_elab.specs.declared.object.Kind.{Kind}
use Rattle.vp_elab.specs.declared.object.Object.{Object}
use Rattle.vp_elab.specs.declared.object.ObjectId.{ObjectId}
use Rattle.vp_elab.specs.Objects.{StandsFor}
use Rattle.vp_elab.specs.Tree.{Node, Step, Tree, fits_module, last_step, matches, matches_at, matches_node, name_at, node_envelope, path_of, step_named}
use Rattle.vp_elab.proofs.OpenedSteps.{none_at_root}

-- the last step of a path is the one that stands after the others
pub last_after : (above : List Step) (s : Step) → last_step (above ++ s ∷ []) ≡ Some s
last_after [] s = refl
last_after (t ∷ []) s = refl
last_after (t ∷ t' ∷ above) s = last_after (t' ∷ above) s

module _ (tree : Tree) (id : ℕ) (o : Object) (h : StandsFor tree.nodes id o) where
  last_is : last_step h.node.path ≡ Some h.step
  last_is = ap last_step h.path ∙ last_after (path_of tree.nodes (option_map (λ (q : ObjectId). q.0) o.parent)) h.step

  -- the name of an object is that of its step
  pub name_there : name_at tree id ≡ h.step.name
  name_there =
      ap (λ (x : Option Node). option_map_or (λ (n : Node). option_map_or (λ (s : Step). s.name) (last_step n.path) []) x []) h.there
      ∙ ap (λ (x : Option Step). option_map_or (λ (s : Step). s.name) x []) last_is

  -- its kind and its width are its node's
  pub kind_there : option_map (λ (n : Node). n.kind) (slice_get tree.nodes id) ≡ Some o.kind
  kind_there = ap (option_map (λ (n : Node). n.kind)) h.there ∙ ap (λ (k : Kind). Some k) (sym h.kind)

  pub width_there : option_map_or (λ (n : Node). n.width) (slice_get tree.nodes id) 0 ≡ o.width
  width_there = ap (λ (x : Option Node). option_map_or (λ (n : Node). n.width) x 0) h.there ∙ sym h.width

  -- its envelope is that of its step
  pub envelope_there : option_map_or node_envelope (slice_get tree.nodes id) 0 ≡ o.envelope
  envelope_there =
      ap (λ (x : Option Node). option_map_or node_envelope x 0) h.there
      ∙ ap (λ (x : Option Step). option_map_or (λ (s : Step). s.envelope) x 0) last_is
      ∙ h.envelope

  -- a viewport matches it by its step
  pub match_there : (v : Viewport) → matches_at tree v id ≡ matches h.step v
  match_there v =
      ap (λ (x : Option Node). option_map_or (matches_node v) x false) h.there
      ∙ ap (λ (x : Option Step). option_map_or (λ (s : Step). matches s v) x false) last_is

  -- a viewport matches a step of this envelope, module and name
  abbrev fits : Viewport → ℕ → Option (List ℕ) → List ℕ → Bool
  fits v envelope in_module name = (v.envelope == envelope) && is_some in_module && bytes_eq v.item name && fits_module v.in_module in_module

  fits_step : (v : Viewport) (in_module : Option (List ℕ)) (name : List ℕ) → in_module ≡ h.step.in_module → name ≡ name_at tree id → fits v o.envelope in_module name ≡ matches_at tree v id
  fits_step v in_module name m n =
      ap (λ (e : ℕ). fits v e in_module name) (sym h.envelope) ∙ ap (λ (x : Option (List ℕ)). fits v h.step.envelope x name) m
      ∙ ap (fits v h.step.envelope h.step.in_module) (n ∙ name_there) ∙ sym (match_there v)

  -- of an object that is declared in a module of this name
  pub match_inside : (v : Viewport) («module» name : List ℕ) → Some «module» ≡ option_and_then (λ p. option_and_then (λ n. n.definition) (slice_get tree.nodes p.0)) o.parent → name ≡ name_at tree id → matches (step_named o.envelope «module» name) v ≡ matches_at tree v id
  match_inside v «module» name m n = fits_step v (Some «module») name (m ∙ sym h.inside) n

  -- of a top module
  pub match_top : (v : Viewport) → None ≡ option_and_then (λ p. option_and_then (λ n. n.definition) (slice_get tree.nodes p.0)) o.parent → false ≡ matches_at tree v id
  match_top v m = sym (none_at_root (name_at tree id) 0 o.envelope v) ∙ fits_step v None (name_at tree id) (m ∙ sym h.inside) refl

-- no viewport matches what is not there
pub match_absent : (tree : Tree) (id : ℕ) (v : Viewport) → slice_get tree.nodes id ≡ None → false ≡ matches_at tree v id
match_absent tree id v h = sym (ap (λ (x : Option Node). option_map_or (matches_node v) x false) h)
