-- The full name of an object, from that of the object above it.
use Rattle.std.proofs.Common.{◌≡◌, ℕ, ◌<◌, List, [], ◌∷◌, ◌++◌, length, slice_get, Option, Some, None, Result, Ok, Err, cond, refl, sym, ap, subst, inl, inr, ◌∙◌, append_assoc, arith}
use Rattle.std.specs.Prelude.{IfSome, MatchOption, OnOk, is_ok, option_map}
use Rattle.std.specs.Option.{option_map_or}
use Rattle.std.proofs.lemmas.Option.{slice_get_cases, slice_get_within}
use Rattle.vp_elab.specs.declared.object.Object.{Object}
use Rattle.vp_elab.specs.declared.object.ObjectId.{ObjectId}
use Rattle.vp_elab.specs.Objects.{AreObjects, StandsFor}
use Rattle.vp_elab.specs.Tree.{Node, Step, Tree, dotted, full_name_at, name_at, names_of, path_of}
use Rattle.vp_elab.proofs.LastSteps.{name_there}

-- a step more is a '.' and its name more
dotted_after : (t : Step) (path : List Step) (s : Step) → dotted (names_of ((t ∷ path) ++ s ∷ [])) ≡ dotted (names_of (t ∷ path)) ++ 46 ∷ s.name
dotted_after t [] s = refl
dotted_after t (u ∷ path) s =
    ap (λ (x : List ℕ). t.name ++ 46 ∷ x) (dotted_after u path s)
    ∙ sym (append_assoc t.name (46 ∷ dotted (names_of (u ∷ path))) (46 ∷ s.name))

-- the same after a path that ends in a step
dotted_below : (above : List Step) (t s : Step) → dotted (names_of ((above ++ t ∷ []) ++ s ∷ [])) ≡ dotted (names_of (above ++ t ∷ [])) ++ 46 ∷ s.name
dotted_below [] t s = refl
dotted_below (u ∷ above) t s = dotted_after u (above ++ t ∷ []) s

-- what a text is after a name that is pushed
pub name_pushed : {T E : Type 0} (r : Result T E) (old was now name full : List ℕ) → now ≡ cond (is_ok r) (was ++ name) was → was ++ name ≡ old ++ full → OnOk r (now ≡ old ++ full)
name_pushed (Ok x) old was now name full h e = h ∙ e
name_pushed (Err x) old was now name full h e = tt

-- a text, what stands above, a '.' and a name
pub name_joined : (old above name : List ℕ) → ((old ++ above) ++ 46 ∷ []) ++ name ≡ old ++ (above ++ 46 ∷ name)
name_joined old above name = append_assoc (old ++ above) (46 ∷ []) name ∙ append_assoc old above (46 ∷ name)

module _ (tree : Tree) (os : List Object) (all : AreObjects tree.nodes os) where
  stands : (id : ℕ) (o : Object) → slice_get os id ≡ Some o → StandsFor tree.nodes id o
  stands id o at = subst (λ (x : Option Object). MatchOption x (slice_get tree.nodes id ≡ None) (λ (o : Object). StandsFor tree.nodes id o)) at (all id)

  -- the path of an object ends in its step
  path_there : (id : ℕ) (o : Object) (h : StandsFor tree.nodes id o) → path_of tree.nodes (Some id) ≡ path_of tree.nodes (option_map (λ (p : ObjectId). p.0) o.parent) ++ h.step ∷ []
  path_there id o h = ap (λ (x : Option Node). option_map_or (λ (n : Node). n.path) x []) h.there ∙ h.path

  -- each number below the end is that of an object
  above_by : (id : ℕ) (x : Option Object) → id < length tree.nodes → MatchOption x (slice_get tree.nodes id ≡ None) (λ (o : Object). StandsFor tree.nodes id o) → (above : Object) × StandsFor tree.nodes id above
  above_by id None within none =
      elim ((slice_get_cases tree.nodes id).1) [
        | inl there ↦ let some = there.2 in absurd cc
        | inr past ↦ let following = past.0 in absurd (omega arith)
      ]
  above_by id (Some o) within there = (o, there)

  -- an object above another is there
  above_there : (id : ℕ) (o : Object) (p : ObjectId) → slice_get os id ≡ Some o → o.parent ≡ Some p → (above : Object) × StandsFor tree.nodes p.0 above
  above_there id o p at is =
      let h = stands id o at in
      let before : p.0 < id = subst (λ (x : Option ObjectId). IfSome x (λ (q : ObjectId). q.0 < id)) is h.following in
      let within : id < length tree.nodes = slice_get_within tree.nodes id h.node h.there in
      above_by p.0 (slice_get os p.0) (omega arith) (all p.0)

  -- that of another object is the full name of the one above it, a '.', and its name
  pub full_name_inner :
      (id : ℕ) (o : Object) (p : ObjectId) → slice_get os id ≡ Some o → o.parent ≡ Some p → full_name_at tree id ≡ full_name_at tree p.0 ++ 46 ∷ name_at tree id
  full_name_inner id o p at is =
      let h = stands id o at in
      let (above, there) = above_there id o p at is in
      let whole = path_there p.0 above there in
      ap (λ (p : List Step). dotted (names_of p)) (path_there id o h)
      ∙ ap (λ (x : Option ObjectId). dotted (names_of (path_of tree.nodes (option_map (λ (p : ObjectId). p.0) x) ++ h.step ∷ []))) is
      ∙ ap (λ (above : List Step). dotted (names_of (above ++ h.step ∷ []))) whole
      ∙ dotted_below (path_of tree.nodes (option_map (λ (p : ObjectId). p.0) above.parent)) there.step h.step
      ∙ ap (λ (above : List Step). dotted (names_of above) ++ 46 ∷ h.step.name) (sym whole)
      ∙ ap (λ (n : List ℕ). full_name_at tree p.0 ++ 46 ∷ n) (sym (name_there tree id o h))
