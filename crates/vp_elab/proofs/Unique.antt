-- Paths of names stand for one entry each.
use Rattle.std.proofs.Common.{◌≡◌, ℕ, zero, suc, ◌+◌, ◌<◌, ◌≤◌, Bool, true, false, ◌&&◌, List, [], ◌∷◌, ◌++◌, length, slice_get, Some, None, refl, sym, ap, subst, ◌∙◌, arith}
use Rattle.std.specs.Str.{bytes_eq}
use Rattle.std.proofs.lemmas.List.{length-append, length-map, map-append}
use Rattle.std.proofs.lemmas.Slice.Eq.{bytes_eq-Decides}
use Rattle.vp_source.specs.Places.{word_at}
use Rattle.vp_source.specs.declared.source.Source.{Source}
use Rattle.vp_source.specs.declared.source.Module.{Module}
use Rattle.vp_modules.specs.Items.{item_name, items_in}
use Rattle.vp_modules.specs.Refusals.{twice_in}
use Rattle.vp_pragma.specs.declared.envelope.Envelope.{Envelope}
use Rattle.vp_elab.specs.Tree.{Step, is_named, names_of}
use Rattle.vp_elab.specs.Elaboration.{item_step}
use Rattle.vp_elab.proofs.Distinct.{bytes_eq-self}
use Rattle.vp_elab.proofs.Entries.{Entry, Top, Inner, module_at, path_at}
use Rattle.vp_elab.proofs.Named.{definition_there, item_index, module_index, once_in}
use Rattle.vp_elab.proofs.Placed.{AllFrom, Good, all_at, root_slot, slot}

-- lists with one more at the end
pub same_ends : {X : Type 0} (xs ys : List X) (x y : X) → xs ++ x ∷ [] ≡ ys ++ y ∷ [] → (xs ≡ ys) × (x ≡ y)
same_ends [] [] x y e = (refl, cc)
same_ends [] (b ∷ ys) x y e =
    let lengths = ap length e in
    let long = length-append ys (y ∷ []) in
    absurd (omega arith)
same_ends (a ∷ xs) [] x y e =
    let lengths = ap length e in
    let long = length-append xs (x ∷ []) in
    absurd (omega arith)
same_ends (a ∷ xs) (b ∷ ys) x y e =
    let first : a ≡ b = cc in
    let rest : xs ++ x ∷ [] ≡ ys ++ y ∷ [] = cc in
    let on = same_ends xs ys x y rest in
    (ap (λ z. z ∷ xs) first ∙ ap (λ zs. b ∷ zs) on.0, on.1)

both_true : (a b : Bool) → (a && b) ≡ true → (a ≡ true) × (b ≡ true)
both_true true b h = (refl, h)
both_true false b h = absurd cc

-- steps of these names have these names
pub names_read : (names : List (List ℕ)) (path : List Step) → is_named names path ≡ true → names ≡ names_of path
names_read [] [] h = refl
names_read [] (s ∷ path) h = absurd cc
names_read (n ∷ names) [] h = absurd cc
names_read (n ∷ names) (s ∷ path) h =
    let parts = both_true (bytes_eq n s.name) (is_named names path) h in
    ap (λ x. x ∷ names) ((bytes_eq-Decides n s.name).0 parts.0) ∙ ap (λ xs. s.name ∷ xs) (names_read names path parts.1)

-- and the other way round
pub names_are : (path : List Step) → is_named (names_of path) path ≡ true
names_are [] = refl
names_are (s ∷ path) = ap (λ b. b && is_named (names_of path) path) (bytes_eq-self s.name) ∙ names_are path

module _ (source : Source) (envelopes : List Envelope) (once : twice_in source [] source.modules ≡ None) (all : List Entry) (placed : AllFrom (Good source envelopes all) 0 all) where
  -- where an entry stands
  pub good_at : (id : ℕ) (e : Entry) → slice_get all id ≡ Some e → Good source envelopes all id e
  good_at id e at = all_at (Good source envelopes all) 0 id id all e (omega arith) at placed

  -- a path has a step
  pub path_some : (e : Entry) → 1 ≤ length (path_at source envelopes e)
  path_some (Top k m) = omega arith
  path_some (Inner above p m k i) = let long = length-append above (item_step source envelopes m i ∷ []) in omega arith

  -- the module of an entry is one of the text
  pub module_there : (id : ℕ) (e : Entry) (m : Module) → slice_get all id ≡ Some e → module_at source envelopes e ≡ Some m → (k : ℕ) × (slice_get source.modules k ≡ Some m)
  module_there id (Top k x) m at is =
      let role = (good_at id (Top k x) at).role in
      let same : x ≡ m = cc in
      (k, subst (λ (y : Module). slice_get source.modules k ≡ Some y) same role.0)
  module_there id (Inner above p x k i) m at is = let found = definition_there source i m is in (found.0, found.2)

  -- one of several steps is no path of one
  pub not_root : (above : List Step) (s : Step) (name : List ℕ) → 1 ≤ length above → names_of (above ++ s ∷ []) ≡ name ∷ [] → ⊥
  not_root above s name some same =
      let lengths : length (names_of (above ++ s ∷ [])) ≡ 1 = ap length same in
      let long = length-map (above ++ s ∷ []) (λ (s : Step). s.name) in
      let more = length-append above (s ∷ []) in
      absurd (omega arith)

  above_some : (p : ℕ) (m : Module) (above : List Step) → (e : Entry) × (slice_get all p ≡ Some e) × (module_at source envelopes e ≡ Some m) × (path_at source envelopes e ≡ above) → 1 ≤ length above
  above_some p m above h = subst (λ (path : List Step). 1 ≤ length path) h.3 (path_some h.0)

  -- entries of the same names are the same
  pub unique : (n id other : ℕ) (e f : Entry) → id < n → slice_get all id ≡ Some e → slice_get all other ≡ Some f → names_of (path_at source envelopes e) ≡ names_of (path_at source envelopes f) → id ≡ other
  unique zero id other e f less at_e at_f same = absurd (omega arith)
  unique (suc n) id other (Top k m) (Top j x) less at_e at_f same =
      let role = (good_at id (Top k m) at_e).role in
      let role_x = (good_at other (Top j x) at_f).role in
      let names : word_at source m.name ≡ word_at source x.name = cc in
      let number : k ≡ j = module_index source k j m x once role.0 role_x.0 names in
      role.2 ∙ ap (root_slot source envelopes) number ∙ sym role_x.2
  unique (suc n) id other (Top k m) (Inner above p x j i) less at_e at_f same =
      let role = (good_at other (Inner above p x j i) at_f).role in
      absurd (not_root above (item_step source envelopes x i) (word_at source m.name) (above_some p x above (role.0, role.1, role.2, role.3)) (sym same))
  unique (suc n) id other (Inner above p x j i) (Top k m) less at_e at_f same =
      let role = (good_at id (Inner above p x j i) at_e).role in
      absurd (not_root above (item_step source envelopes x i) (word_at source m.name) (above_some p x above (role.0, role.1, role.2, role.3)) same)
  unique (suc n) id other (Inner above p m k i) (Inner above_f q x j y) less at_e at_f same =
      let role = (good_at id (Inner above p m k i) at_e).role in
      let role_f = (good_at other (Inner above_f q x j y) at_f).role in
      let ends =
      same_ends (names_of above) (names_of above_f) (item_name source i) (item_name source y)
      (sym (map-append (λ (s : Step). s.name) above (item_step source envelopes m i ∷ [])) ∙ same ∙ map-append (λ (s : Step). s.name) above_f (item_step source envelopes x y ∷ [])) in
      let below : p < n = omega (arith, role.5) in
      let parents : p ≡ q =
      unique n p q role.0 role_f.0 below role.1 role_f.1 (ap names_of role.3 ∙ ends.0 ∙ sym (ap names_of role_f.3)) in
      let entries : role.0 ≡ role_f.0 = cc (role.1, role_f.1, parents) in
      let modules : m ≡ x = cc (role.2, role_f.2, entries) in
      let there = module_there p role.0 m role.1 role.2 in
      let at_y : slice_get (items_in source m) j ≡ Some y = subst (λ (z : Module). slice_get (items_in source z) j ≡ Some y) (sym modules) role_f.4 in
      let index : k ≡ j = item_index source (items_in source m) k j i y (once_in source there.0 m once there.1) role.4 at_y ends.1 in
      role.5 ∙ ap (λ (z : ℕ). z + slot source envelopes m k) parents ∙ ap (λ (z : Module). q + slot source envelopes z k) modules ∙ ap (λ (z : ℕ). q + slot source envelopes x z) index ∙ sym role_f.5
