-- What viewports open, one after the other.
use Rattle.std.proofs.Common.{◌≡◌, ℕ, suc, ◌+◌, ◌<◌, Bool, true, false, cond, ◌&&◌, ◌==◌, List, [], ◌∷◌, length, drop, map, get_or, slice_get, Option, Some, None, refl, sym, ap, ◌∙◌, arith}
use Rattle.std.specs.Prelude.{option_map}
use Rattle.std.specs.List.{position_from}
use Rattle.std.specs.Option.{option_map_or, option_or}
use Rattle.std.specs.Str.{bytes_eq}
use Rattle.std.proofs.lemmas.Option.{slice_get-map}
use Rattle.std.proofs.Math.Bool.{or_assoc}
use Rattle.std.proofs.Math.Seq.{drop-cons}
use Rattle.std.proofs.Math.Bool.{or-false, and-false}
use Rattle.vp_pragma.specs.declared.viewport.Viewport as declared
use Rattle.vp_pragma.specs.Envelopes.{Viewport}
use Rattle.vp_pragma.specs.Reading.{viewport_of}
use Rattle.vp_pragma.specs.Rights.{RightSet, either, nothing, set_of}
use Rattle.vp_elab.specs.Tree.{Node, Step, fits_module, matches, step_rights_in, step_rights_of, step_named, viewed}
use Rattle.vp_elab.specs.declared.step_rights.StepRights.{StepRights}
use Rattle.vp_elab.specs.Built.{shown}
use Rattle.vp_elab.specs.laws.Positions.{position_is}

-- ---- sets of rights

pub either-assoc : (a b c : RightSet) → either (either a b) c ≡ either a (either b c)
either-assoc a b c =
    rw (or_assoc a.list b.list c.list, or_assoc a.read b.read c.read, or_assoc a.watch b.watch c.watch, or_assoc a.put b.put c.put, or_assoc a.race b.race c.race) refl

pub either-nothing : (a : RightSet) → either a nothing ≡ a
either-nothing a = rw (or-false a.list, or-false a.read, or-false a.watch, or-false a.put, or-false a.race) refl

-- ---- one viewport more

-- what these viewports open beside others
abbrev pub beside : RightSet → List declared.Viewport → Step → RightSet
beside before vs s = either before (viewed (map viewport_of vs) s)

rights_by : (b : Bool) (before own rest : RightSet) → either before (cond b (either own rest) rest) ≡ either (cond b (either before own) before) rest
rights_by true before own rest = sym (either-assoc before own rest)
rights_by false before own rest = refl

-- the tail of a list from one of its items on
pub tail_at : {A : Type 0} (xs : List A) (i : ℕ) (x : A) → i < length xs → x ≡ get_or xs i x → drop i xs ≡ x ∷ drop (i + 1) xs
tail_at xs i x lt is =
    let next : suc i ≡ i + 1 = omega arith in
    drop-cons xs i x lt ∙ ap (λ y. y ∷ drop (suc i) xs) (sym is) ∙ ap (λ n. x ∷ drop n xs) next

-- what is opened after one viewport, which matches or not
pub rights_next :
    (s : Step) (vs : List declared.Viewport) (i : ℕ) (v : declared.Viewport) (b : Bool) (before : RightSet)
    → i < length vs → v ≡ get_or vs i v → b ≡ matches s (viewport_of v)
    → beside (cond b (either before (set_of v.rights)) before) (drop (i + 1) vs) s ≡ beside before (drop i vs) s
rights_next s vs i v b before lt is matched =
    let rest : RightSet = viewed (map viewport_of (drop (i + 1) vs)) s in
    sym (rights_by b before (set_of v.rights) rest)
    ∙ ap (λ t. either before (cond t (either (set_of v.rights) rest) rest)) matched
    ∙ ap (λ ws. beside before ws s) (sym (tail_at vs i v lt is))

-- the first viewport after others
abbrev pub first_beside : Option ℕ → ℕ → List declared.Viewport → Step → Option ℕ
first_beside before n vs s = option_or before (position_from (matches s) n (map viewport_of vs))

first_by : (b : Bool) (before : Option ℕ) (n : ℕ) (rest : Option ℕ) → option_or before (cond b (Some n) rest) ≡ option_or (cond b (option_or before (Some n)) before) rest
first_by true None n rest = refl
first_by true (Some k) n rest = refl
first_by false before n rest = refl

-- the first after one viewport, which matches or not
pub first_next :
    (s : Step) (vs : List declared.Viewport) (i : ℕ) (v : declared.Viewport) (b : Bool) (before : Option ℕ)
    → i < length vs → v ≡ get_or vs i v → b ≡ matches s (viewport_of v)
    → first_beside (cond b (option_or before (Some i)) before) (i + 1) (drop (i + 1) vs) s ≡ first_beside before i (drop i vs) s
first_next s vs i v b before lt is matched =
    let rest : Option ℕ = position_from (matches s) (i + 1) (map viewport_of (drop (i + 1) vs)) in
    sym (first_by b before i rest)
    ∙ ap (λ t. option_or before (cond t (Some i) rest)) matched
    ∙ ap (λ ws. first_beside before i ws s) (sym (tail_at vs i v lt is))

-- after the last viewport
pub first_none : (before : Option ℕ) → option_or before None ≡ before
first_none None = refl
first_none (Some n) = refl

-- two answers that are the same
pub pair_same : {A B : Type 0} {a b : A} {c d : B} → a ≡ b → c ≡ d → (let p : A × B = (a, c) in p) ≡ (b, d)
pair_same {A} {B} {a} {b} {c} {d} h k = ap (λ x. (let p : A × B = (x, c) in p)) h ∙ ap (λ y. (let p : A × B = (b, y) in p)) k

-- ---- steps that viewports see alike

-- of two steps that agree but for their places, these viewports open the same
viewed_same : (vs : List Viewport) (name : List ℕ) (p q e : ℕ) (m : Option (List ℕ)) → viewed vs (record { name = name; place = p; envelope = e; in_module = m }) ≡ viewed vs (record { name = name; place = q; envelope = e; in_module = m })
viewed_same [] name p q e m = refl
viewed_same (v ∷ vs) name p q e m =
    ap (λ r. cond (matches (record { name = name; place = q; envelope = e; in_module = m }) v) (either v.rights r) r) (viewed_same vs name p q e m)

-- and the first that matches is the same
first_same : (vs : List Viewport) (n : ℕ) (name : List ℕ) (p q e : ℕ) (m : Option (List ℕ)) → position_from (matches (record { name = name; place = p; envelope = e; in_module = m })) n vs ≡ position_from (matches (record { name = name; place = q; envelope = e; in_module = m })) n vs
first_same [] n name p q e m = refl
first_same (v ∷ vs) n name p q e m =
    ap (λ o. cond (matches (record { name = name; place = q; envelope = e; in_module = m }) v) (Some n) o) (first_same vs (n + 1) name p q e m)

-- what is open at a step of a name is what is open at the step to an item of this name
pub step_rights_named : (vs : List Viewport) (name : List ℕ) (p e : ℕ) (m : List ℕ) → step_rights_of vs (step_named e m name) ≡ step_rights_of vs (record { name = name; place = p; envelope = e; in_module = Some m })
step_rights_named vs name p e m =
    pair_same (viewed_same vs name 0 p e (Some m))
    (position_is (matches (step_named e m name)) vs ∙ first_same vs 0 name 0 p e (Some m) ∙ sym (position_is (matches (record { name = name; place = p; envelope = e; in_module = Some m })) vs))

-- ---- modules

-- a viewport is on no top module
pub none_at_root : (name : List ℕ) (place envelope : ℕ) (v : Viewport) → matches (record { name = name; place = place; envelope = envelope; in_module = None }) v ≡ false
none_at_root name place envelope v =
    ap (λ b. (b && bytes_eq v.item name) && fits_module v.in_module None) (and-false (v.envelope == envelope))

rights_at_root : (name : List ℕ) (place envelope : ℕ) (vs : List Viewport) → viewed vs (record { name = name; place = place; envelope = envelope; in_module = None }) ≡ nothing
rights_at_root name place envelope [] = refl
rights_at_root name place envelope (v ∷ vs) =
    let r : RightSet = viewed vs (record { name = name; place = place; envelope = envelope; in_module = None }) in
    ap (λ b. cond b (either v.rights r) r) (none_at_root name place envelope v) ∙ rights_at_root name place envelope vs

first_at_root : (name : List ℕ) (place envelope n : ℕ) (vs : List Viewport) → position_from (matches (record { name = name; place = place; envelope = envelope; in_module = None })) n vs ≡ None
first_at_root name place envelope n [] = refl
first_at_root name place envelope n (v ∷ vs) =
    ap (λ b. cond b (Some n) (position_from (matches (record { name = name; place = place; envelope = envelope; in_module = None })) (n + 1) vs)) (none_at_root name place envelope v)
    ∙ first_at_root name place envelope (n + 1) vs

-- viewports open nothing of it
pub nothing_at_root : (name : List ℕ) (place envelope : ℕ) (vs : List Viewport) → step_rights_of vs (record { name = name; place = place; envelope = envelope; in_module = None }) ≡ (nothing, None)
nothing_at_root name place envelope vs =
    pair_same (rights_at_root name place envelope vs)
    (position_is (matches (record { name = name; place = place; envelope = envelope; in_module = None })) vs ∙ first_at_root name place envelope 0 vs)

-- a function of what another gives
pub map_map : {A B C : Type 0} (g : B → C) (f : A → B) (xs : List A) → map g (map f xs) ≡ map (λ x. g (f x)) xs
map_map g f [] = refl
map_map g f (x ∷ xs) = ap (λ ys. g (f x) ∷ ys) (map_map g f xs)

-- the sight of a number is that of the node of the number
pub step_rights_found : (vs : List Viewport) (nodes : List Node) (all_step_rights : List StepRights) (id : ℕ) → map shown all_step_rights ≡ map (step_rights_in vs) nodes → option_map_or shown (slice_get all_step_rights id) (nothing, None) ≡ option_map_or (step_rights_in vs) (slice_get nodes id) (nothing, None)
step_rights_found vs nodes all_step_rights id e =
    option_map_or-map shown (slice_get all_step_rights id) ∙ ap (λ o. option_map_or (λ (x : RightSet × Option ℕ). x) o (nothing, None)) (sym (slice_get-map shown all_step_rights id) ∙ ap (λ xs. slice_get xs id) e ∙ slice_get-map (step_rights_in vs) nodes id)
    ∙ sym (option_map_or-map (step_rights_in vs) (slice_get nodes id))
  where
    option_map_or-map : {A : Type 0} (f : A → RightSet × Option ℕ) (o : Option A) → option_map_or f o (nothing, None) ≡ option_map_or (λ (x : RightSet × Option ℕ). x) (option_map f o) (nothing, None)
    option_map_or-map f None = refl
    option_map_or-map f (Some x) = refl
