-- Rights and denials, from an object up its path; names, from the top modules down.
use Rattle.std.proofs.Common.{◌≡◌, ℕ, zero, suc, ◌<◌, Bool, true, false, ◌&&◌, List, [], ◌∷◌, ◌++◌, length, filter, get_or, slice_get, ◌==◌, Option, Some, None, refl, sym, ap, ◌∙◌, arith}
use Rattle.std.specs.Prelude.{IfSome, if◌then◌else◌, option_map, option_and_then}
use Rattle.std.specs.Option.{option_map_or}
use Rattle.std.specs.Str.{bytes_eq}
use Rattle.std.proofs.lemmas.Slice.Eq.{bytes_eq-Decides}
use Rattle.std.proofs.lemmas.Bool.{and_parts}
use Rattle.std.proofs.lemmas.List.Quantifiers.{position-Some}
use Rattle.std.proofs.Math.Bool.{and-true}
use Rattle.vp_text.specs.Texts.{part_and_rest, begun, parts}
use Rattle.vp_pragma.specs.declared.rights.Right.{Right}
use Rattle.vp_pragma.specs.Rights.{RightSet, both, either, everything, has, nothing}
use Rattle.vp_elab.specs.declared.object.Kind.TheVariants as kind
use Rattle.vp_elab.specs.declared.object.Object.{Object}
use Rattle.vp_elab.specs.declared.object.ObjectId.{ObjectId}
use Rattle.vp_elab.specs.Objects.{StandsFor}
use Rattle.vp_elab.specs.Tree.{Step, Node, Tree, declared_envelopes, envelopes_in, find_in, find_named, is_named, last_step, names_of, path_of, scope_names, step_rights_at, step_rights_in, step_rights_of, viewed}
use Rattle.vp_elab.proofs.LastSteps.{last_after}
use Rattle.vp_policy.specs.declared.denial.Denial.{Denial}
use Rattle.vp_policy.specs.declared.denial.Look.{Look}
use Rattle.vp_policy.specs.declared.denial.Look.TheVariants as look
use Rattle.vp_policy.specs.Users.{Member, granted}
use Rattle.vp_policy.specs.Filter.{is_listed_at, by_first, by_step, closed, denial, denial_at, from_found, is_closed, listed_in, look_in, look_of, opened, rights, rights_at, unlisted, walk}

-- ---- sets of rights

and_assoc : (a b c : Bool) → (a && b) && c ≡ a && (b && c)
and_assoc true b c = refl
and_assoc false b c = refl

and_swap : (a b c : Bool) → (a && b) && c ≡ a && (c && b)
and_swap true true true = refl
and_swap true true false = refl
and_swap true false true = refl
and_swap true false false = refl
and_swap false b c = refl

same_fields : (a b c d e f g h i j : Bool) → a ≡ f → b ≡ g → c ≡ h → d ≡ i → e ≡ j → ◌≡◌ {A = RightSet} (record { list = a; read = b; watch = c; put = d; race = e }) (record { list = f; read = g; watch = h; put = i; race = j })
same_fields a b c d e f g h i j p q r s t = cc

same_sets : (a b : RightSet) → a.list ≡ b.list → a.read ≡ b.read → a.watch ≡ b.watch → a.put ≡ b.put → a.race ≡ b.race → a ≡ b
same_sets a b l r w p c = same_fields a.list a.read a.watch a.put a.race b.list b.read b.watch b.put b.race l r w p c

pub both-everything : (a : RightSet) → both a everything ≡ a
both-everything a = same_sets _ _ (and-true a.list) (and-true a.read) (and-true a.watch) (and-true a.put) (and-true a.race)

both-assoc : (a b c : RightSet) → both (both a b) c ≡ both a (both b c)
both-assoc a b c = same_sets _ _ (and_assoc a.list b.list c.list) (and_assoc a.read b.read c.read) (and_assoc a.watch b.watch c.watch) (and_assoc a.put b.put c.put) (and_assoc a.race b.race c.race)

both-swap : (a b c : RightSet) → both (both a b) c ≡ both a (both c b)
both-swap a b c = same_sets _ _ (and_swap a.list b.list c.list) (and_swap a.read b.read c.read) (and_swap a.watch b.watch c.watch) (and_swap a.put b.put c.put) (and_swap a.race b.race c.race)

-- what viewports open of an object is what they open at the last step of its path
step_rights_is : (tree : Tree) (id : ℕ) (o : Object) (h : StandsFor tree.nodes id o) → step_rights_at tree id ≡ step_rights_of tree.viewports h.step
step_rights_is tree id o h =
    ap (λ (x : Option Node). option_map_or (step_rights_in tree.viewports) x (nothing, None)) h.there
    ∙ ap (λ (p : List Step). option_map_or (step_rights_of tree.viewports) (last_step p) (nothing, None)) h.path
    ∙ ap (λ (x : Option Step). option_map_or (step_rights_of tree.viewports) x (nothing, None)) (last_after (path_of tree.nodes (option_map (λ q. q.0) o.parent)) h.step)

-- what is opened at the step to an object
abbrev pub opened_at : Member → ℕ → RightSet × Option ℕ → RightSet
opened_at u envelope step_rights = either (granted u envelope) step_rights.0

opened_is : (tree : Tree) (u : Member) (id : ℕ) (o : Object) (h : StandsFor tree.nodes id o) → opened tree u h.step ≡ opened_at u o.envelope (step_rights_at tree id)
opened_is tree u id o h = ap (λ (e : ℕ). either (granted u e) (viewed tree.viewports h.step)) h.envelope ∙ ap (opened_at u o.envelope) (sym (step_rights_is tree id o h))

-- ---- the rights on a path, from its end

rights-append : (tree : Tree) (u : Member) (above : List Step) (s : Step) → rights tree u (above ++ s ∷ []) ≡ both (rights tree u above) (opened tree u s)
rights-append tree u [] s = both-everything (opened tree u s)
rights-append tree u (t ∷ above) s = ap (both (opened tree u t)) (rights-append tree u above s) ∙ sym (both-assoc (opened tree u t) (rights tree u above) (opened tree u s))

-- the rights on what a step leads to; all where there is no step
abbrev pub rights_left : Tree → Member → Option ObjectId → RightSet
rights_left tree u None = everything
rights_left tree u (Some id) = rights_at tree u id.0

-- before an object there is an object of each number
pub there_before : (nodes : List Node) (i j : ℕ) (n : Node) → slice_get nodes i ≡ Some n → j < i → (m : Node) × (slice_get nodes j ≡ Some m)
there_before [] i j n h l = absurd cc
there_before (x ∷ xs) zero j n h l = absurd (omega arith)
there_before (x ∷ xs) (suc i) zero n h l = (x, refl)
there_before (x ∷ xs) (suc i) (suc j) n h l = there_before xs i j n h (omega arith)

left_is : (tree : Tree) (u : Member) (i : ℕ) (n : Node) (p : Option ObjectId) → slice_get tree.nodes i ≡ Some n → IfSome p (λ q. q.0 < i) → rights_left tree u p ≡ rights tree u (path_of tree.nodes (option_map (λ q. q.0) p))
left_is tree u i n None h l = refl
left_is tree u i n (Some q) h l =
    let m = there_before tree.nodes i q.0 n h l in
    ap (λ (o : Option Node). option_map_or (λ (x : Node). rights tree u x.path) o nothing) m.1
    ∙ sym (ap (λ (o : Option Node). rights tree u (option_map_or (λ (x : Node). x.path) o [])) m.1)

-- the rights on an object are what is granted for its envelope, and the rights on its parent
pub rights_step : (tree : Tree) (u : Member) (id : ℕ) (o : Object) (r g : RightSet) → StandsFor tree.nodes id o → g ≡ opened_at u o.envelope (step_rights_at tree id) → both (both r g) (rights_left tree u o.parent) ≡ both r (rights_at tree u id)
rights_step tree u id o r g h is =
    let above : List Step = path_of tree.nodes (option_map (λ q. q.0) o.parent) in
    let own : opened tree u h.step ≡ g = opened_is tree u id o h ∙ sym is in
    let here : rights_at tree u id ≡ both (rights tree u above) g =
    ap (λ (x : Option Node). option_map_or (λ (x : Node). rights tree u x.path) x nothing) h.there ∙ ap (rights tree u) h.path
    ∙ rights-append tree u above h.step ∙ ap (both (rights tree u above)) own in
    ap (both (both r g)) (left_is tree u id h.node o.parent h.there h.following)
    ∙ both-swap r g (rights tree u above) ∙ ap (both r) (sym here)

-- the rights on an object, by those on the module in which it is declared
pub rights_own : (tree : Tree) (u : Member) (id : ℕ) (o : Object) (g : RightSet) → StandsFor tree.nodes id o → g ≡ opened_at u o.envelope (step_rights_at tree id) → both g (rights_left tree u o.parent) ≡ rights_at tree u id
rights_own tree u id o g h is = rights_step tree u id o everything g h is

-- ---- denials, from the end of a path

-- the first of two denials
abbrev pub first_denial : Option Denial → Option Denial → Option Denial
first_denial None other = other
first_denial (Some d) other = Some d

first-assoc : (a b c : Option Denial) → first_denial (first_denial a b) c ≡ first_denial a (first_denial b c)
first-assoc None b c = refl
first-assoc (Some d) b c = refl

denial_by : (b : Bool) (d : Denial) (rest last : Option Denial) → (if b then first_denial rest last else Some d) ≡ first_denial (if b then rest else Some d) last
denial_by true d rest last = refl
denial_by false d rest last = refl

denial-append : (tree : Tree) (u : Member) (r : Right) (above : List Step) (s : Step) → denial tree u r (above ++ s ∷ []) ≡ first_denial (denial tree u r above) (denial tree u r (s ∷ []))
denial-append tree u r [] s = refl
denial-append tree u r (t ∷ above) s =
    let own : Denial = record { by = by_step tree u t; envelope = t.envelope; right = r } in
    ap (λ (o : Option Denial). if has r (opened tree u t) then o else Some own) (denial-append tree u r above s)
    ∙ denial_by (has r (opened tree u t)) own (denial tree u r above) (denial tree u r (s ∷ []))

-- why a right on what a step leads to is denied
abbrev pub denial_left : Tree → Member → Right → Option ObjectId → Option Denial
denial_left tree u r None = None
denial_left tree u r (Some id) = denial_at tree u r id.0

-- a denial at the step to an object
abbrev pub denied_at : Member → Right → ℕ → RightSet × Option ℕ → Denial
denied_at u r envelope step_rights = record { by = by_first u envelope step_rights.1; envelope = envelope; right = r }

-- the denial at one step
abbrev pub denial_here : Member → Right → ℕ → RightSet × Option ℕ → Option Denial
denial_here u r envelope step_rights = if has r (opened_at u envelope step_rights) then None else Some (denied_at u r envelope step_rights)

here_is : (tree : Tree) (u : Member) (r : Right) (id : ℕ) (o : Object) (h : StandsFor tree.nodes id o) → denial tree u r (h.step ∷ []) ≡ denial_here u r o.envelope (step_rights_at tree id)
here_is tree u r id o h = ap (λ (e : ℕ). denial_here u r e (step_rights_of tree.viewports h.step)) h.envelope ∙ ap (denial_here u r o.envelope) (sym (step_rights_is tree id o h))

above_is : (tree : Tree) (u : Member) (r : Right) (p : Option ObjectId) → denial tree u r (path_of tree.nodes (option_map (λ q. q.0) p)) ≡ denial_left tree u r p
above_is tree u r None = refl
above_is tree u r (Some q) = refl

-- a right on an object is denied as it is on its parent, else at its own step
pub denial_step : (tree : Tree) (u : Member) (r : Right) (id : ℕ) (o : Object) (found : Option Denial) → StandsFor tree.nodes id o → first_denial (denial_left tree u r o.parent) (first_denial (denial_here u r o.envelope (step_rights_at tree id)) found) ≡ first_denial (denial_at tree u r id) found
denial_step tree u r id o found h =
    let above : List Step = path_of tree.nodes (option_map (λ q. q.0) o.parent) in
    let own : Option Denial = denial_here u r o.envelope (step_rights_at tree id) in
    let here : denial_at tree u r id ≡ first_denial (denial_left tree u r o.parent) own =
    ap (λ (x : Option Node). denial tree u r (option_map_or (λ (x : Node). x.path) x [])) h.there ∙ ap (denial tree u r) h.path
    ∙ denial-append tree u r above h.step ∙ ap (first_denial (denial tree u r above)) (here_is tree u r id o h)
    ∙ ap (λ (d : Option Denial). first_denial d own) (above_is tree u r o.parent) in
    sym (first-assoc (denial_left tree u r o.parent) own found) ∙ ap (λ (d : Option Denial). first_denial d found) (sym here)

-- ---- names

same_texts : (xs ys : List ℕ) → bytes_eq xs ys ≡ true → xs ≡ ys
same_texts xs ys h = (bytes_eq-Decides xs ys).0 h

named_names : (names : List (List ℕ)) (path : List Step) → is_named names path ≡ true → names_of path ≡ names
named_names [] [] h = refl
named_names [] (s ∷ path) h = absurd cc
named_names (n ∷ names) [] h = absurd cc
named_names (n ∷ names) (s ∷ path) h =
    let parts = and_parts (bytes_eq n s.name) (is_named names path) h in
    ap (λ (x : List ℕ). x ∷ names_of path) (sym (same_texts n s.name parts.0)) ∙ ap (λ (ns : List (List ℕ)). n ∷ ns) (named_names names path parts.1)

slice_get_some : (nodes : List Node) (i : ℕ) (d : Node) → i < length nodes → slice_get nodes i ≡ Some (get_or nodes i d)
slice_get_some [] i d l = absurd (omega arith)
slice_get_some (x ∷ xs) zero d l = refl
slice_get_some (x ∷ xs) (suc i) d l = slice_get_some xs i d (omega arith)

-- the names of the scope that is found are those that were asked
pub names_found : (nodes : List Node) (names : List (List ℕ)) (o : ℕ) → find_named nodes names ≡ Some o → scope_names nodes (Some o) ≡ Some names
names_found nodes names o h =
    let blank : Node = record { path = []; kind = kind.Reg; width = 0; lowest = None; line = 0; definition = None } in
    let at = position-Some (λ (n : Node). is_named names n.path) nodes o blank h in
    let there = slice_get_some nodes o blank at.0 in
    ap (option_map (λ (n : Node). names_of n.path)) there
    ∙ ap (λ (ns : List (List ℕ)). (let r : Option (List (List ℕ)) = Some ns in r)) (named_names names (get_or nodes o blank).path at.1)

-- a name in a scope of these names
pub find_is : (nodes : List Node) (scope : Option ℕ) (names : List (List ℕ)) (name : List ℕ) → scope_names nodes scope ≡ Some names → find_in nodes scope name ≡ find_named nodes (names ++ name ∷ [])
find_is nodes scope names name h = ap (option_and_then (λ ns. find_named nodes (ns ++ name ∷ []))) h

-- the closed list of a scope of these names
pub closed_is : (tree : Tree) (u : Member) (scope : Option ℕ) (names : List (List ℕ)) → scope_names tree.nodes scope ≡ Some names → filter (is_closed u) (declared_envelopes tree scope) ≡ closed tree u names
closed_is tree u scope names h = ap (λ (o : Option (List (List ℕ))). filter (is_closed u) (option_map_or (envelopes_in tree) o [])) h

listed_by : (b : Bool) (p o : ℕ) → Some o ≡ (if b then Some p else None) → ◌≡◌ {A = Option ℕ} (Some p) (Some o)
listed_by true p o h = sym h
listed_by false p o h = absurd cc

begun_part : (b : ℕ) (first : List ℕ) (others : List (List ℕ)) (ps : List (List ℕ)) → ps ≡ first ∷ others → (cut : Bool) → (f : List ℕ) × (os : List (List ℕ)) × ((if cut then [] ∷ ps else begun b ps) ≡ f ∷ os)
begun_part b first others ps e true = ([], ps, refl)
begun_part b first others ps e false = (b ∷ first, others, ap (begun b) e)

listed_found : (tree : Tree) (u : Member) (found : Option ℕ) (o : ℕ) → Some o ≡ listed_in tree u found → found ≡ Some o
listed_found tree u None o h = absurd cc
listed_found tree u (Some p) o h = listed_by (is_listed_at tree u p) p o h

-- the walk of a name after which others follow
parts_after : (text : List ℕ) → (first : List ℕ) × (others : List (List ℕ)) × (parts 46 text ≡ first ∷ others)
parts_after [] = ([], [], refl)
parts_after (b ∷ bytes) = begun_part b (parts_after bytes).0 (parts_after bytes).1 (parts 46 bytes) (parts_after bytes).2 (b == 46)

-- where a walk stands makes no difference to what follows a name
walk_here : (tree : Tree) (u : Member) (here there : Look) (scope : List (List ℕ)) (text : List ℕ) → walk tree u here scope (parts 46 text) ≡ walk tree u there scope (parts 46 text)
walk_here tree u here there scope text =
    let p = parts_after text in
    ap (walk tree u here scope) p.2 ∙ sym (ap (walk tree u there scope) p.2)

-- a name that is listed, with others after it
walk_next :
    (tree : Tree) (u : Member) (scope : Option ℕ) (names : List (List ℕ)) (text part further : List ℕ) (o : ℕ)
    → scope_names tree.nodes scope ≡ Some names → parts 46 text ≡ part_and_rest 46 part (Some further) → Some o ≡ listed_in tree u (find_in tree.nodes scope part)
    → walk tree u look.Absent (names ++ part ∷ []) (parts 46 further) ≡ walk tree u look.Absent names (parts 46 text)
walk_next tree u scope names text part further o named split found =
    let next : ℕ → Look = λ o. walk tree u (look.Found (record { 0 = o })) (names ++ part ∷ []) (parts 46 further) in
    walk_here tree u look.Absent (look.Found (record { 0 = o })) (names ++ part ∷ []) further
    ∙ ap (λ (x : Option ℕ). from_found x (unlisted u (closed tree u names)) next) (found ∙ ap (listed_in tree u) (find_is tree.nodes scope names part named))
    ∙ sym (ap (walk tree u look.Absent names) split)

-- the names of the object that a name leads to
scope_next :
    (tree : Tree) (u : Member) (scope : Option ℕ) (names : List (List ℕ)) (part : List ℕ) (o : ℕ)
    → scope_names tree.nodes scope ≡ Some names → Some o ≡ listed_in tree u (find_in tree.nodes scope part) → scope_names tree.nodes (Some o) ≡ Some (names ++ part ∷ [])
scope_next tree u scope names part o named found =
    names_found tree.nodes (names ++ part ∷ []) o
    (listed_found tree u (find_named tree.nodes (names ++ part ∷ [])) o (found ∙ ap (listed_in tree u) (find_is tree.nodes scope names part named)))

-- ---- names in a scope

next_by :
    (tree : Tree) (u : Member) (scope : Option ℕ) (above : Option (List (List ℕ))) (text part further : List ℕ) (o : ℕ)
    → scope_names tree.nodes scope ≡ above → parts 46 text ≡ part_and_rest 46 part (Some further) → Some o ≡ listed_in tree u (find_in tree.nodes scope part)
    → look_in tree u (Some o) (parts 46 further) ≡ look_in tree u scope (parts 46 text)
next_by tree u scope None text part further o named split found =
    let nothing_there : find_in tree.nodes scope part ≡ None =
    ap (option_and_then (λ (ns : List (List ℕ)). find_named tree.nodes (ns ++ part ∷ []))) named in
    let not_listed : listed_in tree u (find_in tree.nodes scope part) ≡ None = ap (listed_in tree u) nothing_there in
    absurd cc
next_by tree u scope (Some names) text part further o named split found =
    ap (λ (x : Option (List (List ℕ))). option_map_or (λ above. look_of tree u above (parts 46 further)) x look.Absent) (scope_next tree u scope names part o named found)
    ∙ walk_next tree u scope names text part further o named split found
    ∙ sym (ap (λ (x : Option (List (List ℕ))). option_map_or (λ above. look_of tree u above (parts 46 text)) x look.Absent) named)

-- a name that is listed, with others after it
pub look_next :
    (tree : Tree) (u : Member) (scope : Option ℕ) (text part further : List ℕ) (o : ℕ)
    → parts 46 text ≡ part_and_rest 46 part (Some further) → Some o ≡ listed_in tree u (find_in tree.nodes scope part)
    → look_in tree u (Some o) (parts 46 further) ≡ look_in tree u scope (parts 46 text)
look_next tree u scope text part further o split found =
    next_by tree u scope (scope_names tree.nodes scope) text part further o refl split found

-- ---- one turn of each walk

-- a step at which the right is lacking
pub missing_step : (tree : Tree) (u : Member) (r : Right) (id : ℕ) (o : Object) (found : Option Denial) (d : Denial) → StandsFor tree.nodes id o → has r (opened_at u o.envelope (step_rights_at tree id)) ≡ false → d ≡ denied_at u r o.envelope (step_rights_at tree id) → first_denial (denial_left tree u r o.parent) (Some d) ≡ first_denial (denial_at tree u r id) found
missing_step tree u r id o found d h lacks is =
    let own : Denial = denied_at u r o.envelope (step_rights_at tree id) in
    ap (λ (x : Denial). first_denial (denial_left tree u r o.parent) (Some x)) is
    ∙ sym (ap (λ (b : Bool). first_denial (denial_left tree u r o.parent) (first_denial (if b then None else Some own) found)) lacks)
    ∙ denial_step tree u r id o found h

-- a step at which it is his
pub having_step : (tree : Tree) (u : Member) (r : Right) (id : ℕ) (o : Object) (found : Option Denial) → StandsFor tree.nodes id o → has r (opened_at u o.envelope (step_rights_at tree id)) ≡ true → first_denial (denial_left tree u r o.parent) found ≡ first_denial (denial_at tree u r id) found
having_step tree u r id o found h his =
    let own : Denial = denied_at u r o.envelope (step_rights_at tree id) in
    sym (ap (λ (b : Bool). first_denial (denial_left tree u r o.parent) (first_denial (if b then None else Some own) found)) his)
    ∙ denial_step tree u r id o found h
