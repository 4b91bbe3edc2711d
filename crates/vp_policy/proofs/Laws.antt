-- What follows from the filter alone.
use Rattle.std.proofs.Common.{◌≡◌, ℕ, Bool, true, false, ◌&&◌, List, [], ◌∷◌, ◌++◌, Option, Some, None, refl, sym, ap, ◌∙◌}
use Rattle.std.specs.Prelude.{if◌then◌else◌, is_some, not, option_and_then}
use Rattle.std.specs.Option.{option_map_or}
use Rattle.vp_pragma.specs.declared.rights.Right.{Right}
use Rattle.vp_pragma.specs.declared.rights.Right.TheVariants as right
use Rattle.vp_pragma.specs.Rights.{RightSet, has, both}
use Rattle.vp_elab.specs.Tree.{Step, Tree, scope_names}
use Rattle.vp_policy.specs.declared.denial.Denial.{Denial}
use Rattle.vp_policy.specs.declared.denial.Look.{Look}
use Rattle.vp_policy.specs.declared.denial.Look.TheVariants as look
use Rattle.vp_policy.specs.Users.{Member}
use Rattle.vp_policy.specs.Filter.{IsAnsweredAlike, by_step, denial, opened, rights, closed, unlisted, find_listed, from_found, look_in, look_of, stop_of, walk}

stopped_by :
    (tree : Tree) (u : Member) (scope stop : List (List ℕ)) (found : Option ℕ) (deeper : Option (List (List ℕ))) (next : ℕ → Look)
    → (if is_some found then deeper else Some scope) ≡ Some stop → ((o : ℕ) → deeper ≡ Some stop → next o ≡ unlisted u (closed tree u stop))
    → from_found found (unlisted u (closed tree u scope)) next ≡ unlisted u (closed tree u stop)
stopped_by tree u scope stop None deeper next h further =
    let same : scope ≡ stop = cc in
    ap (λ (s : List (List ℕ)). unlisted u (closed tree u s)) same
stopped_by tree u scope stop (Some o) deeper next h further = further o h

-- a walk that stops at a scope is answered by the scope's closed list alone
stopped :
    (tree : Tree) (u : Member) (here : Look) (scope stop names : List (List ℕ))
    → stop_of tree u scope names ≡ Some stop → walk tree u here scope names ≡ unlisted u (closed tree u stop)
stopped tree u here scope stop [] h = absurd cc
stopped tree u here scope stop (n ∷ names) h =
    let next : ℕ → Look = λ o. walk tree u (look.Found (record { 0 = o })) (scope ++ n ∷ []) names in
    stopped_by tree u scope stop (find_listed tree u (scope ++ n ∷ [])) (stop_of tree u (scope ++ n ∷ []) names) next h
    (λ o k. stopped tree u (look.Found (record { 0 = o })) (scope ++ n ∷ []) stop names k)

stopped_in :
    (tree : Tree) (u : Member) (above : Option (List (List ℕ))) (names stop : List (List ℕ))
    → option_and_then (λ a. stop_of tree u a names) above ≡ Some stop
    → option_map_or (λ a. look_of tree u a names) above look.Absent ≡ unlisted u (closed tree u stop)
stopped_in tree u None names stop h = absurd cc
stopped_in tree u (Some a) names stop h = stopped tree u look.Absent a stop names h

-- look-ups that stop at one scope get one answer
pub looks_alike : (tree : Tree) (u : Member) (scope : Option ℕ) (names : List (List ℕ)) (answer : Look) → answer ≡ look_in tree u scope names → IsAnsweredAlike tree u scope names answer
looks_alike tree u scope names answer is stop here other others there =
    stopped_in tree u (scope_names tree.nodes other) others stop there
    ∙ sym (stopped_in tree u (scope_names tree.nodes scope) names stop here) ∙ sym is

-- a right that is in both sets is in the first
has-both : (r : Right) (a b : RightSet) → has r (both a b) ≡ has r a && has r b
has-both right.List a b = refl
has-both right.Read a b = refl
has-both right.Watch a b = refl
has-both right.Put a b = refl
has-both right.Race a b = refl

first_true : (a b : Bool) → a && b ≡ true → a ≡ true
first_true true b h = refl
first_true false b h = h

second_true : (a b : Bool) → a && b ≡ true → b ≡ true
second_true true b h = h
second_true false b h = cc

both_true : (a b : Bool) → a ≡ true → b ≡ true → a && b ≡ true
both_true true b h k = k
both_true false b h k = h

-- a right on an object is a right on each object above it; so an object is listed only if each step above it is
pub right_above :
    (tree : Tree) (u : Member) (r : Right) (above path : List Step)
    → has r (rights tree u (above ++ path)) ≡ true → has r (rights tree u above) ≡ true
right_above tree u right.List [] path h = refl
right_above tree u right.Read [] path h = refl
right_above tree u right.Watch [] path h = refl
right_above tree u right.Put [] path h = refl
right_above tree u right.Race [] path h = refl
right_above tree u r (s ∷ above) path h =
    let step = opened tree u s in
    let here = rights tree u (above ++ path) in
    let joined : has r step && has r here ≡ true = sym (has-both r step here) ∙ h in
    let first = first_true (has r step) (has r here) joined in
    let rest = right_above tree u r above path (second_true (has r step) (has r here) joined) in
    has-both r step (rights tree u above) ∙ both_true (has r step) (has r (rights tree u above)) first rest

denied_by : (b c : Bool) (d : Denial) (rest : Option Denial) → is_some rest ≡ not c → is_some (if b then rest else Some d) ≡ not (b && c)
denied_by true c d rest h = h
denied_by false c d rest h = refl

-- a right is denied at a step of a path where it is not his at its end
pub denied_path : (tree : Tree) (u : Member) (r : Right) (path : List Step) → is_some (denial tree u r path) ≡ not (has r (rights tree u path))
denied_path tree u right.List [] = refl
denied_path tree u right.Read [] = refl
denied_path tree u right.Watch [] = refl
denied_path tree u right.Put [] = refl
denied_path tree u right.Race [] = refl
denied_path tree u r (s ∷ path) =
    let own : Denial = record { by = by_step tree u s; envelope = s.envelope; right = r } in
    denied_by (has r (opened tree u s)) (has r (rights tree u path)) own (denial tree u r path) (denied_path tree u r path)
    ∙ ap not (sym (has-both r (opened tree u s) (rights tree u path)))

-- what is not denied has no denial
pub none_denied : (o : Option Denial) → is_some o ≡ false → o ≡ None
none_denied None h = refl
none_denied (Some d) h = absurd cc
