-- A denial in a view is that of the design.
use Rattle.std.proofs.Common.{◌≡◌, ℕ, zero, suc, ◌+◌, ◌<◌, ◌≤◌, Bool, false, true, List, [], ◌∷◌, ◌++◌, length, Option, Some, None, refl, ap, sym, subst, ◌∙◌, arith}
use Rattle.vp_policy.specs.declared.denial.ShownBarrier.TheVariants as barrier
use Rattle.vp_policy.specs.declared.denial.DeniedBy.TheVariants as by
use Rattle.vp_policy.specs.declared.grant.GrantedBy.TheVariants as granted
use Rattle.std.specs.Prelude.{cond, slice_index_or, ◌==◌, ◌&&◌, ◌||◌, filter, if◌then◌else◌, map, option_map, slice_get}
use Rattle.std.specs.List.{All, position_from}
use Rattle.std.proofs.lemmas.Iterator.Adapters.{position_from-zero}
use Rattle.std.proofs.lemmas.Option.{slice_get-map}
use Rattle.std.specs.Option.{option_map_or}
use Rattle.vp_pragma.specs.declared.rights.Right.{Right}
use Rattle.vp_pragma.specs.declared.rights.Right.TheVariants as right
use Rattle.vp_pragma.specs.Envelopes.{Viewport, object_of}
use Rattle.vp_pragma.specs.Rights.{RightSet, both, everything, has}
use Rattle.vp_elab.specs.Built.{Elaborated}
use Rattle.vp_elab.specs.Tree.{Node, Step, Tree, author_in, first_viewport, matches}
use Rattle.vp_policy.specs.Filter.{barrier_of, by_first, by_grant, by_step, denial, denial_at, opened, rights, viewport_object, words_of}
use Rattle.vp_policy.specs.Users.{Member, all_name_author, entry_of, has_entry, has_grant, is_entry}
use Rattle.vp_policy.specs.View.{seen_envelopes, seen_node, seen_path, seen_step, seen_viewport, known_view, marked}
use Rattle.vp_replay.specs.Known.{known_index}
use Rattle.vp_replay.specs.laws.Known.{get_marked}
use Rattle.vp_replay.specs.Seen.{barrier_at, first_object, author_seen, barrier_by_grant, denial_seen, denied_seen, words_at}

-- ---- rights

-- a right is in both of two sets
pub has_both : (r : Right) (a b : RightSet) → has r (both a b) ≡ (has r a && has r b)
has_both right.List a b = refl
has_both right.Read a b = refl
has_both right.Watch a b = refl
has_both right.Put a b = refl
has_both right.Race a b = refl

-- and all are in all
pub has_all : (r : Right) → has r everything ≡ true
has_all right.List = refl
has_all right.Read = refl
has_all right.Watch = refl
has_all right.Put = refl
has_all right.Race = refl

-- a right on what one step more leads to, where it is the user's before that step
rights_more : (tree : Tree) (u : Member) (r : Right) (above : List Step) (s : Step) → has r (rights tree u above) ≡ true
    → has r (rights tree u (above ++ s ∷ [])) ≡ has r (opened tree u s)
rights_more tree u r [] s h = has_both r (opened tree u s) everything ∙ ap (λ b. has r (opened tree u s) && b) (has_all r) ∙ and_true (has r (opened tree u s)) where
  and_true : (b : Bool) → (b && true) ≡ b
  and_true true = refl
  and_true false = refl
rights_more tree u r (t ∷ above) s h =
    let parts = split (has r (opened tree u t)) (has r (rights tree u above)) (sym (has_both r (opened tree u t) (rights tree u above)) ∙ h) in
    has_both r (opened tree u t) (rights tree u (above ++ s ∷ []))
    ∙ ap (λ (b : Bool). b && has r (rights tree u (above ++ s ∷ []))) parts.0
    ∙ rights_more tree u r above s parts.1
  where
    split : (a b : Bool) → (a && b) ≡ true → (a ≡ true) × (b ≡ true)
    split true b e = (refl, e)
    split false b e = absurd (cc)

-- ---- words

-- the author of an envelope
author_same : (u : Member) (n : ℕ) (authors : List (List ℕ)) (k : ℕ) → option_map_or (λ e. e.0) (slice_get (seen_envelopes u n authors) k) [] ≡ slice_index_or authors k []
author_same u n [] k = refl
author_same u n (a ∷ authors) zero = refl
author_same u n (a ∷ authors) (suc k) = author_same u (n + 1) authors k

-- so of an envelope of the design
pub author_is : (design : Elaborated) (u : Member) (known : List Bool) (envelope : ℕ) → author_seen (known_view design u known) envelope ≡ author_in design.tree.authors envelope
author_is design u known zero = refl
author_is design u known (suc n) = author_same u 1 design.tree.authors n

-- what a user has for an envelope is an entry where he has one
entry_is : (u : Member) (envelope : ℕ) → is_entry (entry_of u envelope) ≡ has_entry u envelope
entry_is u envelope = by_tests (has_grant u.grants envelope) (all_name_author u.grants envelope) where
  by_tests : (there by_author : Bool)
      → is_entry (if there then (if by_author then granted.Author else granted.Number) else granted.Nothing) ≡ there
  by_tests true true = refl
  by_tests true false = refl
  by_tests false by_author = refl

-- whether the user has an entry for one
entry_same : (u : Member) (n : ℕ) (authors : List (List ℕ)) (k : ℕ) → k < length authors
    → option_map_or (λ e. is_entry e.1) (slice_get (seen_envelopes u n authors) k) false ≡ has_entry u (n + k)
entry_same u n [] k l = absurd (omega arith)
entry_same u n (a ∷ authors) zero l = let e : n ≡ n + zero = omega arith in entry_is u n ∙ ap (has_entry u) e
entry_same u n (a ∷ authors) (suc k) l = let e : n + 1 + k ≡ n + suc k = omega arith in entry_same u (n + 1) authors k (omega arith) ∙ ap (has_entry u) e

-- what keeps a user out, by whether his grant does
barrier_test : (b : Bool) → (if b then barrier.Grant else barrier.Envelope) ≡ barrier_of (if b then by.Grant else by.Envelope)
barrier_test true = refl
barrier_test false = refl

-- so his grant keeps him out, or else the envelope
pub grant_is : (design : Elaborated) (u : Member) (known : List Bool) (envelope : ℕ) → envelope ≤ length design.tree.authors
    → barrier_by_grant (known_view design u known) envelope ≡ barrier_of (by_grant u envelope)
grant_is design u known zero l = refl
grant_is design u known (suc n) l =
    let e : 1 + n ≡ suc n = omega arith in
    ap (λ b. if (suc n == 0) || b then barrier.Grant else barrier.Envelope) (entry_same u 1 design.tree.authors n (omega arith) ∙ ap (has_entry u) e)
    ∙ barrier_test ((suc n == 0) || has_entry u (suc n))

-- the first that passes a test, by its index among others: none passes, or it stands there and is the first of those that pass
abbrev IsFirst : {X : Type 0} → (at : ℕ → Option X) → (index : Option ℕ) → (passing : List X) → Type 0
IsFirst at None passing = passing ≡ []
IsFirst {X} at (Some n) passing = (x : X) × (rest : List X) × (at n ≡ Some x) × (passing ≡ x ∷ rest)

-- so it is of each list
first_by : {X : Type 0} (p : X → Bool) (xs : List X) (i : ℕ) (at : ℕ → Option X) → ((k : ℕ) → at (i + k) ≡ slice_get xs k) → IsFirst at (position_from p i xs) (filter p xs)
first_by p [] i at h = refl
first_by p (x ∷ xs) i at h =
    by_test (p x) (let e : i + 0 ≡ i = omega arith in ap at (sym e) ∙ h 0)
    (first_by p xs (i + 1) at (λ k. let e : i + 1 + k ≡ i + suc k = omega arith in ap at e ∙ h (suc k)))
  where
    by_test : (b : Bool) → at i ≡ Some x → IsFirst at (position_from p (i + 1) xs) (filter p xs)
        → IsFirst at (cond b (Some i) (position_from p (i + 1) xs)) (if b then x ∷ filter p xs else filter p xs)
    by_test true here rest = (x, filter p xs, here, refl)
    by_test false here rest = rest

-- the first of the viewports that match a step
first_viewport_at : (viewports : List Viewport) (s : Step) → IsFirst (slice_get viewports) (first_viewport viewports s) (filter (matches s) viewports)
first_viewport_at viewports s =
    subst (λ (n : Option ℕ). IsFirst (slice_get viewports) n (filter (matches s) viewports)) (sym (position_from-zero (matches s) viewports))
    (first_by (matches s) viewports 0 (slice_get viewports) (λ k. let e : 0 + k ≡ k = omega arith in ap (slice_get viewports) e))

-- what keeps a user out at a step, in words
barrier_same : (design : Elaborated) (u : Member) (known : List Bool) (envelope : ℕ) → envelope ≤ length design.tree.authors → (first : Option ℕ) (passing : List Viewport)
    → IsFirst (slice_get design.tree.viewports) first passing
    → barrier_at (known_view design u known) envelope (map seen_viewport passing) ≡ barrier_of (by_first u envelope first)
barrier_same design u known envelope l None passing e =
    ap (λ vs. barrier_at (known_view design u known) envelope (map seen_viewport vs)) e ∙ grant_is design u known envelope l
barrier_same design u known envelope l (Some n) passing (x, rest, there, e) = ap (λ vs. barrier_at (known_view design u known) envelope (map seen_viewport vs)) e

-- and the object of the viewport that does
object_same : (viewports : List Viewport) (u : Member) (envelope : ℕ) (first : Option ℕ) (passing : List Viewport) → IsFirst (slice_get viewports) first passing
    → first_object (map seen_viewport passing) ≡ viewport_object viewports (by_first u envelope first)
object_same viewports u envelope None passing e = ap (λ vs. first_object (map seen_viewport vs)) e ∙ sym (by_test ((envelope == 0) || has_entry u envelope)) where
  by_test : (b : Bool) → viewport_object viewports (if b then by.Grant else by.Envelope) ≡ None
  by_test true = refl
  by_test false = refl
object_same viewports u envelope (Some n) passing (x, rest, there, e) =
    ap (λ vs. first_object (map seen_viewport vs)) e ∙ sym (ap (option_map object_of) there)

-- a denial at a step, in words
words_same : (design : Elaborated) (u : Member) (known : List Bool) (r : Right) (above : List Step) (s : Step) → s.envelope ≤ length design.tree.authors
    → words_at (known_view design u known) r (seen_step design.tree u above s)
    ≡ words_of design.tree (record { by = by_step design.tree u s; envelope = s.envelope; right = r })
words_same design u known r above s l =
    let first = first_viewport_at design.tree.viewports s in
    let by = barrier_same design u known s.envelope l (first_viewport design.tree.viewports s) (filter (matches s) design.tree.viewports) first in
    let author = author_is design u known s.envelope in
    let object = object_same design.tree.viewports u s.envelope (first_viewport design.tree.viewports s) (filter (matches s) design.tree.viewports) first in
    cc

-- ---- paths

-- each step stands in the open text or in an envelope of the design
abbrev pub AreInEnvelopes : Tree → List Step → Type 0
AreInEnvelopes tree path = All (λ s. s.envelope ≤ length tree.authors) path

-- a denial of a path, in words, after steps at which the right is opened
pub denial_after : (design : Elaborated) (u : Member) (known : List Bool) (r : Right) (above path : List Step) → has r (rights design.tree u above) ≡ true
    → AreInEnvelopes design.tree path
    → denial_seen (known_view design u known) r (seen_path design.tree u above path) ≡ option_map (words_of design.tree) (denial design.tree u r path)
denial_after design u known r above [] h all = refl
denial_after design u known r above (s ∷ path) h all =
    by_test (has r (opened design.tree u s)) (rights_more design.tree u r above s h)
    (λ is. denial_after design u known r (above ++ s ∷ []) path is (λ k d l. all (suc k) d (omega arith)))
  where
    by_test : (b : Bool) → has r (rights design.tree u (above ++ s ∷ [])) ≡ b
        → (has r (rights design.tree u (above ++ s ∷ [])) ≡ true → denial_seen (known_view design u known) r (seen_path design.tree u (above ++ s ∷ []) path) ≡ option_map (words_of design.tree) (denial design.tree u r path))
        → (if has r (rights design.tree u (above ++ s ∷ [])) then denial_seen (known_view design u known) r (seen_path design.tree u (above ++ s ∷ []) path)
        else Some (words_at (known_view design u known) r (seen_step design.tree u above s)))
        ≡ option_map (words_of design.tree) (if b then denial design.tree u r path else Some (record { by = by_step design.tree u s; envelope = s.envelope; right = r }))
    by_test true is rest =
        ap (λ (c : Bool). if c then denial_seen (known_view design u known) r (seen_path design.tree u (above ++ s ∷ []) path)
        else Some (words_at (known_view design u known) r (seen_step design.tree u above s))) is ∙ rest is
    by_test false is rest =
        ap (λ (c : Bool). if c then denial_seen (known_view design u known) r (seen_path design.tree u (above ++ s ∷ []) path)
        else Some (words_at (known_view design u known) r (seen_step design.tree u above s))) is
        ∙ ap Some (words_same design u known r above s (all 0 s (omega arith)))

-- ---- objects

-- each step to each object stands in the open text or in an envelope of the design
abbrev pub AllInEnvelopes : Tree → Type 0
AllInEnvelopes tree = (o : ℕ) (node : Node) → slice_get tree.nodes o ≡ Some node → AreInEnvelopes tree node.path

-- the object of a number in the view of what is known
pub node_seen : (design : Elaborated) (u : Member) (known : List Bool) (k : ℕ) → length known ≡ length design.tree.nodes
    → slice_get (known_view design u known).nodes k ≡ option_map (seen_node design u) (slice_get design.tree.nodes (known_index known k))
node_seen design u known k e = slice_get-map (seen_node design u) (marked known design.tree.nodes) k ∙ ap (option_map (seen_node design u)) (get_marked known design.tree.nodes k e)

-- why a right on it is denied
pub denied_seen_at : (design : Elaborated) (u : Member) (known : List Bool) → length known ≡ length design.tree.nodes → AllInEnvelopes design.tree → (r : Right) (k : ℕ)
    → denied_seen (known_view design u known) r k ≡ option_map (words_of design.tree) (denial_at design.tree u r (known_index known k))
denied_seen_at design u known e all r k =
    ap (λ node. denial_seen (known_view design u known) r (option_map_or (λ n. n.path) node [])) (node_seen design u known k e)
    ∙ by_node (slice_get design.tree.nodes (known_index known k)) refl
  where
    by_node : (node : Option Node) → slice_get design.tree.nodes (known_index known k) ≡ node
        → denial_seen (known_view design u known) r (option_map_or (λ n. n.path) (option_map (seen_node design u) node) [])
        ≡ option_map (words_of design.tree) (denial design.tree u r (option_map_or (λ n. n.path) node []))
    by_node None is = refl
    by_node (Some node) is = denial_after design u known r [] node.path (has_all r) (all (known_index known k) node is)
