-- The filter: what a policy opens of a design to a user, step by step of each path.
use Rattle.std.specs.Prelude.{◌≡◌, ℕ, ◌==◌, ◌||◌, not, Bool, false, if◌then◌else◌, List, [], ◌∷◌, ◌++◌, filter, slice_get, Option, Some, None, is_some, option_and_then, option_map, codes}
use Rattle.std.specs.Option.{option_map_or}
use Rattle.vp_pragma.specs.declared.rights.Right.{Right}
use Rattle.vp_pragma.specs.declared.rights.Right.TheVariants as right
use Rattle.vp_pragma.specs.Rights.{RightSet, has, nothing, everything, both, either}
use Rattle.vp_pragma.specs.Envelopes.{Viewport, object_of}
use Rattle.vp_elab.specs.Tree.{Step, Node, Tree, author_in, children_of, declared_envelopes, envelopes_in, find_named, first_viewport, path_of, scope_names, viewed}
use Rattle.vp_policy.specs.declared.denial.DeniedBy.{DeniedBy}
use Rattle.vp_policy.specs.declared.denial.DeniedBy.TheVariants as by
use Rattle.vp_policy.specs.declared.denial.ShownBarrier.{ShownBarrier}
use Rattle.vp_policy.specs.declared.denial.ShownBarrier.TheVariants as barrier
use Rattle.vp_policy.specs.declared.denial.Denial.{Denial}
use Rattle.vp_policy.specs.declared.denial.Look.{Look}
use Rattle.vp_policy.specs.declared.denial.Look.TheVariants as look
use Rattle.vp_policy.specs.Denials.{DenialText}
use Rattle.vp_policy.specs.Users.{Member, granted, has_entry}

-- ---- rights

-- what is opened to a user at a step: his grant for its envelope, joined with the viewports that match it (profile)
abbrev pub opened : Tree → Member → Step → RightSet
opened tree u s = either (granted u s.envelope) (viewed tree.viewports s)

-- a user's rights on the object with this path: what is opened at every step (profile)
abbrev pub rights : Tree → Member → List Step → RightSet
rights tree u [] = everything
rights tree u (s ∷ path) = both (opened tree u s) (rights tree u path)

-- a user's rights on the object of a number; none where it is not there
abbrev pub rights_at : Tree → Member → ℕ → RightSet
rights_at tree u o = option_map_or (λ node. rights tree u node.path) (slice_get tree.nodes o) nothing

-- an object is listed to a user if list is among his rights on it
abbrev pub is_listed : Tree → Member → Node → Bool
is_listed tree u node = has right.List (rights tree u node.path)

-- ---- closed lists

-- a user may not list what is declared in an envelope by his grant
abbrev pub is_closed : Member → ℕ → Bool
is_closed u envelope = not (has right.List (granted u envelope))

-- the closed list of a scope: the numbers of the envelopes of what is declared in it whose grant lacks list, rising (profile)
abbrev pub closed : Tree → Member → List (List ℕ) → List ℕ
closed tree u scope = filter (is_closed u) (envelopes_in tree scope)

-- the closed list of a scope that is an object or contains the top modules; empty where the object is not there (profile)
abbrev pub closed_in : Tree → Member → (scope : Option ℕ) → List ℕ
closed_in tree u scope = filter (is_closed u) (declared_envelopes tree scope)

-- ---- denials

-- what keeps a user out of an envelope: his grant, if it is the open text or he has an entry for it, else the envelope (profile)
abbrev pub by_grant : Member → ℕ → DeniedBy
by_grant u envelope = if (envelope == 0) || has_entry u envelope then by.Grant else by.Envelope

-- what keeps a user out where this viewport, or none, is the first that matches: the viewport, else what keeps him out of
-- the envelope (profile)
abbrev pub by_first : Member → (envelope : ℕ) → Option ℕ → DeniedBy
by_first u envelope None = by_grant u envelope
by_first u envelope (Some viewport) = by.Viewport viewport

-- what keeps a user out at a step
abbrev pub by_step : Tree → Member → Step → DeniedBy
by_step tree u s = by_first u s.envelope (first_viewport tree.viewports s)

-- why a right on the object with this path is denied: by the first step at which it is not opened; none if it is his
abbrev pub denial : Tree → Member → Right → List Step → Option Denial
denial tree u r [] = None
denial tree u r (s ∷ path) =
    if has r (opened tree u s)
    then denial tree u r path
    else Some (record { by = by_step tree u s; envelope = s.envelope; right = r })

-- why a right on the object of a number is denied; none if it is his, and where no object is
abbrev pub denial_at : Tree → Member → Right → ℕ → Option Denial
denial_at tree u r o = denial tree u r (path_of tree.nodes (Some o))

-- the object that the viewport which keeps a user out names; none where no viewport does
abbrev pub viewport_object : List Viewport → DeniedBy → Option (List ℕ)
viewport_object viewports (by.Viewport n) = option_map object_of (slice_get viewports n)
viewport_object viewports by.Envelope = None
viewport_object viewports by.Grant = None

-- what keeps a user out, in words: a viewport's number is none of them, since it counts viewports that he can't see (profile)
abbrev pub barrier_of : DeniedBy → ShownBarrier
barrier_of (by.Viewport n) = barrier.Viewport
barrier_of by.Envelope = barrier.Envelope
barrier_of by.Grant = barrier.Grant

-- a denial in the words that its user is shown: with the author of its envelope, and the object of the viewport that keeps him
-- out, if one does (profile)
abbrev pub words_of : Tree → Denial → DenialText
words_of tree d = record {
  by = barrier_of d.by;
  envelope = d.envelope;
  right = d.right;
  author = author_in tree.authors d.envelope;
  object = viewport_object tree.viewports d.by;
}

-- what keeps a user from running the design, the number of the envelope, and the word of the right: his grant for the open text
-- (profile)
abbrev pub run_denied : ShownBarrier × ℕ × List ℕ
run_denied = (barrier.Grant, 0, codes "run")

-- why a user may not run the design; none if his run flag is set (profile)
abbrev pub run_denial : Member → Option (ShownBarrier × ℕ × List ℕ)
run_denial u = if u.run then None else Some run_denied

-- ---- names

-- what a name that is not listed in a scope with this closed list is answered, hidden or absent (profile)
abbrev pub unlisted : Member → List ℕ → Look
unlisted u [] = look.Absent
unlisted u (e ∷ es) = look.Denied (record { by = by_grant u e; envelope = e; right = right.List })

-- the object of a number is listed to a user
abbrev pub is_listed_at : Tree → Member → ℕ → Bool
is_listed_at tree u o = option_map_or (is_listed tree u) (slice_get tree.nodes o) false

-- the numbers of the objects that are declared in a scope and listed to a user, rising (profile)
abbrev pub listed : Tree → Member → (scope : Option ℕ) → List ℕ
listed tree u scope = filter (is_listed_at tree u) (children_of tree.nodes scope)

-- the number of an object that was found, if it is listed to a user
abbrev pub listed_in : Tree → Member → Option ℕ → Option ℕ
listed_in tree u found = option_and_then (λ o. if is_listed_at tree u o then Some o else None) found

-- the number of the object that has these names, if it is listed to a user
abbrev pub find_listed : Tree → Member → List (List ℕ) → Option ℕ
find_listed tree u names = listed_in tree u (find_named tree.nodes names)

-- where to go on: from the object that was found, or else this answer
abbrev pub from_found : Option ℕ → Look → (ℕ → Look) → Look
from_found None otherwise next = otherwise
from_found (Some o) otherwise next = next o

-- the walk of names: from what was found under the names of the scope, each name further down
abbrev pub walk : Tree → Member → Look → List (List ℕ) → List (List ℕ) → Look
walk tree u here scope [] = here
walk tree u here scope (n ∷ names) =
    from_found (find_listed tree u (scope ++ n ∷ [])) (unlisted u (closed tree u scope))
    (λ o. walk tree u (look.Found (record { 0 = o })) (scope ++ n ∷ []) names)

-- what a user finds under names, in the scope of these names (profile)
abbrev pub look_of : Tree → Member → List (List ℕ) → List (List ℕ) → Look
look_of tree u scope names = walk tree u look.Absent scope names

-- what a user finds under names in a scope, which is an object or contains the top modules; nothing where the object is not
-- there (profile)
abbrev pub look_in : Tree → Member → (scope : Option ℕ) → List (List ℕ) → Look
look_in tree u scope names = option_map_or (λ above. look_of tree u above names) (scope_names tree.nodes scope) look.Absent

-- the names of the scope in which a look-up stops, in the scope of these names: that of the first name that is not listed to
-- the user; none where every name is listed (profile)
abbrev pub stop_of : Tree → Member → List (List ℕ) → List (List ℕ) → Option (List (List ℕ))
stop_of tree u scope [] = None
stop_of tree u scope (n ∷ names) =
    if is_some (find_listed tree u (scope ++ n ∷ [])) then stop_of tree u (scope ++ n ∷ []) names else Some scope

-- the same in a scope that is an object or contains the top modules (profile)
abbrev pub stops_in : Tree → Member → (scope : Option ℕ) → List (List ℕ) → Option (List (List ℕ))
stops_in tree u scope names = option_and_then (λ above. stop_of tree u above names) (scope_names tree.nodes scope)

-- a hidden name is answered as an absent one: where these names stop at a scope, all names that stop there, asked in any
-- scope, get this answer (profile)
abbrev pub IsAnsweredAlike : Tree → Member → (scope : Option ℕ) → (names : List (List ℕ)) → Look → Type 0
IsAnsweredAlike tree u scope names answer =
    (stop : List (List ℕ)) → stops_in tree u scope names ≡ Some stop
    → (other : Option ℕ) → (others : List (List ℕ)) → stops_in tree u other others ≡ Some stop
    → look_in tree u other others ≡ answer
