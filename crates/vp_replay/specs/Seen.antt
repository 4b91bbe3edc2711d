-- What can be looked up in a view alone.
use Rattle.std.specs.Prelude.{ℕ, zero, suc, ◌==◌, ◌||◌, ◌&&◌, Bool, true, false, if◌then◌else◌, List, [], ◌∷◌, ◌++◌, map, filter, length, slice_get, Option, Some, None, is_none, option_map, option_and_then}
use Rattle.std.specs.List.{position}
use Rattle.std.specs.Option.{option_map_or}
use Rattle.std.specs.Str.{bytes_eq}
use Rattle.vp_bits.specs.declared.bit.Bit.{Bit}
use Rattle.vp_bits.specs.declared.bit.Bit.TheVariants.{Unknown}
use Rattle.vp_text.specs.Texts.{parts}
use Rattle.vp_pragma.specs.declared.rights.Right.{Right}
use Rattle.vp_pragma.specs.declared.rights.Right.TheVariants as right
use Rattle.vp_pragma.specs.Rights.{has}
use Rattle.vp_elab.specs.declared.object.Kind.{Kind}
use Rattle.vp_elab.specs.Tree.{below, dotted}
use Rattle.vp_policy.specs.declared.denial.ShownBarrier.{ShownBarrier}
use Rattle.vp_policy.specs.declared.denial.ShownBarrier.TheVariants as barrier
use Rattle.vp_policy.specs.Denials.{DenialText}
use Rattle.vp_policy.specs.Users.{is_entry}
use Rattle.vp_policy.specs.View.{SeenStep, SeenViewport, View}
use Rattle.vp_vpi.specs.declared.races.ShownRace.{ShownRace}
use Rattle.vp_vpi.specs.Observers.{Absent, Denied, Found, Lookup, Observer, is_readable}

-- ---- denials

-- the author of an envelope; of the open text and of no envelope the empty text
abbrev pub author_seen : View → (envelope : ℕ) → List ℕ
author_seen v zero = []
author_seen v (suc n) = option_map_or (λ e. e.0) (slice_get v.envelopes n) []

-- the user has a grant entry for an envelope
abbrev pub has_entry_seen : View → (envelope : ℕ) → Bool
has_entry_seen v zero = false
has_entry_seen v (suc n) = option_map_or (λ e. is_entry e.1) (slice_get v.envelopes n) false

-- what keeps the user out of an envelope by his grant
abbrev pub barrier_by_grant : View → (envelope : ℕ) → ShownBarrier
barrier_by_grant v envelope = if (envelope == 0) || has_entry_seen v envelope then barrier.Grant else barrier.Envelope

-- what keeps him out at a step of these viewports
abbrev pub barrier_at : View → (envelope : ℕ) → List SeenViewport → ShownBarrier
barrier_at v envelope [] = barrier_by_grant v envelope
barrier_at v envelope (w ∷ ws) = barrier.Viewport

-- the object of the first of these viewports
abbrev pub first_object : List SeenViewport → Option (List ℕ)
first_object [] = None
first_object (w ∷ ws) = Some w.object

-- why a right is denied at a step, in words
abbrev pub words_at : View → Right → SeenStep → DenialText
words_at v r s = record {
  by = barrier_at v s.envelope s.viewports;
  envelope = s.envelope;
  right = r;
  author = author_seen v s.envelope;
  object = first_object s.viewports;
}

-- why a right on the object with this path is denied: by the first step after which it is lacking; none if it is the user's
abbrev pub denial_seen : View → Right → List SeenStep → Option DenialText
denial_seen v r [] = None
denial_seen v r (s ∷ path) = if has r s.rights then denial_seen v r path else Some (words_at v r s)

-- the steps to the object of a number; none where no object is
abbrev pub path_seen : View → ℕ → List SeenStep
path_seen v o = option_map_or (λ node. node.path) (slice_get v.nodes o) []

-- why a right on the object of a number is denied
abbrev pub denied_seen : View → Right → ℕ → Option DenialText
denied_seen v r o = denial_seen v r (path_seen v o)

-- the object of a number is there and listed
abbrev pub listed_seen : View → ℕ → Bool
listed_seen v o = option_map_or (λ node. is_none (denial_seen v right.List node.path)) (slice_get v.nodes o) false

-- ---- objects

-- the names to the object of a number; none where no object is
abbrev pub names_seen : View → ℕ → List (List ℕ)
names_seen v o = map (λ s. s.name) (path_seen v o)

-- the last of some names; empty where there is none
abbrev pub last_name : List (List ℕ) → List ℕ
last_name [] = []
last_name (n ∷ []) = n
last_name (n ∷ m ∷ names) = last_name (m ∷ names)

-- the kind of the object of a number; none where no object is
abbrev pub kind_seen : View → ℕ → Option Kind
kind_seen v o = option_map (λ node. node.kind) (slice_get v.nodes o)

-- its width in bits, and its line; 0 where no object is
abbrev pub width_seen : View → ℕ → ℕ
width_seen v o = option_map_or (λ node. node.width) (slice_get v.nodes o) 0

-- its line; 0 where no object is
abbrev pub line_seen : View → ℕ → ℕ
line_seen v o = option_map_or (λ node. node.line) (slice_get v.nodes o) 0

-- its definition, if it is a module
abbrev pub definition_seen : View → ℕ → Option (List ℕ)
definition_seen v o = option_and_then (λ node. node.definition) (slice_get v.nodes o)

-- ---- scopes and names

-- the names of a scope, which is an object or contains the top modules
abbrev pub scope_seen : View → (scope : Option ℕ) → List (List ℕ)
scope_seen v None = []
scope_seen v (Some o) = names_seen v o

-- the numbers of the envelopes that are closed in a scope, rising
abbrev pub closed_seen : View → (scope : Option ℕ) → List ℕ
closed_seen v None = v.closed_list
closed_seen v (Some o) = option_map_or (λ node. node.closed_list) (slice_get v.nodes o) []

-- the steps have these names
abbrev pub is_named_seen : List (List ℕ) → List SeenStep → Bool
is_named_seen [] [] = true
is_named_seen [] (s ∷ path) = false
is_named_seen (n ∷ names) [] = false
is_named_seen (n ∷ names) (s ∷ path) = bytes_eq n s.name && is_named_seen names path

-- the number of the first object of these names
abbrev pub find_seen : View → List (List ℕ) → Option ℕ
find_seen v names = position (λ node. is_named_seen names node.path) v.nodes

-- the same, if it is listed
abbrev pub find_listed_seen : View → List (List ℕ) → Option ℕ
find_listed_seen v names = option_and_then (λ o. if listed_seen v o then Some o else None) (find_seen v names)

-- what a name that is not listed in a scope with this closed list is answered
abbrev pub unlisted_seen : View → List ℕ → Lookup
unlisted_seen v [] = Absent
unlisted_seen v (e ∷ es) = Denied (record {
  by = barrier_by_grant v e;
  envelope = e;
  right = right.List;
  author = author_seen v e;
  object = None;
})

-- where to go on: from the object that was found, or else this answer
abbrev pub from_seen : Option ℕ → Lookup → (ℕ → Lookup) → Lookup
from_seen None otherwise next = otherwise
from_seen (Some o) otherwise next = next o

-- the walk of names, from what was found in a scope
abbrev pub walk_seen : View → Lookup → (scope : Option ℕ) → List (List ℕ) → Lookup
walk_seen v here scope [] = here
walk_seen v here scope (n ∷ names) =
    from_seen (find_listed_seen v (scope_seen v scope ++ n ∷ [])) (unlisted_seen v (closed_seen v scope)) (λ o. walk_seen v (Found o) (Some o) names)

-- an object stands in the scope of these names
abbrev pub is_in_seen : List (List ℕ) → List SeenStep → Bool
is_in_seen [] [] = false
is_in_seen [] (s ∷ []) = true
is_in_seen [] (s ∷ t ∷ path) = false
is_in_seen (n ∷ names) [] = false
is_in_seen (n ∷ names) (s ∷ path) = if bytes_eq n s.name then is_in_seen names path else false

-- the numbers of the objects in a scope, rising
abbrev pub children_seen : View → (scope : Option ℕ) → List ℕ
children_seen v scope = filter (λ o. option_map_or (λ node. is_in_seen (scope_seen v scope) node.path) (slice_get v.nodes o) false) (below (length v.nodes))

-- those that are listed
abbrev pub listed_in_seen : View → (scope : Option ℕ) → List ℕ
listed_in_seen v scope = filter (listed_seen v) (children_seen v scope)

-- ---- all of it

-- the value of an object that may be read, by the values that are known; none where it has none, and where it may not be read
abbrev pub value_seen : View → List (Option (List Bit)) → ℕ → Option (List Bit)
value_seen v values o =
    if is_readable (kind_seen v o) && is_none (denied_seen v right.Read o)
    then Some (option_map_or (λ x. option_map_or (λ bits. bits) x (Unknown ∷ [])) (slice_get values o) (Unknown ∷ [])) else None

-- what can be looked up in a view, the values that are known, the time, whether $finish was executed, and the races that are shown
abbrev pub observer_seen : View → List (Option (List Bit)) → (time : ℕ) → (finished : Bool) → List ShownRace → Observer
observer_seen v values time finished races = record {
  named = λ scope name. walk_seen v Absent scope (parts 46 name);
  listed = listed_in_seen v;
  closed = closed_seen v;
  denied = denied_seen v;
  kind = kind_seen v;
  width = width_seen v;
  line = line_seen v;
  name = λ o. last_name (names_seen v o);
  full_name = λ o. dotted (names_seen v o);
  definition = definition_seen v;
  value = value_seen v values;
  may_run = v.run;
  time = time;
  finished = finished;
  races = races;
}
