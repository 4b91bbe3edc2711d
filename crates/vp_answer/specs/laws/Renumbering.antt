-- What a session is answered reports nothing of the numbers of objects.
use Rattle.std.proofs.Common.{◌≡◌, ℕ, zero, suc, ◌+◌, Bool, false, true, List, [], ◌∷◌, ◌++◌, length, Option, Some, None, refl, ap, sym, subst, ◌∙◌, arith}
use Rattle.std.specs.Prelude.{cond, fold, ◌==◌, ◌||◌, ◌^◌, ◌-◌, drop, max, min, take, nat_le, nat_lt, not, if◌then◌else◌, count_by, filter, is_some, map, option_map, Result, Ok, Err}
use Rattle.std.specs.List.{list_any}
use Rattle.std.proofs.lemmas.List.{length-map, map-append, map-set}
use Rattle.vp_bits.specs.declared.bit.Bit.{Bit}
use Rattle.vp_pragma.specs.declared.rights.Right.{Right}
use Rattle.vp_pragma.specs.declared.rights.Right.TheVariants as right
use Rattle.vp_elab.specs.declared.object.Kind.{Kind}
use Rattle.vp_elab.specs.declared.object.ObjectId.{ObjectId}
use Rattle.vp_vpi.specs.Denials.{DenialText}
use Rattle.vp_notify.specs.Change.{Change}
use Rattle.vp_notify.specs.declared.notice.Notice.{Notice}
use Rattle.vp_notify.specs.declared.registry.Callback.{Callback}
use Rattle.vp_notify.specs.Registry as registry
use Rattle.vp_vpi.specs.declared.error.VpiError.{VpiError}
use Rattle.vp_vpi.specs.declared.error.VpiError.TheVariants as error
use Rattle.vp_vpi.specs.declared.property.NumberProperty.{NumberProperty}
use Rattle.vp_vpi.specs.declared.property.NumberProperty.TheVariants as number
use Rattle.vp_vpi.specs.declared.property.TextProperty.{TextProperty}
use Rattle.vp_vpi.specs.declared.property.TextProperty.TheVariants as text
use Rattle.vp_vpi.specs.declared.property.PutValue.{PutValue}
use Rattle.vp_elab.specs.Tree.{type_name}
use Rattle.vp_vpi.specs.Calls.{Iterated, lines_from, race_limit, race_of, race_details, shown_at, is_reg, is_watchable, put_at, put_bits, put_of, same_of, set_by, watchable_of, watched_of, allowed, handle_of, is_module, is_of, iteration, iteration_in_room, iterated, items_from, listed_of, number_at, number_of, object_found, or_refusal, scope_of, text_at, text_of, then_by, undenied, value_of}
use Rattle.vp_vpi.specs.Observers.{Absent, Denied, Found, Lookup, Observer, is_readable}
use Rattle.vp_vpi.specs.SessionStates as session_states
use Rattle.vp_vpi.specs.SessionStates.{SessionState, drained, retired, with_due, with_handle, without_callback, handle_to, has_room, is_full, next_handle, object_of, with_handles}
use Rattle.vp_answer.specs.declared.reply.Reply.{Reply}
use Rattle.vp_answer.specs.declared.goal.GoalChange.{GoalChange}
use Rattle.vp_answer.specs.declared.goal.GoalChange.TheVariants.{Ends, RisesTo, Stays}
use Rattle.vp_answer.specs.declared.query.Query.{Query}
use Rattle.vp_answer.specs.declared.query.Query.TheVariants as query
use Rattle.vp_answer.specs.declared.reply.Reply.TheVariants as reply
use Rattle.vp_answer.specs.Answers.{Response, unwatch_response, freed, made, only_told, polling, putting, refused, respond, response_by, scanned, steering, reply_with, value_in, watching}
use Rattle.vp_answer.specs.Renumbering as under
use Rattle.vp_answer.specs.Renumbering.{IsOpen, IsSeenAs, Renumbering}

-- ---- tests

-- a size, if it is that of a value
abbrev test_size : Option Kind → ℕ → Result ℕ VpiError
test_size k w = if is_readable k then Ok w else Err error.WrongKind

-- what a put of these bits sets, if $finish was not executed
abbrev test_finished : Bool → ℕ → List Bit → Result (ℕ × List Bit) VpiError
test_finished b o bits = if b then Err error.Finished else Ok (o, bits)

-- what a put sets, if its object is a reg
abbrev test_reg : Bool → Result (ℕ × List Bit) VpiError → Result (ℕ × List Bit) VpiError
test_reg b x = if b then x else Err error.WrongKind

-- an object, if its changes can be watched
abbrev test_kind : Bool → ℕ → Result ℕ VpiError
test_kind b o = if b then Ok o else Err error.WrongKind

-- an object, if there is room for a callback
abbrev test_callbacks : Bool → ℕ → Result ℕ VpiError
test_callbacks b o = if b then Err error.TooManyCallbacks else Ok o

-- a notice waits, if there is room for it
abbrev test_waiting : Bool → registry.RegistryState → Notice → registry.RegistryState
test_waiting b r t =
    if b then record r { waiting = r.waiting ++ t ∷ [] } else record r { lost = min (r.lost + 1) (2 ^ 64 - 1) }

-- an object, if its changes can be watched, under another number
kind_found : (n : Renumbering) (b : Bool) (o : ℕ) → test_kind b (n.number o) ≡ under.answer n.number (test_kind b o)
kind_found n true o = refl
kind_found n false o = refl

-- the same where there has to be room
callbacks_found : (n : Renumbering) (b : Bool) (o : ℕ) → test_callbacks b (n.number o) ≡ under.answer n.number (test_callbacks b o)
callbacks_found n true o = refl
callbacks_found n false o = refl

-- the object of a handle, or that it is none
refusal_or : (n : Renumbering) (x : Option ℕ) → or_refusal (option_map n.number x) error.BadHandle ≡ under.answer n.number (or_refusal x error.BadHandle)
refusal_or n None = refl
refusal_or n (Some x) = refl

-- ---- orders of numbers

-- numbers in the same order are the same where the others are
order_equal : (a b c d : ℕ) → nat_le a b ≡ nat_le c d → nat_le b a ≡ nat_le d c → (a == b) ≡ (c == d)
order_equal a b c d e f = grind arith

-- and less where the others are
order_less : (a b c d : ℕ) → nat_le b a ≡ nat_le d c → nat_lt a b ≡ nat_lt c d
order_less a b c d e = grind arith

-- ---- lists

-- what passes a test keeps doing so under another form, if the tests agree
filter_under : {X Y : Type 0} (f : X → Y) (p : X → Bool) (q : Y → Bool) → ((x : X) → q (f x) ≡ p x) → (xs : List X) → filter q (map f xs) ≡ map f (filter p xs)
filter_under f p q h [] = refl
filter_under f p q h (x ∷ xs) = step (p x) (q (f x)) (h x) (filter_under f p q h xs) where
  step : (a b : Bool) → b ≡ a → filter q (map f xs) ≡ map f (filter p xs)
      → (if b then f x ∷ filter q (map f xs) else filter q (map f xs)) ≡ map f (if a then x ∷ filter p xs else filter p xs)
  step true b e rest = ap (λ (c : Bool). if c then f x ∷ filter q (map f xs) else filter q (map f xs)) e ∙ ap (λ ys. f x ∷ ys) rest
  step false b e rest = ap (λ (c : Bool). if c then f x ∷ filter q (map f xs) else filter q (map f xs)) e ∙ rest

-- and so does what is among others
any_under : {X Y : Type 0} (f : X → Y) (p : X → Bool) (q : Y → Bool) → ((x : X) → q (f x) ≡ p x) → (xs : List X) → list_any q (map f xs) ≡ list_any p xs
any_under f p q h [] = refl
any_under f p q h (x ∷ xs) = let a = h x in let b = any_under f p q h xs in cc

-- ---- results

-- what comes next of a value, under other numbers
then_under : {A B C D : Type 0} (f : A → B) (g : C → D) (x' : Result B VpiError) (x : Result A VpiError) (next' : B → Result D VpiError) (next : A → Result C VpiError)
    → x' ≡ under.answer f x → ((a : A) → x ≡ Ok a → next' (f a) ≡ under.answer g (next a)) → then_by x' next' ≡ under.answer g (then_by x next)
then_under f g x' (Ok a) next' next e h = ap (λ r. then_by r next') e ∙ h a refl
then_under f g x' (Err r) next' next e h = ap (λ r. then_by r next') e

-- a value that holds no number stays
same_answer : {A : Type 0} (x : Result A VpiError) → under.answer (λ a. a) x ≡ x
same_answer (Ok a) = refl
same_answer (Err e) = refl

-- ---- handles

-- the object of a handle
object_under : (n : Renumbering) (handles : List (Option ObjectId)) (h : ℕ) → object_of (map (under.handle n) handles) h ≡ option_map n.number (object_of handles h)
object_under n handles zero = refl
object_under n [] (suc h) = refl
object_under n (Some o ∷ handles) (suc zero) = refl
object_under n (None ∷ handles) (suc zero) = refl
object_under n (o ∷ handles) (suc (suc h)) = object_under n handles (suc h)

-- as many handles are open
count_under : (n : Renumbering) (k : ℕ) (handles : List (Option ObjectId)) → fold (λ (a : ℕ) h. a + cond (is_some h) 1 0) k (map (under.handle n) handles) ≡ fold (λ (a : ℕ) h. a + cond (is_some h) 1 0) k handles
count_under n k [] = refl
count_under n k (Some o ∷ handles) = count_under n (k + 1) handles
count_under n k (None ∷ handles) = count_under n (k + 0) handles

-- the same, from none on
open_under : (n : Renumbering) (handles : List (Option ObjectId)) → count_by is_some (map (under.handle n) handles) ≡ count_by is_some handles
open_under n handles = count_under n 0 handles

-- there is as much room for handles
room_under : (n : Renumbering) (k : ℕ) (handles : List (Option ObjectId)) → has_room k (map (under.handle n) handles) ≡ has_room k handles
room_under n k handles = let a = open_under n handles in let b = length-map handles (under.handle n) in cc

-- or none
pub full_under : (n : Renumbering) (handles : List (Option ObjectId)) → is_full (map (under.handle n) handles) ≡ is_full handles
full_under n handles = ap not (room_under n 1 handles)

-- the next handle has the same number
next_under : (n : Renumbering) (handles : List (Option ObjectId)) → next_handle (map (under.handle n) handles) ≡ next_handle handles
next_under n handles = ap suc (length-map handles (under.handle n))

-- more handles of a session
with_handles_under : (n : Renumbering) (more : List (Option ObjectId)) (s : SessionState) → with_handles (map (under.handle n) more) (under.session_state n s) ≡ under.session_state n (with_handles more s)
with_handles_under n more s =
    ap (λ hs. record { user = s.user; handles = hs; registry = under.registry n s.registry }) (sym (map-append (under.handle n) s.handles more))

-- ---- rights

-- an object on which a right is not denied
undenied_under : (n : Renumbering) (o : ℕ) (d : Option DenialText) → undenied (n.number o) d ≡ under.answer n.number (undenied o d)
undenied_under n o None = refl
undenied_under n o (Some words) = refl

-- the same of the object of a handle
allowed_under : (n : Renumbering) (seen observation : Observer) → IsSeenAs n seen observation → (r : Right) (found : Option ℕ)
    → allowed observation r (option_map n.number found) ≡ under.answer n.number (allowed seen r found)
allowed_under n seen observation alike r None = refl
allowed_under n seen observation alike r (Some o) = ap (undenied (n.number o)) (alike.denied r o) ∙ undenied_under n o (seen.denied r o)

-- where it is answered, it is not denied
undenied_ok : (o p : ℕ) (d : Option DenialText) → undenied o d ≡ Ok p → (d ≡ None) × (o ≡ p)
undenied_ok o p None e = (refl, cc)
undenied_ok o p (Some words) e = absurd (cc)

-- the same of the object of a handle
allowed_ok : (seen : Observer) (r : Right) (found : Option ℕ) (o : ℕ) → allowed seen r found ≡ Ok o → seen.denied r o ≡ None
allowed_ok seen r None o e = absurd (cc)
allowed_ok seen r (Some p) o e = let both = undenied_ok p o (seen.denied r p) e in subst (λ (q : ℕ). seen.denied r q ≡ None) both.1 both.0

-- ---- scopes

-- a scope, if it is a module
abbrev test_module : Bool → ℕ → Result (Option ℕ) VpiError
test_module b o = if b then Ok (Some o) else Err error.WrongKind

-- an object, if there is room for a handle
abbrev test_full : Bool → ℕ → Result ℕ VpiError
test_full b o = if b then Err error.TooManyHandles else Ok o

-- nothing, or that there is no room for a handle
abbrev test_absent : Bool → Result ℕ VpiError
test_absent b = if b then Err error.TooManyHandles else Err error.NoSuchName

-- an iteration, if there is room for its handles
abbrev test_room : Bool → Iterated → Result Iterated VpiError
test_room b i = if b then Ok i else Err error.TooManyHandles

-- where it is answered, it is a module
module_test : (b : Bool) (a o : ℕ) → test_module b a ≡ Ok (Some o) → (b ≡ true) × (a ≡ o)
module_test true a o e = (refl, cc)
module_test false a o e = absurd (cc)

-- it is never the scope of the top modules
module_none : (b : Bool) (a : ℕ) → test_module b a ≡ Ok None → ⊥
module_none true a e = absurd (cc)
module_none false a e = absurd (cc)

-- a scope that is answered is open
scope_open : (seen : Observer) (handles : List (Option ObjectId)) (h : Option ℕ) (scope : Option ℕ) → scope_of seen handles h ≡ Ok scope → IsOpen seen scope
scope_open seen handles None None e = tt
scope_open seen handles None (Some o) e = absurd (cc)
scope_open seen handles (Some h) scope e = go (allowed seen right.List (object_of handles h)) refl scope e where
  go : (x : Result ℕ VpiError) → allowed seen right.List (object_of handles h) ≡ x → (scope : Option ℕ)
      → then_by x (λ o. test_module (is_module (seen.kind o)) o) ≡ Ok scope → IsOpen seen scope
  go (Err r) is scope e = absurd (cc)
  go (Ok a) is None e = absurd (module_none (is_module (seen.kind a)) a e)
  go (Ok a) is (Some o) e =
      let both = module_test (is_module (seen.kind a)) a o e in (
        subst (λ (q : ℕ). seen.denied right.List q ≡ None) both.1 (allowed_ok seen right.List (object_of handles h) a is),
        subst (λ (q : ℕ). is_module (seen.kind q) ≡ true) both.1 both.0,
      )

-- a module, under another number
module_under : (n : Renumbering) (b : Bool) (o : ℕ) → test_module b (n.number o) ≡ under.answer (option_map n.number) (test_module b o)
module_under n true o = refl
module_under n false o = refl

-- the scope of a handle
scope_under : (n : Renumbering) (seen observation : Observer) → IsSeenAs n seen observation → (handles : List (Option ObjectId)) (h : Option ℕ)
    → scope_of observation (map (under.handle n) handles) h ≡ under.answer (option_map n.number) (scope_of seen handles h)
scope_under n seen observation alike handles None = refl
scope_under n seen observation alike handles (Some h) =
    then_under n.number (option_map n.number) (allowed observation right.List (object_of (map (under.handle n) handles) h)) (allowed seen right.List (object_of handles h))
    (λ o. test_module (is_module (observation.kind o)) o) (λ o. test_module (is_module (seen.kind o)) o)
    (ap (allowed observation right.List) (object_under n handles h) ∙ allowed_under n seen observation alike right.List (object_of handles h))
    (λ o is. ap (λ k. test_module (is_module k) (n.number o)) (alike.kind o) ∙ module_under n (is_module (seen.kind o)) o)

-- ---- names

-- an object that is found, under another number
full_found : (n : Renumbering) (b : Bool) (o : ℕ) → test_full b (n.number o) ≡ under.answer n.number (test_full b o)
full_found n true o = refl
full_found n false o = refl

-- the same where nothing is found
absent_found : (n : Renumbering) (b : Bool) → test_absent b ≡ under.answer n.number (test_absent b)
absent_found n true = refl
absent_found n false = refl

-- what a look-up finds
found_under : (n : Renumbering) (handles : List (Option ObjectId)) (l : Lookup)
    → object_found (map (under.handle n) handles) (under.lookup n l) ≡ under.answer n.number (object_found handles l)
found_under n handles (Denied words) = refl
found_under n handles Absent = ap test_absent (full_under n handles) ∙ absent_found n (is_full handles)
found_under n handles (Found o) = ap (λ (b : Bool). test_full b (n.number o)) (full_under n handles) ∙ full_found n (is_full handles) o

-- the object of the handle that a name makes
handle_under : (n : Renumbering) (seen observation : Observer) → IsSeenAs n seen observation → (handles : List (Option ObjectId)) (scope : Option ℕ) (name : List ℕ)
    → handle_of observation (map (under.handle n) handles) scope name ≡ under.answer n.number (handle_of seen handles scope name)
handle_under n seen observation alike handles scope name =
    then_under (option_map n.number) n.number (scope_of observation (map (under.handle n) handles) scope) (scope_of seen handles scope)
    (λ above. object_found (map (under.handle n) handles) (observation.named above name)) (λ above. object_found handles (seen.named above name))
    (scope_under n seen observation alike handles scope)
    (λ above is.
    ap (object_found (map (under.handle n) handles)) (alike.named above (scope_open seen handles scope above is) name)
    ∙ found_under n handles (seen.named above name))

-- ---- iterations

-- an iteration, under other numbers: what is reported of it is the same
abbrev pub iterated_under : Renumbering → Iterated → Iterated
iterated_under n i = record { listing = i.listing; handles = map (under.handle n) i.handles }

-- its objects with their names
items_under : (n : Renumbering) (seen observation : Observer) → IsSeenAs n seen observation → (h : ℕ) (os : List ℕ) → items_from observation.name h (map n.number os) ≡ items_from seen.name h os
items_under n seen observation alike h [] = refl
items_under n seen observation alike h (o ∷ os) =
    ap (λ name. record { handle = h; name = name } ∷ items_from observation.name (suc h) (map n.number os)) (alike.name o)
    ∙ ap (λ items. record { handle = h; name = seen.name o } ∷ items) (items_under n seen observation alike (suc h) os)

-- its handles
handles_under : (n : Renumbering) (os : List ℕ) → map handle_to (map n.number os) ≡ map (under.handle n) (map handle_to os)
handles_under n [] = refl
handles_under n (o ∷ os) = ap (λ hs. handle_to (n.number o) ∷ hs) (handles_under n os)

-- an iteration over some objects
iteration_under : (n : Renumbering) (seen observation : Observer) → IsSeenAs n seen observation → (handles : List (Option ObjectId)) (scope : Option ℕ) → IsOpen seen scope → (os : List ℕ)
    → iteration observation (map (under.handle n) handles) (option_map n.number scope) (map n.number os) ≡ iterated_under n (iteration seen handles scope os)
iteration_under n seen observation alike handles scope opened os =
    let closed = alike.closed scope opened in
    let items = ap (λ (h : ℕ). items_from observation.name h (map n.number os)) (next_under n handles) ∙ items_under n seen observation alike (next_handle handles) os in
    let made = handles_under n os in
    cc

-- the same, if there is room for its handles
room_test : (n : Renumbering) (b : Bool) (i : Iterated) → test_room b (iterated_under n i) ≡ under.answer (iterated_under n) (test_room b i)
room_test n true i = refl
room_test n false i = refl

-- and where that is so under both numbers
in_room_under : (n : Renumbering) (seen observation : Observer) → IsSeenAs n seen observation → (handles : List (Option ObjectId)) (scope : Option ℕ) → IsOpen seen scope → (os : List ℕ)
    → iteration_in_room observation (map (under.handle n) handles) (option_map n.number scope) (map n.number os) ≡ under.answer (iterated_under n) (iteration_in_room seen handles scope os)
in_room_under n seen observation alike handles scope opened os =
    let many = length-map os n.number in
    let room = ap (λ (k : ℕ). has_room k (map (under.handle n) handles)) many ∙ room_under n (length os) handles in
    ap (λ i. test_room (has_room (length (map n.number os)) (map (under.handle n) handles)) i) (iteration_under n seen observation alike handles scope opened os)
    ∙ ap (λ (b : Bool). test_room b (iterated_under n (iteration seen handles scope os))) room
    ∙ room_test n (has_room (length os) handles) (iteration seen handles scope os)

-- an iteration over the objects of a kind in a scope
iterated_alike : (n : Renumbering) (seen observation : Observer) → IsSeenAs n seen observation → (handles : List (Option ObjectId)) (k : Kind) (scope : Option ℕ)
    → iterated observation (map (under.handle n) handles) k scope ≡ under.answer (iterated_under n) (iterated seen handles k scope)
iterated_alike n seen observation alike handles k scope =
    then_under (option_map n.number) (iterated_under n) (scope_of observation (map (under.handle n) handles) scope) (scope_of seen handles scope)
    (λ above. iteration_in_room observation (map (under.handle n) handles) above (listed_of observation k above)) (λ above. iteration_in_room seen handles above (listed_of seen k above))
    (scope_under n seen observation alike handles scope)
    (λ above is.
    let opened = scope_open seen handles scope above is in
    let objects =
    ap (filter (λ o. is_of k (observation.kind o))) (alike.listed above opened)
    ∙ filter_under n.number (λ o. is_of k (seen.kind o)) (λ o. is_of k (observation.kind o)) (λ o. ap (is_of k) (alike.kind o)) (seen.listed above) in
    ap (iteration_in_room observation (map (under.handle n) handles) (option_map n.number above)) objects
    ∙ in_room_under n seen observation alike handles above opened (listed_of seen k above))

-- ---- properties

-- a size is the same where kind and width are
size_test : (k l : Option Kind) (w v : ℕ) → k ≡ l → w ≡ v → test_size k w ≡ test_size l v
size_test k l w v e f = cc

-- a number of an object
number_at_under : (n : Renumbering) (seen observation : Observer) → IsSeenAs n seen observation → (p : NumberProperty) (o : ℕ) → number_at observation p (n.number o) ≡ number_at seen p o
number_at_under n seen observation alike number.Size o = size_test (observation.kind (n.number o)) (seen.kind o) (observation.width (n.number o)) (seen.width o) (alike.kind o) (alike.width o)
number_at_under n seen observation alike number.Line o = ap Ok (alike.line o)

-- a number of a handle's object
number_under : (n : Renumbering) (seen observation : Observer) → IsSeenAs n seen observation → (p : NumberProperty) (found : Option ℕ) → number_of observation p (option_map n.number found) ≡ number_of seen p found
number_under n seen observation alike p found =
    then_under n.number (λ (x : ℕ). x) (allowed observation right.List (option_map n.number found)) (allowed seen right.List found) (number_at observation p) (number_at seen p)
    (allowed_under n seen observation alike right.List found) (λ o is. number_at_under n seen observation alike p o ∙ sym (same_answer (number_at seen p o)))
    ∙ same_answer (number_of seen p found)

-- a text of an object
text_at_under : (n : Renumbering) (seen observation : Observer) → IsSeenAs n seen observation → (p : TextProperty) (o : ℕ) → text_at observation p (n.number o) ≡ text_at seen p o
text_at_under n seen observation alike text.Type o = ap (λ k. or_refusal (option_map type_name k) error.WrongKind) (alike.kind o)
text_at_under n seen observation alike text.Name o = ap Ok (alike.name o)
text_at_under n seen observation alike text.FullName o = ap Ok (alike.full_name o)
text_at_under n seen observation alike text.DefinitionName o = ap (λ d. or_refusal d error.WrongKind) (alike.definition o)

-- a text of a handle's object
text_under : (n : Renumbering) (seen observation : Observer) → IsSeenAs n seen observation → (p : TextProperty) (found : Option ℕ) → text_of observation p (option_map n.number found) ≡ text_of seen p found
text_under n seen observation alike p found =
    then_under n.number (λ (x : List ℕ). x) (allowed observation right.List (option_map n.number found)) (allowed seen right.List found) (text_at observation p) (text_at seen p)
    (allowed_under n seen observation alike right.List found) (λ o is. text_at_under n seen observation alike p o ∙ sym (same_answer (text_at seen p o)))
    ∙ same_answer (text_of seen p found)

-- ---- values

-- the value of a handle's object
value_under : (n : Renumbering) (seen observation : Observer) → IsSeenAs n seen observation → (found : Option ℕ) → value_of observation (option_map n.number found) ≡ value_of seen found
value_under n seen observation alike found =
    then_under n.number (λ (x : List Bit). x) (allowed observation right.Read (option_map n.number found)) (allowed seen right.Read found)
    (λ o. or_refusal (observation.value o) error.WrongKind) (λ o. or_refusal (seen.value o) error.WrongKind)
    (allowed_under n seen observation alike right.Read found)
    (λ o is. ap (λ v. or_refusal v error.WrongKind) (alike.value o (allowed_ok seen right.Read found o is)) ∙ sym (same_answer (or_refusal (seen.value o) error.WrongKind)))
    ∙ same_answer (value_of seen found)

-- what a put sets, under another number
set_finished : (n : Renumbering) (b : Bool) (o : ℕ) (bits : List Bit) → test_finished b (n.number o) bits ≡ under.answer (under.put n) (test_finished b o bits)
set_finished n true o bits = refl
set_finished n false o bits = refl

-- the same of bits that may be none
set_under : (n : Renumbering) (seen observation : Observer) → IsSeenAs n seen observation → (o : ℕ) (bits : Option (List Bit))
    → set_by observation (n.number o) bits ≡ under.answer (under.put n) (set_by seen o bits)
set_under n seen observation alike o None = refl
set_under n seen observation alike o (Some bits) = ap (λ (b : Bool). test_finished b (n.number o) bits) alike.finished ∙ set_finished n seen.finished o bits

-- the same of an object that may be no reg
reg_under : (n : Renumbering) (b : Bool) (x' : Result (ℕ × List Bit) VpiError) (x : Result (ℕ × List Bit) VpiError) → x' ≡ under.answer (under.put n) x
    → test_reg b x' ≡ under.answer (under.put n) (test_reg b x)
reg_under n true x' x e = e
reg_under n false x' x e = refl

-- what a put sets of an object
put_at_under : (n : Renumbering) (seen observation : Observer) → IsSeenAs n seen observation → (v : PutValue) (o : ℕ)
    → put_at observation v (n.number o) ≡ under.answer (under.put n) (put_at seen v o)
put_at_under n seen observation alike v o =
    ap (λ k. test_reg (is_reg k) (set_by observation (n.number o) (put_bits (observation.width (n.number o)) v))) (alike.kind o)
    ∙ reg_under n (is_reg (seen.kind o)) (set_by observation (n.number o) (put_bits (observation.width (n.number o)) v)) (set_by seen o (put_bits (seen.width o) v))
    (ap (λ (w : ℕ). set_by observation (n.number o) (put_bits w v)) (alike.width o) ∙ set_under n seen observation alike o (put_bits (seen.width o) v))

-- what a put sets of a handle's object
put_alike : (n : Renumbering) (seen observation : Observer) → IsSeenAs n seen observation → (v : PutValue) (found : Option ℕ)
    → put_of observation v (option_map n.number found) ≡ under.answer (under.put n) (put_of seen v found)
put_alike n seen observation alike v found =
    then_under n.number (under.put n) (allowed observation right.Put (option_map n.number found)) (allowed seen right.Put found) (put_at observation v) (put_at seen v)
    (allowed_under n seen observation alike right.Put found) (λ o is. put_at_under n seen observation alike v o)

-- ---- numbers in order

-- two numbers are the same where the others are
both_ways : (n : Renumbering) (a b : ℕ) → (n.number a == n.number b) ≡ (a == b)
both_ways n a b = order_equal (n.number a) (n.number b) a b (n.in_order a b) (n.in_order b a)

-- and less where the others are
less_under : (n : Renumbering) (a b : ℕ) → nat_lt (n.number a) (n.number b) ≡ nat_lt a b
less_under n a b = order_less (n.number a) (n.number b) a b (n.in_order b a)

-- two handles are of one object
same_under : (n : Renumbering) (a b : Option ℕ) → same_of (option_map n.number a) (option_map n.number b) ≡ same_of a b
same_under n None b = refl
same_under n (Some a) None = refl
same_under n (Some a) (Some b) = ap Ok (both_ways n a b)

-- ---- callbacks

-- a callback is on an object
on_under : (n : Renumbering) (o : ℕ) (c : Callback) → registry.is_on (n.number o) (under.callback n c) ≡ registry.is_on o c
on_under n o c = both_ways n c.object.0 o

-- on it or a lower one
by_under : (n : Renumbering) (o : ℕ) (c : Callback) → registry.is_by (n.number o) (under.callback n c) ≡ registry.is_by o c
by_under n o c = n.in_order c.object.0 o

-- on a higher one
beyond_under : (n : Renumbering) (o : ℕ) (c : Callback) → registry.is_past_goal (n.number o) (under.callback n c) ≡ registry.is_past_goal o c
beyond_under n o c = less_under n o c.object.0

-- a callback more among those of a session
callback_with_under : (n : Renumbering) (cs : List Callback) (new : Callback)
    → registry.with_callback (map (under.callback n) cs) (under.callback n new) ≡ map (under.callback n) (registry.with_callback cs new)
callback_with_under n cs new =
    let o = new.object.0 in
    let f = under.callback n in
    ap (λ xs. xs ++ f new ∷ filter (registry.is_past_goal (n.number o)) (map f cs)) (filter_under f (registry.is_by o) (registry.is_by (n.number o)) (by_under n o) cs)
    ∙ ap (λ ys. map f (filter (registry.is_by o) cs) ++ f new ∷ ys) (filter_under f (registry.is_past_goal o) (registry.is_past_goal (n.number o)) (beyond_under n o) cs)
    ∙ sym (map-append f (filter (registry.is_by o) cs) (new ∷ filter (registry.is_past_goal o) cs))

-- the same of the session's callbacks and notices
registered_under : (n : Renumbering) (r : registry.RegistryState) (o : ℕ) → registry.registered (under.registry n r) (n.number o) ≡ under.registry n (registry.registered r o)
registered_under n r o =
    ap (λ cs. record { callbacks = cs; given = r.given + 1; waiting = map (under.notice n) r.waiting; lost = r.lost })
    (callback_with_under n r.callbacks (record { number = r.given + 1; object = record { 0 = o } }))

-- there is as much room for callbacks
room_for_callback : (n : Renumbering) (r : registry.RegistryState) → registry.is_full (under.registry n r) ≡ registry.is_full r
room_for_callback n r = ap (λ (k : ℕ). not (nat_lt k 1024) || (r.given == 2 ^ 32 - 1)) (length-map r.callbacks (under.callback n))

-- a callback has a number
numbered_under : (n : Renumbering) (r : registry.RegistryState) (c : ℕ) → registry.has_number (under.registry n r) c ≡ registry.has_number r c
numbered_under n r c = any_under (under.callback n) (registry.is_numbered c) (registry.is_numbered c) (λ x. refl) r.callbacks

-- callbacks without that of a number
without_under : (n : Renumbering) (r : registry.RegistryState) (c : ℕ) → registry.without (under.registry n r) c ≡ under.registry n (registry.without r c)
without_under n r c =
    ap (λ cs. record { callbacks = cs; given = r.given; waiting = map (under.notice n) r.waiting; lost = r.lost })
    (filter_under (under.callback n) (λ x. not (registry.is_numbered c x)) (λ x. not (registry.is_numbered c x)) (λ x. refl) r.callbacks)

-- a handle's object, whose changes can be watched
watchable_under : (n : Renumbering) (seen observation : Observer) → IsSeenAs n seen observation → (found : Option ℕ) → watchable_of observation (option_map n.number found) ≡ under.answer n.number (watchable_of seen found)
watchable_under n seen observation alike found =
    then_under n.number n.number (allowed observation right.Watch (option_map n.number found)) (allowed seen right.Watch found)
    (λ o. test_kind (is_watchable (observation.kind o)) o) (λ o. test_kind (is_watchable (seen.kind o)) o)
    (allowed_under n seen observation alike right.Watch found)
    (λ o is. ap (λ k. test_kind (is_watchable k) (n.number o)) (alike.kind o) ∙ kind_found n (is_watchable (seen.kind o)) o)

-- a handle's object, for a callback
watched_under : (n : Renumbering) (seen observation : Observer) → IsSeenAs n seen observation → (r : registry.RegistryState) (found : Option ℕ)
    → watched_of observation (under.registry n r) (option_map n.number found) ≡ under.answer n.number (watched_of seen r found)
watched_under n seen observation alike r found =
    then_under n.number n.number (watchable_of observation (option_map n.number found)) (watchable_of seen found)
    (λ o. test_callbacks (registry.is_full (under.registry n r)) o) (λ o. test_callbacks (registry.is_full r) o)
    (watchable_under n seen observation alike found)
    (λ o is. ap (λ (b : Bool). test_callbacks b (n.number o)) (room_for_callback n r) ∙ callbacks_found n (registry.is_full r) o)

-- ---- what comes of a query

-- what comes of an answer, or of its refusal
response_under : {A B : Type 0} (n : Renumbering) (f : A → B) (s : SessionState) (given' : B → Response) (given : A → Response) (due' : Result B VpiError) (due : Result A VpiError)
    → due' ≡ under.answer f due → ((x : A) → given' (f x) ≡ under.response n (given x)) → response_by (under.session_state n s) given' due' ≡ under.response n (response_by s given due)
response_under n f s given' given due' (Ok x) e h = ap (response_by (under.session_state n s) given') e ∙ h x
response_under n f s given' given due' (Err r) e h = ap (response_by (under.session_state n s) given') e

-- the same where only a reply comes of it
reply_under : {A : Type 0} (n : Renumbering) (s : SessionState) (given : A → Reply) (due' due : Result A VpiError) → due' ≡ due
    → reply_with (under.session_state n s) given due' ≡ under.response n (reply_with s given due)
reply_under n s given due' due e =
    response_under n (λ x. x) s (λ x. only_told (under.session_state n s) (given x)) (λ x. only_told s (given x)) due' due (e ∙ sym (same_answer due)) (λ x. refl)

-- what comes of a handle that is made
made_under : (n : Renumbering) (s : SessionState) (o : ℕ) → made (under.session_state n s) (n.number o) ≡ under.response n (made s o)
made_under n s o =
    ap (λ (h : ℕ). record { reply = reply.Handle h; session_state = with_handle (n.number o) (under.session_state n s); goal = Stays; put = None }) (next_under n s.handles)
    ∙ ap (λ t. record { reply = reply.Handle (next_handle s.handles); session_state = t; goal = Stays; put = None }) (with_handles_under n (handle_to o ∷ []) s)

-- of an iteration
scanned_under : (n : Renumbering) (s : SessionState) (i : Iterated) → scanned (under.session_state n s) (iterated_under n i) ≡ under.response n (scanned s i)
scanned_under n s i = ap (λ t. record { reply = reply.Listing i.listing; session_state = t; goal = Stays; put = None }) (with_handles_under n i.handles s)

-- handles without that of a number
freed_handles : (n : Renumbering) (h : ℕ) (handles : List (Option ObjectId)) → session_states.freed h (map (under.handle n) handles) ≡ map (under.handle n) (session_states.freed h handles)
freed_handles n zero handles = refl
freed_handles n (suc h) handles = sym (map-set (under.handle n) handles h None)

-- what comes of a handle that is freed
freed_under : (n : Renumbering) (s : SessionState) (h : ℕ) → freed (under.session_state n s) h ≡ under.response n (freed s h)
freed_under n s h =
    ap (λ hs. record { reply = reply.Done; session_state = record { user = s.user; handles = hs; registry = under.registry n s.registry }; goal = Stays; put = None }) (freed_handles n h s.handles)

-- of a callback that is registered
watching_under : (n : Renumbering) (s : SessionState) (o : ℕ) → watching (under.session_state n s) (n.number o) ≡ under.response n (watching s o)
watching_under n s o =
    ap (λ r. record { reply = reply.Callback (s.registry.given + 1); session_state = record { user = s.user; handles = map (under.handle n) s.handles; registry = r }; goal = Stays; put = None })
    (registered_under n s.registry o)

-- a session without a callback
without_session_state : (n : Renumbering) (s : SessionState) (c : ℕ) → without_callback c (under.session_state n s) ≡ under.session_state n (without_callback c s)
without_session_state n s c = ap (λ r. record { user = s.user; handles = map (under.handle n) s.handles; registry = r }) (without_under n s.registry c)

-- what comes of its removal, where there is one and where there is none
unwatch_test : (n : Renumbering) (s : SessionState) (c : ℕ) (b : Bool)
    → (if b then only_told (without_callback c (under.session_state n s)) reply.Done else only_told (under.session_state n s) (refused error.NoSuchCallback))
    ≡ under.response n (if b then only_told (without_callback c s) reply.Done else only_told s (refused error.NoSuchCallback))
unwatch_test n s c true = ap (λ t. only_told t reply.Done) (without_session_state n s c)
unwatch_test n s c false = refl

-- the same by its number
unwatch_under : (n : Renumbering) (s : SessionState) (c : ℕ) → unwatch_response (under.session_state n s) c ≡ under.response n (unwatch_response s c)
unwatch_under n s c =
    ap (λ (b : Bool). if b then only_told (without_callback c (under.session_state n s)) reply.Done else only_told (under.session_state n s) (refused error.NoSuchCallback)) (numbered_under n s.registry c)
    ∙ unwatch_test n s c (registry.has_number s.registry c)

-- notices as a poll gives them name no object
polled_under : (n : Renumbering) (ns : List Notice) → map registry.polled_notice (map (under.notice n) ns) ≡ map registry.polled_notice ns
polled_under n [] = refl
polled_under n (x ∷ ns) = ap (λ ps. registry.polled_notice x ∷ ps) (polled_under n ns)

-- what comes of a poll
polling_under : (n : Renumbering) (s : SessionState) → polling (under.session_state n s) ≡ under.response n (polling s)
polling_under n s =
    ap (λ ps. only_told (under.session_state n (drained s)) (reply.Notices (record { notices = ps; lost = s.registry.lost }))) (polled_under n s.registry.waiting)

-- what comes of a query to change the goal, where the user may and where he may not
steer_test : (n : Renumbering) (s : SessionState) (change : GoalChange) (b : Bool)
    → record { reply = if b then reply.Done else reply.RunDenied; session_state = under.session_state n s; goal = if b then change else Stays; put = None }
    ≡ under.response n (record { reply = if b then reply.Done else reply.RunDenied; session_state = s; goal = if b then change else Stays; put = None })
steer_test n s change true = refl
steer_test n s change false = refl

-- by what can be looked up
steering_under : (n : Renumbering) (seen observation : Observer) → IsSeenAs n seen observation → (s : SessionState) (change : GoalChange)
    → steering observation (under.session_state n s) change ≡ under.response n (steering seen s change)
steering_under n seen observation alike s change =
    ap (λ (b : Bool). record { reply = if b then reply.Done else reply.RunDenied; session_state = under.session_state n s; goal = if b then change else Stays; put = None }) alike.may_run
    ∙ steer_test n s change seen.may_run

-- what a session is answered is the same under other numbers of its objects
pub respond_under : (n : Renumbering) (seen observation : Observer) → IsSeenAs n seen observation → (s : SessionState) (r : Query)
    → respond observation (under.session_state n s) r ≡ under.response n (respond seen s r)
respond_under n seen observation alike s (query.Handle name scope) =
    response_under n n.number s (made (under.session_state n s)) (made s) (handle_of observation (map (under.handle n) s.handles) scope name) (handle_of seen s.handles scope name)
    (handle_under n seen observation alike s.handles scope name) (made_under n s)
respond_under n seen observation alike s (query.Iterate k scope) =
    response_under n (iterated_under n) s (scanned (under.session_state n s)) (scanned s) (iterated observation (map (under.handle n) s.handles) k scope) (iterated seen s.handles k scope)
    (iterated_alike n seen observation alike s.handles k scope) (scanned_under n s)
respond_under n seen observation alike s (query.Get h p) =
    reply_under n s reply.Number (number_of observation p (object_of (map (under.handle n) s.handles) h)) (number_of seen p (object_of s.handles h))
    (ap (number_of observation p) (object_under n s.handles h) ∙ number_under n seen observation alike p (object_of s.handles h))
respond_under n seen observation alike s (query.GetStr h p) =
    reply_under n s reply.Text (text_of observation p (object_of (map (under.handle n) s.handles) h)) (text_of seen p (object_of s.handles h))
    (ap (text_of observation p) (object_under n s.handles h) ∙ text_under n seen observation alike p (object_of s.handles h))
respond_under n seen observation alike s (query.Value h f) =
    reply_under n s (value_in f) (value_of observation (object_of (map (under.handle n) s.handles) h)) (value_of seen (object_of s.handles h))
    (ap (value_of observation) (object_under n s.handles h) ∙ value_under n seen observation alike (object_of s.handles h))
respond_under n seen observation alike s (query.Put h v) =
    response_under n (under.put n) s (putting (under.session_state n s)) (putting s) (put_of observation v (object_of (map (under.handle n) s.handles) h)) (put_of seen v (object_of s.handles h))
    (ap (put_of observation v) (object_under n s.handles h) ∙ put_alike n seen observation alike v (object_of s.handles h)) (λ x. refl)
respond_under n seen observation alike s (query.Compare a b) =
    reply_under n s reply.Same (same_of (object_of (map (under.handle n) s.handles) a) (object_of (map (under.handle n) s.handles) b)) (same_of (object_of s.handles a) (object_of s.handles b))
    (ap (λ x. same_of x (object_of (map (under.handle n) s.handles) b)) (object_under n s.handles a)
    ∙ ap (same_of (option_map n.number (object_of s.handles a))) (object_under n s.handles b)
    ∙ same_under n (object_of s.handles a) (object_of s.handles b))
respond_under n seen observation alike s (query.Free h) =
    response_under n n.number s (λ o. freed (under.session_state n s) h) (λ o. freed s h) (or_refusal (object_of (map (under.handle n) s.handles) h) error.BadHandle)
    (or_refusal (object_of s.handles h) error.BadHandle)
    (ap (λ x. or_refusal x error.BadHandle) (object_under n s.handles h) ∙ refusal_or n (object_of s.handles h)) (λ o. freed_under n s h)
respond_under n seen observation alike s (query.Watch h) =
    response_under n n.number s (watching (under.session_state n s)) (watching s) (watched_of observation (under.registry n s.registry) (object_of (map (under.handle n) s.handles) h))
    (watched_of seen s.registry (object_of s.handles h))
    (ap (watched_of observation (under.registry n s.registry)) (object_under n s.handles h) ∙ watched_under n seen observation alike s.registry (object_of s.handles h)) (watching_under n s)
respond_under n seen observation alike s (query.Unwatch c) = unwatch_under n s c
respond_under n seen observation alike s query.Poll = polling_under n s
respond_under n seen observation alike s (query.Races from) =
    ap (λ races. only_told (under.session_state n s) (reply.Races (take race_limit (lines_from (max 1 from) (drop (from - 1) races))))) alike.races
respond_under n seen observation alike s (query.Race k) =
    reply_under n s reply.Race (race_of observation k) (race_of seen k)
    (ap (λ races. or_refusal (option_map (race_details k) (shown_at races k)) error.NoSuchRace) alike.races)
respond_under n seen observation alike s (query.Run until) = steering_under n seen observation alike s (RisesTo until)
respond_under n seen observation alike s query.Stop = steering_under n seen observation alike s Ends
respond_under n seen observation alike s query.Time =
    ap (λ (t : ℕ). only_told (under.session_state n s) (reply.Time t observation.finished)) alike.time
    ∙ ap (λ (b : Bool). only_told (under.session_state n s) (reply.Time seen.time b)) alike.finished

-- ---- what happens to a session without a query

-- a notice more waits, or is lost
waiting_test : (n : Renumbering) (b : Bool) (r : registry.RegistryState) (t : Notice) → test_waiting b (under.registry n r) (under.notice n t) ≡ under.registry n (test_waiting b r t)
waiting_test n true r t =
    ap (λ ts. record { callbacks = map (under.callback n) r.callbacks; given = r.given; waiting = ts; lost = r.lost }) (sym (map-append (under.notice n) r.waiting (t ∷ [])))
waiting_test n false r t = refl

-- the same, by how many wait
notice_under : (n : Renumbering) (r : registry.RegistryState) (t : Notice) → registry.with_notice (under.registry n r) (under.notice n t) ≡ under.registry n (registry.with_notice r t)
notice_under n r t =
    ap (λ (k : ℕ). test_waiting (nat_lt k 4096) (under.registry n r) (under.notice n t)) (length-map r.waiting (under.notice n))
    ∙ waiting_test n (nat_lt (length r.waiting) 4096) r t

-- several, in turn
notices_under : (n : Renumbering) (ts : List Notice) (r : registry.RegistryState)
    → fold registry.with_notice (under.registry n r) (map (under.notice n) ts) ≡ under.registry n (fold registry.with_notice r ts)
notices_under n [] r = refl
notices_under n (t ∷ ts) r =
    ap (λ q. fold registry.with_notice q (map (under.notice n) ts)) (notice_under n r t) ∙ notices_under n ts (registry.with_notice r t)

-- the notices of callbacks of a change
notices_of_under : (n : Renumbering) (c : Change) (time : ℕ) (cs : List Callback)
    → map (registry.notice_of (under.change n c) time) (map (under.callback n) cs) ≡ map (under.notice n) (map (registry.notice_of c time) cs)
notices_of_under n c time [] = refl
notices_of_under n c time (x ∷ cs) = ap (λ ts. under.notice n (registry.notice_of c time x) ∷ ts) (notices_of_under n c time cs)

-- a change is due to the callbacks on its object
due_registry : (n : Renumbering) (r : registry.RegistryState) (c : Option Change) (time : ℕ)
    → registry.due (under.registry n r) (option_map (under.change n) c) time ≡ under.registry n (registry.due r c time)
due_registry n r None time = refl
due_registry n r (Some c) time =
    ap (λ cs. fold registry.with_notice (under.registry n r) (map (registry.notice_of (under.change n c) time) cs))
    (filter_under (under.callback n) (registry.is_on c.object.0) (registry.is_on (n.number c.object.0)) (on_under n c.object.0) r.callbacks)
    ∙ ap (fold registry.with_notice (under.registry n r)) (notices_of_under n c time (filter (registry.is_on c.object.0) r.callbacks))
    ∙ notices_under n (map (registry.notice_of c time) (filter (registry.is_on c.object.0) r.callbacks)) r

-- the same of a session
pub due_under : (n : Renumbering) (c : Option Change) (time : ℕ) (s : SessionState) → with_due (option_map (under.change n) c) time (under.session_state n s) ≡ under.session_state n (with_due c time s)
due_under n c time s = ap (λ r. record { user = s.user; handles = map (under.handle n) s.handles; registry = r }) (due_registry n s.registry c time)

-- a session without its callbacks and notices of objects of which a test holds, which says the same of an object under both numbers
pub retired_under : (n : Renumbering) (gone gone' : ℕ → Bool) → ((o : ℕ) → gone' (n.number o) ≡ gone o) → (s : SessionState) → retired gone' (under.session_state n s) ≡ under.session_state n (retired gone s)
retired_under n gone gone' same s =
    ap (λ cs. record {
      user = s.user;
      handles = map (under.handle n) s.handles;
      registry = record {
        callbacks = cs;
        given = s.registry.given;
        waiting = filter (λ t. not (gone' t.object.0)) (map (under.notice n) s.registry.waiting);
        lost = s.registry.lost;
      };
    })
    (filter_under (under.callback n) (λ c. not (gone c.object.0)) (λ c. not (gone' c.object.0)) (λ c. ap not (same c.object.0)) s.registry.callbacks)
    ∙ ap (λ ts. record {
      user = s.user;
      handles = map (under.handle n) s.handles;
      registry = record {
        callbacks = map (under.callback n) (filter (λ c. not (gone c.object.0)) s.registry.callbacks);
        given = s.registry.given;
        waiting = ts;
        lost = s.registry.lost;
      };
    })
    (filter_under (under.notice n) (λ t. not (gone t.object.0)) (λ t. not (gone' t.object.0)) (λ t. ap not (same t.object.0)) s.registry.waiting)
