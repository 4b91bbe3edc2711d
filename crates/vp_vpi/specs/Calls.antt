-- What a session's calls are answered: the first refusal that holds, else the value.
use Rattle.std.specs.Prelude.{◌≡◌, ℕ, zero, suc, ◌+◌, ◌-◌, ◌*◌, ◌/◌, ◌^◌, ◌==◌, ◌&&◌, ◌⊎◌, nat_le, Bool, true, false, if◌then◌else◌, List, [], ◌∷◌, drop, filter, length, map, max, reverse, slice_get, take, Option, Some, None, option_map, Result, Ok, Err}
use Rattle.vp_bits.specs.declared.bit.Bit.{Bit}
use Rattle.vp_bits.specs.Digits.{digits_bits}
use Rattle.vp_bits.specs.Vector.{bits_of_words}
use Rattle.vp_pragma.specs.declared.rights.Right.{Right}
use Rattle.vp_pragma.specs.declared.rights.Right.TheVariants as right
use Rattle.vp_elab.specs.declared.object.Kind.{Kind}
use Rattle.vp_elab.specs.declared.object.Kind.TheVariants as kind
use Rattle.vp_elab.specs.declared.object.ObjectId.{ObjectId}
use Rattle.vp_elab.specs.Tree.{type_name}
use Rattle.vp_policy.specs.Denials.{DenialText}
use Rattle.vp_notify.specs.Registry as registry
use Rattle.vp_vpi.specs.declared.error.VpiError.{VpiError}
use Rattle.vp_vpi.specs.declared.error.VpiError.TheVariants as error
use Rattle.vp_vpi.specs.declared.iteration.ListedObject.{ListedObject}
use Rattle.vp_vpi.specs.declared.iteration.Listing.{Listing}
use Rattle.vp_vpi.specs.declared.property.NumberProperty.{NumberProperty}
use Rattle.vp_vpi.specs.declared.property.NumberProperty.TheVariants as number
use Rattle.vp_vpi.specs.declared.property.TextProperty.{TextProperty}
use Rattle.vp_vpi.specs.declared.property.TextProperty.TheVariants as text
use Rattle.vp_vpi.specs.declared.property.VectorWord.{VectorWord}
use Rattle.vp_vpi.specs.declared.property.PutValue.{PutValue}
use Rattle.vp_vpi.specs.declared.property.PutValue.TheVariants as put
use Rattle.vp_vpi.specs.declared.races.RaceLine.{RaceLine}
use Rattle.vp_vpi.specs.declared.races.RaceDetails.{RaceDetails}
use Rattle.vp_vpi.specs.declared.races.ShownRace.{ShownRace}
use Rattle.vp_vpi.specs.Observers.{Absent, Denied, Found, Lookup, Observer, is_readable}
use Rattle.vp_vpi.specs.SessionStates.{handle_to, has_room, is_full, next_handle, object_of}

-- what comes next of a value; a refusal stays
abbrev pub then_by : {A B : Type 0} → Result A VpiError → (A → Result B VpiError) → Result B VpiError
then_by (Ok x) next = next x
then_by (Err e) next = Err e

-- a value that is there; or else this refusal
abbrev pub or_refusal : {A : Type 0} → Option A → VpiError → Result A VpiError
or_refusal None e = Err e
or_refusal (Some x) e = Ok x

-- an object on which a right is not denied; or the denial
abbrev pub undenied : ℕ → Option DenialText → Result ℕ VpiError
undenied o None = Ok o
undenied o (Some words) = Err (error.Denied words)

-- the object of a handle, on which the user has a right; or the refusal that it is no handle, or the denial, in this order (profile)
abbrev pub allowed : Observer → Right → Option ℕ → Result ℕ VpiError
allowed observation r found = then_by (or_refusal found error.BadHandle) (λ o. undenied o (observation.denied r o))

-- ---- names

-- a kind is that of modules
abbrev pub is_module : Option Kind → Bool
is_module None = false
is_module (Some kind.Module) = true
is_module (Some k) = false

-- the scope of a handle, which is a module; none: the top modules are its names; or the refusal of the handle, the denial of list,
-- the wrong kind, in this order (profile)
abbrev pub scope_of : Observer → List (Option ObjectId) → (handle : Option ℕ) → Result (Option ℕ) VpiError
scope_of observation handles None = Ok None
scope_of observation handles (Some handle) =
    then_by (allowed observation right.List (object_of handles handle))
    (λ o. if is_module (observation.kind o) then Ok (Some o) else Err error.WrongKind)

-- the object of the handle that a look-up makes; or the denial, too many handles, no such name, in this order (profile)
abbrev pub object_found : List (Option ObjectId) → Lookup → Result ℕ VpiError
object_found handles (Denied words) = Err (error.Denied words)
object_found handles Absent = if is_full handles then Err error.TooManyHandles else Err error.NoSuchName
object_found handles (Found o) = if is_full handles then Err error.TooManyHandles else Ok o

-- the object of the handle that a name in a scope makes; or the refusal of the scope, then those of the name (profile)
abbrev pub handle_of : Observer → List (Option ObjectId) → (scope : Option ℕ) → (name : List ℕ) → Result ℕ VpiError
handle_of observation handles scope name =
    then_by (scope_of observation handles scope) (λ above. object_found handles (observation.named above name))

-- ---- iterations

-- two kinds are the same
abbrev pub is_same : Kind → Kind → Bool
is_same kind.Module kind.Module = true
is_same kind.Net kind.Net = true
is_same kind.Reg kind.Reg = true
is_same kind.Parameter kind.Parameter = true
is_same kind.Always kind.Always = true
is_same kind.Initial kind.Initial = true
is_same kind.Assign kind.Assign = true
is_same a b = false

-- an object is there and of this kind
abbrev pub is_of : Kind → Option Kind → Bool
is_of k None = false
is_of k (Some found) = is_same k found

-- the objects of a kind that are listed in a scope, rising (clause 26.6.1, profile)
abbrev pub listed_of : Observer → Kind → (scope : Option ℕ) → List ℕ
listed_of observation k scope = filter (λ o. is_of k (observation.kind o)) (observation.listed scope)

-- the objects of an iteration, each with its name and the handle that is made of it, from this handle on
abbrev pub items_from : (name : ℕ → List ℕ) → (handle : ℕ) → List ℕ → List ListedObject
items_from name handle [] = []
items_from name handle (o ∷ os) = record { handle = handle; name = name o } ∷ items_from name (suc handle) os

-- what an iteration gives: what is reported of it, and the handles that it makes
pub record Iterated : Type 0 where
  pub listing : Listing
  pub handles : List (Option ObjectId)

-- an iteration over these objects: it reports the numbers of the envelopes that are closed in its scope, too (profile)
abbrev pub iteration : Observer → List (Option ObjectId) → (scope : Option ℕ) → List ℕ → Iterated
iteration observation handles scope objects = record {
  listing = record { closed = observation.closed scope; items = items_from observation.name (next_handle handles) objects };
  handles = map handle_to objects;
}

-- an iteration over these objects, if there is room for a handle of each: it makes all of them or none (profile)
abbrev pub iteration_in_room : Observer → List (Option ObjectId) → (scope : Option ℕ) → List ℕ → Result Iterated VpiError
iteration_in_room observation handles scope objects =
    if has_room (length objects) handles then Ok (iteration observation handles scope objects) else Err error.TooManyHandles

-- the iteration over the objects of a kind in the scope of a handle, or over the top modules; or the refusal of the scope, or too
-- many handles, in this order (profile)
abbrev pub iterated : Observer → List (Option ObjectId) → Kind → (scope : Option ℕ) → Result Iterated VpiError
iterated observation handles k scope =
    then_by (scope_of observation handles scope) (λ above. iteration_in_room observation handles above (listed_of observation k above))

-- ---- properties

-- a number of an object: its size, if it has a value, or its line (clause 26.6)
abbrev pub number_at : Observer → NumberProperty → ℕ → Result ℕ VpiError
number_at observation number.Size o = if is_readable (observation.kind o) then Ok (observation.width o) else Err error.WrongKind
number_at observation number.Line o = Ok (observation.line o)

-- the number of a handle's object; or its refusal, the denial of list, the wrong kind, in this order (profile)
abbrev pub number_of : Observer → NumberProperty → Option ℕ → Result ℕ VpiError
number_of observation p found = then_by (allowed observation right.List found) (number_at observation p)

-- a text of an object: the name of its type, its name, its full name, or the name of its definition, if it is a module (clause 26.6)
abbrev pub text_at : Observer → TextProperty → ℕ → Result (List ℕ) VpiError
text_at observation text.Type o = or_refusal (option_map type_name (observation.kind o)) error.WrongKind
text_at observation text.Name o = Ok (observation.name o)
text_at observation text.FullName o = Ok (observation.full_name o)
text_at observation text.DefinitionName o = or_refusal (observation.definition o) error.WrongKind

-- the text of a handle's object; or its refusal, the denial of list, the wrong kind, in this order (profile)
abbrev pub text_of : Observer → TextProperty → Option ℕ → Result (List ℕ) VpiError
text_of observation p found = then_by (allowed observation right.List found) (text_at observation p)

-- ---- values

-- the value of a handle's object; or its refusal, the denial of read, the wrong kind, in this order (profile)
abbrev pub value_of : Observer → Option ℕ → Result (List Bit) VpiError
value_of observation found = then_by (allowed observation right.Read found) (λ o. or_refusal (observation.value o) error.WrongKind)

-- how many words of 32 bits a vector of a width has (clause 27)
abbrev pub word_count : ℕ → ℕ
word_count width = (width + 31) / 32

-- the numbers that words of 32 bits spell, least significant first (clause 27)
abbrev pub number_of_words : List ℕ → ℕ
number_of_words [] = 0
number_of_words (w ∷ ws) = w + 2 ^ 32 * number_of_words ws

-- the words aval, and the words bval
abbrev pub avals : List VectorWord → List ℕ
avals [] = []
avals (w ∷ ws) = w.aval ∷ avals ws

abbrev pub bvals : List VectorWord → List ℕ
bvals [] = []
bvals (w ∷ ws) = w.bval ∷ bvals ws

-- the bits that words give a vector of a width: as many words as it needs, whose unused bits are 0 (clause 27, profile)
abbrev pub bits_of_vector : ℕ → List VectorWord → Option (List Bit)
bits_of_vector width words =
    if length words == word_count width
    then bits_of_words width (number_of_words (avals words)) (number_of_words (bvals words)) else None

-- the bits that digits give a vector of a width: as many digits as it has bits (profile)
abbrev pub digits_vector : ℕ → List ℕ → Option (List Bit)
digits_vector width digits = if length digits == width then option_map reverse (digits_bits digits) else None

-- the bits of a put's value, at a width
abbrev pub bits_by : ℕ → PutValue → Option (List Bit)
bits_by width (put.Digits digits) = digits_vector width digits
bits_by width (put.Words words) = bits_of_vector width words

-- the bits that a put gives a vector of a width; none where the value does not have that width, which is 1 to 64 (profile)
abbrev pub put_bits : ℕ → PutValue → Option (List Bit)
put_bits width v = if nat_le 1 width && nat_le width 64 then bits_by width v else None

-- a kind is that of regs
abbrev pub is_reg : Option Kind → Bool
is_reg None = false
is_reg (Some kind.Reg) = true
is_reg (Some k) = false

-- what a put of these bits sets of an object; or that they are none, or that $finish was executed, in this order (profile)
abbrev pub set_by : Observer → ℕ → Option (List Bit) → Result (ℕ × List Bit) VpiError
set_by observation o None = Err error.BadValue
set_by observation o (Some bits) = if observation.finished then Err error.Finished else Ok (o, bits)

-- what a put sets of an object; or the wrong kind, then the refusals of the value (profile)
abbrev pub put_at : Observer → PutValue → ℕ → Result (ℕ × List Bit) VpiError
put_at observation v o = if is_reg (observation.kind o) then set_by observation o (put_bits (observation.width o) v) else Err error.WrongKind

-- the object that a put sets, and its value; or the refusal of the handle, the denial of put, then those of the object and the value
-- (profile)
abbrev pub put_of : Observer → PutValue → Option ℕ → Result (ℕ × List Bit) VpiError
put_of observation v found = then_by (allowed observation right.Put found) (put_at observation v)

-- ---- callbacks

-- a kind is that of nets or of regs, whose changes can be watched (profile)
abbrev pub is_watchable : Option Kind → Bool
is_watchable None = false
is_watchable (Some kind.Net) = true
is_watchable (Some kind.Reg) = true
is_watchable (Some k) = false

-- the object of a handle, whose changes the user may watch; or the refusal of the handle, the denial of watch, the wrong kind, in
-- this order (profile)
abbrev pub watchable_of : Observer → Option ℕ → Result ℕ VpiError
watchable_of observation found =
    then_by (allowed observation right.Watch found) (λ o. if is_watchable (observation.kind o) then Ok o else Err error.WrongKind)

-- the object that a callback is registered on; or the refusals of the object, then too many callbacks (clause 27.33, profile)
abbrev pub watched_of : Observer → registry.RegistryState → Option ℕ → Result ℕ VpiError
watched_of observation r found =
    then_by (watchable_of observation found) (λ o. if registry.is_full r then Err error.TooManyCallbacks else Ok o)

-- ---- races

-- a race in a list, by its number there
abbrev pub line_of : (number : ℕ) → ShownRace → RaceLine
line_of number seen = record { name = seen.name; number = number; time = seen.time; values = seen.values }

-- races in a list, by their numbers from one on
abbrev pub lines_from : (number : ℕ) → List ShownRace → List RaceLine
lines_from number [] = []
lines_from number (seen ∷ rest) = line_of number seen ∷ lines_from (suc number) rest

-- at most so many races are reported in one list (profile)
abbrev pub race_limit : ℕ
race_limit = 100

-- the races that are reported from a number on, of those that are shown, which are numbered from 1; from 0 on is from 1 on (profile)
abbrev pub lines_of : Observer → (from : ℕ) → List RaceLine
lines_of observation from = take race_limit (lines_from (max 1 from) (drop (from - 1) observation.races))

-- the race of a number among those that are shown, if there is one
abbrev pub shown_at : {A : Type 0} → List A → (number : ℕ) → Option A
shown_at races zero = None
shown_at races (suc n) = slice_get races n

-- a race with its steps, by its number
abbrev pub race_details : (number : ℕ) → ShownRace → RaceDetails
race_details number seen = record { line = line_of number seen; first_steps = seen.first_steps; second_steps = seen.second_steps }

-- the race of a number; or that there is none (profile)
abbrev pub race_of : Observer → (number : ℕ) → Result RaceDetails VpiError
race_of observation number = or_refusal (option_map (race_details number) (shown_at observation.races number)) error.NoSuchRace

-- ---- handles

-- two handles are of one object; or the refusal that one is none: handles need no right (profile)
abbrev pub same_of : Option ℕ → Option ℕ → Result Bool VpiError
same_of a b =
    then_by (or_refusal a error.BadHandle) (λ first. then_by (or_refusal b error.BadHandle) (λ second. Ok (first == second)))

-- ---- errors

-- an error reports a refusal: it is the refusal; out of memory may stand in the place of a denial, whose words take memory
abbrev pub Tells : VpiError → VpiError → Type 0
Tells (error.Denied words) e = (e ≡ error.Denied words) ⊎ (e ≡ error.NoMemory)
Tells refusal e = e ≡ refusal

-- an error reports the refusal of an answer, which has one
abbrev pub Refuses : {A : Type 0} → Result A VpiError → VpiError → Type 0
Refuses (Ok x) e = ⊥
Refuses (Err refusal) e = Tells refusal e

-- an error reports the refusal of an answer; out of memory may stand in the place of a value, too
abbrev pub Explains : {A : Type 0} → Result A VpiError → VpiError → Type 0
Explains (Ok x) e = e ≡ error.NoMemory
Explains (Err refusal) e = Tells refusal e
