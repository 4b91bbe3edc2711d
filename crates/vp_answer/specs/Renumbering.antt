-- Objects under other numbers.
use Rattle.std.specs.Prelude.{◌≡◌, ℕ, nat_le, true, List, map, Option, Some, None, option_map, Result, Ok, Err}
use Rattle.vp_bits.specs.declared.bit.Bit.{Bit}
use Rattle.vp_pragma.specs.declared.rights.Right.{Right}
use Rattle.vp_pragma.specs.declared.rights.Right.TheVariants as right
use Rattle.vp_elab.specs.declared.object.ObjectId.{ObjectId}
use Rattle.vp_notify.specs.Change.{Change}
use Rattle.vp_notify.specs.declared.registry.Callback.{Callback}
use Rattle.vp_notify.specs.declared.notice.Notice.{Notice}
use Rattle.vp_notify.specs.Registry.{RegistryState}
use Rattle.vp_vpi.specs.Observers.{Absent, Denied, Found, Lookup, Observer}
use Rattle.vp_vpi.specs.Calls.{is_module}
use Rattle.vp_vpi.specs.SessionStates.{SessionState}
use Rattle.vp_answer.specs.Answers.{Response}

-- other numbers for objects, in the same order
pub record Renumbering : Type 0 where
  pub number : ℕ → ℕ
  pub in_order : (a b : ℕ) → nat_le (number a) (number b) ≡ nat_le a b

-- an object
abbrev pub object : Renumbering → ObjectId → ObjectId
object n o = record { 0 = n.number o.0 }

-- a handle, which was freed or not
abbrev pub handle : Renumbering → Option ObjectId → Option ObjectId
handle n h = option_map (object n) h

-- a callback
abbrev pub callback : Renumbering → Callback → Callback
callback n c = record { number = c.number; object = object n c.object }

-- a notice
abbrev pub notice : Renumbering → Notice → Notice
notice n t = record { callback = t.callback; object = object n t.object; time = t.time; value = t.value }

-- a change
abbrev pub change : Renumbering → Change → Change
change n c = record { object = object n c.object; value = c.value }

-- the callbacks of a session
abbrev pub registry : Renumbering → RegistryState → RegistryState
registry n r = record { callbacks = map (callback n) r.callbacks; given = r.given; waiting = map (notice n) r.waiting; lost = r.lost }

-- a session
abbrev pub session_state : Renumbering → SessionState → SessionState
session_state n s = record { user = s.user; handles = map (handle n) s.handles; registry = registry n s.registry }

-- a look-up
abbrev pub lookup : Renumbering → Lookup → Lookup
lookup n (Found o) = Found (n.number o)
lookup n (Denied words) = Denied words
lookup n Absent = Absent

-- an answer or a refusal
abbrev pub answer : {A B E : Type 0} → (A → B) → Result A E → Result B E
answer f (Ok x) = Ok (f x)
answer f (Err e) = Err e

-- a put
abbrev pub put : Renumbering → ℕ × List Bit → ℕ × List Bit
put n p = (n.number p.0, p.1)

-- what comes of a query: the reply is the same, since it reports no object's number
abbrev pub response : Renumbering → Response → Response
response n g = record g { session_state = session_state n g.session_state; put = option_map (put n) g.put }

-- a scope in which a session may look up names: that of the top modules, or a module that is listed
abbrev pub IsOpen : Observer → (scope : Option ℕ) → Type 0
IsOpen seen None = Unit {0}
IsOpen seen (Some o) = (seen.denied right.List o ≡ None) × (is_module (seen.kind o) ≡ true)

-- the same can be looked up, under other numbers
pub record IsSeenAs (n : Renumbering) (seen observation : Observer) : Type 0 where
  pub denied : (r : Right) → (o : ℕ) → observation.denied r (n.number o) ≡ seen.denied r o
  pub kind : (o : ℕ) → observation.kind (n.number o) ≡ seen.kind o
  pub width : (o : ℕ) → observation.width (n.number o) ≡ seen.width o
  pub line : (o : ℕ) → observation.line (n.number o) ≡ seen.line o
  pub name : (o : ℕ) → observation.name (n.number o) ≡ seen.name o
  pub full_name : (o : ℕ) → observation.full_name (n.number o) ≡ seen.full_name o
  pub definition : (o : ℕ) → observation.definition (n.number o) ≡ seen.definition o
  pub value : (o : ℕ) → seen.denied right.Read o ≡ None → observation.value (n.number o) ≡ seen.value o
  pub named : (scope : Option ℕ) → IsOpen seen scope → (name : List ℕ)
      → observation.named (option_map n.number scope) name ≡ lookup n (seen.named scope name)
  pub listed : (scope : Option ℕ) → IsOpen seen scope → observation.listed (option_map n.number scope) ≡ map n.number (seen.listed scope)
  pub closed : (scope : Option ℕ) → IsOpen seen scope → observation.closed (option_map n.number scope) ≡ seen.closed scope
  pub may_run : observation.may_run ≡ seen.may_run
  pub time : observation.time ≡ seen.time
  pub finished : observation.finished ≡ seen.finished
  pub races : observation.races ≡ seen.races
