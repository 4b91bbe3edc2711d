-- The callbacks of a session, the notices that wait, and what each call makes of them (clause 27.33).
use Rattle.std.specs.Prelude.{ℕ, ◌+◌, ◌-◌, ◌^◌, ◌==◌, ◌||◌, nat_le, nat_lt, min, Bool, false, not, List, [], ◌∷◌, ◌++◌, filter, length, map, slice_get, Option, Some, None, if◌then◌else◌}
use Rattle.std.specs.Option.{option_map_or}
use Rattle.std.specs.List.{fold, list_any}
use Rattle.std.specs.List.Sorted.{IsNonDecreasingBy}
use Rattle.vp_notify.specs.declared.registry.Callback.{Callback}
use Rattle.vp_notify.specs.declared.notice.Notice.{Notice}
use Rattle.vp_notify.specs.declared.notice.PolledNotice.{PolledNotice}
use Rattle.vp_expr.specs.declared.change.Change.{Change}
use Rattle.vp_pragma.specs.declared.rights.Rights.{Rights}
use Rattle.vp_pragma.specs.declared.rights.Right.TheVariants as right
use Rattle.vp_pragma.specs.Rights.{has, set_of}

-- what a contract sees of a registry: its callbacks by object, each object's in order of registration; the number given last, 0 before the
-- first; the notices that wait, oldest first; how many were lost since the last drain (profile)
pub record RegistryState : Type 0 where
  pub callbacks : List Callback
  pub given : ℕ
  pub waiting : List Notice
  pub lost : ℕ

-- ---- callbacks

-- a callback is on an object
abbrev pub is_on : (object : ℕ) → Callback → Bool
is_on object callback = callback.object.0 == object

-- a callback is on an object or a lower one
abbrev pub is_by : (object : ℕ) → Callback → Bool
is_by object callback = nat_le callback.object.0 object

-- a callback is on a lower object
abbrev pub is_below : (object : ℕ) → Callback → Bool
is_below object callback = nat_lt callback.object.0 object

-- a callback is on a higher object
abbrev pub is_past_goal : (object : ℕ) → Callback → Bool
is_past_goal object callback = nat_lt object callback.object.0

-- a callback has a number
abbrev pub is_numbered : (number : ℕ) → Callback → Bool
is_numbered number callback = callback.number == number

-- callbacks stand by object (profile)
abbrev pub AreOrdered : List Callback → Type 0
AreOrdered callbacks = IsNonDecreasingBy (λ callback. callback.object.0) callbacks

-- a registry without callbacks
abbrev pub empty_registry : RegistryState
empty_registry = record { callbacks = []; given = 0; waiting = []; lost = 0 }

-- no callback can be added: 1,024 are there, or every number was given (profile)
abbrev pub is_full : RegistryState → Bool
is_full r = not (nat_lt (length r.callbacks) 1024) || (r.given == 2 ^ 32 - 1)

-- a callback of an object stands after those of the object and of lower ones, and before those of higher ones (profile)
abbrev pub with_callback : List Callback → Callback → List Callback
with_callback callbacks new = filter (is_by new.object.0) callbacks ++ new ∷ filter (is_past_goal new.object.0) callbacks

-- a callback on an object is added, with the next number (clause 27.33)
abbrev pub registered : RegistryState → (object : ℕ) → RegistryState
registered r object = record r {
  callbacks = with_callback r.callbacks (record { number = r.given + 1; object = record { 0 = object } });
  given = r.given + 1;
}

-- some callback has a number
abbrev pub has_number : RegistryState → (number : ℕ) → Bool
has_number r number = list_any (is_numbered number) r.callbacks

-- some callback is on an object
abbrev pub watches : RegistryState → (object : ℕ) → Bool
watches r object = list_any (is_on object) r.callbacks

-- the callback of a number is taken out; what waits stays (profile)
abbrev pub without : RegistryState → (number : ℕ) → RegistryState
without r number = record r { callbacks = filter (λ callback. not (is_numbered number callback)) r.callbacks }

-- ---- notices

-- what a callback is notified of a change (clause 27.33.1)
abbrev pub notice_of : Change → (time : ℕ) → Callback → Notice
notice_of change time callback = record { callback = callback.number; object = change.object; time = time; value = change.value }

-- a notice as a poll gives it: it names no object (clause 27.33.1, profile)
abbrev pub polled_notice : Notice → PolledNotice
polled_notice n = record { callback = n.callback; time = n.time; value = n.value }

-- one more notice waits, or is lost where 4,096 wait (profile)
abbrev pub with_notice : RegistryState → Notice → RegistryState
with_notice r notice =
    if nat_lt (length r.waiting) 4096
    then record r { waiting = r.waiting ++ notice ∷ [] }
    else record r { lost = min (r.lost + 1) (2 ^ 64 - 1) }

-- a change is due to each callback on its object, in order of registration; no change is due to none (clause 27.33, cbValueChange)
abbrev pub due : RegistryState → Option Change → (time : ℕ) → RegistryState
due r None time = r
due r (Some change) time = fold with_notice r (map (notice_of change time) (filter (is_on change.object.0) r.callbacks))

-- nothing waits any more, and nothing counts as lost (profile)
abbrev pub drained : RegistryState → RegistryState
drained r = record r { waiting = []; lost = 0 }

-- ---- rights that end

-- these rights, by object, lack the right to watch an object; none lacks it where no object is
abbrev pub is_unwatchable : List Rights → (object : ℕ) → Bool
is_unwatchable rights object = option_map_or (λ his. not (has right.Watch (set_of his))) (slice_get rights object) false

-- the callbacks on objects of which a test holds go, and so do the notices of these objects that wait, whoever they are for; numbers
-- and the lost count stay (profile)
abbrev pub retired : (gone : ℕ → Bool) → RegistryState → RegistryState
retired gone r = record r {
  callbacks = filter (λ callback. not (gone callback.object.0)) r.callbacks;
  waiting = filter (λ notice. not (gone notice.object.0)) r.waiting;
}
