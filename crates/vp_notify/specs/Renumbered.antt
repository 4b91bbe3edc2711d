-- Callbacks and notices whose objects have other numbers now.
use Rattle.std.specs.Prelude.{ℕ, ◌+◌, nat_le, nat_lt, Bool, true, List, [], ◌∷◌, length, map, slice_index_or, ◌&&◌}
use Rattle.std.specs.List.{list_all}
use Rattle.vp_notify.specs.declared.registry.Callback.{Callback}
use Rattle.vp_notify.specs.declared.notice.Notice.{Notice}
use Rattle.vp_notify.specs.Registry.{RegistryState}

-- the number now of an object that had a number before, by the numbers now of those before
abbrev pub number_now : (numbers : List ℕ) → ℕ → ℕ
number_now numbers k = slice_index_or numbers k 0

-- numbers from a least one on, of which each is higher than the one before it
abbrev pub rises_from : (least : ℕ) → List ℕ → Bool
rises_from least [] = true
rises_from least (n ∷ numbers) = nat_le least n && rises_from (n + 1) numbers

-- each number is higher than the one before it
abbrev pub rises : List ℕ → Bool
rises numbers = rises_from 0 numbers

-- a callback whose object has another number
abbrev pub moved_callback : (ℕ → ℕ) → Callback → Callback
moved_callback f c = record { number = c.number; object = record { 0 = f c.object.0 } }

-- a notice
abbrev pub moved_notice : (ℕ → ℕ) → Notice → Notice
moved_notice f t = record { callback = t.callback; object = record { 0 = f t.object.0 }; time = t.time; value = t.value }

-- the callbacks of a session, and what waits for them
abbrev pub moved_registry : (ℕ → ℕ) → RegistryState → RegistryState
moved_registry f r = record { callbacks = map (moved_callback f) r.callbacks; given = r.given; waiting = map (moved_notice f) r.waiting; lost = r.lost }

-- so many objects had a number before, and a callback's, or a notice's, is one of them
abbrev pub is_callback_within : (count : ℕ) → Callback → Bool
is_callback_within count c = nat_lt c.object.0 count

abbrev pub is_notice_within : (count : ℕ) → Notice → Bool
is_notice_within count t = nat_lt t.object.0 count

-- the objects of all callbacks and notices are
abbrev pub is_within : (count : ℕ) → RegistryState → Bool
is_within count r = list_all (is_callback_within count) r.callbacks && list_all (is_notice_within count) r.waiting
