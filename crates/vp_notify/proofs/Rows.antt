-- A registry, computed call by call. Each row is an equation that holds by computation.
use Rattle.std.proofs.Common.{◌≡◌, ℕ, ◌-◌, ◌^◌, [], ◌∷◌, None, Some, false, true, replicate, refl}
use Rattle.vp_bits.specs.declared.bit.Bit.TheVariants.{One}
use Rattle.vp_expr.specs.declared.change.Change.{Change}
use Rattle.vp_notify.specs.declared.notice.Notice.{Notice}
use Rattle.vp_notify.specs.declared.registry.Callback.{Callback}
use Rattle.vp_notify.specs.Registry.{RegistryState, drained, due, empty_registry, has_number, is_full, registered, watches, with_notice, without}

-- a callback of a number on an object
abbrev on : (number object : ℕ) → Callback
on number object = record { number = number; object = record { 0 = object } }

-- a change of an object to 1
abbrev change : (object : ℕ) → Change
change object = record { object = record { 0 = object }; value = One ∷ [] }

-- what a callback is notified of that change
abbrev told : (number object time : ℕ) → Notice
told number object time = record { callback = number; object = record { 0 = object }; time = time; value = One ∷ [] }

-- ---- callbacks

-- callbacks 1 on object 2, 2 on object 1, and 3 on object 2
abbrev three : RegistryState
three = registered (registered (registered empty_registry 2) 1) 2

-- they stand by object, those of object 2 in order of registration
by_object : three ≡ record { callbacks = on 2 1 ∷ on 1 2 ∷ on 3 2 ∷ []; given = 3; waiting = []; lost = 0 }
by_object = refl

-- without callback 1
taken_out : (without three 1).callbacks ≡ on 2 1 ∷ on 3 2 ∷ []
taken_out = refl

-- its number is not given again
next_number : registered (without three 3) 0 ≡ record { callbacks = on 4 0 ∷ on 2 1 ∷ on 1 2 ∷ []; given = 4; waiting = []; lost = 0 }
next_number = refl

numbered : has_number three 3 ≡ true
numbered = refl

not_numbered : has_number (without three 3) 3 ≡ false
not_numbered = refl

watched : watches three 2 ≡ true
watched = refl

not_watched : watches three 0 ≡ false
not_watched = refl

-- where the last number is given none can be added, and before it one can
numbers_given : is_full (record empty_registry { given = 2 ^ 32 - 1 }) ≡ true
numbers_given = refl

numbers_left : is_full (record empty_registry { given = 2 ^ 32 - 2 }) ≡ false
numbers_left = refl

-- where there are 1,024 none can be added, and where there are 1,023 one can
callbacks_full : is_full (record empty_registry { callbacks = replicate 1024 (on 1 2) }) ≡ true
callbacks_full = refl

callbacks_not_full : is_full (record empty_registry { callbacks = replicate 1023 (on 1 2) }) ≡ false
callbacks_not_full = refl

-- ---- notices

-- a change of object 2 is due to callbacks 1 and 3, in this order
in_order : (due three (Some (change 2)) 5).waiting ≡ told 1 2 5 ∷ told 3 2 5 ∷ []
in_order = refl

-- a change of object 0 to none, and no change to none
due_to_none : due three (Some (change 0)) 5 ≡ three
due_to_none = refl

no_change : due three None 5 ≡ three
no_change = refl

-- a later change waits after
following : (due (due three (Some (change 2)) 5) (Some (change 1)) 7).waiting ≡ told 1 2 5 ∷ told 3 2 5 ∷ told 2 1 7 ∷ []
following = refl

-- without callback 1 only 3 is notified, and what waited stays
removed_between : (due (without (due three (Some (change 2)) 5) 1) (Some (change 2)) 6).waiting ≡ told 1 2 5 ∷ told 3 2 5 ∷ told 3 2 6 ∷ []
removed_between = refl

-- where 4,096 wait, the new notice is lost, and those that wait stay
abbrev crowded : RegistryState
crowded = record three { waiting = replicate 4096 (told 1 2 5) }

one_lost : with_notice crowded (told 3 2 6) ≡ record crowded { lost = 1 }
one_lost = refl

both_lost : due crowded (Some (change 2)) 6 ≡ record crowded { lost = 2 }
both_lost = refl

-- where 4,095 wait, one more does
last_room : with_notice (record three { waiting = replicate 4095 (told 1 2 5) }) (told 1 2 5) ≡ crowded
last_room = refl

-- the count of lost ones stays at its greatest value
lost_stays : with_notice (record crowded { lost = 2 ^ 64 - 1 }) (told 3 2 6) ≡ record crowded { lost = 2 ^ 64 - 1 }
lost_stays = refl

-- drained, it has its callbacks and numbers
drained_keeps : drained (record crowded { lost = 7 }) ≡ three
drained_keeps = refl
