-- What one event of a procedure does in an instance, by the values of the objects from the instance on (clause 9, profile).
use Rattle.std.specs.Prelude.{ℕ, ◌+◌, Bool, true, false, if◌then◌else◌, List, [], ◌∷◌, length, Option, Some, None}
use Rattle.std.specs.Option.{unwrap_or}
use Rattle.vp_bits.specs.declared.bit.Bit.{Bit}
use Rattle.vp_bits.specs.declared.bit.Bit.TheVariants.{Zero, One, Unknown, HighImpedance}
use Rattle.vp_bits.specs.Comparing.{casez_matches}
use Rattle.vp_bits.specs.Tables.{truth}
use Rattle.vp_bits.specs.Vector.{resized, same_bits}
use Rattle.vp_source.specs.declared.statement.Choice.{Choice}
use Rattle.vp_source.specs.declared.statement.Span.{Span}
use Rattle.vp_source.specs.declared.source.Source.{Source}
use Rattle.vp_text.specs.Lists.{range_of}
use Rattle.vp_elab.specs.Built.{Elaborated}
use Rattle.vp_elab.specs.declared.object.ObjectId.{ObjectId}
use Rattle.vp_expr.specs.declared.tables.Action.{Action}
use Rattle.vp_expr.specs.declared.tables.Action.TheVariants as action
use Rattle.vp_expr.specs.declared.tables.Tables.{Tables}
use Rattle.vp_expr.specs.declared.tables.Target.{Target}
use Rattle.vp_operand.specs.Arena.{is_width}
use Rattle.vp_expr.specs.Evaluation.{eval, place_set, slot_of}
use Rattle.vp_operand.specs.Ids.{Sized}
use Rattle.vp_expr.specs.Tables.{tables_of, target_width}
use Rattle.vp_statement.specs.declared.effect.Effect.{Effect}
use Rattle.vp_statement.specs.declared.effect.Effect.TheVariants as effect
use Rattle.vp_statement.specs.Walking.{action_at}

-- the number of the object at a slot of an instance (clause 12.1.2)
abbrev pub object_at : ObjectId → ℕ → ℕ
object_at instance slot = instance.0 + slot

-- a bit is 1
abbrev pub is_one : Bit → Bool
is_one One = true
is_one Zero = false
is_one Unknown = false
is_one HighImpedance = false

-- a condition holds: its value is true, neither false nor unknown (clause 9.4)
abbrev pub holds : Tables → List (List Bit) → Sized → Bool
holds tables values condition = is_one (truth (eval tables values condition))

-- ---- assignments

-- a value at a width; itself where no vector has that (clause 5.6)
abbrev pub cut_to : (width : ℕ) → List Bit → List Bit
cut_to width value = if is_width width then resized width value else value

-- a blocking assignment sets bits of its target's object (clause 9.2.1)
abbrev pub assigned : Tables → (instance : ObjectId) → List (List Bit) → Target → Sized → Effect
assigned tables instance values t value =
    effect.Assigns (object_at instance (slot_of t)) (place_set tables values t) (cut_to (target_width t) (eval tables values value))

-- a nonblocking assignment sets them later (clause 9.2.2)
abbrev pub deferred : Tables → (instance : ObjectId) → List (List Bit) → Target → Sized → (delay : ℕ) → Effect
deferred tables instance values t value delay =
    effect.Defers (object_at instance (slot_of t)) (place_set tables values t) (cut_to (target_width t) (eval tables values value)) delay

-- ---- cases

-- the choices that lie in a span of a source's list
abbrev pub choices_in : Source → Span → List Choice
choices_in source span = range_of source.choices span.first span.end

-- a label matches what selects: it has the same bits (clause 9.5); in a casez a z of either matches any bit (clause 9.5.1)
abbrev pub matches : (is_wild : Bool) → (selected label : List Bit) → Bool
matches false selected label = same_bits selected label
matches true selected label = casez_matches selected label

-- a label, if there is one, matches what selects, at the size of that (clause 9.5)
abbrev pub is_matched : Tables → List (List Bit) → (is_wild : Bool) → (selected : List Bit) → Option ℕ → Bool
is_matched tables values is_wild selected None = false
is_matched tables values is_wild selected (Some label) =
    matches is_wild selected (eval tables values (record { place = label; size = length selected }))

-- a choice is taken where the selector has this value
abbrev pub is_taken : Tables → List (List Bit) → (is_wild : Bool) → (selected : List Bit) → Choice → Bool
is_taken tables values is_wild selected choice = is_matched tables values is_wild selected choice.label

-- there is no label
abbrev pub is_missing : Option ℕ → Bool
is_missing None = true
is_missing (Some label) = false

-- the statement of the first choice that is for anything else, if there is one
abbrev pub default_of : List Choice → Option ℕ
default_of [] = None
default_of (c ∷ cs) = if is_missing c.label then Some c.body else default_of cs

-- the statement of the first choice that passes, or else this one
abbrev pub first_of : (Choice → Bool) → (otherwise : Option ℕ) → List Choice → Option ℕ
first_of test otherwise [] = otherwise
first_of test otherwise (c ∷ cs) = if test c then Some c.body else first_of test otherwise cs

-- the statement that a case takes: that of the first label that matches, else that for anything else (clause 9.5)
abbrev pub chosen : Tables → List (List Bit) → (is_wild : Bool) → (selected : List Bit) → List Choice → Option ℕ
chosen tables values is_wild selected choices = first_of (is_taken tables values is_wild selected) (default_of choices) choices

-- ---- tests

-- a loop whose condition holds goes on with its body (clause 9.6)
abbrev pub turned : (is_true : Bool) → (body : ℕ) → Effect
turned true body = effect.Proceeds (Some body)
turned false body = effect.Proceeds None

-- a wait whose condition does not hold tests it again at a change (clause 9.7.6)
abbrev pub waited : (is_true : Bool) → (place body : ℕ) → Effect
waited true place body = effect.Proceeds (Some body)
waited false place body = effect.Awaits place place

-- what the statement at a place does, which is an event itself; a block or a loop with parts does nothing
abbrev pub effect_by : Elaborated → (instance : ObjectId) → List (List Bit) → (place : ℕ) → Action → Effect
effect_by design instance values place (action.Assign t value) = assigned (tables_of design) instance values t value
effect_by design instance values place (action.Nonblocking t value delay) =
    deferred (tables_of design) instance values t value (unwrap_or delay 0)
effect_by design instance values place (action.Delay amount body) = effect.Pauses amount body
effect_by design instance values place (action.Event body) = effect.Awaits place body
effect_by design instance values place (action.Wait c body) = waited (holds (tables_of design) values c) place body
effect_by design instance values place (action.If c first second) =
    effect.Proceeds (if holds (tables_of design) values c then Some first else second)
effect_by design instance values place (action.While c body step) = turned (holds (tables_of design) values c) body
effect_by design instance values place (action.Case is_wild selector span) =
    effect.Proceeds (chosen (tables_of design) values is_wild (eval (tables_of design) values selector) (choices_in design.source span))
effect_by design instance values place action.Finish = effect.Finishes
effect_by design instance values place _ = effect.Nothing

-- what the statement at a place does in an instance
unfoldable pub effect_at : Elaborated → (instance : ObjectId) → List (List Bit) → (place : ℕ) → Effect
effect_at design instance values place = effect_by design instance values place (action_at (tables_of design).actions place)
