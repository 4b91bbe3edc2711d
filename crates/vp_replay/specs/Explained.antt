-- What a user was shown, and with which item of what goes to him each value came.
use Rattle.std.specs.Prelude.{ℕ, ◌+◌, Bool, false, true, if◌then◌else◌, List, [], ◌∷◌, map, slice_get, slice_index_or, slice_set, Option, Some, None, is_some, option_and_then, option_map}
use Rattle.std.specs.List.{cons_option}
use Rattle.vp_bits.specs.declared.bit.Bit.{Bit}
use Rattle.vp_expr.specs.declared.change.Change.{Change}
use Rattle.vp_vpi.specs.SessionStates.{object_of}
use Rattle.vp_answer.specs.declared.query.Query.TheVariants as query
use Rattle.vp_answer.specs.declared.reply.Reply.{Reply}
use Rattle.vp_answer.specs.declared.reply.Reply.TheVariants as reply
pub use Rattle.vp_replay.specs.declared.explaining.Explained.{Explained}
use Rattle.vp_replay.specs.Parts.{Asks, End, Grant, Item, OrderItem, OwnEvent, Part, part_after, reply_of, session_in}

-- numbers, where the object of a number has this one if no value of it came
abbrev pub with_number : (came : List (Option (List Bit))) → List ℕ → ℕ → ℕ → List ℕ
with_number came numbers n number = if is_some (slice_index_or came n None) then numbers else slice_set numbers n number

-- numbers of items after a change of grants, whose values came so: of each object that was known before, where none came, the number that it had
abbrev pub numbers_kept : (moved : List ℕ) → (came : List (Option (List Bit))) → (brought numbers : List ℕ) → List ℕ
numbers_kept [] came brought numbers = numbers
numbers_kept (n ∷ moved) came [] numbers = numbers
numbers_kept (n ∷ moved) came (b ∷ brought) numbers = numbers_kept moved came brought (with_number came numbers n b)

-- the numbers of the items with which the values of the known objects last came, after the item of a number
abbrev pub brought_by : (number : ℕ) → (brought : List ℕ) → Option OrderItem → Option Change → List ℕ
brought_by number brought (Some End) change = brought
brought_by number brought (Some (Grant g)) change = numbers_kept g.moved g.values brought (map (λ v. number) g.values)
brought_by number brought None (Some c) = slice_set brought c.object.0 number
brought_by number brought None None = brought

-- the object whose value an event of his own asks
abbrev pub value_asked : Part → OwnEvent → Option ℕ
value_asked p (Asks id (query.Value handle f)) = option_and_then (λ t. object_of t.session_state.handles handle) (session_in p id)
value_asked p own_event = None

-- a reply is a value
abbrev pub is_value : Reply → Bool
is_value (reply.Value bits) = true
is_value (reply.Vector bits) = true
is_value r = false

-- what he was shown by an event of his own, which is the item of a number
abbrev pub explained : (number : ℕ) → (brought : List ℕ) → Part → OwnEvent → Explained
explained number brought p own_event = record {
  item = number;
  reply = reply_of p own_event;
  brought = if is_value (reply_of p own_event) then option_and_then (slice_get brought) (value_asked p own_event) else None;
}

-- what he was shown by items, in turn, from one of a number on
abbrev pub explained_from : (number : ℕ) → (brought : List ℕ) → Part → List Item → List Explained
explained_from number brought p [] = []
explained_from number brought p (i ∷ items) =
    cons_option (option_map (explained number brought p) i.own_event) (explained_from (number + 1) (brought_by number brought i.order i.change) (part_after p i) items)
