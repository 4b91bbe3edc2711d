-- What goes to two users of a log, and what one of them is shown by it. Each row is an equation that holds by computation.
use Rattle.std.proofs.Common.{◌≡◌, ℕ, Bool, true, false, List, [], ◌∷◌, ◌++◌, map, Option, Some, None, refl}
use Rattle.std.specs.Prelude.{codes, option_and_then}
use Rattle.std.specs.List.{filter_map}
use Rattle.std.specs.Fmt.{digits}
use Rattle.std.specs.Str.{chars, is_utf8}
use Rattle.std.proofs.Math.Utf8.{encode}
use Rattle.vp_bits.specs.declared.bit.Bit.TheVariants.{Unknown, One}
use Rattle.vp_pragma.specs.declared.rights.Right.TheVariants as right
use Rattle.vp_pragma.specs.Rights.{RightSet, nothing, with_right}
use Rattle.vp_source.specs.declared.source.Source.{Source}
use Rattle.vp_elab.specs.declared.object.Kind.TheVariants.{Module, Reg}
use Rattle.vp_elab.specs.Built.{Elaborated}
use Rattle.vp_elab.specs.Tree.{Node}
use Rattle.vp_operand.specs.Arena.{sizes_in}
use Rattle.vp_expr.specs.Tables.{tables_of}
use Rattle.vp_statement.specs.Effects.{effect_at}
use Rattle.vp_policy.specs.declared.denial.ShownBarrier.TheVariants as by
use Rattle.vp_policy.specs.Regrants.{by_number}
use Rattle.vp_policy.specs.Users.{Member}
use Rattle.vp_policy.specs.View.{SeenNode, view_of, marked}
use Rattle.vp_expr.specs.declared.change.Change.{Change}
use Rattle.vp_vpi.specs.declared.property.PutValue.TheVariants.{Digits}
use Rattle.vp_answer.specs.declared.request.SessionId.{SessionId}
use Rattle.vp_answer.specs.declared.query.Query.TheVariants as query
use Rattle.vp_answer.specs.declared.query.ValueFormat.TheVariants as format
use Rattle.vp_answer.specs.declared.reply.Reply.{Reply}
use Rattle.vp_answer.specs.declared.reply.Reply.TheVariants as reply
use Rattle.vp_world.specs.declared.event.Event.{Event}
use Rattle.vp_world.specs.declared.event.Event.TheVariants as event
use Rattle.vp_world.specs.Entries.{Entry}
use Rattle.vp_world.specs.Worlds.{Opening}
use Rattle.vp_replay.specs.Known.{known_index}
use Rattle.vp_replay.specs.declared.item.GrantItem.{GrantItem}
use Rattle.vp_replay.specs.declared.item.Item.{Item}
use Rattle.vp_replay.specs.declared.item.OrderItem.{OrderItem}
use Rattle.vp_replay.specs.declared.item.OrderItem.TheVariants.{End, Grant}
use Rattle.vp_replay.specs.declared.item.OwnEvent.TheVariants.{Asks, Opens}
use Rattle.vp_replay.specs.Parts.{replies_from}
use Rattle.vp_replay.specs.Parts.{first_part}
use Rattle.vp_audit.specs.Projections.{moved_numbers, number_in, projection, replies_of}

-- ---- objects that are known

-- of four objects the second and the last are known
abbrev known : List Bool
known = false ∷ true ∷ false ∷ true ∷ []

those_known : marked {X = ℕ} known (1 ∷ 2 ∷ 3 ∷ 4 ∷ []) ≡ 2 ∷ 4 ∷ []
those_known = refl

index_of_the_last_known : known_index known 1 ≡ 3
index_of_the_last_known = refl

number_of_the_last : number_in known 3 ≡ Some 1
number_of_the_last = refl

number_of_a_hidden_object : number_in known 2 ≡ None
number_of_a_hidden_object = refl

-- where the first becomes known too, the others have higher numbers
numbers_now : moved_numbers known (true ∷ true ∷ false ∷ true ∷ []) ≡ 1 ∷ 2 ∷ []
numbers_now = refl

-- ---- a module with a reg in the open text and one in an envelope

abbrev reg : List ℕ → ℕ → ℕ → Node
reg name place envelope = record {
  path =
      record { name = codes "top"; place = 1; envelope = 0; in_module = None }
      ∷ record { name = name; place = place; envelope = envelope; in_module = Some (codes "top") } ∷ [];
  kind = Reg;
  width = 1;
  lowest = None;
  line = 2;
  definition = None;
}

abbrev no_source : Source
no_source = record {
  text = [];
  tokens = [];
  modules = [];
  items = [];
  connections = [];
  statements = [];
  expressions = [];
  terms = [];
  choices = [];
}

abbrev design : Elaborated
design = record {
  source = no_source;
  tree = record {
    nodes =
        record {
          path = record { name = codes "top"; place = 1; envelope = 0; in_module = None } ∷ [];
          kind = Module;
          width = 1;
          lowest = None;
          line = 1;
          definition = Some (codes "top");
        }
        ∷ reg (codes "a") 4 0 ∷ reg (codes "k") 14 1 ∷ [];
    viewports = [];
    authors = codes "acme" ∷ [];
  };
}

-- ann may read what stands in the open text; bob may put all, and reads nothing
abbrev reading : RightSet
reading = with_right right.Read (with_right right.List nothing)

abbrev putting : RightSet
putting = with_right right.Put (with_right right.List nothing)

abbrev ann : Member
ann = record { name = codes "ann"; token = codes "t1"; open_set = reading; grants = []; run = false; sessions = 64 }

abbrev bob : Member
bob = record { name = codes "bob"; token = codes "t2"; open_set = putting; grants = by_number 1 putting ∷ []; run = false; sessions = 64 }

abbrev opening : Opening
opening = record {
  design = design;
  policy = record { tree = design.tree; members = ann ∷ bob ∷ []; operator = Some (codes "op") };
  limits = record { log = 100; for_users = 0; for_operator = 0; for_closes = 0; bytes = None; book = record { races = 65536; steps = 16777216 }; sessions = 10 };
}

-- ---- a log: bob puts both, and then ann is granted the envelope

abbrev of_ann : SessionId
of_ann = record { user = record { 0 = 0 }; opens = 1 }

abbrev of_bob : SessionId
of_bob = record { user = record { 0 = 1 }; opens = 1 }

abbrev entry : Event → Reply → Entry
entry e r = record { event = e; reply = r; change = None; time = 0; finished = false }

abbrev hidden : Reply
hidden = reply.Denied (record { by = by.Envelope; envelope = 1; right = right.List; author = codes "acme"; object = None })

abbrev change_of : ℕ → Change
change_of object = record { object = record { 0 = object }; value = One ∷ [] }

abbrev handle : SessionId → List ℕ → Event
handle id name = event.Ask id (query.Handle name None)

abbrev read : ℕ → Event
read h = event.Ask of_ann (query.Value h format.Binary)

-- bob puts one into the object of a number, by his handle
abbrev put : ℕ → ℕ → Entry
put h object = record (entry (event.Ask of_bob (query.Put h (Digits (codes "1")))) reply.Done) { change = Some (change_of object) }

abbrev ann_asks : List Entry
ann_asks = entry (event.Open (codes "ann") (codes "t1")) (reply.Opened of_ann) ∷ entry (handle of_ann (codes "top.a")) (reply.Handle 1) ∷ entry (handle of_ann (codes "top.k")) hidden ∷ []

abbrev bob_puts : List Entry
bob_puts =
    entry (event.Open (codes "bob") (codes "t2")) (reply.Opened of_bob) ∷ entry (handle of_bob (codes "top.a")) (reply.Handle 1)
    ∷ entry (handle of_bob (codes "top.k")) (reply.Handle 2) ∷ put 1 1 ∷ put 2 2 ∷ []

abbrev ann_is_granted : List Entry
ann_is_granted =
    entry (read 1) (reply.Value (One ∷ []))
    ∷ entry (event.Grant (record { token = codes "op"; user = codes "ann"; envelope = 1; access = reading })) reply.Done
    ∷ entry (handle of_ann (codes "top.k")) (reply.Handle 2) ∷ entry (read 2) (reply.Value (One ∷ [])) ∷ []

abbrev log : List Entry
log = ann_asks ++ bob_puts ++ ann_is_granted

-- ---- what goes to ann

-- at the opening she may read the reg of the open text alone, and knows no other
values_at_first : (projection opening 0 log).values ≡ None ∷ Some (Unknown ∷ []) ∷ []
unfolding digits is_utf8 chars encode sizes_in tables_of effect_at
values_at_first = refl

-- her own events, one item for the put that she may read, none for all else that bob does, and one for her grant
own_events :
    map (λ i. i.own_event) (projection opening 0 log).items
    ≡ Some (Opens of_ann) ∷ Some (Asks of_ann (query.Handle (codes "top.a") None)) ∷ Some (Asks of_ann (query.Handle (codes "top.k") None))
    ∷ None
    ∷ Some (Asks of_ann (query.Value 1 format.Binary))
    ∷ None
    ∷ Some (Asks of_ann (query.Handle (codes "top.k") None)) ∷ Some (Asks of_ann (query.Value 2 format.Binary)) ∷ []
unfolding digits is_utf8 chars encode sizes_in tables_of effect_at
own_events = refl

changes : filter_map (λ i. i.change) (projection opening 0 log).items ≡ change_of 1 ∷ []
unfolding digits is_utf8 chars encode sizes_in tables_of effect_at
changes = refl

-- the change of his grants that an order is, if it is one
abbrev granted_by : OrderItem → Option GrantItem
granted_by (Grant g) = Some g
granted_by End = None

abbrev grant_in : Item → Option GrantItem
grant_in i = option_and_then granted_by i.order

-- the names of a path
abbrev names : SeenNode → List (List ℕ)
names node = map (λ s. s.name) node.path

-- her grant shows the reg of the envelope, with its value as it is then, and no value that she could read before
granted_names :
    map (λ g. map names g.view.nodes) (filter_map grant_in (projection opening 0 log).items)
    ≡ ((codes "top" ∷ []) ∷ (codes "top" ∷ codes "a" ∷ []) ∷ (codes "top" ∷ codes "k" ∷ []) ∷ []) ∷ []
unfolding digits is_utf8 chars encode sizes_in tables_of effect_at
granted_names = refl

granted_values : map (λ g. g.values) (filter_map grant_in (projection opening 0 log).items) ≡ (None ∷ None ∷ Some (One ∷ []) ∷ []) ∷ []
unfolding digits is_utf8 chars encode sizes_in tables_of effect_at
granted_values = refl

granted_numbers : map (λ g. g.moved) (filter_map grant_in (projection opening 0 log).items) ≡ (0 ∷ 1 ∷ []) ∷ []
unfolding digits is_utf8 chars encode sizes_in tables_of effect_at
granted_numbers = refl

-- ---- what she is shown

abbrev told : List Reply
told = reply.Opened of_ann ∷ reply.Handle 1 ∷ hidden ∷ reply.Value (One ∷ []) ∷ reply.Handle 2 ∷ reply.Value (One ∷ []) ∷ []

told_by_the_log : replies_of 0 log ≡ told
told_by_the_log = refl

-- the same comes of what goes to her and of what she sees at the opening
told_by_her_part : replies_from (first_part (view_of design ann) (projection opening 0 log).values) (projection opening 0 log).items ≡ told
unfolding digits is_utf8 chars encode sizes_in tables_of effect_at
told_by_her_part = refl

-- ---- what leaves no trace

-- bob's own events go to him, and no value: he may read nothing
changes_of_bob : filter_map (λ i. i.change) (projection opening 1 log).items ≡ []
unfolding digits is_utf8 chars encode sizes_in tables_of effect_at
changes_of_bob = refl

grants_of_bob : filter_map grant_in (projection opening 1 log).items ≡ []
unfolding digits is_utf8 chars encode sizes_in tables_of effect_at
grants_of_bob = refl

-- where bob puts nothing that ann may read, she sees what she would see without him
without_a_trace :
    projection opening 0 (ann_asks ++ entry (event.Open (codes "bob") (codes "t2")) (reply.Opened of_bob) ∷ entry (handle of_bob (codes "top.k")) (reply.Handle 1) ∷ put 1 2 ∷ [])
    ≡ projection opening 0 ann_asks
unfolding digits is_utf8 chars encode sizes_in tables_of effect_at
without_a_trace = refl

-- ---- the operator ends sessions, and lets the design stand still

abbrev ends : List ℕ → Entry
ends user = entry (event.End (record { token = codes "op"; user = user })) reply.Done

abbrev halts : Entry
halts = entry (event.Halt (record { token = codes "op" })) reply.Done

-- of bob's sessions, and of the design, ann is told nothing
end_of_bob :
    projection opening 0 (ann_asks ++ entry (event.Open (codes "bob") (codes "t2")) (reply.Opened of_bob) ∷ ends (codes "bob") ∷ halts ∷ [])
    ≡ projection opening 0 ann_asks
unfolding digits is_utf8 chars encode sizes_in tables_of effect_at
end_of_bob = refl

-- the end of her own sessions is an item of hers
end_of_ann : filter_map (λ i. i.order) (projection opening 0 (ann_asks ++ ends (codes "ann") ∷ [])).items ≡ End ∷ []
unfolding digits is_utf8 chars encode sizes_in tables_of effect_at
end_of_ann = refl

abbrev of_ann_again : SessionId
of_ann_again = record { user = record { 0 = 0 }; opens = 2 }

-- she opens another, whose handles begin anew
abbrev ann_again : List Entry
ann_again =
    ann_asks ++ ends (codes "ann")
    ∷ entry (event.Open (codes "ann") (codes "t1")) (reply.Opened of_ann_again) ∷ entry (handle of_ann_again (codes "top.a")) (reply.Handle 1) ∷ []

abbrev told_again : List Reply
told_again = reply.Opened of_ann ∷ reply.Handle 1 ∷ hidden ∷ reply.Opened of_ann_again ∷ reply.Handle 1 ∷ []

replies_again : replies_of 0 ann_again ≡ told_again
replies_again = refl

part_again : replies_from (first_part (view_of design ann) (projection opening 0 ann_again).values) (projection opening 0 ann_again).items ≡ told_again
unfolding digits is_utf8 chars encode sizes_in tables_of effect_at
part_again = refl
