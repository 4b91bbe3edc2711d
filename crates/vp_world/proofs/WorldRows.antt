-- A world, computed event by event. Each row is an equation that holds by computation.
use Rattle.std.proofs.Common.{◌≡◌, ℕ, Bool, true, false, List, [], ◌∷◌, ◌++◌, Option, Some, None, refl}
use Rattle.std.specs.Prelude.{codes, fold, replicate}
use Rattle.std.specs.Fmt.{digits}
use Rattle.std.specs.Str.{chars, is_utf8}
use Rattle.std.proofs.Math.Utf8.{encode}
use Rattle.vp_bits.specs.declared.bit.Bit.TheVariants.{Unknown, One}
use Rattle.vp_pragma.specs.declared.rights.Right.TheVariants as right
use Rattle.vp_pragma.specs.Rights.{RightSet, nothing, with_right}
use Rattle.vp_lex.specs.declared.token.Token.{Token}
use Rattle.vp_lex.specs.declared.token.TokenKind.TheVariants.{Name}
use Rattle.vp_source.specs.declared.source.Source.{Source}
use Rattle.vp_source.specs.declared.expression.Expression.TheVariants as expression
use Rattle.vp_source.specs.declared.expression.Selection.TheVariants as selection
use Rattle.vp_source.specs.declared.statement.Statement.TheVariants as statement
use Rattle.vp_source.specs.declared.source.Item.TheVariants as item
use Rattle.vp_elab.specs.declared.object.Kind.{Kind}
use Rattle.vp_elab.specs.declared.object.Kind.TheVariants.{Module, Reg, Initial}
use Rattle.vp_elab.specs.Tree.{Node, Tree}
use Rattle.vp_operand.specs.Arena.{sizes_in}
use Rattle.vp_sim.specs.Tables.{tables_of}
use Rattle.vp_sim.specs.Effects.{effect_at}
use Rattle.vp_sim.specs.Walking.{flow_of}
use Rattle.vp_policy.specs.declared.denial.ShownBarrier.TheVariants as by
use Rattle.vp_policy.specs.Users.{Member}
use Rattle.vp_vpi.specs.declared.property.PutValue.TheVariants.{Digits}
use Rattle.vp_answer.specs.declared.request.SessionId.{SessionId}
use Rattle.vp_answer.specs.declared.query.Query.TheVariants as query
use Rattle.vp_answer.specs.declared.query.ValueFormat.TheVariants as format
use Rattle.vp_world.specs.declared.event.Event.{Event}
use Rattle.vp_world.specs.declared.event.Event.TheVariants as event
use Rattle.vp_world.specs.declared.error.WorldError.TheVariants as error
use Rattle.vp_answer.specs.declared.reply.Refusal.TheVariants as refusal
use Rattle.vp_answer.specs.declared.reply.Reply.{Reply}
use Rattle.vp_answer.specs.declared.reply.Reply.TheVariants as reply
use Rattle.vp_expr.specs.declared.change.Change.{Change}
use Rattle.vp_sim.specs.declared.error.SimError.TheVariants as sim
use Rattle.vp_world.specs.Entries.{Entry, entry_bytes}
use Rattle.vp_world.specs.Worlds.{Opening, State, start}
use Rattle.vp_world.specs.History.{IsLegal, after, answer, is_log_full, refusal_of}
use Rattle.vp_world.specs.declared.limits.Limits.{Limits}

-- ---- one module with an envelope, one user, at most one session

abbrev object : List ℕ → ℕ → ℕ → Kind → Node
object name place envelope kind = record {
  path =
      record { name = codes "top"; place = 1; envelope = 0; in_module = None }
      ∷ record { name = name; place = place; envelope = envelope; in_module = Some (codes "top") }
      ∷ [];
  kind = kind;
  width = 1;
  lowest = None;
  line = 2;
  definition = None;
}

abbrev tree : Tree
tree = record {
  nodes =
      record {
        path = record { name = codes "top"; place = 1; envelope = 0; in_module = None } ∷ [];
        kind = Module;
        width = 1;
        lowest = None;
        line = 1;
        definition = Some (codes "top");
      }
      ∷ object (codes "a") 4 0 Reg
      ∷ object (codes "k") 14 1 Reg
      ∷ object (codes "initial@6:3") 19 0 Initial
      ∷ [];
  viewports = [];
  authors = codes "acme" ∷ [];
}

abbrev word : ℕ → ℕ → Token
word from to = record { kind = Name; start = from; end = to; line = 1; column = 1; directive = false }

-- `reg a, k; initial begin a = 1 'b1; k = a; end` in a module, of which these lists name the words alone, and where the `initial` stands
abbrev source : Source
source = record {
  text = codes "top a k 'b1";
  tokens =
      word 0 3 ∷ word 4 5 ∷ word 6 7 ∷ word 8 11
      ∷ record { kind = Name; start = 11; end = 11; line = 6; column = 3; directive = false } ∷ [];
  modules =
      record {
        name = 0;
        items = record { first = 0; end = 3 };
        ports = 0;
        statements = record { first = 0; end = 5 };
        expressions = record { first = 0; end = 2 };
        terms = record { first = 0; end = 0 };
        choices = record { first = 0; end = 0 };
      }
      ∷ [];
  connections = [];
  items = item.Reg 1 None ∷ item.Reg 2 None ∷ item.Initial 4 4 ∷ [];
  statements =
      statement.Empty ∷ statement.Assign 1 selection.Whole 0 ∷ statement.Then 0 1 ∷ statement.Assign 2 selection.Whole 1 ∷ statement.Then 2 3 ∷ [];
  expressions = expression.Literal 9 1 3 ∷ expression.Name 1 selection.Whole ∷ [];
  terms = [];
  choices = [];
}

abbrev ann : Member
ann = record {
  name = codes "ann";
  token = codes "t1";
  open_set = with_right right.Read (with_right right.List nothing);
  grants = [];
  run = true;
  sessions = 64;
}

abbrev opening : Opening
opening = record {
  design = record { source = source; tree = tree };
  policy = record { tree = tree; members = ann ∷ []; operator = Some (codes "op") };
  limits = record { log = 7; for_users = 0; for_operator = 0; for_closes = 0; bytes = None; book = record { races = 65536; steps = 16777216 }; sessions = 1 };
}

abbrev first : SessionId
first = record { user = record { 0 = 0 }; opens = 1 }

abbrev opens : Event
opens = event.Open (codes "ann") (codes "t1")

abbrev asks : List ℕ → Event
asks name = event.Ask first (query.Handle name None)

abbrev reads : ℕ → Event
reads handle = event.Ask first (query.Value handle format.Binary)

abbrev hidden : Reply
hidden = reply.Denied (record { by = by.Envelope; envelope = 1; right = right.List; author = codes "acme"; object = None })

abbrev runs : Event
runs = event.Ask first (query.Run 0)

abbrev steps : ℕ → Event
steps k = event.Step k

-- the state after these events
abbrev following : List Event → State
following events = fold (after opening) (start opening) events

-- what an event is answered after others
abbrev answered : List Event → Event → Reply
answered events e = answer opening (following events) e

-- why an event is refused after others, whose log is not full
abbrev refused : List Event → Event → Option error.the_data
refused events e = refusal_of opening false (following events) e

opened : answered [] opens ≡ reply.Opened first
opened = refl

first_handle : answered (opens ∷ []) (asks (codes "top.a")) ≡ reply.Handle 1
first_handle = refl

second_handle : answered (opens ∷ asks (codes "top.a") ∷ []) (asks (codes "top.a")) ≡ reply.Handle 2
second_handle = refl

value_read : answered (opens ∷ asks (codes "top.a") ∷ []) (reads 1) ≡ reply.Value (Unknown ∷ [])
value_read = refl

value_after_a_step : answered (opens ∷ asks (codes "top.a") ∷ runs ∷ steps 0 ∷ []) (reads 1) ≡ reply.Value (One ∷ [])
unfolding digits is_utf8 chars encode sizes_in tables_of effect_at
value_after_a_step = refl

time_read : answered (opens ∷ []) (event.Ask first query.Time) ≡ reply.Time 0 false
time_read = refl

hidden_name : answered (opens ∷ []) (asks (codes "top.k")) ≡ hidden
hidden_name = refl

absent_name : answered (opens ∷ []) (asks (codes "top.zz")) ≡ hidden
absent_name = refl

unknown_root : answered (opens ∷ []) (asks (codes "zz")) ≡ reply.Error refusal.NoSuchName
unknown_root = refl

bad_handle : answered (opens ∷ []) (reads 1) ≡ reply.Error refusal.BadHandle
bad_handle = refl

value_of_a_module : answered (opens ∷ asks (codes "top") ∷ []) (reads 1) ≡ reply.Error refusal.WrongKind
value_of_a_module = refl

bad_token : refused [] (event.Open (codes "ann") (codes "t2")) ≡ Some error.BadToken
bad_token = refl

sessions_full : refused (opens ∷ []) opens ≡ Some error.SessionsFull
sessions_full = refl

-- a wrong token is reported before a full house
bad_token_first : refused (opens ∷ []) (event.Open (codes "ann") (codes "t2")) ≡ Some error.BadToken
bad_token_first = refl

not_open : refused (opens ∷ event.Close first ∷ []) (reads 1) ≡ Some error.NotOpen
not_open = refl

-- the next session of a user has the next number
reopened : answered (opens ∷ event.Close first ∷ []) opens ≡ reply.Opened (record { user = record { 0 = 0 }; opens = 2 })
reopened = refl

-- without a run nothing moves; then there is one process, with two events
before_a_run : refused (opens ∷ []) (steps 0) ≡ Some error.BeyondGoal
before_a_run = refl

advance_before_a_run : refused (opens ∷ []) event.Advance ≡ Some error.BeyondGoal
advance_before_a_run = refl

no_such_choice : refused (opens ∷ runs ∷ []) (steps 1) ≡ Some (error.Sim sim.NoSuchChoice)
unfolding digits is_utf8 chars encode sizes_in tables_of effect_at
no_such_choice = refl

idle : refused (opens ∷ runs ∷ steps 0 ∷ steps 0 ∷ []) (steps 0) ≡ Some (error.Sim sim.Idle)
unfolding digits is_utf8 chars encode sizes_in tables_of effect_at flow_of
idle = refl

no_future : refused (opens ∷ runs ∷ steps 0 ∷ steps 0 ∷ []) event.Advance ≡ Some (error.Sim sim.Idle)
unfolding digits is_utf8 chars encode sizes_in tables_of effect_at flow_of
no_future = refl

-- ---- grants that change

abbrev reading : RightSet
reading = with_right right.Read (with_right right.List nothing)

abbrev grants : List ℕ → List ℕ → ℕ → RightSet → Event
grants token user envelope access = event.Grant (record { token = token; user = user; envelope = envelope; access = access })

-- the operator's grant to a user
abbrev grants_to : List ℕ → ℕ → RightSet → Event
grants_to user envelope access = grants (codes "op") user envelope access

-- a grant opens the envelope, and then an absent name is reported as such
granted_name : answered (opens ∷ grants_to (codes "ann") 1 reading ∷ []) (asks (codes "top.k")) ≡ reply.Handle 1
granted_name = refl

absent_after_a_grant : answered (opens ∷ grants_to (codes "ann") 1 reading ∷ []) (asks (codes "top.zz")) ≡ reply.Error refusal.NoSuchName
absent_after_a_grant = refl

-- after an empty one both are denied by the grant
abbrev hidden_by_grant : Reply
hidden_by_grant = reply.Denied (record { by = by.Grant; envelope = 1; right = right.List; author = codes "acme"; object = None })

ended_name : answered (opens ∷ grants_to (codes "ann") 1 reading ∷ grants_to (codes "ann") 1 nothing ∷ []) (asks (codes "top.k")) ≡ hidden_by_grant
ended_name = refl

absent_after_its_end : answered (opens ∷ grants_to (codes "ann") 1 nothing ∷ []) (asks (codes "top.zz")) ≡ hidden_by_grant
absent_after_its_end = refl

-- the reasons why one is refused, each before the next
bad_operator : refused [] (grants (codes "no") (codes "zed") 2 nothing) ≡ Some error.BadOperator
bad_operator = refl

no_such_user : refused [] (grants (codes "op") (codes "zed") 2 nothing) ≡ Some error.NoSuchUser
no_such_user = refl

no_such_envelope : refusal_of opening true (following []) (grants (codes "op") (codes "ann") 2 nothing) ≡ Some error.NoSuchEnvelope
no_such_envelope = refl

grant_at_a_full_log : refusal_of opening true (following []) (grants (codes "op") (codes "ann") 1 nothing) ≡ Some error.LogFull
grant_at_a_full_log = refl

-- ---- two sessions of one user, who may watch and put

abbrev bob : Member
bob = record {
  name = codes "bob";
  token = codes "t2";
  open_set = with_right right.Put (with_right right.Watch (with_right right.List nothing));
  grants = [];
  run = false;
  sessions = 64;
}

abbrev shared : Opening
shared = record opening { policy = record { tree = tree; members = bob ∷ []; operator = Some (codes "op") }; limits = record opening.limits { sessions = 2 } }

abbrev second : SessionId
second = record { user = record { 0 = 0 }; opens = 2 }

-- both are open, and each has a handle of the reg `a`; the second has a callback on it
abbrev watching : List Event
watching =
    event.Open (codes "bob") (codes "t2") ∷ event.Open (codes "bob") (codes "t2") ∷ asks (codes "top.a")
    ∷ event.Ask second (query.Handle (codes "top.a") None) ∷ event.Ask second (query.Watch 1) ∷ []

-- what an event is answered after a put of the first session
abbrev answered_after_a_put : Event → Reply
answered_after_a_put e =
    answer shared (after shared (fold (after shared) (start shared) watching) (event.Ask first (query.Put 1 (Digits (codes "1"))))) e

-- the second is notified of it, and the first has no notice
put_told : answered_after_a_put (event.Ask second query.Poll) ≡ reply.Notices (record { notices = record { callback = 1; time = 0; value = One ∷ [] } ∷ []; lost = 0 })
unfolding digits is_utf8 chars encode sizes_in tables_of effect_at
put_told = refl

put_not_told : answered_after_a_put (event.Ask first query.Poll) ≡ reply.Notices (record { notices = []; lost = 0 })
unfolding digits is_utf8 chars encode sizes_in tables_of effect_at
put_not_told = refl

-- a grant that ends takes what waits along, and the callback
abbrev answered_after_an_end : Event → Reply
answered_after_an_end e =
    answer shared
    (fold (after shared) (start shared)
    (watching ++ event.Ask first (query.Put 1 (Digits (codes "1"))) ∷ grants_to (codes "bob") 0 (with_right right.List nothing) ∷ [])) e

nothing_waits : answered_after_an_end (event.Ask second query.Poll) ≡ reply.Notices (record { notices = []; lost = 0 })
unfolding digits is_utf8 chars encode sizes_in tables_of effect_at
nothing_waits = refl

callback_gone : answered_after_an_end (event.Ask second (query.Unwatch 1)) ≡ reply.Error refusal.NoSuchCallback
unfolding digits is_utf8 chars encode sizes_in tables_of effect_at
callback_gone = refl

-- ---- logs

-- a full log is reported before the goal, and after a session that is not open
log_full_first : refusal_of opening true (following (opens ∷ [])) (steps 0) ≡ Some error.LogFull
log_full_first = refl

not_open_first : refusal_of opening true (following []) (reads 1) ≡ Some error.NotOpen
not_open_first = refl

-- a log with the definition's replies is legal
abbrev entry : Event → Reply → Option Change → Entry
entry e r change = record { event = e; reply = r; change = change; time = 0; finished = false }

legal :
    IsLegal opening []
    (entry opens (reply.Opened first) None ∷ entry (asks (codes "top.k")) hidden None ∷ entry runs reply.Done None
    ∷ entry (steps 0) reply.Done (Some (record { object = record { 0 = 1 }; value = One ∷ [] }))
    ∷ entry (event.Close first) reply.Done None ∷ [])
unfolding digits is_utf8 chars encode sizes_in tables_of effect_at
legal = (tt, refl, refl, (tt, refl, refl, (tt, refl, refl, (tt, refl, refl, (tt, refl, refl, tt)))))

-- ---- full logs

-- the log of a world with these limits is full for an event: of so many entries, of which the first were handed out
abbrev is_full_with : Limits → (entries handed_out : ℕ) → Event → Bool
is_full_with limits entries handed_out e =
    is_log_full (record { opening = record opening { limits = limits }; log = replicate entries (entry event.Advance reply.Done None); handed_out = handed_out }) e

-- seven entries are the limit: of those that are held
six_held : is_full_with opening.limits 6 0 opens ≡ false
six_held = refl

seven_held : is_full_with opening.limits 7 0 opens ≡ true
seven_held = refl

seven_with_one_handed_out : is_full_with opening.limits 7 1 opens ≡ false
seven_with_one_handed_out = refl

fourteen_with_seven_handed_out : is_full_with opening.limits 14 7 (event.Close first) ≡ true
fourteen_with_seven_handed_out = refl

-- of ten entries four are left to users, two to the operator and closes, one to closes
abbrev shares : Limits
shares = record opening.limits { log = 10; for_users = 4; for_operator = 2; for_closes = 1 }

steps_take_three : (is_full_with shares 2 0 (steps 0) ≡ false) × (is_full_with shares 3 0 (steps 0) ≡ true)
steps_take_three = (refl, refl)

advances_take_three : (is_full_with shares 2 0 event.Advance ≡ false) × (is_full_with shares 3 0 event.Advance ≡ true)
advances_take_three = (refl, refl)

jobs_take_three : (is_full_with shares 2 0 event.TakeJob ≡ false) × (is_full_with shares 3 0 event.TakeJob ≡ true)
jobs_take_three = (refl, refl)

users_take_seven : (is_full_with shares 6 0 (reads 1) ≡ false) × (is_full_with shares 7 0 (reads 1) ≡ true)
users_take_seven = (refl, refl)

openings_take_seven : (is_full_with shares 6 0 opens ≡ false) × (is_full_with shares 7 0 opens ≡ true)
openings_take_seven = (refl, refl)

grants_take_nine :
    (is_full_with shares 8 0 (grants (codes "op") (codes "ann") 1 nothing) ≡ false)
    × (is_full_with shares 9 0 (grants (codes "op") (codes "ann") 1 nothing) ≡ true)
grants_take_nine = (refl, refl)

closes_take_ten : (is_full_with shares 9 0 (event.Close first) ≡ false) × (is_full_with shares 10 0 (event.Close first) ≡ true)
closes_take_ten = (refl, refl)

-- ---- bytes of texts

-- those of a login, of a name with a denial, which is one item, and of a change of a grant; a step has none
login_bytes : entry_bytes (entry opens (reply.Opened first) None) ≡ 5
login_bytes = refl

denied_bytes : entry_bytes (entry (asks (codes "top.k")) hidden None) ≡ 101
denied_bytes = refl

grant_bytes : entry_bytes (entry (grants (codes "op") (codes "ann") 1 nothing) reply.Done None) ≡ 5
grant_bytes = refl

step_bytes : entry_bytes (entry (steps 0) reply.Done None) ≡ 0
step_bytes = refl

-- each item of a list has 96 beside its name
listing_bytes :
    entry_bytes (entry (event.Ask first query.Time) (reply.Listing (record {
      closed = 1 ∷ [];
      items = record { handle = 1; name = codes "a" } ∷ record { handle = 2; name = codes "bb" } ∷ [];
    })) None) ≡ 196
listing_bytes = refl

-- the log of a world that holds ten bytes of texts at most is full for an event: of so many logins, of which the first were handed out
abbrev is_full_of_logins : (logins handed_out : ℕ) → Event → Bool
is_full_of_logins logins handed_out e = is_log_full (record {
  opening = record opening { limits = record opening.limits { bytes = Some 10 } };
  log = replicate logins (entry opens (reply.Opened first) None);
  handed_out = handed_out;
}) e

five_bytes_held : is_full_of_logins 1 0 opens ≡ false
five_bytes_held = refl

ten_bytes_held :
    (is_full_of_logins 2 0 opens ≡ true) × (is_full_of_logins 2 0 (reads 1) ≡ true)
    × (is_full_of_logins 2 0 (grants (codes "op") (codes "ann") 1 nothing) ≡ true)
ten_bytes_held = (refl, refl, refl)

five_of_ten_handed_out : is_full_of_logins 2 1 opens ≡ false
five_of_ten_handed_out = refl

-- bytes refuse no close, and no event of the simulation
not_by_bytes : (is_full_of_logins 2 0 (event.Close first) ≡ false) × (is_full_of_logins 2 0 (steps 0) ≡ false)
not_by_bytes = (refl, refl)
