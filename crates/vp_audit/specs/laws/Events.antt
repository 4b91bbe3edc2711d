-- A user's part of a world after an event is that before it with what of the event goes to him.
use Rattle.std.proofs.Common.{◌≡◌, ℕ, suc, Bool, false, true, List, [], ◌∷◌, length, Option, Some, None, refl, ap, sym, subst, ◌∙◌, arith}
use Rattle.std.specs.Prelude.{◌==◌, filter, if◌then◌else◌, map, slice_index, slice_index_or, unwrap_or}
use Rattle.std.specs.List.{All}
use Rattle.std.proofs.lemmas.List.{length-set}
use Rattle.std.proofs.lemmas.List.Elements.{All-map}
use Rattle.vp_bits.specs.declared.bit.Bit.{Bit}
use Rattle.vp_elab.specs.Built.{Elaborated}
use Rattle.vp_elab.specs.Tree.{Tree}
use Rattle.vp_policy.specs.PolicyState.{PolicyState}
use Rattle.vp_policy.specs.Users.{Member, member_at}
use Rattle.vp_policy.specs.View.{View, known_view}
use Rattle.vp_sim.specs.States as sim
use Rattle.vp_race.specs.Recording.{Segments}
use Rattle.vp_sim.specs.laws.Designs.{Leaves}
use Rattle.vp_expr.specs.declared.change.Change.{Change}
use Rattle.vp_expr.specs.Changes.{values_with}
use Rattle.vp_vpi.specs.declared.races.ShownRace.{ShownRace}
use Rattle.vp_world.specs.Races.{races_seen}
use Rattle.vp_answer.specs.Renumbering as under
use Rattle.vp_world.specs.History.{change_of, noticed, stepped}
pub use Rattle.vp_answer.specs.OpenSessions.{is_of}
use Rattle.vp_answer.specs.OpenSessions.{OpenSessionState, notified_session}
use Rattle.vp_world.specs.Worlds.{State}
use Rattle.vp_replay.specs.Parts.{Part, values_after}
use Rattle.vp_answer.proofs.Lists.{map_same}
use Rattle.vp_audit.specs.Projections.{change_seen, other_flag, other_number}
use Rattle.vp_audit.specs.laws.Alike.{IsKnown}
use Rattle.vp_audit.specs.laws.After.{AreWatched, due_same, values_kept, watched_due}
use Rattle.vp_replay.specs.laws.Denials.{denied_seen_at}
use Rattle.vp_replay.specs.laws.Known.{by_index}
use Rattle.vp_audit.specs.laws.Sims.{Changes, IsWithin}

-- a session under the numbers of what is known
abbrev pub session_under : List Bool → OpenSessionState → OpenSessionState
session_under known t = record { id = t.id; session_state = under.session_state (by_index known) t.session_state }

-- a part's sessions are those of its user in a world, under the numbers of what he knows
abbrev pub AreSessions : ℕ → List Bool → (part world : List OpenSessionState) → Type 0
AreSessions u known mine all = map (session_under known) mine ≡ filter (is_of u) all

-- each session is of the user whom its name names
abbrev pub AreNamed : List OpenSessionState → Type 0
AreNamed sessions = All (λ (t : OpenSessionState). t.session_state.user ≡ t.id.user.0) sessions

-- sessions whose callbacks are on objects that may be watched
abbrev pub AllWatched : View → List OpenSessionState → Type 0
AllWatched v sessions = All (λ (t : OpenSessionState). AreWatched v t.session_state.registry.callbacks) sessions

-- a part is that of a user in a state of a world of a design, where he knows so much
pub record IsPartOf (design : Elaborated) (u : ℕ) (s : State) (known : List Bool) (p : Part) : Type 0 where
  pub its_design : s.run.design ≡ design
  pub its_tree : s.policy.tree ≡ design.tree
  pub many : length s.run.values ≡ length design.tree.nodes
  pub view : p.view ≡ known_view design (member_at s.policy.members u) known
  pub is_known : IsKnown design s.run.values (member_at s.policy.members u) known p.values
  pub counts : length s.opens ≡ length s.policy.members
  pub opens : p.opens ≡ slice_index s.opens u
  pub sessions : AreSessions u known p.sessions s.sessions
  pub named : AreNamed s.sessions
  pub watched : AllWatched p.view p.sessions
  pub time : p.time ≡ s.run.time
  pub finished : p.finished ≡ s.run.finished
  pub races : p.races ≡ races_seen design.tree (member_at s.policy.members u) s.book

-- ---- lists

-- what holds of each
pub map_all : {X : Type 0} (P Q : X → Type 0) → ((x : X) → P x → Q x) → (xs : List X) → All P xs → All Q xs
map_all P Q f xs h k d l = f (slice_index_or xs k d) (h k d l)

-- two forms that agree where something holds
pub map_alike : {X Y : Type 0} (P : X → Type 0) (f g : X → Y) → ((x : X) → P x → f x ≡ g x) → (xs : List X) → All P xs → map f xs ≡ map g xs
map_alike P f g h [] all = refl
map_alike P f g h (x ∷ xs) all =
    ap (λ y. y ∷ map f xs) (h x (all 0 x (omega arith))) ∙ ap (λ ys. g x ∷ ys) (map_alike P f g h xs (λ k d l. all (suc k) d (omega arith)))

-- two forms, one after the other
pub map_twice : {X Y Z : Type 0} (f : X → Y) (g : Y → Z) (xs : List X) → map g (map f xs) ≡ map (λ x. g (f x)) xs
map_twice f g [] = refl
map_twice f g (x ∷ xs) = ap (λ ys. g (f x) ∷ ys) (map_twice f g xs)

-- what passes a test that a form does not touch
pub filter_form : {X : Type 0} (f : X → X) (q : X → Bool) → ((x : X) → q (f x) ≡ q x) → (xs : List X) → filter q (map f xs) ≡ map f (filter q xs)
filter_form f q h [] = refl
filter_form f q h (x ∷ xs) = by_test (q x) (h x) (filter_form f q h xs) where
  by_test : (b : Bool) → q (f x) ≡ b → filter q (map f xs) ≡ map f (filter q xs)
      → (if q (f x) then f x ∷ filter q (map f xs) else filter q (map f xs)) ≡ map f (if b then x ∷ filter q xs else filter q xs)
  by_test true e rest = ap (λ (b : Bool). if b then f x ∷ filter q (map f xs) else filter q (map f xs)) e ∙ ap (λ ys. f x ∷ ys) rest
  by_test false e rest = ap (λ (b : Bool). if b then f x ∷ filter q (map f xs) else filter q (map f xs)) e ∙ rest

-- numbers that a test finds the same
pub same_number : (a b : ℕ) → (a == b) ≡ true → a ≡ b
same_number a b e = grind (arith, e)

-- ---- after a change

module _ (design : Elaborated) (u : ℕ) (m : Member) (known : List Bool) (all : List (List Bit)) (many : length all ≡ length design.tree.nodes) (values : List (Option (List Bit)))
    (is_known : IsKnown design all m known values) where
  -- the sessions after a change are those to which what goes to their user of it is due
  pub sessions_due : (change : Option Change) → IsWithin all change → (time : ℕ) (mine world : List OpenSessionState) → AllWatched (known_view design m known) mine
      → AreSessions u known mine world → AreSessions u known (map (notified_session (change_seen design.tree m known change) time) mine) (noticed change time world)
  sessions_due change within time mine world watched are =
      map_twice (notified_session (change_seen design.tree m known change) time) (session_under known) mine
      ∙ map_alike (λ (t : OpenSessionState). AreWatched (known_view design m known) t.session_state.registry.callbacks)
      (λ t. session_under known (notified_session (change_seen design.tree m known change) time t)) (λ t. notified_session change time (session_under known t))
      (λ t h. ap (λ session_state. record { id = t.id; session_state = session_state })
      (sym (due_same design m known is_known.long (λ r k. denied_seen_at design m known is_known.long is_known.envelopes r k) all many t.session_state change time within h))) mine watched
      ∙ sym (map_twice (session_under known) (notified_session change time) mine)
      ∙ ap (map (notified_session change time)) are
      ∙ sym (filter_form (notified_session change time) (is_of u) (λ t. refl) world)

  -- their callbacks are on objects that may be watched
  pub sessions_watched : (change : Option Change) (time : ℕ) (mine : List OpenSessionState) → AllWatched (known_view design m known) mine
      → AllWatched (known_view design m known) (map (notified_session (change_seen design.tree m known change) time) mine)
  sessions_watched change time mine watched =
      All-map (λ (t : OpenSessionState). AreWatched (known_view design m known) t.session_state.registry.callbacks) (notified_session (change_seen design.tree m known change) time) mine
      (map_all (λ (t : OpenSessionState). AreWatched (known_view design m known) t.session_state.registry.callbacks)
      (λ (t : OpenSessionState). AreWatched (known_view design m known) (notified_session (change_seen design.tree m known change) time t).session_state.registry.callbacks)
      (λ t h. watched_due (known_view design m known) (change_seen design.tree m known change) time t.session_state h) mine watched)

  -- and what is known is so of the values after it
  pub known_kept : (change : Option Change) → IsWithin all change
      → IsKnown design (values_with all change) m known (values_after values (change_seen design.tree m known change))
  known_kept change within = record {
    long = is_known.long;
    envelopes = is_known.envelopes;
    differ = is_known.differ;
    covers = is_known.covers;
    are_values =
        values_kept design m known is_known.long (λ r k. denied_seen_at design m known is_known.long is_known.envelopes r k) all values many is_known.are_values change within;
  }

-- ---- after what the simulation does

-- a number after another, and a flag
pub number_after : (a b : ℕ) → unwrap_or (other_number a b) a ≡ b
number_after a b = by_test (a == b) refl where
  by_test : (c : Bool) → (a == b) ≡ c → unwrap_or (if a == b then None else Some b) a ≡ b
  by_test true e = ap (λ (c : Bool). unwrap_or (if c then None else Some b) a) e ∙ same_number a b e
  by_test false e = ap (λ (c : Bool). unwrap_or (if c then None else Some b) a) e

-- and whether something is so
pub flag_after : (a b : Bool) → unwrap_or (other_flag a b) a ≡ b
flag_after true true = refl
flag_after true false = refl
flag_after false true = refl
flag_after false false = refl

-- the part after sessions, a change, and what an event did to the simulation and the book
abbrev pub part_following : Part → Tree → Member → List Bool → (opens : ℕ) → (mine : List OpenSessionState) → Option Change → sim.State → (races : List ShownRace) → Part
part_following p tree m known opens mine change run races = record {
  view = p.view;
  opens = opens;
  sessions = map (notified_session (change_seen tree m known change) run.time) mine;
  values = values_after p.values (change_seen tree m known change);
  time = run.time;
  finished = run.finished;
  races = races;
}

-- where no grant of his changes, it is his part of the world
pub after_is : (design : Elaborated) (u : ℕ) (s : State) (known : List Bool) (p : Part) → IsPartOf design u s known p → (t : State) (change : Option Change) (opens : ℕ) (mine world : List OpenSessionState)
    (races : List ShownRace) → t.policy ≡ s.policy → t.run.design ≡ design → t.run.values ≡ values_with s.run.values change → IsWithin s.run.values change
    → t.sessions ≡ noticed change t.run.time world → AreSessions u known mine world → AreNamed world → AllWatched p.view mine
    → length t.opens ≡ length s.opens → opens ≡ slice_index t.opens u → races ≡ races_seen design.tree (member_at s.policy.members u) t.book
    → IsPartOf design u t known (part_following p design.tree (member_at s.policy.members u) known opens mine change t.run races)
after_is design u s known p is t change opens mine world races policy its_design values within sessions are named watched counts opened shown =
    let m = member_at s.policy.members u in
    let watched_known = subst (λ v. AllWatched v mine) is.view watched in
    let same_member : m ≡ member_at t.policy.members u = ap (λ (q : PolicyState). member_at q.members u) (sym policy) in
    let known_is = subst (λ vs. IsKnown design vs m known (values_after p.values (change_seen design.tree m known change))) (sym values)
    (known_kept design u m known s.run.values is.many p.values is.is_known change within) in
    record {
      its_design = its_design;
      its_tree = ap (λ (q : PolicyState). q.tree) policy ∙ is.its_tree;
      many = ap length values ∙ after_length s.run.values change ∙ is.many;
      view = is.view ∙ ap (λ (x : Member). known_view design x known) same_member;
      is_known = subst (λ (x : Member). IsKnown design t.run.values x known (values_after p.values (change_seen design.tree m known change))) same_member known_is;
      counts = counts ∙ is.counts ∙ ap (λ (q : PolicyState). length q.members) (sym policy);
      opens = opened;
      sessions = subst (AreSessions u known (map (notified_session (change_seen design.tree m known change) t.run.time) mine)) (sym sessions)
          (sessions_due design u m known s.run.values is.many p.values is.is_known change within t.run.time mine world watched_known are);
      named = subst AreNamed (sym sessions) (named_after change t.run.time world named);
      watched = subst (λ v. AllWatched v (map (notified_session (change_seen design.tree m known change) t.run.time) mine)) (sym is.view)
          (sessions_watched design u m known s.run.values is.many p.values is.is_known change t.run.time mine watched_known);
      time = refl;
      finished = refl;
      races = shown ∙ ap (λ (x : Member). races_seen design.tree x t.book) same_member;
    }
  where
    after_length : (vs : List (List Bit)) (c : Option Change) → length (values_with vs c) ≡ length vs
    after_length vs None = refl
    after_length vs (Some c) = length-set vs c.object.0 c.value

    named_after : (c : Option Change) (time : ℕ) (ts : List OpenSessionState) → AreNamed ts → AreNamed (noticed c time ts)
    named_after c time ts h =
        All-map (λ (t : OpenSessionState). t.session_state.user ≡ t.id.user.0) (notified_session c time) ts
        (map_all (λ (t : OpenSessionState). t.session_state.user ≡ t.id.user.0) (λ (t : OpenSessionState). (notified_session c time t).session_state.user ≡ (notified_session c time t).id.user.0) (λ t e. e) ts h)

-- what a step of the simulation, or a put, leaves
pub stepped_is : (design : Elaborated) (u : ℕ) (s : State) (known : List Bool) (p : Part) → IsPartOf design u s known p → (goal : Option ℕ) (opens : ℕ) (mine world : List OpenSessionState)
    (segments : sim.State → Segments) (o : sim.Outcome) → Changes s.run.values o → Leaves s.run.design o
    → AreSessions u known mine world → AreNamed world → AllWatched p.view mine → opens ≡ slice_index s.opens u
    → let t : State = stepped (record s { sessions = world; goal = goal }) segments o in
    IsPartOf design u t known (part_following p design.tree (member_at s.policy.members u) known opens mine (change_of o) t.run p.races)
stepped_is design u s known p is goal opens mine world segments (sim.Goes run change) changes leaves are named watched opened =
    after_is design u s known p is (stepped (record s { sessions = world; goal = goal }) segments (sim.Goes run change)) change opens mine world p.races refl (leaves ∙ is.its_design)
    changes.0 changes.1 refl are named watched refl opened is.races
stepped_is design u s known p is goal opens mine world segments (sim.Refuses e) changes leaves are named watched opened =
    after_is design u s known p is (record s { sessions = world; goal = goal }) None opens mine world p.races refl is.its_design refl tt
    (sym (map_same (notified_session None s.run.time) (λ t. refl) world)) are named watched refl opened is.races
