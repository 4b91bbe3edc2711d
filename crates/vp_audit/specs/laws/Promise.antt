-- What a user is shown is a function of what he sees at the opening and of what of the log goes to him.
use Rattle.std.proofs.Common.{◌≡◌, ℕ, ◌<◌, Bool, false, true, List, [], length, Option, Some, None, refl, ap, sym, subst, ◌∙◌, arith}
use Rattle.std.specs.Prelude.{◌==◌, if◌then◌else◌, map, option_and_then, option_map, slice_get, unwrap_or}
use Rattle.std.specs.List.{remove}
use Rattle.std.specs.Option.{option_map_or}
use Rattle.std.specs.Str.{bytes_eq}
use Rattle.std.proofs.lemmas.List.Quantifiers.{position-Some}
use Rattle.vp_elab.specs.Built.{Elaborated}
use Rattle.vp_policy.specs.Users.{Member, has_token, login_of, member_at, nobody, user_of}
use Rattle.vp_sim.specs.States as sim
use Rattle.vp_sim.specs.laws.Designs.{advance_leaves, step_leaves}
use Rattle.vp_race.specs.Recording.{with_anew, with_step}
use Rattle.vp_expr.specs.declared.change.Change.{Change}
use Rattle.vp_vpi.specs.declared.races.ShownRace.{ShownRace}
use Rattle.vp_answer.specs.declared.request.EndOrder.{EndOrder}
use Rattle.vp_answer.specs.declared.request.GrantChange.{GrantChange}
use Rattle.vp_answer.specs.declared.query.Query.{Query}
use Rattle.vp_answer.specs.declared.request.SessionId.{SessionId}
use Rattle.vp_answer.specs.declared.reply.Refusal.TheVariants as refusal
use Rattle.vp_answer.specs.declared.reply.Reply.{Reply}
use Rattle.vp_answer.specs.declared.reply.Reply.TheVariants as reply
use Rattle.vp_world.specs.declared.event.Event.{Event}
use Rattle.vp_world.specs.declared.event.Event.TheVariants as event
use Rattle.vp_world.specs.History.{after, answer, asked, asked_at, changed, changed_by, closed_at, ended_for, entry_of, granted_to, next_session, opened_by, with_job_taken}
use Rattle.vp_world.specs.Worlds.{Opening, State}
use Rattle.vp_answer.specs.OpenSessions.{index_of, notified_session}
use Rattle.vp_replay.specs.Known.{known_also}
use Rattle.vp_replay.specs.declared.item.Item.{Item}
use Rattle.vp_replay.specs.declared.item.OrderItem.{OrderItem}
use Rattle.vp_replay.specs.declared.item.OwnEvent.{OwnEvent}
use Rattle.vp_replay.specs.declared.item.OwnEvent.TheVariants.{Asks, Closes, Opens}
use Rattle.vp_replay.specs.Parts.{values_after, Part, opens_after, part_after, part_granted, part_after_entry, races_after, reply_of, response_in, sessions_after, with_answer}
use Rattle.vp_audit.specs.Projections.{change_seen, granted_of, is_end_of, item_of, known_after, opened_by_reply, order_by, other_flag, other_number, own_if, own_of, own_reply, race_of_event, regrant_of}
use Rattle.vp_audit.specs.laws.Cases.{ComesTo, asked_other, asked_own, booked_case, closed_other, closed_own, ended_other, ended_own, halted_case, nothing_case, opened_other, opened_own, own_is, own_not, part_none, step_case}
use Rattle.vp_answer.proofs.Lists.{map_same}
use Rattle.vp_audit.specs.laws.Events.{IsPartOf, after_is, flag_after, number_after, part_following, same_number}
use Rattle.vp_audit.specs.laws.Grants.{granted_other, granted_own}
use Rattle.vp_audit.specs.laws.Sims.{advance_changes, step_changes}

-- ---- users

-- the user of a name is one of the users
user_within : (members : List Member) (name : List ℕ) (v : ℕ) → user_of members name ≡ Some v → v < length members
user_within members name v e = (position-Some (λ m. bytes_eq name m.name) members v nobody e).0

-- so is who is logged in
login_within : (members : List Member) (name token : List ℕ) (v : ℕ) → login_of members name token ≡ Some v → v < length members
login_within members name token v e = by_user (user_of members name) refl e where
  by_token : (b : Bool) (w : ℕ) → user_of members name ≡ Some w → (if b then Some w else None) ≡ Some v → v < length members
  by_token true w is f = let same : w ≡ v = cc in user_within members name v (is ∙ ap Some same)
  by_token false w is f = absurd (cc)

  by_user : (w : Option ℕ) → user_of members name ≡ w → option_and_then (λ user. if has_token members token user then Some user else None) w ≡ Some v → v < length members
  by_user None is f = absurd (cc)
  by_user (Some w) is f = by_token (has_token members token w) w is f

-- ---- events

-- an event that is neither a change of grants nor an end of sessions
abbrev pub IsUnordered : Event → Type 0
IsUnordered (event.Grant change) = ⊥
IsUnordered (event.End order) = ⊥
IsUnordered e = Unit {0}

-- an opening, by the user whom it logs in
open_case : (design : Elaborated) (u : ℕ) (s : State) (known : List Bool) (p : Part) → IsPartOf design u s known p → (found : Option ℕ) → ((v : ℕ) → found ≡ Some v → v < length s.opens)
    → (let answered : Reply = option_map_or (λ v. reply.Opened (next_session s v)) found (reply.Error refusal.BadToken) in
    ComesTo design u s (option_map_or (opened_by s) found s) known p (opened_by_reply u answered) None answered p.races)
open_case design u s known p is None within = nothing_case design u s known p is (reply.Error refusal.BadToken)
open_case design u s known p is (Some v) within = by_test (v == u) refl where
  by_test : (b : Bool) → (v == u) ≡ b
      → ComesTo design u s (opened_by s v) known p (own_if u (next_session s v) (Opens (next_session s v))) None (reply.Opened (next_session s v)) p.races
  by_test true e =
      let same = same_number v u e in
      subst (λ own_event. ComesTo design u s (opened_by s v) known p own_event None (reply.Opened (next_session s v)) p.races) (sym (own_is u (next_session s v) (Opens (next_session s v)) e))
      (subst (λ (n : ℕ). ComesTo design u s (opened_by s n) known p (Some (Opens (next_session s n))) None (reply.Opened (next_session s n)) p.races) (sym same)
      (opened_own design u s known p is (let l = within v refl in omega (arith, same, l))))
  by_test false e =
      subst (λ own_event. ComesTo design u s (opened_by s v) known p own_event None (reply.Opened (next_session s v)) p.races) (sym (own_not u (next_session s v) (Opens (next_session s v)) e))
      (opened_other design u s known p is v e (reply.Opened (next_session s v)))

-- a query, by the index of its session
ask_case : (design : Elaborated) (u : ℕ) (s : State) (known : List Bool) (p : Part) → IsPartOf design u s known p → (id : SessionId) (r : Query) (index : Option ℕ) → index_of s.sessions id ≡ index
    → (b : Bool) → (id.user.0 == u) ≡ b
    → ComesTo design u s (asked_at s index r) known p (own_if u id (Asks id r)) (changed_by s (option_and_then (slice_get s.sessions) index) r) (asked s (option_and_then (slice_get s.sessions) index) r) p.races
ask_case design u s known p is id r None at true own_event =
    let gone = part_none u known p.sessions s.sessions is.sessions id at in
    let base = nothing_case design u s known p is (reply.Error refusal.NotOpen) in
    subst (λ o. ComesTo design u s s known p o None (reply.Error refusal.NotOpen) p.races) (sym (own_is u id (Asks id r) own_event))
    (record {
      part = subst (λ ts. IsPartOf design u s known (part_following p design.tree (member_at s.policy.members u) known p.opens ts None s.run p.races))
          (sym (ap (λ n. option_map_or (λ k. with_answer p.sessions k (slice_get p.sessions k) (response_in p (slice_get p.sessions k) r)) n p.sessions) gone)) base.part;
      replied = ap Some (sym (ap (λ n. option_map_or (λ g. g.reply) (response_in p (option_and_then (slice_get p.sessions) n) r) (reply.Error refusal.NotOpen)) gone));
    })
ask_case design u s known p is id r None at false own_event =
    subst (λ o. ComesTo design u s s known p o None (reply.Error refusal.NotOpen) p.races) (sym (own_not u id (Asks id r) own_event)) (nothing_case design u s known p is (reply.Error refusal.NotOpen))
ask_case design u s known p is id r (Some index) at true own_event =
    subst (λ o. ComesTo design u s (asked_at s (Some index) r) known p o (changed_by s (slice_get s.sessions index) r) (asked s (slice_get s.sessions index) r) p.races) (sym (own_is u id (Asks id r) own_event))
    (asked_own design u s known p is id r own_event index at)
ask_case design u s known p is id r (Some index) at false own_event =
    subst (λ o. ComesTo design u s (asked_at s (Some index) r) known p o (changed_by s (slice_get s.sessions index) r) (asked s (slice_get s.sessions index) r) p.races) (sym (own_not u id (Asks id r) own_event))
    (asked_other design u s known p is id r own_event index at (slice_get s.sessions index) refl (asked s (slice_get s.sessions index) r))

-- a closing, by the index of its session
close_case : (design : Elaborated) (u : ℕ) (s : State) (known : List Bool) (p : Part) → IsPartOf design u s known p → (id : SessionId) (index : Option ℕ) → index_of s.sessions id ≡ index
    → (b : Bool) → (id.user.0 == u) ≡ b → ComesTo design u s (closed_at s index) known p (own_if u id (Closes id)) None reply.Done p.races
close_case design u s known p is id None at true own_event =
    let gone = part_none u known p.sessions s.sessions is.sessions id at in
    let base = nothing_case design u s known p is reply.Done in
    subst (λ o. ComesTo design u s s known p o None reply.Done p.races) (sym (own_is u id (Closes id) own_event))
    (record {
      part = subst (λ ts. IsPartOf design u s known (part_following p design.tree (member_at s.policy.members u) known p.opens ts None s.run p.races))
          (sym (ap (λ n. option_map_or (remove p.sessions) n p.sessions) gone)) base.part;
      replied = refl;
    })
close_case design u s known p is id None at false own_event =
    subst (λ o. ComesTo design u s s known p o None reply.Done p.races) (sym (own_not u id (Closes id) own_event)) (nothing_case design u s known p is reply.Done)
close_case design u s known p is id (Some index) at true own_event =
    subst (λ o. ComesTo design u s (closed_at s (Some index)) known p o None reply.Done p.races) (sym (own_is u id (Closes id) own_event)) (closed_own design u s known p is id own_event index at)
close_case design u s known p is id (Some index) at false own_event =
    subst (λ o. ComesTo design u s (closed_at s (Some index)) known p o None reply.Done p.races) (sym (own_not u id (Closes id) own_event)) (closed_other design u s known p is id own_event index at)

-- each of them
pub event_comes : (opening : Opening) (design : Elaborated) (u : ℕ) (s : State) (known : List Bool) (p : Part) → IsPartOf design u s known p → (e : Event) → IsUnordered e
    → ComesTo design u s (after opening s e) known p (own_of u e (answer opening s e)) (changed s e) (answer opening s e) (races_after p.races (race_of_event design.tree (member_at s.policy.members u) e))
event_comes opening design u s known p is (event.Open name token) n =
    open_case design u s known p is (login_of s.policy.members name token)
    (λ v e. let l = login_within s.policy.members name token v e in let c = is.counts in omega (arith, l, c))
event_comes opening design u s known p is (event.Ask id r) n = ask_case design u s known p is id r (index_of s.sessions id) refl (id.user.0 == u) refl
event_comes opening design u s known p is (event.Close id) n = close_case design u s known p is id (index_of s.sessions id) refl (id.user.0 == u) refl
event_comes opening design u s known p is (event.Grant change) n = absurd n
event_comes opening design u s known p is (event.End order) n = absurd n
event_comes opening design u s known p is (event.Halt order) n = halted_case design u s known p is reply.Done
event_comes opening design u s known p is (event.Step k) n = step_case design u s known p is (with_step s.segments k) (sim.step s.run k) (step_changes s.run k) (step_leaves s.run k) reply.Done
event_comes opening design u s known p is event.Advance n = step_case design u s known p is (with_anew s.segments) (sim.advance s.run) (advance_changes s.run) (advance_leaves s.run) reply.Done
event_comes opening design u s known p is event.TakeJob n =
    record {
      part = after_is design u s known p is (with_job_taken s) None p.opens p.sessions s.sessions p.races refl is.its_design refl tt (sym (map_same (notified_session None s.run.time) (λ t. refl) s.sessions))
          is.sessions is.named is.watched refl is.opens is.races;
      replied = refl;
    }
event_comes opening design u s known p is (event.Book finding) n = booked_case design u s known p is finding reply.Done

-- ---- items

-- the part after what goes to a user of an event that is no order of an operator about him
entry_part : (design : Elaborated) (u : ℕ) (s : State) (known : List Bool) (p : Part) → IsPartOf design u s known p → (t : State) (own_event : Option OwnEvent) (change : Option Change) (race : Option ShownRace)
    → part_after_entry p own_event (record {
      own_event = own_event;
      order = None;
      change = change_seen s.run.design.tree (member_at s.policy.members u) known change;
      time = other_number s.run.time t.run.time;
      finished = other_flag s.run.finished t.run.finished;
      race = race;
    })
    ≡ part_following p design.tree (member_at s.policy.members u) known (option_map_or (opens_after p) own_event p.opens) (option_map_or (sessions_after p) own_event p.sessions) change t.run (races_after p.races race)
entry_part design u s known p is t own_event change race =
    let m = member_at s.policy.members u in
    let time : unwrap_or (other_number s.run.time t.run.time) p.time ≡ t.run.time = ap (unwrap_or (other_number s.run.time t.run.time)) is.time ∙ number_after s.run.time t.run.time in
    let finished : unwrap_or (other_flag s.run.finished t.run.finished) p.finished ≡ t.run.finished =
    ap (unwrap_or (other_flag s.run.finished t.run.finished)) is.finished ∙ flag_after s.run.finished t.run.finished in
    let mine = option_map_or (sessions_after p) own_event p.sessions in
    let opens = option_map_or (opens_after p) own_event p.opens in
    ap (λ (d : Elaborated). record {
      view = p.view;
      opens = opens;
      sessions = map (notified_session (change_seen d.tree m known change) (unwrap_or (other_number s.run.time t.run.time) p.time)) mine;
      values = values_after p.values (change_seen d.tree m known change);
      time = unwrap_or (other_number s.run.time t.run.time) p.time;
      finished = unwrap_or (other_flag s.run.finished t.run.finished) p.finished;
      races = races_after p.races race;
    }) is.its_design
    ∙ ap (λ (n : ℕ). record {
      view = p.view;
      opens = opens;
      sessions = map (notified_session (change_seen design.tree m known change) n) mine;
      values = values_after p.values (change_seen design.tree m known change);
      time = n;
      finished = unwrap_or (other_flag s.run.finished t.run.finished) p.finished;
      races = races_after p.races race;
    }) time
    ∙ ap (λ b. record {
      view = p.view;
      opens = opens;
      sessions = map (notified_session (change_seen design.tree m known change) t.run.time) mine;
      values = values_after p.values (change_seen design.tree m known change);
      time = t.run.time;
      finished = b;
      races = races_after p.races race;
    }) finished

-- what goes to a user of an event
abbrev pub item_at : Opening → ℕ → State → List Bool → Event → Item
item_at opening u s known e = item_of u s (after opening s e) known (known_after u s (after opening s e) known e) (entry_of opening s e)

-- what comes of it: his part of the state after it, and the reply to it, if it is his own
pub record Follows (opening : Opening) (design : Elaborated) (u : ℕ) (s : State) (known : List Bool) (p : Part) (e : Event) : Type 0 where
  pub part : IsPartOf design u (after opening s e) (known_after u s (after opening s e) known e) (part_after p (item_at opening u s known e))
  pub replied : own_reply u (entry_of opening s e) ≡ option_map (reply_of p) (item_at opening u s known e).own_event

-- the same by what comes of an event that is no order of an operator about him
follows_by : (opening : Opening) (design : Elaborated) (u : ℕ) (s : State) (known : List Bool) (p : Part) → IsPartOf design u s known p → (e : Event) → regrant_of u s.policy e ≡ None → is_end_of u s.policy e ≡ false
    → ComesTo design u s (after opening s e) known p (own_of u e (answer opening s e)) (changed s e) (answer opening s e) (races_after p.races (race_of_event design.tree (member_at s.policy.members u) e))
    → Follows opening design u s known p e
follows_by opening design u s known p is e none no_end comes =
    let t = after opening s e in
    let m = member_at s.policy.members u in
    let own_event = own_of u e (answer opening s e) in
    let race = race_of_event s.run.design.tree m e in
    let races : races_after p.races (race_of_event design.tree m e) ≡ races_after p.races race = ap (λ (d : Elaborated). races_after p.races (race_of_event d.tree m e)) (sym is.its_design) in
    let known_same : known_after u s t known e ≡ known = ap (λ g. option_map_or (λ (x : GrantChange). known_also t.run.design.tree (member_at t.policy.members u) known t.run.design.tree.nodes) g known) none in
    let item_same : part_after p (item_at opening u s known e) ≡ part_after_entry p own_event (record {
      own_event = own_event;
      order = None;
      change = change_seen s.run.design.tree m known (changed s e);
      time = other_number s.run.time t.run.time;
      finished = other_flag s.run.finished t.run.finished;
      race = race;
    }) =
    ap (λ (o : Option OrderItem). part_after p (record {
      own_event = own_event;
      order = o;
      change = change_seen s.run.design.tree m known (changed s e);
      time = other_number s.run.time t.run.time;
      finished = other_flag s.run.finished t.run.finished;
      race = race;
    })) (ap (λ (b : Bool). order_by b (option_map (granted_of u s t known (known_after u s t known e)) (regrant_of u s.policy e))) no_end
    ∙ ap (λ (g : Option GrantChange). order_by false (option_map (granted_of u s t known (known_after u s t known e)) g)) none) in
    record {
      part =
          subst (λ ks. IsPartOf design u t ks (part_after p (item_at opening u s known e))) (sym known_same)
          (subst (IsPartOf design u t known) (sym (item_same ∙ entry_part design u s known p is t own_event (changed s e) race))
          (subst (λ rs. IsPartOf design u t known (part_following p design.tree m known (option_map_or (opens_after p) own_event p.opens) (option_map_or (sessions_after p) own_event p.sessions) (changed s e) t.run rs)) races
          comes.part));
      replied = comes.replied;
    }

-- a change of grants, by the user whose it is
grant_case : (opening : Opening) (design : Elaborated) (u : ℕ) (s : State) (known : List Bool) (p : Part) → IsPartOf design u s known p → (change : GrantChange) (found : Option ℕ)
    → user_of s.policy.members change.user ≡ found → Follows opening design u s known p (event.Grant change)
grant_case opening design u s known p is change None at =
    follows_by opening design u s known p is (event.Grant change) (ap (λ (n : Option ℕ). if option_map_or (λ v. v == u) n false then Some change else None) at) refl
    (subst (λ (n : Option ℕ). ComesTo design u s (option_map_or (granted_to s change) n s) known p None None reply.Done p.races) (sym at) (nothing_case design u s known p is reply.Done))
grant_case opening design u s known p is change (Some v) at = by_test (v == u) refl where
  by_test : (b : Bool) → (v == u) ≡ b → Follows opening design u s known p (event.Grant change)
  by_test false e =
      follows_by opening design u s known p is (event.Grant change)
      (ap (λ (n : Option ℕ). if option_map_or (λ w. w == u) n false then Some change else None) at ∙ ap (λ (b : Bool). if b then Some change else None) e) refl
      (subst (λ (n : Option ℕ). ComesTo design u s (option_map_or (granted_to s change) n s) known p None None reply.Done p.races) (sym at)
      (record { part = granted_other design u s known p is change v e; replied = refl }))
  by_test true e =
      let same : v ≡ u = same_number v u e in
      let his : user_of s.policy.members change.user ≡ Some u = at ∙ ap Some same in
      let regrant : regrant_of u s.policy (event.Grant change) ≡ Some change =
      ap (λ (n : Option ℕ). if option_map_or (λ w. w == u) n false then Some change else None) at ∙ ap (λ (b : Bool). if b then Some change else None) e in
      let t = after opening s (event.Grant change) in
      let t_is : t ≡ granted_to s change u = ap (λ (n : Option ℕ). option_map_or (granted_to s change) n s) his in
      let now_is : known_after u s t known (event.Grant change) ≡ known_also t.run.design.tree (member_at t.policy.members u) known t.run.design.tree.nodes =
      ap (λ g. option_map_or (λ (x : GrantChange). known_also t.run.design.tree (member_at t.policy.members u) known t.run.design.tree.nodes) g known) regrant in
      let part_is : part_after p (item_at opening u s known (event.Grant change)) ≡ part_granted p (granted_of u s t known (known_after u s t known (event.Grant change)) change) =
      ap (λ (g : Option GrantChange). part_after p (record (item_at opening u s known (event.Grant change)) {
        order = order_by false (option_map (granted_of u s t known (known_after u s t known (event.Grant change))) g);
      })) regrant in
      let base = granted_own design u s known p is change (user_within s.policy.members change.user u his) in
      record {
        part =
            subst (λ q. IsPartOf design u t (known_after u s t known (event.Grant change)) q) (sym part_is)
            (subst (λ ks. IsPartOf design u t ks (part_granted p (granted_of u s t known ks change))) (sym now_is)
            (subst (λ (x : State). (let now : List Bool = known_also x.run.design.tree (member_at x.policy.members u) known x.run.design.tree.nodes in
            IsPartOf design u x now (part_granted p (granted_of u s x known now change)))) (sym t_is) base));
        replied = refl;
      }

-- an end of sessions, by the user whose they are
end_case : (opening : Opening) (design : Elaborated) (u : ℕ) (s : State) (known : List Bool) (p : Part) → IsPartOf design u s known p → (order : EndOrder) (found : Option ℕ)
    → user_of s.policy.members order.user ≡ found → Follows opening design u s known p (event.End order)
end_case opening design u s known p is order None at =
    follows_by opening design u s known p is (event.End order) refl (ap (λ (n : Option ℕ). option_map_or (λ v. v == u) n false) at)
    (subst (λ (n : Option ℕ). ComesTo design u s (option_map_or (ended_for s) n s) known p None None reply.Done p.races) (sym at) (nothing_case design u s known p is reply.Done))
end_case opening design u s known p is order (Some v) at = by_test (v == u) refl where
  by_test : (b : Bool) → (v == u) ≡ b → Follows opening design u s known p (event.End order)
  by_test false e =
      follows_by opening design u s known p is (event.End order) refl (ap (λ (n : Option ℕ). option_map_or (λ w. w == u) n false) at ∙ e)
      (subst (λ (n : Option ℕ). ComesTo design u s (option_map_or (ended_for s) n s) known p None None reply.Done p.races) (sym at) (ended_other design u s known p is v e reply.Done))
  by_test true e =
      let ends : is_end_of u s.policy (event.End order) ≡ true = ap (λ (n : Option ℕ). option_map_or (λ w. w == u) n false) at ∙ e in
      let t = after opening s (event.End order) in
      let t_is : t ≡ ended_for s u = ap (λ (n : Option ℕ). option_map_or (ended_for s) n s) (at ∙ ap Some (same_number v u e)) in
      let part_is : part_after p (item_at opening u s known (event.End order)) ≡ record p { sessions = [] } =
      ap (λ (b : Bool). part_after p (record (item_at opening u s known (event.End order)) { order = order_by b None })) ends in
      record {
        part = subst (IsPartOf design u t known) (sym part_is) (subst (λ (x : State). IsPartOf design u x known (record p { sessions = [] })) (sym t_is) (ended_own design u s known p is));
        replied = refl;
      }

-- each event
pub event_follows : (opening : Opening) (design : Elaborated) (u : ℕ) (s : State) (known : List Bool) (p : Part) → IsPartOf design u s known p → (e : Event) → Follows opening design u s known p e
event_follows opening design u s known p is (event.Open name token) = follows_by opening design u s known p is (event.Open name token) refl refl (event_comes opening design u s known p is (event.Open name token) tt)
event_follows opening design u s known p is (event.Ask id r) = follows_by opening design u s known p is (event.Ask id r) refl refl (event_comes opening design u s known p is (event.Ask id r) tt)
event_follows opening design u s known p is (event.Close id) = follows_by opening design u s known p is (event.Close id) refl refl (event_comes opening design u s known p is (event.Close id) tt)
event_follows opening design u s known p is (event.Grant change) = grant_case opening design u s known p is change (user_of s.policy.members change.user) refl
event_follows opening design u s known p is (event.End order) = end_case opening design u s known p is order (user_of s.policy.members order.user) refl
event_follows opening design u s known p is (event.Halt order) = follows_by opening design u s known p is (event.Halt order) refl refl (event_comes opening design u s known p is (event.Halt order) tt)
event_follows opening design u s known p is (event.Step k) = follows_by opening design u s known p is (event.Step k) refl refl (event_comes opening design u s known p is (event.Step k) tt)
event_follows opening design u s known p is event.Advance = follows_by opening design u s known p is event.Advance refl refl (event_comes opening design u s known p is event.Advance tt)
event_follows opening design u s known p is event.TakeJob = follows_by opening design u s known p is event.TakeJob refl refl (event_comes opening design u s known p is event.TakeJob tt)
event_follows opening design u s known p is (event.Book finding) = follows_by opening design u s known p is (event.Book finding) refl refl (event_comes opening design u s known p is (event.Book finding) tt)
