-- What goes to a user of a legal log is taken up, item by item.
use Rattle.std.proofs.Common.{◌≡◌, ◌∙◌, ℕ, Bool, true, false, List, [], ◌∷◌, ◌++◌, length, Option, Some, None, refl, ap, sym, subst, arith}
use Rattle.std.specs.Prelude.{◌==◌, ◌||◌, if◌then◌else◌, is_some, nat_le, nat_lt, option_map, slice_get, slice_index, unwrap_or}
use Rattle.std.specs.List.{cons_option, list_all, remove}
use Rattle.std.specs.Option.{option_map_or}
use Rattle.std.proofs.lemmas.List.{length-map}
use Rattle.std.proofs.lemmas.List.Sums.{fold-append}
use Rattle.vp_pragma.specs.declared.rights.Right.TheVariants as right
use Rattle.vp_elab.specs.Built.{Elaborated}
use Rattle.vp_policy.specs.Users.{login_of, member_at}
use Rattle.vp_policy.specs.View.{View, known_view, marked, seen_node, view_of}
use Rattle.vp_expr.specs.declared.change.Change.{Change}
use Rattle.vp_notify.specs.Renumbered.{rises}
use Rattle.vp_vpi.specs.declared.races.ShownRace.{ShownRace}
use Rattle.vp_vpi.specs.Renumbered.{moved_session_state}
use Rattle.vp_answer.specs.declared.request.GrantChange.{GrantChange}
use Rattle.vp_answer.specs.declared.request.SessionId.{SessionId}
use Rattle.vp_answer.specs.declared.reply.Refusal.TheVariants as refusal
use Rattle.vp_answer.specs.declared.reply.Reply.TheVariants as reply
use Rattle.vp_world.specs.Entries.{Entry}
use Rattle.vp_world.specs.declared.event.Event.{Event}
use Rattle.vp_world.specs.declared.event.Event.TheVariants as event
use Rattle.vp_world.specs.declared.error.WorldError.TheVariants as error
use Rattle.vp_world.specs.History.{IsLegal, after, entry_of, is_full, is_share_used, next_session, refusal_of, refusal_of_log, refusal_of_open, refusal_of_session, state_after}
use Rattle.vp_world.specs.Worlds.{Opening, State, start}
use Rattle.vp_answer.specs.OpenSessions.{OpenSessionState, index_of, is_session_within, notified_session}
use Rattle.vp_replay.specs.Seen.{denied_seen}
use Rattle.vp_replay.specs.Known.{known_also}
use Rattle.vp_audit.specs.Openings.{IsRight}
use Rattle.vp_replay.specs.declared.item.GrantItem.{GrantItem}
use Rattle.vp_replay.specs.declared.item.Item.{Item}
use Rattle.vp_replay.specs.declared.item.OrderItem.{OrderItem}
use Rattle.vp_replay.specs.declared.item.OrderItem.TheVariants.{End, Grant}
use Rattle.vp_replay.specs.declared.item.OwnEvent.{OwnEvent}
use Rattle.vp_replay.specs.declared.item.OwnEvent.TheVariants.{Asks, Closes, Opens}
use Rattle.vp_replay.specs.Parts.{Part, observer_of_part, granted_session, moved_to, part_after, part_after_entry, part_granted, part_ordered, response_in, sessions_after, takes, takes_all, takes_by, with_answer}
use Rattle.vp_replay.specs.Parts.{first_part}
use Rattle.vp_audit.specs.Projections.{granted_of, is_end_of, item_if, item_of, items_from, known_at_first, known_after, opened_by_reply, order_by, own_if, projection, regrant_of}
use Rattle.vp_audit.specs.laws.Cases.{part_stands}
use Rattle.vp_answer.proofs.Lists.{map_same}
use Rattle.vp_audit.specs.laws.Events.{IsPartOf, same_number}
use Rattle.vp_audit.specs.laws.Grants.{marked_count, now_long}
use Rattle.vp_audit.specs.laws.Moved.{moved_length, moved_rise, moved_within}
use Rattle.vp_audit.specs.laws.Openings.{first_is}
use Rattle.vp_audit.specs.laws.Promise.{event_follows, item_at}
use Rattle.vp_answer.specs.laws.Tests.{all_at, all_join, all_mapped, all_removed, all_set, both}
use Rattle.vp_replay.specs.laws.Within.{moved_to_within, respond_within, session_state_due, session_state_moved_within, session_state_retired, seen_within}

-- ---- the objects of a part's sessions

-- all objects of a part's sessions are among those of its view
abbrev pub AreWithin : Part → Type 0
AreWithin p = list_all (is_session_within (length p.view.nodes)) p.sessions ≡ true

-- after an event of his own
own_within : (p : Part) (own_event : OwnEvent) → AreWithin p → list_all (is_session_within (length p.view.nodes)) (sessions_after p own_event) ≡ true
own_within p (Opens id) h = all_join (is_session_within (length p.view.nodes)) p.sessions _ h refl
own_within p (Asks id r) h = by_index (index_of p.sessions id) where
  n : ℕ
  n = length p.view.nodes

  by_session : (k : ℕ) (t : Option OpenSessionState) → slice_get p.sessions k ≡ t → list_all (is_session_within n) (with_answer p.sessions k t (response_in p t r)) ≡ true
  by_session k None at = h
  by_session k (Some t) at =
      all_set (is_session_within n) p.sessions k _ h
      (respond_within n (observer_of_part p) (seen_within p.view p.values p.time p.finished p.races) t.session_state r (all_at (is_session_within n) p.sessions k t h at))

  by_index : (index : Option ℕ)
      → list_all (is_session_within n) (option_map_or (λ k. with_answer p.sessions k (slice_get p.sessions k) (response_in p (slice_get p.sessions k) r)) index p.sessions) ≡ true
  by_index None = h
  by_index (Some k) = by_session k (slice_get p.sessions k) refl
own_within p (Closes id) h = by_index (index_of p.sessions id) where
  by_index : (index : Option ℕ) → list_all (is_session_within (length p.view.nodes)) (option_map_or (remove p.sessions) index p.sessions) ≡ true
  by_index None = h
  by_index (Some k) = all_removed (is_session_within (length p.view.nodes)) p.sessions k h

-- after what of an entry goes to him, if that is no order of an operator
entry_within : (p : Part) (own_event : Option OwnEvent) (i : Item) → AreWithin p → AreWithin (part_after_entry p own_event i)
entry_within p own_event i h =
    all_mapped (is_session_within n) (is_session_within n) (notified_session i.change (unwrap_or i.time p.time)) (λ t e. session_state_due n i.change (unwrap_or i.time p.time) t.session_state e)
    (option_map_or (sessions_after p) own_event p.sessions) (by_own own_event)
  where
    n : ℕ
    n = length p.view.nodes

    by_own : (own_event : Option OwnEvent) → list_all (is_session_within n) (option_map_or (sessions_after p) own_event p.sessions) ≡ true
    by_own None = h
    by_own (Some o) = own_within p o h

-- a change of grants gives each object that was known a number among those of the new view, and these rise
record Renumbers (p : Part) (g : GrantItem) : Type 0 where
  long : length g.moved ≡ length p.view.nodes
  rise : rises g.moved ≡ true
  among : list_all (λ n. nat_lt n (length g.view.nodes)) g.moved ≡ true

-- after such a change
granted_within : (p : Part) (g : GrantItem) → Renumbers p g → AreWithin p → AreWithin (part_granted p g)
granted_within p g is h =
    all_mapped (is_session_within (length p.view.nodes)) (is_session_within count) (granted_session g)
    (λ t e. session_state_retired count (λ o. is_some (denied_seen g.view right.Watch o)) (moved_session_state (moved_to g.moved count) t.session_state)
    (session_state_moved_within (length p.view.nodes) count (moved_to g.moved count)
    (λ k l. moved_to_within g.moved count is.among k (ap (nat_lt k) is.long ∙ l)) t.session_state e)) p.sessions h
  where
    count : ℕ
    count = length g.view.nodes

-- after what of an entry goes to him
after_within : (p : Part) (i : Item) → ((g : GrantItem) → i.order ≡ Some (Grant g) → Renumbers p g) → AreWithin p → AreWithin (part_after p i)
after_within p i grants h = by_order i.order refl where
  by_order : (x : Option OrderItem) → i.order ≡ x → AreWithin (option_map_or (part_ordered p) x (part_after_entry p i.own_event i))
  by_order None at = entry_within p i.own_event i h
  by_order (Some (Grant g)) at = granted_within p g (grants g at) h
  by_order (Some End) at = refl

-- ---- each event

module _ (opening : Opening) (design : Elaborated) (u : ℕ) (s : State) (known : List Bool) (p : Part) (is : IsPartOf design u s known p) where
  -- what of a change of his grants goes to him
  grant_renumbers : (e : Event) (g : GrantItem) → (item_at opening u s known e).order ≡ Some (Grant g) → Renumbers p g
  grant_renumbers e g at = by_end (is_end_of u s.policy e) refl where
    t : State
    t = after opening s e

    now : List Bool
    now = known_also t.run.design.tree (member_at t.policy.members u) known t.run.design.tree.nodes

    its_design : t.run.design ≡ design
    its_design = (event_follows opening design u s known p is e).part.its_design

    long : length known ≡ length t.run.design.tree.nodes
    long = is.is_known.long ∙ sym (ap (λ (d : Elaborated). length d.tree.nodes) its_design)

    as_seen : length (marked known known) ≡ length p.view.nodes
    as_seen =
        marked_count known known design.tree.nodes refl is.is_known.long
        ∙ sym (ap (λ (v : View). length v.nodes) is.view ∙ length-map (marked known design.tree.nodes) (seen_node design (member_at s.policy.members u)))

    as_seen_now : length (marked now now) ≡ length (known_view t.run.design (member_at t.policy.members u) now).nodes
    as_seen_now =
        marked_count now now t.run.design.tree.nodes refl (now_long t.run.design.tree (member_at t.policy.members u) known t.run.design.tree.nodes long)
        ∙ sym (length-map (marked now t.run.design.tree.nodes) (seen_node t.run.design (member_at t.policy.members u)))

    by_now : (change : GrantChange) → Renumbers p (granted_of u s t known now change)
    by_now change = record {
      long = moved_length t.run.design.tree (member_at t.policy.members u) known t.run.design.tree.nodes long ∙ as_seen;
      rise = moved_rise t.run.design.tree (member_at t.policy.members u) known t.run.design.tree.nodes long;
      among = subst (λ (c : ℕ). list_all (λ n. nat_lt n c) (granted_of u s t known now change).moved ≡ true) as_seen_now
          (moved_within t.run.design.tree (member_at t.policy.members u) known t.run.design.tree.nodes long);
    }

    order_is : is_end_of u s.policy e ≡ false → (x : Option GrantChange) → regrant_of u s.policy e ≡ x
        → (item_at opening u s known e).order ≡ option_map Grant (option_map (granted_of u s t known (known_after u s t known e)) x)
    order_is no_end x is =
        ap (λ (b : Bool). order_by b (option_map (granted_of u s t known (known_after u s t known e)) (regrant_of u s.policy e))) no_end
        ∙ ap (λ (y : Option GrantChange). order_by false (option_map (granted_of u s t known (known_after u s t known e)) y)) is

    by_change : is_end_of u s.policy e ≡ false → (x : Option GrantChange) → regrant_of u s.policy e ≡ x → Renumbers p g
    by_change no_end None none =
        let never : None ≡ Some (Grant g) = sym (order_is no_end None none) ∙ at in
        absurd (cc)
    by_change no_end (Some change) some =
        let now_is : known_after u s t known e ≡ now = ap (λ x. option_map_or (λ (y : GrantChange). now) x known) some in
        let there : Some (Grant (granted_of u s t known (known_after u s t known e) change)) ≡ Some (Grant g) = sym (order_is no_end (Some change) some) ∙ at in
        let same : granted_of u s t known (known_after u s t known e) change ≡ g = cc in
        subst (Renumbers p) same (subst (λ ks. Renumbers p (granted_of u s t known ks change)) (sym now_is) (by_now change))

    by_end : (b : Bool) → is_end_of u s.policy e ≡ b → Renumbers p g
    by_end true ends =
        let never : Some End ≡ Some (Grant g) = sym (ap (λ (b : Bool). order_by b (option_map (granted_of u s t known (known_after u s t known e)) (regrant_of u s.policy e))) ends) ∙ at in
        absurd (cc)
    by_end false no_end = by_change no_end (regrant_of u s.policy e) refl

  -- what an operator orders of him is taken up
  takes_change : AreWithin p → (x : Option OrderItem) → ((g : GrantItem) → x ≡ Some (Grant g) → Renumbers p g) → takes_by p None x ≡ true
  takes_change h None grants = refl
  takes_change h (Some End) grants = refl
  takes_change h (Some (Grant g)) grants =
      let r = grants g refl in
      both (rises g.moved) (list_all (is_session_within (length g.moved)) p.sessions) r.rise
      (subst (λ (n : ℕ). list_all (is_session_within n) p.sessions ≡ true) (sym r.long) h)

  -- so is an opening of a session for which there is room
  takes_opening : (full : Bool) (found : Option ℕ) → refusal_of_open opening full s found ≡ None
      → takes_by p (opened_by_reply u (option_map_or (λ v. reply.Opened (next_session s v)) found (reply.Error refusal.BadToken))) None ≡ true
  takes_opening full None accepted = absurd (cc)
  takes_opening full (Some v) accepted = by_full (is_full opening s v) refl accepted where
    room : is_full opening s v ≡ false → nat_le 18446744073709551615 (slice_index s.opens v) ≡ false
    room none = second (nat_le opening.limits.sessions (length s.sessions) || is_share_used s v) (nat_le 18446744073709551615 (slice_index s.opens v)) none where
      second : (a b : Bool) → (a || b) ≡ false → b ≡ false
      second true b e = absurd (cc)
      second false b e = e

    by_user : nat_le 18446744073709551615 (slice_index s.opens v) ≡ false → (b : Bool) → (v == u) ≡ b → takes_by p (if b then Some (Opens (next_session s v)) else None) None ≡ true
    by_user less false e = refl
    by_user less true e =
        let same : v ≡ u = same_number v u e in
        let there : nat_le 18446744073709551615 p.opens ≡ false = ap (nat_le 18446744073709551615) (is.opens ∙ sym (ap (slice_index s.opens) same)) ∙ less in
        grind (arith, there)

    by_full : (b : Bool) → is_full opening s v ≡ b → (if b then Some error.SessionsFull else refusal_of_log full) ≡ None
        → takes_by p (own_if u (next_session s v) (Opens (next_session s v))) None ≡ true
    by_full true e f = absurd (cc)
    by_full false e f = by_user (room e) (v == u) refl

  -- and an event of a session that is open
  takes_session : (id : SessionId) (own_event : OwnEvent) → (takes_by p (Some own_event) None ≡ is_some (index_of p.sessions id)) → (full : Bool) → refusal_of_session full (index_of s.sessions id) ≡ None
      → takes_by p (own_if u id own_event) None ≡ true
  takes_session id own_event test full accepted = by_user (id.user.0 == u) refl where
    by_index : (id.user.0 == u) ≡ true → (index : Option ℕ) → index_of s.sessions id ≡ index → refusal_of_session full index ≡ None → is_some (index_of p.sessions id) ≡ true
    by_index his None at f = absurd (cc)
    by_index his (Some index) at f = ap is_some (part_stands u known p.sessions s.sessions is.sessions id his index at).found

    by_user : (b : Bool) → (id.user.0 == u) ≡ b → takes_by p (if b then Some own_event else None) None ≡ true
    by_user false e = refl
    by_user true e = test ∙ by_index e (index_of s.sessions id) refl accepted

  -- an event that is accepted
  event_taken : AreWithin p → (full : Bool) (e : Event) → refusal_of opening full s e ≡ None → takes p (item_at opening u s known e) ≡ true
  event_taken h full (event.Open name token) accepted = takes_opening full (login_of s.policy.members name token) accepted
  event_taken h full (event.Ask id r) accepted = takes_session id (Asks id r) refl full accepted
  event_taken h full (event.Close id) accepted = takes_session id (Closes id) refl full accepted
  event_taken h full (event.Grant change) accepted = takes_change h (item_at opening u s known (event.Grant change)).order (grant_renumbers (event.Grant change))
  event_taken h full (event.End order) accepted = takes_change h (item_at opening u s known (event.End order)).order (grant_renumbers (event.End order))
  event_taken h full (event.Halt order) accepted = refl
  event_taken h full (event.Step k) accepted = refl
  event_taken h full event.Advance accepted = refl
  event_taken h full event.TakeJob accepted = refl
  event_taken h full (event.Book finding) accepted = refl

-- ---- logs

-- an item that is none changes nothing, and another is taken up
item_taken : (p : Part) (own_event : Option OwnEvent) (order : Option OrderItem) (change : Option Change) (time : Option ℕ) (finished : Option Bool) (race : Option ShownRace) (rest : List Item)
    → (let i : Item = record { own_event = own_event; order = order; change = change; time = time; finished = finished; race = race } in
    takes p i ≡ true → takes_all (part_after p i) rest ≡ true → takes_all p (cons_option (item_if i) rest) ≡ true)
item_taken p (Some o) g c t f r rest one others = both _ _ one others
item_taken p None (Some g) c t f r rest one others = both _ _ one others
item_taken p None None (Some c) t f r rest one others = others
item_taken p None None None (Some t) f r rest one others = others
item_taken p None None None None (Some f) r rest one others = others
item_taken p None None None None None (Some r) rest one others = others
item_taken p None None None None None None rest one others =
    subst (λ ts. takes_all (record { view = p.view; opens = p.opens; sessions = ts; values = p.values; time = p.time; finished = p.finished; races = p.races }) rest ≡ true)
    (map_same (notified_session None p.time) (λ t. refl) p.sessions) others

-- from a state on
items_taken : (opening : Opening) (design : Elaborated) (u : ℕ) (before log : List Entry) (s : State) (known : List Bool) (p : Part) → s ≡ state_after opening before → IsPartOf design u s known p
    → AreWithin p → IsLegal opening before log → takes_all p (items_from opening u s known log) ≡ true
items_taken opening design u before [] s known p at is h legal = refl
items_taken opening design u before (e ∷ log) s known p at is h (formed, accepted, entry, rest) =
    let t = after opening s e.event in
    let now = known_after u s t known e.event in
    let is_entry : e ≡ entry_of opening s e.event = entry ∙ ap (λ x. entry_of opening x e.event) (sym at) in
    let i = item_of u s t known now e in
    let item : i ≡ item_at opening u s known e.event = ap (item_of u s t known now) is_entry in
    let next : t ≡ state_after opening (before ++ e ∷ []) =
    ap (λ x. after opening x e.event) at ∙ sym (fold-append (λ x y. after opening x y.event) (start opening) before (e ∷ [])) in
    let accepts : refusal_of opening false s e.event ≡ None = ap (λ x. refusal_of opening false x e.event) at ∙ accepted in
    let within : AreWithin (part_after p (item_at opening u s known e.event)) =
    after_within p (item_at opening u s known e.event) (grant_renumbers opening design u s known p is e.event) h in
    let others =
    items_taken opening design u (before ++ e ∷ []) log t now (part_after p (item_at opening u s known e.event)) next (event_follows opening design u s known p is e.event).part within rest in
    item_taken p i.own_event i.order i.change i.time i.finished i.race (items_from opening u t now log)
    (ap (takes p) item ∙ event_taken opening design u s known p is h false e.event accepts)
    (ap (λ x. takes_all (part_after p x) (items_from opening u t now log)) item ∙ others)

-- for every opening of a right design with a policy that fits it, every user and every legal log: what of the log goes to him is taken up by what he
-- sees at the opening
pub projection_taken : (opening : Opening) → IsRight opening → (u : ℕ) (log : List Entry) → IsLegal opening [] log
    → takes_all (first_part (view_of opening.design (member_at opening.policy.members u)) (projection opening u log).values) (projection opening u log).items ≡ true
projection_taken opening right u log legal =
    items_taken opening opening.design u [] log (start opening) (known_at_first opening u)
    (first_part (view_of opening.design (member_at opening.policy.members u)) (projection opening u log).values) refl (first_is opening right u) refl legal
