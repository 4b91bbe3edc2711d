-- What of an entry goes to a user, and the reading after it.
use Rattle.std.proofs.Common.{◌≡◌, ◌∙◌, ℕ, Bool, List, Option, None, Ok, refl, ap, sym}
use Rattle.std.specs.Prelude.{option_map}
use Rattle.std.specs.Option.{option_map_or}
use Rattle.vp_policy.specs.PolicyState.{PolicyState}
use Rattle.vp_policy.specs.Users.{member_at}
use Rattle.vp_expr.specs.declared.change.Change.{Change}
use Rattle.vp_vpi.specs.declared.races.ShownRace.{ShownRace}
use Rattle.vp_answer.specs.declared.request.GrantChange.{GrantChange}
use Rattle.vp_world.specs.declared.entry.LoggedEvent.{LoggedEvent}
use Rattle.vp_world.specs.declared.entry.LoggedEvent.TheVariants as happening
use Rattle.vp_world.specs.declared.event.Event.{Event}
use Rattle.vp_world.specs.declared.event.Event.TheVariants as event
use Rattle.vp_world.specs.Entries.{Entry, event_in}
use Rattle.vp_world.specs.History.{after, entry_of}
use Rattle.vp_world.specs.Worlds.{Opening, State}
use Rattle.vp_replay.specs.Known.{known_also}
use Rattle.vp_replay.specs.declared.item.GrantItem.{GrantItem}
use Rattle.vp_replay.specs.declared.item.Item.{Item}
use Rattle.vp_replay.specs.declared.item.OrderItem.{OrderItem}
use Rattle.vp_replay.specs.declared.item.OwnEvent.{OwnEvent}
use Rattle.vp_audit.specs.Projections.{change_seen, granted_of, is_end_of, item_if, known_after, order_by, other_flag, other_number, own_of, race_of_event, regrant_of}
use Rattle.vp_audit.specs.Readings.{Continues, Grants, LogReader, Reads, followed, reading_of}
use Rattle.vp_audit.proofs.Following.{IsNoGrant, followed_is}

-- what happened is no change of grants
pub no_grant : (h : LoggedEvent) → ((change : _) → h ≡ happening.Grant change → ⊥) → IsNoGrant (event_in h)
no_grant (happening.Open login session) other = tt
no_grant (happening.Ask asked reply) other = tt
no_grant (happening.Put asked change) other = tt
no_grant (happening.Close session) other = tt
no_grant (happening.Grant change) other = other change refl
no_grant (happening.End order) other = tt
no_grant (happening.Halt order) other = tt
no_grant (happening.Step k) other = tt
no_grant (happening.StepWithChange k change) other = tt
no_grant happening.Advance other = tt
no_grant (happening.TakeJob number) other = tt
no_grant (happening.Book finding) other = tt

-- then none of his is changed
no_regrant : (u : ℕ) (policy : PolicyState) (e : Event) → IsNoGrant e → regrant_of u policy e ≡ None
no_regrant u policy (event.Open name token) n = refl
no_regrant u policy (event.Ask id query) n = refl
no_regrant u policy (event.Close id) n = refl
no_regrant u policy (event.Grant change) n = absurd n
no_regrant u policy (event.End order) n = refl
no_regrant u policy (event.Halt order) n = refl
no_regrant u policy (event.Step k) n = refl
no_regrant u policy event.Advance n = refl
no_regrant u policy event.TakeJob n = refl
no_regrant u policy (event.Book finding) n = refl

-- an item, by its parts
same_items : (own_event own_event' : Option OwnEvent) (order order' : Option OrderItem) (change change' : Option Change) (time time' : Option ℕ) (finished finished' : Option Bool) (race race' : Option ShownRace)
    → own_event ≡ own_event' → order ≡ order' → change ≡ change' → time ≡ time' → finished ≡ finished' → race ≡ race'
    → ◌≡◌ {A = Item} (record { own_event = own_event; order = order; change = change; time = time; finished = finished; race = race })
    (record { own_event = own_event'; order = order'; change = change'; time = time'; finished = finished'; race = race' })
same_items own_event own_event' order order' change change' time time' finished finished' race race' a b c d e f = cc

-- what goes to him of a change of his grants by the event, and the reading after the entry
pub record Leaves (u : ℕ) (opening : Opening) (s : State) (known : List Bool) (e : Entry) (granted : Option GrantItem) (mid : LogReader) : Type 0 where
  pub item : granted ≡ option_map (granted_of u s (after opening s e.event) known (known_after u s (after opening s e.event) known e.event)) (regrant_of u s.policy e.event)
  pub reading : followed mid e ≡ reading_of u (after opening s e.event) (known_after u s (after opening s e.event) known e.event)

module _ (opening : Opening) (u : ℕ) (s : State) (known : List Bool) (e : Entry) (goes : Continues opening s e) where
  abbrev following : State
  following = after opening s e.event

  -- an event that is no change of grants
  pub other_leaves : IsNoGrant e.event → (granted : Option GrantItem) (mid : LogReader) → granted ≡ None → mid ≡ reading_of u s known → Leaves u opening s known e granted mid
  other_leaves n granted mid none reads =
      let same = no_regrant u s.policy e.event n in
      let knows : known_after u s following known e.event ≡ known =
      ap (λ (g : Option GrantChange). option_map_or (λ x. known_also following.run.design.tree (member_at following.policy.members u) known following.run.design.tree.nodes) g known) same in
      record {
        item = none ∙ sym (ap (option_map (granted_of u s following known (known_after u s following known e.event))) same);
        reading = ap (λ (r : LogReader). followed r e) reads ∙ ap (followed (reading_of u s known)) goes.entry ∙ followed_is opening u s known e.event n ∙ ap (reading_of u following) (sym knows);
      }

  -- a change of a grant
  pub grant_leaves : (change : GrantChange) → e.event ≡ event.Grant change → (granted : Option GrantItem) (mid : LogReader)
      → Grants u s (after opening s (event.Grant change)) known change (Ok granted) mid → Leaves u opening s known e granted mid
  grant_leaves change is granted mid grants =
      let t = after opening s (event.Grant change) in
      let now = known_after u s t known (event.Grant change) in
      record {
        item = grants.item ∙ ap (λ (x : Event). option_map (granted_of u s (after opening s x) known (known_after u s (after opening s x) known x)) (regrant_of u s.policy x)) (sym is);
        reading = ap (λ (r : LogReader). followed r e) grants.reading ∙ ap (followed (reading_of u t now)) (goes.entry ∙ ap (entry_of opening s) is)
            ∙ ap (λ (x : Event). reading_of u (after opening s x) (known_after u s (after opening s x) known x)) (sym is);
      }

  -- what goes to him, by its parts
  pub reads_by : (own_event : Option OwnEvent) (is_end : Bool) (granted : Option GrantItem) (order : Option OrderItem) (change : Option Change) (time : Option ℕ) (finished : Option Bool) (race : Option ShownRace) (mid last : LogReader) (item : Option Item)
      → item ≡ item_if (record { own_event = own_event; order = order; change = change; time = time; finished = finished; race = race }) → last ≡ followed mid e
      → Leaves u opening s known e granted mid → order ≡ order_by is_end granted → is_end ≡ is_end_of u s.policy e.event → own_event ≡ own_of u e.event e.reply → change ≡ change_seen s.run.design.tree (member_at s.policy.members u) known e.change
      → time ≡ other_number s.run.time e.time → finished ≡ other_flag s.run.finished e.finished → race ≡ race_of_event s.run.design.tree (member_at s.policy.members u) e.event
      → Reads u opening s known e (Ok item) last
  reads_by own_event is_end granted order change time finished race mid last item is follows leaves its_order its_end its_own its_change its_time its_finished its_race =
      record {
        item = is ∙ ap item_if (same_items own_event _ order _ change _ time _ finished _ race _ its_own
            (its_order ∙ ap (λ (b : Bool). order_by b granted) its_end ∙ ap (order_by (is_end_of u s.policy e.event)) leaves.item) its_change its_time its_finished its_race);
        reading = follows ∙ leaves.reading;
      }
