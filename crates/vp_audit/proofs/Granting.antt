-- What a change of a grant leaves of a reading, and what of it goes to the user.
use Rattle.std.proofs.Common.{◌≡◌, ◌∙◌, ℕ, Bool, false, true, List, Option, Some, None, Ok, refl, ap, subst, sym}
use Rattle.std.specs.Prelude.{◌==◌, if◌then◌else◌, option_map}
use Rattle.std.specs.Option.{option_map_or}
use Rattle.vp_bits.specs.declared.bit.Bit.{Bit}
use Rattle.vp_pragma.specs.Rights.{RightSet}
use Rattle.vp_policy.specs.Regrants.{regranted}
use Rattle.vp_policy.specs.Users.{member_at, user_of}
use Rattle.vp_policy.specs.View.{View, known_view}
use Rattle.vp_vpi.specs.declared.races.ShownRace.{ShownRace}
use Rattle.vp_world.specs.Races.{races_seen}
use Rattle.vp_answer.specs.declared.request.GrantChange.{GrantChange}
use Rattle.vp_world.specs.declared.event.Event.TheVariants as event
use Rattle.vp_world.specs.History.{after, granted_to}
use Rattle.vp_world.specs.Worlds.{Opening, State}
use Rattle.vp_replay.specs.Known.{known_also}
use Rattle.vp_replay.specs.declared.item.GrantItem.{GrantItem}
use Rattle.vp_audit.specs.Projections.{granted_of, known_after, moved_numbers, read_marks, regrant_of, values_but}
use Rattle.vp_audit.specs.Readings.{Grants, LogReader, reading_of}

-- what he knows after a change of his own
abbrev pub known_then : (user : ℕ) → State → (known : List Bool) → List Bool
known_then u t known = known_also t.run.design.tree (member_at t.policy.members u) known t.run.design.tree.nodes

-- a reading under the policy in which the grant of a user is changed
abbrev pub regranted_reading : LogReader → (grantee : ℕ) → GrantChange → LogReader
regranted_reading r v change = record r { policy = regranted r.policy v change.envelope change.access }

module _ (opening : Opening) (u : ℕ) (s : State) (known : List Bool) (change : GrantChange) (v : ℕ) (found : user_of s.policy.members change.user ≡ Some v) where
  abbrev following : State
  following = after opening s (event.Grant change)

  -- the state after it
  pub after_is : following ≡ granted_to s change v
  after_is = ap (λ x. option_map_or (granted_to s change) x s) found

  -- the reading of the state after it
  pub regranted_is : regranted_reading (reading_of u s known) v change ≡ reading_of u following known
  regranted_is = ap (λ (t : State). reading_of u t known) (sym after_is)

  -- it is a change of his, or of another's
  regrant_is : (b : Bool) → (v == u) ≡ b → regrant_of u s.policy (event.Grant change) ≡ (if b then Some change else None)
  regrant_is b is =
      ap (λ (x : Option ℕ). if option_map_or (λ w. w == u) x false then Some change else None) found
      ∙ ap (λ (c : Bool). if c then Some change else None) is

  -- one of another's
  pub grants_other : (v == u) ≡ false → (r : LogReader) → r ≡ regranted_reading (reading_of u s known) v change → Grants u s following known change (Ok None) r
  grants_other other r is =
      let none = regrant_is false other in
      record {
        item = sym (ap (option_map (granted_of u s following known (known_after u s following known (event.Grant change)))) none);
        reading = is ∙ regranted_is ∙ ap (λ (g : Option GrantChange). reading_of u following (option_map_or (λ x. known_then u following known) g known)) (sym none);
      }

  -- one of his own
  pub grants_own : (v == u) ≡ true → (r : LogReader) (granted : GrantItem) → r ≡ reading_of u following (known_then u following known) → granted ≡ granted_of u s following known (known_then u following known) change
      → Grants u s following known change (Ok (Some granted)) r
  grants_own own_event r granted is goes =
      let some = regrant_is true own_event in
      let now : known_after u s following known (event.Grant change) ≡ known_then u following known = ap (λ (g : Option GrantChange). option_map_or (λ x. known_then u following known) g known) some in
      record {
        item = ap Some goes ∙ sym (ap (λ (ks : List Bool). option_map (granted_of u s following known ks) (regrant_of u s.policy (event.Grant change))) now
            ∙ ap (option_map (granted_of u s following known (known_then u following known))) some);
        reading = is ∙ ap (reading_of u following) (sym now);
      }

  -- by what each step leaves: the policy is changed, then he learns what is listed to him, and then it is shown to him
  pub grants_learned : (v == u) ≡ true → (changed learned : LogReader) (before : List Bool) (granted : GrantItem) → changed ≡ regranted_reading (reading_of u s known) v change
      → learned ≡ record changed { known = known_also changed.design.tree (member_at changed.policy.members changed.user) changed.known changed.design.tree.nodes }
      → before ≡ changed.known
      → ((t : State) → learned ≡ reading_of learned.user t learned.known → granted ≡ granted_of learned.user s t before learned.known change)
      → Grants u s following known change (Ok (Some granted)) learned
  grants_learned own_event changed learned before granted changes learns knew goes =
      let now = known_then u following known in
      let first : changed ≡ reading_of u following known = changes ∙ regranted_is in
      let last : learned ≡ reading_of u following now =
      learns ∙ ap (λ (r : LogReader). record r { known = known_also r.design.tree (member_at r.policy.members r.user) r.known r.design.tree.nodes }) first in
      let reads : learned ≡ reading_of learned.user following learned.known = subst (λ (r : LogReader). r ≡ reading_of r.user following r.known) (sym last) refl in
      grants_own own_event learned granted last
      (goes following reads ∙ ap (λ (r : LogReader). granted_of r.user s following before r.known change) last
      ∙ ap (λ (ks : List Bool). granted_of u s following ks now change) (knew ∙ ap (λ (r : LogReader). r.known) first))

-- ---- what goes to him

-- its parts
granted_parts : (envelope : ℕ) (access access' : RightSet) (view view' : View) (moved moved' : List ℕ) (values values' : List (Option (List Bit))) (races races' : List ShownRace)
    → access ≡ access' → view ≡ view' → moved ≡ moved' → values ≡ values' → races ≡ races'
    → ◌≡◌ {A = GrantItem} (record { envelope = envelope; access = access; view = view; moved = moved; values = values; races = races })
    (record { envelope = envelope; access = access'; view = view'; moved = moved'; values = values'; races = races' })
granted_parts envelope access access' view view' moved moved' values values' races races' a b c d e = cc

-- by the reading of a state
pub granted_is : (r : LogReader) (s t : State) (before : List Bool) (change : GrantChange) (access : RightSet) (view : View) (moved : List ℕ) (values : List (Option (List Bit))) (races : List ShownRace)
    → r ≡ reading_of r.user t r.known → access ≡ change.access → view ≡ known_view r.design (member_at r.policy.members r.user) r.known → moved ≡ moved_numbers before r.known
    → values ≡ values_but (read_marks s.run.design.tree (member_at s.policy.members r.user) before) t.run (member_at r.policy.members r.user) r.known → races ≡ races_seen r.design.tree (member_at r.policy.members r.user) r.book
    → ◌≡◌ {A = GrantItem} (record { envelope = change.envelope; access = access; view = view; moved = moved; values = values; races = races }) (granted_of r.user s t before r.known change)
granted_is r s t before change access view moved values races reads its_access its_view its_moved its_values its_races =
    granted_parts change.envelope access change.access view _ moved _ values _ races _
    its_access
    (its_view ∙ ap (λ (x : LogReader). known_view x.design (member_at x.policy.members r.user) r.known) reads)
    its_moved
    (its_values ∙ ap (λ (x : LogReader). values_but (read_marks s.run.design.tree (member_at s.policy.members r.user) before) t.run (member_at x.policy.members r.user) r.known) reads)
    (its_races ∙ ap (λ (x : LogReader). races_seen x.design.tree (member_at x.policy.members r.user) x.book) reads)
