use Rattle.std.proofs.Common.{◌≡◌, ◌∙◌, ℕ, ap, sym, subst}
use Rattle.vp_policy.specs.Users.{member_at}
use Rattle.vp_world.specs.declared.event.Event.{Event}
use Rattle.vp_world.specs.declared.event.Event.TheVariants as event
use Rattle.vp_world.specs.Entries.{Entry, event_in}
use Rattle.vp_world.specs.History.{refusal_of}
use Rattle.vp_audit.specs.Projections.{change_seen, is_end_of, other_flag, other_number, race_of_event}
use Rattle.vp_audit.specs.Readings.{LogReader}
use Rattle.vp_audit.proofs.EntryReading.{Leaves, grant_leaves, no_grant, other_leaves, reads_by}
use Rattle.vp_audit.proofs.Following.{IsNoGrant}
use Rattle.vp_audit.proofs.reading.LogReader.item.Goals.{in-Grant+in_ok-granted-in-Grant, in_default}
use Rattle.vp_audit.proofs.reading.LogReader.item.Goals as goal

pub returns-clause-item : goal.returns-clause-item
returns-clause-item c opening s known reads goes =
    let r : LogReader = c.args.self.now in
    let e : Entry = c.args.entry.now in
    let u : ℕ = r.user in
    let leaves : Leaves u opening s known e c.match-entry.granted c.match-entry.self =
    elim c.match-entry.branch [
      | in-Grant+in_ok-granted-in-Grant w ↦
          let is : e.event ≡ event.Grant w.deref.result.now = ap (λ (x : Entry). x.event) (sym c.entry.view_is) ∙ ap event_in w.in-Grant.is ∙ ap event.Grant (sym w.deref.ensures) in
          subst (λ (m : LogReader). Leaves u opening s known e c.match-entry.granted m) (sym w.self-is)
          (subst (λ g. Leaves u opening s known e g w.grant.new.self) (sym w.granted-is)
          (grant_leaves opening u s known e goes w.deref.result.now is w.in_ok-granted-in-Grant.granted w.grant.new.self
          ((w.in_ok-granted-in-Grant.ensures {u = tt}).grant opening s known goes.full reads (ap (refusal_of opening goes.full s) (sym is) ∙ goes.accepted))))
      | in_default w ↦
          other_leaves opening u s known e goes
          (subst IsNoGrant (ap (λ (x : Entry). x.event) c.entry.view_is) (no_grant c.entry.inside.happening w.in_default.not-Grant))
          c.match-entry.granted c.match-entry.self w.granted-is (w.self-is ∙ reads)
    ] in
    reads_by opening u s known e goes c.in_ok-own_event.own_event c.is_end-is_end.result c.match-entry.granted c.order_by.result c.change-change.result c.other_number-time.result c.other_flag-finished.result c.in_ok-race.race
    c.match-entry.self c.follow.new.self c.item_if.result
    c.item_if.ensures (c.in_ok-follow.ensures {u = tt}) leaves c.order_by.ensures
    (c.is_end-is_end.ensures ∙ ap (λ (x : Event). is_end_of r.user r.policy x) (ap (λ (x : Entry). x.event) c.entry.view_is) ∙ ap (λ (x : LogReader). is_end_of u x.policy e.event) reads)
    (c.in_ok-own_event.ensures {u = tt})
    (c.change-change.ensures ∙ ap (λ (x : LogReader). change_seen x.design.tree (member_at x.policy.members u) x.known e.change) reads)
    (c.other_number-time.ensures ∙ ap (λ (x : LogReader). other_number x.time c.entry.inside.time) (c.self.view_is ∙ reads) ∙ ap (λ (x : Entry). other_number s.run.time x.time) c.entry.view_is)
    (c.other_flag-finished.ensures ∙ ap (λ (x : LogReader). other_flag x.finished c.entry.inside.finished) (c.self.view_is ∙ reads) ∙ ap (λ (x : Entry). other_flag s.run.finished x.finished) c.entry.view_is)
    (c.in_ok-race.ensures {u = tt} ∙ ap (λ (x : LogReader). race_of_event x.design.tree (member_at x.policy.members u) e.event) reads)
