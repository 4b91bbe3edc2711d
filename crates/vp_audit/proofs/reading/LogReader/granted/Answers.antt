use Rattle.std.proofs.Common.{◌≡◌, ◌∙◌, ap, sym}
use Rattle.vp_policy.specs.SeenObjects.{numbers_from}
use Rattle.vp_policy.specs.Users.{member_at}
use Rattle.vp_policy.specs.View.{known_view}
use Rattle.vp_world.specs.Races.{races_seen}
use Rattle.vp_audit.specs.Projections.{moved_numbers, read_marks, values_but}
use Rattle.vp_audit.specs.Readings.{LogReader}
use Rattle.vp_audit.proofs.Granting.{granted_is}
use Rattle.vp_audit.proofs.reading.LogReader.granted.Goals as goal

pub returns-clause-granted : goal.returns-clause-granted
returns-clause-granted c s t reads marks =
    let r : LogReader = c.args.self.now in
    let inside = c.self.inside in
    let known : inside.known.items ≡ r.known = ap (λ (x : LogReader). x.known) c.self.view_is in
    let view : c.in-Ok.view ≡ known_view r.design (member_at r.policy.members r.user) r.known =
    (c.in-Ok.ensures {u = tt}).view
    ∙ ap (known_view inside.design.now (member_at inside.policy.members inside.user.0)) (c.deref.ensures.value ∙ known)
    ∙ ap (λ (x : LogReader). known_view x.design (member_at x.policy.members x.user) r.known) c.self.view_is in
    let moved : c.in_ok-moved_numbers.field-0 ≡ moved_numbers c.args.before.now r.known =
    c.in_ok-moved_numbers.ensures {u = tt} r.known (c.deref-2.ensures.value ∙ c.self.invariant.3 ∙ ap (numbers_from 0) known) in
    let values : c.in_ok-values_but.field-0 ≡ values_but (read_marks s.run.design.tree (member_at s.policy.members r.user) c.args.before.now) t.run (member_at r.policy.members r.user) r.known =
    c.in_ok-values_but.ensures {u = tt} t.run (ap (λ (x : LogReader). x.design) (sym reads)) (ap (λ (x : LogReader). x.values) (sym reads))
    ∙ ap (λ ms. values_but ms t.run (member_at r.policy.members r.user) r.known) marks in
    let races : c.in_ok-seen_races.field-0 ≡ races_seen r.design.tree (member_at r.policy.members r.user) r.book =
    c.in_ok-seen_races.ensures {u = tt}
    ∙ ap (races_seen inside.design.now.tree (member_at inside.policy.members inside.user.0)) c.deref-3.ensures.value
    ∙ ap (λ (x : LogReader). races_seen x.design.tree (member_at x.policy.members x.user) x.book) c.self.view_is in
    granted_is r s t c.args.before.now c.args.change.now c.copy.result c.in-Ok.view c.in_ok-moved_numbers.field-0 c.in_ok-values_but.field-0 c.in_ok-seen_races.field-0 reads c.copy.ensures view moved values races
