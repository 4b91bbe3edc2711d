use Rattle.std.proofs.Common.{◌≡◌, ◌∙◌, ◌≤◌, ◌⊎◌, inl, inr, [], drop, length, ap, arith, sym}
use Rattle.std.specs.Prelude.{take}
use Rattle.std.proofs.Math.ListN.{drop_of_length-le}
use Rattle.vp_policy.specs.Users.{member_at}
use Rattle.vp_world.specs.Races.{races_seen}
use Rattle.vp_vpi.proofs.RaceLists.{told_all, told_from, whole}
use Rattle.vp_world.proofs.user_observer.UserObserverObserve.race_lines.Goals as goal
use Rattle.vp_world.proofs.user_observer.UserObserverObserve.race_lines.Goals.{else-loop-finding-test, then-loop-finding-test+then-len-ge-RACE_LIMIT}

pub returns : goal.returns
returns c =
    let observation = c.args.self.now in
    let tree = observation.sim.now.design.tree in
    let u = member_at observation.policy.now.members observation.user.0 in
    let races = observation.book.now.races in
    let from = c.args.from in
    let number = c.loop-finding.number in
    let index = c.loop-finding.finding-index in
    let lines = c.loop-finding.lines.items in
    let all = told_from from 0 (races_seen tree u races) in
    let rest = told_from from number (races_seen tree u (drop index races)) in
    let over : (rest ≡ []) ⊎ (100 ≤ length lines) =
    elim c.loop-finding-test.branch [
      | else-loop-finding-test w ↦ inl (ap (λ ds. told_from from number (races_seen tree u ds)) (drop_of_length-le races (omega (arith, w.loop-finding-test.false, ap length c.races-finding-items.ensures))))
      | then-loop-finding-test+then-len-ge-RACE_LIMIT w ↦ inr (omega (arith, w.if-len-ge-RACE_LIMIT.true, w.len.ensures))
    ] in
    c.from_vec.ensures ∙ sym (whole 100 all lines rest c.loop-finding.invariant.told c.loop-finding.invariant.few over)
    ∙ ap (take 100) (told_all from 0 (races_seen tree u races))
