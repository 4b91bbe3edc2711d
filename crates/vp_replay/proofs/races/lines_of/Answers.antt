use Rattle.std.proofs.Common.{◌≡◌, ◌∙◌, ◌≤◌, ◌⊎◌, inl, inr, [], drop, length, ap, arith, sym}
use Rattle.std.specs.Prelude.{take}
use Rattle.std.proofs.Math.ListN.{drop_of_length-le}
use Rattle.vp_vpi.proofs.RaceLists.{told_all, told_from, whole}
use Rattle.vp_replay.proofs.races.lines_of.Goals as goal
use Rattle.vp_replay.proofs.races.lines_of.Goals.{else-loop-before-test, then-loop-before-test+then-len-ge-RACE_LIMIT}

pub returns : goal.returns
returns c =
    let races = c.args.races.now in
    let from = c.args.from in
    let before = c.loop-before.before in
    let lines = c.loop-before.lines.items in
    let rest = told_from from before (drop before races) in
    let over : (rest ≡ []) ⊎ (100 ≤ length lines) =
    elim c.loop-before-test.branch [
      | else-loop-before-test w ↦ inl (ap (told_from from before) (drop_of_length-le races (omega (arith, w.loop-before-test.false))))
      | then-loop-before-test+then-len-ge-RACE_LIMIT w ↦ inr (omega (arith, w.if-len-ge-RACE_LIMIT.true, w.len.ensures))
    ] in
    c.from_vec.ensures ∙ sym (whole 100 (told_from from 0 races) lines rest c.loop-before.invariant.told c.loop-before.invariant.few over)
    ∙ ap (take 100) (told_all from 0 races)
