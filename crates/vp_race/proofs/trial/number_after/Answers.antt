use Rattle.std.proofs.Common.{◌≡◌, ◌∙◌, ◌-◌, ◌+◌, suc, ap, arith, sym}
use Rattle.vp_race.specs.Search.{number_after}
use Rattle.vp_race.proofs.trial.number_after.Goals as goal

pub loop-turn-preserved : goal.loop-turn-preserved
loop-turn-preserved c =
    let left = c.args.turns - (c.loop-turn._turn + 1) in
    let more : c.args.turns - c.loop-turn._turn ≡ suc left = omega (arith, c.loop-turn-test.true) in
    record {
      numbers = c.loop-turn.invariant.numbers ∙ ap (λ n. number_after n c.loop-turn.after) more ∙ ap (number_after left) (sym c.next_number-after.ensures);
    }
