use Rattle.std.proofs.Common.{◌∙◌, arith, subst}
use Rattle.vp_wire.specs.Reading.{Goes}
use Rattle.vp_wire.proofs.Ending.{stopped}
use Rattle.vp_wire.proofs.dialogue.Dialogue.run.Goals as goal

pub loop-preserved : goal.loop-preserved
loop-preserved g c =
    let turned = c.in_ok-turn.ensures {u = tt} in (
      λ first unread held p.
          subst (λ ended. Goes ended g.C.Caller.calls unread (g.R.Read.remaining c.turn.new.reader.inner) held (g.W.Write.contents c.turn.new.writer.inner) first c.turn.new.self c.turn.new.caller) c.if-branch.false
          (turned.goes first unread held (c.loop.invariant.0 first unread held p)),
      omega (arith, turned.lines c.if-branch.false),
      omega (arith, turned.asked),
      turned.reader_failures ∙ c.loop.invariant.3,
      turned.writer_failures ∙ c.loop.invariant.4,
    )

pub returns-then-branch-clause-goes : goal.returns-then-branch-clause-goes
returns-then-branch-clause-goes g c = λ first unread held p.
    subst (λ ended. Goes ended g.C.Caller.calls unread (g.R.Read.remaining c.turn.new.reader.inner) held (g.W.Write.contents c.turn.new.writer.inner) first c.turn.new.self c.turn.new.caller) c.if-branch.true
    ((c.in_ok-turn.ensures {u = tt}).goes first unread held (c.loop.invariant.0 first unread held p))

pub returns-clause-goes : goal.returns-clause-goes
returns-clause-goes g c = λ first unread held p. stopped c.loop.self (c.loop.invariant.0 first unread held p)
