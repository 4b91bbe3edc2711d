use Rattle.std.proofs.Common.{arith, subst}
use Rattle.vp_elab.specs.Built.{Elaborated}
use Rattle.vp_expr.specs.Tables.{tables_of}
use Rattle.vp_waking.specs.Listening.{AreHeard}
use Rattle.vp_waking.proofs.Hearing.{all_heard}
use Rattle.vp_waking.proofs.listeners.Listeners.listen_all.Goals as goal

pub returns-clause-heard : goal.returns-clause-heard
returns-clause-heard c =
    let lists = c.loop-process.self.lists in
    let end = c.loop-process-test.false in
    subst (λ (d : Elaborated). AreHeard (tables_of d) lists c.args.waiting.now) c.loop-process.invariant.design
    (all_heard (tables_of c.loop-process.self.design) lists c.args.waiting.now (λ p within. c.loop-process.invariant.heard p (omega (arith, within, end))))
