use Rattle.vp_waking.specs.Waking.{is_of, located}
use Rattle.vp_waking.proofs.Woken.{any_map}
use Rattle.vp_waking.proofs.waking.is_awaited.Goals as goal

pub loop-awaited-init : goal.loop-awaited-init
loop-awaited-init c = any_map (is_of c.args.old c.args.change.now) (located c.args.instance) c.args.terms.now
