use Rattle.std.proofs.Common.{sym, ap, Option}
use Rattle.std.specs.Option.{option_map_or}
use Rattle.vp_elab.specs.Tree.{Node}
use Rattle.vp_elab.proofs.LastSteps.{width_there}
use Rattle.vp_elab.proofs.design.Design.width.Goals as goal

pub returns-in-Some : goal.returns-in-Some
returns-in-Some c = sym (width_there c.args.self.now.tree c.args.id.0 c.in-Some.object (c.in-Some.ensures {u = tt}).node)

pub returns-in-None : goal.returns-in-None
returns-in-None c = sym (ap (λ (o : Option Node). option_map_or (λ (m : Node). m.width) o 0) (c.in-None.ensures {u = tt}).node)
