use Rattle.std.proofs.Common.{Option, sym, ap}
use Rattle.std.specs.Prelude.{option_map}
use Rattle.vp_elab.specs.Tree.{Node}
use Rattle.vp_elab.proofs.LastSteps.{kind_there}
use Rattle.vp_elab.proofs.design.Design.kind.Goals as goal

pub returns-in-Some : goal.returns-in-Some
returns-in-Some c = sym (kind_there c.args.self.now.tree c.args.id.0 c.in-Some.object (c.in-Some.ensures {u = tt}).node)

pub returns-in-None : goal.returns-in-None
returns-in-None c = sym (ap (λ (o : Option Node). option_map (λ (m : Node). m.kind) o) (c.in-None.ensures {u = tt}).node)
