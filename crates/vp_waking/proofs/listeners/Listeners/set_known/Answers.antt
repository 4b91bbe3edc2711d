use Rattle.std.proofs.Common.{List, sym, subst, map}
use Rattle.std.specs.Arc.{arc_value}
use Rattle.vp_expr.specs.Tables.{tables_of}
use Rattle.vp_waking.specs.declared.waiting.Waiting.{Waiting}
use Rattle.vp_waking.specs.Listening.{AreHeard, IsHeard, Listening}
use Rattle.vp_waking.specs.Waking.{awaited_by}
use Rattle.vp_waking.proofs.Hearing.{heard_set}
use Rattle.vp_waking.proofs.listeners.Listeners.set_known.Goals as goal

pub invariant_of-self : goal.invariant_of-self
invariant_of-self c =
    let tables = tables_of (arc_value c.self.inside.checked) in
    let lists = map (λ v. v.items) c.self.inside.lists.items in
    let process = c.args.process in
    let heard = subst (λ (r : Listening). IsHeard r.lists (awaited_by (tables_of r.design) c.args.waiting process) process) (sym c.self.view_is) c.requires in (
      c.self.invariant.0,
      subst (λ (l : List Waiting). AreHeard tables lists l) (sym c.set_wait.ensures) (heard_set tables lists c.self.inside.known.items process c.args.waiting c.self.invariant.1 heard),
    )
