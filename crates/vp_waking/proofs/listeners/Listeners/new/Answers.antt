use Rattle.std.proofs.Common.{◌≡◌, [], ap, map, replicate}
use Rattle.std.specs.Arc.{arc_value}
use Rattle.std.proofs.Common.{arith}
use Rattle.std.proofs.lemmas.Grind.{common_steps}
use Rattle.vp_expr.specs.Tables.{tables_of}
use Rattle.vp_waking.specs.declared.waiting.Waiting.TheVariants as wait
use Rattle.vp_waking.proofs.Hearing.{all_nothing, no_listeners}
use Rattle.vp_waking.proofs.listeners.Listeners.new.Goals as goal

pub invariant_of-result : goal.invariant_of-result
invariant_of-result c =
    let tables = tables_of (arc_value c.args.checked) in
    let none : map (λ v. v.items) c.new.result.items ≡ [] = ap (map (λ v. v.items)) c.new.ensures.items in
    let waits : c.in_ok-known.known.items ≡ replicate c.len.result wait.Nothing = grind (arith, common_steps) in (
      rw none (no_listeners tables),
      rw waits (all_nothing tables (map (λ v. v.items) c.new.result.items) c.len.result),
    )
