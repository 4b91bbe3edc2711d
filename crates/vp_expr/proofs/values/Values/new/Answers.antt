use Rattle.std.proofs.Common.{◌≡◌, ◌<◌, ◌∙◌, ap, length, arith}
use Rattle.vp_elab.specs.Built.{Elaborated}
use Rattle.vp_expr.proofs.Starts.{start_more}
use Rattle.vp_expr.proofs.values.Values.new.Goals as goal

pub loop-number-preserved : goal.loop-number-preserved
loop-number-preserved c =
    let d : Elaborated = c.args.checked.now in
    let count : c.count-number-end.result ≡ length d.tree.nodes =
    c.count-number-end.ensures ∙ ap (λ (e : Elaborated). length e.tree.nodes) c.design.ensures in
    let within : c.loop-number.number < length d.tree.nodes = omega arith in
    c.in_ok-push.ensures.items
    ∙ start_more d d.tree.nodes c.loop-number.values.items c.loop-number.number c.start_at.result within c.loop-number.invariant c.start_at.ensures
