use Rattle.std.proofs.Common.{◌∙◌, ap, subst, get_or, sym, ℕ}
use Rattle.vp_bits.specs.Vector.{IsWidth}
use Rattle.vp_operand.proofs.Arenas.{size_before, size_after, size_fits}
use Rattle.vp_expr.proofs.evaluation.size_below.Goals as goal

pub returns-then-place-end-clause-size : goal.returns-then-place-end-clause-size
returns-then-place-end-clause-size c = size_after c.args.tables.now.operands c.args.end c.args.place c.if-place-end.true

pub returns-clause-size : goal.returns-clause-size
returns-clause-size c =
    let t = c.args.tables.now in
    c.size_at.ensures.size ∙ ap (λ s. get_or s c.args.place 1) c.as_slice.ensures ∙ size_before t.operands t.sizes c.args.end c.args.place c.requires c.if-place-end.false

pub returns-clause-fits : goal.returns-clause-fits
returns-clause-fits c =
    let t = c.args.tables.now in
    subst (λ (n : ℕ). IsWidth n) (sym (c.size_at.ensures.size ∙ ap (λ s. get_or s c.args.place 1) c.as_slice.ensures)) (size_fits t.operands t.sizes c.args.place c.requires)
