use Rattle.std.proofs.Common.{◌∙◌, ℕ, List, ap, drop, subst}
use Rattle.vp_bits.specs.declared.bit.Bit.{Bit}
use Rattle.vp_source.specs.Whole.{AreWhole}
use Rattle.vp_elab.specs.Built.{Elaborated}
use Rattle.vp_elab.specs.Tree.{AreAlike}
use Rattle.vp_expr.specs.declared.tables.Tables.{Tables}
use Rattle.vp_operand.specs.Arena.{term_below, value_at, value_in}
use Rattle.vp_expr.specs.Evaluation.{eval}
use Rattle.vp_expr.specs.Tables.{tables_of}
use Rattle.vp_operand.specs.Terms.{Term, value}
use Rattle.vp_operand.proofs.Arenas.{term_whole}
use Rattle.vp_expr.proofs.Derivations.{value_derived}
use Rattle.vp_expr.proofs.Instances.{value_alike}
use Rattle.vp_expr.proofs.Sized.{tables_sized}
use Rattle.vp_expr.proofs.evaluation.eval.Goals as goal

pub returns-clause-value : goal.returns-clause-value
returns-clause-value c =
    let t = c.tables-tables.result.now in
    let v = c.of_instance-values.result.now in
    let e = c.args.id in
    c.value_below.ensures.value
    ∙ ap (λ (n : ℕ). value (value_in v) c.size.result (term_below t.operands n c.place.result)) c.len.ensures
    ∙ ap (λ (x : Term). value (value_in v) c.size.result x) (term_whole t.operands c.place.result)
    ∙ ap (λ (p : ℕ). value_at t.operands v p c.size.result) c.place.ensures
    ∙ ap (λ (n : ℕ). value_at t.operands v e.place n) c.size.ensures.size
    ∙ ap (λ (x : Tables). eval x v e) c.tables-tables.ensures.tables
    ∙ ap (λ (l : List (List Bit)). eval (tables_of c.args.checked.now) l e) c.of_instance-values.ensures

pub value_below-requires-clause-sized : goal.value_below-requires-clause-sized
value_below-requires-clause-sized c =
    tables_sized c.args.checked.now c.tables-tables.result.now c.tables-tables.ensures.tables c.tables-tables.ensures.fit

pub returns-clause-derived : goal.returns-clause-derived
returns-clause-derived c = λ m e s.
    let whole = subst (λ (d : Elaborated). AreWhole d.source) c.design.ensures c.source_is_whole.ensures in
    returns-clause-value c ∙ value_derived c.args.checked.now m (drop c.args.instance.0 c.args.values.now) c.args.id e whole s

pub returns-clause-instance : goal.returns-clause-instance
returns-clause-instance c = λ m e s is.
    let alike = subst (λ (d : Elaborated). AreAlike d.tree.nodes) c.design-2.ensures c.instances_are_alike.ensures in
    returns-clause-derived c m e s
    ∙ value_alike c.args.checked.now m c.args.instance.0 (drop c.args.instance.0 c.args.values.now) c.args.id.size e alike is
