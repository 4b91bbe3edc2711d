use Rattle.std.proofs.Common.{◌≡◌, ◌∙◌, ◌++◌, List, ap, subst}
use Rattle.std.specs.Prelude.{OnOk}
use Rattle.vp_operand.specs.declared.operand.Operand.{Operand}
use Rattle.vp_expr.specs.declared.tables.Tables.{Tables}
use Rattle.vp_operand.specs.Reads.{slots_at}
use Rattle.vp_source.specs.Whole.{AreWhole}
use Rattle.vp_elab.specs.Built.{Elaborated}
use Rattle.vp_expr.proofs.Derivations.{reads_derived}
use Rattle.vp_expr.proofs.evaluation.add_reads.Goals as goal

pub returns-clause-read : goal.returns-clause-read
returns-clause-read c =
    subst (λ (os : List Operand). OnOk c.add_slots.result (c.add_slots.new.slots.items ≡ c.args.slots.now.items ++ slots_at os c.args.place))
    (c.as_slice.ensures ∙ ap (λ (t : Tables). t.operands) c.tables.ensures.tables)
    c.add_slots.ensures

pub returns-clause-derived : goal.returns-clause-derived
returns-clause-derived c =
    let whole = subst (λ (d : Elaborated). AreWhole d.source) c.design.ensures c.source_is_whole.ensures in
    let all = c.args.slots.now.items in
    reads_derived c.args.checked.now c.args.place all c.add_slots.new.slots.items c.add_slots.result whole (returns-clause-read c)
