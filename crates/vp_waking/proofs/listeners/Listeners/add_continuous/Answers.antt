use Rattle.std.proofs.Common.{◌∙◌, Option, Some, false, ap, get_or}
use Rattle.std.specs.Option.{option_map_or}
use Rattle.vp_operand.specs.Arena.{term_at}
use Rattle.vp_operand.specs.Reads.{reads}
use Rattle.vp_expr.specs.Tables.{tables_of}
use Rattle.vp_expr.specs.declared.tables.Process.{Process}
use Rattle.vp_waking.specs.Listening.{listens_to}
use Rattle.vp_waking.specs.Waking.{object_at}
use Rattle.vp_waking.proofs.Hearing.{all_read}
use Rattle.vp_waking.proofs.listeners.Listeners.add_continuous.Goals as goal

pub add_operands-requires : goal.add_operands-requires
add_operands-requires c k d within =
    let tables = tables_of c.args.self.now.design in
    let instance = c.in-Assignment.instance in
    let read = reads (term_at tables.operands c.in-Assignment.value.place) in
    ap (λ (o : Option Process). option_map_or (listens_to tables (object_at instance (get_or read k d))) o false) (c.requires ∙ ap Some c.in-Assignment.is)
    ∙ all_read instance read k d within
