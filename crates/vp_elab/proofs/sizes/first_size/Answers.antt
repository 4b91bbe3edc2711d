use Rattle.std.proofs.Common.{length, sym, arith}
use Rattle.std.proofs.lemmas.Bool.{eqb-true, eqb-false}
use Rattle.vp_elab.proofs.Counting.{no_items, some_items}
use Rattle.vp_elab.proofs.sizes.first_size.Goals as goal

pub returns-then-is_empty : goal.returns-then-is_empty
returns-then-is_empty c = no_items c.args.items.now (eqb-true (length c.args.items.now) 0 (sym (c.if-is_empty.ensures {u = tt})))

pub returns-else-is_empty : goal.returns-else-is_empty
returns-else-is_empty c =
    let some = eqb-false (length c.args.items.now) 0 (sym (c.if-is_empty.ensures {u = tt})) in
    some_items c.args.items.now (omega arith)
