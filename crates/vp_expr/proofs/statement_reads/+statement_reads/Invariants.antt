use Rattle.std.proofs.Common.{◌≡◌, ◌+◌, ◌*◌, ◌≤◌, ◌++◌, None, drop, take}
use Rattle.vp_expr.specs.Awaits.{choice_reads, reads_below, reads_in}
use Rattle.vp_expr.proofs.statement_reads.+statement_reads.Given as goal

abbrev pub decreases-add_below : goal.decreases-add_below
decreases-add_below l = 4 * l.end

abbrev pub decreases-add_optional : goal.decreases-add_optional
decreases-add_optional l = 4 * l.end + 1

abbrev pub decreases-add_body : goal.decreases-add_body
decreases-add_body l = 4 * l.end + 1

abbrev pub decreases-add_block : goal.decreases-add_block
decreases-add_block l = 4 * l.end + 2

abbrev pub decreases-add_choices : goal.decreases-add_choices
decreases-add_choices l = 4 * l.end + 2

abbrev pub decreases-add_of : goal.decreases-add_of
decreases-add_of l = 4 * l.place + 3

-- what is read so far, and what the rest of the block's chain reads
abbrev pub invariant-add_block-loop-list : goal.invariant-add_block-loop-list
invariant-add_block-loop-list l = record {
  within : l.below ≤ l.fn.end;
  reads :
      l.slots.items ++ reads_below l.source l.operands l.statements l.below l.chain
      ≡ l.fn.slots.items ++ (reads_below l.source l.operands l.statements l.fn.end l.fn.last ++ reads_below l.source l.operands l.statements l.fn.end l.fn.list);
}

abbrev pub decreases-add_block-loop-list : goal.decreases-add_block-loop-list
decreases-add_block-loop-list l = l.below

-- what is read so far, and what the choices that are left read
abbrev pub invariant-add_choices-loop-choice : goal.invariant-add_choices-loop-choice
invariant-add_choices-loop-choice l =
    let read = take l.end (reads_in l.source l.operands l.statements) in
    l.slots.items ++ choice_reads l.operands read l.before (drop l.choice-index l.choices)
    ≡ l.fn.slots.items ++ choice_reads l.operands read None l.choices
