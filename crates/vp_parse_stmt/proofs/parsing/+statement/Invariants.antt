use Rattle.std.proofs.Common.{◌+◌, ◌*◌, ◌≤◌, length}
use Rattle.std.specs.Prelude.{vec_len}
use Rattle.vp_parse_stmt.specs.Weight.{weight}
use Rattle.vp_parse_stmt.specs.Placing.{lists_in, stmts_into, stmt_into, further_items_into}
use Rattle.vp_parse_stmt.proofs.Loops.{ChainGoesOn, ItemsGoOn}
use Rattle.vp_parse_stmt.proofs.parsing.+statement.Given as goal

abbrev pub decreases-list : goal.decreases-list
decreases-list l = 8 * l.depth + 1

abbrev pub decreases-block : goal.decreases-block
decreases-block l = 8 * l.depth + 2

abbrev pub decreases-delayed : goal.decreases-delayed
decreases-delayed l = 8 * l.depth + 1

abbrev pub decreases-for_loop : goal.decreases-for_loop
decreases-for_loop l = 8 * l.depth + 1

abbrev pub decreases-at_event : goal.decreases-at_event
decreases-at_event l = 8 * l.depth + 1

abbrev pub decreases-labels_item : goal.decreases-labels_item
decreases-labels_item l = 8 * l.depth + 1

abbrev pub decreases-default_item : goal.decreases-default_item
decreases-default_item l = 8 * l.depth + 1

abbrev pub decreases-item : goal.decreases-item
decreases-item l = 8 * l.depth + 2

abbrev pub decreases-further_items : goal.decreases-further_items
decreases-further_items l = 8 * l.depth + 3

abbrev pub decreases-items : goal.decreases-items
decreases-items l = 8 * l.depth + 4

abbrev pub decreases-case : goal.decreases-case
decreases-case l = 8 * l.depth + 5

abbrev pub decreases-guarded : goal.decreases-guarded
decreases-guarded l = 8 * l.depth + 1

abbrev pub decreases-wait : goal.decreases-wait
decreases-wait l = 8 * l.depth + 2

abbrev pub decreases-while_true : goal.decreases-while_true
decreases-while_true l = 8 * l.depth + 2

abbrev pub decreases-forever : goal.decreases-forever
decreases-forever l = 8 * l.depth + 1

abbrev pub decreases-second : goal.decreases-second
decreases-second l = 8 * l.depth + 1

abbrev pub decreases-otherwise : goal.decreases-otherwise
decreases-otherwise l = 8 * l.depth + 2

abbrev pub decreases-conditional : goal.decreases-conditional
decreases-conditional l = 8 * l.depth + 3

abbrev pub decreases-form : goal.decreases-form
decreases-form l = 8 * l.depth + 7

abbrev pub decreases-statement_at : goal.decreases-statement_at
decreases-statement_at l = 8 * l.depth

abbrev pub invariant-list-loop-arena : goal.invariant-list-loop-arena
invariant-list-loop-arena l = record {
  lighter : weight l.arena l.rest ≤ weight l.initial.arena l.initial.rest;
  no_longer : length l.rest ≤ length l.symbols;
  goes_on : ChainGoesOn (stmt_into l.limit l.depth) l.so_far (lists_in l.arena) l.rest (stmts_into (stmt_into l.limit l.depth) (lists_in l.fn.arena) l.symbols);
}

abbrev pub decreases-list-loop-arena : goal.decreases-list-loop-arena
decreases-list-loop-arena l = length l.rest

abbrev pub invariant-further_items-loop-arena : goal.invariant-further_items-loop-arena
invariant-further_items-loop-arena l = record {
  lighter : weight l.arena l.rest + vec_len l.choices ≤ weight l.initial.arena l.initial.rest + vec_len l.initial.choices;
  no_longer : length l.rest ≤ length l.symbols;
  goes_on : ItemsGoOn l.limit (stmt_into l.limit l.depth) l.may l.choices.items (lists_in l.arena) l.rest (further_items_into l.limit (stmt_into l.limit l.depth) (length l.symbols) l.may_default l.fn.choices.items (lists_in l.fn.arena) l.symbols);
}

abbrev pub decreases-further_items-loop-arena : goal.decreases-further_items-loop-arena
decreases-further_items-loop-arena l = length l.rest
