use Rattle.std.proofs.Common.{◌≡◌, ◌++◌, ◌+◌, ◌≤◌, length, take, vec_capacity, vec_len}
use Rattle.vp_vpi.specs.HandleTables.{opened_from}
use Rattle.vp_vpi.proofs.session.handle_table.add_opened.Given as goal

-- those of the handles so far were added, and there is room for the others
abbrev pub invariant-loop-place : goal.invariant-loop-place
invariant-loop-place l = record {
  added : l.opened.items ≡ l.fn.opened.items ++ opened_from l.index (take l.place l.handles);
  room : vec_len l.opened + length l.handles ≤ vec_capacity l.opened + l.place;
}
