use Rattle.std.proofs.Common.{◌≡◌, ◌-◌, length}
use Rattle.vp_statement.specs.Walking.{first_event}
use Rattle.vp_statement.proofs.walk.next_event.Given as goal

-- the first event of this part is that of the whole
abbrev pub invariant-begin : goal.invariant-begin
invariant-begin l = first_event l.actions (length l.actions - l._turn) l.here ≡ first_event l.actions (length l.actions) l.fn.place
