use Rattle.std.proofs.Common.{◌≡◌, ◌<◌, ℕ}
use Rattle.vp_expr.specs.Tables.{tables_of}
use Rattle.vp_waking.specs.Listening.{AreKept, IsHeard}
use Rattle.vp_waking.specs.Waking.{awaited_by, wait_of}
use Rattle.vp_waking.proofs.listeners.Listeners.listen_all.Given as goal

-- the processes so far are heard
abbrev pub invariant-loop-process : goal.invariant-loop-process
invariant-loop-process l = record {
  design : l.self.design ≡ l.fn.self.design;
  kept : AreKept l.fn.self.lists l.self.lists;
  heard : (p : ℕ) → p < l.process → IsHeard l.self.lists (awaited_by (tables_of l.self.design) (wait_of l.waiting p) p) p;
}
