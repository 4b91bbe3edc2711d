use Rattle.std.proofs.Common.{◌≡◌, map, take}
use Rattle.vp_expr.specs.Tables.{awaited_of, tables_of}
use Rattle.vp_waking.specs.Listening.{AreKept, IsHeard}
use Rattle.vp_waking.specs.Waking.{located}
use Rattle.vp_waking.proofs.listeners.Listeners.add_statement.Given as goal

-- the process is heard where the terms so far say
abbrev pub invariant-loop-k : goal.invariant-loop-k
invariant-loop-k l = record {
  design : l.self.design ≡ l.fn.self.design;
  kept : AreKept l.fn.self.lists l.self.lists;
  heard : IsHeard l.self.lists (map (located l.instance) (take l.k (awaited_of (tables_of l.fn.self.design) l.place))) l.process;
}
