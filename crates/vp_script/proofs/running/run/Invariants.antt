use Rattle.std.proofs.Common.{option_map}
use Rattle.std.specs.Arc.{arc_value}
use Rattle.vp_script.specs.Pending.{ArePending, HappensTo, running_of}
use Rattle.vp_script.proofs.Turns.{room}
use Rattle.vp_script.proofs.running.run.Given as goal

-- so much has happened
abbrev pub invariant-loop-world : goal.invariant-loop-world
invariant-loop-world l = record {
  happened :
      HappensTo (running_of l.fn.seeds l.fn.world (option_map arc_value l.fn.segment) l.fn.findings.items)
      (running_of l.fn.seeds l.world (option_map arc_value l.segment) l.findings.items);
  pending : ArePending l.world.opening.design (option_map arc_value l.segment) l.findings.items;
}

abbrev pub decreases-loop-world : goal.decreases-loop-world
decreases-loop-world l = room l.world
