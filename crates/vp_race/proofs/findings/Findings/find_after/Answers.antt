use Rattle.std.proofs.Common.{◌∙◌}
use Rattle.vp_race.proofs.Found.{found_more}
use Rattle.vp_race.proofs.findings.Findings.find_after.Goals as goal

pub loop-object-preserved : goal.loop-object-preserved
loop-object-preserved c = record {
  found =
      (c.in_ok-find_at.ensures {u = tt}).found
      ∙ found_more c.args.beside.now.segment c.args.beside.now.second c.args.first.now c.args.second.now c.args.self.now.findings c.loop-object.object c.loop-object.self.findings c.loop-object.invariant.found;
  objects = c.find_at.ensures.objects ∙ c.loop-object.invariant.objects;
}
