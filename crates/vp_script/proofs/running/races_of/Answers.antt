use Rattle.std.proofs.Common.{rules, ◌≡◌, All, List, subst, sym}
use Rattle.std.specs.Arc.{arc_value}
use Rattle.vp_race.specs.Segments.{FindingState}
use Rattle.vp_script.proofs.running.races_of.Goals as goal

pub returns-clause-segment : goal.returns-clause-segment
returns-clause-segment c =
    let same : c.loop-finding.races.items ≡ c.in-Ok.findings.items = search rules in
    subst (λ (fs : List FindingState). All (λ (f : FindingState). f.segment ≡ arc_value c.args.segment.now) fs) (sym same) (c.in-Ok.ensures {u = tt}).segment
