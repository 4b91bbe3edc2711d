use Rattle.std.proofs.Common.{rules, ◌≡◌, All, drop, subst, sym}
use Rattle.vp_race.specs.Segments.{FindingState}
use Rattle.vp_hub.proofs.Lists.{all_rest}
use Rattle.vp_hub.proofs.hub.Hub.book_all.Goals as goal

pub loop-finding-preserved-then-branch : goal.loop-finding-preserved-then-branch
loop-finding-preserved-then-branch g c =
    let items = c.loop-finding.findings.items in
    let rest : c.pop_front.new.self.items ≡ drop 1 items = search rules in
    subst (All (λ (f : FindingState). f.segment.start.design ≡ g.L.NamesOpening.opening.design)) (sym rest) (all_rest (λ (f : FindingState). f.segment.start.design ≡ g.L.NamesOpening.opening.design) items c.loop-finding.invariant)

pub loop-finding-preserved : goal.loop-finding-preserved
loop-finding-preserved g c =
    let items = c.loop-finding.findings.items in
    let rest : c.pop_front.new.self.items ≡ drop 1 items = search rules in
    subst (All (λ (f : FindingState). f.segment.start.design ≡ g.L.NamesOpening.opening.design)) (sym rest) (all_rest (λ (f : FindingState). f.segment.start.design ≡ g.L.NamesOpening.opening.design) items c.loop-finding.invariant)
