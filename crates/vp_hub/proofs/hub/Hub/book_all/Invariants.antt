use Rattle.std.proofs.Common.{◌≡◌, All, length}
use Rattle.vp_race.specs.Segments.{FindingState}
use Rattle.vp_hub.proofs.hub.Hub.book_all.Given as goal

-- the others are of the design
abbrev pub invariant-loop-finding : goal.invariant-loop-finding
invariant-loop-finding g l = All (λ (f : FindingState). f.segment.start.design ≡ g.L.NamesOpening.opening.design) l.findings.items

abbrev pub decreases-loop-finding : goal.decreases-loop-finding
decreases-loop-finding g l = length l.findings.items
