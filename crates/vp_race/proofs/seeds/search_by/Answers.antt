use Rattle.std.proofs.Common.{◌≡◌, ◌∙◌, ◌++◌, [], List, ap, subst, sym}
use Rattle.std.specs.Arc.{arc_value}
use Rattle.std.specs.List.{All}
use Rattle.vp_elab.specs.Tree.{below}
use Rattle.vp_race.specs.Segments.{FindingState}
use Rattle.vp_race.specs.Search.{found_by, found_from, tried}
use Rattle.vp_race.proofs.Found.{all_more, one_more, seed_more}
use Rattle.vp_race.proofs.seeds.search_by.Goals as goal

pub loop-seed-preserved : goal.loop-seed-preserved
loop-seed-preserved g c =
    let seg = arc_value c.args.segment.now in
    let first = c.args.first.now in
    let limit = c.args.limit in
    let seed = c.loop-seed.seed in
    let now = c.loop-seed.findings.findings in
    let order = tried seg.start limit seed in
    let made = (c.in_ok-try_seed.ensures {u = tt}).found in
    record {
      gate = c.turn-is_open-in-loop-seed.ensures;
      found =
          λ stays.
          made ∙ ap (λ (fs : List FindingState). fs ++ found_by seg first fs order) (c.loop-seed.invariant.found stays)
          ∙ sym (seed_more seg first limit [] (below seed) seed)
          ∙ ap (λ n. found_from seg first limit [] (below n)) (one_more seed);
      segment = subst (λ (fs : List FindingState). All (λ f. f.segment ≡ seg) fs) (sym made) (all_more seg first now order c.loop-seed.invariant.segment);
      objects = c.try_seed.ensures.objects ∙ c.loop-seed.invariant.objects;
      design = c.try_seed.ensures.design ∙ c.loop-seed.invariant.design;
    }
