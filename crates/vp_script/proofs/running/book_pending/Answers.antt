use Rattle.std.proofs.Common.{List, Option, ap, option_map, subst, sym}
use Rattle.std.specs.Arc.{arc_value}
use Rattle.vp_race.specs.Segments.{FindingState, Run}
use Rattle.vp_script.specs.Pending.{HappensTo, running_of}
use Rattle.vp_script.proofs.running.book_pending.Goals as goal

pub returns-clause-happened : goal.returns-clause-happened
returns-clause-happened c =
    let seeds = c.args.seeds in
    let begins = running_of seeds c.args.world.now (option_map arc_value c.args.segment.now) c.args.findings.now.items in
    let world = c.book_all.new.world in
    let items = c.book_all.new.findings.items in
    let searched = c.in_ok-find.ensures {u = tt} in
    let happened : HappensTo begins (record { world = world; found = items; seeds = seeds }) =
    subst (λ (fs : List FindingState). HappensTo (record { world = c.args.world.now; found = fs; seeds = seeds }) (record { world = world; found = items; seeds = seeds }))
    searched.found (c.book_all.ensures.happened seeds) in
    subst (λ (o : Option Run). HappensTo begins (running_of seeds world o items)) (sym (ap (option_map arc_value) searched.searched)) happened
