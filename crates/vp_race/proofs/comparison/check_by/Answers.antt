use Rattle.std.proofs.Common.{◌∙◌, ℕ, if◌then◌else◌, List, Some, None, ap, subst, sym}
use Rattle.std.specs.Arc.{arc_value}
use Rattle.std.proofs.lemmas.Result.{err_from_is_err_and}
use Rattle.vp_race.specs.Orders.{HasEnd, differs}
use Rattle.vp_race.specs.Search.{finding_of}
use Rattle.vp_race.specs.Segments.{Beside}
use Rattle.vp_race.proofs.Closing.{end_from}
use Rattle.vp_race.proofs.Refused.{allowed, found_accepted, order_refused}
use Rattle.vp_race.proofs.comparison.check_by.Goals as goal

pub returns-in_err-beside-clause-refused : goal.returns-in_err-beside-clause-refused
returns-in_err-beside-clause-refused c =
    let seg = arc_value c.args.segment.now in
    let p = err_from_is_err_and c.from_residual.result c.from_residual.ensures.1 in
    let whole = subst (λ (ks : List ℕ). HasEnd seg.start ks) (sym c.requires.choice.order) (end_from seg.start c.args.choice.now c.requires.choice.begins c.requires.choice.has_end) in
    rw (p.1, p.2)
    (order_refused seg c.args.choices.items c.args.object.0 whole.end c.in_err-beside.field-0.0 whole.is_order.leads (c.in_err-beside.ensures {u = tt}).refused)

pub returns-in-Some-clause-found : goal.returns-in-Some-clause-found
returns-in-Some-clause-found c =
    let object = c.args.object.0 in
    allowed (differs c.pair_of.new.first c.pair_of.new.second object) c.in_ok-finding.field-0 c.in-Some.finding (finding_of (arc_value c.args.segment.now) c.args.choices.items object) c.in-Some.is
    ((c.in_ok-finding.ensures {u = tt}).found
    ∙ ap (λ (b : Beside). if differs c.pair_of.new.first c.pair_of.new.second object then Some (finding_of b.segment b.second object) else None) (c.in_ok-beside.ensures {u = tt}).pair)

pub returns-in-Some-clause-accepted : goal.returns-in-Some-clause-accepted
returns-in-Some-clause-accepted c =
    let object = c.args.object.0 in
    let pair = c.in_ok-beside.ensures {u = tt} in
    found_accepted (arc_value c.args.segment.now) c.args.choices.items object c.pair_of.new.first c.pair_of.new.second c.in_ok-finding.field-0 c.in-Some.finding (finding_of c.in_ok-beside.beside.segment c.in_ok-beside.beside.second object) pair.first pair.second pair.over c.in-Some.is (c.in_ok-finding.ensures {u = tt}).found
