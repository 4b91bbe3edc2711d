use Rattle.std.proofs.Common.{◌≡◌, ◌∙◌, List, ℕ, length, ap, filter, ◌<◌, get_or}
use Rattle.vp_policy.specs.Filter.{is_closed}
use Rattle.vp_policy.proofs.Closed.{among_more}
use Rattle.vp_policy.proofs.rights_tables.closed_lists.Goals as goal

pub loop-list-preserved : goal.loop-list-preserved
loop-list-preserved c = λ u given.
    let lists : List (List ℕ) = c.args.lists.now in
    let n : ℕ = c.loop-list.list-index in
    let within : n < length lists = c.loop-list-test.true in
    let item : List ℕ = c.list-item.result in
    let own : c.in_ok-closed_of.field-0 ≡ filter (is_closed u) (get_or lists n item) =
    c.in_ok-closed_of.ensures {u = tt} u given ∙ ap (filter (is_closed u)) (c.as_slice.ensures ∙ c.list-item.is) in
    among_more u lists c.loop-list.closed.items c.push.new.self.items n c.in_ok-closed_of.field-0 item within
    (c.loop-list.invariant u given) own (c.in_ok-push.ensures {u = tt}).items
