use Rattle.std.proofs.Common.{◌≡◌, List, None, Some, subst, take}
use Rattle.std.specs.Prelude.{MatchOption, slice_get}
use Rattle.vp_policy.specs.SeenObjects.{node_after}
use Rattle.vp_policy.specs.View.{SeenNode}
use Rattle.vp_replay.proofs.Paths.{node_got}
use Rattle.vp_replay.proofs.path.object_at.Goals as goal

pub returns : goal.returns
returns c =
    let n = c.args.number in
    subst (λ (nodes : List SeenNode). MatchOption c.get.result (slice_get nodes n ≡ None) (λ o. slice_get nodes n ≡ Some (node_after (take n nodes) o.now)))
    c.objects.ensures (node_got c.objects.result.now n c.get.result c.get.ensures.lookup)
