use Rattle.std.proofs.Common.{◌≡◌, ◌∙◌, ◌+◌, [], ap, arith, length, sym}
use Rattle.vp_policy.specs.SeenObjects.{nodes_from}
use Rattle.vp_policy.specs.View.{View}
use Rattle.vp_policy.proofs.Views.{nodes_count}
use Rattle.vp_policy.proofs.view.View.count.Goals as goal

pub returns : goal.returns
returns c =
    let objects = c.self.inside.objects in
    let many : length (nodes_from [] objects) ≡ 0 + length objects = nodes_count [] objects in
    let here : c.args.self.now.nodes ≡ nodes_from [] objects = ap (λ (v : View). v.nodes) (sym c.self.view_is) in
    let same : length c.args.self.now.nodes ≡ length (nodes_from [] objects) = ap length here in
    let all : length c.as_slice.result.now ≡ length objects = ap length c.as_slice.ensures in
    omega (arith, many, same, all)
