use Rattle.std.proofs.Common.{◌∙◌, arith, drop, take, length-drop}
use Rattle.std.proofs.lemmas.List.{take_all}
use Rattle.std.proofs.lemmas.List.Sorted.{IsNonDecreasingBy-take}
use Rattle.vp_notify.proofs.Ordered.{between_is}
use Rattle.vp_notify.proofs.order.on_object.Goals as goal

pub count_below-requires : goal.count_below-requires
count_below-requires c = IsNonDecreasingBy-take (λ callback. callback.object.0) c.count_by.result c.args.callbacks.now c.requires

pub returns : goal.returns
returns c =
    let from = drop c.count_below.result (take c.count_by.result c.args.callbacks.now) in
    take_all _ from (omega (arith, length-drop c.count_below.result (take c.count_by.result c.args.callbacks.now)))
    ∙ between_is c.args.callbacks.now c.args.object.0 c.count_by.result c.count_below.result c.count_by.ensures.parted c.count_by.ensures.within c.count_below.ensures.parted c.count_below.ensures.within
