use Rattle.std.proofs.Common.{◌∙◌, ap, length, List, arith}
use Rattle.vp_elab.specs.declared.object.Object.{Object}
use Rattle.vp_elab.proofs.Counted.{objects_few}
use Rattle.vp_elab.proofs.elaboration.all_objects.Goals as goal

pub firsts_of-requires : goal.firsts_of-requires
firsts_of-requires c =
    let few = objects_few c.args.source.now c.args.envelopes.now c.requires.right c.requires.few in
    let long = ap (λ (os : List Object). length os) (c.as_slice.ensures ∙ c.in_ok-all.ensures {u = tt}) in
    omega arith
