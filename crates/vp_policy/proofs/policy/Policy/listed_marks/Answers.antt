use Rattle.std.proofs.Common.{◌∙◌, ◌<◌, ap, length, arith}
use Rattle.vp_elab.specs.Tree.{Tree}
use Rattle.vp_policy.specs.Filter.{is_listed_at}
use Rattle.vp_policy.specs.Users.{Member, member_at}
use Rattle.vp_policy.proofs.Views.{listed_more}
use Rattle.vp_policy.proofs.policy.Policy.listed_marks.Goals as goal

pub loop-number-preserved : goal.loop-number-preserved
loop-number-preserved c =
    let tree : Tree = c.args.design.now.tree in
    let user : Member = member_at c.args.self.now.members c.args.user.0 in
    let n = c.loop-number.number in
    let within : n < length tree.nodes = omega arith in
    (c.in_ok-push.ensures {u = tt}).items
    ∙ listed_more tree user n c.loop-number.marks.items c.is_listed.result within c.loop-number.invariant
    (c.is_listed.ensures ∙ ap (λ (t : Tree). is_listed_at t user n) c.requires)
