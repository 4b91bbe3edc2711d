use Rattle.std.proofs.Common.{◌≡◌, filter, map, take}
use Rattle.vp_elab.specs.declared.object.ObjectId.{ObjectId}
use Rattle.vp_policy.specs.Filter.{is_listed_at}
use Rattle.vp_policy.specs.Users.{member_at}
use Rattle.vp_policy.proofs.policy.Policy.listed.Given as goal

abbrev pub invariant-loop-object : goal.invariant-loop-object
invariant-loop-object l =
    map (λ (o : ObjectId). o.0) l.ids.items
    ≡ filter (is_listed_at l.design.tree (member_at l.self.members l.user.0)) (map (λ (o : ObjectId). o.0) (take l.object-index l.object-items))
