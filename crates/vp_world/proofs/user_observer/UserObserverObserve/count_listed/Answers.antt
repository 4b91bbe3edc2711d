use Rattle.std.proofs.Common.{◌≡◌, ◌∙◌, true, false, length, ap, sym, arith}
use Rattle.std.specs.Prelude.{option_map}
use Rattle.vp_elab.specs.declared.object.ObjectId.{ObjectId}
use Rattle.vp_elab.specs.Built.{Elaborated}
use Rattle.vp_policy.specs.Users.{member_at}
use Rattle.vp_world.proofs.ListedCounts.{listed_all, listed_below, more}
use Rattle.vp_world.proofs.user_observer.UserObserverObserve.count_listed.Goals as goal
use Rattle.vp_world.proofs.user_observer.UserObserverObserve.count_listed.Goals.{else-is_listed_in, then-is_listed_in}

pub loop-number-preserved : goal.loop-number-preserved
loop-number-preserved c =
    let self = c.args.self.now in
    let scope = option_map (λ (o : ObjectId). o.0) c.args.scope in
    let next = more self.sim.now.design.tree self.policy.now.tree (member_at self.policy.now.members self.user.0) c.args.kind scope c.loop-number.number in
    let before = c.loop-number.invariant in
    elim c.if-is_listed_in.branch [
      | then-is_listed_in w ↦
          let here = next true (sym w.if-is_listed_in.true ∙ c.is_listed_in.ensures) in
          record { counted = omega (arith, w.count-is, before.counted, here); few = omega (arith, w.count-is, before.few) }
      | else-is_listed_in w ↦
          let here = next false (sym w.if-is_listed_in.false ∙ c.is_listed_in.ensures) in
          record { counted = omega (arith, w.count-is, before.counted, here); few = omega (arith, w.count-is, before.few) }
    ]

pub returns : goal.returns
returns c =
    let self = c.args.self.now in
    let tree = self.sim.now.design.tree in
    let member = member_at self.policy.now.members self.user.0 in
    let scope = option_map (λ (o : ObjectId). o.0) c.args.scope in
    let count = c.count-number-end.ensures ∙ ap (λ (d : Elaborated). length d.tree.nodes) c.design.ensures in
    let end : c.loop-number.number ≡ length tree.nodes = omega (arith, c.loop-number-test.false, c.loop-number.auto.number-end, count) in
    c.loop-number.invariant.counted
    ∙ ap (λ n. length (listed_below tree self.policy.now.tree member c.args.kind scope n)) end
    ∙ ap length (listed_all tree self.policy.now.tree member c.args.kind scope c.requires)
