use Rattle.std.proofs.Common.{◌≡◌, length, subst, sym}
use Rattle.vp_policy.specs.PolicyState.{Fits}
use Rattle.vp_policy.specs.SeenObjects.{numbers_from}
use Rattle.vp_policy.specs.View.{HoldScopes}
use Rattle.vp_audit.specs.declared.reading.LogReader.TheInside.{Inside}
use Rattle.vp_audit.proofs.reading.LogReader.follow.Goals.{in-Book+in_ok-try_clone+in_ok-push, in-Some, in_default, in_default-happening}
use Rattle.vp_audit.proofs.reading.LogReader.follow.Goals as goal

-- what holds of a reading, of the policy, the design and what is known alone
abbrev Holds : Inside → Type 0
Holds r =
    Fits r.policy r.design.now.tree × (length r.known.items ≡ length r.design.now.tree.nodes) × HoldScopes r.design.now.tree.nodes r.known.items
    × (r.numbers.items ≡ numbers_from 0 r.known.items)

pub invariant_of-self-in_err-push : goal.invariant_of-self-in_err-push
invariant_of-self-in_err-push c =
    elim c.match-change_in.branch [
      | in-Some w ↦ subst Holds (sym w.self-inside-is) c.self.invariant
      | in_default w ↦ subst Holds (sym w.self-inside-is) c.self.invariant
    ]

pub invariant_of-self-2 : goal.invariant_of-self-2
invariant_of-self-2 c =
    let valued : Holds c.match-change_in.self-inside =
    elim c.match-change_in.branch [
      | in-Some w ↦ subst Holds (sym w.self-inside-is) c.self.invariant
      | in_default w ↦ subst Holds (sym w.self-inside-is) c.self.invariant
    ] in
    elim c.match-entry.branch [
      | in-Book+in_ok-try_clone+in_ok-push w ↦ subst Holds (sym w.self-inside-is) valued
      | in_default-happening w ↦ subst Holds (sym w.self-inside-is) valued
    ]
