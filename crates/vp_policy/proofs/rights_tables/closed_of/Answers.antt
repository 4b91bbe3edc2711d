use Rattle.std.proofs.Common.{◌≡◌, ◌∙◌, ◌<◌, ℕ, true, false, List, Vec, Global, ap, get_or, sym, arith}
use Rattle.std.specs.Prelude.{not}
use Rattle.std.proofs.lemmas.List.{append-nil}
use Rattle.vp_pragma.specs.declared.rights.Right.TheVariants as right
use Rattle.vp_pragma.specs.Rights.{has}
use Rattle.vp_policy.specs.Users.{granted}
use Rattle.vp_policy.proofs.Closed.{closed_more}
use Rattle.vp_policy.proofs.rights_tables.closed_of.Goals.{then-not-has+in_ok-push, else-not-has}
use Rattle.vp_policy.proofs.rights_tables.closed_of.Goals as goal

pub loop-envelope-preserved : goal.loop-envelope-preserved
loop-envelope-preserved c = λ u given.
    let list : List ℕ = c.args.list.now in
    let n : ℕ = c.loop-envelope.envelope-index in
    let e : ℕ = get_or list n 0 in
    let fits = c.type_inv.list n in
    let small : e < 256 = omega arith in
    let listed : c.has.result ≡ has right.List (granted u e) = c.has.ensures ∙ ap (has right.List) (given e (record { 0 = 0 }) small) in
    let are = c.loop-envelope.invariant u given in
    elim c.if-not-has.branch [
      | then-not-has+in_ok-push w ↦
          closed_more u list c.loop-envelope.numbers.items c.if-not-has.numbers.items n true c.loop-envelope-test.true are
          (ap not (sym w.if-not-has.true) ∙ ap not listed)
          (ap (λ (v : Vec ℕ Global). v.items) w.numbers-is ∙ (w.in_ok-push.ensures {u = tt}).items)
      | else-not-has w ↦
          closed_more u list c.loop-envelope.numbers.items c.if-not-has.numbers.items n false c.loop-envelope-test.true are
          (ap not (sym w.if-not-has.false) ∙ ap not listed)
          (ap (λ (v : Vec ℕ Global). v.items) w.numbers-is ∙ sym (append-nil c.loop-envelope.numbers.items))
    ]
