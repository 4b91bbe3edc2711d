use Rattle.std.proofs.Common.{◌≡◌, ◌∙◌, ℕ, Option, Some, None, List, true, ap, sym, rules}
use Rattle.std.specs.Prelude.{slice_get}
use Rattle.std.specs.Option.{option_flatten}
use Rattle.vp_policy.specs.SeenObjects.{numbers_from}
use Rattle.vp_policy.specs.Users.{Member, member_at}
use Rattle.vp_expr.specs.declared.change.Change.{Change}
use Rattle.vp_audit.specs.Projections.{is_followed}
use Rattle.vp_audit.specs.Readings.{LogReader}
use Rattle.vp_audit.proofs.Marks.{change_by}
use Rattle.vp_audit.proofs.reading.LogReader.change.Goals as goal

pub returns-in_err-number : goal.returns-in_err-number
returns-in_err-number c =
    let r : LogReader = c.args.self.now in
    let m : Member = member_at r.policy.members r.user in
    let change : Change = c.in_ok-change.change.now in
    let numbers : c.self.inside.numbers.items ≡ numbers_from 0 r.known = c.self.invariant.3 ∙ ap (λ (x : LogReader). numbers_from 0 x.known) c.self.view_is in
    let there : c.args.entry.now.change ≡ Some change = search rules in
    let followed : is_followed r.design.tree m change.object.0 ≡ true = search rules in
    let at : option_flatten (slice_get c.self.inside.numbers.items change.object.0) ≡ None =
    sym (c.in_err-number.ensures {u = tt} ∙ ap (λ (ns : List (Option ℕ)). option_flatten (slice_get ns change.object.0)) c.deref.ensures.value) in
    c.from_residual-in_err-number.ensures
    ∙ sym (change_by r.design.tree m r.known c.self.inside.numbers.items numbers change c.args.entry.now.change there followed None at)

pub returns : goal.returns
returns c =
    let r : LogReader = c.args.self.now in
    let m : Member = member_at r.policy.members r.user in
    let change : Change = c.in_ok-change.change.now in
    let number : ℕ = c.in_ok-number.number in
    let numbers : c.self.inside.numbers.items ≡ numbers_from 0 r.known = c.self.invariant.3 ∙ ap (λ (x : LogReader). numbers_from 0 x.known) c.self.view_is in
    let there : c.args.entry.now.change ≡ Some change = search rules in
    let followed : is_followed r.design.tree m change.object.0 ≡ true = search rules in
    let at : option_flatten (slice_get c.self.inside.numbers.items change.object.0) ≡ Some number = search rules in
    sym (change_by r.design.tree m r.known c.self.inside.numbers.items numbers change c.args.entry.now.change there followed (Some number) at)
