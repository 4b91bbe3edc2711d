use Rattle.std.proofs.Common.{◌≡◌, ◌∙◌, ◌+◌, ◌-◌, ◌==◌, suc, ap, arith, sym}
use Rattle.std.specs.Prelude.{slice_get}
use Rattle.std.specs.List.{find}
use Rattle.vp_race.specs.Recording.{Ring}
use Rattle.vp_race.specs.Segments.{Run}
use Rattle.vp_race.proofs.Numbering.{numbered_find, numbered_none}
use Rattle.vp_race.proofs.kept.KeptSegments.find.Goals as goal

pub returns-then-number-before : goal.returns-then-number-before
returns-then-number-before c =
    sym (numbered_none (suc c.before-before.result) c.args.number c.args.self.now.kept c.before-before.ensures.numbered (omega (arith, c.if-number-before.true)))

pub returns : goal.returns
returns c =
    let before = c.before-before.result in
    let kept = c.args.self.now.kept in
    let place = c.args.number - before - 1 in
    let number : c.args.number ≡ suc before + place = omega (arith, c.if-number-before.false) in
    c.get.ensures ∙ ap (λ (r : Ring). slice_get r.kept place) c.self.view_is
    ∙ sym (numbered_find (suc before) place kept c.before-before.ensures.numbered)
    ∙ ap (λ n. find (λ (run : Run). run.number == n) kept) (sym number)
