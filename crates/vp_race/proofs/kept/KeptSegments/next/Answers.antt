use Rattle.std.proofs.Common.{◌∙◌, ap, sym}
use Rattle.std.specs.Prelude.{slice_get}
use Rattle.vp_race.specs.Recording.{Ring}
use Rattle.vp_race.proofs.Numbering.{numbered_next}
use Rattle.vp_race.proofs.kept.KeptSegments.next.Goals as goal

pub returns : goal.returns
returns c =
    c.get.ensures ∙ ap (λ (r : Ring). slice_get r.kept c.saturating_sub-place.result) c.self.view_is
    ∙ ap (slice_get c.args.self.now.kept) c.saturating_sub-place.ensures
    ∙ sym (numbered_next c.before-2.result c.args.number c.args.self.now.kept c.before-2.ensures.numbered)
