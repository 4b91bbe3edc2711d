use Rattle.std.proofs.Common.{◌∙◌, ap}
use Rattle.std.specs.Prelude.{slice_index_or, unwrap_or}
use Rattle.std.proofs.lemmas.Option.{unwrap_or-slice_get}
use Rattle.vp_operand.specs.Values.{no_value}
use Rattle.vp_sim.specs.States.{State}
use Rattle.vp_sim.proofs.kept.SimCheckpoint.value.Goals as goal

pub returns : goal.returns
returns c =
    let values = c.self.inside.values in
    c.unwrap_or.ensures
    ∙ ap (λ o. unwrap_or o c.unknown.result) c.find.ensures
    ∙ unwrap_or-slice_get values c.args.object.0 c.unknown.result
    ∙ ap (slice_index_or values c.args.object.0) c.unknown.ensures
    ∙ ap (λ (s : State). slice_index_or s.values c.args.object.0 no_value) c.self.view_is
