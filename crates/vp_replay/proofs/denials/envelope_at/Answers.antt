use Rattle.std.proofs.Common.{◌∙◌, ap, sym}
use Rattle.std.specs.Prelude.{slice_get}
use Rattle.vp_policy.specs.SeenObjects.{envelope_shown}
use Rattle.vp_replay.proofs.Missing.{envelope_there, item_got}
use Rattle.vp_replay.proofs.denials.envelope_at.Goals as goal

pub returns : goal.returns
returns c =
    let index = c.in_ok-before.before in
    let below = c.in_ok-before.ensures {u = tt} in
    item_got envelope_shown c.envelopes.result.now index c.get.result c.get.ensures.lookup
    ∙ ap (λ es. slice_get es index) c.envelopes.ensures
    ∙ envelope_there c.args.view.now c.args.number index below.0 (sym below.1)
