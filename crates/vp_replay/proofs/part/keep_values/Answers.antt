use Rattle.std.proofs.Common.{◌∙◌, inl, inr, sym}
use Rattle.vp_replay.proofs.Keeping.{values_end}
use Rattle.vp_replay.proofs.part.keep_values.Goals as goal

pub returns : goal.returns
returns c =
    let left = c.loop-number.number-iterator in
    sym (c.loop-number.invariant ∙ values_end left.a.rest.now left.b.rest.now c.loop-number.values.items (elim (c.in-None.ensures {u = tt}).steps [ inl h ↦ inl h.1.0 | inr h ↦ inr h.1.0 ]))
