use Rattle.std.proofs.Common.{◌∙◌, inl, inr, sym}
use Rattle.vp_replay.proofs.Keeping.{numbers_end}
use Rattle.vp_replay.proofs.explaining.keep_numbers.Goals as goal

pub returns : goal.returns
returns c =
    let left = c.loop-object.object-iterator in
    sym (c.loop-object.invariant
    ∙ numbers_end left.a.rest.now c.args.granted.now.values left.b.rest.now c.loop-object.numbers.items (elim (c.in-None.ensures {u = tt}).steps [ inl h ↦ inl h.1.0 | inr h ↦ inr h.1.0 ]))
