use Rattle.std.proofs.Common.{ℕ, ◌+◌, ◌∙◌, List, ap, subst, sym, take}
use Rattle.std.specs.Prelude.{string_bytes}
use Rattle.vp_replay.specs.OutlinedObjects.{steps_above}
use Rattle.vp_replay.proofs.Writing.{IsWritten, written_more}
use Rattle.vp_replay.proofs.lines.push_objects.Goals as goal

pub loop-object-preserved : goal.loop-object-preserved
loop-object-preserved c =
    let i : ℕ = c.loop-object.object-index in
    let above_is = c.steps_above-above.ensures ∙ ap (λ (s : List ℕ). steps_above s c.object-item.result.parent) c.as_slice.ensures.value in
    let more = written_more c.args.objects.now c.object-item.result i c.steps_above-above.result c.loop-object-test.true c.object-item.is
    (string_bytes c.args.text.now) (string_bytes c.loop-object.text) (string_bytes c.push_object.new.text) c.loop-object.steps.items
    c.loop-object.invariant above_is (c.in_ok-push_object.ensures {u = tt}) in
    subst (λ (s : List ℕ). IsWritten (take (i + 1) c.args.objects.now) (string_bytes c.args.text.now) (string_bytes c.push_object.new.text) s (i + 1))
    (sym (c.in_ok-push.ensures {u = tt}).items) more
