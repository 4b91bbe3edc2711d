use Rattle.std.proofs.Common.{◌≡◌, ◌∙◌, [], ap, drop, refl, sym, subst}
use Rattle.std.proofs.KnownBytes.{Appends-nil}
use Rattle.std.proofs.lemmas.List.{take_rest}
use Rattle.vp_wire.proofs.Writing.{Wrote, wrote_front, wrote_kept, wrote_more}
use Rattle.vp_wire.proofs.counted.Counted.write.Goals.{in-Ok, in-Err}
use Rattle.vp_wire.proofs.counted.Counted.write.Goals as goal

pub loop-init : goal.loop-init
loop-init g c = (record { front = []; whole = refl; out = Appends-nil (g.W.Write.contents c.args.self.now.inner) }, refl, refl)

pub returns-in-Ok-eq0-clause-failed : goal.returns-in-Ok-eq0-clause-failed
returns-in-Ok-eq0-clause-failed g c =
    let held = g.W.Write.contents c.args.self.now.inner in
    let mid = g.W.Write.contents c.loop.self.inner in
    let holds = g.W.Write.contents c.write.new.self in
    let bytes = c.args.bytes.now in
    let rest = c.loop.rest.now in
    let count = c.in-Ok-eq0.field-0 in
    rw c.failed.ensures (wrote_front held holds bytes (drop count rest) (wrote_more held mid holds bytes rest count c.loop.invariant.0 (rw c.in-Ok-eq0.is at c.write.ensures.bytes)))

pub returns-in-Err-2-clause-failed : goal.returns-in-Err-2-clause-failed
returns-in-Err-2-clause-failed g c =
    let held = g.W.Write.contents c.args.self.now.inner in
    let mid = g.W.Write.contents c.loop.self.inner in
    let holds = g.W.Write.contents c.write.new.self in
    let bytes = c.args.bytes.now in
    let rest = c.loop.rest.now in
    rw c.failed-in-Err-2.ensures (wrote_front held holds bytes rest (wrote_kept held mid holds bytes rest c.loop.invariant.0 (c.in-Err-2.ensures {u = tt}).bytes))

pub returns-clause-failed : goal.returns-clause-failed
returns-clause-failed g c =
    rw c.failed-2.ensures (wrote_front (g.W.Write.contents c.args.self.now.inner) (g.W.Write.contents c.loop.self.inner) c.args.bytes.now c.loop.rest.now c.loop.invariant.0)

pub loop-preserved : goal.loop-preserved
loop-preserved g c =
    let held = g.W.Write.contents c.args.self.now.inner in
    let mid = g.W.Write.contents c.loop.self.inner in
    let holds = g.W.Write.contents c.write.new.self in
    let bytes = c.args.bytes.now in
    let rest = c.loop.rest.now in
    elim c.match-write.branch [
      | in-Ok w ↦ (
          let more = wrote_more held mid holds bytes rest w.in-Ok.count c.loop.invariant.0 (w.in-Ok.ensures {u = tt}).bytes in
          let remaining : c.match-write.rest.now ≡ drop w.in-Ok.count rest = ap (λ r. r.now) w.rest-is ∙ take_rest rest w.in-Ok.count in
          (subst (Wrote held holds bytes) (sym remaining) more, c.loop.invariant.1, c.loop.invariant.2)
          )
      | in-Err w ↦ (
          let kept = wrote_kept held mid holds bytes rest c.loop.invariant.0 (w.in-Err.ensures {u = tt}).bytes in
          (subst (Wrote held holds bytes) (sym (ap (λ r. r.now) w.rest-is)) kept, c.loop.invariant.1, c.loop.invariant.2)
          )
    ]
