use Rattle.std.proofs.Common.{◌∙◌, ◌==◌, inl, inr}
use Rattle.std.specs.Str.{bytes_eq}
use Rattle.vp_policy.proofs.Tokens.{even_next, ended, one_more}
use Rattle.vp_policy.proofs.policy.same_bytes.Goals as goal

pub loop-x-preserved : goal.loop-x-preserved
loop-x-preserved c =
    let left = c.loop-x.x-iterator in
    let step = (c.in-Some.ensures {u = tt}).steps in
    record {
      left =
          one_more c.loop-x.same c.in-Some.x.now c.in-Some.y.now left.a.rest.now c.next.new.self.a.rest.now left.b.rest.now c.next.new.self.b.rest.now step.0 step.1
          ∙ c.loop-x.invariant.left;
      even =
          even_next c.loop-x.same (c.in-Some.x.now == c.in-Some.y.now) c.in-Some.x.now c.in-Some.y.now left.a.rest.now c.next.new.self.a.rest.now left.b.rest.now c.next.new.self.b.rest.now step.0 step.1
          c.loop-x.invariant.even;
    }

pub returns : goal.returns
returns c =
    let left = c.loop-x.x-iterator in
    ended c.loop-x.same (bytes_eq c.args.a.now c.args.b.now) left.a.rest.now left.b.rest.now c.loop-x.invariant.left c.loop-x.invariant.even
    (elim (c.in-None.ensures {u = tt}).steps [ inl h ↦ inl h.1.0 | inr h ↦ inr h.1.0 ])
