use Rattle.std.proofs.Common.{◌∙◌, arith}
use Rattle.vp_elab.proofs.Designed.{count_is, few_objects}
use Rattle.vp_elab.proofs.design.Design.count.Goals as goal

pub overflow_cast-result : goal.overflow_cast-result
overflow_cast-result c =
    let s = c.self.inside in
    let few = few_objects s.source s.envelopes s.tables s.scopes s.objects c.self.invariant c.args.self.now c.self.view_is in
    let long = c.len.ensures in
    omega arith

pub returns : goal.returns
returns c =
    let s = c.self.inside in
    c.len.ensures ∙ count_is s.source s.envelopes s.tables s.scopes s.objects c.self.invariant c.args.self.now c.self.view_is
