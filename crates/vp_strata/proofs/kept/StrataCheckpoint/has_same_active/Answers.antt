use Rattle.std.proofs.Common.{◌∙◌, ap, sym}
use Rattle.vp_strata.specs.Queues.{KeptQueue}
use Rattle.vp_strata.proofs.Assignments.{same_parts}
use Rattle.vp_strata.proofs.kept.StrataCheckpoint.has_same_active.Goals as goal

pub returns-then-not-are_same-clause-differs : goal.returns-then-not-are_same-clause-differs
returns-then-not-are_same-clause-differs c = λ same.
    let active = ap (λ (k : KeptQueue). k.queue.active) c.self.view_is ∙ same ∙ sym (ap (λ (k : KeptQueue). k.queue.active) c.other.view_is) in
    let parts = same_parts _ _ c.self.inside.assignments.items c.other.inside.assignments.items c.self.inside.active.items c.other.inside.active.items c.self.invariant c.other.invariant active in
    absurd (cc (c.are_same.ensures.differs (c.deref.ensures.value ∙ parts.0 ∙ sym c.deref-2.ensures.value)))

pub returns-clause-differs : goal.returns-clause-differs
returns-clause-differs c = λ same.
    let active = ap (λ (k : KeptQueue). k.queue.active) c.self.view_is ∙ same ∙ sym (ap (λ (k : KeptQueue). k.queue.active) c.other.view_is) in
    let parts = same_parts _ _ c.self.inside.assignments.items c.other.inside.assignments.items c.self.inside.active.items c.other.inside.active.items c.self.invariant c.other.invariant active in
    c.are_same-2.ensures.differs (c.deref-3.ensures.value ∙ parts.1 ∙ sym c.deref-4.ensures.value)
