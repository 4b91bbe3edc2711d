use Rattle.std.proofs.Common.{◌≡◌, ◌∙◌, [], List, ap, arith, length, subst, sum_by, sym}
use Rattle.vp_answer.specs.declared.request.SessionId.{SessionId}
use Rattle.vp_hub.specs.Calls.{Passed, session_entries}
use Rattle.vp_hub.specs.Closing.{HaveAll}
use Rattle.vp_hub.specs.Desks.{Desked}
use Rattle.vp_hub.proofs.Whole.{have_all}
use Rattle.vp_hub.proofs.desk.Desk.settle.Goals as goal

pub returns-clause-passes : goal.returns-clause-passes
returns-clause-passes g c =
    let desk = c.self.invariant.desk in
    let old = c.self.inside in
    let none : old.passes_out.items ≡ [] = ap (λ (d : Desked). d.passes_out) c.self.view_is ∙ c.requires in
    let long = ap (λ (ids : List SessionId). length ids) none in
    let whole : old.rest.parts ≡ g.L.Ledger.parts = omega (arith, desk.parts, long) in
    let amount : old.rest.amount ≡ old.calls.total = c.audit.ensures.whole whole in
    let counted : sum_by (λ (p : Passed). length p.indexes) old.handed_back.entries ≡ session_entries old.world.log = sym desk.sum ∙ amount ∙ desk.counted in
    subst (λ (d : Desked). HaveAll d.world.log d.handed_back) c.self.view_is
    (have_all old.world.log old.passes_out.items old.handed_back.entries c.self.invariant.passes counted)
