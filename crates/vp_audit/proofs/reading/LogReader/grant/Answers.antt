use Rattle.std.proofs.Common.{◌≡◌, ◌∙◌, ◌==◌, ◌≤◌, ℕ, Some, arith, true, ap, length, sym}
use Rattle.vp_elab.specs.Tree.{Tree}
use Rattle.vp_policy.specs.Users.{member_at, user_of}
use Rattle.vp_audit.specs.Projections.{read_marks}
use Rattle.vp_audit.specs.Readings.{LogReader}
use Rattle.vp_audit.proofs.Following.{envelope_within}
use Rattle.vp_audit.proofs.Granting.{grants_learned, regranted_reading}
use Rattle.vp_audit.proofs.reading.LogReader.grant.Goals as goal

pub returns-clause-grant : goal.returns-clause-grant
returns-clause-grant c opening s known full reads accepted =
    let r : LogReader = c.args.self.now in
    let v : ℕ = c.in-Some.grantee.0 in
    let change = c.args.change.now in
    let found : user_of s.policy.members change.user ≡ Some v =
    sym (c.in-Some.ensures {u = tt} ∙ ap (user_of c.self.inside.policy.members) c.as_str.ensures ∙ ap (λ (x : LogReader). user_of x.policy.members change.user) (c.self.view_is ∙ reads)) in
    let fits : s.policy.tree ≡ r.design.tree =
    ap (λ (x : LogReader). x.policy.tree) (sym reads) ∙ ap (λ (x : LogReader). x.policy.tree) (sym c.self.view_is) ∙ c.self.invariant.0 ∙ ap (λ (x : LogReader). x.design.tree) c.self.view_is in
    let within : change.envelope ≤ length r.design.tree.authors =
    (let short = envelope_within opening full s change v found accepted in
    let authors = ap (λ (t : Tree). length t.authors) fits in
    grind (arith, short, authors)) in
    let regrants : c.regrant.new.self ≡ regranted_reading r v change = (c.in_ok-regrant.ensures {u = tt}).grant within in
    let own_event : (v == r.user) ≡ true =
    (let same : v ≡ r.user = c.if-grantee-self.false ∙ ap (λ (x : LogReader). x.user) (c.self-2.view_is ∙ regrants) in
    grind (arith, same)) in
    let knew : c.deref.result.now ≡ r.known =
    c.deref.ensures.value ∙ (c.in_ok-before.ensures {u = tt}).before ∙ ap (λ (x : LogReader). x.known) regrants in
    let user : c.learn.new.self.user ≡ r.user = ap (λ (x : LogReader). x.user) (c.in_ok-before.ensures {u = tt}).now ∙ ap (λ (x : LogReader). x.user) regrants in
    let marks : c.deref-2.result.now ≡ read_marks s.run.design.tree (member_at s.policy.members c.learn.new.self.user) c.deref.result.now =
    c.deref-2.ensures.value ∙ c.in_ok-was_read.ensures {u = tt} ∙ ap (λ (x : LogReader). read_marks x.design.tree (member_at x.policy.members x.user) r.known) reads
    ∙ ap (read_marks s.run.design.tree (member_at s.policy.members r.user)) (sym knew)
    ∙ ap (λ (w : ℕ). read_marks s.run.design.tree (member_at s.policy.members w) c.deref.result.now) (sym user) in
    grants_learned opening r.user s known change v found own_event c.regrant.new.self c.learn.new.self c.deref.result.now c.in_ok-new.field-0
    (regrants ∙ ap (λ (x : LogReader). regranted_reading x v change) reads)
    (c.in_ok-before.ensures {u = tt}).now
    (c.deref.ensures.value ∙ (c.in_ok-before.ensures {u = tt}).before)
    (λ t its. c.in_ok-new.ensures {u = tt} ∙ (c.in_ok-granted.ensures {u = tt}).granted s t its marks)
