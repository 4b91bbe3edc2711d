use Rattle.std.proofs.Common.{◌∙◌, ◌+◌, false, ap}
use Rattle.vp_pragma.specs.Rights.{either, set_of}
use Rattle.vp_pragma.specs.declared.rights.Rights.{Rights}
use Rattle.vp_policy.specs.declared.grant.Grant.{Grant}
use Rattle.vp_policy.proofs.Grants.{granted_elsewhere, granted_here, rest_of}
use Rattle.vp_policy.proofs.grant.granted_by.Goals.{then-grant-envelope, else-grant-envelope}
use Rattle.vp_policy.proofs.grant.granted_by.Goals as goal

pub loop-grant-preserved : goal.loop-grant-preserved
loop-grant-preserved c =
    let gs = c.args.grants.now in
    let i = c.loop-grant.grant-index in
    let before = set_of c.loop-grant.rights in
    let d : Grant = record { envelope = 0; access = record { 0 = 0 }; names_author = false } in
    let rest = rest_of gs (i + 1) c.args.envelope in
    elim c.if-grant-envelope.branch [
      | then-grant-envelope w ↦
          granted_here before (set_of c.if-grant-envelope.rights) gs i d c.args.envelope c.loop-grant-test.true w.if-grant-envelope.true
          (ap (λ (r : Rights). set_of r) w.rights-is ∙ w.either-rights.ensures)
          ∙ c.loop-grant.invariant
      | else-grant-envelope w ↦
          ap (λ (r : Rights). either (set_of r) rest) w.rights-is
          ∙ granted_elsewhere before gs i d c.args.envelope c.loop-grant-test.true w.if-grant-envelope.false
          ∙ c.loop-grant.invariant
    ]
