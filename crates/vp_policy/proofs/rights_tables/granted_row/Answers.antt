use Rattle.std.proofs.Common.{◌∙◌, arith}
use Rattle.std.proofs.lemmas.List.{length-replicate, length-set}
use Rattle.vp_policy.specs.Members.{member_of}
use Rattle.vp_policy.proofs.RightsRows.{granted_more}
use Rattle.vp_policy.proofs.rights_tables.granted_row.Goals as goal

pub loop-envelope-init : goal.loop-envelope-init
loop-envelope-init c = record { long = length-replicate 256 c.none-row.result; granted = λ name e d l. absurd (omega arith) }

pub loop-envelope-preserved : goal.loop-envelope-preserved
loop-envelope-preserved c = record {
  long = length-set c.loop-envelope.row c.loop-envelope.envelope c.granted_in.result ∙ c.loop-envelope.invariant.long;
  granted =
      λ name. granted_more (member_of (name, c.args.user.now)) c.loop-envelope.row c.loop-envelope.envelope c.granted_in.result
      (let long = c.loop-envelope.invariant.long in omega arith) (c.loop-envelope.invariant.granted name) (c.granted_in.ensures name);
}
