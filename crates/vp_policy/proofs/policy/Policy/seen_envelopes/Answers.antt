use Rattle.std.proofs.Common.{◌∙◌, ◌∷◌, [], ap, map, arith}
use Rattle.std.proofs.lemmas.List.{map-append}
use Rattle.vp_policy.specs.SeenObjects.{envelope_shown}
use Rattle.vp_policy.specs.Users.{Member, member_at}
use Rattle.vp_policy.proofs.Views.{envelopes_more}
use Rattle.vp_policy.proofs.policy.Policy.seen_envelopes.Goals as goal

pub loop-before-preserved : goal.loop-before-preserved
loop-before-preserved c =
    let user : Member = member_at c.args.self.now.members c.args.user.0 in
    let seen = c.loop-before.envelopes.items in
    let author = c.in_ok-shared_author.field-0 in
    let granted = c.entry_of.result in
    ap (map envelope_shown) (c.in_ok-push.ensures {u = tt}).items ∙ map-append envelope_shown seen (record { author = author; granted = granted } ∷ [])
    ∙ envelopes_more user c.args.design.now.tree.authors c.loop-before.before (map envelope_shown seen) author granted (omega arith) c.loop-before.invariant
    (c.in_ok-shared_author.ensures {u = tt}) c.entry_of.ensures
