use Rattle.std.proofs.Common.{◌∙◌, ap, sym}
use Rattle.vp_policy.specs.Users.{member_at}
use Rattle.vp_policy.specs.View.{View, view_of}
use Rattle.vp_replay.specs.Parts.{replies_from}
use Rattle.vp_replay.specs.declared.item.Projection.{Projection}
use Rattle.vp_replay.specs.Parts.{first_part}
use Rattle.vp_audit.specs.laws.Following as following
use Rattle.vp_audit.specs.laws.Logs.{replies_alike, replies_are}
use Rattle.vp_audit.proofs.Promises.{goes_all, if_ok, out_of_memory}
use Rattle.vp_audit.proofs.promise.replay.Goals as goal

pub returns-clause-promise : goal.returns-clause-promise
returns-clause-promise c opening u log his =
    if_ok c.replay_projection.result _ _ (λ told is.
    is ∙ ap (λ (v : View). replies_from (first_part v c.args.projection.now.values) c.args.projection.now.items) his.sees
    ∙ ap (λ (q : Projection). replies_from (first_part (view_of opening.design (member_at opening.policy.members u)) q.values) q.items) his.goes
    ∙ replies_are opening his.right u log his.legal) c.replay_projection.ensures.replies

pub returns-clause-alike : goal.returns-clause-alike
returns-clause-alike c one other u v first second his others =
    replies_alike one other his.right others.right u v first second his.legal others.legal (sym his.sees ∙ others.sees) (sym his.goes ∙ others.goes)

pub returns-clause-event_by_event : goal.returns-clause-event_by_event
returns-clause-event_by_event c opening right u log e legal = following.event_by_event opening right u log e legal

pub returns-clause-answered : goal.returns-clause-answered
returns-clause-answered c opening u log his =
    out_of_memory c.replay_projection.result _ (goes_all c.args.view.now c.args.projection.now opening u log his) c.replay_projection.ensures.taken.refused
