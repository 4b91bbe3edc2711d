use Rattle.std.proofs.Common.{◌∙◌, Some, ap}
use Rattle.vp_world.specs.Marks.{all_marked}
use Rattle.vp_world.proofs.Marks.{notified_marked, sessions_marked}
use Rattle.vp_world.proofs.watching.notify_watchers.Goals as goal

pub returns-clause-marked : goal.returns-clause-marked
returns-clause-marked c =
    let watched = c.args.watched.now.items in
    let sessions = c.args.sessions.now in
    let change = c.args.change in
    let notified = c.notify_sessions.new.sessions in
    ap (λ ws. all_marked ws notified) c.set_mark.ensures
    ∙ sessions_marked watched change.object.0 c.is_watched-mark.result notified
    (ap (all_marked watched) c.notify_sessions.ensures ∙ notified_marked watched (Some change) c.args.time sessions c.requires)
    (λ any. c.is_watched-mark.ensures ∙ any)
