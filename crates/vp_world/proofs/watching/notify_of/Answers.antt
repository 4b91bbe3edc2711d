use Rattle.std.proofs.Common.{◌≡◌, false, rules, sym}
use Rattle.vp_world.specs.Marks.{may_be_watched}
use Rattle.vp_world.proofs.Marks.{quiet_notified}
use Rattle.vp_world.proofs.watching.notify_of.Goals as goal

pub returns-else-may_be_watched-clause-notified : goal.returns-else-may_be_watched-clause-notified
returns-else-may_be_watched-clause-notified c =
    let watched = c.args.watched.now.items in
    let change = c.args.change.now in
    let quiet : may_be_watched watched change.object.0 ≡ false = search rules in
    sym (quiet_notified watched change c.args.time c.args.sessions.now quiet c.requires)
