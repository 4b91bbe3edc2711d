use Rattle.std.proofs.Common.{◌∙◌, ap, option_copied, sym}
use Rattle.vp_world.specs.History.{noticed}
use Rattle.vp_world.proofs.Noticing.{noticed_none}
use Rattle.vp_world.proofs.watching.notify.Goals as goal

pub returns-in-None-clause-notified : goal.returns-in-None-clause-notified
returns-in-None-clause-notified c =
    let sessions = c.args.sessions.now in
    sym (ap (λ given. noticed (option_copied given) c.args.time sessions) c.in-None.is ∙ noticed_none c.args.time sessions)

pub returns-in-Some-clause-notified : goal.returns-in-Some-clause-notified
returns-in-Some-clause-notified c =
    c.notify_of.ensures.notified ∙ sym (ap (λ given. noticed (option_copied given) c.args.time c.args.sessions.now) c.in-Some.is)
