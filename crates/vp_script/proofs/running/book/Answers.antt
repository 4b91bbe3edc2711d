use Rattle.vp_world.specs.declared.event.Event.TheVariants as event
use Rattle.vp_script.proofs.Turns.{booked}
use Rattle.vp_script.proofs.running.book.Goals as goal

pub returns-clause-booked : goal.returns-clause-booked
returns-clause-booked c =
    let by = c.in_ok-tried.ensures {u = tt} in
    booked c.in_ok-tried.field-0 c.args.world.now c.tried.new.world (event.Book c.args.finding) by.done by.refused
