use Rattle.std.proofs.Common.{◌∙◌, Some, filter, ap, sym}
use Rattle.std.specs.Prelude.{option_copied}
use Rattle.vp_elab.specs.Built.{Elaborated}
use Rattle.vp_elab.specs.Tree.{Tree}
use Rattle.vp_policy.specs.Users.{member_at}
use Rattle.vp_vpi.specs.Calls.{race_details, shown_at}
use Rattle.vp_world.specs.Races.{is_shown, race_seen}
use Rattle.vp_world.proofs.ShownRaces.{race_at}
use Rattle.vp_world.proofs.user_observer.UserObserverObserve.race.Goals as goal

pub returns-clause-race : goal.returns-clause-race
returns-clause-race c =
    let observation = c.args.self.now in
    let tree = observation.sim.now.design.tree in
    let u = member_at observation.policy.now.members observation.user.0 in
    let book = observation.book.now.races in
    let number = c.args.number in
    let f = c.in-Some.finding.now in
    let there = sym (ap (λ (t : Tree). shown_at (filter (is_shown t u) book) number) c.requires) ∙ sym c.finding_at.ensures ∙ ap option_copied c.in-Some.is in
    ap Some (c.numbered.ensures ∙ ap (race_details number) c.in_ok-race.ensures)
    ∙ ap (λ (d : Elaborated). Some (race_details number (race_seen d.tree u f))) c.design-design.ensures
    ∙ sym (race_at tree u book number f there)
