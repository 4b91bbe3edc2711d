use Rattle.vp_server_tests.proofs.tests.desks.refusals.Given as goal

abbrev pub ghosts-refusals_of-L-NamesOpening : goal.ghosts-refusals_of-L-NamesOpening
ghosts-refusals_of-L-NamesOpening a = record { opening = a.world.opening; history = a.history.name }

abbrev pub ghosts-refusals_of-L-Ledger : goal.ghosts-refusals_of-L-Ledger
ghosts-refusals_of-L-Ledger a = record { name = a.blank.name; parts = a.blank.parts }
