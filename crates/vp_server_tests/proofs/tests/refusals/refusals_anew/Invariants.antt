use Rattle.vp_server_tests.proofs.tests.refusals.refusals_anew.Given as goal

abbrev pub ghosts-refusals_of-L-NamesOpening : goal.ghosts-refusals_of-L-NamesOpening
ghosts-refusals_of-L-NamesOpening g a = record { opening = a.world.opening; history = a.history.name }

abbrev pub ghosts-refusals_of-L-Ledger : goal.ghosts-refusals_of-L-Ledger
ghosts-refusals_of-L-Ledger g a = record { name = a.blank.name; parts = a.blank.parts }
