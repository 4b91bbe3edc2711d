use Rattle.vp_server_tests.proofs.tests.handed_out.counts.Given as goal

abbrev pub ghosts-end_of-L-NamesOpening : goal.ghosts-end_of-L-NamesOpening
ghosts-end_of-L-NamesOpening g a = record { opening = a.world.opening; history = a.history.name }

abbrev pub ghosts-end_of-L-Ledger : goal.ghosts-end_of-L-Ledger
ghosts-end_of-L-Ledger g a = record { name = a.blank.name; parts = a.blank.parts }
