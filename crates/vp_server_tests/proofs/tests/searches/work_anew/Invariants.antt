use Rattle.vp_server_tests.proofs.tests.searches.work_anew.Given as goal

abbrev pub ghosts-work_of-L-NamesOpening : goal.ghosts-work_of-L-NamesOpening
ghosts-work_of-L-NamesOpening g a = record { opening = a.world.opening; history = a.history.name }

abbrev pub ghosts-work_of-L-Ledger : goal.ghosts-work_of-L-Ledger
ghosts-work_of-L-Ledger g a = record { name = a.blank.name; parts = a.blank.parts }
