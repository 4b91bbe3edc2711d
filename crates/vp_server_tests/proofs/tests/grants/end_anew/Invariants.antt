use Rattle.vp_server_tests.proofs.tests.grants.end_anew.Given as goal

abbrev pub ghosts-end_anew_of-L-NamesOpening : goal.ghosts-end_anew_of-L-NamesOpening
ghosts-end_anew_of-L-NamesOpening g a = record { opening = a.world.opening; history = a.history.name }

abbrev pub ghosts-end_anew_of-L-Ledger : goal.ghosts-end_anew_of-L-Ledger
ghosts-end_anew_of-L-Ledger g a = record { name = a.blank.name; parts = a.blank.parts }
