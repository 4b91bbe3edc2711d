use Rattle.vp_hub.proofs.server.serve.Given as goal

abbrev pub ghosts-serve_world-L-NamesOpening : goal.ghosts-serve_world-L-NamesOpening
ghosts-serve_world-L-NamesOpening g a = record { opening = a.world.opening; history = a.history.name }

abbrev pub ghosts-serve_world-L-Ledger : goal.ghosts-serve_world-L-Ledger
ghosts-serve_world-L-Ledger g a = record { name = a.blank.name; parts = a.blank.parts }
