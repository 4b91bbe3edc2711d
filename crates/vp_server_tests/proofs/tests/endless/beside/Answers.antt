use denote.Param.{param}
use denote.Param.Send.{sendable}
use Rattle.std.proofs.Crossing.{crosses}
use Rattle.vp_server_tests.proofs.tests.Crossing.{stage_sync}
use Rattle.vp_server_tests.proofs.tests.endless.beside.Goals as goal

pub join-pass-requires-send-F : goal.join-pass-requires-send-F
join-pass-requires-send-F g c κs within = let shared = stage_sync (param 0 g.row.L) g.L.NamesOpening g.L.Ledger in search (shared, sendable, crosses) depth 60 fits 5000
