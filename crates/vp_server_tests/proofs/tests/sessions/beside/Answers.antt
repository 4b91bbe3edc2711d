use denote.Param.{param}
use denote.Param.Send.{sendable}
use Rattle.std.proofs.Crossing.{crosses}
use Rattle.vp_hub.proofs.pass.Pass.TheSendSync as pass
use Rattle.vp_server_tests.proofs.tests.Crossing.{stage_sync}
use Rattle.vp_server_tests.proofs.tests.sessions.beside.Goals as goal

pub join-first-requires-send-F : goal.join-first-requires-send-F
join-first-requires-send-F g c κs within = let shared = stage_sync (param 0 g.row.L) g.L.NamesOpening g.L.Ledger in search (shared, pass.the_send, sendable, crosses) depth 60 fits 5000
