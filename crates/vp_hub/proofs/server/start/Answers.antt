use denote.Param.{param}
use denote.Param.Send.{sendable}
use Rattle.std.proofs.Crossing.{crosses}
use Rattle.vp_hub.proofs.ServerCrossing.{service_sync}
use Rattle.vp_hub.proofs.server.start.Goals as goal

pub spawn-requires-send-F : goal.spawn-requires-send-F
spawn-requires-send-F g c κs within = let shared = service_sync (param 1 g.row.L) g.L.NamesOpening g.L.Ledger in search (shared, sendable, crosses) depth 60 fits 5000

pub spawn-requires-in-loop-send-F : goal.spawn-requires-in-loop-send-F
spawn-requires-in-loop-send-F g l κs within = let shared = service_sync (param 1 g.row.L) g.L.NamesOpening g.L.Ledger in search (shared, sendable, crosses) depth 60 fits 5000
