use denote.Param.{param}
use denote.Param.Send.{sendable}
use Rattle.std.proofs.Crossing.{crosses}
use Rattle.std.proofs.net.TcpStream.TheSendSync as stream
use Rattle.vp_hub.proofs.ServerCrossing.{service_sync}
use Rattle.vp_hub.proofs.accept.accept.Goals as goal

pub spawn-requires-send-F : goal.spawn-requires-send-F
spawn-requires-send-F g c κs within = let shared = service_sync (param 1 g.row.L) g.L.NamesOpening g.L.Ledger in search (shared, stream.the_field_send, sendable, crosses) depth 60 fits 5000
