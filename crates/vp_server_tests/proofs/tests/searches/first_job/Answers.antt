use denote.Param.{param}
use denote.Param.Send.{sendable}
use Rattle.std.proofs.Crossing.{crosses}
use Rattle.vp_server_tests.proofs.tests.Crossing.{search_sync}
use Rattle.vp_server_tests.proofs.tests.searches.first_job.Goals as goal

pub join-worked-requires-send-F : goal.join-worked-requires-send-F
join-worked-requires-send-F g c κs within = let shared = search_sync (param 0 g.row.L) g.L.NamesOpening g.L.Ledger in search (shared, sendable, crosses) depth 60 fits 5000
