-- What threads share of a hub may cross threads.
use denote.RattleType.{RattleType}
use denote.Param.Send.{IsSend, IsSync, sendable}
use Rattle.std.proofs.Crossing.{crosses}
use Rattle.std.proofs.sync.ledger.Book.TheSendSync as calls
use Rattle.std.proofs.sync.ledger.Share.TheSendSync as share
use Rattle.std.specs.declared.sync.ledger.Ledger as ledger
use Rattle.vp_history.proofs.history.History.TheSendSync as history
use Rattle.vp_world.proofs.Crossing.{world_send}
use Rattle.vp_hub.specs.contracts.desk.Desk as Desk
use Rattle.vp_hub.specs.contracts.hub.Hub as Hub
use Rattle.vp_hub.specs.declared.opens.NamesOpening as opens

module _ (L : RattleType) (o : opens.Ghosts L.Denot) (l : ledger.Ghosts L.Denot) where
  -- a desk may be sent
  pub desk_send : IsSend (Desk.the_row L o l)
  desk_send = search (world_send, history.the_send, calls.the_send, share.the_send, sendable, crosses) depth 60 fits 5000

  -- a hub may be shared
  pub hub_sync : IsSync (Hub.the_field L o l).row
  hub_sync = search (desk_send, sendable, crosses) depth 60 fits 5000
