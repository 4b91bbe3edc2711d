-- What threads share may be shared: each of its fields in turn, since a search through all of them looks into the hub's too often.
use denote.RattleType.{RattleType}
use denote.Param.Send.{IsSync, sendable, struct_sync}
use denote.Struct.Declared.{shape}
use Rattle.std.proofs.Crossing.{crosses}
use Rattle.std.specs.declared.sync.ledger.Ledger as ledger
use Rattle.vp_hub.proofs.Crossing.{hub_sync}
use Rattle.vp_hub.specs.declared.opens.NamesOpening as opens
use Rattle.vp_server_tests.specs.contracts.tests.searches.HeldSearch as HeldSearch
use Rattle.vp_server_tests.specs.contracts.tests.stage.Stage as Stage

module _ (L : RattleType) (o : opens.Ghosts L.Denot) (l : ledger.Ghosts L.Denot) where
  -- a hub with a barrier may be shared; `search` applies this, as it has a premise, and does not take it apart
  pub stage_sync : Unit {0} → IsSync (Stage.the_row L o l)
  stage_sync u =
      let fields = struct_sync (shape (Stage.the_type L o l)) (
        search (sendable, crosses) depth 60 fits 5000,
        (hub_sync L o l, (search (sendable, crosses) depth 60 fits 5000, tt)),
      )
      in
      record { shared = λ stage. fields.shared ((Stage.the_type L o l).to stage) }

  -- a hub with a gate may be shared where the gate's clock may
  pub search_sync : (R : RattleType) → IsSync R → IsSync (HeldSearch.the_row L R o l)
  search_sync R s =
      let fields = struct_sync (shape (HeldSearch.the_type L R o l)) (
        hub_sync L o l,
        (search (s, sendable, crosses) depth 60 fits 5000, tt),
      )
      in
      record { shared = λ held. fields.shared ((HeldSearch.the_type L R o l).to held) }
