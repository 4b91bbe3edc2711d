-- What the threads of a server share may cross threads.
use denote.RattleType.{RattleType}
use denote.Ref.{NamedLft}
use denote.Param.Send.{IsSync, sendable, struct_sync}
use denote.Struct.Declared.{shape}
use Rattle.std.proofs.Crossing.{crosses}
use Rattle.std.specs.declared.sync.ledger.Ledger as ledger
use Rattle.vp_hub.proofs.Crossing.{hub_sync}
use Rattle.vp_hub.specs.declared.opens.NamesOpening as opens
use Rattle.vp_hub.specs.contracts.service.Service as Service
use Rattle.vp_hub.proofs.settings.Settings.TheSendSync as settings

module _ (L : RattleType) (o : opens.Ghosts L.Denot) (l : ledger.Ghosts L.Denot) (a : NamedLft) (G : RattleType) where
  -- what is shared may be shared where the gate may: each of its fields in turn, since a search through all of them looks into the hub's too often
  pub service_sync : IsSync G → IsSync (Service.the_row a L G o l)
  service_sync s =
      let fields = struct_sync (shape (Service.the_type a L G o l)) (
        search (sendable, crosses) depth 60 fits 5000,
        (
          settings.the_field_sync,
          (
            hub_sync L o l,
            (
              search (s, sendable, crosses) depth 60 fits 5000,
              (search (sendable, crosses) depth 60 fits 5000, (search (sendable, crosses) depth 60 fits 5000, (search (sendable, crosses) depth 60 fits 5000, (search (sendable, crosses) depth 60 fits 5000, (search (sendable, crosses) depth 60 fits 5000, (search (sendable, crosses) depth 60 fits 5000, tt)))))),
            ),
          ),
        ),
      )
      in
      record { shared = λ service. fields.shared ((Service.the_type a L G o l).to service) }
