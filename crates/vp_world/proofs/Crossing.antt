-- A world may be sent to another thread: of a type that holds a `Snapshot` Rattle has no law.
use denote.Param.Send.{IsSend, enum_send, sendable}
use denote.Enum.Declared.{shape}
use Rattle.std.proofs.Crossing.{crosses}
use Rattle.vp_expr.proofs.change.Change.TheSendSync as change
use Rattle.vp_history.proofs.history.History.TheSendSync as history
use Rattle.vp_race.proofs.Crossing.{book_send, booked_send, booked_sync, recording_send}
use Rattle.vp_vpi.proofs.session.Session.TheSendSync as session
use Rattle.vp_answer.proofs.reply.Reply.TheSendSync as reply
use Rattle.vp_answer.proofs.request.EndOrder.TheSendSync as end
use Rattle.vp_answer.proofs.request.GrantChange.TheSendSync as grant
use Rattle.vp_answer.proofs.request.HaltOrder.TheSendSync as halt
use Rattle.vp_world.proofs.entry.Asked.TheSendSync as asked
use Rattle.vp_world.proofs.entry.Login.TheSendSync as login
use Rattle.vp_world.specs.contracts.entry.Entry as Entry
use Rattle.vp_world.specs.contracts.entry.LoggedEvent as LoggedEvent
use Rattle.vp_world.specs.contracts.world.World as World

-- an entry of a log may be sent
happening_send : IsSend (LoggedEvent.the_field).row
happening_send =
    enum_send (shape (LoggedEvent.the_type)) (
      (search (login.the_send, login.the_sync, sendable, crosses) depth 60 fits 5000, (search sendable, tt)),
      (
        (search (asked.the_send, asked.the_sync, sendable, crosses) depth 60 fits 5000, (reply.the_field_send, tt)),
        (
          (search (asked.the_send, asked.the_sync, sendable, crosses) depth 60 fits 5000, (change.the_field_send, tt)),
          (
            (search sendable, tt),
            (
              (search (grant.the_send, grant.the_sync, sendable, crosses) depth 60 fits 5000, tt),
              (
                (search (end.the_send, end.the_sync, sendable, crosses) depth 60 fits 5000, tt),
                (
                  (search (halt.the_send, halt.the_sync, sendable, crosses) depth 60 fits 5000, tt),
                  (
                    (search sendable, tt),
                    (
                      (search sendable, (change.the_field_send, tt)),
                      (
                        tt,
                        (
                          (search sendable, tt),
                          (
                            (search (booked_send, booked_sync, sendable, crosses) depth 60 fits 5000, tt),
                            tt,
                          ),
                        ),
                      ),
                    ),
                  ),
                ),
              ),
            ),
          ),
        ),
      ),
    )

entry_send : IsSend Entry.the_row
entry_send = search (happening_send, sendable, crosses) depth 60 fits 5000

-- and so may a world
pub world_send : IsSend World.the_row
world_send = search (recording_send, book_send, session.the_send, history.the_send, entry_send, sendable, crosses) depth 60 fits 5000
