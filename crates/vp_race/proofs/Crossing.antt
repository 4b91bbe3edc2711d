-- What holds a segment, or what a book keeps of a finding, may cross threads: of a type that holds a `Snapshot` Rattle has no law.
use denote.Param.Send.{IsSend, IsSync, enum_send, sendable}
use denote.Enum.Declared.{shape}
use Rattle.std.proofs.Crossing.{crosses}
use Rattle.circular_buffer.proofs.heap.HeapCircularBuffer.TheSendSync as buffer
use Rattle.vp_sim.proofs.sim.Sim.TheSendSync as sim
use Rattle.vp_race.proofs.first_choice.FirstChoice.TheSendSync as first_choice
use Rattle.vp_race.proofs.follow.Order.TheSendSync as order
use Rattle.vp_race.specs.contracts.book.Book as Book
use Rattle.vp_race.specs.contracts.booked_finding.BookedFinding as Booked
use Rattle.vp_race.specs.contracts.recording.Recording as Recording
use Rattle.vp_race.specs.contracts.segment.Segment as Segment
use Rattle.vp_race.specs.contracts.start.Seen as Seen

-- a segment may be sent
seen_send : IsSend (Seen.the_field).row
seen_send =
    enum_send (shape (Seen.the_type)) (
      (search (sendable, crosses) depth 60 fits 5000, tt),
      (
        (search (sendable, crosses) depth 60 fits 5000, tt),
        tt,
      ),
    )

segment_send : IsSend Segment.the_row
segment_send = search (seen_send, first_choice.the_send, sendable, crosses) depth 60 fits 5000

-- a finding in a book may be sent and shared
pub booked_send : IsSend Booked.the_row
booked_send = search (order.the_send, order.the_sync, sendable, crosses) depth 60 fits 5000

pub booked_sync : IsSync Booked.the_row
booked_sync = search (order.the_send, order.the_sync, sendable, crosses) depth 60 fits 5000

-- a recording and a book may be sent
pub recording_send : IsSend Recording.the_row
recording_send = search (sim.the_send, seen_send, segment_send, first_choice.the_send, buffer.the_send, sendable, crosses) depth 60 fits 5000

pub book_send : IsSend Book.the_row
book_send = search (booked_send, booked_sync, sendable, crosses) depth 60 fits 5000
