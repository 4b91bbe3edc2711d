use Rattle.std.proofs.Common.{string_bytes, take}
use Rattle.vp_replay.proofs.Writing.{IsWritten}
use Rattle.vp_replay.proofs.lines.push_objects.Given as goal

abbrev pub invariant-loop-object : goal.invariant-loop-object
invariant-loop-object l =
    IsWritten (take l.object-index l.objects) (string_bytes l.initial.text) (string_bytes l.text) l.steps.items l.object-index
