use Rattle.std.proofs.Common.{◌≡◌, length}
use Rattle.std.specs.Prelude.{IsUtf8}
use Rattle.vp_text.specs.Texts.{parts}
use Rattle.vp_vpi.specs.Observers.{Absent}
use Rattle.vp_replay.specs.Seen.{walk_seen}
use Rattle.vp_replay.proofs.names.look.Given as goal

-- what is left of the name is looked up in the scope that was reached
abbrev pub invariant-loop-number : goal.invariant-loop-number
invariant-loop-number l = record {
  text : IsUtf8 l.rest;
  left : walk_seen l.view Absent l.scope (parts 46 l.rest) ≡ walk_seen l.view Absent l.fn.scope (parts 46 l.name);
}

abbrev pub decreases-loop-number : goal.decreases-loop-number
decreases-loop-number l = length l.rest
