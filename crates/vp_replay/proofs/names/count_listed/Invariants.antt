use Rattle.std.proofs.Common.{◌≡◌, ◌≤◌, filter, length}
use Rattle.vp_vpi.specs.Calls.{is_of}
use Rattle.vp_replay.specs.Seen.{kind_seen}
use Rattle.vp_replay.proofs.Numbers.{listed_below}
use Rattle.vp_replay.proofs.names.count_listed.Given as goal

-- how many of the numbers so far
abbrev pub invariant-loop-number : goal.invariant-loop-number
invariant-loop-number l = record {
  counted : l.count ≡ length (filter (λ o. is_of l.wanted (kind_seen l.view o)) (listed_below l.view l.scope l.number));
  few : l.count ≤ l.number;
}
