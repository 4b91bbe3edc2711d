use Rattle.std.proofs.Common.{◌≡◌, ◌&&◌, ℕ, false, length, nat_lt}
use Rattle.std.specs.Prelude.{is_some, slice_get}
use Rattle.std.specs.Option.{option_map_or}
use Rattle.vp_pragma.specs.declared.rights.Right.TheVariants as right
use Rattle.vp_replay.specs.Objects.{is_unwatchable}
use Rattle.vp_replay.specs.Seen.{denied_seen}
use Rattle.vp_replay.proofs.watching.watch_rights.Given as goal

-- the objects so far have theirs
abbrev pub invariant-loop-number : goal.invariant-loop-number
invariant-loop-number l = record {
  many : length l.rights.items ≡ l.number;
  each : (o : ℕ) → option_map_or is_unwatchable (slice_get l.rights.items o) false ≡ (nat_lt o l.number && is_some (denied_seen l.view right.Watch o));
}
