use Rattle.std.proofs.Common.{◌≡◌, ◌&&◌, true, length}
use Rattle.std.specs.Str.{bytes_eq}
use Rattle.vp_policy.proofs.policy.same_bytes.Given as goal

-- what is left decides, where nothing differed so far; and as much is left of both
abbrev pub invariant-loop-x : goal.invariant-loop-x
invariant-loop-x l = record {
  left : (l.same && bytes_eq l.x-iterator.a.rest.now l.x-iterator.b.rest.now) ≡ bytes_eq l.a l.b;
  even : l.same ≡ true → length l.x-iterator.a.rest.now ≡ length l.x-iterator.b.rest.now;
}
