use Rattle.std.proofs.Common.{◌≡◌, ◌++◌, ◌≤◌, drop, length, take}
use Rattle.vp_audit.specs.Projections.{replies_of}
use Rattle.vp_audit.proofs.audit.compared.Given as goal

-- so many replies were the same, and the others to his events are those of the entries that remain
abbrev pub invariant-loop-index : goal.invariant-loop-index
invariant-loop-index l = record {
  told : replies_of l.user.0 l.log.entries ≡ take l.number l.replayed ++ replies_of l.user.0 (drop l.index l.log.entries);
  within : l.number ≤ length l.replayed;
  following : l.number ≤ l.index;
}
