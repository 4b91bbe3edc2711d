use Rattle.std.proofs.Common.{◌≡◌, length, take}
use Rattle.vp_expr.specs.Origins.{AreNamed}
use Rattle.vp_expr.proofs.process.named_ports.Given as goal

-- they are the ports that the connections so far name
abbrev pub invariant-loop-index : goal.invariant-loop-index
invariant-loop-index l = record {
  each : length l.named.names ≡ length l.named.firsts.items;
  named : AreNamed l.source (take l.index l.connections) l.named.names l.named.firsts.items;
}
