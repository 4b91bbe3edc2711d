use Rattle.std.proofs.Common.{◌≡◌, length, drop}
use Rattle.vp_modules.specs.Definitions.{with_numbers}
use Rattle.vp_modules.proofs.reachable.Reached.add_all.Given as goal

abbrev pub invariant-loop-definition : goal.invariant-loop-definition
invariant-loop-definition l = record {
  order : with_numbers l.self.order.items (drop l.definition-index l.definitions) ≡ with_numbers l.fn.self.order.items l.definitions;
  count : length l.self.seen.items ≡ length l.fn.self.seen.items;
}
