use Rattle.std.proofs.Common.{◌≡◌, ◌<◌, ℕ, false, length, get_or, take}
use Rattle.std.specs.Prelude.{not}
use Rattle.std.specs.List.{list_any}
use Rattle.vp_modules.specs.Definitions.{is_number}
use Rattle.vp_modules.proofs.definitions.tops_of.Given as goal

abbrev pub invariant-loop-definition : goal.invariant-loop-definition
invariant-loop-definition l = record {
  marks : length l.tops.items ≡ length l.source.modules;
  marked : (k : ℕ) → k < length l.source.modules → get_or l.tops.items k false ≡ not (list_any (is_number k) (take l.definition-index l.definitions));
}
