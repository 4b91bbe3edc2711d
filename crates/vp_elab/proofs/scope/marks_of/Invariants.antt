use Rattle.std.proofs.Common.{◌≡◌, ◌<◌, ◌==◌, ℕ, false, map, take, slice_index_or, length}
use Rattle.std.specs.List.{list_any}
use Rattle.vp_pragma.specs.Envelopes.{envelope_at}
use Rattle.vp_modules.specs.Items.{item_place}
use Rattle.vp_elab.proofs.scope.marks_of.Given as goal

abbrev pub invariant-loop-item : goal.invariant-loop-item
invariant-loop-item l = record {
  long : length l.marks ≡ 256;
  marked : (e : ℕ) → e < 256 → slice_index_or l.marks e false ≡ list_any (λ place. envelope_at l.envelopes.envelopes place == e) (map item_place (take l.item-index l.items));
}
