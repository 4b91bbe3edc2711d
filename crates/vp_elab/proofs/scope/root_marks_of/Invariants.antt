use Rattle.std.proofs.Common.{◌≡◌, ◌<◌, ◌==◌, ℕ, false, map, take, slice_index_or, length}
use Rattle.std.specs.List.{list_any}
use Rattle.vp_pragma.specs.Envelopes.{envelope_at}
use Rattle.vp_elab.proofs.scope.root_marks_of.Given as goal

abbrev pub invariant-loop-module : goal.invariant-loop-module
invariant-loop-module l = record {
  long : length l.marks ≡ 256;
  marked : (e : ℕ) → e < 256 → slice_index_or l.marks e false ≡ list_any (λ place. envelope_at l.envelopes.envelopes place == e) (map (λ m. m.name) (take l.module-index l.modules));
}
