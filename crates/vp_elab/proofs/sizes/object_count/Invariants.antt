use Rattle.std.proofs.Common.{◌≡◌, ◌+◌, ◌≤◌, drop, filter}
use Rattle.vp_modules.specs.Items.{is_top}
use Rattle.vp_elab.specs.Sizes.{capped, many, object_count, total, whole_size}
use Rattle.vp_elab.proofs.sizes.object_count.Given as goal

-- what has been added up, with what is left
abbrev pub invariant-loop-number : goal.invariant-loop-number
invariant-loop-number l = record {
  few : l.total ≤ many;
  sum :
      capped (l.total + total (λ m. 1 + whole_size l.source m) (filter (is_top l.source) (drop l.number l.source.modules)))
      ≡ capped (object_count l.source);
}
