use Rattle.std.proofs.Common.{◌≡◌, ◌+◌, ◌≤◌, ◌++◌, suc, length, drop, filter}
use Rattle.vp_modules.specs.Items.{is_top}
use Rattle.vp_elab.specs.declared.object.TheConstants.{OBJECT_LIMIT}
use Rattle.vp_elab.specs.Elaboration.{further_limit}
use Rattle.vp_elab.specs.Objects.{objects_within}
use Rattle.vp_elab.specs.Sizes.{total, whole_size}
use Rattle.vp_elab.proofs.objects.objects_of.Given as goal

-- the objects so far, before those of the modules that are left; these have room
abbrev pub invariant-loop-number : goal.invariant-loop-number
invariant-loop-number l = record {
  objects :
      l.objects.items
      ++ objects_within l.source l.envelopes.envelopes (suc further_limit) l.number (length l.objects.items) (drop l.number l.source.modules)
      ≡ objects_within l.source l.envelopes.envelopes (suc further_limit) 0 0 l.source.modules;
  few : length l.objects.items + total (λ m. 1 + whole_size l.source m) (filter (is_top l.source) (drop l.number l.source.modules)) ≤ OBJECT_LIMIT;
}
