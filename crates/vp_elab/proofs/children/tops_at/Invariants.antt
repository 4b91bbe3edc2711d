use Rattle.std.proofs.Common.{◌≡◌, take}
use Rattle.std.specs.List.{filter_map}
use Rattle.vp_elab.specs.Objects.{top_of}
use Rattle.vp_elab.proofs.children.tops_at.Given as goal

abbrev pub invariant-loop-first : goal.invariant-loop-first
invariant-loop-first l = l.ids.items ≡ filter_map (top_of l.objects) (take l.first-index l.firsts)
