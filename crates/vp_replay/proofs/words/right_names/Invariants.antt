use Rattle.std.proofs.Common.{◌≡◌, filter, map, take}
use Rattle.vp_pragma.specs.Rights.{has, name_of, set_of}
use Rattle.vp_replay.specs.Outline.{every_right}
use Rattle.vp_replay.proofs.words.right_names.Given as goal

abbrev pub invariant-loop-right : goal.invariant-loop-right
invariant-loop-right l =
    map (λ name. name.now) l.names.items ≡ map name_of (filter (λ r. has r (set_of l.fn.rights)) (take l.right-index every_right))
