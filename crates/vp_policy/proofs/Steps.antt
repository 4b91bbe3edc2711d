-- The steps of a path, from the object up.
use Rattle.std.proofs.Common.{ℕ, ◌+◌, Option, Some, None}
use Rattle.vp_elab.specs.declared.object.ObjectId.{ObjectId}

-- more than the number of a step that is to come; 0 after the last
abbrev pub steps_left : Option ObjectId → ℕ
steps_left None = 0
steps_left (Some id) = id.0 + 1
