use Rattle.std.proofs.Common.{◌≡◌, ◌++◌, List, map}
use Rattle.std.specs.Prelude.{String}
use Rattle.std.specs.declared.alloc.Global.{Global}
use Rattle.vp_policy.specs.declared.policy.User.{User}
use Rattle.vp_policy.specs.Members.{member_of}
use Rattle.vp_policy.proofs.copying.copied_users.Given as goal

-- the copies of the users so far
abbrev pub invariant-loop-name : goal.invariant-loop-name
invariant-loop-name l =
    (done : List (String Global × User))
    × (done ++ l.name-iterator ≡ l.users.entries)
    × (map member_of l.copies.entries ≡ map member_of done)
