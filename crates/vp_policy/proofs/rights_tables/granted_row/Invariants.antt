use Rattle.std.proofs.Common.{◌≡◌, ℕ, ◌<◌, length}
use Rattle.std.specs.Prelude.{String, slice_index_or}
use Rattle.std.specs.declared.alloc.Global.{Global}
use Rattle.vp_pragma.specs.declared.rights.Rights.{Rights}
use Rattle.vp_pragma.specs.Rights.{set_of}
use Rattle.vp_policy.specs.Members.{member_of}
use Rattle.vp_policy.specs.Users.{granted}
use Rattle.vp_policy.proofs.rights_tables.granted_row.Given as goal

-- what is granted in the envelopes so far
abbrev pub invariant-loop-envelope : goal.invariant-loop-envelope
invariant-loop-envelope l = record {
  long : length l.row ≡ 256;
  granted : (name : String Global) (e : ℕ) (d : Rights) → e < l.envelope → set_of (slice_index_or l.row e d) ≡ granted (member_of (name, l.user)) e;
}
