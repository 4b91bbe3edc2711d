-- The members that users of a policy are.
use Rattle.std.specs.Prelude.{map, String, string_bytes}
use Rattle.std.specs.declared.alloc.Global.{Global}
use Rattle.vp_pragma.specs.Rights.{set_of}
use Rattle.vp_policy.specs.declared.grant.Grant.{Grant}
use Rattle.vp_policy.specs.declared.policy.User.{User}
use Rattle.vp_policy.specs.Users.{GrantEntry, Member}

-- a grant as an entry
abbrev pub grant_shown : Grant → GrantEntry
grant_shown g = record { envelope = g.envelope; access = set_of g.access; names_author = g.names_author }

-- a user by his name
abbrev pub member_of : String Global × User → Member
member_of u = record {
  name = string_bytes u.0;
  token = u.1.token;
  open_set = set_of u.1.open;
  grants = map grant_shown u.1.grants;
  run = u.1.run;
  sessions = u.1.sessions;
}
