-- The users and grants of a file, while it is read for a design whose envelopes have these authors.
use Rattle.std.specs.Prelude.{◌≡◌, ℕ, not, true, List, [], map, Option, Some, option_map}
use Rattle.std.specs.List.{flat_map, list_any}
use Rattle.vp_pragma.specs.Rights.{set_of}
use Rattle.vp_policy.specs.Members.{grant_shown, member_of}
use Rattle.vp_policy.specs.declared.reading.Listed.{Listed}
use Rattle.vp_policy.specs.declared.reading.NamedGrant.{NamedGrant}
use Rattle.vp_policy.specs.declared.reading.ReadGrants.{ReadGrants}
use Rattle.vp_policy.specs.declared.reading.ReadUser.{ReadUser}
use Rattle.vp_policy.specs.File.{FileGrant, FileUser, entries_for, has_missing, is_named_twice, member_in, names_none}

-- what is seen of a grant that is read
abbrev pub file_grant : NamedGrant → FileGrant
file_grant g = record { envelope = g.envelope; author = option_map (λ a. a.now) g.author; access = set_of g.access }

-- the grants of a user: what they are in the design, and whether one of them names none of its envelopes
pub record AreGrants (authors : List (List ℕ)) (grants : Option (List FileGrant)) (his : ReadGrants) : Type 0 where
  pub all : List FileGrant
  pub read : grants ≡ Some all
  pub entries : map grant_shown his.entries ≡ flat_map (entries_for authors) all
  pub missing : his.missing ≡ list_any (names_none authors) all

-- a user: who he is in the design, and whether one of his grants names none of its envelopes
pub record IsUser (authors : List (List ℕ)) (user : Option FileUser) (he : ReadUser) : Type 0 where
  pub all : FileUser
  pub read : user ≡ Some all
  pub shown : member_of (he.name, he.user) ≡ member_in authors all
  pub missing : he.missing ≡ has_missing authors all

-- a table has the users of a file, and says whether each name stands there once and whether a grant names no envelope; where a name
-- does not, which users it has is open
pub record IsListed (authors : List (List ℕ)) (users : Option (List FileUser)) (listed : Listed) : Type 0 where
  pub all : List FileUser
  pub read : users ≡ Some all
  pub twice : is_named_twice [] (map (member_in authors) all) ≡ not listed.once
  pub missing : listed.missing ≡ list_any (has_missing authors) all
  pub shown : listed.once ≡ true → map member_of listed.users.entries ≡ map (member_in authors) all
