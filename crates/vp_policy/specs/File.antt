-- Policy files: the users, and the operator's token, that the bytes of a file give.
use Rattle.std.specs.Prelude.{ℕ, ◌==◌, ◌&&◌, ◌||◌, not, Bool, true, false, nat_lt, nat_le, if◌then◌else◌, List, [], ◌∷◌, ◌++◌, filter, length, map, Option, Some, None, is_some, option_and_then, option_map, Result, Ok, Err, codes}
use Rattle.std.specs.Char.{is_ascii_alphanumeric}
use Rattle.std.specs.List.{enumerate_from, flat_map, list_all, list_any}
use Rattle.std.specs.Option.{option_map_or}
use Rattle.std.specs.Str.{bytes_eq, is_utf8}
use Rattle.serde_json.specs.Data.{Data, Items, no_items, item}
use Rattle.serde_json.specs.Find.{get, as_array, as_bool, as_number, as_str, as_u64}
use Rattle.serde_json.specs.Read.{read}
use Rattle.vp_json.specs.Keys.{has_keys}
use Rattle.vp_pragma.specs.Access.{access_of}
use Rattle.vp_pragma.specs.Rights.{RightSet, nothing}
use Rattle.vp_policy.specs.declared.error.PolicyError.{PolicyError}
use Rattle.vp_policy.specs.declared.error.PolicyError.TheVariants.{BadPolicy, DuplicateUser, NoSuchEnvelope, TooManyUsers}
use Rattle.vp_policy.specs.declared.reading.TheConstants.{USER_LIMIT}
use Rattle.vp_policy.specs.PolicyState.{PolicyState}
use Rattle.vp_policy.specs.Users.{GrantEntry, Member}
use Rattle.vp_elab.specs.Tree.{Tree}

-- what is read of each item of an array; none where nothing is read of one
abbrev pub each_of : {X : Type 0} → (Data → Option X) → Items → Option (List X)
each_of f no_items = Some []
each_of f (item d ds) = option_and_then (λ x. option_map (λ xs. x ∷ xs) (each_of f ds)) (f d)

-- ---- the parts of a user

-- a byte of a user's name or of a token: a letter, a digit, _ or -
abbrev pub is_word_byte : ℕ → Bool
is_word_byte b = (is_ascii_alphanumeric b || b == 95) || b == 45

-- a user's name or a token: 1 to 64 letters, digits, _ or - (profile)
abbrev pub is_word : List ℕ → Bool
is_word word = (nat_lt 0 (length word) && nat_le (length word) 64) && list_all is_word_byte word

-- a text, if it is a user's name or a token
abbrev pub word_of : List ℕ → Option (List ℕ)
word_of text = if is_word text then Some text else None

-- the user's name or the token under a key
abbrev pub word_at : List ℕ → Data → Option (List ℕ)
word_at key d = option_and_then word_of (option_and_then as_str (get key d))

-- the rights that a text opens: none if it is empty, else those of an access string
abbrev pub opened_by : List ℕ → Option RightSet
opened_by [] = Some nothing
opened_by (c ∷ cs) = access_of (c ∷ cs)

-- a user's rights in the open text: those that the text under open opens; none without that key
abbrev pub open_set_of : Data → Option RightSet
open_set_of user = option_map_or (λ names. option_and_then opened_by (as_str names)) (get (codes "open") user) (Some nothing)

-- a user may run the design: the boolean under run; false without that key
abbrev pub run_of : Data → Option Bool
run_of user = option_map_or as_bool (get (codes "run") user) (Some false)

-- so many sessions a user may have open at once, where nothing else is said, and at most (profile)
abbrev pub most_sessions : ℕ
most_sessions = 64

-- how many sessions a user may have open at once: the whole number, 64 at most, under sessions; 64 without that key
abbrev pub sessions_of : Data → Option ℕ
sessions_of user =
    option_map_or (λ d. option_and_then (λ n. if nat_le n most_sessions then Some n else None) (option_and_then as_u64 (as_number d)))
    (get (codes "sessions") user) (Some most_sessions)

-- ---- grants

-- what is read under a key that may be left out; none where it stands and nothing is read of it
abbrev pub optional : {X : Type 0} → (Data → Option X) → (key : List ℕ) → Data → Option (Option X)
optional f key d = option_map_or (λ v. option_map Some (f v)) (get key d) (Some None)

-- the number of an envelope: a whole number, from 0 to 18,446,744,073,709,551,615
abbrev pub envelope_of : Data → Option ℕ
envelope_of d = option_and_then as_u64 (as_number d)

-- what a grant gives: the rights that the text under access opens
abbrev pub access_in : Data → Option RightSet
access_in d = option_and_then opened_by (option_and_then as_str (get (codes "access") d))

-- a grant as a file has it: the number of an envelope, an author, or both; and what is granted there (profile)
pub record FileGrant : Type 0 where
  pub envelope : Option ℕ
  pub author : Option (List ℕ)
  pub access : RightSet

-- the grant of these parts; none where neither a number nor an author stands
abbrev pub grant_from : Option ℕ → Option (List ℕ) → RightSet → Option FileGrant
grant_from None None access = None
grant_from (Some n) author access = Some (record { envelope = Some n; author = author; access = access })
grant_from None (Some author) access = Some (record { envelope = None; author = Some author; access = access })

-- the grant of an object, whose keys are access, and envelope, author or both (profile)
abbrev pub grant_of : Data → Option FileGrant
grant_of d =
    if has_keys (codes "access" ∷ []) (codes "envelope" ∷ codes "author" ∷ []) d then
    option_and_then (λ envelope. option_and_then (λ author. option_and_then (grant_from envelope author)
    (access_in d)) (optional as_str (codes "author") d)) (optional envelope_of (codes "envelope") d)
    else None

-- a user's grants: those of the array under grants, in its order; none without that key
abbrev pub grants_of : Data → Option (List FileGrant)
grants_of user = option_map_or (λ grants. option_and_then (each_of grant_of) (as_array grants)) (get (codes "grants") user) (Some [])

-- ---- the envelopes of a grant

-- an author is this one, who is not empty: the empty author is nobody
abbrev pub is_author : List ℕ → List ℕ → Bool
is_author author name = not (bytes_eq name []) && bytes_eq name author

-- an envelope, by its number and author, is one that a grant names: of the number that stands there, and of the author (profile)
abbrev pub is_named : FileGrant → ℕ × List ℕ → Bool
is_named g e = option_map_or (λ n. n == e.0) g.envelope true && option_map_or (is_author e.1) g.author true

-- the entry that a grant is for an envelope that it names
abbrev pub entry_for : FileGrant → ℕ × List ℕ → GrantEntry
entry_for g e = record { envelope = e.0; access = g.access; names_author = is_some g.author }

-- the entries that a grant is, where these are the authors of envelopes 1, 2, ..: one for each that it names, rising
abbrev pub entries_for : List (List ℕ) → FileGrant → List GrantEntry
entries_for authors g = map (entry_for g) (filter (is_named g) (enumerate_from 1 authors))

-- a grant names none of these envelopes
abbrev pub names_none : List (List ℕ) → FileGrant → Bool
names_none authors g = not (list_any (is_named g) (enumerate_from 1 authors))

-- ---- a user

-- a user as a file has him: all but his grants, which here are none, and the grants
pub record FileUser : Type 0 where
  pub member : Member
  pub grants : List FileGrant

-- a user of these parts
abbrev pub member : List ℕ → List ℕ → RightSet → List GrantEntry → Bool → (sessions : ℕ) → Member
member name token open_set grants run sessions =
    record { name = name; token = token; open_set = open_set; grants = grants; run = run; sessions = sessions }

-- a user of these parts, as a file has him
abbrev pub file_user : List ℕ → List ℕ → RightSet → List FileGrant → Bool → (sessions : ℕ) → FileUser
file_user name token open_set grants run sessions =
    record { member = member name token open_set [] run sessions; grants = grants }

-- the user of an object: its keys are name and token, and open, run, sessions and grants at most (profile)
abbrev pub user_from : Data → Option FileUser
user_from d =
    if has_keys (codes "name" ∷ codes "token" ∷ []) (codes "open" ∷ codes "run" ∷ codes "sessions" ∷ codes "grants" ∷ []) d then
    option_and_then (λ name. option_and_then (λ token. option_and_then (λ open_set. option_and_then (λ grants. option_and_then (λ run. option_map (file_user name token open_set grants run)
    (sessions_of d)) (run_of d)) (grants_of d)) (open_set_of d)) (word_at (codes "token") d)) (word_at (codes "name") d)
    else None

-- the user in a design: with the entries that his grants are there
abbrev pub member_in : List (List ℕ) → FileUser → Member
member_in authors u = record u.member { grants = flat_map (entries_for authors) u.grants }

-- one of a user's grants names no envelope of a design
abbrev pub has_missing : List (List ℕ) → FileUser → Bool
has_missing authors u = list_any (names_none authors) u.grants

-- ---- a file

-- what a policy file gives for a design: its users in their order, and the operator's token, if it has one
pub record PolicyFile : Type 0 where
  pub members : List Member
  pub operator : Option (List ℕ)

-- what a policy has of its file
abbrev pub file_in : PolicyState → PolicyFile
file_in policy = record { members = policy.members; operator = policy.operator }

-- the policy of a file, for the tree of a design
abbrev pub policy_for : Tree → PolicyFile → PolicyState
policy_for tree file = record { tree = tree; members = file.members; operator = file.operator }

-- all users of a file, an object with the key users, and operator at most; none where it is no policy file
abbrev pub users_of : Data → Option (List FileUser)
users_of file =
    if has_keys (codes "users" ∷ []) (codes "operator" ∷ []) file then
    option_and_then (each_of user_from) (option_and_then as_array (get (codes "users") file))
    else None

-- the operator's token of a file: the token under operator, none without that key; where no token stands there it is no policy file
abbrev pub operator_of : Data → Option (Option (List ℕ))
operator_of file = optional (λ d. option_and_then word_of (as_str d)) (codes "operator") file

-- one of these users has the name
abbrev pub has_user : List Member → List ℕ → Bool
has_user users name = list_any (λ u. bytes_eq name u.name) users

-- the name of one of these users is that of another, who stands among those first given or before him
abbrev pub is_named_twice : List Member → List Member → Bool
is_named_twice before [] = false
is_named_twice before (u ∷ us) = has_user before u.name || is_named_twice (before ++ u ∷ []) us

-- what a file gives, of whose grants one names no envelope of the design or none does; or why it is refused, the first reason that
-- holds (profile)
abbrev pub accepted : (missing : Bool) → PolicyFile → Result PolicyFile PolicyError
accepted missing file =
    if is_named_twice [] file.members then Err DuplicateUser
    else (if nat_lt USER_LIMIT (length file.members) then Err TooManyUsers
    else (if missing then Err NoSuchEnvelope
    else Ok file))

-- what the users and the operator of a file give, where a design's envelopes have these authors
abbrev pub accepted_for : List (List ℕ) → List FileUser → Option (List ℕ) → Result PolicyFile PolicyError
accepted_for authors users operator =
    accepted (list_any (has_missing authors) users) (record { members = map (member_in authors) users; operator = operator })

-- what a file gives, where a design's envelopes have these authors; or why it is refused (profile)
abbrev pub policy_of : List (List ℕ) → Data → Result PolicyFile PolicyError
policy_of authors d =
    option_map_or (λ users. option_map_or (accepted_for authors users) (operator_of d) (Err BadPolicy)) (users_of d) (Err BadPolicy)

-- what the bytes of a file give, where a design's envelopes have these authors; or why they are refused: a text that is no UTF-8,
-- and one that is no JSON, is no policy file
abbrev pub file_of : List (List ℕ) → List ℕ → Result PolicyFile PolicyError
file_of authors bytes = if is_utf8 bytes then option_map_or (policy_of authors) (read bytes) (Err BadPolicy) else Err BadPolicy
