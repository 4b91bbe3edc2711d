-- Policy files, computed. Each row is an equation that holds by computation.
use Rattle.std.proofs.Common.{◌≡◌, ℕ, zero, suc, true, false, List, [], ◌∷◌, ◌++◌, refl}
use Rattle.std.specs.Prelude.{map, None, Some, Result, Ok, Err, codes}
use Rattle.std.specs.Str.{is_utf8, chars}
use Rattle.serde_json.proofs.OnLiterals.{serde_json_on_literals}
use Rattle.vp_pragma.specs.Rights.{RightSet, nothing}
use Rattle.vp_policy.specs.declared.grant.GrantedBy.TheVariants as by
use Rattle.vp_policy.specs.declared.error.PolicyError.{PolicyError}
use Rattle.vp_policy.specs.declared.error.PolicyError.TheVariants.{BadPolicy, DuplicateUser, NoSuchEnvelope, TooManyUsers}
use Rattle.vp_policy.specs.File.{PolicyFile, accepted, file_of, member}
use Rattle.vp_policy.specs.Regrants.{by_number}
use Rattle.vp_policy.specs.Users.{GrantEntry, Member, entry_of, granted, granted_by}

abbrev listing : RightSet
listing = record { list = true; read = false; watch = false; put = false; race = false }

abbrev reading : RightSet
reading = record { list = true; read = true; watch = false; put = false; race = false }

abbrev putting : RightSet
putting = record { list = true; read = false; watch = false; put = true; race = false }

abbrev reading_and_putting : RightSet
reading_and_putting = record { list = true; read = true; watch = false; put = true; race = false }

-- an entry of a grant that names the envelope's author
abbrev by_author : ℕ → RightSet → GrantEntry
by_author envelope access = record { envelope = envelope; access = access; names_author = true }

-- a user of a name, with the token T and these grants
abbrev user : List ℕ → List GrantEntry → Member
user name grants = member name (codes "T") nothing grants false 64

-- Ann alone, with these grants
abbrev ann : List GrantEntry → List Member
ann grants = user (codes "ann") grants ∷ []

-- a file for a design of two envelopes, of acme and of the soc team
abbrev for_two : List ℕ → Result PolicyFile PolicyError
for_two file = file_of (codes "acme" ∷ codes "soc team" ∷ []) file

-- a file for a design of four envelopes, two of acme, one of nobody, and one of the soc team
abbrev for_four : List ℕ → Result PolicyFile PolicyError
for_four file = file_of (codes "acme" ∷ [] ∷ codes "acme" ∷ codes "soc team" ∷ []) file

-- what a file without an operator gives
abbrev file : List Member → PolicyFile
file users = record { members = users; operator = None }

-- a file in which Ann has these grants
abbrev granting : List ℕ → List ℕ
granting grants = codes "{\"users\":[{\"name\":\"ann\",\"token\":\"T\",\"grants\":[" ++ grants ++ codes "]}]}"

-- ---- users

-- each right that is named, and list beside them
whole :
    for_two (codes "{\"users\":[{\"name\":\"ann\",\"token\":\"t-1\",\"open\":\"read\",\"run\":true}]}")
    ≡ Ok (file (member (codes "ann") (codes "t-1") reading [] true 64 ∷ []))
unfolding serde_json_on_literals is_utf8 chars
whole = refl

-- no rights, no grants and no run flag by default, and the keys in any order
by_default : for_two (codes "{\"users\":[{\"token\":\"T\",\"name\":\"ann\"}]}") ≡ Ok (file (ann []))
unfolding serde_json_on_literals is_utf8 chars
by_default = refl

empty_open : for_two (codes "{\"users\":[{\"name\":\"ann\",\"token\":\"T\",\"open\":\"\"}]}") ≡ Ok (file (ann []))
unfolding serde_json_on_literals is_utf8 chars
empty_open = refl

no_such_right : for_two (codes "{\"users\":[{\"name\":\"ann\",\"token\":\"T\",\"open\":\"see\"}]}") ≡ Err BadPolicy
unfolding serde_json_on_literals is_utf8 chars
no_such_right = refl

run_of_a_text : for_two (codes "{\"users\":[{\"name\":\"ann\",\"token\":\"T\",\"run\":\"true\"}]}") ≡ Err BadPolicy
unfolding serde_json_on_literals is_utf8 chars
run_of_a_text = refl

-- so many sessions at once
three_sessions :
    for_two (codes "{\"users\":[{\"name\":\"ann\",\"token\":\"T\",\"sessions\":3}]}")
    ≡ Ok (file (member (codes "ann") (codes "T") nothing [] false 3 ∷ []))
unfolding serde_json_on_literals is_utf8 chars
three_sessions = refl

no_session :
    for_two (codes "{\"users\":[{\"name\":\"ann\",\"token\":\"T\",\"sessions\":0}]}")
    ≡ Ok (file (member (codes "ann") (codes "T") nothing [] false 0 ∷ []))
unfolding serde_json_on_literals is_utf8 chars
no_session = refl

sixty_five_sessions : for_two (codes "{\"users\":[{\"name\":\"ann\",\"token\":\"T\",\"sessions\":65}]}") ≡ Err BadPolicy
unfolding serde_json_on_literals is_utf8 chars
sixty_five_sessions = refl

sessions_of_a_text : for_two (codes "{\"users\":[{\"name\":\"ann\",\"token\":\"T\",\"sessions\":\"3\"}]}") ≡ Err BadPolicy
unfolding serde_json_on_literals is_utf8 chars
sessions_of_a_text = refl

key_too_many : for_two (codes "{\"users\":[{\"name\":\"ann\",\"token\":\"T\",\"age\":1}]}") ≡ Err BadPolicy
unfolding serde_json_on_literals is_utf8 chars
key_too_many = refl

key_missing : for_two (codes "{\"users\":[{\"name\":\"ann\"}]}") ≡ Err BadPolicy
unfolding serde_json_on_literals is_utf8 chars
key_missing = refl

name_with_a_blank : for_two (codes "{\"users\":[{\"name\":\"a b\",\"token\":\"T\"}]}") ≡ Err BadPolicy
unfolding serde_json_on_literals is_utf8 chars
name_with_a_blank = refl

empty_token : for_two (codes "{\"users\":[{\"name\":\"ann\",\"token\":\"\"}]}") ≡ Err BadPolicy
unfolding serde_json_on_literals is_utf8 chars
empty_token = refl

-- a key that is given twice has what is given last
key_twice : for_two (codes "{\"users\":[{\"name\":\"bob\",\"name\":\"ann\",\"token\":\"T\"}]}") ≡ Ok (file (ann []))
unfolding serde_json_on_literals is_utf8 chars
key_twice = refl

no_users : for_two (codes "{\"users\":[]}") ≡ Ok (file [])
unfolding serde_json_on_literals is_utf8 chars
no_users = refl

-- users stand in the order of the file
two_users :
    for_two (codes "{\"users\":[{\"name\":\"b\",\"token\":\"T\"},{\"name\":\"a\",\"token\":\"T\"}]}")
    ≡ Ok (file (user (codes "b") [] ∷ user (codes "a") [] ∷ []))
unfolding serde_json_on_literals is_utf8 chars
two_users = refl

cut_off : for_two (codes "{\"users\":[") ≡ Err BadPolicy
unfolding serde_json_on_literals is_utf8 chars
cut_off = refl

-- ---- grants

-- two grants for one envelope and one for another, unjoined and in order; a grant may be empty
three_grants :
    for_two (granting (codes "{\"envelope\":1,\"access\":\"read\"},{\"access\":\"\",\"envelope\":2},{\"envelope\":1,\"access\":\"list+put\"}"))
    ≡ Ok (file (ann (by_number 1 reading ∷ by_number 2 nothing ∷ by_number 1 putting ∷ [])))
unfolding serde_json_on_literals is_utf8 chars
three_grants = refl

-- the two are joined where the rights in the envelope are asked
joined : granted (user (codes "ann") (by_number 1 reading ∷ by_number 2 listing ∷ by_number 1 putting ∷ [])) 1 ≡ reading_and_putting
joined = refl

joined_of_another : granted_by (by_number 1 reading ∷ by_number 2 listing ∷ by_number 1 putting ∷ []) 2 ≡ listing
joined_of_another = refl

joined_of_none : granted_by (by_number 1 reading ∷ by_number 2 listing ∷ by_number 1 putting ∷ []) 3 ≡ nothing
joined_of_none = refl

neither_number_nor_author : for_two (granting (codes "{\"access\":\"read\"}")) ≡ Err BadPolicy
unfolding serde_json_on_literals is_utf8 chars
neither_number_nor_author = refl

access_missing : for_two (granting (codes "{\"envelope\":1}")) ≡ Err BadPolicy
unfolding serde_json_on_literals is_utf8 chars
access_missing = refl

grant_key_too_many : for_two (granting (codes "{\"envelope\":1,\"access\":\"\",\"run\":true}")) ≡ Err BadPolicy
unfolding serde_json_on_literals is_utf8 chars
grant_key_too_many = refl

grant_key_twice : for_two (granting (codes "{\"envelope\":3,\"access\":\"\",\"envelope\":1}")) ≡ Ok (file (ann (by_number 1 nothing ∷ [])))
unfolding serde_json_on_literals is_utf8 chars
grant_key_twice = refl

fraction : for_two (granting (codes "{\"envelope\":1.0,\"access\":\"\"}")) ≡ Err BadPolicy
unfolding serde_json_on_literals is_utf8 chars
fraction = refl

below_zero : for_two (granting (codes "{\"envelope\":-1,\"access\":\"\"}")) ≡ Err BadPolicy
unfolding serde_json_on_literals is_utf8 chars
below_zero = refl

envelope_as_text : for_two (granting (codes "{\"envelope\":\"1\",\"access\":\"\"}")) ≡ Err BadPolicy
unfolding serde_json_on_literals is_utf8 chars
envelope_as_text = refl

access_of_no_right : for_two (granting (codes "{\"envelope\":1,\"access\":\"see\"}")) ≡ Err BadPolicy
unfolding serde_json_on_literals is_utf8 chars
access_of_no_right = refl

-- ---- grants by author

-- an author names each envelope of his, in rising order
of_author : for_four (granting (codes "{\"author\":\"acme\",\"access\":\"read\"}")) ≡ Ok (file (ann (by_author 1 reading ∷ by_author 3 reading ∷ [])))
unfolding serde_json_on_literals is_utf8 chars
of_author = refl

-- a number and its author name that envelope alone
of_both : for_four (granting (codes "{\"envelope\":3,\"author\":\"acme\",\"access\":\"read\"}")) ≡ Ok (file (ann (by_author 3 reading ∷ [])))
unfolding serde_json_on_literals is_utf8 chars
of_both = refl

-- grants by number and by author stand in the order of the file
of_each :
    for_four (granting (codes "{\"envelope\":3,\"access\":\"put\"},{\"access\":\"read\",\"author\":\"acme\"},{\"envelope\":2,\"access\":\"\"}"))
    ≡ Ok (file (ann (by_number 3 putting ∷ by_author 1 reading ∷ by_author 3 reading ∷ by_number 2 nothing ∷ [])))
unfolding serde_json_on_literals is_utf8 chars
of_each = refl

of_another_author : for_four (granting (codes "{\"envelope\":3,\"author\":\"soc team\",\"access\":\"read\"}")) ≡ Err NoSuchEnvelope
unfolding serde_json_on_literals is_utf8 chars
of_another_author = refl

author_unknown : for_four (granting (codes "{\"author\":\"Acme\",\"access\":\"read\"}")) ≡ Err NoSuchEnvelope
unfolding serde_json_on_literals is_utf8 chars
author_unknown = refl

-- the empty author is nobody, also where an envelope has none
author_empty : for_four (granting (codes "{\"author\":\"\",\"access\":\"read\"}")) ≡ Err NoSuchEnvelope
unfolding serde_json_on_literals is_utf8 chars
author_empty = refl

author_empty_of_a_number : for_four (granting (codes "{\"envelope\":2,\"author\":\"\",\"access\":\"read\"}")) ≡ Err NoSuchEnvelope
unfolding serde_json_on_literals is_utf8 chars
author_empty_of_a_number = refl

author_as_number : for_four (granting (codes "{\"author\":1,\"access\":\"read\"}")) ≡ Err BadPolicy
unfolding serde_json_on_literals is_utf8 chars
author_as_number = refl

number_as_text_beside_the_author : for_four (granting (codes "{\"envelope\":\"1\",\"author\":\"acme\",\"access\":\"\"}")) ≡ Err BadPolicy
unfolding serde_json_on_literals is_utf8 chars
number_as_text_beside_the_author = refl

-- by what he has a grant for an envelope: by its number, where one of his grants for it does not name its author
by_what : map (entry_of (user (codes "ann") (by_number 3 putting ∷ by_author 1 reading ∷ by_author 3 reading ∷ []))) (1 ∷ 2 ∷ 3 ∷ []) ≡ by.Author ∷ by.Nothing ∷ by.Number ∷ []
by_what = refl

-- ---- the operator

operator : for_two (codes "{\"users\":[],\"operator\":\"op-1\"}") ≡ Ok (record { members = []; operator = Some (codes "op-1") })
unfolding serde_json_on_literals is_utf8 chars
operator = refl

-- the keys stand in any order
operator_first : for_two (codes "{\"operator\":\"x\",\"users\":[{\"name\":\"ann\",\"token\":\"T\"}]}") ≡ Ok (record { members = ann []; operator = Some (codes "x") })
unfolding serde_json_on_literals is_utf8 chars
operator_first = refl

-- a user may have the operator's token
token_of_both : for_two (codes "{\"users\":[{\"name\":\"ann\",\"token\":\"T\"}],\"operator\":\"T\"}") ≡ Ok (record { members = ann []; operator = Some (codes "T") })
unfolding serde_json_on_literals is_utf8 chars
token_of_both = refl

empty_operator : for_two (codes "{\"users\":[],\"operator\":\"\"}") ≡ Err BadPolicy
unfolding serde_json_on_literals is_utf8 chars
empty_operator = refl

operator_with_a_blank : for_two (codes "{\"users\":[],\"operator\":\"o p\"}") ≡ Err BadPolicy
unfolding serde_json_on_literals is_utf8 chars
operator_with_a_blank = refl

operator_of_null : for_two (codes "{\"users\":[],\"operator\":null}") ≡ Err BadPolicy
unfolding serde_json_on_literals is_utf8 chars
operator_of_null = refl

operator_alone : for_two (codes "{\"operator\":\"x\"}") ≡ Err BadPolicy
unfolding serde_json_on_literals is_utf8 chars
operator_alone = refl

-- ---- refusals in their order

envelope_zero : for_two (granting (codes "{\"envelope\":0,\"access\":\"\"}")) ≡ Err NoSuchEnvelope
unfolding serde_json_on_literals is_utf8 chars
envelope_zero = refl

envelope_too_great : for_two (granting (codes "{\"envelope\":1,\"access\":\"\"},{\"envelope\":3,\"access\":\"\"}")) ≡ Err NoSuchEnvelope
unfolding serde_json_on_literals is_utf8 chars
envelope_too_great = refl

-- of two users who are named alike, one with a grant for no envelope
duplicate_first :
    for_two (codes "{\"users\":[{\"name\":\"ann\",\"token\":\"T\",\"grants\":[{\"envelope\":9,\"access\":\"\"}]},{\"name\":\"ann\",\"token\":\"U\"}]}")
    ≡ Err DuplicateUser
unfolding serde_json_on_literals is_utf8 chars
duplicate_first = refl

-- an item that is no user, after two who are named alike
bad_first : for_two (codes "{\"users\":[{\"name\":\"a\",\"token\":\"T\"},{\"name\":\"a\",\"token\":\"T\"},1]}") ≡ Err BadPolicy
unfolding serde_json_on_literals is_utf8 chars
bad_first = refl

-- an operator who is none, after two users who are named alike
bad_operator_first : for_two (codes "{\"users\":[{\"name\":\"a\",\"token\":\"T\"},{\"name\":\"a\",\"token\":\"T\"}],\"operator\":1}") ≡ Err BadPolicy
unfolding serde_json_on_literals is_utf8 chars
bad_operator_first = refl

-- users with different names, as many as asked
abbrev users : ℕ → List ℕ → List Member
users zero name = []
users (suc n) name = user name [] ∷ users n (97 ∷ name)

-- too many are reported before a grant that names no envelope
one_too_many : accepted true (file (users 257 (codes "a"))) ≡ Err TooManyUsers
one_too_many = refl

as_many_as_fit : accepted false (file (users 256 (codes "a"))) ≡ Ok (file (users 256 (codes "a")))
as_many_as_fit = refl
