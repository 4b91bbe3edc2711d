-- The keys of JSON objects.
use Rattle.std.specs.Prelude.{ℕ, Bool, false, ◌&&◌, ◌||◌, List, [], ◌∷◌, is_some}
use Rattle.std.specs.List.{list_all, list_any}
use Rattle.std.specs.Str.{bytes_eq}
use Rattle.serde_json.specs.Data.{Data, null, boolean, number, string, array, object, Members, no_members, member}
use Rattle.serde_json.specs.Find.{get}

-- a key is one of these
abbrev pub is_one_of : List (List ℕ) → List ℕ → Bool
is_one_of keys key = list_any (bytes_eq key) keys

-- the keys of an object's members
abbrev pub keys_of : Members → List (List ℕ)
keys_of no_members = []
keys_of (member key value ms) = key ∷ keys_of ms

-- a value has something under each of these keys
abbrev pub has_each : List (List ℕ) → Data → Bool
has_each keys d = list_all (λ key. is_some (get key d)) keys

-- a value is an object, and each of its keys is one of these
abbrev pub has_only : List (List ℕ) → List (List ℕ) → Data → Bool
has_only keys others (object ms) = list_all (λ key. is_one_of keys key || is_one_of others key) (keys_of ms)
has_only keys others null = false
has_only keys others (boolean b) = false
has_only keys others (number n) = false
has_only keys others (string s) = false
has_only keys others (array items) = false

-- a value is an object with each of the required keys, and with no key that is neither required nor optional (profile)
abbrev pub has_keys : List (List ℕ) → List (List ℕ) → Data → Bool
has_keys required optional d = has_each required d && has_only required optional d
