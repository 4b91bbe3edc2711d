-- The keys of an object, from its map.
use Rattle.std.proofs.Common.{◌≡◌, ℕ, Bool, ◌&&◌, ◌||◌, List, [], ◌∷◌, Some, refl, sym, ap}
use Rattle.std.specs.Prelude.{string_bytes}
use Rattle.std.specs.List.{list_all}
use Rattle.serde_json.specs.Data.{Data, null, boolean, number, string, array, object, Members}
use Rattle.serde_json.specs.Find.{as_object}
use Rattle.serde_json.specs.View.{members_view}
use Rattle.serde_json.proofs.Views.{Entry}
use Rattle.vp_json.specs.Keys.{is_one_of, keys_of, has_only}

-- what has members is an object
has_members : (d : Data) (ms : Members) → Some ms ≡ as_object d → d ≡ object ms
has_members (object ns) ms e = cc
has_members null ms e = absurd cc
has_members (boolean b) ms e = absurd cc
has_members (number n) ms e = absurd cc
has_members (string s) ms e = absurd cc
has_members (array items) ms e = absurd cc

-- a test of the keys is a test of the entries
all_keys : (p : List ℕ → Bool) (es : List Entry) → list_all p (keys_of (members_view es)) ≡ list_all (λ e. p (string_bytes e.0)) es
all_keys p [] = refl
all_keys p (e ∷ es) = ap (λ b. p (string_bytes e.0) && b) (all_keys p es)

-- what a value's map says of its keys is what the value says
pub only_by_map :
    (keys others : List (List ℕ)) (d : Data) (es : List Entry) → Some (members_view es) ≡ as_object d
    → list_all (λ e. is_one_of keys (string_bytes e.0) || is_one_of others (string_bytes e.0)) es ≡ has_only keys others d
only_by_map keys others d es e =
    let is = has_members d (members_view es) e in
    rw is (sym (all_keys (λ key. is_one_of keys key || is_one_of others key) es))
