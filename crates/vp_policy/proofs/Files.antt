-- What a file gives, by what is read of its bytes.
use Rattle.std.proofs.Common.{◌≡◌, ℕ, Bool, true, false, List, Some, None, refl}
use Rattle.std.specs.Prelude.{Err}
use Rattle.std.specs.Str.{IsUtf8, is_utf8}
use Rattle.std.proofs.lemmas.Str.{IsUtf8-from_is_utf8, is_utf8-from_IsUtf8}
use Rattle.serde_json.specs.Data.{Data}
use Rattle.serde_json.specs.Read.{read}
use Rattle.vp_policy.specs.declared.error.PolicyError.TheVariants.{BadPolicy}
use Rattle.vp_policy.specs.File.{file_of, policy_of}

-- a file of which a JSON value is read gives what the value gives
pub file_of_json : (authors : List (List ℕ)) (bytes : List ℕ) (d : Data) → IsUtf8 bytes → read bytes ≡ Some d → file_of authors bytes ≡ policy_of authors d
file_of_json authors bytes d u e = rw (is_utf8-from_IsUtf8 bytes u, e) refl

-- by whether the bytes are UTF-8
other : (authors : List (List ℕ)) (bytes : List ℕ) (b : Bool) → is_utf8 bytes ≡ b → (IsUtf8 bytes → read bytes ≡ None) → file_of authors bytes ≡ Err BadPolicy
other authors bytes true i h = rw (i, h (IsUtf8-from_is_utf8 bytes i)) refl
other authors bytes false i h = rw i refl

-- a file of which no JSON value is read, where it is UTF-8 at all, is no policy file
pub file_of_other : (authors : List (List ℕ)) (bytes : List ℕ) → (IsUtf8 bytes → read bytes ≡ None) → file_of authors bytes ≡ Err BadPolicy
file_of_other authors bytes h = other authors bytes (is_utf8 bytes) refl h
