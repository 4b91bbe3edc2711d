-- What a line is, by what is read of its bytes.
use Rattle.std.proofs.Common.{inr, ◌≡◌, ℕ, Bool, true, false, List, Some, None, Result, Ok, Err, refl, ◌∙◌}
use Rattle.std.specs.Str.{IsUtf8, is_utf8}
use Rattle.std.proofs.lemmas.Str.{IsUtf8-from_is_utf8, is_utf8-from_IsUtf8}
use Rattle.serde_json.specs.Data.{Data}
use Rattle.serde_json.specs.Read.{read}
use Rattle.std.specs.Prelude.{◌⊎◌, IfErr}
use Rattle.std.specs.Result.{IfOk}
use Rattle.vp_answer.specs.declared.request.Request.{Request}
use Rattle.vp_wire.specs.declared.error.WireError.{WireError}
use Rattle.vp_wire.specs.declared.error.WireError.TheVariants as fault
use Rattle.vp_wire.specs.Lines.{meaning_of, meaning_of_value, request_of, Asks, NotJson, NotRequest}

-- a line of which a JSON value is read is what the value says
pub meaning_of_json :
    (line : List ℕ) (d : Data) → IsUtf8 line → read line ≡ Some d → meaning_of line ≡ meaning_of_value (Some d)
meaning_of_json line d u e = rw (is_utf8-from_IsUtf8 line u, e) refl

-- a line of which a request is read asks for it
pub asks_by : {E : Type 0} (result : Result Request E) (line : List ℕ) (d : Data) → IsUtf8 line → read line ≡ Some d
    → IfOk result (λ r. request_of d ≡ Some r) → IfOk result (λ r. meaning_of line ≡ Asks r)
asks_by (Ok r) line d u e found = meaning_of_json line d u e ∙ rw found refl
asks_by (Err x) line d u e found = tt

-- a line of which a JSON value is read that is no request is none
pub asks_none : (line : List ℕ) (d : Data) → IsUtf8 line → read line ≡ Some d → request_of d ≡ None → meaning_of line ≡ NotRequest
asks_none line d u e none = meaning_of_json line d u e ∙ rw none refl

-- what is wrong with a JSON value is wrong with its line
pub among_faults : {T : Type 0} (result : Result T WireError) → IfErr result (λ e. (e ≡ fault.BadRequest) ⊎ (e ≡ fault.NoMemory))
    → IfErr result (λ e. (e ≡ fault.BadJson) ⊎ ((e ≡ fault.BadRequest) ⊎ (e ≡ fault.NoMemory)))
among_faults (Ok x) known = tt
among_faults (Err e) known = inr known

-- by whether the line is UTF-8
other : (line : List ℕ) (b : Bool) → is_utf8 line ≡ b → (IsUtf8 line → read line ≡ None) → meaning_of line ≡ NotJson
other line true i h = rw (i, h (IsUtf8-from_is_utf8 line i)) refl
other line false i h = rw i refl

-- a line of which no JSON value is read, where it is UTF-8 at all, is no JSON
pub meaning_of_other : (line : List ℕ) → (IsUtf8 line → read line ≡ None) → meaning_of line ≡ NotJson
meaning_of_other line h = other line (is_utf8 line) refl h
