-- The part of a text between two places.
use Rattle.std.proofs.Common.{◌≡◌, ℕ, ◌<◌, ◌≤◌, Bool, true, false, List, [], length, refl, leb}
use Rattle.std.specs.Prelude.{◌&&◌, ◌⊎◌, IsUtf8, slice_range}
use Rattle.std.proofs.Common.{inl, inr}
use Rattle.std.specs.Str.{is_utf8}
use Rattle.std.proofs.lemmas.Bool.{le-leb, lt-leb}
use Rattle.std.proofs.lemmas.Str.{is_utf8-from_IsUtf8, IsUtf8-from_is_utf8}
use Rattle.std.proofs.Math.Bool.{and-false}
use Rattle.vp_lex.specs.Texts.{is_range, part_of}

range_there : (text : List ℕ) (start end : ℕ) → start ≤ end → end ≤ length text → is_range text start end ≡ true
range_there text start end s e = rw (le-leb start end s, le-leb end (length text) e) refl

range_absent : (text : List ℕ) (start end : ℕ) → (end < start) ⊎ (length text < end) → is_range text start end ≡ false
range_absent text start end h = elim h [
  | inl h ↦ rw (lt-leb start end h) refl
  | inr h ↦ rw (lt-leb end (length text) h) (and-false (leb start end))
]

-- where the bytes are there and are text, they are the part
pub part_there : (text : List ℕ) (start end : ℕ) → start ≤ end → end ≤ length text → IsUtf8 (slice_range text start end) → part_of text start end ≡ slice_range text start end
part_there text start end s e h = rw (range_there text start end s e, is_utf8-from_IsUtf8 (slice_range text start end) h) refl

-- where they are not there, there is no part
pub part_absent : (text : List ℕ) (start end : ℕ) → (end < start) ⊎ (length text < end) → part_of text start end ≡ []
part_absent text start end h = rw (range_absent text start end h) refl

no_text : (text : List ℕ) (start end : ℕ) (b : Bool) → is_utf8 (slice_range text start end) ≡ b → (IsUtf8 (slice_range text start end) → ⊥) → part_of text start end ≡ []
no_text text start end true e h = absurd (h (IsUtf8-from_is_utf8 (slice_range text start end) e))
no_text text start end false e h = rw (e, and-false (is_range text start end)) refl

-- where they are no text, there is no part
pub part_no_text : (text : List ℕ) (start end : ℕ) → (IsUtf8 (slice_range text start end) → ⊥) → part_of text start end ≡ []
part_no_text text start end h = no_text text start end (is_utf8 (slice_range text start end)) refl h
