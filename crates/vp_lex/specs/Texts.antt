-- The part of a text that a token is.
use Rattle.std.specs.Prelude.{ℕ, ◌&&◌, nat_le, Bool, if◌then◌else◌, List, [], length, slice_range}
use Rattle.std.specs.Str.{is_utf8}
use Rattle.vp_lex.specs.declared.token.Token.{Token}

-- there are bytes of a text between these places
abbrev pub is_range : List ℕ → ℕ → ℕ → Bool
is_range text start end = nat_le start end && nat_le end (length text)

-- the bytes of a text between these places, where they are there and are text; else nothing
abbrev pub part_of : List ℕ → ℕ → ℕ → List ℕ
part_of text start end =
    if is_range text start end && is_utf8 (slice_range text start end) then slice_range text start end else []

-- a token's part of a text; empty where the text has no such part
abbrev pub text_of : List ℕ → Token → List ℕ
text_of text t = part_of text t.start t.end
