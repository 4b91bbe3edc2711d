-- The values of strings that are worked out by hand.
use Rattle.std.proofs.Common.{◌≡◌, [], ◌∷◌, ◌++◌, refl}
use Rattle.std.specs.Prelude.{codes}
use Rattle.std.specs.Str.{chars}
use lib.Utf8.{encode}
use Rattle.vp_lex.specs.Strings.{string_value}

-- nothing between the quotation marks (34)
pub row-empty : string_value (34 ∷ 34 ∷ []) ≡ []
unfolding chars encode
row-empty = refl

-- a quotation mark and a backslash (92) after a backslash
pub row-named : string_value (34 ∷ codes "a" ++ 92 ∷ 34 ∷ codes "b" ++ 92 ∷ 92 ∷ codes "c" ++ 34 ∷ []) ≡ codes "a" ++ 34 ∷ codes "b" ++ 92 ∷ codes "c"
unfolding chars encode
row-named = refl

-- a newline (10) and a tab (9)
pub row-newline : string_value (34 ∷ 92 ∷ codes "n" ++ 92 ∷ codes "t" ++ 34 ∷ []) ≡ 10 ∷ 9 ∷ []
unfolding chars encode
row-newline = refl

-- A is number 101 in octal digits, of which no more than three are taken, and 0 is number 60
pub row-octal : string_value (34 ∷ 92 ∷ codes "1018" ++ 92 ∷ codes "1011" ++ 92 ∷ codes "60" ++ 34 ∷ []) ≡ codes "A8A10"
unfolding chars encode
row-octal = refl

-- the characters 255 and 511, of two bytes each
pub row-past_ascii : string_value (34 ∷ 92 ∷ codes "377" ++ 92 ∷ codes "777" ++ 34 ∷ []) ≡ 195 ∷ 191 ∷ 199 ∷ 191 ∷ []
unfolding chars encode
row-past_ascii = refl

-- another backslash stands for itself
pub row-itself : string_value (34 ∷ 92 ∷ codes "q" ++ 92 ∷ codes "8" ++ 34 ∷ []) ≡ 92 ∷ codes "q" ++ 92 ∷ codes "8"
unfolding chars encode
row-itself = refl

-- a character of two bytes stands for itself
pub row-character : string_value (34 ∷ 195 ∷ 169 ∷ 34 ∷ []) ≡ 195 ∷ 169 ∷ []
unfolding chars encode
row-character = refl

-- no quotation marks
pub row-none : string_value (codes "a") ≡ []
unfolding chars encode
row-none = refl
