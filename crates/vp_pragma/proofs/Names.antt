-- A text with two dots names no item.
use Rattle.std.proofs.Common.{◌≡◌, ℕ, ◌≤◌, List, [], ◌∷◌, length, None, refl, arith}
use Rattle.vp_text.specs.Texts.{parts}
use Rattle.vp_text.specs.laws.Texts.{parts_some}
use Rattle.vp_pragma.specs.EnvelopesOf.{item_named}

three_of : (a b : List ℕ) (ps : List (List ℕ)) → 1 ≤ length ps → item_named (a ∷ b ∷ ps) ≡ None
three_of a b [] h = absurd (omega arith)
three_of a b (p ∷ ps) h = refl

pub three_names : (a b rest : List ℕ) → item_named (a ∷ b ∷ parts 46 rest) ≡ None
three_names a b rest = three_of a b (parts 46 rest) (parts_some 46 rest)
