-- Access strings: names of rights joined by +.
use Rattle.std.specs.Prelude.{ℕ, if◌then◌else◌, List, [], ◌∷◌, Option, Some, None, option_map, option_and_then}
use Rattle.std.specs.Str.{bytes_eq}
use Rattle.vp_text.specs.Texts.{parts}
use Rattle.vp_pragma.specs.declared.rights.Right.{Right}
use Rattle.vp_pragma.specs.declared.rights.Right.TheVariants as right
use Rattle.vp_pragma.specs.Rights.{name_of, RightSet, nothing, with_right}

-- the first of these rights that has the name
abbrev pub named_among : List Right → List ℕ → Option Right
named_among [] name = None
named_among (r ∷ rs) name = if bytes_eq name (name_of r) then Some r else named_among rs name

-- the right of a name (profile)
abbrev pub right_of : List ℕ → Option Right
right_of name = named_among (right.List ∷ right.Read ∷ right.Watch ∷ right.Put ∷ right.Race ∷ []) name

-- the rights of these names, and list beside them; none where one is no name of a right
abbrev pub rights_named : List (List ℕ) → Option RightSet
rights_named [] = Some (with_right right.List nothing)
rights_named (name ∷ names) =
    option_and_then (λ r. option_map (with_right r) (rights_named names)) (right_of name)

-- the set that an access string names: rights joined by +; none where it is no access string (profile)
abbrev pub access_of : List ℕ → Option RightSet
access_of text = rights_named (parts 43 text)
