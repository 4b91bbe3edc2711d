-- Looking up a name in a table is looking for the first that has it.
use Rattle.std.proofs.Common.{◌≡◌, ℕ, List, map, get_or, position, Some, sym, ap, ◌∙◌}
use Rattle.std.proofs.lemmas.List.Quantifiers.{position-Some}
use Rattle.std.proofs.lemmas.Option.{slice_get-get_or}
use Rattle.std.specs.Prelude.{slice_get}
use Rattle.std.specs.Option.{option_and_then}
use Rattle.std.specs.Str.{bytes_eq}
use Rattle.vp_text.specs.laws.Searches.{position-map}
use Rattle.vp_source.specs.declared.source.Module.{Module}

-- a module that is in no text, for what stands past the end of a list
abbrev pub nowhere : Module
nowhere = record { name = 0; items = record { first = 0; end = 0 }; ports = 0; statements = record { first = 0; end = 0 }; expressions = record { first = 0; end = 0 }; terms = record { first = 0; end = 0 }; choices = record { first = 0; end = 0 } }

-- the place of a name among the names, which f gives, is that of the first that has it
pub placed :
    {X : Type 0} (f : X → List ℕ) (xs : List X) (names : List (List ℕ)) (name : List ℕ) → names ≡ map f xs
    → position (bytes_eq name) names ≡ position (λ x. bytes_eq name (f x)) xs
placed f xs names name table = ap (position (bytes_eq name)) table ∙ position-map (bytes_eq name) f xs

-- the value at the place of a name among the names, which f gives, is the first that has it
pub found :
    {X : Type 0} (f : X → List ℕ) (xs : List X) (names : List (List ℕ)) (name : List ℕ) → names ≡ map f xs
    → option_and_then (slice_get xs) (position (bytes_eq name) names) ≡ option_and_then (slice_get xs) (position (λ x. bytes_eq name (f x)) xs)
found f xs names name table =
    ap (option_and_then (slice_get xs)) (placed f xs names name table)

-- the value at the place that a table has is the first of that name
pub taken :
    {X : Type 0} (f : X → List ℕ) (xs : List X) (names : List (List ℕ)) (name : List ℕ) (i : ℕ) (d : X) → names ≡ map f xs → position (bytes_eq name) names ≡ Some i
    → Some (get_or xs i d) ≡ option_and_then (slice_get xs) (position (λ x. bytes_eq name (f x)) xs)
taken f xs names name i d table at =
    let here : position (λ x. bytes_eq name (f x)) xs ≡ Some i = sym (position-map (bytes_eq name) f xs) ∙ ap (position (bytes_eq name)) (sym table) ∙ at in
    sym (slice_get-get_or xs i d (position-Some (λ x. bytes_eq name (f x)) xs i d here).0) ∙ ap (option_and_then (slice_get xs)) (sym here)
