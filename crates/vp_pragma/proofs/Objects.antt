-- The objects that viewports name, by their numbers.
use Rattle.std.proofs.Common.{◌≡◌, ℕ, zero, suc, List, [], ◌∷◌, map, refl}
use Rattle.std.specs.Prelude.{option_map, slice_get}
use Rattle.vp_pragma.specs.declared.viewport.Viewport as declared
use Rattle.vp_pragma.specs.Envelopes.{object_of}
use Rattle.vp_pragma.specs.Reading.{objects_of, viewport_of}

-- the object of a number is that of the viewport of this number
pub object_is : (viewports : List declared.Viewport) (n : ℕ) → slice_get (objects_of viewports) n ≡ option_map object_of (slice_get (map viewport_of viewports) n)
object_is [] n = refl
object_is (v ∷ vs) zero = refl
object_is (v ∷ vs) (suc n) = object_is vs n
