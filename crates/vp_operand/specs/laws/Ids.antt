-- Laws of expressions by their places.
use Rattle.std.proofs.Common.{◌≡◌, refl}
use Rattle.vp_bits.specs.Vector.{IsWidth}
use Rattle.vp_operand.specs.declared.id.ExprId.TheInside.{Inside}
use Rattle.vp_operand.specs.Ids.{Sized}

-- a place and a size give both back
pub inverse_of_view : (e : Inside) → IsWidth e.size → (let seen : Sized = record { place = e.place; size = e.size } in let given : Inside = record { place = seen.place; size = seen.size } in given ≡ e)
inverse_of_view e fits = refl
