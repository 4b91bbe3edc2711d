-- Where a fault stands that is none of tokens.
use Rattle.std.proofs.Common.{◌≡◌, ℕ, List, Option, Some, None, inr, subst, sym}
use Rattle.vp_lex.specs.declared.error.LexError.{LexError}
use Rattle.vp_design.specs.declared.error.DesignError.{DesignError}
use Rattle.vp_design.specs.declared.design.Located.{Located}
use Rattle.vp_design.specs.Diagnostics.{IsFound, IsFoundBy, IsLocatedIn, fault_of_tokens}

-- it is found where it is located
pub found_elsewhere : (text : List ℕ) (f : DesignError) (located : Option Located) → fault_of_tokens f ≡ None → IsLocatedIn text f located → IsFound text f located
found_elsewhere text f None none is = inr (inr is)
found_elsewhere text f (Some l) none is = subst (λ (e : Option LexError). IsFoundBy text e f (Some l)) (sym none) is
