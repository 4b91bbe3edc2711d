-- What statements read, by what stands at their places.
use Rattle.std.proofs.Common.{◌≡◌, ℕ, ◌<◌, ltb, cond, Bool, true, false, Some, None, List, [], length-take, take, refl, arith}
use Rattle.std.proofs.lemmas.List.{get_or_past}
use Rattle.std.specs.Prelude.{slice_get}
use borrow.Author.Tests.{ltb-true, ltb-false}
use Rattle.vp_source.specs.declared.source.Source.{Source}
use Rattle.vp_source.specs.declared.statement.Statement.{Statement}
use Rattle.vp_operand.specs.declared.operand.Operand.{Operand}
use Rattle.vp_expr.specs.Awaits.{reads_below, reads_from, reads_in, reads_made}
use Rattle.vp_operand.proofs.Prefixes.{made_below, made_missing, past_end}

module _ (source : Source) (operands : List Operand) (ss : List Statement) (end place : ℕ) where
  -- the statement that is found at a place before an end
  found : (b : Bool) (s : Statement) → ltb place end ≡ b → cond b (slice_get ss place) None ≡ Some s → (place < end) × (reads_below source operands ss end place ≡ reads_made source operands ss place s)
  found true s h at =
      (ltb-true place end h, made_below (reads_from source operands) ss end place s [] (ltb-true place end h) at)
  found false s h at = absurd cc

  -- where none is found, nothing is read
  nothing : (b : Bool) → ltb place end ≡ b → None ≡ cond b (slice_get ss place) None → reads_below source operands ss end place ≡ []
  nothing true h none = made_missing (reads_from source operands) ss end place [] (past_end ss place none)
  nothing false h none =
      let read = reads_in source operands ss in
      get_or_past (take end read) place [] (omega (arith, length-take end read, ltb-false place end h))

  pub statement_found : (s : Statement) → cond (ltb place end) (slice_get ss place) None ≡ Some s → (place < end) × (reads_below source operands ss end place ≡ reads_made source operands ss place s)
  statement_found s at = found (ltb place end) s refl at

  pub statement_missing : None ≡ cond (ltb place end) (slice_get ss place) None → reads_below source operands ss end place ≡ []
  statement_missing none = nothing (ltb place end) refl none
