-- The sizes in the tables of a design are those of its operands.
use Rattle.std.proofs.Common.{◌≡◌, ◌∙◌, ◌&&◌, ℕ, Bool, true, false, cond, List, Some, None, ap, sym, refl}
use Rattle.std.specs.List.{list_all}
use Rattle.vp_elab.specs.Built.{Elaborated}
use Rattle.vp_operand.specs.declared.operand.Operand.{Operand}
use Rattle.vp_expr.specs.declared.awaited.Awaited.{Awaited}
use Rattle.vp_expr.specs.declared.tables.Action.{Action}
use Rattle.vp_expr.specs.declared.tables.Process.{Process}
use Rattle.vp_expr.specs.declared.tables.Tables.{Tables}
use Rattle.vp_operand.specs.Arena.{IsSized, fitting, is_width, sizes_in}
use Rattle.vp_expr.specs.Awaits.{awaits_of, laid_of}
use Rattle.vp_expr.specs.Tables.{IsChecked, actions_of, processes_of, tables_of}
use Rattle.vp_resolve.specs.Checks.{refusal_of}
use Rattle.vp_resolve.specs.Operands.{all_fit, operands_of, sizes_of, widths_of}

pub tables_sized : (design : Elaborated) (t : Tables) → t ≡ tables_of design → list_all is_width t.sizes ≡ true → IsSized t.operands t.sizes
unfolding tables_of
tables_sized design t is fit = record {
  are_sizes = ap (λ (s : Tables). s.sizes) is ∙ sym (ap (λ (s : Tables). sizes_in s.operands) is);
  fit = fit;
}

-- sizes that fit
fits : (b : Bool) (ns ms : List ℕ) → cond b (Some ns) None ≡ Some ms → (b ≡ true) × (ms ≡ ns)
fits true ns ms h = (refl, cc)
fits false ns ms h = absurd cc

-- widths and sizes that were found to fit
module _ (d : Elaborated) (operands : List Operand) (widths sizes : List ℕ) (are : operands ≡ operands_of d) (wide : fitting (widths_of d) ≡ Some widths) (fit : fitting (sizes_in operands) ≡ Some sizes) where
  widths_fit : (list_all is_width (widths_of d) ≡ true) × (widths ≡ widths_of d)
  widths_fit = fits (list_all is_width (widths_of d)) (widths_of d) widths wide

  sizes_fit : (list_all is_width (sizes_in operands) ≡ true) × (sizes ≡ sizes_in operands)
  sizes_fit = fits (list_all is_width (sizes_in operands)) (sizes_in operands) sizes fit

  sizes_are : sizes ≡ sizes_of d
  sizes_are = sizes_fit.1 ∙ ap sizes_in are

  -- each of the design's fits
  pub design_fits : all_fit d ≡ true
  design_fits =
      ap (λ b. b && list_all is_width (sizes_of d)) widths_fit.0
      ∙ ap (list_all is_width) (sym sizes_are ∙ sizes_fit.1)
      ∙ sizes_fit.0

  -- and the tables that are made of them are the design's
  pub tables_checked : (actions : List Action) (processes : List Process) (awaited : List Awaited) (ends : List ℕ) → actions ≡ actions_of d sizes → processes ≡ processes_of d sizes → (awaited, ends) ≡ laid_of (awaits_of d operands) → refusal_of d ≡ None → IsChecked d (record { operands = operands; widths = widths; sizes = sizes; actions = actions; processes = processes; awaited = awaited; awaited_ends = ends })
  unfolding tables_of
  tables_checked actions processes awaited ends acts runs waits accepted =
      let all : actions ≡ actions_of d (sizes_of d) = acts ∙ ap (actions_of d) sizes_are in
      let each : processes ≡ processes_of d (sizes_of d) = runs ∙ ap (processes_of d) sizes_are in
      let laid : (awaited, ends) ≡ laid_of (awaits_of d (operands_of d)) = waits ∙ ap (λ (os : List Operand). laid_of (awaits_of d os)) are in
      let own : awaited ≡ (laid_of (awaits_of d (operands_of d))).0 = ap (λ (l : List Awaited × List ℕ). l.0) laid in
      let own_ends : ends ≡ (laid_of (awaits_of d (operands_of d))).1 = ap (λ (l : List Awaited × List ℕ). l.1) laid in
      record {
        accepted = accepted;
        tables_are = rw (own, own_ends, are, widths_fit.1, sizes_are, all, each) refl;
        wide = ap (list_all is_width) widths_fit.1 ∙ widths_fit.0;
        fit = ap (list_all is_width) sizes_fit.1 ∙ sizes_fit.0;
      }
