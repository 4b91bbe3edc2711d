-- Each process of a design whose sizes fit stands in its tables.
use Rattle.std.proofs.Common.{◌≡◌, ◌∙◌, ◌≤◌, ◌&&◌, ℕ, zero, suc, true, cond, List, [], ◌∷◌, Option, Some, None, get_or, leb, length, map, slice_get, refl, sym, ap, arith}
use Rattle.std.specs.Prelude.{is_some, max, option_map}
use Rattle.std.specs.List.{cons_option, filter_map, list_all}
use Rattle.std.specs.Option.{option_map_or}
use Rattle.std.proofs.Math.Nat.{le-max_right, max-le}
use Rattle.std.proofs.lemmas.Bool.{and_parts, le-leb}
use Rattle.vp_elab.specs.declared.object.ObjectId.{ObjectId}
use Rattle.vp_elab.specs.Built.{Elaborated}
use Rattle.vp_expr.specs.Origins as origin
use Rattle.vp_expr.specs.Origins.{Origin, origins_of}
use Rattle.vp_elab.specs.Tree.{Node}
use Rattle.vp_expr.specs.declared.tables.Process.TheVariants as process
use Rattle.vp_expr.specs.declared.tables.Tables.{Tables}
use Rattle.vp_operand.specs.Arena.{is_width}
use Rattle.vp_expr.specs.Tables.{IsChecked, assignment_of, driven_size, process_of, tables_of}
use Rattle.vp_operand.specs.Ids.{Sized}
use Rattle.vp_resolve.specs.Names.{width_in}
use Rattle.vp_resolve.specs.Operands.{sizes_of, widths_of}
use Rattle.vp_operand.proofs.Arenas.{each_fits, width_from}

-- an object has at most 64 bits
width_there : (nodes : List Node) (i : ℕ) → list_all is_width (map (λ (n : Node). n.width) nodes) ≡ true → option_map_or (λ (n : Node). n.width) (slice_get nodes i) 0 ≤ 64
width_there [] i h = omega arith
width_there (n ∷ ns) zero h = (width_from n.width (and_parts (is_width n.width) (list_all is_width (map (λ (m : Node). m.width) ns)) h).0).1
width_there (n ∷ ns) (suc i) h = width_there ns i (and_parts (is_width n.width) (list_all is_width (map (λ (m : Node). m.width) ns)) h).1

-- the greater of such a width and a size that fits
greater_fits : (a b : ℕ) → a ≤ 64 → is_width b ≡ true → is_width (max a b) ≡ true
greater_fits a b h k =
    let fits = width_from b k in
    let right = le-max_right a b in
    let low : 1 ≤ max a b = omega (arith, right, fits.0) in
    ap (λ t. t && leb (max a b) 64) (le-leb 1 (max a b) low) ∙ le-leb (max a b) 64 (max-le h fits.1)

kept : {A : Type 0} (o : Option A) (l : List A) → is_some o ≡ true → length (cons_option o l) ≡ suc (length l)
kept None l h = absurd cc
kept (Some a) l h = refl

module _ (d : Elaborated) (wide : list_all is_width (widths_of d) ≡ true) (fit : list_all is_width (sizes_of d) ≡ true) where
  assigns : (object net instance : ObjectId) (value : ℕ) → is_some (assignment_of d (sizes_of d) object net instance value) ≡ true
  assigns object net instance value =
      let size = driven_size d (sizes_of d) net.0 value in
      let sized : Sized = record { place = value; size = size } in
      ap (λ t. is_some (option_map (process.Assignment object net instance) (cond t (Some sized) None)))
      (greater_fits (width_in d net.0) (get_or (sizes_of d) value 1) (width_there d.tree.nodes net.0 wide) (each_fits (sizes_of d) value fit))

  runs : (p : Origin) → is_some (process_of d (sizes_of d) p) ≡ true
  runs (origin.Procedure object instance repeats body) = refl
  runs (origin.Assignment object instance net value) = assigns object net instance value
  runs (origin.Inward port instance value) = assigns port port instance value
  runs (origin.Outward port net) = refl

  all_of : (ps : List Origin) → length (filter_map (process_of d (sizes_of d)) ps) ≡ length ps
  all_of [] = refl
  all_of (p ∷ ps) = kept (process_of d (sizes_of d) p) (filter_map (process_of d (sizes_of d)) ps) (runs p) ∙ ap suc (all_of ps)

-- the tables of a checked design have all of its processes
pub all_run : (d : Elaborated) (t : Tables) → IsChecked d t → length t.processes ≡ length (origins_of d)
unfolding tables_of
all_run d t checked =
    let wide : list_all is_width (widths_of d) ≡ true = sym (ap (λ (s : Tables). list_all is_width s.widths) checked.tables_are) ∙ checked.wide in
    let fit : list_all is_width (sizes_of d) ≡ true = sym (ap (λ (s : Tables). list_all is_width s.sizes) checked.tables_are) ∙ checked.fit in
    ap (λ (s : Tables). length s.processes) checked.tables_are ∙ all_of d wide fit (origins_of d)
