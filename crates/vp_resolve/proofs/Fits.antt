-- A design that is not refused fits: each object and each expression has 1 to 64 bits.
use Rattle.std.proofs.Common.{◌≡◌, ◌∙◌, suc, true, None, sym, ap}
use Rattle.std.proofs.lemmas.Bool.{and_from}
use Rattle.std.proofs.lemmas.List.Folds.{list_all-map}
use Rattle.std.specs.List.{list_all}
use Rattle.vp_source.specs.Places.{earliest}
use Rattle.vp_source.specs.Whole.{AreWhole}
use Rattle.vp_modules.specs.Items.{items_in, statements_in}
use Rattle.vp_modules.specs.Refusals.{first_in}
use Rattle.vp_elab.specs.Built.{Elaborated, IsElaborated}
use Rattle.vp_elab.specs.Elaboration.{further_limit}
use Rattle.vp_elab.specs.Tree.{Node}
use Rattle.vp_operand.specs.Arena.{is_width}
use Rattle.vp_resolve.specs.declared.error.ExprError.TheVariants.{TooWide, SignedCompare, BadSelect}
use Rattle.vp_resolve.specs.Checks.{bad_in, counted_sizes, first_bad, first_signed, first_wide, first_wide_in, refusal_of, wide_declared, wide_item, wide_target}
use Rattle.vp_resolve.specs.Operands.{all_fit}
use Rattle.vp_resolve.proofs.Gapless.{whole_expressions}
use Rattle.vp_resolve.proofs.Nowhere.{earlier_none, earliest_none, refused_none}
use Rattle.vp_resolve.proofs.Sizes.{literals_narrow, sizes_fit}
use Rattle.vp_resolve.proofs.Widths.{is_narrow, node_fits, nodes_fit}

-- nothing of a design is too wide, and no selection of it is bad
record IsFine (d : Elaborated) : Type 0 where
  declared : first_in d.source (wide_declared d.source) ≡ None
  narrow : first_wide_in d.source d.source.modules (counted_sizes d) ≡ None
  good : earliest (bad_in d) d.source.modules ≡ None

-- of a design that is not refused
fine : (d : Elaborated) → refusal_of d ≡ None → IsFine d
unfolding refusal_of first_wide first_bad
fine d h =
    let wide = refused_none d.source (λ line. TooWide line) (first_wide d) _ h in
    let signed = refused_none d.source (λ line. SignedCompare line) (first_signed d) _ wide.1 in
    let bad = refused_none d.source (λ line. BadSelect line) (first_bad d) _ signed.1 in
    let both = earlier_none (first_in d.source (wide_declared d.source)) (first_wide_in d.source d.source.modules (counted_sizes d)) wide.0 in
    record { declared = both.0; narrow = both.1; good = bad.0 }

-- its objects fit
objects_fit : (d : Elaborated) → IsElaborated d → AreWhole d.source → IsFine d → list_all node_fits d.tree.nodes ≡ true
objects_fit d is whole own =
    let source = d.source in
    let narrow = ap (list_all is_narrow) (sym (whole_expressions source whole)) ∙ literals_narrow source source.modules (counted_sizes d) own.narrow in
    ap (λ (x : Elaborated). list_all node_fits x.tree.nodes) is.is
    ∙ nodes_fit source is.protection narrow (λ k m at. (earlier_none (earliest wide_item (items_in source m)) (earliest wide_target (statements_in source m)) (earliest_none (wide_declared source) source.modules k m own.declared at)).0) (suc further_limit)

-- a design that is not refused fits
pub accepted_fits : (d : Elaborated) → IsElaborated d → AreWhole d.source → refusal_of d ≡ None → all_fit d ≡ true
accepted_fits d is whole h =
    let own = fine d h in
    let wide = objects_fit d is whole own in
    and_from _ _ (list_all-map is_width (λ (n : Node). n.width) d.tree.nodes ∙ wide)
    (sizes_fit d wide own.narrow own.good)
