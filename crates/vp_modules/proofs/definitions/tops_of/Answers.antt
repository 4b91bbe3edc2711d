use Rattle.std.proofs.Common.{◌≡◌, ◌<◌, ℕ, List, Option, Some, None, get_or, length, sym, ap, ◌∙◌, arith}
use Rattle.std.proofs.lemmas.List.{get_or-map, length-map, take_all}
use Rattle.std.specs.Prelude.{not}
use Rattle.std.specs.List.{list_any}
use Rattle.vp_source.specs.declared.source.Item.TheVariants as item
use Rattle.vp_modules.specs.Items.{definition_number}
use Rattle.vp_modules.specs.Definitions.{is_number}
use Rattle.vp_modules.proofs.Looked.{nowhere}
use Rattle.vp_modules.proofs.Numbers.{in_range, tops_are}
use Rattle.vp_modules.proofs.definitions.tops_of.Goals as goal

pub index_mut-requires : goal.index_mut-requires
index_mut-requires c =
    let source = c.args.source.now in
    let within : c.loop-definition.definition-index < length source.items =
    omega (arith, ap length c.requires.definitions, length-map source.items (definition_number source)) in
    let at : definition_number source (get_or source.items c.loop-definition.definition-index (item.Initial 0 0)) ≡ Some c.in-Some.number =
    sym (get_or-map (definition_number source) source.items c.loop-definition.definition-index (item.Initial 0 0) None within)
    ∙ ap (λ (ds : List (Option ℕ)). get_or ds c.loop-definition.definition-index None) (sym c.requires.definitions) ∙ c.in-Some.is in
    omega (arith, in_range source _ c.in-Some.number at)

pub returns : goal.returns
returns c =
    c.from_vec.ensures
    ∙ tops_are c.args.source.now c.requires.once nowhere _ c.args.definitions.now c.requires.definitions c.loop-definition.invariant.marks
    (λ k l. c.loop-definition.invariant.marked k l ∙ ap (λ ds. not (list_any (is_number k) ds)) (take_all _ c.args.definitions.now (omega arith)))
