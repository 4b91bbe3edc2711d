use Rattle.std.proofs.Common.{◌≡◌, ◌∙◌, None, Some, ap, length, refl, sym}
use Rattle.std.specs.Prelude.{slice_get}
use Rattle.std.proofs.lemmas.Bool.{ltb-false}
use Rattle.std.proofs.lemmas.Option.{slice_get_past, slice_get_read}
use Rattle.vp_elab.specs.Built.{Elaborated}
use Rattle.vp_elab.specs.declared.object.Object.{Object}
use Rattle.vp_resolve.specs.Constants.{constant_at}
use Rattle.vp_expr.specs.Start.{start_value}
use Rattle.vp_expr.proofs.Starts.{none_there, start_there}
use Rattle.vp_expr.proofs.values.start_at.Goals as goal

pub returns-in-Some : goal.returns-in-Some
returns-in-Some c =
    let d : Elaborated = c.args.checked.now in
    let o : Object = c.in-Some.object.now in
    let os = c.objects.result.now in
    let there : slice_get os c.args.id.0 ≡ Some o =
    slice_get_read os (length os) c.args.id.0 o refl c.in-Some.ensures.lookup.3.0 c.in-Some.ensures.lookup.1 in
    c.start.ensures
    ∙ ap (λ (e : Elaborated). start_value o.kind o.width (constant_at e c.args.id.0 o.width)) c.design.ensures
    ∙ start_there d os d.tree.nodes c.args.id.0 o c.objects.ensures.kinds c.objects.ensures.widths there

pub returns-in-None : goal.returns-in-None
returns-in-None c =
    let d : Elaborated = c.args.checked.now in
    let os = c.objects.result.now in
    let there : slice_get os c.args.id.0 ≡ None =
    slice_get_past os c.args.id.0 (ltb-false c.args.id.0 (length os) (sym (c.in-None.ensures {u = tt}).lookup.0)) in
    c.unknown.ensures ∙ none_there d os d.tree.nodes c.args.id.0 c.objects.ensures.kinds there
