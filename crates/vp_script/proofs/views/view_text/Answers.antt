use Rattle.std.proofs.Common.{◌∙◌, inr, subst, sym}
use Rattle.std.proofs.lemmas.Result.{IfErr-weaker, IfOk-weaker}
use Rattle.vp_design.specs.Designs.{IsDesignOf}
use Rattle.vp_script.proofs.views.view_text.Goals as goal

pub returns-clause-text : goal.returns-clause-text
returns-clause-text c =
    let of : IsDesignOf c.args.design.now c.design.result.now = subst (IsDesignOf c.args.design.now) (sym (c.design.ensures ∙ c.deref.ensures)) (c.in_ok-checked.ensures {u = tt}).design in
    IfOk-weaker c.file_text.result _ _ (λ text seen. (c.design.result.now, of, seen)) c.file_text.ensures.text

pub returns-clause-refused : goal.returns-clause-refused
returns-clause-refused c =
    let of : IsDesignOf c.args.design.now c.design.result.now = subst (IsDesignOf c.args.design.now) (sym (c.design.ensures ∙ c.deref.ensures)) (c.in_ok-checked.ensures {u = tt}).design in
    IfErr-weaker c.file_text.result _ _ (λ fault refused. inr (c.design.result.now, of, refused)) c.file_text.ensures.refused
