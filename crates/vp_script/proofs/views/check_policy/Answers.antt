use Rattle.std.proofs.Common.{◌∙◌, inr, subst, sym}
use Rattle.std.proofs.lemmas.Result.{IfErr-weaker, on_ok_weaker}
use Rattle.vp_design.specs.Designs.{IsDesignOf}
use Rattle.vp_script.proofs.views.check_policy.Goals as goal

pub returns-clause-right : goal.returns-clause-right
returns-clause-right c =
    let of : IsDesignOf c.args.design.now c.design.result.now = subst (IsDesignOf c.args.design.now) (sym (c.design.ensures ∙ c.deref.ensures)) (c.in_ok-checked.ensures {u = tt}).design in
    on_ok_weaker c.check_file.result (λ right. (c.design.result.now, of, right)) c.check_file.ensures.policy

pub returns-clause-refused : goal.returns-clause-refused
returns-clause-refused c =
    let of : IsDesignOf c.args.design.now c.design.result.now = subst (IsDesignOf c.args.design.now) (sym (c.design.ensures ∙ c.deref.ensures)) (c.in_ok-checked.ensures {u = tt}).design in
    IfErr-weaker c.check_file.result _ _ (λ fault refused. inr (c.design.result.now, of, refused)) c.check_file.ensures.refused
