use Rattle.std.proofs.Common.{◌∙◌, ap, codes, filter, map}
use Rattle.std.proofs.lemmas.Result.{IfOk-weaker}
use Rattle.vp_pragma.specs.Rights.{has, name_of, set_of}
use Rattle.vp_replay.specs.Outline.{every_right}
use Rattle.vp_replay.proofs.Writing.{joined_same}
use Rattle.vp_replay.proofs.words.access_text.Goals as goal

pub returns : goal.returns
returns c =
    let names = c.in_ok-right_names.field-0.items in
    let same = joined_same (λ name. name.now) name_of (codes "+") c.deref.result.now (filter (λ r. has r (set_of c.args.rights)) every_right)
    (ap (map (λ name. name.now)) c.deref.ensures.value ∙ c.in_ok-right_names.ensures {u = tt}) in
    IfOk-weaker c.join.result _ _ (λ text is. is ∙ same) c.join.ensures.ok
