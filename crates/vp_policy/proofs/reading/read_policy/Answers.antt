use Rattle.std.proofs.Common.{◌≡◌, ℕ, Err, List, Ok, ap, subst, sym, IfErr, IfOk}
use Rattle.std.specs.Prelude.{Result}
use Rattle.std.specs.Result.{result_err}
use Rattle.vp_policy.specs.declared.error.PolicyError.TheVariants.{NoMemory}
use Rattle.vp_text.specs.Refusals.{MayExplain}
use Rattle.serde_json.specs.View.{view}
use Rattle.vp_policy.specs.declared.error.PolicyError.{PolicyError}
use Rattle.vp_policy.specs.File.{PolicyFile, file_in}
use Rattle.vp_policy.proofs.Files.{file_of_json, file_of_other}
use Rattle.vp_policy.proofs.reading.read_policy.Goals as goal

pub returns-in-Ok-clause-ok : goal.returns-in-Ok-clause-ok
returns-in-Ok-clause-ok c =
    let authors : List (List ℕ) = c.args.design.now.tree.authors in
    let read = c.in-Ok.ensures {u = tt} in
    subst (λ (due : Result PolicyFile PolicyError). IfOk c.policy_of.result (λ policy. due ≡ Ok (file_in policy)))
    (sym (file_of_json authors c.args.bytes.now (view c.in-Ok.file) read.utf8 read.value)) c.policy_of.ensures.ok

pub returns-in-Ok-clause-refused : goal.returns-in-Ok-clause-refused
returns-in-Ok-clause-refused c =
    let authors : List (List ℕ) = c.args.design.now.tree.authors in
    let read = c.in-Ok.ensures {u = tt} in
    subst (λ (due : Result PolicyFile PolicyError). IfErr c.policy_of.result (MayExplain NoMemory (result_err due)))
    (sym (file_of_json authors c.args.bytes.now (view c.in-Ok.file) read.utf8 read.value)) c.policy_of.ensures.refused

pub returns-in-Err-NotJson-clause-refused : goal.returns-in-Err-NotJson-clause-refused
returns-in-Err-NotJson-clause-refused c other =
    ap result_err (file_of_other c.args.design.now.tree.authors c.args.bytes.now ((c.in-Err-NotJson.ensures {u = tt}).not_json (ap Err c.in-Err-NotJson.field-0-is)))
