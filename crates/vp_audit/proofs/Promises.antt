-- What goes to a user of a legal log is refused only when out of memory.
use Rattle.std.proofs.Common.{◌≡◌, ◌∙◌, ℕ, Bool, true, false, List, Result, Ok, Err, IfOk, IfErr, IsOkUnless, refl, ap}
use Rattle.vp_policy.specs.Users.{member_at}
use Rattle.vp_policy.specs.View.{View, view_of}
use Rattle.vp_world.specs.Entries.{Entry}
use Rattle.vp_world.specs.Worlds.{Opening}
use Rattle.vp_replay.specs.declared.error.AuditError.{AuditError}
use Rattle.vp_replay.specs.declared.error.AuditError.TheVariants.{NoMemory, NotOpen}
use Rattle.vp_replay.specs.Faults.{MayRefuse}
use Rattle.vp_audit.specs.GoesTo.{GoesTo}
use Rattle.vp_replay.specs.Parts.{takes_all}
use Rattle.vp_replay.specs.declared.item.Projection.{Projection}
use Rattle.vp_replay.specs.Parts.{first_part}
use Rattle.vp_audit.specs.laws.Taken.{projection_taken}

-- what goes to a user of a legal log is taken up
pub goes_all : (v : View) (q : Projection) (opening : Opening) (u : ℕ) (log : List Entry) → GoesTo v q opening u log → takes_all (first_part v q.values) q.items ≡ true
goes_all v q opening u log his =
    ap (λ (w : View). takes_all (first_part w q.values) q.items) his.sees
    ∙ ap (λ (p : Projection). takes_all (first_part (view_of opening.design (member_at opening.policy.members u)) p.values) p.items) his.goes
    ∙ projection_taken opening his.right u log his.legal

-- where all is taken up, a refusal is out of memory
pub out_of_memory : {T : Type 0} (r : Result T AuditError) (taken : Bool) → taken ≡ true → IfErr r (MayRefuse taken) → IsOkUnless r NoMemory
out_of_memory r true e h = by_result r h where
  by_error : (x : AuditError) → MayRefuse true x → x ≡ NoMemory
  by_error NotOpen refused = absurd (cc)
  by_error NoMemory refused = refl

  by_result : {T : Type 0} (r : Result T AuditError) → IfErr r (MayRefuse true) → IsOkUnless r NoMemory
  by_result (Ok x) h = h
  by_result (Err x) h = by_error x h
out_of_memory r false e h = absurd (cc)

-- what follows of an answer, if there is one
pub if_ok : {T : Type 0} (r : Result T AuditError) (P Q : T → Type 0) → ((x : T) → P x → Q x) → IfOk r P → IfOk r Q
if_ok (Ok x) P Q f h = f x h
if_ok (Err x) P Q f h = h
