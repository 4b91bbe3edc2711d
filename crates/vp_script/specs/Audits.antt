-- An audit after a script: what one user was shown is what comes of what he can know (profile).
use Rattle.std.specs.Prelude.{◌≡◌, ◌⊎◌, ℕ, Bool, true, if◌then◌else◌, List, length, Option, Some, None}
use Rattle.vp_policy.specs.declared.error.PolicyError.TheVariants as policy_error
use Rattle.vp_policy.specs.Users.{user_of}
use Rattle.vp_world.specs.declared.error.WorldError.TheVariants as error
use Rattle.vp_world.specs.Entries.{Entry}
use Rattle.vp_world.specs.Worlds.{Opening}
use Rattle.vp_audit.specs.declared.audit.Audit.{Audit}
use Rattle.vp_audit.specs.Projections.{replies_of}
use Rattle.vp_audit.specs.Explanation.{log_explanation}
use Rattle.vp_script.specs.declared.audits.Audited.{Audited}
use Rattle.vp_script.specs.declared.error.ServeFault.{ServeFault}
use Rattle.vp_script.specs.declared.error.ServeFault.TheVariants as fault
use Rattle.vp_script.specs.Scripts.{IsAnswered, IsOpened, IsStopped, Script, new_world, opened}
use Rattle.vp_script.specs.Views.{IsViewRefusedBy}

-- ---- an audit

-- the audit of the user of a number, of a log: what he was shown is the same, as many replies as there are to his own events
abbrev pub audit_of : (user : ℕ) → List Entry → Audit
audit_of user log = record { same = true; number = length (replies_of user log) }

-- what the user of a number was shown by a log of a world of an opening, and what came to him of it, where it is asked for
abbrev pub explanation_if : (explain : Bool) → Opening → (user : ℕ) → List Entry → Option (List ℕ)
explanation_if explain opening user log = if explain then Some (log_explanation opening user log) else None

-- what an audit of the user of a number gives, of a log of a world of an opening
abbrev pub audited_of : (explain out_of_memory : Bool) → Opening → (user : ℕ) → List Entry → Audited
audited_of explain out_of_memory opening user log = record {
  audit = audit_of user log;
  explanation = explanation_if explain opening user log;
  out_of_memory = out_of_memory;
}

-- a script, from how its world opens to what it is after an input: the input is read to its end, and what is reported goes nowhere;
-- memory was missing only where it is told
pub record RunsTo (seeds : ℕ) (out_of_memory : Bool) (opening : Opening) (unread still_unread : Option (List ℕ)) (following : Script) : Type 0 where
  pub lines : ℕ
  pub answered : IsAnswered out_of_memory (opened seeds opening) following unread still_unread None None lines

-- an audit of the user of a number, of the log after a script over an input, which also tells that memory was missing
pub record IsAuditAfter (seeds : ℕ) (explain : Bool) (opening : Opening) (user : ℕ) (unread still_unread : Option (List ℕ)) (audited : Audited) : Type 0 where
  pub following : Script
  pub runs : RunsTo seeds audited.out_of_memory opening unread still_unread following
  pub is : audited ≡ audited_of explain audited.out_of_memory opening user following.running.world.log

-- a text and a policy file open a script, and the user of a name in the file has this number
pub record OpensFor (text policy name : List ℕ) (opening : Opening) (user : ℕ) : Type 0 where
  pub opens : IsOpened text policy (new_world opening)
  pub named : user_of opening.policy.members name ≡ Some user

-- an audit of the user of a name, of the log after the script of a text and a policy file over an input
pub record IsAudited (seeds : ℕ) (explain : Bool) (text policy name : List ℕ) (unread still_unread : Option (List ℕ)) (audited : Audited) : Type 0 where
  pub opening : Opening
  pub user : ℕ
  pub opens : OpensFor text policy name opening user
  pub following : IsAuditAfter seeds explain opening user unread still_unread audited

-- ---- why there is none

-- memory is lacking
abbrev pub IsOutOfMemory : ServeFault → Type 0
IsOutOfMemory (fault.Policy e) = e ≡ policy_error.NoMemory
IsOutOfMemory (fault.World e) = e ≡ error.NoMemory
IsOutOfMemory fault.NoMemory = Unit {0}
IsOutOfMemory f = ⊥

-- a script over an input has ended without an audit: by a fault of the reader; or at the end of the input, when out of memory
abbrev pub EndsRunBy : (seeds : ℕ) → Opening → (unread still_unread : Option (List ℕ)) → ServeFault → Type 0
EndsRunBy seeds opening unread still_unread (fault.Lines e) = IsStopped e (opened seeds opening) unread still_unread None None
EndsRunBy seeds opening unread still_unread fault.NoMemory =
    (out_of_memory : Bool) × (following : Script) × RunsTo seeds out_of_memory opening unread still_unread following
EndsRunBy seeds opening unread still_unread f = ⊥

-- the same, or before anything was read, when out of memory
abbrev pub EndsOpenedBy : (seeds : ℕ) → Opening → (unread still_unread : Option (List ℕ)) → ServeFault → Type 0
EndsOpenedBy seeds opening unread still_unread f =
    (IsOutOfMemory f × (still_unread ≡ unread)) ⊎ EndsRunBy seeds opening unread still_unread f

-- the script of a text and a policy file that has the user of a name has ended without an audit
abbrev pub EndsNamedBy : (seeds : ℕ) → (text policy name : List ℕ) → (unread still_unread : Option (List ℕ)) → ServeFault → Type 0
EndsNamedBy seeds text policy name unread still_unread f =
    (opening : Opening) × (user : ℕ) × OpensFor text policy name opening user × EndsRunBy seeds opening unread still_unread f

-- the fault that ended an audit: of the text, then of the policy file, then of the name, as a view is refused, before which nothing was
-- read; then of the reader; or memory is lacking
abbrev pub EndsAuditBy : (seeds : ℕ) → (text policy name : List ℕ) → (unread still_unread : Option (List ℕ)) → ServeFault → Type 0
EndsAuditBy seeds text policy name unread still_unread f =
    (IsViewRefusedBy text policy name f × (still_unread ≡ unread)) ⊎ EndsNamedBy seeds text policy name unread still_unread f
