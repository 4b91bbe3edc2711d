-- The scope of a handle.
use Rattle.std.proofs.Common.{ℕ, List, Option, Some, Result, Ok, Err}
use Rattle.vp_elab.specs.declared.object.ObjectId.{ObjectId}
use Rattle.vp_pragma.specs.declared.rights.Right.TheVariants as right
use Rattle.vp_vpi.specs.declared.error.VpiError.{VpiError}
use Rattle.vp_vpi.specs.Calls.{Refuses, allowed, scope_of, then_by}
use Rattle.vp_vpi.specs.Observers.{Observer}
use Rattle.vp_vpi.specs.SessionStates.{object_of}

-- what refuses an answer refuses what comes next of it
refused_next : {A B : Type 0} (due : Result A VpiError) (next : A → Result B VpiError) (e : VpiError) → Refuses due e → Refuses (then_by due next) e
refused_next (Ok x) next e told = absurd told
refused_next (Err refusal) next e told = told

-- what refuses its object refuses a scope
pub scope_refused : (observation : Observer) (handles : List (Option ObjectId)) (handle : ℕ) (e : VpiError) → Refuses (allowed observation right.List (object_of handles handle)) e → Refuses (scope_of observation handles (Some handle)) e
scope_refused observation handles handle e told = refused_next (allowed observation right.List (object_of handles handle)) _ e told
