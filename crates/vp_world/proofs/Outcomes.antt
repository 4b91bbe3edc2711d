-- An error of the simulation explains its refusal.
use Rattle.std.proofs.Common.{◌≡◌, ◌≢◌, ◌∙◌, ℕ, refl, sym, ap}
use Rattle.vp_world.specs.declared.error.WorldError.TheVariants as world_error
use Rattle.vp_text.specs.Refusals.{Explains}
use Rattle.vp_sim.specs.declared.error.SimError.{SimError}
use Rattle.vp_sim.specs.declared.error.SimError.TheVariants.{Finished, Idle, SlotNotDone, NoSuchChoice, TimeLimit, NoMemory}
use Rattle.vp_sim.specs.States as sim
use Rattle.vp_sim.specs.States.{Outcome, Goes, Refuses, State, advance, step}
use Rattle.vp_sim.specs.laws.Refusals.{IsOwn, advance_own, step_own}
use Rattle.vp_world.specs.declared.error.WorldError.TheVariants.{Sim}
use Rattle.vp_world.specs.Faults.{error_of}
use Rattle.vp_world.specs.History.{refusal_of_outcome}

told : (e : SimError) → e ≢ NoMemory → Sim e ≡ error_of e
told Finished h = refl
told Idle h = refl
told SlotNotDone h = refl
told NoSuchChoice h = refl
told TimeLimit h = refl
told NoMemory h = absurd (h refl)

explained_by : (o : Outcome) (e : SimError) → IsOwn o → Explains NoMemory (sim.refusal_in o) e → Explains world_error.NoMemory (refusal_of_outcome o) (error_of e)
explained_by (Goes s c) e own h = ap error_of h
explained_by (Refuses r) e own h = ap error_of h ∙ sym (told r own)

-- an error of a step explains its refusal
pub step_explained : (s : State) (k : ℕ) (e : SimError) → Explains NoMemory (sim.refusal_in (step s k)) e → Explains world_error.NoMemory (refusal_of_outcome (step s k)) (error_of e)
step_explained s k e h = explained_by (step s k) e (step_own s k) h

-- and so does an error of an advance
pub advance_explained : (s : State) (e : SimError) → Explains NoMemory (sim.refusal_in (advance s)) e → Explains world_error.NoMemory (refusal_of_outcome (advance s)) (error_of e)
advance_explained s e h = explained_by (advance s) e (advance_own s) h
