-- What a contract sees of the fields of a world.
use Rattle.std.specs.Prelude.{◌≡◌, ℕ, List, All, Option}
use Rattle.vp_policy.specs.PolicyState.{PolicyState}
use Rattle.vp_race.specs.Recording.{Recorded}
use Rattle.vp_race.specs.Segments.{Run, FindingState}
use Rattle.vp_world.specs.declared.limits.Limits.{Limits}
use Rattle.vp_answer.specs.OpenSessions.{OpenSessionState}
use Rattle.vp_world.specs.Worlds.{WorldState}

-- how a world of these fields began, and its state: of the two policies, the first opened it and the second is in force
abbrev pub shown : Recorded → (book : List FindingState) → (first policy : PolicyState) → Limits → List OpenSessionState → List ℕ → Option ℕ → WorldState
shown r book first policy limits sessions opens goal = record {
  opening = record { design = r.simulation.design; policy = first; limits = limits };
  state = record {
    run = r.simulation;
    segments = r.segments;
    book = book;
    policy = policy;
    sessions = sessions;
    opens = opens;
    goal = goal;
  };
}

-- the segments of a run are of its design: the one that is open, and each that is kept
pub record AreOfDesign (r : Recorded) : Type 0 where
  pub opened : r.segments.opened.start.design ≡ r.simulation.design
  pub kept : All (λ (run : Run). run.start.design ≡ r.simulation.design) r.segments.kept
