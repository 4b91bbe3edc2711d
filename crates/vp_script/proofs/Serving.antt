-- A kept script serves as the script says.
use Rattle.std.proofs.Common.{inl, inr, ◌≡◌, ◌∙◌, ℕ, Bool, true, List, [], ◌∷◌, Option, Some, None, Result, Ok, Err, ap, subst}
use Rattle.vp_wire.specs.declared.dialogue.Stage.{Stage}
use Rattle.vp_wire.specs.declared.dialogue.Stage.TheVariants.{Before, Open, Closed}
use Rattle.vp_answer.specs.declared.request.Request.{Request}
use Rattle.vp_answer.specs.declared.reply.Refusal.{Refusal}
use Rattle.vp_answer.specs.declared.reply.Reply.{Reply}
use Rattle.vp_world.specs.declared.error.WorldError.{WorldError}
use Rattle.vp_world.specs.declared.event.Event.{Event}
use Rattle.vp_world.specs.History.{refused_by}
use Rattle.vp_world.specs.Worlds.{WorldLog}
use Rattle.vp_wire.specs.declared.error.WireError.{WireError}
use Rattle.vp_wire.specs.declared.error.WireError.TheVariants as wire
use Rattle.vp_wire.specs.Dialogue.{Stops, Answers, AnswersAll, Calls, Closes, IsWhole, Point, Tells, Turn, error_line, turn_of}
use Rattle.vp_wire.specs.Lines.{line_of}
use Rattle.vp_wire.specs.Reading.{StaysTrue}
use Rattle.vp_wire.proofs.Answering.{still_reply_line}
use Rattle.vp_script.specs.declared.script_session.ScriptSession.{ScriptSession}
use Rattle.vp_script.specs.Keeping.{Keeps, KeepsNow, script_of}
use Rattle.vp_script.specs.Pending.{is_no_memory}
use Rattle.vp_script.specs.Scripts.{Applied, AppliedBy, IsAnswered, IsStopped, Resumes, Running, Runs, Script, Serves, ServesNow, event_of, session_after, with_world}

-- a run in which memory was not lacking is one in which it may have been
pub runs_more : (a b : Bool) (r q : Running) → (a ≡ true → b ≡ true) → Runs a r q → Runs b r q
runs_more a b r q up (n, happened, ends) = (n, happened, elim ends [ inl out_of_memory ↦ inl (up out_of_memory) | inr refused ↦ inr refused ])

-- so of what a world does with an event, by its refusal, and with an event, if there is one
applied_by_more : (a b : Bool) (refused : Option WorldError) (w v : WorldLog) (e : Event) (answer : Reply) → (a ≡ true → b ≡ true) → AppliedBy a refused w e answer v → AppliedBy b refused w e answer v
applied_by_more a b (Some x) w v e answer up told = told
applied_by_more a b None w v e answer up (inl done) = inl done
applied_by_more a b None w v e answer up (inr (missing, told, same)) = inr (up missing, told, same)

applied_more : (a b : Bool) (e : Result Event Refusal) (w v : WorldLog) (answer : Reply) → (a ≡ true → b ≡ true) → Applied a e w answer v → Applied b e w answer v
applied_more a b (Err x) w v answer up applied = applied
applied_more a b (Ok e) w v answer up applied = applied_by_more a b (refused_by w e) w v e answer up applied

serves_now_more : (a b : Bool) (before after : Script) (r : Request) (answer : Reply) → (a ≡ true → b ≡ true) → ServesNow a before r answer after → ServesNow b before r answer after
serves_now_more a b before after r answer up s = record {
  asked = s.asked;
  applied = applied_more a b (event_of before.session r) before.running.world s.asked answer up s.applied;
  session = s.session;
  runs = runs_more a b (with_world before.running s.asked) after.running up s.runs;
}

resumes_more : (a b : Bool) (r q : Running) → (a ≡ true → b ≡ true) → Resumes a r q → Resumes b r q
resumes_more a b r q up (inl same) = inl same
resumes_more a b r q up (inr (lacking, runs)) = inr (up lacking, runs)

serves_more : (a b : Bool) (before after : Script) (r : Request) (answer : Reply) → (a ≡ true → b ≡ true) → Serves a before r answer after → Serves b before r answer after
serves_more a b before after r answer up (inl (ready, resumes, s)) =
    inl (ready, resumes_more a b before.running ready up resumes, serves_now_more a b (record before { running = ready }) after r answer up s)
serves_more a b before after r answer up (inr (lacking, told, session, runs)) = inr (up lacking, told, session, runs)

-- a request is answered, and then the simulation runs; that memory was missing for either is remembered
pub answered_now :
    (k l : ScriptSession) (asked : Running) (r : Request) (answer : Reply) (lacks : Bool) → Applied (is_no_memory answer) (event_of k.session r) k.running.world answer asked.world
    → asked ≡ with_world k.running asked.world → l.session ≡ session_after k.session answer → Runs lacks asked l.running
    → StaysTrue k.out_of_memory l.out_of_memory → StaysTrue (is_no_memory answer) l.out_of_memory → StaysTrue lacks l.out_of_memory → KeepsNow k r answer l
answered_now k l asked r answer lacks applied kept session runs stays missing lacking = record {
  serves = record {
    asked = asked.world;
    applied = applied_more (is_no_memory answer) l.out_of_memory (event_of k.session r) k.running.world asked.world answer missing applied;
    session = session;
    runs = subst (λ (r : Running). Runs l.out_of_memory r l.running) kept (runs_more lacks l.out_of_memory asked l.running lacking runs);
  };
  out_of_memory = stays;
}

-- the point of a script that is kept
abbrev point_of : Point ScriptSession → Point Script
point_of p = record { stage = p.stage; caller = script_of p.caller }

-- at this point memory has been lacking only if it has in the end
abbrev Fed : Point ScriptSession → Bool → Type 0
Fed p b = p.caller.out_of_memory ≡ true → b ≡ true

fed_before : (p q : Point ScriptSession) (b : Bool) → q ≡ p → Fed q b → Fed p b
fed_before p q b same fed = λ out_of_memory. fed (ap (λ (o : Point ScriptSession). o.caller.out_of_memory) same ∙ out_of_memory)

-- a dialogue in which memory was missing for a line before tells so now
module _ (before now : Bool) (stays : StaysTrue before now) (b : Bool) where
  one_served : (turn : Turn) (p q : Point ScriptSession) (reply_line : List ℕ) → Answers before Keeps turn p reply_line q → Fed q b → Answers now (Serves b) turn (point_of p) reply_line (point_of q) × Fed p b
  one_served (Tells text) p q reply_line (is_reply_line, same) fed =
      ((still_reply_line before now (error_line text) reply_line stays is_reply_line, ap point_of same), fed_before p q b same fed)
  one_served (Calls r) p q reply_line (inl asked) fed = (
    inl (record {
      reply = asked.reply;
      called = serves_more q.caller.out_of_memory b (script_of p.caller) (script_of q.caller) r asked.reply fed asked.called.serves;
      is_reply_line = still_reply_line before now (line_of asked.reply) reply_line stays asked.is_reply_line;
      stage = asked.stage;
    }),
    λ out_of_memory. fed (asked.called.out_of_memory out_of_memory),
  )
  one_served (Calls r) p q reply_line (inr ((missing, told), same)) fed = (inr ((stays missing, told), ap point_of same), fed_before p q b same fed)

  all_served : (lines reply_lines : List (List ℕ)) (p q : Point ScriptSession) → AnswersAll before Keeps lines p reply_lines q → Fed q b → AnswersAll now (Serves b) lines (point_of p) reply_lines (point_of q) × Fed p b
  all_served [] [] p q same fed = (ap point_of same, fed_before p q b same fed)
  all_served [] (t ∷ reply_lines) p q none fed = absurd none
  all_served (line ∷ lines) [] p q none fed = absurd none
  all_served (line ∷ lines) (t ∷ reply_lines) p q (next, one, more) fed =
      let rest = all_served lines reply_lines next q more fed in
      let first = one_served (turn_of p.stage line) p next t one rest.1 in
      ((point_of next, first.0, rest.0), first.1)

module _ (b : Bool) where
  closed : (stage : Stage) (c d : ScriptSession) → Closes Keeps stage c d → (d.out_of_memory ≡ true → b ≡ true) → Closes (Serves b) stage (script_of c) (script_of d) × (c.out_of_memory ≡ true → b ≡ true)
  closed Before c d same fed = (ap script_of same, λ out_of_memory. fed (ap (λ (k : ScriptSession). k.out_of_memory) same ∙ out_of_memory))
  closed Open c d (reply, kept) fed = ((reply, serves_more d.out_of_memory b (script_of c) (script_of d) _ reply fed kept.serves), λ out_of_memory. fed (kept.out_of_memory out_of_memory))
  closed Closed c d same fed = (ap script_of same, λ out_of_memory. fed (ap (λ (k : ScriptSession). k.out_of_memory) same ∙ out_of_memory))

  stopped_by : (unread still_unread held holds : Option (List ℕ)) (e : WireError) (c : ScriptSession) (end : Point ScriptSession) → Stops e Keeps unread still_unread held holds c end → Fed end b → Stops e (Serves b) unread still_unread held holds (script_of c) (point_of end)
  stopped_by unread still_unread held holds wire.ReadFault c end d fed = record { input = d.input; read = d.read; lines = d.lines; are_its = d.are_its; reply_lines = d.reply_lines; answers = (all_served true true (λ missing. missing) b d.lines d.reply_lines (record { stage = Before; caller = c }) end d.answers fed).0; written = d.written; is_out = d.is_out; appended = d.appended }
  stopped_by unread still_unread held holds wire.TurnLimit c end d fed = record { input = d.input; read = d.read; lines = d.lines; are_its = d.are_its; reply_lines = d.reply_lines; answers = (all_served true true (λ missing. missing) b d.lines d.reply_lines (record { stage = Before; caller = c }) end d.answers fed).0; written = d.written; is_out = d.is_out; appended = d.appended }
  stopped_by unread still_unread held holds wire.WriteFault c end d fed = record { input = d.input; read = d.read; lines = d.lines; are_its = d.are_its; reply_lines = d.reply_lines; answers = (all_served true true (λ missing. missing) b d.lines d.reply_lines (record { stage = Before; caller = c }) end d.answers fed).0; written = d.written; is_out = d.is_out; appended = d.appended }
  stopped_by unread still_unread held holds wire.LineTooLong c end none fed = absurd none
  stopped_by unread still_unread held holds wire.BadJson c end none fed = absurd none
  stopped_by unread still_unread held holds wire.BadRequest c end none fed = absurd none
  stopped_by unread still_unread held holds wire.NoMemory c end none fed = absurd none

-- a session with a kept script
pub served : {unread still_unread held holds : Option (List ℕ)} (c d : ScriptSession) (end : Point ScriptSession) (lines : ℕ) (before out_of_memory : Bool) → StaysTrue d.out_of_memory out_of_memory → StaysTrue before out_of_memory → IsWhole before Keeps unread still_unread held holds c end lines → Closes Keeps end.stage end.caller d
    → IsAnswered out_of_memory (script_of c) (script_of d) unread still_unread held holds lines
served c d end lines before out_of_memory fed stays w closes =
    let last = closed out_of_memory end.stage end.caller d closes fed in
    let all = all_served before out_of_memory stays out_of_memory w.dialogue.lines w.dialogue.reply_lines (record { stage = Before; caller = c }) end w.dialogue.answers last.1 in
    record {
      end = point_of end;
      whole = record {
        dialogue = record {
          input = w.dialogue.input;
          read = w.dialogue.read;
          lines = w.dialogue.lines;
          are_its = w.dialogue.are_its;
          reply_lines = w.dialogue.reply_lines;
          answers = all.0;
          written = w.dialogue.written;
          is_out = w.dialogue.is_out;
          appended = w.dialogue.appended;
        };
        at_end = w.at_end;
        count = w.count;
      };
      closes = last.0;
    }

-- a session with a kept script that stopped
pub stopped : {unread still_unread held holds : Option (List ℕ)} (e : WireError) (c d : ScriptSession) (end : Point ScriptSession) → Stops e Keeps unread still_unread held holds c end → Closes Keeps end.stage end.caller d
    → IsStopped e (script_of c) unread still_unread held holds
stopped e c d end s closes =
    let last = closed d.out_of_memory end.stage end.caller d closes (λ out_of_memory. out_of_memory) in
    record {
      out_of_memory = d.out_of_memory;
      end = point_of end;
      stops = stopped_by d.out_of_memory _ _ _ _ e c end s last.1;
      following = script_of d;
      closes = last.0;
    }
