-- How the world of a script began stays as it was, and how many entries of its log were handed out.
use Rattle.std.proofs.Common.{◌≡◌, ◌∙◌, ℕ, zero, suc, Bool, false, true, List, [], ◌∷◌, Option, Some, None, Result, Ok, Err, refl, subst, inl, inr, ap}
use Rattle.std.specs.Prelude.{if◌then◌else◌, is_none}
use Rattle.vp_race.specs.Segments.{FindingState}
use Rattle.vp_answer.specs.declared.request.Call.TheVariants as call
use Rattle.vp_answer.specs.declared.request.Request.{Request}
use Rattle.vp_answer.specs.declared.request.Request.TheVariants as request
use Rattle.vp_answer.specs.declared.reply.Refusal.{Refusal}
use Rattle.vp_answer.specs.declared.reply.Reply.{Reply}
use Rattle.vp_world.specs.declared.event.Event.{Event}
use Rattle.vp_world.specs.declared.event.Event.TheVariants as event
use Rattle.vp_world.specs.declared.error.WorldError.{WorldError}
use Rattle.vp_world.specs.History.{refused_by, with_entry}
use Rattle.vp_world.specs.Worlds.{Opening, WorldLog}
use Rattle.vp_wire.specs.declared.dialogue.Stage.{Stage}
use Rattle.vp_wire.specs.declared.dialogue.Stage.TheVariants.{Before, Open, Closed}
use Rattle.vp_wire.specs.Dialogue.{Answers, AnswersAll, Calls, Closes, Point, Tells, Turn, turn_of}
use Rattle.vp_script.specs.Scripts.{Applied, AppliedBy, Happen, IsAnswered, Running, Runs, Resumes, Script, Serves, ServesNow, next_event, searched, turned_by, with_event_if, with_world}
use Rattle.vp_script.proofs.Turns.{which}

-- what of a world no event changes: how it began, and how many entries of its log were handed out
abbrev pub settled : WorldLog → Opening × ℕ
settled w = (w.opening, w.handed_out)

-- an event leaves it that happens or not
settled_if : (w : WorldLog) (e : Event) (b : Bool) → settled (if b then with_entry w e else w) ≡ settled w
settled_if w e true = refl
settled_if w e false = refl

-- an event leaves it, by its refusal
by_refusal : (out_of_memory : Bool) (refusal : Option WorldError) (w v : WorldLog) (e : Event) (answer : Reply) → AppliedBy out_of_memory refusal w e answer v → settled v ≡ settled w
by_refusal out_of_memory (Some x) w v e answer (told, same) = ap settled same
by_refusal out_of_memory None w v e answer (inl (told, same)) = ap settled same
by_refusal out_of_memory None w v e answer (inr (missing, told, same)) = ap settled same

-- so does a request, whether there is an event of it or not
pub applied_keeps : (out_of_memory : Bool) (e : Result Event Refusal) (w v : WorldLog) (answer : Reply) → Applied out_of_memory e w answer v → settled v ≡ settled w
applied_keeps out_of_memory (Err x) w v answer (told, same) = ap settled same
applied_keeps out_of_memory (Ok e) w v answer applied = by_refusal out_of_memory (refused_by w e) w v e answer applied

-- and what happens next
turn_keeps : (seeds : ℕ) (w : WorldLog) (found : List FindingState) (q : Running) → turned_by seeds w found ≡ Some q → settled q.world ≡ settled w
turn_keeps seeds w [] q h =
    elim (which (is_none (refused_by w event.TakeJob)) (is_none (refused_by w (next_event w))) (record { world = with_entry w event.TakeJob; found = searched seeds w; seeds = seeds }) (record { world = with_entry w (next_event w); found = []; seeds = seeds }) q h) [
      | inl (b, e) ↦ subst (λ (r : Running). settled r.world ≡ settled w) e refl
      | inr (c, e) ↦ subst (λ (r : Running). settled r.world ≡ settled w) e refl
    ]
turn_keeps seeds w (f ∷ fs) q h =
    let e : record { world = with_event_if w (event.Book f); found = fs; seeds = seeds } ≡ q = cc in
    subst (λ (r : Running). settled r.world ≡ settled w) e (settled_if w (event.Book f) (is_none (refused_by w (event.Book f))))

happen_keeps : (n : ℕ) (r q : Running) → Happen n r q → settled q.world ≡ settled r.world
happen_keeps zero r q same = ap (λ (p : Running). settled p.world) same
happen_keeps (suc n) r q (p, before, last) = turn_keeps p.seeds p.world p.found q last ∙ happen_keeps n r p before

-- and a run of the simulation
pub runs_keep : (out_of_memory : Bool) (r q : Running) → Runs out_of_memory r q → settled q.world ≡ settled r.world
runs_keep out_of_memory r q (n, happened, ends) = happen_keeps n r q happened

-- so a request that is served leaves it
serves_now_keeps : (out_of_memory : Bool) (before after : Script) (r : Request) (answer : Reply) → ServesNow out_of_memory before r answer after → settled after.running.world ≡ settled before.running.world
serves_now_keeps out_of_memory before after r answer s =
    runs_keep out_of_memory (with_world before.running s.asked) after.running s.runs ∙ applied_keeps out_of_memory _ before.running.world s.asked answer s.applied

resumes_keep : (out_of_memory : Bool) (r q : Running) → Resumes out_of_memory r q → settled q.world ≡ settled r.world
resumes_keep out_of_memory r q (inl same) = ap (λ (p : Running). settled p.world) same
resumes_keep out_of_memory r q (inr (lacking, runs)) = runs_keep false r q runs

serves_keeps : (out_of_memory : Bool) (before after : Script) (r : Request) (answer : Reply) → Serves out_of_memory before r answer after → settled after.running.world ≡ settled before.running.world
serves_keeps out_of_memory before after r answer (inl (ready, resumes, s)) =
    serves_now_keeps out_of_memory (record before { running = ready }) after r answer s ∙ resumes_keep out_of_memory before.running ready resumes
serves_keeps out_of_memory before after r answer (inr (lacking, told, session, runs)) = runs_keep true before.running after.running runs

-- the world at a point of a dialogue
module _ (out_of_memory : Bool) where
  line_keeps : (turn : Turn) (p q : Point Script) (reply_line : List ℕ) → Answers out_of_memory (Serves out_of_memory) turn p reply_line q → settled q.caller.running.world ≡ settled p.caller.running.world
  line_keeps (Tells text) p q reply_line (told, same) = ap (λ (o : Point Script). settled o.caller.running.world) same
  line_keeps (Calls r) p q reply_line (inl asked) = serves_keeps out_of_memory p.caller q.caller r asked.reply asked.called
  line_keeps (Calls r) p q reply_line (inr (told, same)) = ap (λ (o : Point Script). settled o.caller.running.world) same

  lines_keep : (lines reply_lines : List (List ℕ)) (p q : Point Script) → AnswersAll out_of_memory (Serves out_of_memory) lines p reply_lines q → settled q.caller.running.world ≡ settled p.caller.running.world
  lines_keep [] [] p q same = ap (λ (o : Point Script). settled o.caller.running.world) same
  lines_keep [] (t ∷ reply_lines) p q none = absurd none
  lines_keep (line ∷ lines) [] p q none = absurd none
  lines_keep (line ∷ lines) (t ∷ reply_lines) p q (next, one, more) =
      lines_keep lines reply_lines next q more ∙ line_keeps (turn_of p.stage line) p next t one

  close_keeps : (stage : Stage) (c d : Script) → Closes (Serves out_of_memory) stage c d → settled d.running.world ≡ settled c.running.world
  close_keeps Before c d same = ap (λ (s : Script). settled s.running.world) same
  close_keeps Open c d (reply, served) = serves_keeps out_of_memory c d (request.Call call.Close) reply served
  close_keeps Closed c d same = ap (λ (s : Script). settled s.running.world) same

-- after a script over an input the world is still one that began so, of whose log as much was handed out
pub answered_keeps :
    {unread still_unread held holds : Option (List ℕ)} (out_of_memory : Bool) (script following : Script) (lines : ℕ) → IsAnswered out_of_memory script following unread still_unread held holds lines
    → settled following.running.world ≡ settled script.running.world
answered_keeps out_of_memory script following lines a =
    close_keeps out_of_memory a.end.stage a.end.caller following a.closes
    ∙ lines_keep out_of_memory a.whole.dialogue.lines a.whole.dialogue.reply_lines (record { stage = Before; caller = script }) a.end a.whole.dialogue.answers
