-- The lines of an input, and what becomes of a request, computed. Each row is an equation that holds by computation.
use Rattle.std.proofs.Common.{◌≡◌, [], ◌∷◌, refl}
use Rattle.std.specs.Prelude.{codes}
use Rattle.vp_pragma.specs.Rights.{nothing}
use Rattle.vp_answer.specs.declared.query.Query.TheVariants as query
use Rattle.vp_answer.specs.declared.request.Call.TheVariants as call
use Rattle.vp_answer.specs.declared.request.Request.TheVariants as request
use Rattle.vp_answer.specs.declared.reply.Refusal.TheVariants as refusal
use Rattle.vp_answer.specs.declared.reply.Reply.TheVariants as reply
use Rattle.vp_wire.specs.declared.dialogue.Stage.TheVariants.{Before, Closed, Open}
use Rattle.vp_wire.specs.Dialogue.{Calls, Tells, lines_of, stage_after, turn_of_request, whole_lines}

two_lines : lines_of (codes "a\nb\n") ≡ codes "a" ∷ codes "b" ∷ []
two_lines = refl

-- a last line may lack its newline
last_line : lines_of (codes "a\nb") ≡ codes "a" ∷ codes "b" ∷ []
last_line = refl

empty_line : lines_of (codes "\n") ≡ [] ∷ []
empty_line = refl

no_line : lines_of [] ≡ []
no_line = refl

before_open : turn_of_request Before (request.Call (call.Query query.Time)) ≡ Tells (codes "not open")
before_open = refl

opened_once : turn_of_request Open (request.Open (codes "ann") (codes "t1")) ≡ Tells (codes "bad request")
opened_once = refl

-- a grant may be changed before an `open`, as after it
abbrev grants : request.the_data
grants = request.Grant (record { token = codes "op"; user = codes "ann"; envelope = 1; access = nothing })

grant_before_open : turn_of_request Before grants ≡ Calls grants
grant_before_open = refl

granted_before_open : stage_after Before grants reply.Done ≡ Before
granted_before_open = refl

-- so may an operator's other requests, but not a session's own stop
abbrev halts : request.the_data
halts = request.Halt (record { token = codes "op" })

halt_before_open : turn_of_request Before halts ≡ Calls halts
halt_before_open = refl

abbrev ends : request.the_data
ends = request.End (record { token = codes "op"; user = codes "ann" })

end_after_close : turn_of_request Closed ends ≡ Calls ends
end_after_close = refl

status_before_open : turn_of_request Before (request.Status (codes "op")) ≡ Calls (request.Status (codes "op"))
status_before_open = refl

stop_before_open : turn_of_request Before (request.Call (call.Query query.Stop)) ≡ Tells (codes "not open")
stop_before_open = refl

-- after a close the caller is asked, and says that no session is open
after_close : turn_of_request Closed (request.Call (call.Query query.Time)) ≡ Calls (request.Call (call.Query query.Time))
after_close = refl

refused_open : stage_after Before (request.Open (codes "ann") (codes "t2")) (reply.Error refusal.BadToken) ≡ Before
refused_open = refl

-- both answers to an `open` are written alike, and after either the session is open
opened_open : stage_after Before (request.Open (codes "ann") (codes "t1")) (reply.Opened (record { user = record { 0 = 0 }; opens = 1 })) ≡ Open
opened_open = refl

done_open : stage_after Before (request.Open (codes "ann") (codes "t1")) reply.Done ≡ Open
done_open = refl

done_close : stage_after Open (request.Call call.Close) reply.Done ≡ Closed
done_close = refl

-- a line that was only begun is no whole line
begun_line : whole_lines (codes "a\nb") ≡ codes "a" ∷ []
begun_line = refl

ended_line : whole_lines (codes "a\nb\n") ≡ codes "a" ∷ codes "b" ∷ []
ended_line = refl
