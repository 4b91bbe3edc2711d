-- A dialogue: how an input is cut into lines, and what each line is answered (profile).
use Rattle.std.specs.Prelude.{◌≡◌, ◌⊎◌, ℕ, nat_lt, Bool, true, false, if◌then◌else◌, List, [], ◌∷◌, ◌++◌, length, Option, codes}
use Rattle.std.specs.List.{concat}
use Rattle.std.specs.Io.KnownBytes.{Appends, Consumes, IsAtEnd}
use Rattle.vp_text.specs.Texts.{parts}
use Rattle.serde_json.specs.Data.{string}
use Rattle.serde_json.specs.Written.{compact_text}
use Rattle.vp_answer.specs.declared.request.Call.TheVariants as call
use Rattle.vp_answer.specs.declared.request.Request.{Request}
use Rattle.vp_answer.specs.declared.request.Request.TheVariants as request
use Rattle.vp_answer.specs.declared.reply.Reply.{Reply}
use Rattle.vp_answer.specs.declared.reply.Reply.TheVariants as reply
use Rattle.vp_wire.specs.declared.dialogue.Stage.{Stage}
use Rattle.vp_wire.specs.declared.dialogue.Stage.TheVariants.{Before, Open, Closed}
use Rattle.vp_wire.specs.declared.error.WireError.{WireError}
use Rattle.vp_wire.specs.declared.error.WireError.TheVariants as fault
use Rattle.vp_wire.specs.Lines.{Meaning, NotJson, NotRequest, Asks, line_of, meaning_of, only}

-- ---- lines

-- the lines of what stands between newlines: nothing after the last newline is no line
abbrev pub without_empty_end : List (List ℕ) → List (List ℕ)
without_empty_end [] = []
without_empty_end ([] ∷ []) = []
without_empty_end ((b ∷ bs) ∷ []) = (b ∷ bs) ∷ []
without_empty_end (l ∷ m ∷ ls) = l ∷ without_empty_end (m ∷ ls)

-- the lines of an input; a last line may lack its newline
abbrev pub lines_of : List ℕ → List (List ℕ)
lines_of input = without_empty_end (parts 10 input)

-- all but the last
abbrev pub without_last : List (List ℕ) → List (List ℕ)
without_last [] = []
without_last (l ∷ []) = []
without_last (l ∷ m ∷ ls) = l ∷ without_last (m ∷ ls)

-- the lines of an input that end in a newline
abbrev pub whole_lines : List ℕ → List (List ℕ)
whole_lines input = without_last (parts 10 input)

-- the greatest length of a line, in bytes without its newline
abbrev pub line_limit : ℕ
line_limit = 65536

-- ---- what a line is answered

-- what becomes of a line: it is answered by an error at once, or the caller is asked
pub data Turn : Type 0 where
  Tells : List ℕ → Turn
  Calls : Request → Turn

-- a request opens a session
abbrev pub is_opening : Request → Bool
is_opening (request.Open user token) = true
is_opening r = false

-- a request is an operator's: it may stand anywhere
abbrev pub is_operators : Request → Bool
is_operators (request.Grant change) = true
is_operators (request.End order) = true
is_operators (request.Halt order) = true
is_operators (request.Status token) = true
is_operators (request.Shutdown token) = true
is_operators r = false

-- an `open` is asked once; before it is answered every other request is answered that no session is open
abbrev pub turn_by_opening : Stage → Request → (opens : Bool) → Turn
turn_by_opening Before r true = Calls r
turn_by_opening Before r false = Tells (codes "not open")
turn_by_opening Open r true = Tells (codes "bad request")
turn_by_opening Open r false = Calls r
turn_by_opening Closed r true = Tells (codes "bad request")
turn_by_opening Closed r false = Calls r

-- what becomes of a request
abbrev pub turn_of_request : Stage → Request → Turn
turn_of_request stage r = if is_operators r then Calls r else turn_by_opening stage r (is_opening r)

-- what becomes of a line that is not too long, by what it means
abbrev pub turn_of_meaning : Stage → Meaning → Turn
turn_of_meaning stage NotJson = Tells (codes "bad json")
turn_of_meaning stage NotRequest = Tells (codes "bad request")
turn_of_meaning stage (Asks r) = turn_of_request stage r

-- what becomes of a line: too long, no JSON, no request, in this order, else by the request
abbrev pub turn_of : Stage → List ℕ → Turn
turn_of stage line =
    if nat_lt line_limit (length line) then Tells (codes "line too long") else turn_of_meaning stage (meaning_of line)

-- the line of an error
abbrev pub error_line : List ℕ → List ℕ
error_line text = compact_text (only (codes "error") (string text)) ++ 10 ∷ []

-- how far the session is after a request and its reply: an `open` that was answered ok, in either form, opens it, a `close` that
-- was done closes it
abbrev pub stage_after : Stage → Request → Reply → Stage
stage_after stage (request.Open user token) (reply.Opened session) = Open
stage_after stage (request.Open user token) reply.Done = Open
stage_after stage (request.Call call.Close) reply.Done = Closed
stage_after stage r answer = stage

-- ---- a dialogue with a caller

-- a point of a dialogue: how far its session is, and its caller
pub record Point (C : Type 0) : Type 0 where
  pub stage : Stage
  pub caller : C

-- it is answered that there is no memory, which may be only where memory was missing
abbrev pub IsNoMemory : (out_of_memory : Bool) → List ℕ → Type 0
IsNoMemory out_of_memory reply_line = (out_of_memory ≡ true) × (reply_line ≡ error_line (codes "no memory"))

-- what is written to report a line: that line, or, where memory was missing, the one that says so
abbrev pub IsReplyLine : (out_of_memory : Bool) → List ℕ → List ℕ → Type 0
IsReplyLine out_of_memory line reply_line = (reply_line ≡ line) ⊎ IsNoMemory out_of_memory reply_line

-- a caller is asked, from one point of a dialogue to the next: its reply is reported, and opens or closes the session
pub record Asked {C : Type 0} (out_of_memory : Bool) (calls : C → Request → Reply → C → Type 0) (r : Request) (p : Point C) (reply_line : List ℕ) (q : Point C) : Type 0 where
  pub reply : Reply
  pub called : calls p.caller r reply q.caller
  pub is_reply_line : IsReplyLine out_of_memory (line_of reply) reply_line
  pub stage : q.stage ≡ stage_after p.stage r reply

-- a line is answered, from one point of a dialogue to the next: by its error, or by the caller's reply, who is not asked where
-- memory was missing for the request
abbrev pub Answers : {C : Type 0} → (out_of_memory : Bool) → (C → Request → Reply → C → Type 0) → Turn → Point C → List ℕ → Point C → Type 0
Answers out_of_memory calls (Tells text) p reply_line q = IsReplyLine out_of_memory (error_line text) reply_line × (q ≡ p)
Answers out_of_memory calls (Calls r) p reply_line q =
    Asked out_of_memory calls r p reply_line q ⊎ (IsNoMemory out_of_memory reply_line × (q ≡ p))

-- lines are answered in turn, each by one text; where memory was not missing, each was asked and reported
abbrev pub AnswersAll : {C : Type 0} → (out_of_memory : Bool) → (C → Request → Reply → C → Type 0) → List (List ℕ) → Point C → List (List ℕ) → Point C → Type 0
AnswersAll out_of_memory calls [] p [] q = q ≡ p
AnswersAll out_of_memory calls [] p (reply_line ∷ more) q = ⊥
AnswersAll out_of_memory calls (line ∷ lines) p [] q = ⊥
AnswersAll {C} out_of_memory calls (line ∷ lines) p (reply_line ∷ more) q =
    (next : Point C) × Answers out_of_memory calls (turn_of p.stage line) p reply_line next × AnswersAll out_of_memory calls lines next more q

-- at the end of a dialogue an open session is closed, and that reply is not reported
abbrev pub Closes : {C : Type 0} → (C → Request → Reply → C → Type 0) → Stage → C → C → Type 0
Closes calls Before c d = d ≡ c
Closes calls Open c d = (reply : Reply) × calls c (request.Call call.Close) reply d
Closes calls Closed c d = d ≡ c

-- ---- a dialogue over a reader and a writer

-- bytes are a front of others
abbrev pub IsFront : List ℕ → List ℕ → Type 0
IsFront front bytes = (rest : List ℕ) × (bytes ≡ front ++ rest)

-- lines are all that an input has
abbrev pub AreAll : List ℕ → List (List ℕ) → Type 0
AreAll input lines = lines ≡ lines_of input

-- lines are those of an input that end in a newline
abbrev pub AreWhole : List ℕ → List (List ℕ) → Type 0
AreWhole input lines = lines ≡ whole_lines input

-- lines are the first of those of an input that end in a newline; or of all, where the reader has come to its end
abbrev pub AreFirst : (still_unread : Option (List ℕ)) → List ℕ → List (List ℕ) → Type 0
AreFirst still_unread input lines =
    (more : List (List ℕ)) × ((whole_lines input ≡ lines ++ more) ⊎ (IsAtEnd still_unread × (lines_of input ≡ lines ++ more)))

-- what goes out: all that was reported
abbrev pub IsOut : List (List ℕ) → List ℕ → Type 0
IsOut reply_lines written = written ≡ concat reply_lines

-- what goes out where a writer fails: all that was reported, or all but the end of the last line
abbrev pub IsCutShort : List (List ℕ) → List ℕ → Type 0
IsCutShort reply_lines written = (written ≡ concat reply_lines) ⊎ ((before : List (List ℕ)) × (last : List ℕ) × (front : List ℕ) ×
    (reply_lines ≡ before ++ last ∷ []) × IsFront front last × (written ≡ concat before ++ front))

-- a dialogue from a caller to a point: what was read of a reader, the lines of that which were answered, what was reported to them,
-- and what of that went out of a writer
pub record IsDialogue {C : Type 0} (out_of_memory : Bool) (calls : C → Request → Reply → C → Type 0)
    (are_lines : List ℕ → List (List ℕ) → Type 0) (goes_out : List (List ℕ) → List ℕ → Type 0)
    (unread still_unread held holds : Option (List ℕ)) (caller : C) (end : Point C) : Type 0 where
  pub input : List ℕ
  pub read : Consumes unread still_unread input
  pub lines : List (List ℕ)
  pub are_its : are_lines input lines
  pub reply_lines : List (List ℕ)
  pub answers : AnswersAll out_of_memory calls lines (record { stage = Before; caller = caller }) reply_lines end
  pub written : List ℕ
  pub is_out : goes_out reply_lines written
  pub appended : Appends held holds written

-- a dialogue that read its input to the end, and answered so many lines: all
pub record IsWhole {C : Type 0} (out_of_memory : Bool) (calls : C → Request → Reply → C → Type 0)
    (unread still_unread held holds : Option (List ℕ)) (caller : C) (end : Point C) (answered : ℕ) : Type 0 where
  pub dialogue : IsDialogue out_of_memory calls AreAll IsOut unread still_unread held holds caller end
  pub at_end : IsAtEnd still_unread
  pub count : answered ≡ length dialogue.lines

-- a dialogue that ended by a fault: at one of the reader, and at too many reads, its whole lines were answered; at one of the
-- writer, those up to the one whose answer did not go out, and a line that has only begun was not, unless it was the last of all;
-- memory may have been missing
abbrev pub Stops : {C : Type 0} → WireError → (C → Request → Reply → C → Type 0) → (unread still_unread held holds : Option (List ℕ)) → C → Point C → Type 0
Stops fault.ReadFault calls unread still_unread held holds caller end = IsDialogue true calls AreWhole IsOut unread still_unread held holds caller end
Stops fault.TurnLimit calls unread still_unread held holds caller end = IsDialogue true calls AreWhole IsOut unread still_unread held holds caller end
Stops fault.WriteFault calls unread still_unread held holds caller end = IsDialogue true calls (AreFirst still_unread) IsCutShort unread still_unread held holds caller end
Stops fault.LineTooLong calls unread still_unread held holds caller end = ⊥
Stops fault.BadJson calls unread still_unread held holds caller end = ⊥
Stops fault.BadRequest calls unread still_unread held holds caller end = ⊥
Stops fault.NoMemory calls unread still_unread held holds caller end = ⊥
