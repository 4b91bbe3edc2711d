-- The line that is being read.
use Rattle.std.specs.Prelude.{◌≡◌, ◌≤◌, ◌<◌, ℕ, Bool, true, false, List, [], ◌∷◌, ◌++◌, length, Option, Some, None, Result, Ok, Err, codes}
use Rattle.std.specs.Io.KnownBytes.{Appends, Consumes, IsAtEnd}
use Rattle.std.specs.Result.{MatchResult}
use Rattle.std.specs.List.{concat}
use Rattle.vp_text.specs.Texts.{parts}
use Rattle.vp_answer.specs.declared.request.Call.TheVariants as call
use Rattle.vp_answer.specs.declared.request.Request.{Request}
use Rattle.vp_answer.specs.declared.request.Request.TheVariants as request
use Rattle.vp_answer.specs.declared.reply.Reply.{Reply}
use Rattle.vp_wire.specs.declared.dialogue.Dialogue.{Dialogue}
use Rattle.vp_wire.specs.declared.dialogue.Stage.TheVariants.{Before}
use Rattle.vp_wire.specs.declared.error.WireError.TheVariants as fault
use Rattle.vp_wire.specs.declared.line.Kept.{Kept}
use Rattle.vp_wire.specs.declared.line.Kept.TheVariants as kept
use Rattle.vp_wire.specs.declared.line.Line.{Line}
use Rattle.vp_wire.specs.declared.line.LineError.{LineError}
use Rattle.vp_wire.specs.declared.line.LineError.TheVariants as error
use Rattle.vp_wire.specs.Dialogue.{Answers, AnswersAll, Calls, IsFront, IsWhole, Point, Stops, Tells, Turn, error_line, line_limit}

-- the text of an error that a line is answered at once
abbrev pub text_of : LineError → List ℕ
text_of error.TooLong = codes "line too long"
text_of error.BadJson = codes "bad json"
text_of error.BadRequest = codes "bad request"
text_of error.NotOpen = codes "not open"
text_of error.NoMemory = codes "no memory"

-- what is kept of a line of which these bytes were read
abbrev pub Keeps : Kept → List ℕ → List ℕ → Type 0
Keeps kept.All bytes begun = (bytes ≡ begun) × (length begun ≤ line_limit)
Keeps kept.TooLong bytes begun = line_limit < length begun
Keeps kept.NoMemory bytes begun = 0 < length begun

-- of the line that is being read these bytes were read
abbrev pub IsBegun : Line → List ℕ → Type 0
IsBegun line begun = Keeps line.kept line.bytes.items begun

-- what becomes of a request at a stage: the caller is asked, or an error is reported at once
abbrev pub turn_by : Result Request LineError → Turn
turn_by (Ok r) = Calls r
turn_by (Err e) = Tells (text_of e)

-- the text that reports a reply's line, or an error
abbrev pub reply_text : {V : Type 0} → (V → List ℕ) → Result V LineError → List ℕ
reply_text items (Ok line) = items line
reply_text items (Err e) = error_line (text_of e)

-- a request closes a session
abbrev pub is_closing : Request → Bool
is_closing (request.Call call.Close) = true
is_closing r = false

-- what is written of a line that is reported: all of it, or a front where the writer fails
abbrev pub Writes : {T E : Type 0} → Result T E → List ℕ → Option (List ℕ) → Option (List ℕ) → Type 0
Writes (Ok x) reply_line held holds = Appends held holds reply_line
Writes (Err e) reply_line held holds = (front : List ℕ) × IsFront front reply_line × Appends held holds front

-- an error is that there is no memory
abbrev pub is_no_memory : LineError → Bool
is_no_memory error.NoMemory = true
is_no_memory e = false

-- a line is answered so
abbrev pub lacks_memory : {V : Type 0} → Result V LineError → Bool
lacks_memory (Ok line) = false
lacks_memory (Err e) = is_no_memory e

-- what was true stays so
abbrev pub StaysTrue : Bool → Bool → Type 0
StaysTrue before now = before ≡ true → now ≡ true

-- a line is answered and written, from one point to the next; that memory was missing, before or for it, is remembered
pub record AnswersLine {C T E : Type 0} (before now : Bool) (calls : C → Request → Reply → C → Type 0) (turn : Turn) (p q : Point C) (result : Result T E) (held holds : Option (List ℕ)) : Type 0 where
  pub reply_line : List ℕ
  pub remembered : StaysTrue before now
  pub answers : Answers now calls turn p reply_line q
  pub writes : Writes result reply_line held holds

-- ---- how far a dialogue has come

-- the parts of what was read that are no line yet: what has begun, and what is left of the last read
abbrev pub remaining_parts : List ℕ → Option (List ℕ) → List (List ℕ)
remaining_parts begun None = begun ∷ []
remaining_parts begun (Some rest) = parts 10 (begun ++ rest)

-- how many bytes are left of the last read
abbrev pub remaining_size : Option (List ℕ) → ℕ
remaining_size None = 0
remaining_size (Some rest) = length rest

-- a dialogue has come so far: what was read is cut into the lines that were answered, the line that has begun, and what is left of
-- the last read
pub record Progress {C : Type 0} (calls : C → Request → Reply → C → Type 0) (unread still_unread held holds : Option (List ℕ)) (caller : C) (d : Dialogue) (now : C) (remaining : Option (List ℕ)) : Type 0 where
  pub input : List ℕ
  pub read : Consumes unread still_unread input
  pub lines : List (List ℕ)
  pub begun : List ℕ
  pub cut : parts 10 input ≡ lines ++ remaining_parts begun remaining
  pub no_newline : parts 10 begun ≡ begun ∷ []
  pub is_begun : IsBegun d.line begun
  pub reply_lines : List (List ℕ)
  pub answers : AnswersAll d.out_of_memory calls lines (record { stage = Before; caller = caller }) reply_lines (record { stage = d.stage; caller = now })
  pub appended : Appends held holds (concat reply_lines)
  pub count : d.lines ≡ length lines

-- the point at which a dialogue is
abbrev pub point_of : {C : Type 0} → Dialogue → C → Point C
point_of d caller = record { stage = d.stage; caller = caller }

-- bytes are taken: a dialogue that had come so far up to them comes so far up to what is left of them, or the writer fails
abbrev pub Takes : {C T E : Type 0} → (C → Request → Reply → C → Type 0) → (d : Dialogue) → C → (e : Dialogue) → C → (mid holds : Option (List ℕ)) → List ℕ → Result T E → (T → Option (List ℕ)) → Type 0
Takes {C} calls d before e now mid holds bytes result remaining =
    (first : C) → (unread still_unread held : Option (List ℕ)) → Progress calls unread still_unread held mid first d before (Some bytes)
    → MatchResult result (λ x. Progress calls unread still_unread held holds first e now (remaining x)) (λ x. Stops fault.WriteFault calls unread still_unread held holds first (point_of e now))

-- a dialogue ends: one that had come so far at the end of its input has answered all of it, or the writer fails
abbrev pub Finishes : {C T E : Type 0} → (C → Request → Reply → C → Type 0) → (d : Dialogue) → C → (e : Dialogue) → C → (mid holds : Option (List ℕ)) → Result T E → Type 0
Finishes {C} calls d before e now mid holds result =
    (first : C) → (unread still_unread held : Option (List ℕ)) → Progress calls unread still_unread held mid first d before None → IsAtEnd still_unread
    → MatchResult result (λ x. IsWhole e.out_of_memory calls unread still_unread held holds first (point_of e now) e.lines) (λ x. Stops fault.WriteFault calls unread still_unread held holds first (point_of e now))

-- where a dialogue is after one more read: it goes on, or its input has ended
abbrev pub Goes : {C : Type 0} → Bool → (C → Request → Reply → C → Type 0) → (unread still_unread held holds : Option (List ℕ)) → C → Dialogue → C → Type 0
Goes false calls unread still_unread held holds caller d now = Progress calls unread still_unread held holds caller d now None
Goes true calls unread still_unread held holds caller d now = IsWhole d.out_of_memory calls unread still_unread held holds caller (point_of d now) d.lines
