-- How a dialogue gets on: bytes are gathered, lines are answered, and what holds where a writer fails.
use Rattle.std.proofs.Common.{inl, inr, ◌≡◌, ◌∙◌, ℕ, suc, ◌+◌, ◌≤◌, arith, Bool, List, [], ◌∷◌, ◌++◌, length, Option, Some, None, Result, Ok, Err, refl, sym, ap, subst}
use Rattle.std.proofs.lemmas.List.{append_assoc, length-append}
use Rattle.std.proofs.KnownBytes.{Appends-trans}
use Rattle.std.specs.Io.KnownBytes.{Appends}
use Rattle.std.specs.Result.{IfOk, IsErr, MatchResult, OnErr, OnOk}
use Rattle.std.specs.List.{concat}
use Rattle.vp_text.specs.Texts.{part_and_rest, parts}
use Rattle.vp_text.specs.laws.Texts.{parts_some}
use Rattle.vp_answer.specs.declared.request.Request.{Request}
use Rattle.vp_answer.specs.declared.reply.Reply.{Reply}
use Rattle.vp_wire.specs.declared.dialogue.Dialogue.{Dialogue}
use Rattle.vp_wire.specs.declared.error.WireError.TheVariants as fault
use Rattle.vp_wire.specs.declared.line.Line.{Line}
use Rattle.vp_wire.specs.Dialogue.{Answers, IsFront, Point, Stops, Turn, turn_of, without_last}
use Rattle.vp_wire.specs.Failures.{failures_after, one_more}
use Rattle.vp_wire.specs.Reading.{IsBegun, Progress, AnswersLine, StaysTrue, Writes}
use Rattle.vp_wire.proofs.Answering.{answers_all, answers_more, concat_more, still_answers}
use Rattle.vp_wire.proofs.Parting.{joined_part, whole_first}

-- bytes without a newline are gathered
pub gathered : {C : Type 0} {calls : C → Request → Reply → C → Type 0} {unread still_unread held holds : Option (List ℕ)} {first now : C} (d : Dialogue) (line : Line) (bytes piece : List ℕ)
    → Progress calls unread still_unread held holds first d now (Some bytes) → parts 10 bytes ≡ part_and_rest 10 piece None → bytes ≡ piece
    → ((begun : List ℕ) → IsBegun d.line begun → IsBegun line (begun ++ piece))
    → Progress calls unread still_unread held holds first (record d { line = line }) now None
gathered d line bytes piece p cut whole gathers =
    let parted = joined_part p.begun bytes piece None p.no_newline cut in
    record {
      input = p.input;
      read = p.read;
      lines = p.lines;
      begun = p.begun ++ piece;
      cut = p.cut ∙ ap (λ (ps : List (List ℕ)). p.lines ++ ps) parted;
      no_newline = ap (λ (b : List ℕ). parts 10 (p.begun ++ b)) (sym whole) ∙ parted;
      is_begun = gathers p.begun p.is_begun;
      reply_lines = p.reply_lines;
      answers = p.answers;
      appended = p.appended;
      count = p.count;
    }

-- the parts of what was read after one line more
line_more : (input begun bytes piece rest : List ℕ) (lines : List (List ℕ)) → parts 10 input ≡ lines ++ parts 10 (begun ++ bytes) → parts 10 begun ≡ begun ∷ [] → parts 10 bytes ≡ part_and_rest 10 piece (Some rest) → parts 10 input ≡ (lines ++ (begun ++ piece) ∷ []) ++ parts 10 rest
line_more input begun bytes piece rest lines cut none parted =
    cut ∙ ap (λ (ps : List (List ℕ)). lines ++ ps) (joined_part begun bytes piece (Some rest) none parted)
    ∙ sym (append_assoc lines ((begun ++ piece) ∷ []) (parts 10 rest))

written_ok : {T E : Type 0} (result : Result T E) (x : T) (reply_line : List ℕ) (held holds : Option (List ℕ)) → result ≡ Ok x → Writes result reply_line held holds → Appends held holds reply_line
written_ok result x reply_line held holds is w = subst (λ (r : Result _ _). Writes r reply_line held holds) is w

written_err : {T E : Type 0} (result : Result T E) (e : E) (reply_line : List ℕ) (held holds : Option (List ℕ)) → result ≡ Err e → Writes result reply_line held holds → (front : List ℕ) × IsFront front reply_line × Appends held holds front
written_err result e reply_line held holds is w = subst (λ (r : Result _ _). Writes r reply_line held holds) is w

writes_by : {T E : Type 0} (result : Result T E) (bytes : List ℕ) (held holds : Option (List ℕ)) → OnOk result (Appends held holds bytes) → OnErr result ((front : List ℕ) × IsFront front bytes × Appends held holds front) → Writes result bytes held holds
writes_by (Ok x) bytes held holds written cut = written
writes_by (Err e) bytes held holds written cut = cut

-- a line is answered and written; where memory was missing for it, that is remembered
pub line_answered : {C T E : Type 0} {calls : C → Request → Reply → C → Type 0} {turn : Turn} {p q : Point C} {held holds : Option (List ℕ)} (before now lacks : Bool) (result : Result T E) (reply_line bytes : List ℕ)
    → StaysTrue before now → StaysTrue lacks now → Answers lacks calls turn p reply_line q → bytes ≡ reply_line
    → OnOk result (Appends held holds bytes) → OnErr result ((front : List ℕ) × IsFront front bytes × Appends held holds front)
    → AnswersLine before now calls turn p q result held holds
line_answered {calls = calls} {turn = turn} {p = p} {q = q} {held = held} {holds = holds} before now lacks result reply_line bytes stays missing answers is written cut = record {
  reply_line = reply_line;
  remembered = stays;
  answers = still_answers lacks now calls turn p q reply_line missing answers;
  writes = subst (λ (line : List ℕ). Writes result line held holds) is (writes_by result bytes held holds written cut);
}

-- what is left after a newline is shorter
pub rest_shorter : (bytes piece rest : List ℕ) → bytes ≡ piece ++ 10 ∷ rest → length rest + 1 ≤ length bytes
rest_shorter bytes piece rest whole = rw whole (rw length-append (omega arith))

-- a line is answered
pub answered : {C T E : Type 0} {calls : C → Request → Reply → C → Type 0} {unread still_unread held mid holds : Option (List ℕ)} {first before now : C} (d e : Dialogue) (line : Line) (bytes piece rest : List ℕ) (result : Result T E) (x : T)
    → Progress calls unread still_unread held mid first d before (Some bytes) → parts 10 bytes ≡ part_and_rest 10 piece (Some rest)
    → ((begun : List ℕ) → IsBegun d.line begun → IsBegun line (begun ++ piece))
    → ((begun : List ℕ) → IsBegun line begun → AnswersLine d.out_of_memory e.out_of_memory calls (turn_of d.stage begun) (record { stage = d.stage; caller = before }) (record { stage = e.stage; caller = now }) result mid holds)
    → result ≡ Ok x → IsBegun e.line [] → e.lines ≡ d.lines + 1
    → Progress calls unread still_unread held holds first e now (Some rest)
answered {C} {calls = calls} {held = held} {mid = mid} {holds = holds} d e line bytes piece rest result x p parted gathers tells is begun one =
    let whole = p.begun ++ piece in
    let t = tells whole (gathers p.begun p.is_begun) in
    record {
      input = p.input;
      read = p.read;
      lines = p.lines ++ whole ∷ [];
      begun = [];
      cut = line_more p.input p.begun bytes piece rest p.lines p.cut p.no_newline parted;
      no_newline = refl;
      is_begun = begun;
      reply_lines = p.reply_lines ++ t.reply_line ∷ [];
      answers = answers_more _ _ calls p.lines whole _ _ _ p.reply_lines t.reply_line t.remembered p.answers t.answers;
      appended = subst (Appends held holds) (sym (concat_more p.reply_lines t.reply_line)) (Appends-trans held mid holds (concat p.reply_lines) t.reply_line p.appended (written_ok result x t.reply_line mid holds is t.writes));
      count = one ∙ ap (λ (n : ℕ). n + 1) p.count ∙ sym (length-append p.lines (whole ∷ []));
    }

-- a line was answered, and the writer failed
pub failed : {C T E : Type 0} {calls : C → Request → Reply → C → Type 0} {unread still_unread held mid holds : Option (List ℕ)} {first before now : C} (d e : Dialogue) (line : Line) (bytes piece rest : List ℕ) (result : Result T E) (x : E)
    → Progress calls unread still_unread held mid first d before (Some bytes) → parts 10 bytes ≡ part_and_rest 10 piece (Some rest)
    → ((begun : List ℕ) → IsBegun d.line begun → IsBegun line (begun ++ piece))
    → ((begun : List ℕ) → IsBegun line begun → AnswersLine d.out_of_memory e.out_of_memory calls (turn_of d.stage begun) (record { stage = d.stage; caller = before }) (record { stage = e.stage; caller = now }) result mid holds)
    → result ≡ Err x
    → Stops fault.WriteFault calls unread still_unread held holds first (record { stage = e.stage; caller = now })
failed {C} {calls = calls} {held = held} {mid = mid} {holds = holds} d e line bytes piece rest result x p parted gathers tells is =
    let whole = p.begun ++ piece in
    let t = tells whole (gathers p.begun p.is_begun) in
    let out = written_err result x t.reply_line mid holds is t.writes in
    let cut = line_more p.input p.begun bytes piece rest p.lines p.cut p.no_newline parted in
    record {
      input = p.input;
      read = p.read;
      lines = p.lines ++ whole ∷ [];
      are_its = (without_last (parts 10 rest), inl (whole_first p.input (p.lines ++ whole ∷ []) (parts 10 rest) cut (parts_some 10 rest)));
      reply_lines = p.reply_lines ++ t.reply_line ∷ [];
      answers = answers_all _ calls _ _ _ _ (answers_more _ _ calls p.lines whole _ _ _ p.reply_lines t.reply_line t.remembered p.answers t.answers);
      written = concat p.reply_lines ++ out.0;
      is_out = inr (p.reply_lines, t.reply_line, out.0, refl, out.1, refl);
      appended = Appends-trans held mid holds (concat p.reply_lines) out.0 p.appended out.2;
    }

-- what holds at every error
pub matches_err : {T E : Type 0} (P : T → Type 0) {Q : Type 0} (result : Result T E) → IsErr result → Q → MatchResult result P (λ e. Q)
matches_err P (Ok x) none q = cc
matches_err P (Err e) is q = q

-- what holds of every good result holds of an error
pub none_ok : {T E : Type 0} (P : T → Type 0) (result : Result T E) → IsErr result → IfOk result P
none_ok P (Ok x) none = cc
none_ok P (Err e) is = tt

-- after an error one failure more is counted
pub failures_err : {T E : Type 0} (n : ℕ) (result : Result T E) → IsErr result → failures_after n result ≡ one_more n
failures_err n (Ok x) none = cc
failures_err n (Err e) is = refl

-- how often a dialogue still looks at what is left
abbrev pub turns_left : Option (List ℕ) → ℕ
turns_left None = 0
turns_left (Some rest) = suc (length rest)
