-- How a dialogue ends: at the end of its input, and where the reader or the writer fails.
use Rattle.std.proofs.Common.{inl, inr, ◌≤◌, ◌<◌, take, ◌≡◌, ◌∙◌, ℕ, ◌+◌, Bool, true, false, List, [], ◌∷◌, ◌++◌, length, Option, Some, None, Result, Ok, Err, refl, sym, ap, subst, arith}
use Rattle.std.specs.Prelude.{IfSome, nat_lt}
use Rattle.std.proofs.lemmas.Bool.{lt-ltb}
use Rattle.std.proofs.lemmas.List.{append-nil, length-append}
use Rattle.std.proofs.KnownBytes.{Appends-kept, Appends-nil, Appends-trans, Consumes-kept, Consumes-nil, Consumes-trans}
use Rattle.std.specs.Io.KnownBytes.{Consumes, IsAtEnd, Keeps}
use Rattle.std.specs.Result.{MatchResult}
use Rattle.std.specs.List.{concat}
use Rattle.vp_text.specs.Texts.{parts}
use Rattle.vp_answer.specs.declared.request.Request.{Request}
use Rattle.vp_answer.specs.declared.reply.Reply.{Reply}
use Rattle.vp_wire.specs.declared.dialogue.Dialogue.{Dialogue}
use Rattle.vp_wire.specs.declared.dialogue.Stage.TheVariants.{Before}
use Rattle.vp_wire.specs.declared.error.WireError.TheVariants as fault
use Rattle.vp_wire.specs.Dialogue.{AreWhole, IsDialogue, IsOut, IsWhole, Point, Stops, lines_of, turn_of}
use Rattle.vp_wire.specs.Reading.{IsBegun, Progress, AnswersLine}
use Rattle.vp_wire.proofs.Answering.{answers_all, answers_more, concat_more}
use Rattle.vp_wire.proofs.Parting.{lines_ended, lines_open, parts_more, whole_by_parts}

-- ---- the end of the input

begun_lines : (input : List ℕ) (lines : List (List ℕ)) (begun : List ℕ) → parts 10 input ≡ lines ++ begun ∷ [] → nat_lt 0 (length begun) ≡ true → lines_of input ≡ lines ++ begun ∷ []
begun_lines input lines [] cut h = cc
begun_lines input lines (b ∷ bs) cut h = lines_open input lines b bs cut

ended_lines : (input : List ℕ) (lines : List (List ℕ)) (begun : List ℕ) → parts 10 input ≡ lines ++ begun ∷ [] → nat_lt 0 (length begun) ≡ false → lines_of input ≡ lines
ended_lines input lines [] cut h = lines_ended input lines cut
ended_lines input lines (b ∷ bs) cut h =
    let less : nat_lt 0 (length (b ∷ bs)) ≡ true = lt-ltb 0 (length (b ∷ bs)) (omega arith) in
    let clash : true ≡ false = sym less ∙ h in
    cc

-- no line has begun: all lines were answered
pub none_begun : {C : Type 0} {calls : C → Request → Reply → C → Type 0} {unread still_unread held holds : Option (List ℕ)} {first now : C} (d : Dialogue) (begins : Bool)
    → Progress calls unread still_unread held holds first d now None → IsAtEnd still_unread
    → ((begun : List ℕ) → IsBegun d.line begun → begins ≡ nat_lt 0 (length begun)) → begins ≡ false
    → IsWhole d.out_of_memory calls unread still_unread held holds first (record { stage = d.stage; caller = now }) d.lines
none_begun d begins p at_end tells none = record {
  dialogue = record {
    input = p.input;
    read = p.read;
    lines = p.lines;
    are_its = sym (ended_lines p.input p.lines p.begun p.cut (sym (tells p.begun p.is_begun) ∙ none));
    reply_lines = p.reply_lines;
    answers = p.answers;
    written = concat p.reply_lines;
    is_out = refl;
    appended = p.appended;
  };
  at_end = at_end;
  count = p.count;
}

-- the last line is answered, unless the writer fails
pub last_begun : {C T E : Type 0} {calls : C → Request → Reply → C → Type 0} {unread still_unread held mid holds : Option (List ℕ)} {first before now : C} (d e : Dialogue) (begins : Bool) (result : Result T E)
    → Progress calls unread still_unread held mid first d before None → IsAtEnd still_unread
    → ((begun : List ℕ) → IsBegun d.line begun → begins ≡ nat_lt 0 (length begun)) → begins ≡ true
    → ((begun : List ℕ) → IsBegun d.line begun → AnswersLine d.out_of_memory e.out_of_memory calls (turn_of d.stage begun) (record { stage = d.stage; caller = before }) (record { stage = e.stage; caller = now }) result mid holds)
    → e.lines ≡ d.lines + 1
    → MatchResult result (λ u. IsWhole e.out_of_memory calls unread still_unread held holds first (record { stage = e.stage; caller = now }) e.lines) (λ x. Stops fault.WriteFault calls unread still_unread held holds first (record { stage = e.stage; caller = now }))
last_begun {calls = calls} {held = held} {mid = mid} {holds = holds} d e begins (Ok x) p at_end is_begun some tells one =
    let t = tells p.begun p.is_begun in
    record {
      dialogue = record {
        input = p.input;
        read = p.read;
        lines = p.lines ++ p.begun ∷ [];
        are_its = sym (begun_lines p.input p.lines p.begun p.cut (sym (is_begun p.begun p.is_begun) ∙ some));
        reply_lines = p.reply_lines ++ t.reply_line ∷ [];
        answers = answers_more _ _ calls p.lines p.begun _ _ _ p.reply_lines t.reply_line t.remembered p.answers t.answers;
        written = concat p.reply_lines ++ t.reply_line;
        is_out = sym (concat_more p.reply_lines t.reply_line);
        appended = Appends-trans held mid holds (concat p.reply_lines) t.reply_line p.appended t.writes;
      };
      at_end = at_end;
      count = one ∙ ap (λ (n : ℕ). n + 1) p.count ∙ sym (length-append p.lines (p.begun ∷ []));
    }
last_begun {calls = calls} {held = held} {mid = mid} {holds = holds} d e begins (Err x) p at_end is_begun some tells one =
    let t = tells p.begun p.is_begun in
    let all = begun_lines p.input p.lines p.begun p.cut (sym (is_begun p.begun p.is_begun) ∙ some) in
    record {
      input = p.input;
      read = p.read;
      lines = p.lines ++ p.begun ∷ [];
      are_its = ([], inr (at_end, all ∙ sym (append-nil (p.lines ++ p.begun ∷ []))));
      reply_lines = p.reply_lines ++ t.reply_line ∷ [];
      answers = answers_all _ calls _ _ _ _ (answers_more _ _ calls p.lines p.begun _ _ _ p.reply_lines t.reply_line t.remembered p.answers t.answers);
      written = concat p.reply_lines ++ t.writes.0;
      is_out = inr (p.reply_lines, t.reply_line, t.writes.0, refl, t.writes.1, refl);
      appended = Appends-trans held mid holds (concat p.reply_lines) t.writes.0 p.appended t.writes.2;
    }

-- what was written at the end is handed on, unless the writer fails
pub handed_on : {C T E : Type 0} {calls : C → Request → Reply → C → Type 0} {unread still_unread held mid : Option (List ℕ)} (holds : Option (List ℕ)) {first : C} (out_of_memory : Bool) (end : Point C) (answered : ℕ) (result : Result T E)
    → IsWhole out_of_memory calls unread still_unread held mid first end answered → Keeps mid holds
    → MatchResult result (λ u. IsWhole out_of_memory calls unread still_unread held holds first end answered) (λ x. Stops fault.WriteFault calls unread still_unread held holds first end)
handed_on {held = held} {mid = mid} holds out_of_memory end answered (Ok x) w kept = record {
  dialogue = record {
    input = w.dialogue.input;
    read = w.dialogue.read;
    lines = w.dialogue.lines;
    are_its = w.dialogue.are_its;
    reply_lines = w.dialogue.reply_lines;
    answers = w.dialogue.answers;
    written = w.dialogue.written;
    is_out = w.dialogue.is_out;
    appended = Appends-kept held mid holds w.dialogue.written w.dialogue.appended kept;
  };
  at_end = w.at_end;
  count = w.count;
}
handed_on {calls = calls} {held = held} {mid = mid} holds out_of_memory end answered (Err x) w kept = record {
  input = w.dialogue.input;
  read = w.dialogue.read;
  lines = w.dialogue.lines;
  are_its = ([], inr (w.at_end, sym w.dialogue.are_its ∙ sym (append-nil w.dialogue.lines)));
  reply_lines = w.dialogue.reply_lines;
  answers = answers_all _ calls _ _ _ _ w.dialogue.answers;
  written = w.dialogue.written;
  is_out = inl w.dialogue.is_out;
  appended = Appends-kept held mid holds w.dialogue.written w.dialogue.appended kept;
}

-- ---- between two reads

-- what was written is handed on, unless the writer fails
pub handed : {C T E : Type 0} {calls : C → Request → Reply → C → Type 0} {unread still_unread held mid : Option (List ℕ)} (holds : Option (List ℕ)) {first now : C} (d : Dialogue) (result : Result T E)
    → Progress calls unread still_unread held mid first d now None → Keeps mid holds
    → MatchResult result (λ u. Progress calls unread still_unread held holds first d now None) (λ x. Stops fault.WriteFault calls unread still_unread held holds first (record { stage = d.stage; caller = now }))
handed {held = held} {mid = mid} holds d (Ok x) p kept = record {
  input = p.input;
  read = p.read;
  lines = p.lines;
  begun = p.begun;
  cut = p.cut;
  no_newline = p.no_newline;
  is_begun = p.is_begun;
  reply_lines = p.reply_lines;
  answers = p.answers;
  appended = Appends-kept held mid holds (concat p.reply_lines) p.appended kept;
  count = p.count;
}
handed {calls = calls} {held = held} {mid = mid} holds d (Err x) p kept = record {
  input = p.input;
  read = p.read;
  lines = p.lines;
  are_its = ([], inl (whole_by_parts p.input p.lines p.begun p.cut ∙ sym (append-nil p.lines)));
  reply_lines = p.reply_lines;
  answers = answers_all _ calls _ _ _ _ p.answers;
  written = concat p.reply_lines;
  is_out = inl refl;
  appended = Appends-kept held mid holds (concat p.reply_lines) p.appended kept;
}

-- more was read
pub read_more : {C : Type 0} {calls : C → Request → Reply → C → Type 0} {unread mid still_unread held holds : Option (List ℕ)} {first now : C} (d : Dialogue) (bytes : List ℕ)
    → Progress calls unread mid held holds first d now None → Consumes mid still_unread bytes
    → Progress calls unread still_unread held holds first d now (Some bytes)
read_more {unread = unread} {mid = mid} {still_unread = still_unread} d bytes p more = record {
  input = p.input ++ bytes;
  read = Consumes-trans unread mid still_unread p.input bytes p.read more;
  lines = p.lines;
  begun = p.begun;
  cut = parts_more p.input bytes p.lines p.begun p.cut;
  no_newline = p.no_newline;
  is_begun = p.is_begun;
  reply_lines = p.reply_lines;
  answers = p.answers;
  appended = p.appended;
  count = p.count;
}

-- a read gave nothing
pub read_none : {C : Type 0} {calls : C → Request → Reply → C → Type 0} {unread mid still_unread held holds : Option (List ℕ)} {first now : C} (d : Dialogue)
    → Progress calls unread mid held holds first d now None → Keeps mid still_unread
    → Progress calls unread still_unread held holds first d now None
read_none {unread = unread} {mid = mid} {still_unread = still_unread} d p kept = record {
  input = p.input;
  read = Consumes-kept unread mid still_unread p.input p.read kept;
  lines = p.lines;
  begun = p.begun;
  cut = p.cut;
  no_newline = p.no_newline;
  is_begun = p.is_begun;
  reply_lines = p.reply_lines;
  answers = p.answers;
  appended = p.appended;
  count = p.count;
}

-- to take nothing of what is left keeps it
pub takes_none : (mid still_unread : Option (List ℕ)) → Consumes mid still_unread [] → Keeps mid still_unread
takes_none None still_unread h = tt
takes_none (Some xs) None h = h
takes_none (Some xs) (Some ys) h = sym h

-- a read gave the front of the buffer
pub read_some : (mid still_unread : Option (List ℕ)) (buffer : List ℕ) (counted : Option ℕ) (n : ℕ) → counted ≡ Some n
    → IfSome counted (λ k. (k ≤ length buffer) × Consumes mid still_unread (take k buffer)) → Consumes mid still_unread (take n buffer)
read_some mid still_unread buffer counted n is bytes =
    (subst (λ (o : Option ℕ). IfSome o (λ k. (k ≤ length buffer) × Consumes mid still_unread (take k buffer))) is bytes).1

-- a read of no bytes gave nothing, and the input has ended
pub read_end : (mid still_unread : Option (List ℕ)) (buffer : List ℕ) (counted : Option ℕ) (n : ℕ) → counted ≡ Some n → n ≡ 0 → 0 < length buffer
    → IfSome counted (λ k. (k ≤ length buffer) × Consumes mid still_unread (take k buffer)) → IfSome counted (λ k. k ≡ 0 → 0 < length buffer → IsAtEnd still_unread)
    → Keeps mid still_unread × IsAtEnd still_unread
read_end mid still_unread buffer counted n is none some bytes end =
    let ended = subst (λ (o : Option ℕ). IfSome o (λ k. k ≡ 0 → 0 < length buffer → IsAtEnd still_unread)) is end in
    (takes_none mid still_unread (subst (λ (k : ℕ). Consumes mid still_unread (take k buffer)) none (read_some mid still_unread buffer counted n is bytes)), ended none some)

-- where it stops between two reads, the whole lines were answered
pub stopped : {C : Type 0} {calls : C → Request → Reply → C → Type 0} {unread still_unread held holds : Option (List ℕ)} {first now : C} (d : Dialogue)
    → Progress calls unread still_unread held holds first d now None
    → IsDialogue true calls AreWhole IsOut unread still_unread held holds first (record { stage = d.stage; caller = now })
stopped {calls = calls} d p = record {
  input = p.input;
  read = p.read;
  lines = p.lines;
  are_its = sym (whole_by_parts p.input p.lines p.begun p.cut);
  reply_lines = p.reply_lines;
  answers = answers_all _ calls _ _ _ _ p.answers;
  written = concat p.reply_lines;
  is_out = refl;
  appended = p.appended;
}

-- before the first read
pub not_begun : {C : Type 0} {calls : C → Request → Reply → C → Type 0} (unread held : Option (List ℕ)) (first : C) (d : Dialogue) → d.stage ≡ Before → d.lines ≡ 0 → IsBegun d.line [] → Progress calls unread unread held held first d first None
not_begun {C} unread held first d stage lines begun = record {
  input = [];
  read = Consumes-nil unread;
  lines = [];
  begun = [];
  cut = refl;
  no_newline = refl;
  is_begun = begun;
  reply_lines = [];
  answers = ap (λ (s : _). let p : Point C = record { stage = s; caller = first } in p) stage;
  appended = Appends-nil held;
  count = lines;
}
