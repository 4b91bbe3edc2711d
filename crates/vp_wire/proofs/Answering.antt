-- Lines that are answered one after another.
use Rattle.std.proofs.Common.{inl, inr, ◌≡◌, ◌∙◌, ℕ, Bool, true, List, [], ◌∷◌, ◌++◌, Result, Err, refl, sym, ap, subst}
use Rattle.std.proofs.lemmas.List.{append-nil, append_assoc}
use Rattle.std.specs.Prelude.{◌⊎◌, codes}
use Rattle.std.specs.List.{concat}
use Rattle.std.specs.Prelude.{IsErrOf}
use Rattle.vp_answer.specs.declared.request.Request.{Request}
use Rattle.vp_answer.specs.declared.reply.Reply.{Reply}
use Rattle.vp_wire.specs.Dialogue.{Answers, AnswersAll, Calls, IsReplyLine, Point, Tells, Turn, error_line, turn_of}
use Rattle.vp_wire.specs.Lines.{line_of}
use Rattle.vp_wire.specs.declared.line.LineError.{LineError}
use Rattle.vp_wire.specs.declared.line.LineError.TheVariants as error
use Rattle.vp_wire.specs.Reading.{StaysTrue, is_no_memory, text_of, turn_by}

-- what was reported, and one line more
pub concat_more : (reply_lines : List (List ℕ)) (line : List ℕ) → concat (reply_lines ++ line ∷ []) ≡ concat reply_lines ++ line
concat_more [] line = append-nil line
concat_more (t ∷ reply_lines) line = ap (λ (bs : List ℕ). t ++ bs) (concat_more reply_lines line) ∙ sym (append_assoc t (concat reply_lines) line)

-- ---- where memory may have been missing later

pub still_reply_line : (before now : Bool) (line reply_line : List ℕ) → StaysTrue before now → IsReplyLine before line reply_line → IsReplyLine now line reply_line
still_reply_line before now line reply_line stays (inl is) = inl is
still_reply_line before now line reply_line stays (inr (missing, is)) = inr (stays missing, is)

pub still_answers : {C : Type 0} (before now : Bool) (calls : C → Request → Reply → C → Type 0) (turn : Turn) (p q : Point C) (reply_line : List ℕ) → StaysTrue before now → Answers before calls turn p reply_line q → Answers now calls turn p reply_line q
still_answers before now calls (Tells text) p q reply_line stays (told, same) = (still_reply_line before now (error_line text) reply_line stays told, same)
still_answers before now calls (Calls r) p q reply_line stays (inl asked) = inl (record {
  reply = asked.reply;
  called = asked.called;
  is_reply_line = still_reply_line before now (line_of asked.reply) reply_line stays asked.is_reply_line;
  stage = asked.stage;
})
still_answers before now calls (Calls r) p q reply_line stays (inr ((missing, is), same)) = inr ((stays missing, is), same)

-- what was answered is answered so where memory may have been missing
pub answers_all : {C : Type 0} (before : Bool) (calls : C → Request → Reply → C → Type 0) (lines : List (List ℕ)) (p q : Point C) (reply_lines : List (List ℕ)) → AnswersAll before calls lines p reply_lines q → AnswersAll true calls lines p reply_lines q
answers_all before calls [] p q [] all = all
answers_all before calls [] p q (t ∷ reply_lines) all = absurd all
answers_all before calls (l ∷ lines) p q [] all = absurd all
answers_all before calls (l ∷ lines) p q (t ∷ reply_lines) (next, one, all) =
    (next, still_answers before true calls (turn_of p.stage l) p next t (λ was. refl) one, answers_all before calls lines next q reply_lines all)

-- one line more is answered
pub answers_more : {C : Type 0} (before now : Bool) (calls : C → Request → Reply → C → Type 0) (lines : List (List ℕ)) (line : List ℕ) (p q r : Point C) (reply_lines : List (List ℕ)) (t : List ℕ) → StaysTrue before now → AnswersAll before calls lines p reply_lines q → Answers now calls (turn_of q.stage line) q t r → AnswersAll now calls (lines ++ line ∷ []) p (reply_lines ++ t ∷ []) r
answers_more {C} before now calls [] line p q r [] t stays all one = (r, subst (λ (o : Point C). Answers now calls (turn_of o.stage line) o t r) all one, refl)
answers_more before now calls [] line p q r (u ∷ reply_lines) t stays all one = absurd all
answers_more before now calls (l ∷ lines) line p q r [] t stays all one = absurd all
answers_more before now calls (l ∷ lines) line p q r (u ∷ reply_lines) t stays (next, first, all) one =
    (next, still_answers before now calls (turn_of p.stage l) p next u stays first, answers_more before now calls lines line next q r reply_lines t stays all one)

-- any line may be answered that there is no memory, where it was missing
pub answers_no_memory : {C : Type 0} (calls : C → Request → Reply → C → Type 0) (turn : Turn) (p : Point C) → Answers true calls turn p (error_line (codes "no memory")) p
answers_no_memory calls (Tells text) p = (inr (refl, refl), refl)
answers_no_memory calls (Calls r) p = inr ((refl, refl), refl)

-- a line that is answered at once reports its error
pub answered_at_once : {C : Type 0} (calls : C → Request → Reply → C → Type 0) (turn : Turn) (p : Point C) (turned : Result Request LineError) (e : LineError) → turned ≡ Err e → IsErrOf turned error.NoMemory ⊎ (turn ≡ turn_by turned) → Answers (is_no_memory e) calls turn p (error_line (text_of e)) p
answered_at_once calls turn p turned e turned_is (inl none) =
    let same : e ≡ error.NoMemory = cc in
    subst (λ (x : LineError). Answers (is_no_memory x) calls turn p (error_line (text_of x)) p) (sym same) (answers_no_memory calls turn p)
answered_at_once calls turn p turned e turned_is (inr found) =
    let tells : turn ≡ Tells (text_of e) = found ∙ ap turn_by turned_is in
    subst (λ (t : Turn). Answers (is_no_memory e) calls t p (error_line (text_of e)) p) (sym tells) (inl refl, refl)
