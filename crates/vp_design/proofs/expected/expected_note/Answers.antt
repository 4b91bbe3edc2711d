use Rattle.std.proofs.Common.{◌∙◌, ℕ, List, ap, map, subst}
use Rattle.std.specs.Prelude.{codes, if◌then◌else◌}
use Rattle.std.specs.Borrow.{Bor}
use Rattle.vp_lex.specs.Texts.{part_of, text_of}
use Rattle.vp_design.specs.Expected.{AreRead, expected_note, quoted}
use Rattle.vp_design.proofs.expected.expected_note.Goals as goal

pub returns : goal.returns
returns c =
    let words : List (List ℕ) = map (λ w. w.now) c.in_ok-words.words.items in
    let at_front =
    subst (λ (f : List ℕ). AreRead f (map (λ e. (e.0.now, e.1.now)) c.as_slice.result.now) words) c.front_of-front.ensures c.in_ok-words.ensures in (
      c.in_ok-at_end.at_end,
      c.in_ok-at_end.ensures,
      (
        words,
        subst (λ (t : List (Bor (List ℕ) × Bor (List ℕ))). AreRead (if c.in_ok-at_end.at_end then c.args.text.now else part_of c.args.text.now 0 c.args.token.start) (map (λ e. (e.0.now, e.1.now)) t) words) c.as_slice.ensures at_front,
        c.from_string.ensures ∙ c.in_ok-note.ensures
            ∙ ap (λ (f : List ℕ). expected_note f (map (λ w. w.now) c.as_slice-2.result.now)) (c.as_str.ensures.value ∙ c.in_ok-found.ensures)
            ∙ ap (λ (ws : List (Bor (List ℕ))). expected_note (if c.in_ok-at_end.at_end then codes "the end of the text" else quoted (text_of c.args.text.now c.args.token)) (map (λ w. w.now) ws)) c.as_slice-2.ensures.value,
      ),
    )
