use Rattle.std.proofs.Common.{◌∙◌, ap, map}
use Rattle.std.proofs.lemmas.List.{map-append}
use Rattle.vp_design.proofs.Steps.{candidate_more, words_kept, words_pushed}
use Rattle.vp_design.proofs.expected.words_read.Goals as goal
use Rattle.vp_design.proofs.expected.words_read.Goals.{then-branch+in_ok-push, else-branch}

pub loop-candidate-preserved : goal.loop-candidate-preserved
loop-candidate-preserved c =
    candidate_more _ _ _ _ _ _ c.in_ok-is_read.field-0 c.loop-candidate-test.true c.loop-candidate.invariant c.in_ok-is_read.ensures
    (elim c.if-branch.branch [
      | then-branch+in_ok-push w ↦
          words_pushed _ _ _ _ w.if-branch.true
          (ap (λ words. map (λ w. w.now) words.items) w.words-is ∙ ap (map (λ w. w.now)) (w.in_ok-push.ensures {u = tt}).items
          ∙ map-append (λ w. w.now) c.loop-candidate.words.items _)
      | else-branch w ↦ words_kept _ _ _ _ w.if-branch.false (ap (λ words. map (λ w. w.now) words.items) w.words-is)
    ])
