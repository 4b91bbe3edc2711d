use Rattle.std.proofs.Common.{◌≡◌, ◌∙◌, ◌+◌, ℕ, List, Option, None, Some, ap, length, slice_get, subst, sym}
use Rattle.std.proofs.lemmas.List.{length_push}
use Rattle.vp_elab.specs.Tree.{declared_envelopes}
use Rattle.vp_policy.proofs.Closed.{numbers_more}
use Rattle.vp_policy.proofs.scope_lists.scope_lists_of.Goals as goal

pub loop-object-preserved : goal.loop-object-preserved
loop-object-preserved c =
    let tree = c.args.design.now.tree in
    let want : ℕ → List ℕ = λ o. declared_envelopes tree (Some o) in
    let lists : List (List ℕ) = c.loop-object.lists.items in
    let more : List (List ℕ) = c.number_of-in-loop-object.new.lists.items in
    let numbers : List ℕ = c.loop-object.of_objects.items in
    let n : ℕ = c.loop-object.object in
    let number : ℕ = c.in_ok-number.number in
    let before = c.loop-object.invariant in
    let kept = c.number_of-in-loop-object.ensures.kept in
    let own : slice_get more number ≡ Some (want n) =
    (c.in_ok-number.ensures {u = tt}).there ∙ ap (λ (l : List ℕ). (let o : Option (List ℕ) = Some l in o)) c.envelopes-in-loop-object.ensures in
    let pushed = (c.in_ok-push.ensures {u = tt}).items in
    record {
      count = ap (λ (xs : List ℕ). length xs) pushed ∙ length_push numbers number ∙ ap (λ (k : ℕ). k + 1) before.count;
      each =
          subst (λ (xs : List ℕ). (o j : ℕ) → slice_get xs o ≡ Some j → slice_get more j ≡ Some (want o)) (sym pushed)
          (numbers_more want lists more numbers n number before.count kept own before.each);
      roots = kept c.in_ok-of_roots.of_roots (declared_envelopes tree None) before.roots;
    }
