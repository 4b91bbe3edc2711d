use Rattle.std.proofs.Common.{◌≡◌, ◌∙◌, ◌+◌, ◌-◌, ◌≤◌, ◌<◌, ◌++◌, ◌∷◌, [], ℕ, List, suc, drop, length, ap, arith, subst, sym}
use Rattle.std.proofs.lemmas.Bool.{leb-true}
use Rattle.std.proofs.lemmas.List.{length-drop}
use Rattle.circular_buffer.specs.Buffer.{Buffer, buffer, keep_last}
use Rattle.vp_race.specs.Recording.{AreNumbered, Ring, choices_limit, last_kept, last_within}
use Rattle.vp_race.specs.Segments.{Run}
use Rattle.vp_race.proofs.Numbering.{numbered_drop, numbered_few, numbered_kept}
use Rattle.vp_race.proofs.Within.{last_ones, none_kept}
use Rattle.vp_race.proofs.kept.KeptSegments.push.Goals as goal

pub returns-then-has_steps : goal.returns-then-has_steps
returns-then-has_steps c =
    let runs = c.self.inside.ring.items in
    let run = c.args.segment in
    let many : choices_limit < length run.order = omega (arith, leb-true (choices_limit + 1) (length run.order) (sym c.has_steps.ensures ∙ c.if-has_steps.true)) in
    (λ i. record { kept = (ap (λ (b : Buffer Run). b.items) c.clear.ensures ∙ sym (none_kept choices_limit runs run many)) i; count = c.self.inside.count + 1 })
    ∙ ap (λ (r : Ring). record { kept = last_kept (r.kept ++ run ∷ []); count = r.count + 1 }) c.self.view_is

pub invariant_of-self-2 : goal.invariant_of-self-2
invariant_of-self-2 c =
    let runs = c.self.inside.ring.items in
    let count = c.self.inside.count in
    let run = c.args.segment in
    let kept = keep_last 256 (runs ++ run ∷ []) in
    let within : length runs ≤ 256 = omega (arith, c.len-len.ensures.within.0, c.len-len.ensures.len, c.self.invariant.capacity) in
    let number = c.requires.number ∙ ap (λ (r : Ring). r.count + 1) (sym c.self.view_is) in
    let few : length kept ≤ count + 1 = numbered_few count 256 runs run c.self.invariant.few in
    let numbered : AreNumbered (suc (count + 1 - length kept)) kept = numbered_kept count 256 runs run c.self.invariant.few within c.self.invariant.numbered number in
    let now : c.drop_oldest-self-inside.new.ring ≡ buffer (last_within choices_limit kept) 256 =
    c.drop_oldest-self-inside.ensures.kept ∙ ap (λ (b : Buffer Run). buffer (last_within choices_limit b.items) b.capacity) c.add-choices.ensures.kept in
    let last = last_ones choices_limit kept in
    let is : c.drop_oldest-self-inside.new.ring ≡ buffer (drop last.0 kept) 256 = now ∙ ap (λ (xs : List Run). buffer xs 256) last.2 in
    let fewer = length-drop last.0 kept in
    let after : AreNumbered (suc (count + 1 - length kept) + last.0) (drop last.0 kept) = numbered_drop last.0 (suc (count + 1 - length kept)) kept numbered last.1 in
    let from : suc (count + 1 - length kept) + last.0 ≡ suc (count + 1 - length (drop last.0 kept)) = omega (arith, fewer, few, last.1) in
    record {
      capacity = ap (λ (b : Buffer Run). b.capacity) is;
      few = subst (λ (b : Buffer Run). length b.items ≤ count + 1) (sym is) (omega (arith, fewer, few));
      numbered = subst (λ (b : Buffer Run). AreNumbered (suc (count + 1 - length b.items)) b.items) (sym is)
          (subst (λ (n : ℕ). AreNumbered n (drop last.0 kept)) from after);
      choices = c.drop_oldest-self-inside.ensures.choices;
      limit = c.drop_oldest-self-inside.ensures.few;
    }
