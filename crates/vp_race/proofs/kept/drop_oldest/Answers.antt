use Rattle.std.proofs.Common.{◌≡◌, ◌∙◌, Some, ap, arith, drop, false, sym, true}
use Rattle.std.specs.Prelude.{nat_le, slice_get}
use Rattle.std.proofs.lemmas.Bool.{le-leb, lt-leb}
use Rattle.circular_buffer.specs.Buffer.{Buffer, buffer}
use Rattle.vp_race.specs.Recording.{choices_limit, choices_of, last_within}
use Rattle.vp_race.specs.Segments.{Run}
use Rattle.vp_race.proofs.Within.{choices_first, within_all, within_fewer}
use Rattle.vp_race.proofs.kept.drop_oldest.Goals as goal

pub returns-clause-kept : goal.returns-clause-kept
returns-clause-kept c =
    let ring = c.loop-choices.ring in
    let same = c.loop-choices.invariant in
    let few : nat_le (choices_of ring.items) choices_limit ≡ true = le-leb (choices_of ring.items) choices_limit (omega (arith, same.0, c.loop-choices-test.false)) in
    (λ i. buffer (sym (within_all choices_limit ring.items few) i) (same.2 i)) ∙ ap (λ xs. buffer xs c.args.ring.now.capacity) same.1

pub loop-choices-preserved-in-Some : goal.loop-choices-preserved-in-Some
loop-choices-preserved-in-Some c =
    let items = c.loop-choices.ring.items in
    let oldest = c.in-Some.oldest in
    let same = c.loop-choices.invariant in
    let first : Some oldest ≡ slice_get items 0 = sym c.in-Some.is ∙ c.pop_front.ensures.value in
    let now = c.pop_front.ensures.items in
    let rest : choices_of c.pop_front.new.self.items ≡ choices_of (drop 1 items) = ap (λ (b : Buffer Run). choices_of b.items) now in
    let many : nat_le (choices_of items) choices_limit ≡ false = lt-leb (choices_of items) choices_limit (omega (arith, same.0, c.loop-choices-test.true)) in (
      omega (arith, rest, choices_first items oldest first, same.0, c.choices-choices.ensures),
      ap (λ (b : Buffer Run). last_within choices_limit b.items) now ∙ sym (within_fewer choices_limit items oldest first many) ∙ same.1,
      ap (λ (b : Buffer Run). b.capacity) now ∙ same.2,
    )
