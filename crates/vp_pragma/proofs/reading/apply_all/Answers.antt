use Rattle.std.proofs.Common.{◌≡◌, ℕ, suc, ◌+◌, ◌-◌, ◌<◌, length, Result, sym, ap, subst, ◌∙◌, arith}
use Rattle.std.proofs.lemmas.List.FromFn.{length-enumerate_from}
use Rattle.std.proofs.lemmas.Result.{err_from_is_err_and}
use Rattle.vp_pragma.specs.declared.error.PragmaError.{PragmaError}
use Rattle.vp_pragma.specs.EnvelopesOf.{Progress}
use Rattle.vp_pragma.specs.LineReading.{effects_from}
use Rattle.std.specs.Result.{result_err}
use Rattle.vp_text.specs.Refusals.{MayExplain}
use Rattle.vp_pragma.specs.declared.error.PragmaError.TheVariants as error
use Rattle.vp_pragma.specs.Reading.{HasPlaces, after_all, placed}
use Rattle.vp_pragma.proofs.Refusals.{at_some, next_left, all_some}
use Rattle.vp_pragma.proofs.reading.apply_all.Goals as goal

pub loop-init : goal.loop-init
loop-init c =
    let count : ℕ = length c.args.rest.tokens.now in
    let whole : length (placed c.args.rest) ≡ count - 0 = length-enumerate_from c.args.rest.at c.args.rest.tokens.now ∙ omega arith in
    let some : 0 < count - 0 = omega arith in
    record {
      places = c.requires.places;
      room = c.requires.room;
      left = ap (after_all c.args.line c.args.reading.now) (all_some c.args.pragma c.args.line.text.now (placed c.args.rest) (count - 0) whole some);
    }

pub returns-in_err-next-clause-done : goal.returns-in_err-next-clause-done
returns-in_err-next-clause-done c =
    let p = err_from_is_err_and c.from_residual.result c.from_residual.ensures.1 in
    let count : ℕ = length c.args.rest.tokens.now in
    let one : suc (count - (c.loop.counter + 1)) ≡ count - c.loop.counter = omega arith in
    rw (p.1, p.2)
    (subst (λ (r : Result Progress PragmaError). MayExplain error.NoMemory (result_err r) c.in_err-next.field-0.0)
    (ap (λ (k : ℕ). after_all c.args.line c.loop.reading (effects_from c.args.pragma c.args.line.text.now k (placed c.loop.left))) one ∙ c.loop.invariant.left)
    (c.in_err-next.ensures.fault (count - (c.loop.counter + 1))))

pub loop-preserved : goal.loop-preserved
loop-preserved c =
    let count : ℕ = length c.args.rest.tokens.now in
    let one : suc (count - (c.loop.counter + 1)) ≡ count - c.loop.counter = omega arith in
    record {
      places = at_some HasPlaces _ c.in-Some.next c.in-Some.is c.in_ok-next.ensures.places;
      room = c.in_ok-next.ensures.room;
      left =
          sym (next_left c.args.line c.args.pragma c.loop.reading c.apply_first.new.reading (placed c.loop.left) _ c.in-Some.next c.in-Some.is c.in_ok-next.ensures.more (count - (c.loop.counter + 1)))
          ∙ ap (λ (k : ℕ). after_all c.args.line c.loop.reading (effects_from c.args.pragma c.args.line.text.now k (placed c.loop.left))) one
          ∙ c.loop.invariant.left;
    }

pub returns-clause-done : goal.returns-clause-done
returns-clause-done c =
    let none : length c.args.rest.tokens.now - c.loop.counter ≡ 0 = omega arith in
    let is = sym c.loop.invariant.left ∙ ap (λ (k : ℕ). after_all c.args.line c.loop.reading (effects_from c.args.pragma c.args.line.text.now k (placed c.loop.left))) none in
    λ other. ap result_err is
