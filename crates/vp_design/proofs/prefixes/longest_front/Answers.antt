use Rattle.std.proofs.Common.{◌-◌, ℕ, arith, below_more, inl, inr, refl, take}
use Rattle.std.specs.Str.{IsCharBoundary}
use Rattle.vp_design.specs.Fronts.{HasNoTokens}
use Rattle.vp_design.proofs.Steps.{longest_of, match_false, match_true}
use Rattle.vp_design.proofs.prefixes.longest_front.Goals as goal

pub returns-then-branch : goal.returns-then-branch
returns-then-branch c =
    record {
      from = omega arith;
      to = omega arith;
      has = inr (match_true _ _ _ c.if-branch.true c.in_ok-front_has_tokens.ensures);
      longest = longest_of c.args.text.now c.args.end (c.args.end - c.loop-fewer.fewer) c.loop-fewer.fewer refl c.loop-fewer.invariant;
    }

pub loop-fewer-preserved : goal.loop-fewer-preserved
loop-fewer-preserved c =
    below_more (λ (k : ℕ). IsCharBoundary c.args.text.now (c.args.end - k) → HasNoTokens (take (c.args.end - k) c.args.text.now)) c.loop-fewer.fewer
    c.loop-fewer.invariant (match_false _ _ _ c.if-branch.false c.in_ok-front_has_tokens.ensures)

pub returns : goal.returns
returns c =
    record {
      from = omega arith;
      to = c.requires.order;
      has = inl refl;
      longest = longest_of c.args.text.now c.args.end c.args.start c.loop-fewer.fewer (omega arith) c.loop-fewer.invariant;
    }
