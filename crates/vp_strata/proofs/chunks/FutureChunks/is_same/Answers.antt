use Rattle.std.proofs.Common.{◌≡◌, ◌∙◌, ◌+◌, List, ap, arith, get_or, sym}
use Rattle.std.proofs.lemmas.List.{take_more_same}
use Rattle.vp_strata.specs.declared.event.Timed.{Timed}
use Rattle.vp_text.specs.Lists.{joined}
use Rattle.vp_strata.proofs.Walks.{event_after}
use Rattle.vp_strata.proofs.chunks.FutureChunks.is_same.Goals as goal

pub returns-then-not-is_same-clause-differs : goal.returns-then-not-is_same-clause-differs
returns-then-not-is_same-clause-differs c h =
    let l = c.loop-index in
    let e = c.index-events-first.result in
    let first : get_or (joined c.args.self.now) l._index e ≡ e = event_after c.args.self.now c.events.result.now l.first.0 l.first.1 l._index e e l.invariant.first (omega arith) l.invariant.first_within c.events.ensures c.index-events-first.is in
    let second : get_or (joined c.args.other.now) l._index e ≡ c.index-events-second.result = event_after c.args.other.now c.events-in-loop-index.result.now l.second.0 l.second.1 l._index c.index-events-second.result e l.invariant.second (omega arith) l.invariant.second_within c.events-in-loop-index.ensures c.index-events-second.is in
    let same = c.is_same.ensures.differs (sym first ∙ ap (λ (es : List Timed). get_or es l._index e) h ∙ second) in
    cc

pub loop-index-preserved : goal.loop-index-preserved
loop-index-preserved c =
    let l = c.loop-index in
    let e = c.index-events-first.result in
    let first : get_or (joined c.args.self.now) l._index e ≡ e = event_after c.args.self.now c.events.result.now l.first.0 l.first.1 l._index e e l.invariant.first (omega arith) l.invariant.first_within c.events.ensures c.index-events-first.is in
    let second : get_or (joined c.args.other.now) l._index e ≡ c.index-events-second.result = event_after c.args.other.now c.events-in-loop-index.result.now l.second.0 l.second.1 l._index c.index-events-second.result e l.invariant.second (omega arith) l.invariant.second_within c.events-in-loop-index.ensures c.index-events-second.is in
    let same : e ≡ c.index-events-second.result = c.is_same.ensures.same cc in
    record {
      first = c.following_position-first.ensures.position ∙ ap (λ n. n + 1) l.invariant.first;
      first_within = c.following_position-first.ensures.within;
      second = c.following_position-second.ensures.position ∙ ap (λ n. n + 1) l.invariant.second;
      second_within = c.following_position-second.ensures.within;
      same = take_more_same (joined c.args.self.now) (joined c.args.other.now) l._index e (omega arith) (omega arith) l.invariant.same (first ∙ same ∙ sym second);
    }
