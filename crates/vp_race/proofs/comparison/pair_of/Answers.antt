use Rattle.std.proofs.Common.{◌≡◌, ◌∙◌, ◌++◌, ℕ, true, if◌then◌else◌, List, Option, Some, None, ap, subst, sym}
use Rattle.std.proofs.lemmas.Result.{err_from_is_err_and}
use Rattle.std.specs.Arc.{arc_value}
use Rattle.vp_text.specs.Refusals.{MayExplain}
use Rattle.vp_elab.specs.declared.object.ObjectId.{ObjectId}
use Rattle.vp_sim.specs.States.{State}
use Rattle.vp_race.specs.declared.error.RaceError.TheVariants.{NoMemory, NotComplete}
use Rattle.vp_race.specs.declared.follow.Order.{Order}
use Rattle.vp_race.specs.Orders.{HasEnd, after_choices, followed, is_over, sources_of}
use Rattle.vp_race.specs.Segments.{AreOrders, Run, order_refusal}
use Rattle.vp_race.proofs.Closing.{after_first, end_from, sources_first}
use Rattle.vp_race.proofs.Forcing.{forced_follows, forced_sources}
use Rattle.vp_race.proofs.Refused.{choices_refused}
use Rattle.vp_race.proofs.comparison.pair_of.Goals as goal

-- both are orders of a segment, with their sources, as they are held
are_orders :
    (segment held : Run) (choices second : List ℕ) (end : State) (ones others firsts seconds : List ObjectId)
    → HasEnd segment.start segment.order → after_choices segment.start choices ≡ Some end → is_over end ≡ true
    → firsts ≡ sources_of segment.start segment.order → seconds ≡ sources_of segment.start choices
    → held ≡ segment → second ≡ choices → ones ≡ firsts → others ≡ seconds
    → AreOrders (record { segment = held; second = second }) (record { second = second; first_sources = ones; second_sources = others })
are_orders segment held choices second end ones others firsts seconds whole leads over s t same chosen first other =
    let all : AreOrders (record { segment = segment; second = choices }) (record { second = choices; first_sources = ones; second_sources = others }) = record {
      first = whole;
      second = record { end = end; is_order = record { leads = leads; over = over } };
      shown =
          ap (λ (os : List ObjectId). record { second = choices; first_sources = os; second_sources = others }) (first ∙ s)
          ∙ ap (λ (os : List ObjectId). record { second = choices; first_sources = sources_of segment.start segment.order; second_sources = os }) (other ∙ t);
    } in
    subst (λ (r : Run). AreOrders (record { segment = r; second = second }) (record { second = second; first_sources = ones; second_sources = others })) (sym same)
    (subst (λ (ks : List ℕ). AreOrders (record { segment = segment; second = ks }) (record { second = ks; first_sources = ones; second_sources = others })) (sym chosen) all)

pub returns-clause-first : goal.returns-clause-first
returns-clause-first c =
    let seg = arc_value c.args.segment.now in
    let k = c.args.choice.now in
    ap (after_choices seg.start) c.requires.choice.order ∙ forced_follows (Some seg.start) k.sources k.state k.order c.requires.choice.begins.forced
    ∙ (c.in_ok-run.ensures {u = tt}).leads

pub returns-clause-second : goal.returns-clause-second
returns-clause-second c =
    let seg = arc_value c.args.segment.now in
    let rest = c.in_ok-rest.rest.now in
    let whole = sym c.deref.ensures.value ∙ (c.in_ok-rest.ensures {u = tt}).rest in
    after_first seg.start c.args.choice.now c.args.choices.items rest c.sources.result.now c.requires.choice.begins c.sources.ensures whole
    ∙ ap (λ (s : State). followed (Some s) rest) (sym c.requires.second) ∙ (c.in_ok-follow.ensures {u = tt}).leads

pub returns-in_err-follow-clause-refused : goal.returns-in_err-follow-clause-refused
returns-in_err-follow-clause-refused c =
    let seg = arc_value c.args.segment.now in
    let rest = c.in_ok-rest.rest.now in
    let e = c.in_err-follow.field-0.0 in
    let whole = sym c.deref.ensures.value ∙ (c.in_ok-rest.ensures {u = tt}).rest in
    let there = ap (λ (s : State). followed (Some s) rest) c.requires.second ∙ sym (after_first seg.start c.args.choice.now c.args.choices.items rest c.sources.result.now c.requires.choice.begins c.sources.ensures whole) in
    let p = err_from_is_err_and c.from_residual-in_err-follow.result c.from_residual-in_err-follow.ensures.1 in
    rw (p.1, p.2)
    (subst (λ (o : Option State). MayExplain NoMemory (order_refusal o) e) there (choices_refused (after_choices c.args.second.now rest) e (c.in_err-follow.ensures {u = tt}).refused))

pub returns-then-not-is_over-clause-refused : goal.returns-then-not-is_over-clause-refused
returns-then-not-is_over-clause-refused c other =
    let seg = arc_value c.args.segment.now in
    let rest = c.in_ok-rest.rest.now in
    let whole = sym c.deref.ensures.value ∙ (c.in_ok-rest.ensures {u = tt}).rest in
    ap order_refusal
    (after_first seg.start c.args.choice.now c.args.choices.items rest c.sources.result.now c.requires.choice.begins c.sources.ensures whole
    ∙ ap (λ (s : State). followed (Some s) rest) (sym c.requires.second) ∙ (c.in_ok-follow.ensures {u = tt}).leads)
    ∙ ap (λ b. if b then None else Some NotComplete) (sym c.is_over.ensures ∙ c.if-not-is_over.true)

pub invariant_of-result : goal.invariant_of-result
invariant_of-result c =
    let seg = arc_value c.args.segment.now in
    let k = c.args.choice.now in
    let begins = c.requires.choice.begins in
    let items = c.args.choices.items in
    let rest = c.in_ok-rest.rest.now in
    let whole = sym c.deref.ensures.value ∙ (c.in_ok-rest.ensures {u = tt}).rest in
    let ended = subst (λ (ks : List ℕ). HasEnd seg.start ks) (sym c.requires.choice.order) (end_from seg.start k begins c.requires.choice.has_end) in
    let leads =
    after_first seg.start k items rest c.sources.result.now begins c.sources.ensures whole
    ∙ ap (λ (s : State). followed (Some s) rest) (sym c.requires.second) ∙ (c.in_ok-follow.ensures {u = tt}).leads in
    let of_first = (c.in_ok-run.ensures {u = tt}).sources ∙ sym (ap (sources_of seg.start) c.requires.choice.order ∙ forced_sources (Some seg.start) k.sources k.state k.order begins.forced) in
    let of_second =
    (c.in_ok-follow.ensures {u = tt}).sources
    ∙ ap (λ (l : List ObjectId). l ++ sources_of c.args.second.now rest) ((c.in_ok-sources.ensures {u = tt}).items ∙ c.sources-2.ensures)
    ∙ ap (λ (s : State). k.sources ++ sources_of s rest) c.requires.second
    ∙ sym (sources_first seg.start k items rest c.sources.result.now begins c.sources.ensures whole) in
    let first = ap (λ (o : Order). o.sources.items) (c.in_ok-new.ensures {u = tt}).ok in
    let other = ap (λ (o : Order). o.sources.items) (c.in_ok-new-2.ensures {u = tt}).ok in
    let chosen = ap (λ (o : Order). o.choices.items) (c.in_ok-new-2.ensures {u = tt}).ok in
    are_orders seg (arc_value c.in_ok-try_clone.field-0) items (arc_value c.in_ok-new-2.field-0).choices.items c.follow.new.simulation
    (arc_value c.in_ok-new.field-0).sources.items (arc_value c.in_ok-new-2.field-0).sources.items c.in_ok-run.run'.sources.items c.follow.new.sources.items
    ended leads (sym c.is_over.ensures ∙ c.if-not-is_over.false) of_first of_second (c.in_ok-try_clone.ensures {u = tt}) chosen first other
