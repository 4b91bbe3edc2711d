use Rattle.std.proofs.Common.{◌≡◌, ◌∙◌, ◌-◌, ◌+◌, ◌++◌, ◌∷◌, [], suc, ℕ, List, Some, Option, length, ap, arith, subst, sym}
use Rattle.std.specs.Prelude.{option_map}
use Rattle.vp_elab.specs.declared.object.ObjectId.{ObjectId}
use Rattle.vp_sim.specs.States.{State, eligible, source_of, step}
use Rattle.vp_race.specs.Orders.{after_choices, reached, sources_of}
use Rattle.vp_race.specs.Search.{choice, next_number, tried_after, tried_from}
use Rattle.vp_race.proofs.Trying.{ends, ends_late, followed_more, goes_on, sources_more, stops}
use Rattle.vp_race.proofs.trial.try_into.Goals as goal

pub returns-then-is_over-clause-tried : goal.returns-then-is_over-clause-tried
returns-then-is_over-clause-tried c =
    ends (tried_after c.args.order.now.choices.items (tried_from c.args.limit c.args.seed c.args.number (Some c.args.simulation.now))) c.loop-turn.order.choices.items (c.args.limit - c.loop-turn._turn) c.args.seed c.loop-turn.number c.loop-turn.simulation c.loop-turn.invariant.tried (sym c.is_over.ensures ∙ c.if-is_over.true)

-- what is left to try, by another count of steps that is the same
left_as : (all : Option (List ℕ)) (choices : List ℕ) (n m seed number : ℕ) (s : State) → n ≡ m → all ≡ option_map (λ ks. choices ++ ks) (tried_from n seed number (Some s)) → all ≡ option_map (λ ks. choices ++ ks) (tried_from m seed number (Some s))
left_as all choices n m seed number s same h = subst (λ (k : ℕ). all ≡ option_map (λ ks. choices ++ ks) (tried_from k seed number (Some s))) same h

chosen : (seed number m count : ℕ) (s : State) (k : ℕ) → k ≡ choice seed m count → m ≡ next_number number → count ≡ length (eligible s) → k ≡ choice seed (next_number number) (length (eligible s))
chosen seed number m count s k h n e = h ∙ ap (λ (x : ℕ). choice seed x count) n ∙ ap (choice seed (next_number number)) e

pub returns-then-not-branch-clause-tried : goal.returns-then-not-branch-clause-tried
returns-then-not-branch-clause-tried c =
    let all = tried_after c.args.order.now.choices.items (tried_from c.args.limit c.args.seed c.args.number (Some c.args.simulation.now)) in
    let choices = c.loop-turn.order.choices.items in
    let n = c.args.limit - (c.loop-turn._turn + 1) in
    let more : c.args.limit - c.loop-turn._turn ≡ suc n = omega (arith, c.loop-turn-test.true) in
    let s = c.loop-turn.simulation in
    let k = c.choice-choice.result in
    let e = chosen c.args.seed c.loop-turn.number c.next_number-number.result c.eligible.result s k c.choice-choice.ensures c.next_number-number.ensures c.eligible.ensures in
    stops all choices n c.args.seed c.loop-turn.number s k (left_as all choices (c.args.limit - c.loop-turn._turn) (suc n) c.args.seed c.loop-turn.number s more c.loop-turn.invariant.tried) (sym c.is_over.ensures ∙ c.if-is_over.false) e ((c.in_ok-take_into.ensures {u = tt}).refused c.if-not-branch.true)

pub loop-turn-preserved : goal.loop-turn-preserved
loop-turn-preserved c =
    let all = tried_after c.args.order.now.choices.items (tried_from c.args.limit c.args.seed c.args.number (Some c.args.simulation.now)) in
    let choices = c.loop-turn.order.choices.items in
    let n = c.args.limit - (c.loop-turn._turn + 1) in
    let more : c.args.limit - c.loop-turn._turn ≡ suc n = omega (arith, c.loop-turn-test.true) in
    let s = c.loop-turn.simulation in
    let k = c.choice-choice.result in
    let e = chosen c.args.seed c.loop-turn.number c.next_number-number.result c.eligible.result s k c.choice-choice.ensures c.next_number-number.ensures c.eligible.ensures in
    let goes = goes_on all choices n c.args.seed c.loop-turn.number s k (left_as all choices (c.args.limit - c.loop-turn._turn) (suc n) c.args.seed c.loop-turn.number s more c.loop-turn.invariant.tried) (sym c.is_over.ensures ∙ c.if-is_over.false) e in
    let met = c.in_ok-take_into.ensures {u = tt} in
    let there = met.taken c.if-not-branch.false in
    let chose = met.choices c.if-not-branch.false in
    record {
      tried =
          goes
          ∙ ap (λ (cs : List ℕ). option_map (λ ks. cs ++ ks) (tried_from n c.args.seed (next_number c.loop-turn.number) (reached (step s k)))) (sym chose)
          ∙ ap (λ (m : ℕ). option_map (λ ks. c.take_into.new.order.choices.items ++ ks) (tried_from n c.args.seed m (reached (step s k)))) (sym c.next_number-number.ensures)
          ∙ ap (λ (o : Option State). option_map (λ ks. c.take_into.new.order.choices.items ++ ks) (tried_from n c.args.seed c.next_number-number.result o)) there;
      leads = λ start begins. ap (after_choices start) chose ∙ followed_more (Some start) choices s k (c.loop-turn.invariant.leads start begins) ∙ there;
      sources =
          λ start begins from.
          met.sources c.if-not-branch.false
          ∙ ap (λ (l : List ObjectId). l ++ source_of s k ∷ []) (c.loop-turn.invariant.sources start begins from)
          ∙ sym (sources_more (Some start) choices s k (c.loop-turn.invariant.leads start begins))
          ∙ ap (sources_of start) (sym chose);
      design = c.take_into.ensures.design ∙ c.loop-turn.invariant.design;
    }

pub returns-clause-tried : goal.returns-clause-tried
returns-clause-tried c =
    let all = tried_after c.args.order.now.choices.items (tried_from c.args.limit c.args.seed c.args.number (Some c.args.simulation.now)) in
    let none : c.args.limit - c.loop-turn._turn ≡ 0 = omega (arith, c.loop-turn-test.false) in
    ends_late all c.loop-turn.order.choices.items c.args.seed c.loop-turn.number c.loop-turn.simulation c.is_over-2.result (left_as all c.loop-turn.order.choices.items (c.args.limit - c.loop-turn._turn) 0 c.args.seed c.loop-turn.number c.loop-turn.simulation none c.loop-turn.invariant.tried) (sym c.is_over-2.ensures)
