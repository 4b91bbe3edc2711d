use Rattle.std.proofs.Common.{◌≡◌, ◌≤◌, ◌<◌, ◌+◌, ℕ, Bool, true, false, List, Option, None, length, get_or, sym, ap, subst, ◌∙◌, arith}
use Rattle.std.proofs.lemmas.List.Sums.{count_by-le-length}
use Rattle.std.specs.List.{list_any}
use Rattle.vp_modules.specs.Definitions.{is_number, with_numbers}
use Rattle.vp_modules.specs.Items.{items_in}
use Rattle.vp_modules.proofs.Looked.{nowhere}
use Rattle.vp_modules.proofs.Graph.{Searched, searched_all, searched_found, searched_more}
use Rattle.vp_modules.proofs.Hierarchy.{graph_in_range, graph_of, leads_back_is, nexts_are}
use Rattle.vp_modules.proofs.recursion.leads_back.Goals as goal

pub returns-then-place-len : goal.returns-then-place-len
returns-then-place-len c =
    let source = c.args.source.now in
    sym (
    leads_back_is source nowhere c.args.module c.requires.once c.args.number (length source.modules) c.requires.there
    ∙ searched_all (graph_of source nowhere) c.args.number c.loop-place.reached.order.items c.loop-place.place (length source.modules) c.loop-place.invariant.searched
    (omega arith)
    )

pub returns-then-instantiates : goal.returns-then-instantiates
returns-then-instantiates c =
    let source = c.args.source.now in
    let order : List ℕ = c.loop-place.reached.order.items in
    let few : length order ≤ length source.modules =
    omega (arith, c.loop-place.reached.counted, count_by-le-length (λ (b : Bool). b) c.loop-place.reached.seen.items) in
    let nexts = nexts_are source nowhere c.args.definitions.now c.definitions_in-nexts.result.now c.as_slice.result.now c.at.result (get_or order c.loop-place.place 0)
    c.requires.definitions c.definitions_in-nexts.ensures c.as_slice.ensures c.at.ensures.number in
    let found : list_any (is_number c.args.number) (graph_of source nowhere (get_or order c.loop-place.place 0)) ≡ true =
    ap (λ (ds : List (Option ℕ)). list_any (is_number c.args.number) ds) (sym nexts) ∙ sym c.instantiates.ensures ∙ c.if-instantiates.true in
    sym (
    leads_back_is source nowhere c.args.module c.requires.once c.args.number (length source.modules) c.requires.there
    ∙ searched_found (graph_of source nowhere) c.args.number order c.loop-place.place (length source.modules) c.loop-place.invariant.searched (omega arith) few found
    )

pub add_all-requires : goal.add_all-requires
add_all-requires c i k at =
    let source = c.args.source.now in
    let order : List ℕ = c.loop-place.reached.order.items in
    let nexts = nexts_are source nowhere c.args.definitions.now c.definitions_in-nexts.result.now c.as_slice.result.now c.at.result (get_or order c.loop-place.place 0)
    c.requires.definitions c.definitions_in-nexts.ensures c.as_slice.ensures c.at.ensures.number in
    let known : k < length source.modules =
    graph_in_range source (items_in source (get_or source.modules (get_or order c.loop-place.place 0) nowhere)) i k
    (ap (λ (ds : List (Option ℕ)). get_or ds i None) (sym nexts) ∙ at) in
    omega (arith, c.loop-place.invariant.count)

pub loop-place-preserved : goal.loop-place-preserved
loop-place-preserved c =
    let source = c.args.source.now in
    let order : List ℕ = c.loop-place.reached.order.items in
    let nexts = nexts_are source nowhere c.args.definitions.now c.definitions_in-nexts.result.now c.as_slice.result.now c.at.result (get_or order c.loop-place.place 0)
    c.requires.definitions c.definitions_in-nexts.ensures c.as_slice.ensures c.at.ensures.number in
    let none : list_any (is_number c.args.number) (graph_of source nowhere (get_or order c.loop-place.place 0)) ≡ false =
    ap (λ (ds : List (Option ℕ)). list_any (is_number c.args.number) ds) (sym nexts) ∙ sym c.instantiates.ensures ∙ c.if-instantiates.false in
    record {
      count = c.add_all.ensures.count ∙ c.loop-place.invariant.count;
      searched =
          subst (λ (os : List ℕ). Searched (graph_of source nowhere) c.args.number os (c.loop-place.place + 1))
          (sym ((c.in_ok-add_all.ensures {u = tt}).order ∙ ap (λ (ds : List (Option ℕ)). with_numbers order ds) nexts))
          (searched_more (graph_of source nowhere) c.args.number order c.loop-place.place c.loop-place.invariant.searched (omega arith) none);
    }

pub returns : goal.returns
returns c =
    let source = c.args.source.now in
    let few : length c.loop-place.reached.order.items ≤ length source.modules =
    omega (arith, c.loop-place.reached.counted, count_by-le-length (λ (b : Bool). b) c.loop-place.reached.seen.items) in
    sym (
    leads_back_is source nowhere c.args.module c.requires.once c.args.number (length source.modules) c.requires.there
    ∙ searched_all (graph_of source nowhere) c.args.number c.loop-place.reached.order.items c.loop-place.place (length source.modules) c.loop-place.invariant.searched
    (omega arith)
    )
