use Rattle.std.proofs.Common.{◌≡◌, ◌∙◌, ◌<◌, ◌∷◌, ◌++◌, [], ℕ, Bool, Option, Some, None, Vec, Global, List, true, false, ap, length, sym, subst, arith, slice_get}
use Rattle.std.specs.Prelude.{IfSome, is_some, map, take, unwrap_or}
use Rattle.std.proofs.lemmas.List.{length-append}
use Rattle.vp_elab.specs.Built.{Elaborated}
use Rattle.vp_policy.specs.declared.view.SeenObject.{SeenObject}
use Rattle.vp_policy.specs.SeenObjects.{node_after, nodes_from, numbers_from}
use Rattle.vp_policy.specs.Users.{Member, member_at}
use Rattle.vp_policy.specs.View.{HasScope, known_nodes, seen_node}
use Rattle.vp_policy.proofs.Views.{marks_before, nodes_marked, nodes_unmarked, numbers_marked, numbers_unmarked, scope_here}
use Rattle.vp_policy.proofs.policy.Policy.known_objects.Goals.{then-is_marked+in_ok-object+in_ok-push+in_ok-push-2, else-is_marked+in_ok-push-3}
use Rattle.vp_policy.proofs.policy.Policy.known_objects.Goals as goal

pub loop-number-preserved : goal.loop-number-preserved
loop-number-preserved c =
    let design : Elaborated = c.args.design.now in
    let user : Member = member_at c.args.self.now.members c.args.user.0 in
    let known : List Bool = c.args.known.now in
    let n = c.loop-number.number in
    let before = c.loop-number.invariant in
    let os = c.loop-number.objects.items in
    let numbers_so_far = c.loop-number.numbers.items in
    let within : n < length design.tree.nodes = omega arith in
    elim c.if-is_marked.branch [
      | then-is_marked+in_ok-object+in_ok-push+in_ok-push-2 w ↦
          let set : unwrap_or (slice_get known n) false ≡ true = sym c.is_marked.ensures ∙ w.if-is_marked.true in
          let o = w.in_ok-object.object in
          let objects : c.if-is_marked.objects.items ≡ os ++ o ∷ [] = ap (λ (v : Vec SeenObject Global). v.items) w.objects-is ∙ (w.in_ok-push-2.ensures {u = tt}).items in
          let numbers : c.if-is_marked.numbers.items ≡ numbers_so_far ++ Some w.len.result ∷ [] = ap (λ (v : Vec (Option ℕ) Global). v.items) w.numbers-is ∙ (w.in_ok-push.ensures {u = tt}).items in
          let more = length-append os (o ∷ []) in
          let longer = ap length objects in
          let wider = length-append numbers_so_far (Some w.len.result ∷ []) in
          let counted = ap length numbers in
          record {
            nodes = ap (nodes_from []) objects ∙ nodes_marked design user known n within c.requires.all os o numbers_so_far set before.nodes before.numbers
                (subst (λ (ns : List (Option ℕ)). IfSome (slice_get design.tree.nodes n) (λ node. node_after (known_nodes design user (map is_some ns) (take n design.tree.nodes)) o ≡ seen_node design user node))
                w.as_slice.ensures.value (w.in_ok-object.ensures {u = tt}).node);
            numbers = numbers ∙ numbers_marked design user known n within c.requires.all os numbers_so_far w.len.result set before.nodes before.numbers (omega arith);
            few = omega arith;
            many = omega arith;
          }
      | else-is_marked+in_ok-push-3 w ↦
          let unset : unwrap_or (slice_get known n) false ≡ false = sym c.is_marked.ensures ∙ w.if-is_marked.false in
          let objects : c.if-is_marked.objects.items ≡ os = ap (λ (v : Vec SeenObject Global). v.items) w.objects-is in
          let numbers : c.if-is_marked.numbers.items ≡ numbers_so_far ++ None ∷ [] = ap (λ (v : Vec (Option ℕ) Global). v.items) w.numbers-is ∙ (w.in_ok-push-3.ensures {u = tt}).items in
          let same = ap length objects in
          let last : List (Option ℕ) = None ∷ [] in
          let wider = length-append numbers_so_far last in
          let counted = ap length numbers in
          record {
            nodes = ap (nodes_from []) objects ∙ nodes_unmarked design user known n within c.requires.all os unset before.nodes;
            numbers = numbers ∙ numbers_unmarked design user known n within c.requires.all numbers_so_far unset before.numbers;
            few = omega arith;
            many = omega arith;
          }
    ]

pub seen_object-requires-clause-numbers : goal.seen_object-requires-clause-numbers
seen_object-requires-clause-numbers c =
    let design : Elaborated = c.args.design.now in
    let user : Member = member_at c.args.self.now.members c.args.user.0 in
    let before = c.loop-number.invariant in
    let within : c.loop-number.number < length design.tree.nodes = omega arith in
    let here : c.loop-number.numbers.items ≡ numbers_from 0 (map is_some c.loop-number.numbers.items) =
    before.numbers ∙ ap (numbers_from 0) (sym (marks_before design user c.args.known.now c.loop-number.number within c.requires.all c.loop-number.numbers.items before.numbers)) in
    subst (λ (ns : List (Option ℕ)). ns ≡ numbers_from 0 (map is_some ns)) (sym c.as_slice.ensures.value) here

pub seen_object-requires-clause-scope : goal.seen_object-requires-clause-scope
seen_object-requires-clause-scope c =
    let design : Elaborated = c.args.design.now in
    let user : Member = member_at c.args.self.now.members c.args.user.0 in
    let n = c.loop-number.number in
    let within : n < length design.tree.nodes = omega arith in
    let set : unwrap_or (slice_get c.args.known.now n) false ≡ true = sym c.is_marked.ensures ∙ c.if-is_marked.true in
    subst (λ (ns : List (Option ℕ)). IfSome (slice_get design.tree.nodes n) (HasScope design.tree.nodes (map is_some ns))) (sym c.as_slice.ensures.value)
    (scope_here design user c.args.known.now n within c.requires.all c.loop-number.numbers.items c.loop-number.invariant.numbers set c.requires.scopes)
