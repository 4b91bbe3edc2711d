use Rattle.std.proofs.Common.{◌≡◌, List, ℕ, suc, ◌==◌, ◌∙◌, ap, subst, false, filter, get_or, map, arith}
use Rattle.std.specs.Prelude.{IfOk}
use Rattle.std.specs.List.{list_any}
use Rattle.vp_modules.specs.Items.{item_place}
use Rattle.vp_pragma.specs.Envelopes.{envelope_at}
use Rattle.vp_elab.specs.Tree.{below}
use Rattle.vp_elab.specs.Objects.{numbers_of}
use Rattle.vp_elab.proofs.Marks.{filter_below_same}
use Rattle.vp_elab.proofs.scope.item_envelopes_of.Goals as goal

pub returns : goal.returns
returns c =
    let places : List ℕ = map item_place c.args.items.now in
    let few = c.count.type_inv in
    let same : filter (λ e. get_or c.marks_of.result e false) (below (suc c.count.result)) ≡ numbers_of c.args.envelopes.now.envelopes places =
    filter_below_same (λ e. get_or c.marks_of.result e false) (λ e. list_any (λ place. envelope_at c.args.envelopes.now.envelopes place == e) places) (suc c.count.result) (λ e l. c.marks_of.ensures e (omega arith))
    ∙ ap (λ (n : ℕ). filter (λ e. list_any (λ place. envelope_at c.args.envelopes.now.envelopes place == e) places) (below (suc n))) c.count.ensures in
    subst (λ (ns : List ℕ). IfOk c.marked.result (λ numbers. numbers ≡ ns)) same c.marked.ensures
