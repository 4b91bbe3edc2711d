use Rattle.std.proofs.Common.{length, ◌≡◌, ◌∙◌, ◌-◌, [], true, false, Option, Some, None, List, ap, arith, refl, subst, sym}
use Rattle.std.specs.Prelude.{ℕ, IfSome, IsSome, option_map}
use Rattle.vp_elab.specs.declared.object.ObjectId.{ObjectId}
use Rattle.std.proofs.lemmas.Bool.{lt-ltb}
use Rattle.vp_sim.specs.States.{State, eligible}
use Rattle.vp_race.specs.Recording.{Begun, Chosen, Opened, Stands, opened_by}
use Rattle.vp_race.proofs.Standing.{begun_with, is_kept, kept_seen, kept_stands, some_begun}
use Rattle.vp_race.proofs.open_segment.OpenSegment.keep.Goals as goal

-- where a segment that is begun has no first choice, none is kept
none_kept : (start : Option State) (sources : List ObjectId) (room : ℕ) (choice : Option Chosen)
    → IsSome (option_map (begun_with sources room choice) start) → IfSome (option_map (begun_with sources room choice) start) (λ (b : Begun). b.chosen ≡ None)
    → choice ≡ None
none_kept None sources room choice some none = absurd (cc)
none_kept (Some start) sources room choice some none = none

pub returns-clause-begun : goal.returns-clause-begun
returns-clause-begun c =
    let i = c.self.inside in
    let old = subst (λ (b : Option Begun). IsSome b) (sym c.self.view_is) c.requires.begun in
    some_begun i.start c.replace-sources.new.dest.items i.sources.items (c.replace-sources.new.dest.cap - c.replace-sources.new.dest.len) (i.sources.cap - i.sources.len) i.choice (Some c.new-3.result) old

pub returns-clause-kept : goal.returns-clause-kept
returns-clause-kept c =
    let i = c.self.inside in
    let old = subst (λ (b : Option Begun). IsSome b) (sym c.self.view_is) c.requires.begun in
    is_kept i.start c.replace-sources.new.dest.items (c.replace-sources.new.dest.cap - c.replace-sources.new.dest.len) c.new-3.result c.args.simulation.now
    (some_begun i.start c.replace-sources.new.dest.items i.sources.items (c.replace-sources.new.dest.cap - c.replace-sources.new.dest.len) (i.sources.cap - i.sources.len) i.choice (Some c.new-3.result) old)

pub returns-clause-seen : goal.returns-clause-seen
returns-clause-seen c =
    let i = c.self.inside in
    let s = c.args.simulation.now in
    let begun = subst (λ (b : Option Begun). IsSome b) (sym c.self.view_is) c.requires.begun in
    let first = subst (λ (b : Option Begun). IfSome b (λ x. x.chosen ≡ None)) (sym c.self.view_is) c.requires.first in
    let none : i.choice ≡ None = none_kept i.start i.sources.items (i.sources.cap - i.sources.len) i.choice begun first in
    let sources : c.new-3.result.sources ≡ i.sources.items = ap (λ (x : Chosen). x.sources) c.new-3.ensures ∙ ap (λ v. v.items) c.replace-sources.ensures.value in
    let order : c.new-3.result.order ≡ [] = ap (λ (x : Chosen). x.order) c.new-3.ensures ∙ (c.in_ok-order.ensures {u = tt}).items in
    kept_seen i.start c.replace-sources.new.dest.items i.sources.items (c.replace-sources.new.dest.cap - c.replace-sources.new.dest.len) (i.sources.cap - i.sources.len) c.new-3.result s sources order
    ∙ ap (λ (o : Option Chosen). opened_by (option_map (begun_with i.sources.items (i.sources.cap - i.sources.len) o) i.start) s) (sym none)
    ∙ ap (λ (b : Option Begun). opened_by b s) c.self.view_is

pub returns-clause-stands : goal.returns-clause-stands
returns-clause-stands c =
    let i = c.self.inside in
    let s = c.args.simulation.now in
    let begun = subst (λ (b : Option Begun). IsSome b) (sym c.self.view_is) c.requires.begun in
    let first = subst (λ (b : Option Begun). IfSome b (λ x. x.chosen ≡ None)) (sym c.self.view_is) c.requires.first in
    let none : i.choice ≡ None = none_kept i.start i.sources.items (i.sources.cap - i.sources.len) i.choice begun first in
    let sources : c.new-3.result.sources ≡ i.sources.items = ap (λ (x : Chosen). x.sources) c.new-3.ensures ∙ ap (λ v. v.items) c.replace-sources.ensures.value in
    let order : c.new-3.result.order ≡ [] = ap (λ (x : Chosen). x.order) c.new-3.ensures ∙ (c.in_ok-order.ensures {u = tt}).items in
    let at : c.new-3.result.state ≡ s = ap (λ (x : Chosen). x.state) c.new-3.ensures ∙ (c.in_ok-state.ensures {u = tt}).ok ∙ (c.in-Ok.ensures {u = tt}).copy in
    let old = subst (λ (b : Option Begun). Stands b s) (sym c.self.view_is) c.requires.stands in
    kept_stands i.start c.replace-sources.new.dest.items i.sources.items (c.replace-sources.new.dest.cap - c.replace-sources.new.dest.len) (i.sources.cap - i.sources.len) c.new-3.result s sources order at (lt-ltb 1 (length (eligible s)) c.requires.choice) c.requires.unfinished
    (subst (λ (o : Option Chosen). Stands (option_map (begun_with i.sources.items (i.sources.cap - i.sources.len) o) i.start) s) none old)
