use Rattle.std.proofs.Common.{◌≡◌, ◌∙◌, true, ap, subst, map}
use Rattle.std.specs.Prelude.{is_ok}
use Rattle.std.specs.Arc.{arc_value}
use Rattle.vp_expr.specs.Tables.{tables_of}
use Rattle.vp_waking.specs.Listening.{AreKept, Listening, may_listen}
use Rattle.vp_waking.proofs.Hearing.{all_grown, all_kept, grown_in, heard_grown, kept_grown}
use Rattle.vp_waking.proofs.listeners.Listeners.add.Goals as goal

pub add_listener-requires : goal.add_listener-requires
add_listener-requires c = (c.self.invariant.0 c.args.object).rise

pub invariant_of-self : goal.invariant_of-self
invariant_of-self c =
    let tables = tables_of (arc_value c.self.inside.checked) in
    let old = map (λ v. v.items) c.self.inside.lists.items in
    let new = map (λ v. v.items) c.add_listener.new.lists.items in
    let may : may_listen tables c.args.object c.args.process ≡ true =
    ap (λ (r : Listening). may_listen (tables_of r.design) c.args.object c.args.process) c.self.view_is ∙ c.requires in
    let grown = grown_in c.add_listener.result old new c.args.object c.args.process c.add_listener.ensures.ok c.add_listener.ensures.err in (
      all_grown tables old new c.args.object c.args.process (is_ok c.add_listener.result) grown may c.self.invariant.0,
      all_kept tables old new c.self.inside.known.items (kept_grown old new c.args.object c.args.process (is_ok c.add_listener.result) grown) c.self.invariant.1,
    )

pub returns-clause-kept : goal.returns-clause-kept
returns-clause-kept c =
    let old = map (λ v. v.items) c.self.inside.lists.items in
    let new = map (λ v. v.items) c.add_listener.new.lists.items in
    let grown = grown_in c.add_listener.result old new c.args.object c.args.process c.add_listener.ensures.ok c.add_listener.ensures.err in
    subst (λ (r : Listening). AreKept r.lists new) c.self.view_is (kept_grown old new c.args.object c.args.process (is_ok c.add_listener.result) grown)

pub returns-clause-heard : goal.returns-clause-heard
returns-clause-heard c =
    let old = map (λ v. v.items) c.self.inside.lists.items in
    let new = map (λ v. v.items) c.add_listener.new.lists.items in
    heard_grown c.add_listener.result old new c.args.object c.args.process
    (grown_in c.add_listener.result old new c.args.object c.args.process c.add_listener.ensures.ok c.add_listener.ensures.err)
