use Rattle.std.proofs.Common.{◌≡◌, ◌∙◌, ◌<◌, List, true, get_or, length, ap, subst}
use Rattle.std.proofs.lemmas.List.{get_or_default}
use Rattle.vp_elab.specs.Built.{Elaborated}
use Rattle.vp_source.specs.declared.statement.Edge.TheVariants.{Any}
use Rattle.vp_expr.specs.declared.awaited.Awaited.{Awaited}
use Rattle.vp_expr.specs.Tables.{awaited_of, tables_of}
use Rattle.vp_waking.specs.Listening.{Listening, has, listeners_of}
use Rattle.vp_waking.specs.Waking.{located, object_at}
use Rattle.vp_waking.proofs.Hearing.{heard_kept, heard_next}
use Rattle.vp_waking.proofs.listeners.Listeners.add_statement.Goals as goal

pub add-requires : goal.add-requires
add-requires c = rw c.loop-k.invariant.design (c.requires _)

-- the process is heard by one more of the terms, which the tables show alike at each turn
pub loop-k-preserved : goal.loop-k-preserved
loop-k-preserved c =
    let l = c.loop-k.invariant in
    let blank : Awaited = record { edge = Any; slot = record { 0 = 0 } } in
    let list : List Awaited = awaited_of (tables_of c.args.self.now.design) c.args.place in
    let same : c.awaited.result.now ≡ list =
    c.awaited.ensures.cut
    ∙ ap (λ (d : Elaborated). awaited_of (tables_of d) c.args.place) (c.deref-in-loop-k.ensures ∙ (ap (λ (v : Listening). v.design) c.self-in-loop-k.view_is ∙ l.design)) in
    let at_end : c.awaited-k-end.result.now ≡ list =
    c.awaited-k-end.ensures.cut
    ∙ ap (λ (d : Elaborated). awaited_of (tables_of d) c.args.place) (c.deref.ensures ∙ ap (λ (v : Listening). v.design) c.self.view_is) in
    let within : c.loop-k.k < length list = subst (λ (xs : List Awaited). c.loop-k.k < length xs) at_end c.loop-k-test.true in
    record {
      design = c.in_ok-add.ensures.design ∙ l.design;
      kept = λ object process h. c.in_ok-add.ensures.kept object process (l.kept object process h);
      heard =
          heard_next (located c.args.instance) c.add.new.self.lists list c.loop-k.k c.args.process (get_or list c.loop-k.k blank)
          within (get_or_default list c.loop-k.k blank _ within)
          (heard_kept c.loop-k.self.lists c.add.new.self.lists _ c.args.process c.in_ok-add.ensures.kept l.heard)
          (subst (λ (xs : List Awaited). has (listeners_of c.add.new.self.lists (object_at c.args.instance (get_or xs c.loop-k.k blank).slot.0)) c.args.process ≡ true) same c.in_ok-add.ensures.heard);
    }
