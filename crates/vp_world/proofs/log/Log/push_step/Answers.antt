use Rattle.std.proofs.Common.{◌≡◌, ◌<◌, List, length, subst, ◌++◌, ◌∙◌, ◌∷◌, [], sym, ap}
use Rattle.std.specs.Prelude.{IfSome, slice_get}
use Rattle.std.proofs.lemmas.List.{append-nil}
use Rattle.std.specs.Option.{option_to_list}
use Rattle.vp_answer.specs.declared.reply.Reply.TheVariants as reply
use Rattle.vp_world.specs.declared.event.Event.TheVariants as event
use Rattle.vp_world.specs.Entries.{Entry}
use Rattle.vp_world.specs.LogRecords.{LogState}
use Rattle.vp_world.proofs.LogRecords.{at_time_of, one_more}
use Rattle.vp_world.proofs.log.Log.push_step.Goals as goal

pub returns-in-Some : goal.returns-in-Some
returns-in-Some c =
    let i = c.self.inside in
    let e : Entry = record { event = event.Step c.args.k; reply = reply.Done; change = c.args.change; time = c.args.time; finished = c.args.finished } in
    one_more i.others.items i.others.items [] i.changes.items c.record_step-record.new.changes.items (option_to_list c.args.change) i.records.items c.push_reserved.new.self.items c.record_step-record.result e c.self.invariant (sym (append-nil i.others.items)) c.record_step-record.ensures.changes c.push_reserved.ensures.items
    (c.record_step-record.ensures.record i.others.items
    ∙ at_time_of i.others.items c.in-Some.after c.args.k c.args.time c.args.finished c.args.change (subst (λ (xs : List Entry). c.in-Some.after < length xs) c.deref.ensures.value (c.in-Some.ensures {u = tt}).within)
    (subst (λ (xs : List Entry). IfSome (slice_get xs c.in-Some.after) (λ (x : Entry). (x.time ≡ c.args.time) × (x.finished ≡ c.args.finished))) c.deref.ensures.value (c.in-Some.ensures {u = tt}).like) c.if-k-eq0.true)
    ∙ ap (λ (l : LogState). l.entries ++ e ∷ []) c.self.view_is
