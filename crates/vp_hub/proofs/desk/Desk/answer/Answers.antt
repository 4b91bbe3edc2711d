use Rattle.std.proofs.Common.{rules, ◌≡◌, ◌+◌, ◌∙◌, ◌++◌, ◌∷◌, [], ℕ, Err, List, None, Result, ap, arith, length, length-append, subst, sym}
use mathlib.Core.List.{IsPrefix}
use Rattle.vp_answer.specs.declared.reply.Reply.{Reply}
use Rattle.vp_text.specs.Refusals.{Explains}
use Rattle.vp_world.specs.declared.event.Event.{Event}
use Rattle.vp_world.specs.declared.error.WorldError.TheVariants.{NoMemory}
use Rattle.vp_world.specs.Entries.{Entry}
use Rattle.vp_world.specs.History.{answered_by, entry_of, refused_by, state_after}
use Rattle.vp_hub.specs.declared.error.HubError.{HubError}
use Rattle.vp_hub.specs.declared.error.HubError.TheVariants.{World}
use Rattle.vp_hub.specs.Calls.{IsSublist, Passed, after_call, entry_indexes, event_of}
use Rattle.vp_hub.specs.Desks.{Calls, Desked, with_call}
use Rattle.vp_hub.proofs.Calling.{made_so, world_refuses}
use Rattle.vp_hub.proofs.Closings.{own_after, own_entry}
use Rattle.vp_hub.proofs.desk.Desk.answer.Goals as goal

pub returns-in_err-reply : goal.returns-in_err-reply
returns-in_err-reply g c =
    let d : Desked = c.args.self.now in
    let p : Passed = c.args.pass.now in
    let happens : Event = event_of p.session c.args.call in
    let seen : IsPrefix p.seen d.world.log = subst (λ (x : Passed). IsPrefix x.seen d.world.log) c.pass.view_is c.length_from-index.ensures.seen in
    let desk : c.length_from-index.new.self ≡ d = c.length_from-index.ensures.same in
    let is_event : c.event_of-event.result ≡ happens = c.event_of-event.ensures.event ∙ ap (λ (x : Passed). event_of x.session c.args.call) c.pass.view_is in
    let no = c.in_err-reply.ensures {u = tt} in
    let e = c.in_err-reply.field-0.0 in
    let why : Explains NoMemory (refused_by d.world happens) e =
    subst (λ (x : Desked × Event). Explains NoMemory (refused_by x.0.world x.1) e) (λ i. (desk i, is_event i)) no.refused in
    let q : Passed = record { session = c.pass.inside.session; indexes = c.pass.inside.indexes.entries; seen = c.pass.inside.seen.entries; amount = c.count.new.share.amount; parts = c.count.new.share.parts } in
    let same : q ≡ p =
    (λ i. record { session = c.pass.inside.session; indexes = c.pass.inside.indexes.entries; seen = c.pass.inside.seen.entries; amount = no.kept i; parts = no.parts i }) ∙ c.pass.view_is in
    let is : c.from_residual.result ≡ Err (World e) = search rules in
    subst (λ (r : Result Reply HubError). Calls d p c.args.call r c.count.new.self q) (sym is)
    (world_refuses d c.count.new.self p q c.args.call e seen why (no.unchanged ∙ desk) same)

pub invariant_of-pass-2 : goal.invariant_of-pass-2
invariant_of-pass-2 g c =
    let d : Desked = c.length_from-index.new.self in
    let w = d.world in
    let old = c.pass.inside in
    let log = w.log in
    let n : c.length_from-index.result ≡ length log = c.length_from-index.ensures.length ∙ ap (λ (x : Desked). length x.world.log) (sym c.length_from-index.ensures.same) in
    let on : IsPrefix old.seen.entries log = subst (λ (x : Desked). IsPrefix old.seen.entries x.world.log) (sym c.length_from-index.ensures.same) c.length_from-index.ensures.seen in
    let yes = c.in_ok-reply.ensures {u = tt} in
    let happens : Event = c.event_of-event.result in
    let e : Entry = entry_of w.opening (state_after w.opening w.log) happens in
    let indexes : c.push.new.self.entries ≡ old.indexes.entries ++ length log ∷ [] =
    c.push.ensures.1 ∙ ap (λ (k : ℕ). old.indexes.entries ++ k ∷ []) n in
    let sees : c.in_ok-reply.seen.entries ≡ log ++ e ∷ [] = yes.seen.1 ∙ ap (λ (x : Desked). x.world.log) yes.desk in
    let own : IsSublist (old.indexes.entries ++ length log ∷ []) (entry_indexes (log ++ e ∷ []) old.session) =
    own_after old.indexes.entries old.seen.entries log e old.session on c.pass.invariant.keeps.own (own_entry old.session e (c.event_of-event.ensures.session e.reply)) in
    let more : length c.push.new.self.entries ≡ length old.indexes.entries + 1 = ap (λ (l : List ℕ). length l) indexes ∙ length-append old.indexes.entries (length log ∷ []) in
    let kept = c.pass.invariant.keeps in
    record {
      keeps = record {
        own = subst (λ (x : List ℕ × List Entry). IsSublist x.0 (entry_indexes x.1 old.session)) (λ i. (sym indexes i, sym sees i)) own;
        counted = yes.amount ∙ ap (λ (k : ℕ). k + 1) kept.counted ∙ sym more;
        some = omega (arith, yes.amount);
        one = yes.parts ∙ kept.one;
      };
      many = ap (λ (k : ℕ). k + 1) c.pass.invariant.many ∙ sym more;
      named = yes.seen.0;
    }

pub returns : goal.returns
returns g c =
    let d : Desked = c.args.self.now in
    let p : Passed = c.args.pass.now in
    let old = c.pass.inside in
    let happens : Event = event_of p.session c.args.call in
    let seen : IsPrefix p.seen d.world.log = subst (λ (x : Passed). IsPrefix x.seen d.world.log) c.pass.view_is c.length_from-index.ensures.seen in
    let desk : c.length_from-index.new.self ≡ d = c.length_from-index.ensures.same in
    let is_event : c.event_of-event.result ≡ happens = c.event_of-event.ensures.event ∙ ap (λ (x : Passed). event_of x.session c.args.call) c.pass.view_is in
    let yes = c.in_ok-reply.ensures {u = tt} in
    let next : Desked = c.count.new.self in
    let indexes : c.push.new.self.entries ≡ old.indexes.entries ++ length d.world.log ∷ [] =
    c.push.ensures.1 ∙ ap (λ (k : ℕ). old.indexes.entries ++ k ∷ []) c.length_from-index.ensures.length in
    let same : (let x : Passed = record { session = old.session; indexes = c.push.new.self.entries; seen = c.in_ok-reply.seen.entries; amount = c.count.new.share.amount; parts = c.count.new.share.parts } in x) ≡ after_call p (length d.world.log) next.world.log =
    (λ i. record { session = old.session; indexes = indexes i; seen = yes.seen.1 i; amount = yes.amount i; parts = yes.parts i })
    ∙ ap (λ (x : Passed). after_call x (length d.world.log) next.world.log) c.pass.view_is in
    made_so d next p _ c.args.call c.in_ok-reply.reply seen
    (record {
      accepted = subst (λ (x : Desked × Event). refused_by x.0.world x.1 ≡ None) (λ i. (desk i, is_event i)) yes.accepted;
      desk = yes.desk ∙ (λ i. with_call (desk i) (is_event i));
      pass = same;
    })
    (yes.reply ∙ (λ i. answered_by (Desked.world (desk i)) (is_event i)))
