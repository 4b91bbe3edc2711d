-- What a call of a desk gives a thread that let go of the lock.
use Rattle.std.proofs.Common.{◌≡◌, ◌∙◌, ℕ, List, [], ◌∷◌, ◌++◌, length, Result, Ok, Err, refl, sym, ap, subst}
use mathlib.Core.List.{IsPrefix}
use Rattle.vp_answer.specs.declared.reply.Reply.{Reply}
use Rattle.vp_answer.specs.declared.reply.Reply.TheVariants as reply
use Rattle.vp_answer.specs.declared.request.Call.{Call}
use Rattle.vp_world.specs.declared.event.Event.TheVariants as event
use Rattle.vp_world.specs.Entries.{Entry}
use Rattle.vp_world.specs.History.{IsLegal, answered_by, entry_of, state_after}
use Rattle.vp_world.specs.Worlds.{WorldLog, Opening}
use Rattle.vp_hub.specs.declared.error.HubError.{HubError}
use Rattle.vp_hub.specs.Calls.{Passed, after_call, event_of}
use Rattle.vp_hub.specs.Desks.{Calls, Desked, IsMade, WithPass}
use Rattle.vp_hub.specs.Hubs.{IsAnswered, IsOpened, IsReceived}

-- a call that is made is received
pub received : (opening : Opening) (d next : Desked) (p q : Passed) (c : Call) → IsPrefix p.seen d.world.log → IsMade d p c next q → IsLegal opening [] next.world.log → IsReceived opening p c (answered_by d.world (event_of p.session c)) q
received opening d next p q c seen made legal =
    let w = d.world in
    let e : Entry = entry_of w.opening (state_after w.opening w.log) (event_of p.session c) in
    let added : next.world.log ≡ w.log ++ e ∷ [] = ap (λ (x : Desked). x.world.log) made.desk in
    let sees : q.seen ≡ next.world.log = ap (λ (x : Passed). x.seen) made.pass in
    record {
      between = seen.0;
      entry = e;
      seen = sees ∙ added ∙ ap (λ (l : List Entry). l ++ e ∷ []) (sym seen.1);
      event = refl;
      reply = refl;
      legal = subst (IsLegal opening []) (sym sees) legal;
      pass = made.pass ∙ (λ i. after_call p (length (sym seen.1 i)) (sym sees i));
    }

-- what a call comes to
pub answered : (opening : Opening) (d next : Desked) (p q : Passed) (c : Call) (result : Result Reply HubError) → Calls d p c result next q → IsLegal opening [] next.world.log → IsAnswered opening p c result q
answered opening d next p q c (Ok a) calls legal = record {
  made = subst (λ (x : Reply). IsReceived opening p c x q) (sym calls.answer) (received opening d next p q c calls.seen calls.made legal);
  unchanged = tt;
}
answered opening d next p q c (Err e) calls legal = record { made = tt; unchanged = calls.unchanged.1 }

-- what an opening gives
pub opened : (opening : Opening) (d next : Desked) (p : Passed) (user token : List ℕ) → WithPass d (event.Open user token) p.session next → answered_by d.world (event.Open user token) ≡ reply.Opened p.session → p.indexes ≡ length d.world.log ∷ [] → p.seen ≡ next.world.log → (p.amount ≡ 1) × (p.parts ≡ 1) → IsLegal opening [] next.world.log → IsOpened opening user token p
opened opening d next p user token desk told indexes sees share legal =
    let w = d.world in
    let e : Entry = entry_of w.opening (state_after w.opening w.log) (event.Open user token) in
    let added : next.world.log ≡ w.log ++ e ∷ [] = ap (λ (x : WorldLog). x.log) desk.world in
    record {
      before = w.log;
      entry = e;
      seen = sees ∙ added;
      event = refl;
      reply = told;
      legal = subst (IsLegal opening []) (sym sees) legal;
      indexes = indexes;
      amount = share.0;
      parts = share.1;
    }
