use Rattle.std.proofs.Common.{rules, ◌≡◌, ◌∙◌, ◌++◌, ◌∷◌, [], ℕ, Err, IfErr, List, Some, ap, append-nil, arith, length, refl, subst, sym}
use Rattle.vp_answer.specs.declared.reply.Reply.{Reply}
use Rattle.vp_answer.specs.declared.reply.Reply.TheVariants as reply
use Rattle.vp_answer.specs.declared.request.SessionId.{SessionId}
use Rattle.vp_world.specs.declared.event.Event.{Event}
use Rattle.vp_world.specs.Entries.{Entry, session_in}
use Rattle.vp_world.specs.Worlds.{WorldLog}
use Rattle.vp_hub.specs.Calls.{IsSublist, entry_indexes, opened_in}
use Rattle.vp_hub.proofs.Closings.{own_after, own_entry}
use Rattle.vp_text.specs.Refusals.{Explains}
use Rattle.vp_world.specs.declared.event.Event.TheVariants as event
use Rattle.vp_world.specs.declared.error.WorldError.TheVariants.{NoMemory}
use Rattle.vp_world.specs.History.{entry_of, refused_by, state_after}
use Rattle.vp_hub.specs.declared.error.HubError.TheVariants.{World}
use Rattle.vp_hub.specs.Desks.{Desked, refusal_of, out_of_memory}
use Rattle.vp_hub.proofs.Desks.{desk_out, same_passes}
use Rattle.vp_hub.proofs.Explaining.{explains}
use Rattle.vp_hub.proofs.Opened.{opened_anew}
use Rattle.vp_hub.proofs.Passes.{pass_out}
use Rattle.vp_hub.proofs.desk.Desk.open.Goals as goal

pub returns-in_err-reply-clause-refused : goal.returns-in_err-reply-clause-refused
returns-in_err-reply-clause-refused g c =
    let happens = event.Open c.args.user c.args.token in
    let w = c.args.self.now.world in
    let e = c.in_err-reply.field-0.0 in
    let is : c.from_residual-in_err-reply.result ≡ Err (World e) = search rules in
    let why : Explains NoMemory (refused_by w happens) e = search rules in
    subst (λ r. IfErr r (Explains out_of_memory (refusal_of c.args.self.now happens))) (sym is) (explains (refused_by w happens) e why)

pub invariant_of-result : goal.invariant_of-result
invariant_of-result g c =
    let w = c.self.inside.world in
    let id = c.in-Opened.session in
    let happens : Event = event.Open c.args.user c.args.token in
    let e : Entry = entry_of w.opening (state_after w.opening w.log) happens in
    let yes = c.in_ok-reply.ensures {u = tt} in
    let at : c.entry_count-index.result ≡ length w.log = c.entry_count-index.ensures.count in
    let indexes : c.push.new.self.entries ≡ length w.log ∷ [] = c.push.ensures.1 ∙ (λ i. c.new-indexes.ensures i ++ at i ∷ []) in
    let sees : c.front.result.entries ≡ w.log ++ e ∷ [] =
    c.front.ensures.2 ∙ c.advance.ensures.1 ∙ ap (λ (x : WorldLog). x.log) yes.applied.logged in
    let told : session_in happens e.reply ≡ Some id = ap (λ (r : Reply). session_in happens r) (sym yes.reply ∙ c.in-Opened.is) in
    let own : IsSublist (length w.log ∷ []) (entry_indexes (w.log ++ e ∷ []) id) =
    own_after [] w.log w.log e id ([], append-nil w.log) tt (own_entry id e told) in
    let amount : c.add.new.share.amount ≡ 1 = omega (arith, c.add.ensures.amount, c.split_off-share.ensures.amount) in
    let parts : c.add.new.share.parts ≡ 1 = c.add.ensures.parts ∙ c.split_off-share.ensures.parts in
    record {
      keeps = record {
        own = subst (λ (x : List ℕ × List Entry). IsSublist x.0 (entry_indexes x.1 id)) (λ i. (sym indexes i, sym sees i)) own;
        counted = amount ∙ ap (λ (l : List ℕ). length l) (sym indexes);
        some = omega (arith, amount);
        one = parts;
      };
      many = ap (λ (l : List ℕ). length l) (sym indexes);
      named = c.front.ensures.1 ∙ c.advance.ensures.0 ∙ c.self.invariant.history.named;
    }

pub returns-in_err-check_open-clause-refused : goal.returns-in_err-check_open-clause-refused
returns-in_err-check_open-clause-refused g c =
    let happens = event.Open c.args.user c.args.token in
    let w = c.args.self.now.world in
    let e = c.in_err-check_open.field-0.0 in
    let is : c.from_residual.result ≡ Err (World e) = search rules in
    let due : refused_by w happens ≡ Some e = search rules in
    let why : Explains NoMemory (refused_by w happens) e = subst (λ o. Explains NoMemory o e) (sym due) refl in
    subst (λ r. IfErr r (Explains out_of_memory (refusal_of c.args.self.now happens))) (sym is) (explains (refused_by w happens) e why)

pub invariant_of-self-2 : goal.invariant_of-self-2
invariant_of-self-2 g c =
    let old = c.self.inside in
    let w = old.world in
    let id = c.in-Opened.session in
    let happens : Event = event.Open c.args.user c.args.token in
    let e : Entry = entry_of w.opening (state_after w.opening w.log) happens in
    let yes = c.in_ok-reply.ensures {u = tt} in
    let logged = yes.applied.logged in
    let answered : e.reply ≡ reply.Opened id = sym yes.reply ∙ c.in-Opened.is in
    let anew = opened_anew w.opening w.log c.args.user c.args.token id c.entry_count-index.ensures.legal answered in
    let opens : opened_in happens e.reply ≡ Some id = ap (λ (r : Reply). opened_in happens r) answered in
    let out : c.push_reserved.new.self.items ≡ old.passes_out.items ++ id ∷ [] = c.push_reserved.ensures.items ∙ ap (λ (ids : List SessionId). ids ++ id ∷ []) c.reserve.ensures.items in
    let d : Desked = record { world = w; total = old.calls.total; parts = old.rest.parts; passes_out = old.passes_out.items; handed_back = old.handed_back.entries; archive = old.archive } in
    let next : Desked = record { world = c.apply.new.self; total = c.add.new.self.total; parts = c.split_off-share.new.self.parts; passes_out = c.push_reserved.new.self.items; handed_back = old.handed_back.entries; archive = old.archive } in
    let amount : c.split_off-share.new.self.amount ≡ old.rest.amount = omega (arith, c.split_off-share.ensures.amount_left) in
    record {
      desk = desk_out _ _ old.rest.amount c.split_off-share.new.self.amount d next e id c.self.invariant.desk logged refl c.add.ensures.total c.split_off-share.ensures.parts_left out refl amount;
      history = record {
        named = ap (λ h. h.name) c.front.ensures.0 ∙ c.advance.ensures.0 ∙ c.self.invariant.history.named;
        same = ap (λ h. h.entries) c.front.ensures.0 ∙ c.advance.ensures.1;
      };
      passes = same_passes (w.log ++ e ∷ []) c.apply.new.self.log (old.passes_out.items ++ id ∷ []) c.push_reserved.new.self.items old.handed_back.entries old.handed_back.entries
          (pass_out w.log e id old.passes_out.items old.handed_back.entries opens anew c.self.invariant.passes) (ap (λ (v : WorldLog). v.log) logged) out refl;
    }
