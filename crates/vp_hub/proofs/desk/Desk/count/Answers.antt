use Rattle.std.proofs.Common.{rules, ◌≡◌, ◌∙◌, [], ◌∷◌, ℕ, Err, IfErr, ap, arith, cond, refl, subst, sym}
use Rattle.vp_text.specs.Refusals.{Explains}
use Rattle.vp_world.specs.declared.error.WorldError.TheVariants.{NoMemory}
use Rattle.vp_world.specs.Entries.{Entry}
use Rattle.vp_world.specs.History.{entry_of, refused_by, state_after}
use Rattle.vp_world.specs.Worlds.{WorldLog}
use Rattle.vp_hub.specs.Desks.{Desked}
use Rattle.vp_hub.proofs.Desks.{desk_on, same_passes}
use Rattle.vp_hub.proofs.Passes.{passes_on}
use Rattle.vp_hub.proofs.desk.Desk.count.Goals as goal

pub returns-in_err-reply-clause-refused : goal.returns-in_err-reply-clause-refused
returns-in_err-reply-clause-refused g c =
    let happens = c.args.event in
    let w = c.args.self.now.world in
    let e = c.in_err-reply.field-0.0 in
    let is : c.from_residual.result ≡ Err e = search rules in
    let why : Explains NoMemory (refused_by w happens) e = search rules in
    subst (λ r. IfErr r (Explains NoMemory (refused_by w happens))) (sym is) why

pub invariant_of-self-2 : goal.invariant_of-self-2
invariant_of-self-2 g c =
    let old = c.self.inside in
    let w = old.world in
    let x : Entry = entry_of w.opening (state_after w.opening w.log) c.args.event in
    let logged = (c.in_ok-reply.ensures {u = tt}).applied.logged in
    let d : Desked = record { world = w; total = old.calls.total; parts = old.rest.parts; passes_out = old.passes_out.items; handed_back = old.handed_back.entries; archive = old.archive } in
    let next : Desked = record { world = c.apply.new.self; total = c.audit.new.self.total; parts = old.rest.parts; passes_out = old.passes_out.items; handed_back = old.handed_back.entries; archive = old.archive } in
    let one = ap {B = ℕ} (λ b. cond b 1 0) c.requires.session in
    record {
      desk = desk_on _ _ old.rest.amount d next x c.self.invariant.desk logged (omega (arith, one, c.add.ensures.total, c.audit.ensures.total)) refl refl refl;
      history = record {
        named = ap (λ h. h.name) c.front.ensures.0 ∙ c.advance.ensures.0 ∙ c.self.invariant.history.named;
        same = ap (λ h. h.entries) c.front.ensures.0 ∙ c.advance.ensures.1;
      };
      passes = same_passes _ c.apply.new.self.log old.passes_out.items old.passes_out.items old.handed_back.entries old.handed_back.entries
          (passes_on w.log (x ∷ []) old.passes_out.items old.handed_back.entries c.self.invariant.passes) (ap (λ (v : WorldLog). v.log) logged) refl refl;
    }
