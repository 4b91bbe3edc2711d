use Rattle.std.proofs.Common.{rules, ◌≡◌, ◌∙◌, false, refl, subst, sym, true}
use Rattle.std.specs.Prelude.{is_err}
use Rattle.std.proofs.lemmas.Bool.{or_left, or_right}
use Rattle.vp_script.specs.Pending.{is_no_memory}
use Rattle.vp_script.specs.Scripts.{Applied, event_of}
use Rattle.vp_script.proofs.Serving.{answered_now}
use Rattle.vp_script.proofs.script_session.ScriptSession.answer.Goals as goal

pub returns-then-is_err : goal.returns-then-is_err
returns-then-is_err c =
    let answer = c.apply-reply.result in
    let asked = c.apply-reply.new.self in
    let world = c.args.self.now.running.world in
    let applied : Applied (is_no_memory answer) (event_of c.args.self.now.session c.args.request) world answer asked.world =
    subst (λ e. Applied (is_no_memory answer) e world answer asked.world) c.event_of-event.ensures.event c.apply-reply.ensures.applied in
    answered_now c.args.self.now _ asked c.args.request answer _ applied c.apply-reply.ensures.kept c.session_after-self.ensures c.run.ensures
    (λ was. refl) (λ was. refl) (λ was. refl)

pub returns-else-is_err : goal.returns-else-is_err
returns-else-is_err c =
    let answer = c.apply-reply.result in
    let asked = c.apply-reply.new.self in
    let world = c.args.self.now.running.world in
    let applied : Applied (is_no_memory answer) (event_of c.args.self.now.session c.args.request) world answer asked.world =
    subst (λ e. Applied (is_no_memory answer) e world answer asked.world) c.event_of-event.ensures.event c.apply-reply.ensures.applied in
    let run : is_err c.run.result ≡ false = search rules in
    let missing = c.is_out_of_memory_or-self.ensures in
    answered_now c.args.self.now _ asked c.args.request answer _ applied c.apply-reply.ensures.kept c.session_after-self.ensures c.run.ensures
    (λ was. missing ∙ or_right _ _ was) (λ was. missing ∙ or_left _ _ (c.is_no_memory.ensures ∙ was)) (λ was. let clash : true ≡ false = sym was ∙ run in cc)
