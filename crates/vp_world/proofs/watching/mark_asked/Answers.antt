use Rattle.std.proofs.Common.{◌≡◌, ◌∙◌, false, ap, rules}
use Rattle.vp_vpi.specs.SessionStates.{SessionState}
use Rattle.vp_world.specs.Marks.{are_marked, is_watch}
use Rattle.vp_world.proofs.MarksAsked.{respond_keeps}
use Rattle.vp_world.proofs.watching.mark_asked.Goals as goal

pub returns-else-is_watch-clause-marked : goal.returns-else-is_watch-clause-marked
returns-else-is_watch-clause-marked c = λ observation session_state is marked.
    let watched = c.args.watched.now.items in
    let other : is_watch c.args.query.now ≡ false = search rules in
    ap (λ (s : SessionState). are_marked watched s.registry.callbacks) is
    ∙ respond_keeps watched observation session_state c.args.query.now other marked
