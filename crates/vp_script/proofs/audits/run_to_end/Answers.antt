use Rattle.std.proofs.Common.{ℕ, ap}
use Rattle.vp_world.specs.Worlds.{Opening}
use Rattle.vp_script.specs.Keeping.{script_of}
use Rattle.vp_script.proofs.Auditing.{runs_to}
use Rattle.vp_script.proofs.Openings.{answered_keeps}
use Rattle.vp_script.proofs.audits.run_to_end.Goals as goal

pub returns-in-Ok-clause-ran : goal.returns-in-Ok-clause-ran
returns-in-Ok-clause-ran g c opening seeds opens =
    runs_to seeds opening _ _ (script_of c.args.script_session.now) opens c.in-Ok.ran.out_of_memory (script_of c.answered.new.script_session) c.in-Ok.ran.lines (c.in-Ok.ensures {u = tt}).answered

pub returns-in-Ok-clause-opening : goal.returns-in-Ok-clause-opening
returns-in-Ok-clause-opening g c =
    ap (λ (x : Opening × ℕ). x.0) (answered_keeps c.in-Ok.ran.out_of_memory (script_of c.args.script_session.now) (script_of c.answered.new.script_session) c.in-Ok.ran.lines (c.in-Ok.ensures {u = tt}).answered)
