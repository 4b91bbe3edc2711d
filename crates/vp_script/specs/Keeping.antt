-- A script that the program keeps.
use Rattle.std.specs.Prelude.{◌≡◌, true}
use Rattle.vp_answer.specs.declared.request.Request.{Request}
use Rattle.vp_answer.specs.declared.reply.Reply.{Reply}
use Rattle.vp_script.specs.declared.script_session.ScriptSession.{ScriptSession}
use Rattle.vp_script.specs.Scripts.{Script, Serves, ServesNow}

-- the script that is kept
abbrev pub script_of : ScriptSession → Script
script_of k = record { running = k.running; session = k.session }

-- a kept script's request is answered as the script serves it; that memory was missing for it or for the simulation is remembered
pub record Keeps (k : ScriptSession) (r : Request) (answer : Reply) (l : ScriptSession) : Type 0 where
  pub serves : Serves l.out_of_memory (script_of k) r answer (script_of l)
  pub out_of_memory : k.out_of_memory ≡ true → l.out_of_memory ≡ true

-- the same where the simulation need not go on first
pub record KeepsNow (k : ScriptSession) (r : Request) (answer : Reply) (l : ScriptSession) : Type 0 where
  pub serves : ServesNow l.out_of_memory (script_of k) r answer (script_of l)
  pub out_of_memory : k.out_of_memory ≡ true → l.out_of_memory ≡ true
