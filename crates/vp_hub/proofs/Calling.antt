-- What a call of a desk comes to.
use Rattle.std.proofs.Common.{◌≡◌, Err, Ok}
use mathlib.Core.List.{IsPrefix}
use Rattle.vp_answer.specs.declared.reply.Reply.{Reply}
use Rattle.vp_answer.specs.declared.request.Call.{Call}
use Rattle.vp_text.specs.Refusals.{Explains}
use Rattle.vp_world.specs.declared.error.WorldError.{WorldError}
use Rattle.vp_world.specs.declared.error.WorldError.TheVariants.{NoMemory}
use Rattle.vp_world.specs.History.{answered_by, refused_by}
use Rattle.vp_hub.specs.declared.error.HubError.TheVariants.{World}
use Rattle.vp_hub.specs.Calls.{Passed, event_of}
use Rattle.vp_hub.specs.Desks.{Calls, Desked, IsMade}
use Rattle.vp_hub.proofs.Explaining.{explains}

-- a refusal by the world
pub world_refuses : (d next : Desked) (p q : Passed) (c : Call) (e : WorldError) → IsPrefix p.seen d.world.log → Explains NoMemory (refused_by d.world (event_of p.session c)) e → next ≡ d → q ≡ p → Calls d p c (Err (World e)) next q
world_refuses d next p q c e seen why desk pass = record {
  seen = seen;
  made = tt;
  answer = tt;
  refused = explains (refused_by d.world (event_of p.session c)) e why;
  unchanged = (desk, pass);
}

-- a call that is made
pub made_so : (d next : Desked) (p q : Passed) (c : Call) (a : Reply) → IsPrefix p.seen d.world.log → IsMade d p c next q → a ≡ answered_by d.world (event_of p.session c) → Calls d p c (Ok a) next q
made_so d next p q c a seen made answer = record {
  seen = seen;
  made = made;
  answer = answer;
  refused = tt;
  unchanged = tt;
}
