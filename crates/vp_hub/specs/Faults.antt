-- The numbers of the refusals of a hub, and what a line reports of them.
use Rattle.std.specs.Prelude.{ℕ}
use Rattle.vp_answer.specs.declared.reply.Refusal.{Refusal}
use Rattle.vp_answer.specs.declared.reply.Refusal.TheVariants.{BadReceipt}
use Rattle.vp_world.specs.Refusals.{refusal_of_error}
use Rattle.vp_hub.specs.declared.error.HubError.{HubError}
use Rattle.vp_hub.specs.declared.error.HubError.TheVariants.{Receipt, Mismatch, World}

-- the number of a refusal (profile)
abbrev pub code_of : HubError → ℕ
code_of Receipt = 1401
code_of Mismatch = 1402
code_of (World e) = 1403

-- the refusal that a line reports of a hub's
abbrev pub refusal_of : HubError → Refusal
refusal_of (World e) = refusal_of_error e
refusal_of Receipt = BadReceipt
refusal_of Mismatch = BadReceipt
