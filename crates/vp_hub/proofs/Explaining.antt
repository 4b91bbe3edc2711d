-- The world's refusals, reported by the hub.
use Rattle.std.proofs.Common.{Option, Some, None, ap, sym}
use Rattle.std.specs.Prelude.{option_map}
use Rattle.vp_text.specs.Refusals.{Explains, MayExplain}
use Rattle.vp_world.specs.declared.error.WorldError.{WorldError}
use Rattle.vp_world.specs.declared.error.WorldError.TheVariants as world_error
use Rattle.vp_hub.specs.declared.error.HubError.TheVariants.{World}
use Rattle.vp_hub.specs.Desks.{out_of_memory}

-- the refusal that is due, or out of memory
pub explains : (due : Option WorldError) (e : WorldError) → Explains world_error.NoMemory due e → Explains out_of_memory (option_map World due) (World e)
explains None e is = ap World is
explains (Some x) e is = ap World is

-- where another refusal than out of memory is reported, it is due
pub may_explain : (due : Option WorldError) (e : WorldError) → Explains world_error.NoMemory due e → MayExplain out_of_memory (option_map World due) (World e)
may_explain None e is other = absurd (other (ap World is))
may_explain (Some x) e is other = ap (λ w. Some (World w)) (sym is)
