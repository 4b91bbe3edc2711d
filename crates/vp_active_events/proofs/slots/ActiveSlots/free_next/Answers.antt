use Rattle.std.proofs.Common.{◌∙◌, rules, sym}
use Rattle.vp_active_events.proofs.Places.{next_freed, next_none, next_waits, next_within}
use Rattle.vp_active_events.proofs.slots.ActiveSlots.free_next.Goals as goal

pub free-requires-clause-within : goal.free-requires-clause-within
free-requires-clause-within c = next_within c.args.process c.args.start c.in-Some.place c.args.self.now.slots (sym c.next_update.ensures ∙ c.in-Some.is)

pub free-requires-clause-waits : goal.free-requires-clause-waits
free-requires-clause-waits c = next_waits c.args.process c.args.start c.in-Some.place c.args.self.now.slots c.requires.within c.requires.waits (sym c.next_update.ensures ∙ c.in-Some.is)

pub returns-in-Some-clause-slots : goal.returns-in-Some-clause-slots
returns-in-Some-clause-slots c = next_freed c.args.process c.args.start c.in-Some.place c.args.self.now.slots _ c.requires.within (sym c.next_update.ensures ∙ c.in-Some.is) c.free.ensures.slots

pub returns-in_default-clause-slots : goal.returns-in_default-clause-slots
returns-in_default-clause-slots c = next_none c.args.process c.args.start c.args.self.now.slots (search rules)
