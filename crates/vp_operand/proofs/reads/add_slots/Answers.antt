use Rattle.std.proofs.Common.{◌≡◌, ◌++◌, map, subst}
use Rattle.std.specs.Prelude.{OnOk}
use Rattle.vp_operand.specs.Reads.{reads, slot_at}
use Rattle.vp_operand.specs.Terms.{Term}
use Rattle.vp_operand.proofs.Arenas.{term_whole}
use Rattle.vp_operand.proofs.reads.add_slots.Goals as goal

pub returns : goal.returns
returns c =
    subst (λ (x : Term). OnOk c.add_below.result (c.add_below.new.slots.items ≡ c.args.slots.now.items ++ map slot_at (reads x)))
    (term_whole c.args.operands.now c.args.place)
    c.add_below.ensures
