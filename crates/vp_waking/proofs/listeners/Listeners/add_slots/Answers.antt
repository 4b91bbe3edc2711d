use Rattle.std.proofs.Common.{◌≡◌, ◌+◌, true, sym, subst, get_or}
use Rattle.vp_elab.specs.Built.{Elaborated}
use Rattle.vp_expr.specs.Tables.{tables_of}
use Rattle.vp_waking.specs.Listening.{may_listen}
use Rattle.vp_waking.proofs.listeners.Listeners.add_slots.Goals as goal

pub add-requires : goal.add-requires
add-requires c =
    let i = c.loop-slot.slot-index in
    subst (λ (d : Elaborated). may_listen (tables_of d) (c.args.instance.0 + (get_or c.args.slots.now i (record { 0 = 0 })).0) c.args.process ≡ true) (sym c.loop-slot.invariant.design) (c.requires i (record { 0 = 0 }) c.loop-slot-test.true)
