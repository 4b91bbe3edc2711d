use Rattle.std.proofs.Common.{◌≡◌, ◌∙◌, ◌-◌, true, List, ap, arith, drop, length, length-drop, subst, sym}
use Rattle.vp_world.specs.Entries.{Entry}
use Rattle.vp_hub.specs.Desks.{Desked, handed_out, is_due}
use Rattle.vp_hub.specs.declared.archive.LogArchive.TheVariants as kinds
use Rattle.vp_hub.proofs.Desks.{counted_out, hands_out}
use Rattle.vp_hub.proofs.desk.Desk.hand_out.Goals as goal

pub returns-in-Counting : goal.returns-in-Counting
returns-in-Counting g c =
    let old = c.self.inside in
    let h = c.hand_out-in-Counting in
    let d : Desked = record { world = old.world; total = old.calls.total; parts = old.rest.parts; passes_out = old.passes_out.items; handed_back = old.handed_back.entries; archive = old.archive } in
    let next : Desked = record { world = h.new.self; total = old.calls.total; parts = old.rest.parts; passes_out = old.passes_out.items; handed_back = old.handed_back.entries; archive = kinds.Counting h.new.archive } in
    let held : List Entry = drop old.world.handed_out old.world.log in
    let count : length held ≡ length old.world.log - old.world.handed_out = length-drop old.world.handed_out old.world.log in
    let due : is_due d ≡ true = ap is_due c.self.view_is ∙ sym c.is_due.ensures ∙ c.if-not-is_due.false in
    subst (λ (x : Desked). next ≡ handed_out x) c.self.view_is
    (hands_out h.result d next
    (λ taken. counted_out d c.in-Counting.archive h.new.archive h.new.self (length held) c.in-Counting.is count due (h.ensures.world taken) (h.ensures.taken taken))
    (λ refused. h.ensures.allowed refused))
