use Rattle.std.proofs.Common.{◌≡◌, map, take}
use Rattle.vp_waking.specs.Listening.{AreKept, IsHeard}
use Rattle.vp_waking.specs.Waking.{any_of}
use Rattle.vp_waking.proofs.listeners.Listeners.add_slots.Given as goal

-- the process is heard where the slots so far say
abbrev pub invariant-loop-slot : goal.invariant-loop-slot
invariant-loop-slot l = record {
  design : l.self.design ≡ l.fn.self.design;
  kept : AreKept l.fn.self.lists l.self.lists;
  heard : IsHeard l.self.lists (map (λ slot. any_of l.instance slot.0) (take l.slot-index l.slots)) l.process;
}
