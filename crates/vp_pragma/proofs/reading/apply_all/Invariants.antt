use Rattle.std.proofs.Common.{◌≡◌, ◌-◌}
use Rattle.vp_pragma.specs.LineReading.{effects_from, all_effects}
use Rattle.vp_pragma.specs.Reading.{HasPlaces, HasRoom, after_all, placed}
use Rattle.vp_pragma.proofs.reading.apply_all.Given as goal

abbrev pub invariant-loop : goal.invariant-loop
invariant-loop l = record {
  places : HasPlaces l.left;
  room : HasRoom l.reading;
  left :
      after_all l.line l.reading (effects_from l.pragma l.line.text.now (l.count - l.counter) (placed l.left))
      ≡ after_all l.line l.fn.reading (all_effects l.pragma l.line.text.now (placed l.rest));
}
