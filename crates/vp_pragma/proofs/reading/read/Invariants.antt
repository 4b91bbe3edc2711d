use Rattle.std.proofs.Common.{◌≡◌, Ok}
use Rattle.vp_pragma.specs.EnvelopesOf.{after_effects, at_start}
use Rattle.vp_pragma.specs.LineReading.{effects_of_text}
use Rattle.vp_pragma.specs.Reading.{HasRoom, IsBefore, after_left}
use Rattle.vp_pragma.proofs.reading.read.Given as goal

abbrev pub invariant-loop-place : goal.invariant-loop-place
invariant-loop-place l = record {
  room : HasRoom l.reading;
  before : IsBefore l.tokens l.place l.before;
  left :
      after_left l.text l.tokens l.reading l.before.line l.place
      ≡ after_effects l.text l.tokens (Ok at_start) (effects_of_text l.text l.tokens);
}
