use Rattle.std.proofs.Common.{◌≡◌, suc, drop}
use Rattle.vp_pragma.specs.Envelopes.{or_later, last_holding, envelope_at}
use Rattle.vp_pragma.proofs.envelope.Envelopes.of.Given as goal

abbrev pub invariant-loop-i : goal.invariant-loop-i
invariant-loop-i l =
    or_later l.number (last_holding (suc l.i) (drop l.i l.envelopes) l.place) ≡ envelope_at l.envelopes l.place
