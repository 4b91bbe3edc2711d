use denote.RattleType.{RattleType}
use denote.Param.Send.{IsSend}
use Rattle.vp_history.specs.contracts.history.Front.{the_row}
use Rattle.vp_history.proofs.Steps.{reached_keyless}

pub send : (E : RattleType) → IsSend (the_row E)
send E = record { owned = λ d vs. ((λ vss. (tt, ((λ uss. (tt, tt)), tt))), reached_keyless E.coded d.name d.entries); leaving = λ k f vs. tt }
