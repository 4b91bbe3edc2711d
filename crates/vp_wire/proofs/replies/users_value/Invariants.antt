use Rattle.std.proofs.Common.{◌≡◌, map, take}
use Rattle.serde_json.specs.View.{view}
use Rattle.vp_wire.specs.Lines.{user_sessions_data}
use Rattle.vp_wire.proofs.replies.users_value.Given as goal

abbrev pub invariant-loop-user : goal.invariant-loop-user
invariant-loop-user l = map view l.items.items ≡ map user_sessions_data (take l.user-index l.users)
