use Rattle.std.proofs.Common.{◌≡◌, map, take}
use Rattle.serde_json.specs.View.{view}
use Rattle.vp_wire.specs.Lines.{notice_data}
use Rattle.vp_wire.proofs.replies.notices_value.Given as goal

abbrev pub invariant-loop-notice : goal.invariant-loop-notice
invariant-loop-notice l = map view l.items.items ≡ map notice_data (take l.notice-index l.notices)
