use Rattle.std.proofs.Common.{◌≡◌, map, take}
use Rattle.serde_json.specs.View.{view}
use Rattle.vp_wire.specs.Lines.{race_line_data}
use Rattle.vp_wire.proofs.replies.race_lines_value.Given as goal

abbrev pub invariant-loop-line : goal.invariant-loop-line
invariant-loop-line l = map view l.items.items ≡ map race_line_data (take l.line-index l.lines)
