use Rattle.std.specs.Prelude.{option_map}
use Rattle.vp_design.proofs.Steps.{first_is}
use Rattle.vp_design.proofs.lines.first_line.Goals as goal

pub returns : goal.returns
returns c =
    first_is c.args.bytes.now c.first_piece.result.0.now (option_map (λ r. r.now) c.first_piece.result.1) c.first_piece.ensures.parts
