use Rattle.std.proofs.Common.{sym}
use Rattle.vp_lex.specs.Scanning.{kind_of}
use Rattle.vp_lex.proofs.PieceSteps.{piece_stands, piece_faults}
use Rattle.vp_lex.proofs.piece.piece_at.Goals as goal

pub returns-in-Ok : goal.returns-in-Ok
returns-in-Ok c =
    let stands = piece_stands c.args.bytes.now c.args.start c.in-Ok.end (kind_of c.in-Some.kind) c.requires (sym c.in-Some.ensures) c.in-Ok.ensures in
    record { within = (stands.begins, stands.ends); ok = stands.first; fault = tt }

pub returns-in-Err : goal.returns-in-Err
returns-in-Err c =
    let faults = piece_faults c.args.bytes.now c.args.start (kind_of c.in-Some.kind) c.in-Err.fault c.requires (sym c.in-Some.ensures) c.in-Err.ensures in
    record { within = tt; ok = tt; fault = faults }
