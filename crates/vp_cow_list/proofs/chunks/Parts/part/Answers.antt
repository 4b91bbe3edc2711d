use Rattle.std.proofs.Common.{◌∙◌, ◌*◌, length, take, drop, ap, arith}
use Rattle.std.specs.Arc.{arc_value}
use Rattle.vp_cow_list.specs.laws.Chunks.{part_within, part_from}
use Rattle.vp_cow_list.proofs.chunks.Parts.part.Goals as goal

pub index-requires : goal.index-requires
index-requires g c =
    let long = ap length c.self.view_is in
    let within = part_within (λ part. g.P.Part.items (arc_value part)) c.self.inside.parts.items g.row.SIZE c.args.number c.self.invariant.1 (omega (arith, long, c.requires)) in
    omega (arith, within, c.self.inside.parts.ok.0)

pub returns : goal.returns
returns g c =
    let long = ap length c.self.view_is in
    let within = part_within (λ part. g.P.Part.items (arc_value part)) c.self.inside.parts.items g.row.SIZE c.args.number c.self.invariant.1 (omega (arith, long, c.requires)) in
    part_from (λ part. g.P.Part.items (arc_value part)) c.self.inside.parts.items g.row.SIZE c.args.number c.index.result.now c.self.invariant.1 within c.index.ensures
    ∙ ap (λ items. take g.row.SIZE (drop (g.row.SIZE * c.args.number) items)) c.self.view_is
