use Rattle.std.proofs.Common.{◌≡◌, ◌∙◌, ◌==◌, ◌&&◌, ℕ, List, map, ap, sym}
use Rattle.std.specs.List.{list_any}
use Rattle.vp_elab.specs.declared.object.ObjectId.{ObjectId}
use Rattle.vp_race.specs.Booking.{BookState, is_booked, is_name, name_of}
use Rattle.vp_race.specs.Segments.{Run, FindingState}
use Rattle.vp_race.proofs.Naming.{any_named}
use Rattle.vp_race.proofs.book.Book.is_booked.Goals as goal

pub returns : goal.returns
returns c =
    let f = c.args.finding.now in
    let races = c.self.inside.races.items in
    c.contains.ensures
    ∙ ap (λ ks. list_any (is_name c.number.result c.object.result.0) ks) c.self.invariant.0
    ∙ ap (λ n. list_any (is_name n c.object.result.0) (map name_of races)) (c.number.ensures.number ∙ ap (λ (r : Run). r.number) c.segment.ensures.segment)
    ∙ ap (λ (o : ObjectId). list_any (is_name f.segment.number o.0) (map name_of races)) c.object.ensures
    ∙ any_named f races
    ∙ ap (λ (b : BookState). is_booked b.races f) c.self.view_is
