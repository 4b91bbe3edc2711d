use Rattle.std.proofs.Common.{◌≡◌, ◌∙◌, ap, sym}
use Rattle.std.specs.List.{list_any}
use Rattle.vp_elab.specs.declared.object.ObjectId.{ObjectId}
use Rattle.vp_race.specs.Booking.{BookState, is_booked, is_name}
use Rattle.vp_race.specs.Segments.{Run, FindingState}
use Rattle.vp_race.proofs.Naming.{any_named}
use Rattle.vp_race.proofs.book.Book.add.Goals as goal

pub add_name-requires : goal.add_name-requires
add_name-requires c =
    let f = c.args.finding.now in
    let keys = c.self.inside.names.keys in
    let number : c.number-number.result ≡ f.segment.number = c.number-number.ensures.number ∙ ap (λ (r : Run). r.number) c.segment.ensures.segment in
    let object : c.object.result ≡ f.object = c.object.ensures in
    ap (λ n. list_any (is_name n c.object.result.0) keys) number
    ∙ ap (λ (o : ObjectId). list_any (is_name f.segment.number o.0) keys) object
    ∙ ap (λ ks. list_any (is_name f.segment.number f.object.0) ks) c.self.invariant.0
    ∙ any_named f c.self.inside.races.items
    ∙ ap (λ (b : BookState). is_booked b.races f) c.self.view_is
    ∙ (c.in_ok-steps.ensures {u = tt}).new
