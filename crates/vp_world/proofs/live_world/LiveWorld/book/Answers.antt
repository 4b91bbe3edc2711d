use Rattle.std.proofs.Common.{◌≡◌, ◌∙◌, ℕ, Option, Err, IfErr, ap, rules, subst, sym}
use Rattle.std.specs.Prelude.{option_copied, option_map}
use Rattle.vp_race.specs.declared.error.RaceError.TheVariants as race_error
use Rattle.vp_world.specs.declared.error.WorldError.TheVariants as world_error
use Rattle.vp_text.specs.Refusals.{Explains}
use Rattle.vp_race.specs.Booking.{refusal_of_finding}
use Rattle.vp_race.specs.declared.book_limits.BookLimits.{BookLimits}
use Rattle.vp_race.specs.Recording.{kept_of}
use Rattle.vp_race.specs.Segments.{Run}
use Rattle.vp_world.specs.declared.error.WorldError.TheVariants.{Race}
use Rattle.vp_world.specs.Faults.{error_of_race}
use Rattle.vp_world.specs.History.{book_refusal}
use Rattle.vp_world.specs.Worlds.{WorldState}
use Rattle.vp_world.proofs.Booking.{booking_explained}
use Rattle.vp_world.proofs.Designs.{kept_design}
use Rattle.vp_world.proofs.live_world.LiveWorld.book.Goals as goal

pub add-requires : goal.add-requires
add-requires c =
    kept_design c.self.inside.run c.number.result c.kept-kept.result c.args.finding.now.segment.start.design c.kept-kept.ensures
    (c.requires ∙ ap (λ (v : WorldState). v.opening.design) (sym c.self.view_is)) c.self.invariant.2

pub returns-in_err-add-clause-refused : goal.returns-in_err-add-clause-refused
returns-in_err-add-clause-refused c =
    let inside = c.self.inside in
    let f = c.args.finding.now in
    let e = c.in_err-add.field-0.0 in
    let there = option_copied c.kept-kept.result in
    let number : c.number.result ≡ f.segment.number = c.number.ensures.number ∙ ap (λ (r : Run). r.number) c.segment.ensures.segment in
    let kept : there ≡ kept_of inside.run.segments f.segment.number = c.kept-kept.ensures ∙ ap (λ (n : ℕ). kept_of inside.run.segments n) number in
    let told : Explains race_error.NoMemory (refusal_of_finding inside.book there f) e = search rules in
    let by_book = booking_explained inside.book there f e told in
    let by_kept = subst (λ (k : Option Run). Explains world_error.NoMemory (option_map Race (refusal_of_finding inside.book k f)) (error_of_race e)) kept by_book in
    let by_limit = subst (λ (n : BookLimits). Explains world_error.NoMemory (option_map Race (refusal_of_finding (record { races = inside.book.races; limits = n }) (kept_of inside.run.segments f.segment.number) f)) (error_of_race e)) c.self.invariant.1 by_kept in
    let why = subst (λ (v : WorldState). Explains world_error.NoMemory (option_map Race (book_refusal v.opening v.state f)) (error_of_race e)) c.self.view_is by_limit in
    let is : c.from_residual.result ≡ Err (error_of_race e) = search rules in
    subst (λ r. IfErr r (λ x. Explains world_error.NoMemory (option_map Race (book_refusal c.args.self.now.opening c.args.self.now.state f)) x)) (sym is) why
