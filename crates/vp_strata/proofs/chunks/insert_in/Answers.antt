use Rattle.std.proofs.Common.{◌≡◌, ◌∙◌, List, ap, insert}
use Rattle.std.specs.Arc.{arc_value}
use Rattle.std.specs.Result.{is_ok}
use Rattle.std.proofs.lemmas.Result.{on_err_weaker, on_ok_weaker}
use Rattle.vp_strata.specs.declared.event.Timed.{Timed}
use Rattle.vp_strata.proofs.Chunked.{at_err, kept_in, same_either, set_in, whenever_err}
use Rattle.vp_strata.proofs.chunks.insert_in.Goals as goal

pub returns-in_err-chunk-clause-kept : goal.returns-in_err-chunk-clause-kept
returns-in_err-chunk-clause-kept c =
    let same = same_either (at_err c.make_mut.result c.in_err-chunk.field-0.0 c.in_err-chunk.was c.make_mut.follows.holds-at-none) in
    whenever_err c.from_residual.result (kept_in arc_value c.args.chunks.now.items c.args.number c.index_mut.result.now c.make_mut.follows.lender-at-none c.index_mut.ensures.value same)

held : (c : goal.After-chunks-2-1) → arc_value (c.make_mut.follows.lender c.insert.new.self) ≡ c.insert.new.self
held c = c.make_mut.follows.holds c.insert.new.self (ap is_ok c.in_ok-chunk.was)

copied : (c : goal.After-chunks-2-1) → c.in_ok-chunk.chunk.now ≡ arc_value c.index_mut.result.now
copied c = same_either (c.in_ok-chunk.ensures {u = tt}).value

pub returns-clause-inserted : goal.returns-clause-inserted
returns-clause-inserted c =
    on_ok_weaker c.insert.result
    (λ (more : c.insert.new.self ≡ insert c.in_ok-chunk.chunk.now c.args.place c.args.event).
    set_in arc_value c.args.chunks.now.items c.args.number c.args.place c.args.event c.index_mut.result.now (c.make_mut.follows.lender c.insert.new.self) c.requires.number c.index_mut.ensures.value
    (held c ∙ more ∙ ap (λ (es : List Timed). insert es c.args.place c.args.event) (copied c)))
    c.insert.ensures.inserted

pub returns-clause-kept : goal.returns-clause-kept
returns-clause-kept c =
    on_err_weaker c.insert.result
    (λ (kept : c.insert.new.self ≡ c.in_ok-chunk.chunk.now).
    kept_in arc_value c.args.chunks.now.items c.args.number c.index_mut.result.now (c.make_mut.follows.lender c.insert.new.self) c.index_mut.ensures.value (held c ∙ kept ∙ copied c))
    c.insert.ensures.kept
