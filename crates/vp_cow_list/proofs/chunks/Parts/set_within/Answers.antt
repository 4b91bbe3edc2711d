use Rattle.std.proofs.Common.{◌≡◌, ◌∙◌, ◌+◌, ◌<◌, ◌≤◌, ◌/◌, ◌%◌, length, ap, arith}
use Rattle.std.specs.Result.{is_ok}
use Rattle.std.specs.Arc.{arc_value}
use Rattle.std.proofs.lemmas.Result.{on_ok_weaker, on_err_weaker}
use Rattle.vp_text.specs.Lists.{joined}
use Rattle.vp_cow_list.specs.Chunks.{with_items}
use Rattle.vp_cow_list.specs.laws.Chunks.{room_in_part, room_within, with_map, set_still, kept_map, same_part, length_written, known_err, whenever_err}
use Rattle.vp_cow_list.proofs.chunks.Parts.set_within.Given.{Over}
use Rattle.vp_cow_list.proofs.chunks.Parts.set_within.Goals as goal

pub index_mut-requires : goal.index_mut-requires
index_mut-requires g c =
    let within = room_within (λ part. g.P.Part.items (arc_value part)) c.self.inside.parts.items g.row.SIZE c.args.place (length c.args.list.now) c.self.invariant.1 c.requires.some (omega (arith, c.requires.there, ap length c.self.view_is)) in
    omega (arith, within, c.self.inside.parts.ok.0)

-- where a part is not copied, it stands for the same items
not_copied : (g : Over) (c : goal.After-from_residual g)
    → g.P.Part.items (arc_value c.make_mut.follows.lender-at-none) ≡ g.P.Part.items (arc_value c.index_mut.result.now)
not_copied g c =
    same_part g.P.Part.items g.P.Clone.is_clone (arc_value c.index_mut.result.now) (arc_value c.make_mut.follows.lender-at-none) g.met.P.Part.copied
    (known_err c.make_mut.result c.in_err-part.field-0.0 c.in_err-part.was c.make_mut.follows.holds-at-none)

pub invariant_of-self : goal.invariant_of-self
invariant_of-self g c =
    let within = room_within (λ part. g.P.Part.items (arc_value part)) c.self.inside.parts.items g.row.SIZE c.args.place (length c.args.list.now) c.self.invariant.1 c.requires.some (omega (arith, c.requires.there, ap length c.self.view_is)) in
    (c.self.invariant.0, set_still (λ part. g.P.Part.items (arc_value part)) c.self.inside.parts.items g.row.SIZE (c.args.place / g.row.SIZE) c.index_mut.result.now c.make_mut.follows.lender-at-none c.self.invariant.1 within c.index_mut.ensures.value (ap length (not_copied g c)))

pub returns-in_err-part-clause-unchanged : goal.returns-in_err-part-clause-unchanged
returns-in_err-part-clause-unchanged g c =
    let same = ap joined (kept_map (λ part. g.P.Part.items (arc_value part)) c.self.inside.parts.items (c.args.place / g.row.SIZE) c.index_mut.result.now c.make_mut.follows.lender-at-none c.index_mut.ensures.value (not_copied g c)) in
    whenever_err c.from_residual.result (same ∙ c.self.view_is)

pub set_items-requires-clause-there : goal.set_items-requires-clause-there
set_items-requires-clause-there g c =
    let copied = same_part g.P.Part.items g.P.Clone.is_clone (arc_value c.index_mut.result.now) c.in_ok-part.part.now g.met.P.Part.copied (c.in_ok-part.ensures {u = tt}).value in
    let room = room_in_part (λ part. g.P.Part.items (arc_value part)) c.self.inside.parts.items g.row.SIZE c.args.place (length c.args.list.now) c.index_mut.result.now c.self.invariant.1 c.requires.some c.requires.chunk.0 (omega (arith, c.requires.there, ap length c.self.view_is)) c.index_mut.ensures.value in
    omega (arith, room, ap length copied)

-- the part that is written, the same part before, and that it has room
written : (g : Over) (c : goal.After-self-2-1 g)
    → arc_value (c.make_mut.follows.lender c.set_items.new.self) ≡ c.set_items.new.self
written g c = c.make_mut.follows.holds c.set_items.new.self (ap is_ok c.in_ok-part.was)

copied : (g : Over) (c : goal.After-self-2-1 g)
    → g.P.Part.items c.in_ok-part.part.now ≡ g.P.Part.items (arc_value c.index_mut.result.now)
copied g c =
    same_part g.P.Part.items g.P.Clone.is_clone (arc_value c.index_mut.result.now) c.in_ok-part.part.now g.met.P.Part.copied (c.in_ok-part.ensures {u = tt}).value

within : (g : Over) (c : goal.After-self-2-1 g) → c.args.place / g.row.SIZE < length c.self.inside.parts.items
within g c =
    room_within (λ part. g.P.Part.items (arc_value part)) c.self.inside.parts.items g.row.SIZE c.args.place (length c.args.list.now) c.self.invariant.1 c.requires.some (omega (arith, c.requires.there, ap length c.self.view_is))

room : (g : Over) (c : goal.After-self-2-1 g)
    → c.args.place % g.row.SIZE + length c.args.list.now ≤ length (g.P.Part.items (arc_value c.index_mut.result.now))
room g c =
    room_in_part (λ part. g.P.Part.items (arc_value part)) c.self.inside.parts.items g.row.SIZE c.args.place (length c.args.list.now) c.index_mut.result.now c.self.invariant.1 c.requires.some c.requires.chunk.0 (omega (arith, c.requires.there, ap length c.self.view_is)) c.index_mut.ensures.value

pub invariant_of-self-2 : goal.invariant_of-self-2
invariant_of-self-2 g c =
    let long = ap length (ap g.P.Part.items (written g c)) ∙ length_written c.set_items.result (g.P.Part.items c.in_ok-part.part.now) (g.P.Part.items c.set_items.new.self) c.args.list.now (c.args.place % g.row.SIZE) (omega (arith, room g c, ap length (copied g c))) c.set_items.ensures.set c.set_items.ensures.unchanged ∙ ap length (copied g c) in
    (c.self.invariant.0, set_still (λ part. g.P.Part.items (arc_value part)) c.self.inside.parts.items g.row.SIZE (c.args.place / g.row.SIZE) c.index_mut.result.now (c.make_mut.follows.lender c.set_items.new.self) c.self.invariant.1 (within g c) c.index_mut.ensures.value long)

pub returns-clause-set : goal.returns-clause-set
returns-clause-set g c =
    on_ok_weaker c.set_items.result
    (λ (set : g.P.Part.items c.set_items.new.self ≡ with_items (g.P.Part.items c.in_ok-part.part.now) (c.args.place % g.row.SIZE) c.args.list.now).
    with_map (λ part. g.P.Part.items (arc_value part)) c.self.inside.parts.items g.row.SIZE c.args.place c.index_mut.result.now (c.make_mut.follows.lender c.set_items.new.self) c.args.list.now c.self.invariant.1 (within g c) c.index_mut.ensures.value (room g c)
    (ap g.P.Part.items (written g c) ∙ set ∙ ap (λ items. with_items items (c.args.place % g.row.SIZE) c.args.list.now) (copied g c))
    ∙ ap (λ items. with_items items c.args.place c.args.list.now) c.self.view_is)
    c.set_items.ensures.set

pub returns-clause-unchanged : goal.returns-clause-unchanged
returns-clause-unchanged g c =
    on_err_weaker c.set_items.result
    (λ (unchanged : g.P.Part.items c.set_items.new.self ≡ g.P.Part.items c.in_ok-part.part.now).
    ap joined (kept_map (λ part. g.P.Part.items (arc_value part)) c.self.inside.parts.items (c.args.place / g.row.SIZE) c.index_mut.result.now (c.make_mut.follows.lender c.set_items.new.self) c.index_mut.ensures.value (ap g.P.Part.items (written g c) ∙ unchanged ∙ copied g c))
    ∙ c.self.view_is)
    c.set_items.ensures.unchanged
