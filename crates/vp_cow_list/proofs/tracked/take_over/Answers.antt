use Rattle.std.proofs.Common.{rules, ◌∙◌, ◌*◌, ◌<◌, length, take, drop, ap, subst, arith}
use Rattle.std.proofs.lemmas.Result.{on_ok_weaker}
use Rattle.vp_cow_list.specs.Chunks.{with_items}
use Rattle.vp_cow_list.specs.Tracked.{HasWritten}
use Rattle.vp_cow_list.specs.laws.Tracked.{chunk_length, own_same, own_taken, others_taken}
use Rattle.vp_cow_list.proofs.tracked.take_over.Goals as goal

pub returns-clause-own : goal.returns-clause-own
returns-clause-own g c =
    let there : 64 * c.args.number < length c.args.items.now = search rules in
    on_ok_weaker c.set_chunk.result
    (λ set k own either. own_taken c.args.copy.now c.args.items.now c.set_chunk.new.self c.args.number k c.requires.length there
    (set ∙ ap (with_items c.args.copy.now (64 * c.args.number)) c.chunk_of-chunk.ensures.items) own)
    c.set_chunk.ensures.set

pub returns-clause-others : goal.returns-clause-others
returns-clause-others g c =
    let there : 64 * c.args.number < length c.args.items.now = search rules in
    on_ok_weaker c.set_chunk.result
    (λ set k other. others_taken c.args.copy.now c.args.items.now c.set_chunk.new.self c.args.number k c.requires.length there
    (set ∙ ap (with_items c.args.copy.now (64 * c.args.number)) c.chunk_of-chunk.ensures.items) other)
    c.set_chunk.ensures.set

pub set_chunk-requires : goal.set_chunk-requires
set_chunk-requires g c =
    let some = c.chunk_of-chunk.ensures.some in
    let there = c.chunk_of-chunk.ensures.there in
    let whole = chunk_length c.args.items.now c.args.number in
    record {
      there = omega (arith, some, there, c.requires.length);
      whole = omega (arith, ap length c.chunk_of-chunk.ensures.items, whole, c.requires.length);
    }

pub returns-then-has_items-clause-own : goal.returns-then-has_items-clause-own
returns-then-has_items-clause-own g c = λ k own either.
    let chunk = c.deref.ensures ∙ c.chunk.ensures in
    let has = subst (λ xs. HasWritten xs c.chunk_of-chunk.result.now c.args.bits) chunk (c.has_items.ensures c.if-has_items.true) in
    own_same c.args.copy.now c.args.items.now c.args.number c.args.bits k c.requires.length
    (subst (λ xs. HasWritten (take 64 (drop (64 * c.args.number) c.args.copy.now)) xs c.args.bits) c.chunk_of-chunk.ensures.items has) own either
