use Rattle.std.proofs.Common.{rules, ◌≡◌, ◌∙◌, ◌<◌, ◌≤◌, ℕ, List, ap, arith, drop, length, refl, subst, sym}
use Rattle.std.specs.Arc.{arc_value}
use Rattle.std.specs.List.Sorted.{IsPartitionPoint}
use Rattle.std.proofs.lemmas.List.Sorted.{IsPartitionPoint-from_clause}
use Rattle.vp_strata.specs.declared.event.Timed.{Timed}
use Rattle.vp_text.specs.Lists.{joined}
use Rattle.vp_strata.specs.Chunks.{ends_by, first_place}
use Rattle.vp_strata.specs.Queues.{AreOrdered}
use Rattle.vp_strata.proofs.Chunked.{as_many}
use Rattle.vp_strata.proofs.Found.{DueBy, Later, chunk_ordered, found_after, found_in, parted_by, remains}
use Rattle.vp_strata.proofs.chunks.FutureChunks.find.Goals as goal

pub count_by-requires-clause-ordered : goal.count_by-requires-clause-ordered
count_by-requires-clause-ordered c =
    let items = c.self.inside.chunks.items in
    let taken = c.self.inside.taken in
    let number = c.partition_point-number.result in
    let got = c.in-Some.ensures {u = tt} in
    let within : number < length items = omega (arith, got.variant.0 refl, c.self.inside.chunks.ok.0) in
    let chunk = remains arc_value items taken number c.args.self.now c.in-Some.chunk.now c.self.view_is within got.lookup in
    let P : List Timed → Type 0 = AreOrdered in
    subst P (chunk ∙ ap (drop (first_place taken number)) (sym c.deref.ensures) ∙ ap (λ (k : ℕ). drop k c.deref.result.now) (sym c.first_place.ensures)) (chunk_ordered c.args.self.now number (omega (arith, as_many arc_value taken items c.args.self.now c.self.view_is, within)) c.requires)

pub returns-in-Some-clause-parted : goal.returns-in-Some-clause-parted
returns-in-Some-clause-parted c =
    let items = c.self.inside.chunks.items in
    let taken = c.self.inside.taken in
    let number = c.partition_point-number.result in
    let got = c.in-Some.ensures {u = tt} in
    let within : number < length items = omega (arith, got.variant.0 refl, c.self.inside.chunks.ok.0) in
    let P : List (List Timed) → Type 0 = λ ls. AreOrdered (joined ls) in
    let ordered = subst P (sym c.self.view_is) c.requires in
    let parted = IsPartitionPoint-from_clause (λ a. ends_by c.args.time (arc_value a)) items number c.partition_point-number.ensures.partitioned (parted_by arc_value items c.args.time taken c.self.invariant ordered) (λ a r q k. search rules) in
    let rest : drop c.first_place.result c.deref.result.now ≡ drop (first_place taken number) (arc_value c.in-Some.chunk.now) = ap (λ (k : ℕ). drop k c.deref.result.now) c.first_place.ensures ∙ ap (drop (first_place taken number)) c.deref.ensures in
    let Q : List Timed → Type 0 = λ es. IsPartitionPoint (DueBy c.args.time) (Later c.args.time) es c.count_by.result in
    (found_in arc_value items c.args.time taken number c.count_by.result c.args.self.now c.in-Some.chunk.now c.self.view_is c.self.invariant c.requires parted within got.lookup (subst Q rest c.count_by.ensures.parted) (omega (arith, ap length rest, c.count_by.ensures.within))).0

pub returns-in-Some-clause-within : goal.returns-in-Some-clause-within
returns-in-Some-clause-within c less =
    let items = c.self.inside.chunks.items in
    let taken = c.self.inside.taken in
    let number = c.partition_point-number.result in
    let got = c.in-Some.ensures {u = tt} in
    let within : number < length items = omega (arith, got.variant.0 refl, c.self.inside.chunks.ok.0) in
    let P : List (List Timed) → Type 0 = λ ls. AreOrdered (joined ls) in
    let ordered = subst P (sym c.self.view_is) c.requires in
    let parted = IsPartitionPoint-from_clause (λ a. ends_by c.args.time (arc_value a)) items number c.partition_point-number.ensures.partitioned (parted_by arc_value items c.args.time taken c.self.invariant ordered) (λ a r q k. search rules) in
    let rest : drop c.first_place.result c.deref.result.now ≡ drop (first_place taken number) (arc_value c.in-Some.chunk.now) = ap (λ (k : ℕ). drop k c.deref.result.now) c.first_place.ensures ∙ ap (drop (first_place taken number)) c.deref.ensures in
    let Q : List Timed → Type 0 = λ es. IsPartitionPoint (DueBy c.args.time) (Later c.args.time) es c.count_by.result in
    (found_in arc_value items c.args.time taken number c.count_by.result c.args.self.now c.in-Some.chunk.now c.self.view_is c.self.invariant c.requires parted within got.lookup (subst Q rest c.count_by.ensures.parted) (omega (arith, ap length rest, c.count_by.ensures.within))).1

pub returns-in-None-clause-parted : goal.returns-in-None-clause-parted
returns-in-None-clause-parted c =
    let items = c.self.inside.chunks.items in
    let taken = c.self.inside.taken in
    let number = c.partition_point-number.result in
    let got = c.in-None.ensures {u = tt} in
    let P : List (List Timed) → Type 0 = λ ls. AreOrdered (joined ls) in
    let ordered = subst P (sym c.self.view_is) c.requires in
    let parted = IsPartitionPoint-from_clause (λ a. ends_by c.args.time (arc_value a)) items number c.partition_point-number.ensures.partitioned (parted_by arc_value items c.args.time taken c.self.invariant ordered) (λ a r q k. search rules) in
    let past : length items ≤ number = got.item.3 in
    let all : number ≡ length items = omega (arith, past, c.partition_point-number.ensures.bound, c.self.inside.chunks.ok.0) in
    found_after arc_value items c.args.time taken number c.args.self.now c.self.view_is c.self.invariant c.requires parted all
