use Rattle.std.proofs.Common.{◌≡◌, ◌∙◌, ◌%◌, ◌<◌, Some, get_or, length, ap, refl, subst, arith}
use Rattle.std.specs.Prelude.{slice_get, slice_set}
use Rattle.std.specs.Arc.{arc_value}
use Rattle.std.proofs.Math.Nat.{mod-lt}
use Rattle.std.proofs.lemmas.Option.{slice_get_read}
use Rattle.vp_cow_list.specs.Exchanges.{Fits, exchanged_in}
use Rattle.vp_cow_list.specs.laws.Exchanges.{length_taken, put_exchange, still_exchanges}
use Rattle.vp_cow_list.proofs.chunks.put.Given.{Over}
use Rattle.vp_cow_list.proofs.chunks.put.Goals as goal

-- what stands at the place of the chunk
stands : (g : Over) (c : goal.Joined-exchanges-place g)
    → slice_get c.args.exchanges.now (c.args.number % 4) ≡ Some (get_or c.args.exchanges.now (c.args.number % 4) c.index-exchanges-place.result)
stands g c =
    let exchanges = c.args.exchanges.now in
    let place = c.args.number % 4 in
    let within : place < length exchanges = omega (arith, c.requires.four, mod-lt c.args.number {m = 4} (omega arith)) in
    slice_get_read exchanges (length exchanges) place c.index-exchanges-place.result refl within c.index-exchanges-place.is ∙ ap Some c.index-exchanges-place.is

pub returns-clause-set : goal.returns-clause-set
returns-clause-set g c =
    let n = c.args.number in
    let chunk = arc_value c.args.chunk in
    let other = get_or c.args.exchanges.now (n % 4) c.index-exchanges-place.result in
    ap (λ xs. exchanged_in xs (slice_set c.args.exchanges.now (n % 4) (Some (n, chunk)))) (c.in_ok-make_room.ensures {u = tt}).taken
    ∙ put_exchange (arc_value c.args.base.now) c.args.exchanges.now other chunk n c.requires.four c.requires.fit (stands g c) c.requires.there c.requires.whole

pub returns-clause-length : goal.returns-clause-length
returns-clause-length g c =
    let base = arc_value c.args.base.now in
    let n = c.args.number in
    let other = get_or c.args.exchanges.now (n % 4) c.index-exchanges-place.result in
    ap length (c.in_ok-make_room.ensures {u = tt}).taken
    ∙ length_taken base other n (n % 4) (subst (Fits (length base) (n % 4)) (stands g c) (c.requires.fit (n % 4)))

pub returns-clause-fit : goal.returns-clause-fit
returns-clause-fit g c =
    still_exchanges c.args.exchanges.now (arc_value c.args.chunk) (length (arc_value c.args.base.now)) c.args.number c.requires.four c.requires.fit c.requires.there c.requires.whole
