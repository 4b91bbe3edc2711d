use Rattle.std.proofs.Common.{◌≡◌, ◌∙◌, ◌*◌, ◌%◌, Some, length, take, drop, ap, refl, subst, sym, arith}
use Rattle.std.specs.Prelude.{slice_get}
use Rattle.std.specs.Arc.{arc_value}
use Rattle.std.proofs.Math.Nat.{mod-lt}
use Rattle.std.proofs.lemmas.Option.{slice_get_read}
use Rattle.vp_cow_list.specs.Exchanges.{Fits, exchanged_item}
use Rattle.vp_cow_list.specs.laws.Exchanges.{chunk_exchanged, chunk_kept, item_other, length_exchanged}
use Rattle.vp_cow_list.proofs.chunks.ChunkedList.chunk.Goals.{in-Some+else-exchange-number, in_default}
use Rattle.vp_cow_list.proofs.chunks.ChunkedList.chunk.Goals as goal

pub returns-then-exchange-number : goal.returns-then-exchange-number
returns-then-exchange-number g c =
    let n = c.args.number in
    let held = c.self.inside in
    let chunk = arc_value c.exchange.inside.chunk in
    let slot : slice_get held.exchanges (n % 4) ≡ Some (Some (n, chunk)) =
    slice_get_read held.exchanges (length held.exchanges) (n % 4) c.index-self-number.result refl (omega (arith, c.self.told, mod-lt n {m = 4} (omega arith))) c.index-self-number.is
    ∙ ap Some (c.index-self-number.is ∙ c.in-Some.is ∙ ap Some (sym c.exchange.view_is) ∙ ap (λ m. Some (m, chunk)) c.if-exchange-number.true) in
    let fits = subst (Fits held.len (n % 4)) slot (c.self.invariant.2 (n % 4)) in
    chunk_exchanged (arc_value held.base) held.exchanges chunk n slot (omega (arith, fits.2, c.self.invariant.0)) (omega (arith, fits.1, c.self.invariant.0))
    ∙ ap (λ xs. take 64 (drop (64 * n) xs)) c.self.view_is

pub base_chunk-requires : goal.base_chunk-requires
base_chunk-requires g c =
    omega (arith, c.requires, length_exchanged (arc_value c.self.inside.base) c.self.inside.exchanges, ap length c.self.view_is, ap length c.deref.ensures)

pub returns : goal.returns
returns g c =
    let n = c.args.number in
    let held = c.self.inside in
    let o = c.index-self-number.result in
    let slot : slice_get held.exchanges (n % 4) ≡ Some o =
    slice_get_read held.exchanges (length held.exchanges) (n % 4) o refl (omega (arith, c.self.told, mod-lt n {m = 4} (omega arith))) c.index-self-number.is in
    c.base_chunk.ensures
    ∙ ap (λ xs. take 64 (drop (64 * n) xs)) c.deref.ensures
    ∙ chunk_kept (arc_value held.base) held.exchanges n (λ k at.
    ap (λ s. exchanged_item s k) slot ∙ elim c.match-self-number.branch [
      | in-Some+else-exchange-number w ↦
          ap (λ s. exchanged_item (Some s) k) (c.index-self-number.is ∙ w.in-Some.is ∙ ap Some (sym w.exchange.view_is))
          ∙ item_other w.exchange.inside.number (arc_value w.exchange.inside.chunk) k (λ e. w.if-exchange-number.false (e ∙ sym at))
      | in_default w ↦ ap (λ s. exchanged_item (Some s) k) (c.index-self-number.is ∙ w.in_default.is)
    ])
    ∙ ap (λ xs. take 64 (drop (64 * n) xs)) c.self.view_is
