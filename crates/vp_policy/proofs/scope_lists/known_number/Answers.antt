use Rattle.std.proofs.Common.{◌≡◌, ◌∙◌, Some, ap, slice_get, sym, List, ℕ, Option}
use Rattle.std.proofs.lemmas.Option.{slice_get-get_or}
use Rattle.std.proofs.lemmas.Slice.Eq.{bytes_eq-Decides}
use Rattle.vp_policy.proofs.scope_lists.known_number.Goals as goal

pub returns-then-eq : goal.returns-then-eq
returns-then-eq c =
    let there : slice_get c.args.lists.now c.loop-number.number ≡ Some c.index-lists-number.result =
    slice_get-get_or c.args.lists.now c.loop-number.number c.index-lists-number.result c.loop-number-test.true
    ∙ ap (λ (l : List ℕ). (let o : Option (List ℕ) = Some l in o)) (sym c.index-lists-number.is) in
    let same : c.index-lists-number.result ≡ c.args.list.now =
    sym c.as_slice.ensures ∙ (bytes_eq-Decides c.as_slice.result.now c.args.list.now).0 (sym c.eq.ensures ∙ c.if-eq.true) in
    there ∙ ap (λ (l : List ℕ). (let o : Option (List ℕ) = Some l in o)) same
