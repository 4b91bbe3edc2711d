use Rattle.std.proofs.Common.{◌∙◌, ℕ, List, nat_cmp, subst}
use Rattle.std.specs.List.Sorted.{IsBinarySearchResult}
use Rattle.std.proofs.lemmas.List.Sorted.{searched}
use Rattle.vp_waking.proofs.Rising.{found, placed, weakly}
use Rattle.vp_waking.proofs.listeners.add_number.Goals as goal

pub returns-in-Ok-clause-ok : goal.returns-in-Ok-clause-ok
returns-in-Ok-clause-ok c =
    let ns = c.args.numbers.now.items in
    let number = c.args.number in
    let position = subst (λ (l : List ℕ). IsBinarySearchResult (λ y. nat_cmp y number) l c.binary_search.result) c.deref.ensures.value c.binary_search.ensures.position in
    let at = rw c.in-Ok.is at (searched ns number c.binary_search.result position (weakly ns c.requires)) in
    found ns c.in-Ok.field-0 number c.requires at.0 at.1

pub returns-in_ok-insert-in-Err-clause-ok : goal.returns-in_ok-insert-in-Err-clause-ok
returns-in_ok-insert-in-Err-clause-ok c =
    let ns = c.args.numbers.now.items in
    let number = c.args.number in
    let position = subst (λ (l : List ℕ). IsBinarySearchResult (λ y. nat_cmp y number) l c.binary_search.result) c.deref.ensures.value c.binary_search.ensures.position in
    let at = rw c.in-Err.is at (searched ns number c.binary_search.result position (weakly ns c.requires)) in
    (c.in_ok-insert-in-Err.ensures {u = tt}).items ∙ placed ns c.in-Err.place number at.0 at.1 at.2
