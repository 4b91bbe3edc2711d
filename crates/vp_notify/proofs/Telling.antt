-- What waits while callbacks are notified of a change, one after another.
use Rattle.std.proofs.Common.{◌≡◌, ◌∙◌, ℕ, ◌+◌, ◌-◌, ◌^◌, ◌<◌, nat_lt, min, Bool, true, false, if◌then◌else◌, List, [], ◌∷◌, ◌++◌, map, length, take, get_or, ap, sym, refl}
use Rattle.std.specs.List.{fold}
use Rattle.std.proofs.lemmas.List.{map_more}
use Rattle.std.proofs.lemmas.List.Sums.{fold_push}
use Rattle.vp_notify.specs.declared.notice.Notice.{Notice}
use Rattle.vp_notify.specs.declared.registry.Callback.{Callback}
use Rattle.vp_notify.specs.Registry.{RegistryState, with_notice}

-- one more notice: what waits, and how many are lost
held : (r : RegistryState) (notice : Notice) (has_room : Bool) → record r { waiting = if has_room then r.waiting ++ notice ∷ [] else r.waiting; lost = if has_room then r.lost else min (r.lost + 1) (2 ^ 64 - 1) } ≡ (if has_room then record r { waiting = r.waiting ++ notice ∷ [] } else record r { lost = min (r.lost + 1) (2 ^ 64 - 1) })
held r notice true = refl
held r notice false = refl

-- where the callbacks before an index are notified, the one at it is notified next
pub told_more : (r s : RegistryState) (tell : Callback → Notice) (callbacks : List Callback) (i capacity : ℕ) (d : Callback) (notice : Notice) (waiting : List Notice) (lost : ℕ)
    → i < length callbacks
    → notice ≡ tell (get_or callbacks i d)
    → capacity ≡ 4096
    → s ≡ fold with_notice r (map tell (take i callbacks))
    → waiting ≡ (if nat_lt (length s.waiting) capacity then s.waiting ++ notice ∷ [] else s.waiting)
    → lost ≡ (if nat_lt (length s.waiting) capacity then s.lost else min (s.lost + 1) (2 ^ 64 - 1))
    → record s { waiting = waiting; lost = lost } ≡ fold with_notice r (map tell (take (i + 1) callbacks))
told_more r s tell callbacks i capacity d notice waiting lost within here room told waits loses =
    let state : List Notice → ℕ → RegistryState = λ waiting lost. record s { waiting = waiting; lost = lost } in
    let has_room : ℕ → Bool = λ capacity. nat_lt (length s.waiting) capacity in
    ap (λ waiting. state waiting lost) waits
    ∙ ap (state (if has_room capacity then s.waiting ++ notice ∷ [] else s.waiting)) loses
    ∙ held s notice (has_room capacity)
    ∙ ap (λ n. if has_room n then record s { waiting = s.waiting ++ notice ∷ [] } else record s { lost = min (s.lost + 1) (2 ^ 64 - 1) }) room
    ∙ ap (λ t. with_notice t notice) told
    ∙ ap (with_notice (fold with_notice r (map tell (take i callbacks)))) here
    ∙ sym (fold_push with_notice r (map tell (take i callbacks)) (tell (get_or callbacks i d)))
    ∙ sym (ap (fold with_notice r) (map_more tell callbacks i d within))
