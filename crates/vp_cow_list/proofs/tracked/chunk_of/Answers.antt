use Rattle.std.proofs.Common.{◌≡◌, ◌∙◌, ◌-◌, ◌*◌, ℕ, List, length, min, take, drop, ap, arith}
use Rattle.std.proofs.lemmas.List.{take_min, take_rest}
use Rattle.vp_cow_list.proofs.tracked.chunk_of.Goals as goal

-- the items after the start of a chunk, cut at its end, are the chunk
chunk_is : {X : Type 0} (items : List X) (start count : ℕ)
    → count ≡ min (length (take (length items - start) (drop start items))) 64
    → take count (take (length items - start) (drop start items)) ≡ take 64 (drop start items)
chunk_is items start count e =
    let rest = drop start items in
    ap (λ (n : ℕ). take n (take (length items - start) rest)) e
    ∙ ap (λ xs. take (min (length xs) 64) xs) (take_rest items start)
    ∙ ap (λ (n : ℕ). take n rest) (omega arith)
    ∙ take_min 64 rest

pub returns-clause-items : goal.returns-clause-items
returns-clause-items g c = chunk_is c.args.items.now (64 * c.args.number) c.min.result c.min.ensures
