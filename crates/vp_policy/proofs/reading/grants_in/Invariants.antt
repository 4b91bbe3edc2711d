use Rattle.std.proofs.Common.{◌≡◌, ◌++◌, List, drop, map}
use Rattle.std.specs.Prelude.{option_map}
use Rattle.std.specs.List.{flat_map, list_any}
use Rattle.serde_json.specs.View.{items_view}
use Rattle.vp_policy.specs.File.{FileGrant, each_of, entries_for, grant_of, names_none}
use Rattle.vp_policy.specs.Members.{grant_shown}
use Rattle.vp_policy.proofs.reading.grants_in.Given as goal

-- the grants so far, what they are in the design, and those of the other items
abbrev pub invariant-loop-item : goal.invariant-loop-item
invariant-loop-item l =
    (all : List FileGrant)
    × (option_map (λ gs. all ++ gs) (each_of grant_of (items_view (drop l.item-index l.items))) ≡ each_of grant_of (items_view l.items))
    × (map grant_shown l.entries.items ≡ flat_map (entries_for l.design.tree.authors) all)
    × (l.missing ≡ list_any (names_none l.design.tree.authors) all)
