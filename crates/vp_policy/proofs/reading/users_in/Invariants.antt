use Rattle.std.proofs.Common.{◌≡◌, ◌++◌, List, drop, map}
use Rattle.std.specs.Prelude.{option_map}
use Rattle.std.specs.List.{list_any}
use Rattle.serde_json.specs.View.{items_view}
use Rattle.vp_policy.specs.File.{FileUser, each_of, has_missing, member_in, user_from}
use Rattle.vp_policy.proofs.Tables.{AreRead}
use Rattle.vp_policy.proofs.reading.users_in.Given as goal

-- the users so far, who they are in the design, and those of the other items
abbrev pub invariant-loop-item : goal.invariant-loop-item
invariant-loop-item l =
    (all : List FileUser)
    × (option_map (λ us. all ++ us) (each_of user_from (items_view (drop l.item-index l.items))) ≡ each_of user_from (items_view l.items))
    × AreRead (map (member_in l.design.tree.authors) all) l.once l.users.entries
    × (l.missing ≡ list_any (has_missing l.design.tree.authors) all)
