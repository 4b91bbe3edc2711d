use Rattle.std.proofs.Common.{◌≡◌, ◌++◌, map, take}
use Rattle.std.specs.List.{enumerate_from, list_any}
use Rattle.vp_policy.specs.File.{entries_for, is_named}
use Rattle.vp_policy.specs.Listing.{file_grant}
use Rattle.vp_policy.specs.Members.{grant_shown}
use Rattle.vp_policy.proofs.reading.push_entries.Given as goal

-- the entries of the envelopes so far, and whether the grant names one of them
abbrev pub invariant-loop-before : goal.invariant-loop-before
invariant-loop-before l = record {
  pushed : map grant_shown l.entries.items ≡ map grant_shown l.fn.entries.items ++ entries_for (take l.before l.design.tree.authors) (file_grant l.grant);
  named : l.named ≡ list_any (is_named (file_grant l.grant)) (enumerate_from 1 (take l.before l.design.tree.authors));
}
