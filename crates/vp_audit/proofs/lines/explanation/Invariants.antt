use Rattle.std.proofs.Common.{◌≡◌, ◌+◌, ◌++◌, drop, string_bytes}
use Rattle.vp_audit.specs.Explanation.{explanation_from, explanation_of}
use Rattle.vp_audit.proofs.lines.explanation.Given as goal

-- the lines so far, and those of the items that are left
abbrev pub invariant-loop-index : goal.invariant-loop-index
invariant-loop-index l =
    explanation_of l.view l.projection.items l.fn.explained
    ≡ string_bytes l.text ++ explanation_from (l.index + 1) l.sees (drop l.index l.projection.items) l.rest
