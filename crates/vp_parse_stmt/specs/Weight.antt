-- What is read and what is left to read, weighed so that reading never makes it more.
use Rattle.std.specs.Prelude.{ℕ, ◌+◌, ◌*◌, List, length, vec_len}
use Rattle.vp_parse_stmt.specs.declared.arena.Arena.{Arena}
use Rattle.vp_source.specs.declared.symbol.Symbol.{Symbol}

-- the parts in the arena, and two for each symbol that is left
abbrev pub weight : Arena → List Symbol → ℕ
weight arena symbols =
    vec_len arena.statements + vec_len arena.expressions + vec_len arena.terms + vec_len arena.choices + 2 * length symbols
