-- What is read and what is left to read, weighed so that reading never makes it more.
use Rattle.std.specs.Prelude.{ℕ, ◌+◌, List, vec_len}
use Rattle.vp_parse.specs.declared.arena.Arena.{Arena}
use Rattle.vp_source.specs.declared.symbol.Symbol.{Symbol}
use Rattle.vp_parse_stmt.specs.Weight.{weight as weight_of}

-- the items and the connections in the arena, and its other parts with two for each symbol that is left
abbrev pub weight : Arena → List Symbol → ℕ
weight arena symbols = vec_len arena.items + vec_len arena.connections + weight_of arena.parts symbols
