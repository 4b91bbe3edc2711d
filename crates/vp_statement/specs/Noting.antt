-- Parts as they are noted one after the other, each at its place: of a statement that would be two parts the first counts.
use Rattle.std.specs.Prelude.{List, slice_index_or, slice_set, Option, Some, None}
use Rattle.vp_statement.specs.declared.flow.Part.{Part}

-- a part is noted where none is
abbrev pub noted_where : List (Option Part) → Part → Option Part → List (Option Part)
noted_where parts part None = slice_set parts part.place (Some part)
noted_where parts part (Some other) = parts

-- one more part is noted, if its place is there
abbrev pub noted : List (Option Part) → Part → List (Option Part)
noted parts part = noted_where parts part (slice_index_or parts part.place None)
