-- The tables of a text's names.
use Rattle.std.specs.Prelude.{ℕ, List, map}
use Rattle.vp_source.specs.Places.{word_at}
use Rattle.vp_source.specs.declared.source.Source.{Source}
use Rattle.vp_source.specs.declared.source.Module as declared
use Rattle.vp_modules.specs.declared.tables.Tables.{Tables}
use Rattle.vp_modules.specs.Items.{item_name, items_in}

-- the names of modules
abbrev pub module_names : Source → List declared.Module → List (List ℕ)
module_names source ms = map (λ m. word_at source m.name) ms

-- the names of a module's items
abbrev pub scope_in : Source → declared.Module → List (List ℕ)
scope_in source m = map (item_name source) (items_in source m)

-- the names of modules, and those of the items of each
abbrev pub tables_in : Source → Tables
tables_in source = record { modules = module_names source source.modules; scopes = map (scope_in source) source.modules }
