-- What is known of the modules of a text that are right.
use Rattle.std.specs.Prelude.{map}
use Rattle.vp_source.specs.declared.source.Source.{Source}
use Rattle.vp_modules.specs.Items.{definition_number, is_top}
use Rattle.vp_modules.specs.Tables.{tables_in}
use Rattle.vp_modules.specs.declared.resolved.Resolved.{Resolved}

-- the names of a text, the module that each of its items instantiates, and which of its modules are top modules
abbrev pub resolved_in : Source → Resolved
resolved_in source =
    record {
      tables = tables_in source;
      definitions = map (definition_number source) source.items;
      tops = map (is_top source) source.modules;
    }
