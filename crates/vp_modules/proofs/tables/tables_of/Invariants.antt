use Rattle.std.proofs.Common.{◌≡◌, [], map, take, drop}
use Rattle.vp_modules.specs.Tables.{module_names, scope_in}
use Rattle.vp_modules.specs.Refusals.{twice_in}
use Rattle.vp_modules.proofs.tables.tables_of.Given as goal

abbrev pub invariant-loop-module : goal.invariant-loop-module
invariant-loop-module l = record {
  names : l.modules ≡ module_names l.source (take l.module-index l.source.modules);
  scopes : l.scopes.items ≡ map (scope_in l.source) (take l.module-index l.source.modules);
  once : twice_in l.source l.modules (drop l.module-index l.source.modules) ≡ twice_in l.source [] l.source.modules;
}
