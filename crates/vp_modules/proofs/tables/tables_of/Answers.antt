use Rattle.std.proofs.Common.{◌<◌, ◌∷◌, List, length, get_or, subst, arith}
use Rattle.std.proofs.lemmas.Result.{err_from_is_err_and}
use Rattle.vp_text.specs.Refusals.{MayExplain}
use Rattle.vp_modules.specs.declared.error.ElabError.TheVariants.{NoMemory}
use Rattle.vp_source.specs.declared.source.Module.{Module}
use Rattle.vp_modules.specs.Refusals.{twice_in}
use Rattle.std.proofs.lemmas.Grind.{common_steps}
use Rattle.vp_modules.proofs.Looked.{nowhere}
use Rattle.vp_modules.proofs.Twice.{refused_at, twice_next}
use Rattle.vp_modules.proofs.tables.tables_of.Goals as goal

pub loop-module-preserved : goal.loop-module-preserved
loop-module-preserved c = record {
  names = grind (arith, common_steps);
  scopes = grind (arith, common_steps);
  once =
      grind (
        arith,
        common_steps,
        twice_next c.args.source.now c.loop-module.modules c.args.source.now.modules c.loop-module.module-index nowhere,
      );
}

-- a name of this module that is declared twice is the first of the text
pub returns-in_err-add_module-clause-twice : goal.returns-in_err-add_module-clause-twice
returns-in_err-add_module-clause-twice c =
    let p = err_from_is_err_and c.from_residual.result c.from_residual.ensures.1 in
    rw (p.1, p.2)
    (refused_at c.args.source.now c.loop-module.modules c.args.source.now.modules c.loop-module.module-index nowhere c.in_err-add_module.field-0.0 (subst (λ (ms : List Module). c.loop-module.module-index < length ms) c.as_slice-module-items.ensures c.loop-module-test.true) c.loop-module.invariant.once
    (subst (λ (ms : List Module). (rest : List Module) → MayExplain NoMemory (twice_in c.args.source.now c.loop-module.modules (get_or ms c.loop-module.module-index nowhere ∷ rest)) c.in_err-add_module.field-0.0) c.as_slice-module-items.ensures (c.in_err-add_module.ensures {u = tt}).twice))
