use Rattle.std.proofs.Common.{◌∙◌, true, false, arith}
use Rattle.std.proofs.lemmas.List.{get_or-replicate, length-replicate, length-set}
use Rattle.vp_elab.proofs.Marks.{mark_next}
use Rattle.vp_elab.proofs.Parts.{nowhere}
use Rattle.vp_elab.proofs.scope.root_marks_of.Goals as goal

pub loop-module-init : goal.loop-module-init
loop-module-init c = record { long = length-replicate 256 false; marked = λ e l. get_or-replicate 256 e false false l }

pub loop-module-preserved : goal.loop-module-preserved
loop-module-preserved c = record {
  long = length-set c.loop-module.marks c.of.result true ∙ c.loop-module.invariant.long;
  marked = λ e l.
      mark_next c.args.envelopes.now.envelopes (λ m. m.name) c.loop-module.marks c.args.modules.now c.loop-module.module-index (nowhere)
      c.of.result e c.loop-module-test.true (let long = c.loop-module.invariant.long in omega arith) c.of.ensures (c.loop-module.invariant.marked e l);
}
