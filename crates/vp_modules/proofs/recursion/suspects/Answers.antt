use Rattle.std.proofs.Common.{Bool, false, List, length, get_or, ap, ◌∙◌}
use Rattle.std.proofs.lemmas.List.{length-map}
use Rattle.std.specs.List.{list_any}
use Rattle.vp_modules.specs.Definitions.{definitions_in, is_marked}
use Rattle.vp_modules.proofs.Looked.{nowhere}
use Rattle.vp_modules.proofs.Hierarchy.{chains_more, not_recursive}
use Rattle.vp_modules.proofs.recursion.suspects.Goals as goal

pub returns-then-not-contains : goal.returns-then-not-contains
returns-then-not-contains c k m there none =
    not_recursive c.args.source.now nowhere c.requires.once c.loop-steps.marks.items c.loop-steps._steps c.loop-steps.invariant.chains k m there none

pub loop-steps-preserved : goal.loop-steps-preserved
loop-steps-preserved c =
    let source = c.args.source.now in
    let marks : List Bool = c.as_slice.result.now in
    record {
      marks =
          ap length (c.in_ok-marks-2.ensures {u = tt})
          ∙ length-map source.modules (λ m. list_any (is_marked marks) (definitions_in c.args.definitions.now m));
      chains = λ k l.
          ap (λ (ms : List Bool). get_or ms k false) (c.in_ok-marks-2.ensures {u = tt})
          ∙ chains_more source nowhere c.args.definitions.now marks c.loop-steps._steps c.requires.definitions
          (λ j m. ap (λ (ms : List Bool). get_or ms j false) c.as_slice.ensures.value ∙ c.loop-steps.invariant.chains j m) k l;
    }

pub returns : goal.returns
returns c k m there none =
    not_recursive c.args.source.now nowhere c.requires.once c.loop-steps.marks.items c.loop-steps._steps c.loop-steps.invariant.chains k m there none
