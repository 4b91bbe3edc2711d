use Rattle.std.proofs.Common.{◌≡◌, ◌+◌, ℕ, suc, ◌∙◌, ap, List, map, arith}
use Rattle.vp_source.specs.declared.source.Module.{Module}
use Rattle.vp_modules.specs.Definitions.{definitions_in}
use Rattle.vp_elab.specs.Elaboration.{further_limit}
use Rattle.vp_elab.specs.Sizes.{capped, size_by, sizes_in, total}
use Rattle.vp_elab.proofs.Counting.{next_is}
use Rattle.vp_elab.proofs.sizes.sizes_of.Goals as goal

pub loop-further-init : goal.loop-further-init
loop-further-init c = c.in_ok-sizes.ensures {u = tt}

pub loop-further-preserved : goal.loop-further-preserved
loop-further-preserved c =
    let source = c.args.source.now in
    let definitions = c.args.definitions.now in
    let next : suc c.loop-further._further ≡ c.loop-further._further + 1 = omega arith in
    c.in_ok-sizes-2.ensures {u = tt}
    ∙ ap (λ (ns : List ℕ). map (λ (m : Module). capped (total (size_by ns) (definitions_in definitions m))) source.modules) (c.as_slice.ensures.value ∙ c.loop-further.invariant)
    ∙ next_is source c.loop-further._further definitions c.requires ∙ ap (sizes_in source) next

pub returns : goal.returns
returns c =
    let end : c.loop-further._further ≡ further_limit = (let past = c.loop-further-test.false in let limit = c.further_limit-further-end.ensures in omega arith) in
    c.from_vec.ensures ∙ c.loop-further.invariant ∙ ap (sizes_in c.args.source.now) end
