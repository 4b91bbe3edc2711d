use Rattle.std.proofs.Common.{◌<◌, ◌+◌, ◌++◌, ◌∷◌, [], ◌∙◌, ℕ, Vec, Global, List, true, false, ap, length, drop, filter, get_or, arith}
use Rattle.vp_source.specs.declared.source.Module.{Module}
use Rattle.vp_modules.specs.Items.{is_top}
use Rattle.vp_elab.proofs.Counting.{top_known, tops_more, tops_same}
use Rattle.vp_elab.proofs.Parts.{nowhere}
use Rattle.vp_elab.proofs.scope.tops_of.Goals as goal
use Rattle.vp_elab.proofs.scope.tops_of.Goals.{then-are_tops-number+in_ok-push, else-are_tops-number}

pub loop-number-preserved : goal.loop-number-preserved
loop-number-preserved c =
    let source = c.args.source.now in
    let number : ℕ = c.loop-number.number in
    let old : List Module = c.loop-number.modules.items in
    let long = ap (λ (ms : List Module). length ms) c.as_slice-module-items.ensures in
    let within : number < length source.modules = omega arith in
    elim c.if-are_tops-number.branch [
      | then-are_tops-number+in_ok-push w ↦
          let pushed = w.in_ok-push.ensures.items ∙ ap (λ (ms : List Module). old ++ get_or ms number nowhere ∷ []) c.as_slice-module-items.ensures in
          ap (λ (v : Vec Module Global). v.items ++ filter (is_top source) (drop (number + 1) source.modules)) w.modules-is
          ∙ tops_more source old w.push.new.self.items number within (top_known source c.args.are_tops.now number true c.requires within w.if-are_tops-number.true) pushed
          ∙ c.loop-number.invariant
      | else-are_tops-number w ↦
          ap (λ (v : Vec Module Global). v.items ++ filter (is_top source) (drop (number + 1) source.modules)) w.modules-is
          ∙ tops_same source old number within (top_known source c.args.are_tops.now number false c.requires within w.if-are_tops-number.false)
          ∙ c.loop-number.invariant
    ]
