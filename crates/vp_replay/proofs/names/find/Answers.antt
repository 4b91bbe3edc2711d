use Rattle.std.proofs.Common.{◌∙◌, ◌++◌, ◌∷◌, [], arith, sym}
use Rattle.vp_replay.specs.Objects.{names_to}
use Rattle.vp_replay.proofs.Numbers.{first_is, named_here, named_later, named_nowhere}
use Rattle.vp_replay.proofs.names.find.Goals as goal

pub returns-then-is_named : goal.returns-then-is_named
returns-then-is_named c =
    let nodes = c.args.view.now.nodes in
    let names = names_to nodes c.args.scope ++ c.args.name.now ∷ [] in
    named_here nodes names c.loop-number.number (omega arith) (sym c.is_named.ensures ∙ c.if-is_named.true) ∙ c.loop-number.invariant ∙ sym (first_is nodes names)

pub loop-number-preserved : goal.loop-number-preserved
loop-number-preserved c =
    let nodes = c.args.view.now.nodes in
    let names = names_to nodes c.args.scope ++ c.args.name.now ∷ [] in
    named_later nodes names c.loop-number.number (omega arith) (sym c.is_named.ensures ∙ c.if-is_named.false) ∙ c.loop-number.invariant

pub returns : goal.returns
returns c =
    let nodes = c.args.view.now.nodes in
    let names = names_to nodes c.args.scope ++ c.args.name.now ∷ [] in
    named_nowhere nodes names c.loop-number.number (omega arith) ∙ c.loop-number.invariant ∙ sym (first_is nodes names)
