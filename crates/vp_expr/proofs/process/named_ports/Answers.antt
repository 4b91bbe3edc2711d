use Rattle.std.proofs.Common.{◌≡◌, ℕ, length, take, get_or, position, None, Option, sym, ap, ◌∙◌, arith}
use Rattle.std.proofs.lemmas.List.{length-take-le, take_all}
use Rattle.vp_source.specs.declared.source.Connection.{Connection}
use Rattle.vp_expr.specs.Origins.{by_first, names_port}
use Rattle.vp_expr.proofs.FirstIndexes.{position_next}
use Rattle.vp_expr.proofs.process.named_ports.Goals as goal

-- a connection, for a place past the end
abbrev blank : Connection
blank = record { place = 0; port = None; value = None }

pub loop-index-preserved : goal.loop-index-preserved
loop-index-preserved c =
    let source = c.args.source.now in
    let cs = c.args.connections.now in
    let i = c.loop-index.index in
    let long : length (take i cs) ≡ i = length-take-le i cs (omega arith) in
    record {
      each = c.in_ok-add_port.ensures.each;
      named = λ n.
          c.in_ok-add_port.ensures.first n ∙ ap (λ (o : Option ℕ). by_first o (names_port source n (get_or cs i blank)) i) (c.loop-index.invariant.named n)
          ∙ sym (position_next (names_port source n) cs i blank c.loop-index-test.true long);
    }

pub returns : goal.returns
returns c = λ n. c.loop-index.invariant.named n ∙ ap (position (names_port c.args.source.now n)) (take_all c.loop-index.index c.args.connections.now c.loop-index-test.false)
