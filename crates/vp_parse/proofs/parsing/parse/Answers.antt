use Rattle.std.proofs.lemmas.Result.{IfOk-weaker}
use Rattle.vp_parse_expr.specs.Symbols.{symbols_of}
use Rattle.vp_parse.specs.Reading.{read}
use Rattle.vp_parse.specs.Placing.{lists_in}
use Rattle.vp_parse.proofs.Found.{stops_alike, tells_none, found_by}
use Rattle.vp_source.proofs.Growing.{source_whole}
use Rattle.vp_source.proofs.Standing.{items_stand}
use Rattle.vp_parse.proofs.parsing.parse.Goals as goal

pub returns-in-Ok-clause-found : goal.returns-in-Ok-clause-found
returns-in-Ok-clause-found c =
    let h = rw (c.new-arena.ensures.none, c.as_slice.ensures.value, c.in_ok-symbols.ensures.ok) at c.in-Ok.ensures in
    found_by c.args.text.now c.args.tokens.now (symbols_of c.args.text.now c.args.tokens.now) (c.in-Ok.modules.items, lists_in c.modules.new.arena) c.source_with.result h c.source_with.ensures.text c.source_with.ensures.tokens c.source_with.ensures.modules c.source_with.ensures.lists

pub returns-in-Ok-clause-whole : goal.returns-in-Ok-clause-whole
returns-in-Ok-clause-whole c =
    IfOk-weaker c.source_with.result _ _ (λ source found. source_whole c.args.text.now c.args.tokens.now found.0 source found.2) (returns-in-Ok-clause-found c)

pub returns-clause-fault : goal.returns-clause-fault
returns-clause-fault c =
    let symbols = symbols_of c.args.text.now c.args.tokens.now in
    let h = rw (c.new-arena.ensures.none, c.as_slice.ensures.value, c.in_ok-symbols.ensures.ok) at c.in-Err.ensures in
    let told = c.error_of.ensures (read symbols) (stops_alike symbols c.in-Err.stop h) in
    rw (c.as_slice-in-Err.ensures.value, c.in_ok-symbols.ensures.ok) at told

pub returns-clause-none : goal.returns-clause-none
returns-clause-none c =
    let symbols = symbols_of c.args.text.now c.args.tokens.now in
    tells_none c.args.tokens.now symbols c.error_of.result (returns-clause-fault c)

pub returns-in-Ok-clause-items : goal.returns-in-Ok-clause-items
returns-in-Ok-clause-items c =
    IfOk-weaker c.source_with.result _ _ (λ source found d is. items_stand c.args.text.now c.args.tokens.now d source is) (returns-in-Ok-clause-found c)
