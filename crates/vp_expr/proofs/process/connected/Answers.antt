use Rattle.std.proofs.Common.{◌≡◌, ℕ, length, min, slice_get, Option, ap, ◌∙◌}
use Rattle.std.specs.Prelude.{unwrap_or}
use Rattle.std.specs.List.{position}
use Rattle.vp_expr.specs.Origins.{names_port}
use Rattle.vp_expr.proofs.Connected.{connected_is}
use Rattle.vp_expr.proofs.process.connected.Goals as goal

pub returns : goal.returns
returns c =
    let source = c.args.source.now in
    let name = c.args.name.now in
    let cs = c.args.connections.now in
    let by_name : c.unwrap_or-by_name.result ≡ unwrap_or (position (names_port source name) cs) (length cs) =
    c.unwrap_or-by_name.ensures ∙ ap (λ (o : Option ℕ). unwrap_or o (length cs)) (c.find.ensures ∙ c.requires name) in
    c.connection_at.ensures
    ∙ ap (slice_get cs) (c.min.ensures ∙ ap (λ (n : ℕ). min n c.place_of_port-by_place.result) by_name
    ∙ ap (min (unwrap_or (position (names_port source name) cs) (length cs))) c.place_of_port-by_place.ensures)
    ∙ connected_is source c.args.index name cs
