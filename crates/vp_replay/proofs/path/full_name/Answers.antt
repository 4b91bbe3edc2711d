use Rattle.std.proofs.Common.{◌∙◌}
use Rattle.vp_replay.specs.Seen.{names_seen}
use Rattle.vp_replay.proofs.FullNames.{dotted_is}
use Rattle.vp_replay.proofs.path.full_name.Goals as goal

pub returns : goal.returns
returns c =
    c.from_string.ensures ∙ (c.in_ok-join.ensures {u = tt}).ok
    ∙ dotted_is (λ name. name.now) c.in_ok-names.names.items c.deref.result.now (names_seen c.args.view.now c.args.number) (c.in_ok-names.ensures {u = tt})
    (c.deref.ensures.value ∙ c.reverse.ensures.items)
