use Rattle.std.proofs.Common.{List, ◌∙◌, ap}
use Rattle.std.specs.Prelude.{position, slice_get}
use Rattle.std.specs.Option.{option_and_then}
use Rattle.std.specs.Str.{bytes_eq}
use Rattle.vp_source.specs.Places.{word_at}
use Rattle.vp_source.specs.declared.source.Module.{Module}
use Rattle.vp_modules.proofs.Looked.{found}
use Rattle.vp_modules.proofs.lookup.module_named.Goals as goal

pub returns : goal.returns
returns c =
    c.value_named.ensures
    ∙ ap (λ (ms : List Module). option_and_then (slice_get ms) (position (bytes_eq c.args.name.now) c.args.modules.now)) c.as_slice.ensures
    ∙ found (λ (m : Module). word_at c.args.source.now m.name) c.args.source.now.modules c.args.modules.now c.args.name.now c.requires
