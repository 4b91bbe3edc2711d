use Rattle.std.proofs.Common.{◌∙◌}
use Rattle.vp_modules.specs.Items.{item_name}
use Rattle.vp_modules.proofs.Looked.{found}
use Rattle.vp_modules.proofs.lookup.item_named.Goals as goal

pub returns : goal.returns
returns c = c.value_named.ensures ∙ found (item_name c.args.source.now) c.args.items.now c.args.names.now c.args.name.now c.requires
