use Rattle.std.proofs.Common.{sym, ◌∙◌, ap}
use Rattle.std.specs.Prelude.{string_bytes}
use Rattle.std.specs.Str.{bytes_eq}
use Rattle.vp_modules.specs.Items.{is_among}
use Rattle.vp_text.specs.laws.Searches.{list_any-map}
use Rattle.vp_modules.proofs.names.Names.has.Goals as goal

pub returns : goal.returns
returns c =
    c.contains.ensures ∙ sym (list_any-map (bytes_eq c.args.name.now) string_bytes c.self.inside.names.keys)
    ∙ ap (λ names. is_among names c.args.name.now) c.self.view_is
