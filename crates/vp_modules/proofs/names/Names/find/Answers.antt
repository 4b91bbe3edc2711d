use Rattle.std.proofs.Common.{sym, ◌∙◌, ap, position}
use Rattle.std.specs.Prelude.{string_bytes}
use Rattle.std.specs.Str.{bytes_eq}
use Rattle.vp_text.specs.laws.Searches.{position-map}
use Rattle.vp_modules.proofs.names.Names.find.Goals as goal

pub returns : goal.returns
returns c =
    c.get_index_of.ensures.index ∙ sym (position-map (bytes_eq c.args.name.now) string_bytes c.self.inside.names.keys)
    ∙ ap (λ names. position (bytes_eq c.args.name.now) names) c.self.view_is
