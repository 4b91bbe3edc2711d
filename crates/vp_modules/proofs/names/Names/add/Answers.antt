use Rattle.std.proofs.Common.{◌≡◌, Bool, sym, ◌∙◌, ap, subst, IfOk}
use Rattle.std.specs.Prelude.{not, string_bytes}
use Rattle.std.specs.Str.{bytes_eq}
use Rattle.std.specs.List.{list_any}
use Rattle.vp_modules.specs.Items.{is_among}
use Rattle.vp_text.specs.laws.Searches.{list_any-map}
use Rattle.vp_modules.proofs.names.Names.add.Goals as goal

pub returns-clause-added : goal.returns-clause-added
returns-clause-added c =
    let name = string_bytes c.args.name in
    let there : list_any (λ k. bytes_eq name (string_bytes k)) c.self.inside.names.keys ≡ is_among c.args.self.now name =
    sym (list_any-map (bytes_eq name) string_bytes c.self.inside.names.keys) ∙ ap (λ names. is_among names name) c.self.view_is in
    subst (λ (b : Bool). IfOk c.insert.result (λ added. added ≡ not b)) there c.insert.ensures.added
