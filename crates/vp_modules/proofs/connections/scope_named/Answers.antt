use Rattle.std.proofs.Common.{◌≡◌, List, get_or, position, Some, sym, ap, ◌∙◌, arith}
use Rattle.std.proofs.lemmas.Grind.{common_steps}
use Rattle.std.specs.Str.{bytes_eq}
use Rattle.vp_source.specs.Places.{word_at}
use Rattle.vp_source.specs.declared.source.Module.{Module}
use Rattle.vp_modules.specs.declared.tables.Tables.{Tables}
use Rattle.vp_modules.proofs.Looked.{found, nowhere, taken}
use Rattle.vp_modules.proofs.connections.scope_named.Goals as goal

pub returns-in_err-number-clause-named : goal.returns-in_err-number-clause-named
returns-in_err-number-clause-named c =
    grind (
      arith,
      common_steps,
      found
          (λ (m : Module). word_at c.args.source.now m.name)
          c.args.source.now.modules
          c.args.tables.now.modules
          c.args.name.now
          (ap (λ (t : Tables). t.modules) c.requires),
    )

pub returns-clause-named : goal.returns-clause-named
returns-clause-named c =
    let at : position (bytes_eq c.args.name.now) c.args.tables.now.modules ≡ Some c.in_ok-number.number = sym c.find.ensures ∙ c.in_ok-number.was in
    ap (λ (ms : List Module). Some (get_or ms c.in_ok-number.number nowhere)) c.as_slice.ensures
    ∙ taken
    (λ (m : Module). word_at c.args.source.now m.name)
    c.args.source.now.modules
    c.args.tables.now.modules
    c.args.name.now
    c.in_ok-number.number
    nowhere
    (ap (λ (t : Tables). t.modules) c.requires)
    at
