use Rattle.std.proofs.Common.{ℕ, List, ◌∙◌, sym, ap, position}
use Rattle.std.specs.Str.{bytes_eq}
use Rattle.vp_source.specs.Places.{word_at}
use Rattle.vp_source.specs.declared.source.Module.{Module}
use Rattle.vp_modules.specs.Items.{definition_number}
use Rattle.vp_modules.proofs.Looked.{placed}
use Rattle.vp_modules.proofs.definitions.definition_number.Goals as goal

pub returns-in-Instance : goal.returns-in-Instance
returns-in-Instance c =
    c.find.ensures ∙ ap (λ (name : List ℕ). position (bytes_eq name) c.args.modules.now) c.word.ensures
    ∙ placed (λ (m : Module). word_at c.args.source.now m.name) c.args.source.now.modules c.args.modules.now (word_at c.args.source.now c.in-Instance.definition) c.requires
    ∙ ap (definition_number c.args.source.now) (sym c.in-Instance.is)
