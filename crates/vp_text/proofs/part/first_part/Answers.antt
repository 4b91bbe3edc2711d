use Rattle.std.proofs.Common.{◌∙◌, ap, sym, ◌==◌, ◌∷◌, List, ℕ}
use Rattle.std.specs.List.{after_first}
use Rattle.vp_text.specs.Texts.{parts}
use Rattle.vp_text.proofs.Parts.{split_part, whole_part}
use Rattle.vp_text.proofs.part.first_part.Goals as goal

pub returns-in-Some-clause-parts : goal.returns-in-Some-clause-parts
returns-in-Some-clause-parts c =
    let found = c.in-Some.ensures.byte c.requires (λ w o h. h) in
    let following : List ℕ = after_first (λ (byte : ℕ). byte == c.args.separator) c.args.text.now in
    split_part c.args.separator c.args.text.now found.2
    ∙ ap (λ (x : List ℕ). x ∷ parts c.args.separator following) (sym found.0)
    ∙ ap (λ (x : List ℕ). c.in-Some.part.now ∷ parts c.args.separator x) (sym found.1)

pub returns-in-None-clause-parts : goal.returns-in-None-clause-parts
returns-in-None-clause-parts c = whole_part c.args.separator c.args.text.now (c.in-None.ensures.byte c.requires (λ w o h. h))
