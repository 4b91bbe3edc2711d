-- A source is whole: the modules of a text hold all of its expressions, statements, terms of events and choices of cases.
use Rattle.std.specs.Prelude.{◌≡◌, ◌≤◌, ℕ, List, [], ◌∷◌, length, map}
use Rattle.vp_source.specs.declared.source.Source.{Source}
use Rattle.vp_source.specs.declared.statement.Span.{Span}

-- spans follow each other without a gap, from a place on up to another
abbrev pub AreGapless : (from : ℕ) → List Span → (to : ℕ) → Type 0
AreGapless from [] to = from ≡ to
AreGapless from (s ∷ spans) to = (s.first ≡ from) × (s.first ≤ s.end) × AreGapless s.end spans to

-- the modules of a text hold all of its expressions, statements, terms and choices, each module those after the module before it;
-- so what is made of them module by module has their places
pub record AreWhole (source : Source) : Type 0 where
  pub expressions : AreGapless 0 (map (λ m. m.expressions) source.modules) (length source.expressions)
  pub statements : AreGapless 0 (map (λ m. m.statements) source.modules) (length source.statements)
  pub terms : AreGapless 0 (map (λ m. m.terms) source.modules) (length source.terms)
  pub choices : AreGapless 0 (map (λ m. m.choices) source.modules) (length source.choices)
