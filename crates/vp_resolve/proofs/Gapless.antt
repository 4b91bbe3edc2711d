-- Texts whose modules follow each other without a gap: what is made module by module has the places of the text.
use Rattle.std.proofs.Common.{◌≡◌, ◌∙◌, ℕ, ◌≤◌, ◌&&◌, Bool, cond, leb, List, [], ◌∷◌, ◌++◌, length, map, drop, sym, ap, arith}
use Rattle.std.proofs.lemmas.Bool.{le-leb}
use Rattle.std.proofs.lemmas.List.Folds.{drop_split}
use Rattle.std.proofs.Math.Seq.{drop-length}
use Rattle.std.specs.List.{flat_map, slice_range}
use Rattle.vp_text.specs.Lists.{range_of}
use Rattle.vp_source.specs.declared.source.Module.{Module}
use Rattle.vp_source.specs.declared.source.Source.{Source}
use Rattle.vp_source.specs.declared.statement.Span.{Span}
use Rattle.vp_source.specs.Whole.{AreGapless, AreWhole}
use Rattle.vp_modules.specs.Items.{expressions_in}

-- a list has the items of a span that ends in it
pub in_range : {X : Type 0} (xs : List X) (a b : ℕ) → a ≤ b → b ≤ length xs → range_of xs a b ≡ slice_range xs a b
in_range xs a b h k =
    ap (λ (x : Bool). cond (x && leb b (length xs)) (slice_range xs a b) []) (le-leb a b h)
    ∙ ap (λ (x : Bool). cond x (slice_range xs a b) []) (le-leb b (length xs) k)

-- spans without a gap go up
pub gapless_up : (from : ℕ) (spans : List Span) (to : ℕ) → AreGapless from spans to → from ≤ to
gapless_up from [] to h = omega arith
gapless_up from (s ∷ spans) to h =
    let start = h.0 in
    let up = h.1 in
    let rest = gapless_up s.end spans to h.2 in
    omega arith

-- what the spans of modules hold is all from the first place on
pub hold_all : {X : Type 0} (span : Module → Span) (xs : List X) (from : ℕ) (ms : List Module) → AreGapless from (map span ms) (length xs) → flat_map (λ m. range_of xs (span m).first (span m).end) ms ≡ drop from xs
hold_all span xs from [] h = sym (ap (λ (n : ℕ). drop n xs) h ∙ drop-length xs)
hold_all span xs from (m ∷ ms) h =
    let s = span m in
    ap (λ l. l ++ flat_map (λ m. range_of xs (span m).first (span m).end) ms) (in_range xs s.first s.end h.1 (gapless_up s.end (map span ms) (length xs) h.2))
    ∙ ap (λ l. slice_range xs s.first s.end ++ l) (hold_all span xs s.end ms h.2)
    ∙ sym (drop_split xs s.first s.end h.1)
    ∙ ap (λ (n : ℕ). drop n xs) h.0

-- the expressions of the modules, one after the other, are those of the text
pub whole_expressions : (source : Source) → AreWhole source → flat_map (expressions_in source) source.modules ≡ source.expressions
whole_expressions source whole = hold_all (λ (m : Module). m.expressions) source.expressions 0 source.modules whole.expressions
