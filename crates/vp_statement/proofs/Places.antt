-- What is made of each module's part of a list, module by module, has the places of the list.
use Rattle.std.proofs.Common.{◌≡◌, ◌∙◌, ℕ, zero, suc, ◌+◌, ◌-◌, ◌≤◌, ◌<◌, List, [], ◌∷◌, ◌++◌, length, map, drop, get_or, slice_get, Some, refl, sym, ap, arith}
use Rattle.std.proofs.lemmas.List.{get_or-append_right, get_or-drop, get_or-map, get_or-take, get_or_append_left, length-drop, length-map, length-take}
use Rattle.std.specs.List.{flat_map}
use Rattle.vp_text.specs.Lists.{range_of}
use Rattle.vp_source.specs.declared.source.Module.{Module}
use Rattle.vp_source.specs.Whole.{AreGapless}
use Rattle.vp_source.specs.declared.statement.Span.{Span}
use Rattle.vp_resolve.proofs.Gapless.{gapless_up, in_range}

module _ {X Y : Type 0} (span : Module → Span) (made : Module → X → Y) (xs : List X) (x0 : X) (y0 : Y) where
  -- the part of a module, and what is made of it
  abbrev part : Module → List X
  part m = range_of xs (span m).first (span m).end

  abbrev own : Module → List Y
  own m = map (made m) (part m)

  -- a module begins no earlier than those before it end
  begins : (m : Module) (ms : List Module) (k from : ℕ) → AreGapless from (map span ms) (length xs) → slice_get ms k ≡ Some m → from ≤ (span m).first
  begins m [] k from h e = absurd cc
  begins m (x ∷ ms) zero from h e =
      let is : x ≡ m = cc in
      let start : (span m).first ≡ from = ap (λ (y : Module). (span y).first) (sym is) ∙ h.0 in
      omega arith
  begins m (x ∷ ms) (suc k) from h e =
      let start = h.0 in
      let up = h.1 in
      let rest = begins m ms k (span x).end h.2 e in
      omega arith

  module _ (m : Module) (up : (span m).first ≤ (span m).end) (inside : (span m).end ≤ length xs) where
    abbrev a : ℕ
    a = (span m).first

    abbrev b : ℕ
    b = (span m).end

    count : length (part m) ≡ b - a
    count = ap length (in_range xs a b up inside) ∙ (let l = length-take (b - a) (drop a xs) in let n = length-drop a xs in omega arith)

    owned : length (own m) ≡ b - a
    owned = length-map (part m) (made m) ∙ count

    -- what is made of an item of the module's
    item : (place : ℕ) → a ≤ place → place < b → get_or (own m) (place - a) y0 ≡ made m (get_or xs place x0)
    item place h k =
        get_or-map (made m) (part m) (place - a) x0 y0 (let n = count in omega arith)
        ∙ ap (λ (l : List X). made m (get_or l (place - a) x0)) (in_range xs a b up inside)
        ∙ ap (made m) (get_or-take (b - a) (drop a xs) (place - a) x0 (omega arith))
        ∙ ap (made m) (get_or-drop a xs (place - a) x0)
        ∙ ap (λ (i : ℕ). made m (get_or xs i x0)) (let there : a + (place - a) ≡ place = omega arith in there)

  -- what is made of the item at a place of a module's part, where the modules' parts begin at another
  made_there : (m : Module) (ms : List Module) (k from place : ℕ) → AreGapless from (map span ms) (length xs) → slice_get ms k ≡ Some m → (span m).first ≤ place → place < (span m).end → get_or (flat_map own ms) (place - from) y0 ≡ made m (get_or xs place x0)
  made_there m [] k from place h e low high = absurd cc
  made_there m (x ∷ ms) zero from place h e low high =
      let is : x ≡ m = cc in
      let start : (span m).first ≡ from = ap (λ (y : Module). (span y).first) (sym is) ∙ h.0 in
      let ends : (span x).end ≡ (span m).end = ap (λ (y : Module). (span y).end) is in
      let last = gapless_up (span x).end (map span ms) (length xs) h.2 in
      let up : (span m).first ≤ (span m).end = omega arith in
      let inside : (span m).end ≤ length xs = omega arith in
      let n = owned m up inside in
      ap (λ (y : Module). get_or (own y ++ flat_map own ms) (place - from) y0) is
      ∙ ap (λ (i : ℕ). get_or (own m ++ flat_map own ms) (place - i) y0) (sym start)
      ∙ get_or_append_left (own m) (flat_map own ms) y0 (place - (span m).first) (omega arith)
      ∙ item m up inside place low high
  made_there m (x ∷ ms) (suc k) from place h e low high =
      let start = h.0 in
      let up = h.1 in
      let last = gapless_up (span x).end (map span ms) (length xs) h.2 in
      let first = begins m ms k (span x).end h.2 e in
      let n : length (own x) ≡ (span x).end - (span x).first = owned x up last in
      get_or-append_right (own x) (flat_map own ms) (length (own x)) (place - from) y0 refl (omega arith)
      ∙ ap (λ (i : ℕ). get_or (flat_map own ms) i y0) (let there : (place - from) - length (own x) ≡ place - (span x).end = omega arith in there)
      ∙ made_there m ms k (span x).end place h.2 e low high

  -- what is made of the item at a place of a module's part, where the modules' parts are the whole list
  pub made_at : (m : Module) (ms : List Module) (k place : ℕ) → AreGapless 0 (map span ms) (length xs) → slice_get ms k ≡ Some m → (span m).first ≤ place → place < (span m).end → get_or (flat_map own ms) place y0 ≡ made m (get_or xs place x0)
  made_at m ms k place h e low high =
      ap (λ (i : ℕ). get_or (flat_map own ms) i y0) (let same : place ≡ place - 0 = omega arith in same)
      ∙ made_there m ms k 0 place h e low high
