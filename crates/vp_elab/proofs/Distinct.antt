-- Modules of which no name is declared twice have different names.
use Rattle.std.proofs.Common.{◌≡◌, ℕ, Bool, true, false, cond, ◌||◌, List, [], ◌∷◌, ◌++◌, Option, Some, None, refl, sym, ap, subst, ◌∙◌}
use Rattle.std.specs.Str.{bytes_eq}
use Rattle.std.proofs.lemmas.List.{append_assoc}
use Rattle.std.proofs.lemmas.Slice.Eq.{bytes_eq-Decides}
use Rattle.vp_source.specs.Places.{line_at, word_at}
use Rattle.vp_source.specs.declared.source.Source.{Source}
use Rattle.vp_source.specs.declared.source.Module.{Module}
use Rattle.vp_modules.specs.declared.error.ElabError.{ElabError}
use Rattle.vp_modules.specs.declared.error.ElabError.TheVariants.{Duplicate}
use Rattle.vp_modules.specs.Items.{is_among, items_in}
use Rattle.vp_modules.specs.Refusals.{first_of_two, twice, twice_in}

-- a text is itself
pub bytes_eq-self : (xs : List ℕ) → bytes_eq xs xs ≡ true
bytes_eq-self xs = (bytes_eq-Decides xs xs).1 refl

not_true : (b : Bool) → (b ≡ true → ⊥) → b ≡ false
not_true true h = absurd (h refl)
not_true false h = refl

-- texts that differ, differ the other way round
pub bytes_eq-swap : (xs ys : List ℕ) → bytes_eq xs ys ≡ false → bytes_eq ys xs ≡ false
bytes_eq-swap xs ys h =
    not_true (bytes_eq ys xs) (λ e. let same : bytes_eq xs ys ≡ true = (bytes_eq-Decides xs ys).1 (sym ((bytes_eq-Decides ys xs).0 e)) in absurd cc)

-- the name differs from those of these modules
abbrev pub AllOther : Source → List ℕ → List Module → Type 0
AllOther source w [] = Unit {0}
AllOther source w (m ∷ ms) = (bytes_eq w (word_at source m.name) ≡ false) × AllOther source w ms

pub neither : (a b : Option ElabError) → first_of_two a b ≡ None → (a ≡ None) × (b ≡ None)
neither None b h = (refl, h)
neither (Some e) b h = absurd cc

pub new_by : (b : Bool) (e : ElabError) (o : Option ElabError) → cond b (Some e) o ≡ None → (b ≡ false) × (o ≡ None)
new_by true e o h = absurd cc
new_by false e o h = (refl, h)

-- a module that is accepted has a new name, and the modules after it are accepted
pub accepted : (source : Source) (names : List (List ℕ)) (m : Module) (ms : List Module) → twice_in source names (m ∷ ms) ≡ None → (is_among names (word_at source m.name) ≡ false) × (twice_in source (names ++ word_at source m.name ∷ []) ms ≡ None)
accepted source names m ms h =
    let w : List ℕ = word_at source m.name in
    let parts = new_by (is_among names w) (Duplicate (line_at source m.name)) (first_of_two (twice source [] (items_in source m)) (twice_in source (names ++ w ∷ []) ms)) h in
    (parts.0, (neither (twice source [] (items_in source m)) (twice_in source (names ++ w ∷ []) ms) parts.1).1)

either_false : (a b : Bool) → (a || b) ≡ false → (a ≡ false) × (b ≡ false)
either_false true b h = absurd cc
either_false false b h = (refl, h)

pub not_there : (front back : List (List ℕ)) (w x : List ℕ) → is_among (front ++ w ∷ back) x ≡ false → bytes_eq x w ≡ false
not_there [] back w x h = (either_false (bytes_eq x w) (is_among back x) h).0
not_there (y ∷ front) back w x h = not_there front back w x (either_false (bytes_eq x y) (is_among (front ++ w ∷ back) x) h).1

new_names : (source : Source) (names front back : List (List ℕ)) (w : List ℕ) (ms : List Module) → names ≡ front ++ w ∷ back → twice_in source names ms ≡ None → AllOther source w ms
new_names source names front back w [] e h = tt
new_names source names front back w (m ∷ ms) e h =
    let x : List ℕ = word_at source m.name in
    let parts = accepted source names m ms h in
    let more : names ++ x ∷ [] ≡ front ++ w ∷ (back ++ x ∷ []) = ap (λ (ns : List (List ℕ)). ns ++ x ∷ []) e ∙ append_assoc front (w ∷ back) (x ∷ []) in (
      bytes_eq-swap x w (not_there front back w x (subst (λ (ns : List (List ℕ)). is_among ns x ≡ false) e parts.0)),
      new_names source (names ++ x ∷ []) front (back ++ x ∷ []) w ms more parts.1,
    )

other_at : (source : Source) (w : List ℕ) (front : List Module) (m : Module) (back : List Module) → AllOther source w (front ++ m ∷ back) → bytes_eq w (word_at source m.name) ≡ false
other_at source w [] m back h = h.0
other_at source w (x ∷ front) m back h = other_at source w front m back h.1

-- the name of a module differs from those before it and after it
pub others : (source : Source) (names : List (List ℕ)) (before : List Module) (m : Module) (after : List Module) → twice_in source names (before ++ m ∷ after) ≡ None → AllOther source (word_at source m.name) before × AllOther source (word_at source m.name) after
others source names [] m after h =
    let w : List ℕ = word_at source m.name in
    (tt, new_names source (names ++ w ∷ []) names [] w after refl (accepted source names m after h).1)
others source names (b ∷ bs) m after h =
    let w : List ℕ = word_at source b.name in
    let rest = (accepted source names b (bs ++ m ∷ after) h).1 in
    let here = new_names source (names ++ w ∷ []) names [] w (bs ++ m ∷ after) refl rest in
    let further = others source (names ++ w ∷ []) bs m after rest in
    ((bytes_eq-swap w (word_at source m.name) (other_at source w bs m after here), further.0), further.1)
