-- Objects whose widths are those of vectors.
use Rattle.std.proofs.Common.{◌≡◌, ◌∙◌, ℕ, zero, suc, ◌+◌, ◌++◌, ◌<◌, ◌≤◌, ◌&&◌, ap, sym, true, false, cond, Option, Some, None, List, [], ◌∷◌, length, map, take, get_or, arith}
use Rattle.std.proofs.lemmas.Bool.{and_parts}
use Rattle.std.proofs.lemmas.List.{map-append, take_all, take_more}
use Rattle.std.specs.List.{list_all}
use Rattle.vp_bits.specs.Vector.{IsWidth}
use Rattle.vp_elab.specs.declared.object.Object.{Object}
use Rattle.vp_elab.specs.Tree.{below}
use Rattle.vp_operand.specs.Arena.{fitting, is_width}
use Rattle.vp_operand.proofs.Arenas.{all_fit, fitted, last_fits, none_fits, not_and, width_from}

-- each of them has 1 to 64 bits
pub object_fits : (os : List Object) (i : ℕ) (d : Object) → i < length os → list_all is_width (map (λ o. o.width) os) ≡ true → IsWidth (get_or os i d).width
object_fits [] i d h e = absurd (omega arith)
object_fits (o ∷ os) zero d h e = width_from o.width (and_parts (is_width o.width) (list_all is_width (map (λ (p : Object). p.width) os)) e).0
object_fits (o ∷ os) (suc i) d h e = object_fits os i d (omega arith) (and_parts (is_width o.width) (list_all is_width (map (λ (p : Object). p.width) os)) e).1

-- the widths of the first objects, which fit
pub record AreWidths (os : List Object) (i : ℕ) (widths : List ℕ) : Type 0 where
  pub are : widths ≡ map (λ (o : Object). o.width) (take i os)
  pub fit : list_all is_width widths ≡ true

-- and those of one more object, whose width fits
pub widths_more : (os : List Object) (i : ℕ) (d : Object) (widths : List ℕ) (own : ℕ) (found : Option ℕ) (n : ℕ) → i < length os → AreWidths os i widths → own ≡ (get_or os i d).width → found ≡ cond (is_width own) (Some own) None → found ≡ Some n → AreWidths os (i + 1) (widths ++ n ∷ [])
widths_more os i d widths own found n h first is tested there =
    let fits = fitted (is_width own) own n (sym there ∙ tested) in
    record {
      are =
          ap (λ m. widths ++ m ∷ []) (fits.1 ∙ is)
          ∙ ap (λ ws. ws ++ (get_or os i d).width ∷ []) first.are
          ∙ sym (ap (map (λ (o : Object). o.width)) (take_more os i d h) ∙ map-append (λ (o : Object). o.width) (take i os) (get_or os i d ∷ []));
      fit = last_fits widths n first.fit (ap is_width fits.1 ∙ fits.0);
    }

-- and those of all objects
pub widths_all : (os : List Object) (i : ℕ) (widths : List ℕ) → length os ≤ i → AreWidths os i widths → Some widths ≡ fitting (map (λ (o : Object). o.width) os)
widths_all os i widths h first =
    sym (all_fit widths first.fit) ∙ ap fitting (first.are ∙ ap (map (λ (o : Object). o.width)) (take_all i os h))

-- an object that does not fit
unfit : (os : List Object) (i : ℕ) (d : Object) → i < length os → is_width (get_or os i d).width ≡ false → list_all is_width (map (λ (o : Object). o.width) os) ≡ false
unfit [] i d h e = absurd (omega arith)
unfit (o ∷ os) zero d h e = ap (λ b. b && list_all is_width (map (λ (p : Object). p.width) os)) e
unfit (o ∷ os) (suc i) d h e = ap (λ b. is_width o.width && b) (unfit os i d (omega arith) e) ∙ not_and (is_width o.width)

pub objects_unfit : (os : List Object) (i : ℕ) (d : Object) → i < length os → is_width (get_or os i d).width ≡ false → fitting (map (λ (o : Object). o.width) os) ≡ None
objects_unfit os i d h e = none_fits (map (λ (o : Object). o.width) os) (unfit os i d h e)

-- the numbers below the next
pub below-more : (n : ℕ) → below (n + 1) ≡ below n ++ n ∷ []
below-more n = let e : n + 1 ≡ suc n = omega arith in ap below e
