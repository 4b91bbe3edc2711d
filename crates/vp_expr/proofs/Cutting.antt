-- The changes of each statement, cut out of those of all.
use Rattle.std.proofs.Common.{◌≡◌, ◌∙◌, ℕ, zero, suc, ◌-◌, Bool, true, false, cond, List, [], ◌∷◌, ◌++◌, length, take, drop, get_or, refl, sym, ap, append_assoc, append-nil, arith}
use Rattle.std.proofs.lemmas.List.{length-append}
use Rattle.std.proofs.Math.Seq.{drop-append_seam, take-append_seam}
use Rattle.std.specs.List.{flat_map, fold}
use Rattle.vp_text.specs.Lists.{has_range, range_of}
use Rattle.vp_elab.specs.Built.{Elaborated}
use Rattle.vp_expr.specs.declared.awaited.Awaited.{Awaited}
use Rattle.vp_expr.specs.Awaits.{awaits_of, cut_at, end_at, laid_after}
use Rattle.vp_expr.specs.Tables.{awaited_of, tables_of}
use Rattle.vp_resolve.specs.Operands.{operands_of}
use Rattle.vp_resolve.proofs.Gapless.{in_range}

-- all of these changes
abbrev all : List (List Awaited) → List Awaited
all awaits = flat_map (λ changes. changes) awaits

-- where each list of changes ends after others
abbrev ends_after : List Awaited → List (List Awaited) → List ℕ
ends_after others [] = []
ends_after others (changes ∷ awaits) = length (others ++ changes) ∷ ends_after (others ++ changes) awaits

laid_is : (others : List Awaited) (ends : List ℕ) (awaits : List (List Awaited)) → fold laid_after (others, ends) awaits ≡ (others ++ all awaits, ends ++ ends_after others awaits)
laid_is others ends [] = rw (append-nil others, append-nil ends) refl
laid_is others ends (changes ∷ awaits) =
    laid_is (others ++ changes) (ends ++ length (others ++ changes) ∷ []) awaits
    ∙ rw (append_assoc others changes (all awaits), append_assoc ends (length (others ++ changes) ∷ []) (ends_after (others ++ changes) awaits)) refl

-- nothing stands before the first place
none : {X : Type 0} (b : Bool) (k : ℕ) (xs : List X) → k ≡ 0 → cond b (take k xs) [] ≡ []
none true k xs h = ap (λ (i : ℕ). take i xs) h
none false k xs h = refl

none_before : {X : Type 0} (xs : List X) (n : ℕ) → range_of xs n 0 ≡ []
none_before xs n = none (has_range xs n 0) (0 - n) (drop n xs) (omega arith)

-- what stands after others
cut_first : (others changes rest : List Awaited) → range_of (others ++ (changes ++ rest)) (length others) (length (others ++ changes)) ≡ changes
cut_first others changes rest =
    let from = length others in
    let to = length (others ++ changes) in
    let n = length-append others changes in
    let m = length-append others (changes ++ rest) in
    let k = length-append changes rest in
    in_range (others ++ (changes ++ rest)) from to (omega arith) (omega arith)
    ∙ ap (take (to - from)) (drop-append_seam others (changes ++ rest))
    ∙ ap (λ (i : ℕ). take i (changes ++ rest)) (let same : to - from ≡ length changes = omega arith in same)
    ∙ take-append_seam changes rest

cut_is : (others : List Awaited) (awaits : List (List Awaited)) (place : ℕ) → range_of (others ++ all awaits) (end_at (length others ∷ ends_after others awaits) place) (end_at (ends_after others awaits) place) ≡ get_or awaits place []
cut_is others [] place = none_before (others ++ []) (end_at (length others ∷ []) place)
cut_is others (changes ∷ awaits) zero = cut_first others changes (all awaits)
cut_is others (changes ∷ awaits) (suc place) =
    ap (λ (l : List Awaited). range_of l (end_at (length (others ++ changes) ∷ ends_after (others ++ changes) awaits) place) (end_at (ends_after (others ++ changes) awaits) place))
    (sym (append_assoc others changes (all awaits)))
    ∙ cut_is (others ++ changes) awaits place

-- what is cut out for a statement is what it waits for
pub awaited_there : (d : Elaborated) (place : ℕ) → awaited_of (tables_of d) place ≡ get_or (awaits_of d (operands_of d)) place []
unfolding tables_of awaited_of
awaited_there d place =
    let awaits = awaits_of d (operands_of d) in
    ap (λ (l : List Awaited × List ℕ). cut_at l.0 l.1 place) (laid_is [] [] awaits) ∙ cut_is [] awaits place
