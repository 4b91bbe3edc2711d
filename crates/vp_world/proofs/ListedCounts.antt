-- The objects of a kind that are listed in a scope, counted by their numbers one after the other.
use Rattle.std.proofs.Common.{◌≡◌, ◌∙◌, ℕ, suc, ◌+◌, ◌&&◌, Bool, true, false, cond, List, [], ◌∷◌, length, filter, Option, refl, sym, ap, arith}
use Rattle.std.proofs.lemmas.List.{length-append}
use Rattle.std.proofs.lemmas.List.Elements.{filter-append}
use Rattle.vp_elab.specs.declared.object.Kind.{Kind}
use Rattle.vp_elab.specs.Tree.{Tree, below, is_declared_in}
use Rattle.vp_elab.specs.laws.Children.{children_filtered}
use Rattle.vp_policy.specs.Filter.{is_listed_at, listed}
use Rattle.vp_policy.specs.Users.{Member}
use Rattle.vp_vpi.specs.Calls.{is_of}
use Rattle.vp_vpi.specs.Observers.{kind_at}

module _ (n : ℕ) (r : ℕ → Bool) where
  by_third : (b : Bool) → length (cond b (n ∷ []) []) ≡ cond b 1 0
  by_third true = refl
  by_third false = refl

  by_second : (b : Bool) → length (filter r (cond b (n ∷ []) [])) ≡ cond (b && r n) 1 0
  by_second true = by_third (r n)
  by_second false = refl

  by_first : (q : ℕ → Bool) (b : Bool) → length (filter r (filter q (cond b (n ∷ []) []))) ≡ cond (b && (q n && r n)) 1 0
  by_first q true = by_second (q n)
  by_first q false = refl

-- three filters of one number more
counted_more : (p q r : ℕ → Bool) (n : ℕ) → length (filter r (filter q (filter p (below (suc n))))) ≡ length (filter r (filter q (filter p (below n)))) + cond (p n && (q n && r n)) 1 0
counted_more p q r n =
    ap (λ (xs : List ℕ). length (filter r (filter q xs))) (filter-append p (below n) (n ∷ []))
    ∙ ap (λ (xs : List ℕ). length (filter r xs)) (filter-append q (filter p (below n)) (filter p (n ∷ [])))
    ∙ ap length (filter-append r (filter q (filter p (below n))) (filter q (filter p (n ∷ []))))
    ∙ length-append (filter r (filter q (filter p (below n)))) (filter r (filter q (filter p (n ∷ []))))
    ∙ ap (λ m. length (filter r (filter q (filter p (below n)))) + m) (by_first n r q (p n))

module _ (tree seen : Tree) (u : Member) (k : Kind) (scope : Option ℕ) where
  -- an object is of the kind
  abbrev wanted : ℕ → Bool
  wanted o = is_of k (kind_at tree o)

  -- it is declared in the scope, and listed too
  abbrev pub is_listed_in : ℕ → Bool
  is_listed_in o = is_declared_in tree.nodes scope o && (is_listed_at seen u o && wanted o)

  -- of the objects below a number those of the kind that are listed in the scope
  abbrev pub listed_below : ℕ → List ℕ
  listed_below n = filter wanted (filter (is_listed_at seen u) (filter (is_declared_in tree.nodes scope) (below n)))

  -- one object more
  pub more : (n : ℕ) (b : Bool) → b ≡ is_listed_in n → length (listed_below (n + 1)) ≡ length (listed_below n) + cond b 1 0
  more n b is =
      let next : n + 1 ≡ suc n = omega arith in
      ap (λ m. length (listed_below m)) next ∙ counted_more (is_declared_in tree.nodes scope) (is_listed_at seen u) wanted n
      ∙ ap (λ (c : Bool). length (listed_below n) + cond c 1 0) (sym is)

  -- all of them
  pub listed_all : seen ≡ tree → listed_below (length tree.nodes) ≡ filter wanted (listed tree u scope)
  listed_all same =
      ap (λ (t : Tree). filter wanted (filter (is_listed_at t u) (filter (is_declared_in tree.nodes scope) (below (length tree.nodes))))) same
      ∙ ap (λ (xs : List ℕ). filter wanted (filter (is_listed_at tree u) xs)) (children_filtered tree.nodes scope)
