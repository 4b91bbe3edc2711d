-- What grants give, one by one.
use Rattle.std.proofs.Common.{◌≡◌, ℕ, suc, ◌+◌, ◌<◌, Bool, true, false, ◌||◌, List, ◌∷◌, length, drop, get_or, map, refl, sym, ap, ◌∙◌, arith, eq-eqb, cond}
use Rattle.std.proofs.Math.Seq.{drop-cons}
use Rattle.std.proofs.lemmas.Bool.{ne_eqb}
use Rattle.vp_pragma.specs.Rights.{RightSet, either, set_of}
use Rattle.vp_policy.specs.declared.grant.Grant.{Grant}
use Rattle.vp_policy.specs.Members.{grant_shown}
use Rattle.vp_policy.specs.Users.{granted_by}

or_assoc : (a b c : Bool) → ((a || b) || c) ≡ (a || (b || c))
or_assoc true b c = refl
or_assoc false b c = refl

either_assoc : (a b c : RightSet) → either (either a b) c ≡ either a (either b c)
either_assoc a b c = λ i. record {
  list = or_assoc a.list b.list c.list i;
  read = or_assoc a.read b.read c.read i;
  watch = or_assoc a.watch b.watch c.watch i;
  put = or_assoc a.put b.put c.put i;
  race = or_assoc a.race b.race c.race i;
}

-- what the grants from a place on give
abbrev pub rest_of : List Grant → ℕ → ℕ → RightSet
rest_of gs i e = granted_by (map grant_shown (drop i gs)) e

-- the first of the grants from a place on, and those after it
granted_at :
    (gs : List Grant) (i : ℕ) (d : Grant) (e : ℕ) → i < length gs
    → rest_of gs i e ≡ granted_by (map grant_shown (get_or gs i d ∷ drop (i + 1) gs)) e
granted_at gs i d e in_list =
    let next : suc i ≡ i + 1 = omega arith in
    ap (λ (hs : List Grant). granted_by (map grant_shown hs) e) (drop-cons gs i d in_list)
    ∙ ap (λ (n : ℕ). granted_by (map grant_shown (get_or gs i d ∷ drop n gs)) e) next

-- a grant for the envelope is joined with the rights so far
pub granted_here :
    (rights joined : RightSet) (gs : List Grant) (i : ℕ) (d : Grant) (e : ℕ) → i < length gs
    → (get_or gs i d).envelope ≡ e → joined ≡ either rights (set_of (get_or gs i d).access)
    → either joined (rest_of gs (i + 1) e) ≡ either rights (rest_of gs i e)
granted_here rights joined gs i d e in_list here more =
    let rest : RightSet = rest_of gs (i + 1) e in
    let given : RightSet = set_of (get_or gs i d).access in
    ap (λ (x : RightSet). either x rest) more ∙ either_assoc rights given rest
    ∙ ap (either rights) (ap (λ (b : Bool). cond b (either given rest) rest) (sym (eq-eqb (get_or gs i d).envelope e here)) ∙ sym (granted_at gs i d e in_list))

-- a grant for another envelope gives nothing
pub granted_elsewhere :
    (rights : RightSet) (gs : List Grant) (i : ℕ) (d : Grant) (e : ℕ) → i < length gs
    → ((get_or gs i d).envelope ≡ e → ⊥)
    → either rights (rest_of gs (i + 1) e) ≡ either rights (rest_of gs i e)
granted_elsewhere rights gs i d e in_list other =
    let rest : RightSet = rest_of gs (i + 1) e in
    let given : RightSet = set_of (get_or gs i d).access in
    ap (either rights) (ap (λ (b : Bool). cond b (either given rest) rest) (sym (ne_eqb (get_or gs i d).envelope e other)) ∙ sym (granted_at gs i d e in_list))
