-- Rights as bits.
use Rattle.std.proofs.Common.{◌≡◌, ℕ, zero, suc, ◌*◌, ◌^◌, ◌<◌, ◌≤◌, ◌==◌, Bool, true, false, ◌&&◌, ◌||◌, refl, sym, ap, ◌∙◌, arith}
use Rattle.std.specs.Prelude.{min, max, List, [], option_and_then, option_map, Option, Some, None}
use Rattle.vp_text.specs.Texts.{part_and_rest, parts}
use Rattle.vp_pragma.specs.Access.{right_of, rights_named}
use Rattle.std.specs.Int.{bit_at}
use Rattle.std.specs.Int.RustNames.{bit_and, bit_or}
use Rattle.std.proofs.lemmas.Bool.{eq-eqb, ne_eqb}
use Rattle.std.proofs.lemmas.Nat.{pow_pos}
use Rattle.std.proofs.lemmas.Nat.Bits.{and_pow, bit_at_and, bit_at_or, bit_at-lt}
use Rattle.vp_pragma.specs.declared.rights.Right.{Right}
use Rattle.vp_pragma.specs.declared.rights.Right.TheVariants as right
use Rattle.vp_pragma.specs.Rights.{RightSet, both, either, has_bit, only, set_of, with_right}

test_of : (n p : ℕ) → n < 2 → 1 ≤ p → ((n * p) == p) ≡ (n == 1)
test_of zero p l m = ne_eqb (0 * p) p (λ e. omega arith)
test_of (suc zero) p l m = eq-eqb (1 * p) p (omega arith)
test_of (suc (suc n)) p l m = absurd (omega arith)

both_one : (a b : ℕ) → a < 2 → b < 2 → (min a b == 1) ≡ ((a == 1) && (b == 1))
both_one zero b l m = ap (λ (n : ℕ). n == 1) (let e : min 0 b ≡ 0 = omega arith in e)
both_one (suc zero) zero l m = refl
both_one (suc zero) (suc zero) l m = refl
both_one (suc zero) (suc (suc b)) l m = absurd (omega arith)
both_one (suc (suc a)) b l m = absurd (omega arith)

either_one : (a b : ℕ) → a < 2 → b < 2 → (max a b == 1) ≡ ((a == 1) || (b == 1))
either_one zero b l m = ap (λ (n : ℕ). n == 1) (let e : max 0 b ≡ b = omega arith in e)
either_one (suc zero) zero l m = refl
either_one (suc zero) (suc zero) l m = refl
either_one (suc zero) (suc (suc b)) l m = absurd (omega arith)
either_one (suc (suc a)) b l m = absurd (omega arith)

min_small : (a b : ℕ) → a < 2 → min a b < 2
min_small a b l = omega arith

max_small : (a b : ℕ) → a < 2 → b < 2 → max a b < 2
max_small a b l m = omega arith

-- a number has a bit if the bit is 1 in it
bit_is : (n k : ℕ) → has_bit n (2 ^ k) ≡ (bit_at n k == 1)
bit_is n k = rw (and_pow n k) (test_of (bit_at n k) (2 ^ k) (bit_at-lt n k) (pow_pos k))

bit_of_both : (a b k : ℕ) → has_bit (bit_and a b) (2 ^ k) ≡ (has_bit a (2 ^ k) && has_bit b (2 ^ k))
bit_of_both a b k = rw (bit_is (bit_and a b) k, bit_is a k, bit_is b k, bit_at_and a b k) (both_one (bit_at a k) (bit_at b k) (bit_at-lt a k) (bit_at-lt b k))

bit_of_either : (a b k : ℕ) → has_bit (bit_or a b) (2 ^ k) ≡ (has_bit a (2 ^ k) || has_bit b (2 ^ k))
bit_of_either a b k = rw (bit_is (bit_or a b) k, bit_is a k, bit_is b k, bit_at_or a b k) (either_one (bit_at a k) (bit_at b k) (bit_at-lt a k) (bit_at-lt b k))

same_sets : (a b c d e f g h i j : Bool) → a ≡ f → b ≡ g → c ≡ h → d ≡ i → e ≡ j → ◌≡◌ {A = RightSet} (record { list = a; read = b; watch = c; put = d; race = e }) (record { list = f; read = g; watch = h; put = i; race = j })
same_sets a b c d e f g h i j p q r s t = cc

-- the bits of both are the rights of both
pub set_of-both : (a b : ℕ) → set_of (record { 0 = bit_and a b }) ≡ both (set_of (record { 0 = a })) (set_of (record { 0 = b }))
set_of-both a b = same_sets _ _ _ _ _ _ _ _ _ _ (bit_of_both a b 0) (bit_of_both a b 1) (bit_of_both a b 2) (bit_of_both a b 3) (bit_of_both a b 4)

-- the bits of either are the rights of either
pub set_of-either : (a b : ℕ) → set_of (record { 0 = bit_or a b }) ≡ either (set_of (record { 0 = a })) (set_of (record { 0 = b }))
set_of-either a b = same_sets _ _ _ _ _ _ _ _ _ _ (bit_of_either a b 0) (bit_of_either a b 1) (bit_of_either a b 2) (bit_of_either a b 3) (bit_of_either a b 4)

one_more : (a b : Bool) → (a || true) ≡ ((a || true) || b)
one_more true b = refl
one_more false b = refl

no_more : (a b : Bool) → (a || b) ≡ ((a || false) || b)
no_more true b = refl
no_more false b = refl

-- a right more, and then others, are the others and that right
pub either_right : (r : Right) (a s : RightSet) → either a (with_right r s) ≡ either (either a (only r)) s
either_right right.List a s = same_sets _ _ _ _ _ _ _ _ _ _ (one_more a.list s.list) (no_more a.read s.read) (no_more a.watch s.watch) (no_more a.put s.put) (no_more a.race s.race)
either_right right.Read a s = same_sets _ _ _ _ _ _ _ _ _ _ (no_more a.list s.list) (one_more a.read s.read) (no_more a.watch s.watch) (no_more a.put s.put) (no_more a.race s.race)
either_right right.Watch a s = same_sets _ _ _ _ _ _ _ _ _ _ (no_more a.list s.list) (no_more a.read s.read) (one_more a.watch s.watch) (no_more a.put s.put) (no_more a.race s.race)
either_right right.Put a s = same_sets _ _ _ _ _ _ _ _ _ _ (no_more a.list s.list) (no_more a.read s.read) (no_more a.watch s.watch) (one_more a.put s.put) (no_more a.race s.race)
either_right right.Race a s = same_sets _ _ _ _ _ _ _ _ _ _ (no_more a.list s.list) (no_more a.read s.read) (no_more a.watch s.watch) (no_more a.put s.put) (one_more a.race s.race)

-- ---- access strings

-- a name of a right in front of others
pub access_more : (a : RightSet) (r : Right) (names : Option RightSet) → option_map (either a) (option_map (with_right r) names) ≡ option_map (either (either a (only r))) names
access_more a r None = refl
access_more a r (Some s) = ap (λ (x : RightSet). (let o : Option RightSet = Some x in o)) (either_right r a s)

-- one more name is read, and more follow
pub access_next :
    (a b : RightSet) (text part further : List ℕ) (r : Right) → parts 43 text ≡ part_and_rest 43 part (Some further) → Some r ≡ right_of part → b ≡ either a (only r)
    → option_map (either b) (rights_named (parts 43 further)) ≡ option_map (either a) (rights_named (parts 43 text))
access_next a b text part further r split named more =
    ap (λ (x : RightSet). option_map (either x) (rights_named (parts 43 further))) more ∙ sym (access_more a r (rights_named (parts 43 further)))
    ∙ ap (λ (x : Option Right). option_map (either a) (option_and_then (λ r. option_map (with_right r) (rights_named (parts 43 further))) x)) named
    ∙ ap (λ (x : List (List ℕ)). option_map (either a) (rights_named x)) (sym split)

-- the last name is read
pub access_last :
    (a b e : RightSet) (text part : List ℕ) (r : Right) → parts 43 text ≡ part_and_rest 43 part None → Some r ≡ right_of part → b ≡ either a (only r) → e ≡ either b (only right.List)
    → Some e ≡ option_map (either a) (rights_named (parts 43 text))
access_last a b e text part r split named more last =
    ap (λ (x : RightSet). (let o : Option RightSet = Some x in o)) (last ∙ ap (λ (x : RightSet). either x (only right.List)) more ∙ sym (either_right r a (only right.List)))
    ∙ ap (λ (x : Option Right). option_map (either a) (option_and_then (λ r. option_map (with_right r) (rights_named [])) x)) named
    ∙ ap (λ (x : List (List ℕ)). option_map (either a) (rights_named x)) (sym split)

-- a name that is no right's
pub access_none :
    (a : RightSet) (text part : List ℕ) (further : Option (List ℕ)) → parts 43 text ≡ part_and_rest 43 part further → None ≡ right_of part
    → None ≡ option_map (either a) (rights_named (parts 43 text))
access_none a text part None split named =
    ap (λ (x : Option Right). option_map (either a) (option_and_then (λ r. option_map (with_right r) (rights_named [])) x)) named
    ∙ ap (λ (x : List (List ℕ)). option_map (either a) (rights_named x)) (sym split)
access_none a text part (Some further) split named =
    ap (λ (x : Option Right). option_map (either a) (option_and_then (λ r. option_map (with_right r) (rights_named (parts 43 further))) x)) named
    ∙ ap (λ (x : List (List ℕ)). option_map (either a) (rights_named x)) (sym split)
