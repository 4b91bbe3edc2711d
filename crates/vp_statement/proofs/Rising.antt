-- One turn of rising from a statement to the one in which it stands.
use Rattle.std.proofs.Common.{◌≡◌, ◌∙◌, ℕ, suc, ◌+◌, ◌-◌, ◌<◌, false, List, Option, Some, None, ap, arith, get_or, refl}
use Rattle.std.specs.Option.{is_some, option_or}
use Rattle.vp_statement.specs.declared.flow.Part.{Part}
use Rattle.vp_statement.specs.Walking.{next_after, part_and_rest}

-- what is not there
pub missing : (o : Option ℕ) → is_some o ≡ false → o ≡ None
missing None e = refl
missing (Some x) e = cc

-- what comes after a part of which nothing else is said is what comes after the whole
pub rises :
    (parts : List (Option Part)) (n i place : ℕ) (part : Part)
    → i < n → get_or parts place None ≡ Some part → part.next ≡ None
    → next_after parts (n - i) place ≡ next_after parts (n - (i + 1)) part.whole
rises parts n i place part h at none =
    let e : n - i ≡ suc (n - (i + 1)) = omega (arith, h) in
    ap (λ m. next_after parts m place) e
    ∙ ap (part_and_rest (next_after parts (n - (i + 1)))) at
    ∙ ap (λ o. option_or o (next_after parts (n - (i + 1)) part.whole)) none
