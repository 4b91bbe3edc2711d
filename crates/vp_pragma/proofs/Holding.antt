-- The last envelope that holds a place, step by step.
use Rattle.std.proofs.Common.{◌≡◌, ℕ, zero, suc, ◌+◌, ◌<◌, Bool, true, false, List, ◌∷◌, length, drop, get_or, refl, sym, ap, subst, ◌∙◌, arith}
use Rattle.std.proofs.Math.Seq.{drop-cons}
use Rattle.std.specs.Prelude.{if◌then◌else◌}
use Rattle.vp_pragma.specs.declared.envelope.Envelope.{Envelope}
use Rattle.vp_pragma.specs.Envelopes.{holds, or_later, last_holding}

-- no number yet
pub or_later-zero : (later : ℕ) → or_later 0 later ≡ later
or_later-zero zero = refl
or_later-zero (suc n) = refl

-- no later one
pub or_later-none : (number : ℕ) → or_later number 0 ≡ number
or_later-none number = refl

-- one envelope more that may hold the place
pub or_later-step :
    (number n later : ℕ) (held : Bool)
    → or_later number (or_later (if held then suc n else 0) later) ≡ or_later (if held then suc n else number) later
or_later-step number n zero true = refl
or_later-step number n zero false = refl
or_later-step number n (suc m) held = refl

-- the envelopes from one on
pub last_holding-step :
    (number n : ℕ) (e : Envelope) (es : List Envelope) (place : ℕ)
    → or_later number (last_holding (suc n) (e ∷ es) place)
    ≡ or_later (if holds place e then suc n else number) (last_holding (suc (suc n)) es place)
last_holding-step number n e es place = or_later-step number n (last_holding (suc (suc n)) es place) (holds place e)

-- a turn over the envelopes from number i + 1 on
pub holding_turn :
    (number next i place all : ℕ) (es : List Envelope) (e : Envelope) (held : Bool)
    → i < length es → e ≡ get_or es i e → held ≡ holds place e → next ≡ (if held then i + 1 else number)
    → or_later number (last_holding (suc i) (drop i es) place) ≡ all
    → or_later next (last_holding (suc (i + 1)) (drop (i + 1) es) place) ≡ all
holding_turn number next i place all es e held lt is he hn so_far =
    let split : drop i es ≡ e ∷ drop (suc i) es = drop-cons es i e lt ∙ ap (λ x. x ∷ drop (suc i) es) (sym is) in
    let whole : or_later number (last_holding (suc i) (e ∷ drop (suc i) es) place) ≡ all =
    subst (λ ds. or_later number (last_holding (suc i) ds place) ≡ all) split so_far in
    let one : i + 1 ≡ suc i = omega arith in
    let next_is : next ≡ (if holds place e then suc i else number) =
    hn ∙ ap (λ b. if b then i + 1 else number) he ∙ ap (λ k. if holds place e then k else number) one in
    rw (next_is, one) (sym (last_holding-step number i e (drop (suc i) es) place) ∙ whole)
