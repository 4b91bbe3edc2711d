-- A refusal of the deeds so far is that of all.
use Rattle.std.proofs.Common.{◌≡◌, ℕ, suc, ◌<◌, Bool, false, cond, eqb, length, List, [], ◌∷◌, map, Option, Some, Result, Ok, Err, refl, sym, ap, subst, ◌∙◌, arith}
use Rattle.std.specs.Prelude.{IfSome}
use Rattle.std.proofs.lemmas.Bool.Decides.{nat_tests}
use Rattle.vp_pragma.specs.declared.pragma_effect.PragmaEffect.{PragmaEffect}
use Rattle.vp_pragma.specs.declared.pragma_effect.Pragma.{Pragma}
use Rattle.vp_pragma.specs.declared.error.PragmaError.{PragmaError}
use Rattle.vp_pragma.specs.declared.error.PragmaError.TheVariants as error
use Rattle.vp_pragma.specs.declared.line.Expression.{Expression}
use Rattle.vp_pragma.specs.declared.line.Rest.{Rest}
use Rattle.vp_pragma.specs.declared.reading.Line.{Line}
use Rattle.vp_pragma.specs.declared.reading.Reading.{Reading}
use Rattle.vp_pragma.specs.EnvelopesOf.{Progress, after_effects}
use Rattle.vp_pragma.specs.Pragmas.{before_effects, effect_of}
use Rattle.vp_pragma.specs.LineReading.{effects_from, expression_at, first_effects, next_effects, all_effects}
use Rattle.vp_pragma.specs.TokenClasses.{Placed}
use Rattle.std.specs.Result.{result_err}
use Rattle.vp_text.specs.Refusals.{MayExplain}
use Rattle.vp_pragma.specs.Reading.{after_all, after_one, directive_of, placed}

refusal_through :
    {A B : Type 0} (f : Result A PragmaError → Result B PragmaError) (given : Result A PragmaError) (e : PragmaError)
    → ((x : PragmaError) → f (Err x) ≡ Err x) → result_err given ≡ Some e → result_err (f given) ≡ Some e
refusal_through f (Ok x) e keeps h = absurd (cc)
refusal_through f (Err x) e keeps h = ap result_err (keeps x) ∙ h

-- what keeps a refusal keeps its explanation
pub explains_through :
    {A B : Type 0} (f : Result A PragmaError → Result B PragmaError) (given : Result A PragmaError) (e : PragmaError)
    → ((x : PragmaError) → f (Err x) ≡ Err x) → MayExplain error.NoMemory (result_err given) e → MayExplain error.NoMemory (result_err (f given)) e
explains_through f given e keeps h n = refusal_through f given e keeps (h n)

-- the refusal of a deed is that of the deeds from it on
pub explains_more :
    (line : Line) (reading : Reading) (effect : PragmaEffect) (e : PragmaError) → MayExplain error.NoMemory (result_err (after_one line reading effect)) e
    → (ds : List PragmaEffect) → MayExplain error.NoMemory (result_err (after_all line reading (effect ∷ ds))) e
explains_more line reading effect e h ds =
    explains_through (λ (r : Result Progress PragmaError). after_effects line.text.now line.tokens.now r (map (λ (d : PragmaEffect). (directive_of line, d)) ds))
    (after_one line reading effect) e (λ x. refl) h

-- the refusal of an expression is that of the expressions from it on
pub explains_first :
    (line : Line) (pragma : Pragma) (reading : Reading) (ps : List Placed) (first : Expression) (remainder : List Placed) (effect : Option PragmaEffect) (e : PragmaError)
    → Some (first, remainder) ≡ expression_at ps → effect ≡ effect_of pragma line.text.now first
    → ((ds : List PragmaEffect) → MayExplain error.NoMemory (result_err (after_all line reading (before_effects effect ds))) e)
    → (n : ℕ) → MayExplain error.NoMemory (result_err (after_all line reading (effects_from pragma line.text.now (suc n) ps))) e
explains_first line pragma reading ps first remainder effect e is effect_is h n =
    subst (λ (found : Option (Expression × List Placed)). MayExplain error.NoMemory (result_err (after_all line reading (first_effects pragma line.text.now (effects_from pragma line.text.now n) found))) e) is
    (subst (λ (d : Option PragmaEffect). MayExplain error.NoMemory (result_err (after_all line reading (before_effects d (next_effects (effects_from pragma line.text.now n) remainder)))) e) effect_is (h _))

-- a number that is not zero
not_none : (n : ℕ) → 0 < n → eqb n 0 ≡ false
not_none n lt = grind (arith, nat_tests)

-- the expressions of a pragma that has some
pub all_some : (pragma : Pragma) (text : List ℕ) (ps : List Placed) (n : ℕ) → length ps ≡ n → 0 < n → effects_from pragma text n ps ≡ all_effects pragma text ps
all_some pragma text ps n e lt =
    let some : eqb (length ps) 0 ≡ false = not_none (length ps) (omega arith) in
    ap (λ (k : ℕ). effects_from pragma text k ps) (sym e) ∙ sym (ap (λ (b : Bool). cond b [] (effects_from pragma text (length ps) ps)) some)

-- what is there has what it is to have
pub at_some : {A : Type 0} (P : A → Type 0) (o : Option A) (x : A) → o ≡ Some x → IfSome o P → P x
at_some P o x e h = subst (λ (q : Option _). IfSome q P) e h

-- the expressions that are left
pub next_left :
    (line : Line) (pragma : Pragma) (before after : Reading) (ps : List Placed) (o : Option Rest) (next : Rest) → o ≡ Some next
    → IfSome o (λ (r : Rest). (n : ℕ) → after_all line before (effects_from pragma line.text.now (suc n) ps) ≡ after_all line after (effects_from pragma line.text.now n (placed r)))
    → (n : ℕ) → after_all line before (effects_from pragma line.text.now (suc n) ps) ≡ after_all line after (effects_from pragma line.text.now n (placed next))
next_left line pragma before after ps o next e h =
    at_some (λ (r : Rest). (n : ℕ) → after_all line before (effects_from pragma line.text.now (suc n) ps) ≡ after_all line after (effects_from pragma line.text.now n (placed r))) o next e h
