-- The tokens of a text, one after the other.
use Rattle.std.proofs.Common.{◌≡◌, ℕ, suc, ◌+◌, ◌<◌, Bool, true, cond, List, [], ◌∷◌, ◌++◌, length, drop, get_or, map, Option, Result, Ok, Err, refl, sym, ap, subst, ◌∙◌, arith}
use Rattle.std.proofs.Math.Seq.{drop-cons}
use Rattle.vp_lex.specs.declared.token.Token.{Token}
use Rattle.vp_pragma.specs.declared.pragma_effect.PragmaEffect.{PragmaEffect}
use Rattle.vp_pragma.specs.declared.error.PragmaError.{PragmaError}
use Rattle.vp_pragma.specs.declared.reading.Reading.{Reading}
use Rattle.vp_pragma.specs.EnvelopesOf.{Progress, after_effect, after_effects}
use Rattle.vp_pragma.specs.Pragmas.{begins_line, on_line, pragma_line}
use Rattle.vp_pragma.specs.LineReading.{effects_after, directive_effects}
use Rattle.vp_pragma.specs.TokenClasses.{Placed}
use Rattle.std.specs.Result.{result_err}
use Rattle.vp_text.specs.Refusals.{MayExplain}
use Rattle.vp_pragma.specs.declared.error.PragmaError.TheVariants as error
use Rattle.vp_pragma.specs.Reading.{after_left, progress_of}
use Rattle.vp_pragma.proofs.Refusals.{explains_through}

-- deeds after others
after_append :
    (text : List ℕ) (tokens : List Token) (r : Result Progress PragmaError) (xs ys : List (Placed × PragmaEffect))
    → after_effects text tokens r (xs ++ ys) ≡ after_effects text tokens (after_effects text tokens r xs) ys
after_append text tokens (Err e) xs ys = refl
after_append text tokens (Ok r) [] ys = refl
after_append text tokens (Ok r) (x ∷ xs) ys = after_append text tokens (after_effect text tokens r x.0 x.1) xs ys

-- the deeds of a token at its place
abbrev pub told : ℕ → Token → List PragmaEffect → List (Placed × PragmaEffect)
told place t effects = map (λ (effect : PragmaEffect). ((place, t), effect)) effects

-- the deeds of the tokens after it
abbrev others : List ℕ → List Token → ℕ → Token → List (Placed × PragmaEffect)
others text tokens place t = effects_after text (pragma_line t) (place + 1) (drop (place + 1) tokens)

-- the tokens from a place on are the one that stands there and those after it
first_left :
    (text : List ℕ) (tokens : List Token) (r : Reading) (before : Option ℕ) (place : ℕ) (t d : Token) (starts : Bool)
    → place < length tokens → t ≡ get_or tokens place d → begins_line before t ≡ starts
    → after_left text tokens r before place
    ≡ after_effects text tokens (after_effects text tokens (Ok (progress_of r)) (told place t (cond starts (directive_effects text t (on_line place t (drop (place + 1) tokens))) [])))
    (others text tokens place t)
first_left text tokens r before place t d starts lt is begins =
    let one : suc place ≡ place + 1 = omega arith in
    let split : drop place tokens ≡ t ∷ drop (place + 1) tokens =
    drop-cons tokens place d lt ∙ ap (λ (x : Token). x ∷ drop (suc place) tokens) (sym is) ∙ ap (λ (n : ℕ). t ∷ drop n tokens) one in
    ap (λ (ts : List Token). after_effects text tokens (Ok (progress_of r)) (effects_after text before place ts)) split
    ∙ ap (λ (b : Bool). after_effects text tokens (Ok (progress_of r)) (told place t (cond b (directive_effects text t (on_line place t (drop (place + 1) tokens))) []) ++ others text tokens place t)) begins
    ∙ after_append text tokens (Ok (progress_of r)) (told place t (cond starts (directive_effects text t (on_line place t (drop (place + 1) tokens))) [])) (others text tokens place t)

-- a line that is read
pub line_read :
    (text : List ℕ) (tokens : List Token) (r next : Reading) (before line : Option ℕ) (place : ℕ) (t d : Token)
    → place < length tokens → t ≡ get_or tokens place d → begins_line before t ≡ true → line ≡ pragma_line t
    → after_effects text tokens (Ok (progress_of r)) (told place t (directive_effects text t (on_line place t (drop (place + 1) tokens)))) ≡ Ok (progress_of next)
    → after_left text tokens r before place ≡ after_left text tokens next line (place + 1)
line_read text tokens r next before line place t d lt is begins line_is done =
    first_left text tokens r before place t d true lt is begins
    ∙ ap (λ (q : Result Progress PragmaError). after_effects text tokens q (others text tokens place t)) done
    ∙ ap (λ (l : Option ℕ). after_left text tokens next l (place + 1)) (sym line_is)

-- a line that is refused
pub line_refused :
    (text : List ℕ) (tokens : List Token) (r : Reading) (before : Option ℕ) (place : ℕ) (t d : Token) (e : PragmaError)
    → place < length tokens → t ≡ get_or tokens place d → begins_line before t ≡ true
    → MayExplain error.NoMemory (result_err (after_effects text tokens (Ok (progress_of r)) (told place t (directive_effects text t (on_line place t (drop (place + 1) tokens)))))) e
    → MayExplain error.NoMemory (result_err (after_left text tokens r before place)) e
line_refused text tokens r before place t d e lt is begins refused =
    subst (λ (q : Result Progress PragmaError). MayExplain error.NoMemory (result_err q) e) (sym (first_left text tokens r before place t d true lt is begins))
    (explains_through (λ (q : Result Progress PragmaError). after_effects text tokens q (others text tokens place t))
    (after_effects text tokens (Ok (progress_of r)) (told place t (directive_effects text t (on_line place t (drop (place + 1) tokens))))) e (λ x. refl) refused)
