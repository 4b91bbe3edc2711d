-- The scope of a module, by its number in the text, and what is found in it.
use Rattle.std.proofs.Common.{◌≡◌, ◌∙◌, ℕ, zero, suc, ◌<◌, List, [], ◌∷◌, length, get_or, slice_get, Option, refl, sym, ap}
use Rattle.std.specs.Prelude.{option_and_then}
use Rattle.std.proofs.lemmas.Option.{slice_get-get_or}
use Rattle.vp_source.specs.declared.expression.Expression.{Expression}
use Rattle.vp_source.specs.declared.statement.Statement.{Statement}
use Rattle.vp_source.specs.Places.{earlier, earliest}
use Rattle.vp_source.specs.declared.source.Module.{Module}
use Rattle.vp_modules.specs.Items.{expressions_in, statements_in}
use Rattle.vp_modules.specs.Tables.{module_names}
use Rattle.vp_elab.specs.Built.{Elaborated}
use Rattle.vp_elab.specs.Tree.{first_of}
use Rattle.vp_resolve.specs.Checks.{bad_at, bad_in, bad_target}
use Rattle.vp_resolve.specs.Names.{scope_of}

-- what is found by the name of a number is the scope of the module of that number
pub scope_by_name : (d : Elaborated) (ms : List Module) (k : ℕ) → option_and_then (first_of d.tree.nodes) (slice_get (module_names d.source ms) k) ≡ option_and_then (scope_of d) (slice_get ms k)
scope_by_name d [] k = refl
scope_by_name d (m ∷ ms) zero = refl
scope_by_name d (m ∷ ms) (suc k) = scope_by_name d ms k

-- of a module that a loop is at
pub scope_there : (d : Elaborated) (ms : List Module) (k : ℕ) (m : Module) (found : Option ℕ) → ms ≡ d.source.modules → found ≡ option_and_then (scope_of d) (slice_get d.source.modules k) → k < length ms → found ≡ scope_of d (get_or ms k m)
scope_there d ms k m found all h inside =
    h
    ∙ ap (λ (l : List Module). option_and_then (scope_of d) (slice_get l k)) (sym all)
    ∙ ap (option_and_then (scope_of d)) (slice_get-get_or ms k m inside)

-- the first bad selection of a module, by its statements and its expressions
pub bad_there : (d : Elaborated) (m : Module) (scope : Option ℕ) (ss : List Statement) (es : List Expression) (target operand : Option ℕ) → scope ≡ scope_of d m → ss ≡ statements_in d.source m → es ≡ expressions_in d.source m → target ≡ earliest (bad_target d scope) ss → operand ≡ earliest (bad_at d scope) es → earlier target operand ≡ bad_in d m
bad_there d m scope ss es target operand here a b first second =
    ap (λ (x : Option ℕ). earlier x operand) first
    ∙ ap (earlier (earliest (bad_target d scope) ss)) second
    ∙ ap (λ (x : Option ℕ). earlier (earliest (bad_target d x) ss) (earliest (bad_at d x) es)) here
    ∙ ap (λ (l : List Statement). earlier (earliest (bad_target d (scope_of d m)) l) (earliest (bad_at d (scope_of d m)) es)) a
    ∙ ap (λ (l : List Expression). earlier (earliest (bad_target d (scope_of d m)) (statements_in d.source m)) (earliest (bad_at d (scope_of d m)) l)) b
