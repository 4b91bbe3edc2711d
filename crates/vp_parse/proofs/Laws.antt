-- The laws of reading: what is read is derived, what is derived is read, and no symbols have two derivations.
use Rattle.std.proofs.Common.{◌≡◌, ℕ, ◌+◌, List, Result, Ok, Err, length, ◌≤◌, ◌<◌, refl, sym, ap, subst, ◌∙◌, arith}
use Rattle.vp_source.specs.declared.symbol.Symbol.{Symbol}
use Rattle.vp_parse_expr.specs.Stopping.{Stop, Unexpected, left_of}
use Rattle.vp_parse_expr.specs.laws.Takes.{Holds}
use Rattle.vp_parse_expr.specs.laws.Raise.{OrTooDeep}
use Rattle.vp_source.specs.Grammar.{Derivation, source_text, IsSource, source_depth, source_height, Derives}
use Rattle.vp_parse.specs.Reading.{source_at}
use Rattle.vp_parse.proofs.Takes.{source_takes}
use Rattle.vp_parse.proofs.Again.{source_again}
use Rattle.vp_parse.proofs.Raise.{source_raise}
use Rattle.vp_parse.proofs.Within.{StopsWithin, source_within}

-- what is read from symbols derives them
pub read_derives : (limit : ℕ) → 0 < limit → (symbols : List Symbol) (d : Derivation) → source_at limit symbols ≡ Ok d → Derives limit d symbols
read_derives limit lt symbols d e = subst (λ (r : Result Derivation Stop). Holds (λ (d : Derivation). Derives limit d symbols) r) e (source_takes limit lt symbols)

-- what derives symbols is read from them
pub derived_read : (limit : ℕ) (symbols : List Symbol) (d : Derivation) → Derives limit d symbols → source_at limit symbols ≡ Ok d
derived_read limit symbols d h = ap (source_at limit) h.spelled ∙ source_again limit d h.is h.shallow h.fits

read_once : (d e : Derivation) → ◌≡◌ {A = Result Derivation Stop} (Ok d) (Ok e) → d ≡ e
read_once d e h = cc

-- symbols have one derivation within a limit at most
pub derived_once : (limit : ℕ) (symbols : List Symbol) (d e : Derivation) → Derives limit d symbols → Derives limit e symbols → d ≡ e
derived_once limit symbols d e h k = read_once d e (sym (derived_read limit symbols d h) ∙ derived_read limit symbols e k)

-- two well-formed derivations that spell the same symbols are the same, however deep they nest
pub spelled_once : (d e : Derivation) → IsSource d → IsSource e → source_text d ≡ source_text e → d ≡ e
spelled_once d e is-d is-e same =
    let limit = source_depth d + source_depth e + (source_height d + source_height e) in
    derived_once limit (source_text d) d e (record { spelled = refl; is = is-d; fits = omega arith; shallow = omega arith }) (record { spelled = same; is = is-e; fits = omega arith; shallow = omega arith })

-- where reading stops, no derivation within the limit spells the symbols
pub refused_has_none : (limit : ℕ) (symbols : List Symbol) (d : Derivation) (s : Stop) → source_at limit symbols ≡ Err s → Derives limit d symbols → ⊥
refused_has_none limit symbols d s e h = let k = sym e ∙ derived_read limit symbols d h in absurd cc

-- where reading stops for another reason than the limit, no derivation spells the symbols, however deep it nests
pub unexpected_has_none : (limit : ℕ) (symbols : List Symbol) (d : Derivation) (left : ℕ) → source_at limit symbols ≡ Err (Unexpected left) → IsSource d → symbols ≡ source_text d → ⊥
unexpected_has_none limit symbols d left e is spelled =
    let high = limit + source_depth d + source_height d in
    let again = derived_read high symbols d (record { spelled = spelled; is = is; fits = omega arith; shallow = omega arith }) in
    let raised = source_raise limit high symbols (omega arith) in
    let same : ◌≡◌ {A = Result Derivation Stop} (Err (Unexpected left)) (source_at high symbols) = subst (λ (r : Result Derivation Stop). OrTooDeep r (source_at high symbols)) e raised in
    let off : ◌≡◌ {A = Result Derivation Stop} (Err (Unexpected left)) (Ok d) = same ∙ again in
    absurd cc

-- where reading stops, at most all symbols are left
pub left_within : (limit : ℕ) → 0 < limit → (symbols : List Symbol) (s : Stop) → source_at limit symbols ≡ Err s → left_of s ≤ length symbols
left_within limit lt symbols s e = subst (λ (r : Result Derivation Stop). StopsWithin (length symbols) r) e (source_within limit lt symbols)
