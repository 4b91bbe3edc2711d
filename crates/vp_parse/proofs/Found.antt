-- The public contract of parsing, from the laws of reading and from what reading into lists gives.
use Rattle.std.proofs.Common.{◌≡◌, ℕ, ◌<◌, List, [], length, arith, ◌⊎◌, inl, inr, Result, Ok, Err, refl, sym, ap, ◌∙◌}
use Rattle.std.specs.Prelude.{IfOk}
use Rattle.vp_lex.specs.declared.token.Token.{Token}
use Rattle.vp_parse.specs.declared.error.ParseError.{ParseError}
use Rattle.vp_parse.specs.declared.error.ParseError.TheVariants as error
use Rattle.vp_parse_expr.specs.declared.reading.Stop as stop
use Rattle.vp_parse_expr.specs.declared.reading.Stop.TheVariants as stop_of
use Rattle.vp_source.specs.declared.source.TheConstants.{DEPTH_LIMIT}
use Rattle.vp_source.specs.declared.source.Module as module_of
use Rattle.vp_source.specs.declared.source.Source.{Source}
use Rattle.vp_source.specs.declared.symbol.Symbol.{Symbol}
use Rattle.vp_source.specs.Grammar.{Derivation, IsDerivation}
use Rattle.vp_source.specs.Layout.{Lists, no_parts, put_source, lists_of, IsSourceOf}
use Rattle.vp_parse_expr.specs.Stopping.{Stop, Unexpected, TooDeep, Fails}
use Rattle.vp_parse_expr.specs.laws.Placed.{seen}
use Rattle.vp_parse.specs.Reading.{read}
use Rattle.vp_parse.specs.Placing.{modules_into}
use Rattle.vp_parse.specs.Told.{IsUnderivable, Tells}
use Rattle.vp_parse.proofs.Laws.{read_derives, refused_has_none, unexpected_has_none}
use Rattle.vp_parse.proofs.Placed.{source_seen}

limit_above : 0 < DEPTH_LIMIT
limit_above = omega arith

-- a stop of reading derivations
abbrev stopped : Stop → Result Derivation Stop
stopped s = Err s

read_as : (r : Result Derivation Stop) (x : List module_of.Module × Lists) → seen put_source r ≡ Ok x → (d : Derivation) × (r ≡ Ok d) × (put_source d ≡ x)
read_as (Ok d) x e = (d, refl, cc)
read_as (Err s) x e = absurd cc

stopped_as : (r : Result Derivation Stop) (s : Stop) → seen put_source r ≡ Err s → r ≡ Err s
stopped_as (Ok d) s e = absurd cc
stopped_as (Err t) s e = let h : t ≡ s = cc in ap stopped h

-- where reading into lists stops, reading stops
pub stops_alike : (symbols : List Symbol) (e : stop.Stop) → Fails e (modules_into DEPTH_LIMIT (length symbols) [] no_parts symbols) → Fails e (read symbols)
stops_alike symbols (stop_of.Syntax n) h = stopped_as (read symbols) (Unexpected n) (sym (source_seen DEPTH_LIMIT symbols) ∙ h)
stops_alike symbols (stop_of.LeftOut n) h = stopped_as (read symbols) (Unexpected n) (sym (source_seen DEPTH_LIMIT symbols) ∙ h)
stops_alike symbols (stop_of.TooDeep n) h = stopped_as (read symbols) (TooDeep n) (sym (source_seen DEPTH_LIMIT symbols) ∙ h)
stops_alike symbols stop_of.NoMemory h = tt

-- what says where reading stops says that no derivation spells the symbols
pub tells_none : (tokens : List Token) (symbols : List Symbol) (e : ParseError) → Tells tokens symbols e (read symbols) → IsUnderivable symbols e
tells_none tokens symbols (error.Syntax line) t = λ d is spelled. unexpected_has_none DEPTH_LIMIT symbols d t.0 t.1 is spelled
tells_none tokens symbols (error.LeftOut word line) t = λ d is spelled. unexpected_has_none DEPTH_LIMIT symbols d t.0 t.1 is spelled
tells_none tokens symbols (error.TooDeep line) t = λ d h. refused_has_none DEPTH_LIMIT symbols d (TooDeep t.0) t.1 h
tells_none tokens symbols error.NoMemory t = tt

-- a source with what reading into lists gives is the source of a derivation of the symbols
pub found_by : (text : List ℕ) (tokens : List Token) (symbols : List Symbol) (x : List module_of.Module × Lists) (r : Result Source ParseError)
    → modules_into DEPTH_LIMIT (length symbols) [] no_parts symbols ≡ Ok x
    → IfOk r (λ s. s.text ≡ text) → IfOk r (λ s. s.tokens ≡ tokens) → IfOk r (λ s. s.modules ≡ x.0) → IfOk r (λ s. lists_of s ≡ x.1)
    → IfOk r (λ s. (d : Derivation) × IsDerivation d symbols × IsSourceOf text tokens d s)
found_by text tokens symbols x (Err e) h of_text of_tokens of_modules of_lists = tt
found_by text tokens symbols x (Ok s) h of_text of_tokens of_modules of_lists =
    let f = read_as (read symbols) x (sym (source_seen DEPTH_LIMIT symbols) ∙ h) in
    (f.0, read_derives DEPTH_LIMIT limit_above symbols f.0 f.1, record { of_text = of_text; of_tokens = of_tokens; parts = rw (of_modules, of_lists) (sym f.2) })
