-- What a viewport within an envelope makes of what has been read.
use Rattle.std.proofs.Common.{◌≡◌, ◌∙◌, ℕ, ◌+◌, ◌++◌, true, List, [], ◌∷◌, length, map, Option, Some, None, Result, Ok, sym, ap}
use Rattle.std.proofs.lemmas.Bool.{false≢true}
use Rattle.std.proofs.lemmas.List.{map-append}
use Rattle.std.specs.Prelude.{is_some, option_map}
use Rattle.vp_text.specs.Texts.{parts}
use Rattle.vp_lex.specs.Strings.{string_value}
use Rattle.vp_lex.specs.Texts.{text_of}
use Rattle.vp_pragma.specs.declared.pragma_effect.ViewportStrings.{ViewportStrings}
use Rattle.vp_pragma.specs.declared.error.PragmaError.{PragmaError}
use Rattle.vp_pragma.specs.declared.reading.Open.{Open}
use Rattle.vp_pragma.specs.declared.reading.Reading.{Reading}
use Rattle.vp_pragma.specs.declared.viewport.Viewport as declared
use Rattle.vp_pragma.specs.Envelopes.{Viewport}
use Rattle.vp_pragma.specs.EnvelopesOf.{Progress, view_at, viewed}
use Rattle.vp_pragma.specs.Reading.{begun_of, progress_of, viewport_of}

pub in_envelope : (text : List ℕ) (r : Progress) (line : ℕ) (found : Option ViewportStrings) (view : ViewportStrings) (begun : Option Open) → found ≡ Some view → is_some begun ≡ true → view_at text r line found (option_map begun_of begun) ≡ viewed text r line view
in_envelope text r line found view None h k = absurd (false≢true k)
in_envelope text r line found view (Some b) h k = ap (λ (v : Option ViewportStrings). view_at text r line v (Some (begun_of b))) h

pub one_more : (text : List ℕ) (line envelope : ℕ) (reading : Reading) (v : declared.Viewport) (items : List declared.Viewport) (view : ViewportStrings) → ((r : Progress) → length r.ended + 1 ≡ envelope → viewed text r line view ≡ Ok (record r { viewports = r.viewports ++ viewport_of v ∷ [] })) → length reading.closed.items + 1 ≡ envelope → items ≡ reading.viewports.items ++ v ∷ [] → viewed text (progress_of reading) line view ≡ Ok (record (progress_of reading) { viewports = map viewport_of items })
one_more text line envelope reading v items view h e is =
    h (progress_of reading) e
    ∙ ap (λ (vs : List Viewport). Ok (record (progress_of reading) { viewports = vs }))
    (sym (ap (map viewport_of) is ∙ map-append viewport_of reading.viewports.items (v ∷ [])))
