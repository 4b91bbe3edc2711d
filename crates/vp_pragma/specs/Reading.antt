-- What is kept while the pragmas of a text are read.
use Rattle.std.specs.Prelude.{◌≡◌, ℕ, ◌+◌, ◌≤◌, if◌then◌else◌, List, length, map, Option, option_map, is_some, Result, Ok, drop, IfSome}
use Rattle.std.specs.List.{enumerate_from}
use Rattle.vp_lex.specs.declared.token.TheConstants.{TEXT_LIMIT}
use Rattle.vp_lex.specs.declared.token.Token.{Token}
use Rattle.vp_pragma.specs.declared.pragma_effect.PragmaEffect.{PragmaEffect}
use Rattle.vp_pragma.specs.declared.error.PragmaError.{PragmaError}
use Rattle.vp_pragma.specs.declared.line.Rest.{Rest}
use Rattle.vp_pragma.specs.declared.reading.Before.{Before}
use Rattle.vp_pragma.specs.declared.reading.Line.{Line}
use Rattle.vp_pragma.specs.declared.reading.Open.{Open}
use Rattle.vp_pragma.specs.declared.reading.Reading.{Reading}
use Rattle.vp_pragma.specs.Surroundings.{CountsUpTo, around_of, is_before_else, is_free, kinds_before, module_at}
use Rattle.vp_pragma.specs.LineReading.{effects_after}
use Rattle.vp_pragma.specs.TokenClasses.{Placed}
use Rattle.vp_pragma.specs.declared.viewport.Viewport as declared
use Rattle.vp_pragma.specs.declared.envelope.Envelope.{Envelope}
use Rattle.vp_pragma.specs.Envelopes.{Protection, Viewport, object_of}
use Rattle.vp_pragma.specs.Rights.{set_of}
use Rattle.vp_pragma.specs.EnvelopesOf.{Begun, Progress, after_effect, after_effects}

-- the tokens of a line that are left, with their places
abbrev pub placed : Rest → List Placed
placed rest = enumerate_from rest.at rest.tokens.now

-- a text has their places
abbrev pub HasPlaces : Rest → Type 0
HasPlaces rest = rest.at + length rest.tokens.now ≤ TEXT_LIMIT

-- ---- what has been read

-- the envelope that has begun
abbrev pub begun_of : Open → Begun
begun_of b = record { place = b.begin; line = b.line; inside = b.«module»; author = b.author }

-- a viewport that has been read
abbrev pub viewport_of : declared.Viewport → Viewport
viewport_of v = record {
  envelope = v.envelope;
  in_module = v.«module»;
  item = v.item;
  rights = set_of v.rights;
  line = v.line;
}

-- envelopes and viewports that have been read
abbrev pub protection_of : List Envelope → List declared.Viewport → Protection
protection_of envelopes viewports = record { envelopes = envelopes; viewports = map viewport_of viewports }

-- the objects that viewports name, as they are written
abbrev pub objects_of : List declared.Viewport → List (List ℕ)
objects_of viewports = map (λ v. object_of (viewport_of v)) viewports

-- what a reading of a text has come to
abbrev pub progress_of : Reading → Progress
progress_of reading = record {
  ended = reading.closed.items;
  begun = option_map begun_of reading.open;
  author = reading.author;
  viewports = map viewport_of reading.viewports.items;
}

-- the envelopes that are closed, and the one that is open, are at most 255 (profile)
abbrev pub HasRoom : Reading → Type 0
HasRoom reading = length reading.closed.items + (if is_some reading.open then 1 else 0) ≤ 255

-- ---- a line

-- what stands around a line, as its directive's place says
abbrev pub IsLine : Line → Type 0
IsLine line = (line.free ≡ is_free line.tokens.now line.place) × (line.«module» ≡ module_at line.tokens.now line.place)

-- the directive of a line, with its place
abbrev pub directive_of : Line → Placed
directive_of line = (line.place, line.directive)

-- what a deed on a line makes of a reading
abbrev pub after_one : Line → Reading → PragmaEffect → Result Progress PragmaError
after_one line reading effect =
    after_effect line.text.now line.tokens.now (progress_of reading) (directive_of line) effect

-- what deeds on a line make of a reading
abbrev pub after_all : Line → Reading → List PragmaEffect → Result Progress PragmaError
after_all line reading effects =
    after_effects line.text.now line.tokens.now (Ok (progress_of reading)) (map (λ effect. (directive_of line, effect)) effects)

-- ---- a text

-- what stands before a place of a text: what is open there, and on the line of a pragma whether an else follows
abbrev pub IsBefore : List Token → ℕ → Before → Type 0
IsBefore tokens place before =
    (before.around ≡ around_of (kinds_before place tokens)) × CountsUpTo place before.around
    × IfSome before.line (λ _. before.before_else ≡ is_before_else tokens place)

-- what the tokens from a place on make of a reading, where the token before them stands on this pragma's line or on none
abbrev pub after_left : List ℕ → List Token → Reading → Option ℕ → ℕ → Result Progress PragmaError
after_left text tokens reading before place =
    after_effects text tokens (Ok (progress_of reading)) (effects_after text before place (drop place tokens))
