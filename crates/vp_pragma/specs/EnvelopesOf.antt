-- The envelopes of a text: what its pragmas do, one after the other.
use Rattle.std.specs.Prelude.{◌≡◌, ℕ, ◌+◌, ◌==◌, ◌&&◌, not, Bool, true, false, if◌then◌else◌, nat_le, List, [], ◌∷◌, ◌++◌, length, Option, Some, None, Result, Ok, Err}
use Rattle.std.specs.Result.{result_err}
use Rattle.vp_lex.specs.declared.token.Token.{Token}
use Rattle.vp_lex.specs.Strings.{string_value}
use Rattle.vp_lex.specs.Texts.{text_of}
use Rattle.vp_pragma.specs.declared.pragma_effect.PragmaEffect.{PragmaEffect}
use Rattle.vp_pragma.specs.declared.pragma_effect.PragmaEffect.TheVariants.{Begins, Ends, Names, Forgets, Views, Encrypted, Bad}
use Rattle.vp_pragma.specs.declared.pragma_effect.ViewportStrings.{ViewportStrings}
use Rattle.vp_pragma.specs.declared.envelope.Envelope.{Envelope}
use Rattle.vp_pragma.specs.declared.error.PragmaError.{PragmaError}
use Rattle.vp_pragma.specs.declared.error.PragmaError.TheVariants as error
use Rattle.vp_text.specs.Texts.{parts}
use Rattle.vp_lex.specs.Pieces.{is_word}
use Rattle.vp_pragma.specs.Access.{access_of}
use Rattle.vp_pragma.specs.Envelopes.{Protection, Viewport}
use Rattle.vp_pragma.specs.Rights.{RightSet}
use Rattle.vp_pragma.specs.Surroundings.{is_free, module_at}
use Rattle.vp_text.specs.Refusals.{MayExplain}
use Rattle.vp_pragma.specs.Pragmas.{LinesDo, lines_of}
use Rattle.vp_pragma.specs.TokenClasses.{Placed}

-- an envelope that has begun: its place, its line, the module where it began, and its author
pub record Begun : Type 0 where
  pub place : ℕ
  pub line : ℕ
  pub inside : Option ℕ
  pub author : List ℕ

-- what has been read: the envelopes that have ended, the one that has begun, the author in force, and the viewports
pub record Progress : Type 0 where
  pub ended : List Envelope
  pub begun : Option Begun
  pub author : List ℕ
  pub viewports : List Viewport

-- nothing has been read
abbrev pub at_start : Progress
at_start = record { ended = []; begun = None; author = []; viewports = [] }

-- two places stand in one module, or both outside of all modules
abbrev pub same_module : Option ℕ → Option ℕ → Bool
same_module None None = true
same_module None (Some m) = false
same_module (Some m) None = false
same_module (Some m) (Some n) = m == n

-- an envelope begins: not within one, at a free place, and as one of at most 255, tested in this order (profile)
abbrev pub begin_at : List Token → Progress → Placed → ℕ → Option Begun → Result Progress PragmaError
begin_at tokens r directive place (Some b) = Err (error.NestedBegin directive.1.line)
begin_at tokens r directive place None =
    if not (is_free tokens directive.0) then Err (error.Unbalanced directive.1.line)
    else (if nat_le 255 (length r.ended) then Err (error.TooMany directive.1.line)
    else Ok (record r {
      begun =
          Some (record {
            place = place;
            line = directive.1.line;
            inside = module_at tokens directive.0;
            author = r.author;
          });
    }))

-- an envelope ends: one that has begun, at a free place and in the module where it began, tested in this order (profile)
abbrev pub end_at : List Token → Progress → Placed → ℕ → Option Begun → Result Progress PragmaError
end_at tokens r directive place None = Err (error.EndWithoutBegin directive.1.line)
end_at tokens r directive place (Some b) =
    if is_free tokens directive.0 && same_module (module_at tokens directive.0) b.inside
    then Ok (record r {
      ended = r.ended ++ record { begin = b.place; end = place; author = b.author } ∷ [];
      begun = None;
    })
    else Err (error.Unbalanced directive.1.line)

-- the item that a viewport's object names, perhaps by its module: one name, or two with a dot between them (profile)
abbrev pub item_named : List (List ℕ) → Option (Option (List ℕ) × List ℕ)
item_named (item ∷ []) = if is_word item then Some (None, item) else None
item_named (m ∷ item ∷ []) = if is_word m && is_word item then Some (Some m, item) else None
item_named _ = None

-- a viewport opens these rights on an item, unless its access string names none
abbrev pub with_rights : Progress → (line : ℕ) → Option (List ℕ) × List ℕ → Option RightSet → Result Progress PragmaError
with_rights r line item None = Err (error.BadAccess line)
with_rights r line item (Some rights) =
    Ok (record r {
      viewports =
          r.viewports
          ++ record {
            envelope = length r.ended + 1;
            in_module = item.0;
            item = item.1;
            rights = rights;
            line = line;
          }
          ∷ [];
    })

-- a viewport is on an item, unless its object names none
abbrev pub with_item : List ℕ → Progress → (line : ℕ) → (access : List ℕ) → Option (Option (List ℕ) × List ℕ) → Result Progress PragmaError
with_item text r line access None = Err (error.BadPragma line)
with_item text r line access (Some item) = with_rights r line item (access_of access)

-- the strings of a viewport name an item and rights, tested in this order (profile)
abbrev pub viewed : List ℕ → Progress → (line : ℕ) → ViewportStrings → Result Progress PragmaError
viewed text r line view =
    with_item text r line (string_value (text_of text view.access)) (item_named (parts 46 (string_value (text_of text view.object))))

-- a viewport stands in an envelope, and says an object and an access, tested in this order (profile)
abbrev pub view_at : List ℕ → Progress → (line : ℕ) → Option ViewportStrings → Option Begun → Result Progress PragmaError
view_at text r line view None = Err (error.ViewportOutside line)
view_at text r line None (Some b) = Err (error.BadPragma line)
view_at text r line (Some view) (Some b) = viewed text r line view

-- what a deed on the line of a directive makes of what has been read, or the first refusal of it that holds
abbrev pub after_effect : List ℕ → List Token → Progress → Placed → PragmaEffect → Result Progress PragmaError
after_effect text tokens r directive (Begins place) = begin_at tokens r directive place r.begun
after_effect text tokens r directive (Ends place) = end_at tokens r directive place r.begun
after_effect text tokens r directive (Names string) = Ok (record r { author = string_value (text_of text string) })
after_effect text tokens r directive Forgets = Ok (record r { author = [] })
after_effect text tokens r directive (Views view) = view_at text r directive.1.line view r.begun
after_effect text tokens r directive Encrypted = Err (error.NeedsDecryption directive.1.line)
after_effect text tokens r directive Bad = Err (error.BadPragma directive.1.line)

-- the same of deeds one after the other, up to the first refusal
abbrev pub after_effects : List ℕ → List Token → Result Progress PragmaError → List (Placed × PragmaEffect) → Result Progress PragmaError
after_effects text tokens (Err e) effects = Err e
after_effects text tokens (Ok r) [] = Ok r
after_effects text tokens (Ok r) (d ∷ ds) = after_effects text tokens (after_effect text tokens r d.0 d.1) ds

-- the envelopes at the end of a text: none may be left open (profile)
abbrev pub ended_all : Progress → Option Begun → Result Protection PragmaError
ended_all r None = Ok (record { envelopes = r.ended; viewports = r.viewports })
ended_all r (Some b) = Err (error.OpenEnvelope b.line)

-- the envelopes at the end of a text that was read, or the refusal that ended the reading
abbrev pub envelopes_after : Result Progress PragmaError → Result Protection PragmaError
envelopes_after (Err e) = Err e
envelopes_after (Ok r) = ended_all r r.begun

-- the envelopes of a text and its viewports, or the first fault of its pragmas: what its lines do, one after the other; an envelope
-- left open is reported last (clause 28, profile)
pub record AreEnvelopes (text : List ℕ) (tokens : List Token) (due : Result Protection PragmaError) : Type 0 where
  pub effects : List (Placed × PragmaEffect)
  pub done : LinesDo text (lines_of text tokens) effects
  pub are : due ≡ envelopes_after (after_effects text tokens (Ok at_start) effects)

-- an error is the first fault of the pragmas of a text; out of memory may be reported at any time
abbrev pub IsFaultOf : List ℕ → List Token → PragmaError → Type 0
IsFaultOf text tokens e = (due : Result Protection PragmaError) × AreEnvelopes text tokens due × MayExplain error.NoMemory (result_err due) e
