-- What a session can look up.
use Rattle.std.specs.Prelude.{ℕ, Bool, false, List, slice_get, Option, Some, None, is_some, option_map}
use Rattle.std.specs.Option.{option_map_or}
use Rattle.vp_bits.specs.declared.bit.Bit.{Bit}
use Rattle.vp_pragma.specs.declared.rights.Right.{Right}
use Rattle.vp_pragma.specs.declared.rights.Right.TheVariants as right
use Rattle.vp_elab.specs.declared.object.Kind.{Kind}
use Rattle.vp_elab.specs.Tree.{Tree, has_value}
use Rattle.vp_policy.specs.Denials.{DenialText}
use Rattle.vp_policy.specs.declared.denial.Look.{Look}
use Rattle.vp_policy.specs.declared.denial.Look.TheVariants as look
use Rattle.vp_policy.specs.Users.{Member}
use Rattle.vp_policy.specs.Filter.{denial_at, words_of}
use Rattle.vp_vpi.specs.declared.races.ShownRace.{ShownRace}

-- what is found under a name: an object, a denial in words, or nothing
pub data Lookup : Type 0 where
  Found : ℕ → Lookup
  Denied : DenialText → Lookup
  Absent : Lookup

-- what a session can look up: what is found under a dotted name in a scope, which is an object or contains the top modules; the
-- objects that are listed there, rising, and the numbers of the envelopes that are closed there, rising; why a right on an object
-- is denied; the kind, width, line, name, full name and definition of an object; the value of an object that
-- may be read; whether the design may be run; the time, and whether $finish was executed; the races that are shown, in the order in which they
-- were booked. A world gives it from a simulation, a book of races and a user of its policy; what a user sees gives it from that alone
pub record Observer : Type 0 where
  pub named : (scope : Option ℕ) → List ℕ → Lookup
  pub listed : (scope : Option ℕ) → List ℕ
  pub closed : (scope : Option ℕ) → List ℕ
  pub denied : Right → ℕ → Option DenialText
  pub kind : ℕ → Option Kind
  pub width : ℕ → ℕ
  pub line : ℕ → ℕ
  pub name : ℕ → List ℕ
  pub full_name : ℕ → List ℕ
  pub definition : ℕ → Option (List ℕ)
  pub value : ℕ → Option (List Bit)
  pub may_run : Bool
  pub time : ℕ
  pub finished : Bool
  pub races : List ShownRace

-- what the filter finds under a name, in words
abbrev pub lookup_of : Tree → Look → Lookup
lookup_of tree (look.Found o) = Found o.0
lookup_of tree (look.Denied d) = Denied (words_of tree d)
lookup_of tree look.Absent = Absent

-- an object is there and has a value
abbrev pub is_readable : Option Kind → Bool
is_readable None = false
is_readable (Some k) = has_value k

-- the kind of the object of a number; none where no object is
abbrev pub kind_at : Tree → ℕ → Option Kind
kind_at tree o = option_map (λ node. node.kind) (slice_get tree.nodes o)

-- the width of the object of a number, in bits; 0 where no object is
abbrev pub width_at : Tree → ℕ → ℕ
width_at tree o = option_map_or (λ node. node.width) (slice_get tree.nodes o) 0

-- the line of the object of a number; 0 where no object is
abbrev pub line_at : Tree → ℕ → ℕ
line_at tree o = option_map_or (λ node. node.line) (slice_get tree.nodes o) 0

-- a user may not watch an object
abbrev pub is_watch_denied : Tree → Member → ℕ → Bool
is_watch_denied tree u o = is_some (denial_at tree u right.Watch o)
