-- Envelopes by their numbers, and viewports.
use Rattle.std.specs.Prelude.{ℕ, zero, suc, ◌&&◌, Bool, nat_lt, if◌then◌else◌, List, [], ◌∷◌, ◌++◌, Option, slice_get, codes}
use Rattle.std.specs.Option.{option_map_or}
use Rattle.vp_pragma.specs.declared.envelope.Envelope.{Envelope}
use Rattle.vp_pragma.specs.Rights.{RightSet}

-- the author of the envelope of a number; empty for 0, the open text (profile)
abbrev pub author_of : List Envelope → ℕ → List ℕ
author_of envelopes zero = []
author_of envelopes (suc n) = option_map_or (λ e. e.author) (slice_get envelopes n) []

-- a place lies after an envelope's begin and before its end
abbrev pub holds : ℕ → Envelope → Bool
holds place envelope = nat_lt envelope.begin place && nat_lt place envelope.end

-- a later number, or this one if there is none
abbrev pub or_later : ℕ → ℕ → ℕ
or_later number zero = number
or_later number (suc later) = suc later

-- the number of the last of these envelopes that holds a place, where the first has number n; 0 if none does
abbrev pub last_holding : ℕ → List Envelope → ℕ → ℕ
last_holding n [] place = 0
last_holding n (e ∷ es) place = or_later (if holds place e then n else 0) (last_holding (suc n) es place)

-- the number of the envelope of a place: of the last begin before it whose end is after it, else 0 (clause 28, profile)
abbrev pub envelope_at : List Envelope → ℕ → ℕ
envelope_at envelopes place = last_holding 1 envelopes place

-- a viewport: in which envelope it stands, the item that it opens, by module where that is named, the rights, and the line on which
-- it stands (profile)
pub record Viewport : Type 0 where
  pub envelope : ℕ
  pub in_module : Option (List ℕ)
  pub item : List ℕ
  pub rights : RightSet
  pub line : ℕ

-- the object that a viewport names: an item, after its module and a dot where that is named (profile)
abbrev pub object_of : Viewport → List ℕ
object_of v = option_map_or (λ m. m ++ (codes "." ++ v.item)) v.in_module v.item

-- the envelopes of a text, in the order of their begin, and its viewports, in the order of the text
pub record Protection : Type 0 where
  pub envelopes : List Envelope
  pub viewports : List Viewport
