-- Two lists of future events that are gone through side by side, each in its chunks.
use Rattle.std.proofs.Common.{◌≡◌, ◌∙◌, ℕ, ◌<◌, List, [], inl, inr, arith, length, get_or, ap, sym}
use Rattle.std.proofs.lemmas.Bool.{cases_lt}
use Rattle.std.proofs.lemmas.List.{get_or_read, take_all}
use Rattle.std.proofs.lemmas.List.Concat.{get_or-flat_map}
use Rattle.vp_strata.specs.declared.event.Timed.{Timed}
use Rattle.vp_text.specs.Lists.{joined}
use Rattle.vp_strata.specs.Chunks.{position}

-- a place that stands after fewer events than there are is in a chunk
pub number_within : (ls : List (List Timed)) (number place index : ℕ) → position ls number place ≡ index → index < length (joined ls) → number < length ls
number_within ls number place index at less =
    elim (cases_lt number (length ls)) [
      | inl h ↦ h
      | inr h ↦ (let all = ap (λ cs. length (joined cs)) (take_all number ls h) in absurd (omega (arith, at, less, all)))
    ]

-- the event at a place of a chunk
pub event_at : (ls : List (List Timed)) (number place : ℕ) (d : Timed) → number < length ls → place < length (get_or ls number []) → get_or (joined ls) (position ls number place) d ≡ get_or (get_or ls number []) place d
event_at ls number place d within fits = get_or-flat_map (λ c. c) ls number place [] d within fits

-- the same, at a place after so many, by the events of its chunk
pub event_after : (ls : List (List Timed)) (es : List Timed) (number place index : ℕ) (e d : Timed) → position ls number place ≡ index → index < length (joined ls) → (number < length ls → place < length (get_or ls number [])) → es ≡ get_or ls number [] → e ≡ get_or es place e
    → get_or (joined ls) index d ≡ e
event_after ls es number place index e d at less fits is here =
    let within = number_within ls number place index at less in
    let read : e ≡ get_or es place d = get_or_read es place e (omega (arith, fits within, ap length is)) here d in
    ap (λ n. get_or (joined ls) n d) (sym at) ∙ event_at ls number place d within (fits within) ∙ ap (λ c. get_or c place d) (sym is) ∙ sym read
