-- A log that is read entry by entry.
use Rattle.std.proofs.Common.{◌≡◌, ◌∙◌, ℕ, zero, suc, ◌+◌, ◌≤◌, Bool, false, List, [], ◌∷◌, ◌++◌, Option, Some, None, drop, length, take, refl, ap, arith, sym, subst}
use Rattle.std.specs.Prelude.{slice_get}
use Rattle.std.specs.List.{cons_option}
use Rattle.std.proofs.lemmas.List.{append_assoc, append-nil, drop_all}
use Rattle.std.proofs.lemmas.List.Sums.{fold-append}
use Rattle.vp_bits.specs.declared.bit.Bit.{Bit}
use Rattle.vp_policy.specs.Users.{member_at}
use Rattle.vp_sim.specs.States as sim
use Rattle.vp_world.specs.Entries.{Entry}
use Rattle.vp_world.specs.History.{IsLegal, after, entry_of, refusal_of, state_after}
use Rattle.vp_world.specs.Worlds.{Opening, State, start}
use Rattle.vp_replay.specs.declared.item.Item.{Item}
use Rattle.vp_replay.specs.declared.item.Projection.{Projection}
use Rattle.vp_audit.specs.Projections.{item_if, item_of, items_from, known_at_first, known_after, projection, values_seen}
use Rattle.vp_audit.specs.Readings.{Continues, LogReader, reading_of}

-- so many entries of a legal log were read: the reading stands where they lead to, and the items so far and those of the entries that remain are all
pub record IsAt (opening : Opening) (u : ℕ) (log : List Entry) (n : ℕ) (items : List Item) (reading : LogReader) : Type 0 where
  pub state : State
  pub known : List Bool
  pub stands : state ≡ state_after opening (take n log)
  pub reads : reading ≡ reading_of u state known
  pub legal : IsLegal opening (take n log) (drop n log)
  pub items_are : items_from opening u (start opening) (known_at_first opening u) log ≡ items ++ items_from opening u state known (drop n log)

-- the next entry
first_by : (log : List Entry) (n : ℕ) (e : Entry) → slice_get log n ≡ Some e → drop n log ≡ e ∷ drop (suc n) log
first_by [] n e h = absurd (cc)
first_by (x ∷ log) zero e h = let same : x ≡ e = cc in ap (λ (y : Entry). y ∷ log) same
first_by (x ∷ log) (suc n) e h = first_by log n e h

pub entry_first : (log : List Entry) (n : ℕ) (e : Entry) → slice_get log n ≡ Some e → drop n log ≡ e ∷ drop (n + 1) log
entry_first log n e h = let next : suc n ≡ n + 1 = omega arith in first_by log n e h ∙ ap (λ k. e ∷ drop k log) next

last_by : (log : List Entry) (n : ℕ) (e : Entry) → slice_get log n ≡ Some e → take (suc n) log ≡ take n log ++ e ∷ []
last_by [] n e h = absurd (cc)
last_by (x ∷ log) zero e h = let same : x ≡ e = cc in ap (λ (y : Entry). y ∷ []) same
last_by (x ∷ log) (suc n) e h = ap (λ ys. x ∷ ys) (last_by log n e h)

entry_last : (log : List Entry) (n : ℕ) (e : Entry) → slice_get log n ≡ Some e → take (n + 1) log ≡ take n log ++ e ∷ []
entry_last log n e h = let next : n + 1 ≡ suc n = omega arith in ap (λ k. take k log) next ∙ last_by log n e h

-- items, and one more if it is any
abbrev pub with_item : List Item → Option Item → List Item
with_item items None = items
with_item items (Some i) = items ++ i ∷ []

one_more : (items : List Item) (i : Option Item) (rest : List Item) → items ++ cons_option i rest ≡ with_item items i ++ rest
one_more items None rest = refl
one_more items (Some i) rest = sym (append_assoc items (i ∷ []) rest)

-- the entry that is read continues its state
pub continues : (opening : Opening) (u : ℕ) (log : List Entry) (n : ℕ) (items : List Item) (reading : LogReader) (at : IsAt opening u log n items reading) (e : Entry) → slice_get log n ≡ Some e
    → Continues opening at.state e
continues opening u log n items reading at e there =
    let (formed, accepted, entry, rest) = subst (IsLegal opening (take n log)) (entry_first log n e there) at.legal in
    record {
      full = false;
      accepted = ap (λ (s : State). refusal_of opening false s e.event) at.stands ∙ accepted;
      entry = entry ∙ ap (λ (s : State). entry_of opening s e.event) (sym at.stands);
    }

-- one more was read
pub next_at : (opening : Opening) (u : ℕ) (log : List Entry) (n : ℕ) (items : List Item) (reading : LogReader) (at : IsAt opening u log n items reading) (e : Entry) → slice_get log n ≡ Some e
    → (item : Option Item) (next : LogReader)
    → item ≡ item_if (item_of u at.state (after opening at.state e.event) at.known (known_after u at.state (after opening at.state e.event) at.known e.event) e)
    → next ≡ reading_of u (after opening at.state e.event) (known_after u at.state (after opening at.state e.event) at.known e.event)
    → IsAt opening u log (n + 1) (with_item items item) next
next_at opening u log n items reading at e there item next is reads =
    let (formed, accepted, entry, rest) = subst (IsLegal opening (take n log)) (entry_first log n e there) at.legal in
    let t = after opening at.state e.event in
    let now = known_after u at.state t at.known e.event in
    record {
      state = t;
      known = now;
      stands = ap (λ (s : State). after opening s e.event) at.stands ∙ sym (fold-append (λ x y. after opening x y.event) (start opening) (take n log) (e ∷ [])) ∙ ap (state_after opening) (sym (entry_last log n e there));
      reads = reads;
      legal = subst (λ (before : List Entry). IsLegal opening before (drop (n + 1) log)) (sym (entry_last log n e there)) rest;
      items_are =
          at.items_are ∙ ap (λ (es : List Entry). items ++ items_from opening u at.state at.known es) (entry_first log n e there)
          ∙ ap (λ (i : Option Item). items ++ cons_option i (items_from opening u t now (drop (n + 1) log))) (sym is)
          ∙ one_more items item (items_from opening u t now (drop (n + 1) log));
    }

-- all were read
pub all_read : (opening : Opening) (u : ℕ) (log : List Entry) (n : ℕ) (items : List Item) (reading : LogReader) → IsAt opening u log n items reading → length log ≤ n
    → items_from opening u (start opening) (known_at_first opening u) log ≡ items
all_read opening u log n items reading at past =
    at.items_are ∙ ap (λ (es : List Entry). items ++ items_from opening u at.state at.known es) (drop_all n log past) ∙ append-nil items

-- what of it goes to him, by the values and the items
pub projection_is : (opening : Opening) (u : ℕ) (log : List Entry) (values : List (Option (List Bit))) (items : List Item)
    → values ≡ values_seen (sim.start opening.design) (member_at opening.policy.members u) (known_at_first opening u)
    → items ≡ items_from opening u (start opening) (known_at_first opening u) log → ◌≡◌ {A = Projection} (record { values = values; items = items }) (projection opening u log)
projection_is opening u log values items seen are =
    ap (λ vs. record { values = vs; items = items }) seen
    ∙ ap (λ (is : List Item). record { values = values_seen (sim.start opening.design) (member_at opening.policy.members u) (known_at_first opening u); items = is }) are
