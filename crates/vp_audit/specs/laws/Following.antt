-- A user's part, event by event: it is a function of his part before the event and of what of the event goes to him.
use Rattle.std.proofs.Common.{◌≡◌, ◌∙◌, ℕ, Bool, true, false, List, [], ◌∷◌, ◌++◌, Option, Some, None, refl, ap, sym, subst}
use Rattle.std.specs.Prelude.{◌&&◌, fold, if◌then◌else◌, is_none, option_and_then, option_map, slice_get, slice_index_or}
use Rattle.std.specs.List.{cons_option}
use Rattle.std.specs.Option.{option_map_or}
use Rattle.std.proofs.lemmas.List.Sums.{fold-append}
use Rattle.vp_bits.specs.declared.bit.Bit.{Bit}
use Rattle.vp_bits.specs.declared.bit.Bit.TheVariants.{Unknown}
use Rattle.vp_pragma.specs.declared.rights.Right.TheVariants as right
use Rattle.vp_elab.specs.Built.{Elaborated}
use Rattle.vp_elab.specs.Tree.{Node}
use Rattle.vp_policy.specs.Filter.{denial_at, words_of}
use Rattle.vp_policy.specs.Users.{Member, member_at}
use Rattle.vp_policy.specs.View.{known_view, seen_node}
use Rattle.vp_sim.specs.States as sim
use Rattle.vp_expr.specs.declared.change.Change.{Change}
use Rattle.vp_vpi.specs.declared.races.ShownRace.{ShownRace}
use Rattle.vp_vpi.specs.Observers.{is_readable, kind_at}
use Rattle.vp_answer.specs.OpenSessions.{notified_session}
use Rattle.vp_answer.proofs.Lists.{map_same}
use Rattle.vp_world.specs.Entries.{Entry}
use Rattle.vp_world.specs.History.{IsLegal, after, entry_of, state_after}
use Rattle.vp_world.specs.Races.{races_seen}
use Rattle.vp_world.specs.Worlds.{Opening, State, start}
use Rattle.vp_replay.specs.declared.item.OrderItem.{OrderItem}
use Rattle.vp_replay.specs.declared.item.Item.{Item}
use Rattle.vp_replay.specs.declared.item.OwnEvent.{OwnEvent}
use Rattle.vp_replay.specs.Known.{known_index}
use Rattle.vp_replay.specs.Parts.{Part, part_after, reply_of}
use Rattle.vp_replay.specs.Seen.{denied_seen, kind_seen}
use Rattle.vp_replay.specs.laws.Denials.{denied_seen_at, node_seen}
use Rattle.vp_audit.specs.Openings.{IsRight}
use Rattle.vp_audit.specs.Projections.{item_if, item_of, items_from, known_after, known_at_first, own_reply}
use Rattle.vp_audit.specs.UserParts.{IsEventByEvent, IsUserPart, KnowsValues, goes_in, known_from, known_in, part_from, part_of}
use Rattle.vp_audit.specs.laws.Alike.{IsKnown}
use Rattle.vp_audit.specs.laws.Events.{IsPartOf}
use Rattle.vp_audit.specs.laws.Openings.{first_is}
use Rattle.vp_audit.specs.laws.Promise.{event_follows, item_at}

-- ---- what a part has is what a user may know of the world

-- a condition of two that gives something has both, and gives that
both_so : {A : Type 0} (a b : Bool) (x y : A) → ◌≡◌ {A = Option A} (if a && b then Some x else None) (Some y) → (a ≡ true) × (b ≡ true) × (x ≡ y)
both_so true true x y e = (refl, refl, cc)
both_so true false x y e = absurd (cc)
both_so false b x y e = absurd (cc)

-- what is none is none in other words
none_so : {A B : Type 0} (f : A → B) (x : Option A) → is_none x ≡ true → option_map f x ≡ None
none_so f None e = refl
none_so f (Some x) e = absurd (cc)

-- the values that a part has
knows_values : (design : Elaborated) (run : sim.State) → run.design ≡ design → (u : Member) (known : List Bool) (values : List (Option (List Bit))) → IsKnown design run.values u known values
    → KnowsValues run u known values
knows_values design run its u known values is k bits e =
    let o = known_index known k in
    let both = both_so (is_readable (kind_at run.design.tree o)) (is_none (denial_at run.design.tree u right.Read o)) (slice_index_or run.values o (Unknown ∷ [])) bits e in
    let readable = both.0 in
    let undenied = both.1 in
    let value = both.2 in
    let open_to : denied_seen (known_view design u known) right.Read k ≡ None =
    denied_seen_at design u known is.long is.envelopes right.Read k
    ∙ none_so (words_of design.tree) (denial_at design.tree u right.Read o) (ap (λ (d : Elaborated). is_none (denial_at d.tree u right.Read o)) (sym its) ∙ undenied) in
    let kind : kind_seen (known_view design u known) k ≡ kind_at design.tree o =
    ap (option_map (λ n. n.kind)) (node_seen design u known k is.long) ∙ by_node (slice_get design.tree.nodes o) in
    is.are_values k open_to (ap is_readable kind ∙ ap (λ (d : Elaborated). is_readable (kind_at d.tree o)) (sym its) ∙ readable)
    ∙ ap (λ v. Some (Some v)) value
  where
    by_node : (node : Option Node) → option_map (λ n. n.kind) (option_map (seen_node design u) node) ≡ option_map (λ (n : Node). n.kind) node
    by_node None = refl
    by_node (Some node) = refl

-- a part of which the laws speak is a user's part
user_part : (design : Elaborated) (u : ℕ) (s : State) (known : List Bool) (p : Part) → IsPartOf design u s known p → IsUserPart u s known p
user_part design u s known p is = record {
  view = is.view ∙ ap (λ (d : Elaborated). known_view d (member_at s.policy.members u) known) (sym is.its_design);
  opens = is.opens;
  sessions = is.sessions;
  values = knows_values design s.run is.its_design (member_at s.policy.members u) known p.values is.is_known;
  time = is.time;
  finished = is.finished;
  races = is.races ∙ ap (λ (d : Elaborated). races_seen d.tree (member_at s.policy.members u) s.book) (sym is.its_design);
}

-- ---- items

-- an item that is none changes nothing, and another is taken up
item_part : (p : Part) (own_event : Option OwnEvent) (order : Option OrderItem) (change : Option Change) (time : Option ℕ) (finished : Option Bool) (race : Option ShownRace)
    → (let i : Item = record { own_event = own_event; order = order; change = change; time = time; finished = finished; race = race } in
    option_map_or (part_after p) (item_if i) p ≡ part_after p i)
item_part p (Some o) g c t f r = refl
item_part p None (Some g) c t f r = refl
item_part p None None (Some c) t f r = refl
item_part p None None None (Some t) f r = refl
item_part p None None None None (Some f) r = refl
item_part p None None None None None (Some r) = refl
item_part p None None None None None None =
    ap (λ ts. record { view = p.view; opens = p.opens; sessions = ts; values = p.values; time = p.time; finished = p.finished; races = p.races })
    (sym (map_same (notified_session None p.time) (λ t. refl) p.sessions))

-- and without one there is no event of his own
item_reply : (p : Part) (own_event : Option OwnEvent) (order : Option OrderItem) (change : Option Change) (time : Option ℕ) (finished : Option Bool) (race : Option ShownRace)
    → (let i : Item = record { own_event = own_event; order = order; change = change; time = time; finished = finished; race = race } in
    option_and_then (λ (x : Item). option_map (reply_of p) x.own_event) (item_if i) ≡ option_map (reply_of p) own_event)
item_reply p (Some o) g c t f r = refl
item_reply p None (Some g) c t f r = refl
item_reply p None None (Some c) t f r = refl
item_reply p None None None (Some t) f r = refl
item_reply p None None None None (Some f) r = refl
item_reply p None None None None None (Some r) = refl
item_reply p None None None None None None = refl

-- the first of items, if there is one, is taken up first
first_item : (p : Part) (i : Option Item) (items : List Item) → part_from p (cons_option i items) ≡ part_from (option_map_or (part_after p) i p) items
first_item p None items = refl
first_item p (Some i) items = refl

-- items after items
items_after : (p : Part) (xs ys : List Item) → part_from p (xs ++ ys) ≡ part_from (part_from p xs) ys
items_after p [] ys = refl
items_after p (x ∷ xs) ys = items_after (part_after p x) xs ys

-- the first of two lists
first_of : {A : Type 0} (x : Option A) (xs ys : List A) → cons_option x (xs ++ ys) ≡ cons_option x xs ++ ys
first_of None xs ys = refl
first_of (Some x) xs ys = refl

-- what of one entry more goes to a user
items_more : (opening : Opening) (u : ℕ) (s : State) (known : List Bool) (log : List Entry) (e : Entry)
    → items_from opening u s known (log ++ e ∷ [])
    ≡ items_from opening u s known log ++ cons_option (goes_in opening u (fold (λ x y. after opening x y.event) s log) (known_from opening u s known log) e) []
items_more opening u s known [] e = refl
items_more opening u s known (f ∷ log) e =
    let t = after opening s f.event in
    let now = known_after u s t known f.event in
    ap (cons_option (goes_in opening u s known f)) (items_more opening u t now log e)
    ∙ first_of (goes_in opening u s known f) (items_from opening u t now log) (cons_option (goes_in opening u (fold (λ x y. after opening x y.event) t log) (known_from opening u t now log) e) [])

-- what a user knows after one entry more
known_more : (opening : Opening) (u : ℕ) (s : State) (known : List Bool) (log : List Entry) (e : Entry)
    → known_from opening u s known (log ++ e ∷ [])
    ≡ (let t : State = fold (λ x y. after opening x y.event) s log in known_after u t (after opening t e.event) (known_from opening u s known log) e.event)
known_more opening u s known [] e = refl
known_more opening u s known (f ∷ log) e =
    known_more opening u (after opening s f.event) (known_after u s (after opening s f.event) known f.event) log e

-- ---- from a state on

-- a legal log is legal up to each of its entries, and the entry after that is what the world writes
legal_cut : (opening : Opening) (before log : List Entry) (e : Entry) → IsLegal opening before (log ++ e ∷ [])
    → IsLegal opening before log × (e ≡ entry_of opening (fold (λ x y. after opening x y.event) (state_after opening before) log) e.event)
legal_cut opening before [] e (formed, accepted, entry, rest) = (tt, entry)
legal_cut opening before (f ∷ log) e (formed, accepted, entry, rest) =
    let next = legal_cut opening (before ++ f ∷ []) log e rest in
    let state : state_after opening (before ++ f ∷ []) ≡ after opening (state_after opening before) f.event = fold-append (λ x y. after opening x y.event) (start opening) before (f ∷ []) in
    ((formed, accepted, entry, next.0), subst (λ (x : State). e ≡ entry_of opening (fold (λ y z. after opening y z.event) x log) e.event) state next.1)

-- the part after a log is the part of the state after it
parts_follow : (opening : Opening) (design : Elaborated) (u : ℕ) (before log : List Entry) (s : State) (known : List Bool) (p : Part) → s ≡ state_after opening before → IsPartOf design u s known p
    → IsLegal opening before log
    → IsPartOf design u (fold (λ x y. after opening x y.event) s log) (known_from opening u s known log) (part_from p (items_from opening u s known log))
parts_follow opening design u before [] s known p at is legal = is
parts_follow opening design u before (e ∷ log) s known p at is (formed, accepted, entry, rest) =
    let t = after opening s e.event in
    let now = known_after u s t known e.event in
    let is_entry : e ≡ entry_of opening s e.event = entry ∙ ap (λ x. entry_of opening x e.event) (sym at) in
    let i = item_of u s t known now e in
    let item : i ≡ item_at opening u s known e.event = ap (item_of u s t known now) is_entry in
    let next : t ≡ state_after opening (before ++ e ∷ []) =
    ap (λ x. after opening x e.event) at ∙ sym (fold-append (λ x y. after opening x y.event) (start opening) before (e ∷ [])) in
    let following = event_follows opening design u s known p is e.event in
    subst (IsPartOf design u (fold (λ x y. after opening x y.event) t log) (known_from opening u t now log))
    (sym (first_item p (item_if i) (items_from opening u t now log)
    ∙ ap (λ q. part_from q (items_from opening u t now log)) (item_part p i.own_event i.order i.change i.time i.finished i.race ∙ ap (part_after p) item)))
    (parts_follow opening design u (before ++ e ∷ []) log t now (part_after p (item_at opening u s known e.event)) next following.part rest)

-- ---- the law

-- for every opening of a right design with a policy that fits it, every user, every legal log and each entry of it
pub event_by_event : (opening : Opening) → IsRight opening → (u : ℕ) (log : List Entry) (e : Entry) → IsLegal opening [] (log ++ e ∷ []) → IsEventByEvent opening u log e
event_by_event opening right u log e legal =
    let cut = legal_cut opening [] log e legal in
    let first = first_is opening right u in
    let s = state_after opening log in
    let known = known_in opening u log in
    let p = part_of opening u log in
    let is : IsPartOf opening.design u s known p = parts_follow opening opening.design u [] log (start opening) (known_at_first opening u) _ refl first cut.0 in
    let t = after opening s e.event in
    let now = known_after u s t known e.event in
    let i = item_of u s t known now e in
    let item : i ≡ item_at opening u s known e.event = ap (item_of u s t known now) cut.1 in
    let comes = event_follows opening opening.design u s known p is e.event in
    record {
      part = user_part opening.design u s known p is;
      following =
          ap (part_from _) (items_more opening u (start opening) (known_at_first opening u) log e)
          ∙ items_after _ (items_from opening u (start opening) (known_at_first opening u) log) (cons_option (item_if i) [])
          ∙ first_item p (item_if i) [];
      reply =
          ap (own_reply u) cut.1 ∙ comes.replied
          ∙ ap (λ (x : Item). option_map (reply_of p) x.own_event) (sym item)
          ∙ sym (item_reply p i.own_event i.order i.change i.time i.finished i.race);
      next_part =
          user_part opening.design u (state_after opening (log ++ e ∷ [])) (known_in opening u (log ++ e ∷ [])) (part_of opening u (log ++ e ∷ []))
          (parts_follow opening opening.design u [] (log ++ e ∷ []) (start opening) (known_at_first opening u) _ refl first legal);
    }
