-- The promise: what a user was shown in a log is a function of what he sees at its opening and of what of it goes to him.
use Rattle.std.proofs.Common.{◌≡◌, ℕ, Bool, List, [], ◌∷◌, ◌++◌, Option, Some, None, refl, ap, sym, ◌∙◌}
use Rattle.std.specs.Prelude.{option_map}
use Rattle.std.specs.List.{cons_option}
use Rattle.std.proofs.lemmas.List.Sums.{fold-append}
use Rattle.vp_elab.specs.Built.{Elaborated}
use Rattle.vp_policy.specs.Users.{member_at}
use Rattle.vp_policy.specs.View.{View, view_of}
use Rattle.vp_expr.specs.declared.change.Change.{Change}
use Rattle.vp_vpi.specs.declared.races.ShownRace.{ShownRace}
use Rattle.vp_world.specs.Entries.{Entry}
use Rattle.vp_answer.specs.OpenSessions.{notified_session}
use Rattle.vp_world.specs.History.{IsLegal, after, entry_of, state_after}
use Rattle.vp_world.specs.Worlds.{Opening, State, start}
use Rattle.vp_replay.specs.declared.item.OrderItem.{OrderItem}
use Rattle.vp_replay.specs.declared.item.Item.{Item}
use Rattle.vp_replay.specs.declared.item.OwnEvent.{OwnEvent}
use Rattle.vp_replay.specs.Parts.{Part, part_after, reply_of, replies_from}
use Rattle.vp_replay.specs.declared.item.Projection.{Projection}
use Rattle.vp_replay.specs.Parts.{first_part}
use Rattle.vp_audit.specs.Projections.{item_if, item_of, items_from, known_at_first, known_after, own_reply, projection, replies_of}
use Rattle.vp_answer.proofs.Lists.{map_same}
use Rattle.vp_audit.specs.laws.Events.{IsPartOf}
use Rattle.vp_audit.specs.Openings.{IsRight}
use Rattle.vp_audit.specs.laws.Openings.{first_is}
use Rattle.vp_audit.specs.laws.Promise.{event_follows, item_at}

-- an item that is none changes nothing, and another is shown
item_replies : (p : Part) (own_event : Option OwnEvent) (order : Option OrderItem) (change : Option Change) (time : Option ℕ) (finished : Option Bool) (race : Option ShownRace) (rest : List Item)
    → (let i : Item = record { own_event = own_event; order = order; change = change; time = time; finished = finished; race = race } in
    replies_from p (cons_option (item_if i) rest) ≡ cons_option (option_map (reply_of p) i.own_event) (replies_from (part_after p i) rest))
item_replies p (Some o) g c t f r rest = refl
item_replies p None (Some g) c t f r rest = refl
item_replies p None None (Some c) t f r rest = refl
item_replies p None None None (Some t) f r rest = refl
item_replies p None None None None (Some f) r rest = refl
item_replies p None None None None None (Some r) rest = refl
item_replies p None None None None None None rest =
    ap (λ ts. replies_from (record { view = p.view; opens = p.opens; sessions = ts; values = p.values; time = p.time; finished = p.finished; races = p.races }) rest)
    (sym (map_same (notified_session None p.time) (λ t. refl) p.sessions))

-- from a state on
replies_follow : (opening : Opening) (design : Elaborated) (u : ℕ) (before log : List Entry) (s : State) (known : List Bool) (p : Part) → s ≡ state_after opening before → IsPartOf design u s known p
    → IsLegal opening before log → replies_from p (items_from opening u s known log) ≡ replies_of u log
replies_follow opening design u before [] s known p at is legal = refl
replies_follow opening design u before (e ∷ log) s known p at is (formed, accepted, entry, rest) =
    let t = after opening s e.event in
    let now = known_after u s t known e.event in
    let is_entry : e ≡ entry_of opening s e.event = entry ∙ ap (λ x. entry_of opening x e.event) (sym at) in
    let i = item_of u s t known now e in
    let item : i ≡ item_at opening u s known e.event = ap (item_of u s t known now) is_entry in
    let next_part = event_follows opening design u s known p is e.event in
    let next : t ≡ state_after opening (before ++ e ∷ []) =
    ap (λ x. after opening x e.event) at ∙ sym (fold-append (λ x y. after opening x y.event) (start opening) before (e ∷ [])) in
    item_replies p i.own_event i.order i.change i.time i.finished i.race (items_from opening u t now log)
    ∙ ap (λ x. cons_option (option_map (reply_of p) x.own_event) (replies_from (part_after p x) (items_from opening u t now log))) item
    ∙ ap (λ x. cons_option x (replies_from (part_after p (item_at opening u s known e.event)) (items_from opening u t now log))) (sym (ap (own_reply u) is_entry ∙ next_part.replied))
    ∙ ap (cons_option (own_reply u e)) (replies_follow opening design u (before ++ e ∷ []) log t now (part_after p (item_at opening u s known e.event)) next next_part.part rest)

-- for every opening of a right design with a policy that fits it, every user and every legal log: the replies to his own events are those that come of
-- what he sees at the opening and of what of the log goes to him
pub replies_are : (opening : Opening) → IsRight opening → (u : ℕ) (log : List Entry) → IsLegal opening [] log
    → replies_from (first_part (view_of opening.design (member_at opening.policy.members u)) (projection opening u log).values) (projection opening u log).items ≡ replies_of u log
replies_are opening right u log legal =
    replies_follow opening opening.design u [] log (start opening) (known_at_first opening u)
    (first_part (view_of opening.design (member_at opening.policy.members u)) (projection opening u log).values) refl (first_is opening right u) legal

-- so two users of two worlds, who see the same at the openings and to whom the same goes of the logs, are shown the same
pub replies_alike : (one other : Opening) → IsRight one → IsRight other → (u v : ℕ) (first second : List Entry) → IsLegal one [] first → IsLegal other [] second
    → view_of one.design (member_at one.policy.members u) ≡ view_of other.design (member_at other.policy.members v) → projection one u first ≡ projection other v second
    → replies_of u first ≡ replies_of v second
replies_alike one other right right' u v first second legal legal' same_view same_projection =
    sym (replies_are one right u first legal)
    ∙ ap (λ (w : View). replies_from (first_part w (projection one u first).values) (projection one u first).items) same_view
    ∙ ap (λ (q : Projection). replies_from (first_part (view_of other.design (member_at other.policy.members v)) q.values) q.items) same_projection
    ∙ replies_are other right' v second legal'
