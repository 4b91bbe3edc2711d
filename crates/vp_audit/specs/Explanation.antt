-- What a user was shown, and what came to him, as a text (profile).
use Rattle.std.specs.Prelude.{ℕ, ◌+◌, Bool, false, true, List, [], ◌∷◌, ◌++◌, drop, map, reverse, codes, decimal, Option, Some, None}
use Rattle.std.specs.Option.{option_map_or}
use Rattle.vp_bits.specs.declared.bit.Bit.{Bit}
use Rattle.vp_bits.specs.Digits.{digit_of}
use Rattle.vp_elab.specs.Tree.{dotted}
use Rattle.vp_policy.specs.Users.{member_at}
use Rattle.vp_policy.specs.View.{View, view_of}
use Rattle.vp_expr.specs.declared.change.Change.{Change}
use Rattle.vp_vpi.specs.declared.races.ShownRace.{ShownRace}
use Rattle.vp_world.specs.Entries.{Entry}
use Rattle.vp_world.specs.Worlds.{Opening}
use Rattle.vp_replay.specs.Seen.{names_seen}
use Rattle.vp_replay.specs.declared.explaining.Explained.{Explained}
use Rattle.vp_replay.specs.declared.item.GrantItem.{GrantItem}
use Rattle.vp_replay.specs.declared.item.Item.{Item}
use Rattle.vp_replay.specs.declared.item.OrderItem.{OrderItem}
use Rattle.vp_replay.specs.declared.item.OrderItem.TheVariants.{End, Grant}
use Rattle.vp_replay.specs.declared.item.OwnEvent.{OwnEvent}
use Rattle.vp_replay.specs.declared.item.Projection.{Projection}
use Rattle.vp_replay.specs.Explained.{explained_from}
use Rattle.vp_replay.specs.Parts.{first_part}
use Rattle.vp_audit.specs.Projections.{projection}
use Rattle.vp_wire.specs.Lines.{line_of}
use Rattle.vp_replay.specs.Outline as outline
use Rattle.vp_replay.specs.Outline.{access_text, words_text}

-- the line for what came with the item of a number: the number, and these words
abbrev pub item_line : (number : ℕ) → List (List ℕ) → List ℕ
item_line number words = outline.line_of (decimal number ∷ words)

-- ---- what he was shown

-- the words for the item with which a value came; none where nothing came so
abbrev pub origin_words : Option ℕ → List (List ℕ)
origin_words None = []
origin_words (Some number) = codes "of" ∷ decimal number ∷ []

-- the line for what he was shown: the number of the item, that with which the value came, if it is one, and the line of the reply
abbrev pub explained_line : Explained → List ℕ
explained_line t = decimal t.item ++ (words_text (codes "told" ∷ origin_words t.brought) ++ 32 ∷ line_of t.reply)

-- the line for an event of his own, by what he was shown from there on
abbrev pub own_line : Option OwnEvent → List Explained → List ℕ
own_line None told = []
own_line (Some own_event) [] = []
own_line (Some own_event) (t ∷ told) = explained_line t

-- what he was shown after an item
abbrev pub explained_after : Option OwnEvent → List Explained → List Explained
explained_after None told = told
explained_after (Some own_event) told = drop 1 told

-- ---- what came to him

-- the line for a change of his grants: the envelope, and what he is granted there
abbrev pub grant_line : (number : ℕ) → GrantItem → List ℕ
grant_line number g = item_line number (codes "grant" ∷ decimal g.envelope ∷ access_text g.access ∷ [])

-- the line for what an operator ordered of him: the change of his grants, or that his sessions ended
abbrev pub order_line : (number : ℕ) → OrderItem → List ℕ
order_line number (Grant g) = grant_line number g
order_line number End = item_line number (codes "ended" ∷ [])

-- the line for a change: the full name of the object, and its value in binary digits, greatest bit first
abbrev pub change_line : View → (number : ℕ) → Change → List ℕ
change_line v number c = item_line number (dotted (names_seen v c.object.0) ∷ map digit_of (reverse c.value) ∷ [])

-- the line for a time
abbrev pub time_line : (number : ℕ) → ℕ → List ℕ
time_line number time = item_line number (codes "time" ∷ decimal time ∷ [])

-- the line for $finish
abbrev pub finish_line : (number : ℕ) → Bool → List ℕ
finish_line number true = item_line number (codes "finished" ∷ [])
finish_line number false = []

-- the line for a race: the full name of its net or reg
abbrev pub race_line : (number : ℕ) → ShownRace → List ℕ
race_line number race = item_line number (codes "race" ∷ race.name ∷ [])

-- the lines for what came with the item of a number: what an operator ordered of him, a change, the time, $finish, a race
abbrev pub item_lines : View → (number : ℕ) → Item → List ℕ
item_lines v number i =
    option_map_or (order_line number) i.order []
    ++ (option_map_or (change_line v number) i.change []
    ++ (option_map_or (time_line number) i.time []
    ++ (option_map_or (finish_line number) i.finished []
    ++ option_map_or (race_line number) i.race [])))

-- ---- all of it

-- what he sees after an item
abbrev pub view_after : View → Option OrderItem → View
view_after v None = v
view_after v (Some End) = v
view_after v (Some (Grant g)) = g.view

-- the lines for items, in turn, from one of a number on, with what he was shown by his own events
abbrev pub explanation_from : (number : ℕ) → View → List Item → List Explained → List ℕ
explanation_from number v [] told = []
explanation_from number v (i ∷ items) told =
    own_line i.own_event told ++ (item_lines v number i ++ explanation_from (number + 1) (view_after v i.order) items (explained_after i.own_event told))

-- what he was shown and what came to him, from the first item on
abbrev pub explanation_of : View → List Item → List Explained → List ℕ
explanation_of v items told = explanation_from 1 v items told

-- what a user was shown by a log of a world and what came to him of it
abbrev pub log_explanation : Opening → (user : ℕ) → List Entry → List ℕ
log_explanation opening u log =
    let v : View = view_of opening.design (member_at opening.policy.members u) in
    let q : Projection = projection opening u log in
    explanation_of v q.items (explained_from 1 (map (λ x. 0) q.values) (first_part v q.values) q.items)
