-- No number of a line has a fraction.
use Rattle.std.proofs.Common.{◌≡◌, ◌∙◌, ◌||◌, ℕ, ◌/◌, ◌%◌, ◌^◌, Bool, true, false, List, [], ◌∷◌, length, map, Option, Some, None, refl, ap}
use Rattle.std.specs.Prelude.{nat_le, if◌then◌else◌}
use Rattle.serde_json.specs.Data.{unsigned, Items, item, no_items, number, string}
use Rattle.serde_json.specs.View.{items_of}
use Rattle.serde_json.specs.Written.{has_float, items_have_float, members_have_float}
use Rattle.vp_bits.specs.Vector.{aval_of, bval_of}
use Rattle.vp_pragma.specs.Rights.{name_of}
use Rattle.vp_notify.specs.declared.notice.PolledNotice.{PolledNotice}
use Rattle.vp_vpi.specs.declared.iteration.ListedObject.{ListedObject}
use Rattle.vp_vpi.specs.declared.races.RaceLine.{RaceLine}
use Rattle.vp_answer.specs.declared.reply.Reply.{Reply}
use Rattle.vp_answer.specs.declared.reply.Reply.TheVariants as reply
use Rattle.vp_answer.specs.declared.status.UserSessions.{UserSessions}
use Rattle.vp_wire.specs.Lines.{by_text, data_of, denial_members, listed_data, notice_data, pair_data, race_line_data, user_sessions_data, words_of}

-- lists of numbers
numbers_whole : (ns : List ℕ) → items_have_float (items_of (map (λ n. number (unsigned n)) ns)) ≡ false
numbers_whole [] = refl
numbers_whole (n ∷ ns) = numbers_whole ns

-- the objects of an iteration
listed_whole : (os : List ListedObject) → items_have_float (items_of (map listed_data os)) ≡ false
listed_whole [] = refl
listed_whole (o ∷ os) = listed_whole os

-- notices
notices_whole : (ns : List PolledNotice) → items_have_float (items_of (map notice_data ns)) ≡ false
notices_whole [] = refl
notices_whole (n ∷ ns) = notices_whole ns

-- races in a list
lines_whole : (ls : List RaceLine) → items_have_float (items_of (map race_line_data ls)) ≡ false
lines_whole [] = refl
lines_whole (l ∷ ls) = lines_whole ls

-- the steps of an order
steps_whole : (steps : List (List ℕ)) → items_have_float (items_of (map string steps)) ≡ false
steps_whole [] = refl
steps_whole (s ∷ steps) = steps_whole steps

-- how many sessions each user has open
users_whole : (us : List UserSessions) → items_have_float (items_of (map user_sessions_data us)) ≡ false
users_whole [] = refl
users_whole (u ∷ us) = users_whole us

-- one list or another
either_whole : (first : Bool) (xs ys : Items) → items_have_float xs ≡ false → items_have_float ys ≡ false → items_have_float (if first then xs else ys) ≡ false
either_whole true xs ys x y = x
either_whole false xs ys x y = y

-- the words of a vector
words_whole : (width aval bval : ℕ) → items_have_float (words_of width aval bval) ≡ false
words_whole width aval bval =
    either_whole (nat_le width 32) (item (pair_data aval bval) no_items)
    (item (pair_data (aval % 2 ^ 32) (bval % 2 ^ 32)) (item (pair_data (aval / 2 ^ 32) (bval / 2 ^ 32)) no_items)) refl refl

-- the members of a denial, with an object or without
denial_whole : (author by : List ℕ) (envelope : ℕ) (name : Option (List ℕ)) (right : List ℕ) → members_have_float (denial_members author by envelope name right) ≡ false
denial_whole author by envelope None right = refl
denial_whole author by envelope (Some name) right = refl

-- neither of two has one
or_false : {a b : Bool} → a ≡ false → b ≡ false → (a || (b || false)) ≡ false
or_false {a} {b} x y = ap (λ c. c || (b || false)) x ∙ ap (λ c. c || false) y

-- one has none
or_false_one : {a : Bool} → a ≡ false → (a || false) ≡ false
or_false_one {a} x = ap (λ c. c || false) x

-- a reply has none
pub reply_whole : (r : Reply) → has_float (data_of r) ≡ false
reply_whole (reply.Opened session) = refl
reply_whole reply.Done = refl
reply_whole (reply.Handle handle) = refl
reply_whole (reply.Listing l) = or_false (numbers_whole l.closed) (listed_whole l.items)
reply_whole (reply.Number n) = refl
reply_whole (reply.Text text) = refl
reply_whole (reply.Value bits) = refl
reply_whole (reply.Vector bits) = or_false_one (words_whole (length bits) (aval_of bits) (bval_of bits))
reply_whole (reply.Same same) = refl
reply_whole (reply.Callback callback) = refl
reply_whole (reply.Notices p) = or_false_one (notices_whole p.notices)
reply_whole (reply.Races lines) = or_false_one (lines_whole lines)
reply_whole (reply.Race r) = or_false_one (or_false (steps_whole r.first_steps) (steps_whole r.second_steps))
reply_whole (reply.Job job) = refl
reply_whole (reply.Denied words) = or_false_one (denial_whole words.author (by_text words.by) words.envelope words.object (name_of words.right))
reply_whole reply.RunDenied = refl
reply_whole (reply.Time time finished) = refl
reply_whole (reply.Status status) = or_false_one (or_false_one (users_whole status.world.sessions))
reply_whole (reply.Error refusal) = refl
