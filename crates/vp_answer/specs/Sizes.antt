-- The bytes that what is asked and answered takes beside its place in a log (profile).
use Rattle.std.specs.Prelude.{ℕ, ◌+◌, List, length, min, sum_by}
use Rattle.vp_vpi.specs.declared.iteration.ListedObject.{ListedObject}
use Rattle.vp_vpi.specs.declared.property.PutValue.{PutValue}
use Rattle.vp_vpi.specs.declared.property.PutValue.TheVariants as put
use Rattle.vp_vpi.specs.declared.races.RaceLine.{RaceLine}
use Rattle.vp_answer.specs.declared.query.Query.{Query}
use Rattle.vp_answer.specs.declared.query.Query.TheVariants as query
use Rattle.vp_answer.specs.declared.reply.Reply.{Reply}
use Rattle.vp_answer.specs.declared.reply.Reply.TheVariants as reply

-- an item takes at most so many, beside its texts
abbrev pub item_bytes : ℕ
item_bytes = 96

-- the items of a list, each with its texts
abbrev pub list_bytes : {X : Type 0} → (texts : X → ℕ) → List X → ℕ
list_bytes texts xs = sum_by (λ x. item_bytes + texts x) xs

-- the texts of items
abbrev pub no_texts : {X : Type 0} → X → ℕ
no_texts x = 0

abbrev pub name_bytes : ListedObject → ℕ
name_bytes item = length item.name

abbrev pub line_bytes : RaceLine → ℕ
line_bytes line = length line.name

-- the value of a put
abbrev pub value_bytes : PutValue → ℕ
value_bytes (put.Digits digits) = length digits
value_bytes (put.Words words) = list_bytes no_texts words

-- a query
abbrev pub query_bytes : Query → ℕ
query_bytes (query.Handle name scope) = length name
query_bytes (query.Put handle value) = value_bytes value
query_bytes q = 0

-- a reply; the texts of a denial are the design's
abbrev pub reply_bytes : Reply → ℕ
reply_bytes (reply.Listing listing) = length listing.closed + list_bytes name_bytes listing.items
reply_bytes (reply.Text text) = length text
reply_bytes (reply.Notices notices) = list_bytes no_texts notices.notices
reply_bytes (reply.Races lines) = list_bytes line_bytes lines
reply_bytes (reply.Race race) =
    line_bytes race.line + (list_bytes length race.first_steps + list_bytes length race.second_steps)
reply_bytes (reply.Denied words) = item_bytes
reply_bytes r = 0

-- a count in 64 bits, which stays at their greatest number
abbrev pub saturated : ℕ → ℕ
saturated n = min n 18446744073709551615
