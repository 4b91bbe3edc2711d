-- The lines of requests and replies.
use Rattle.std.specs.Prelude.{ℕ, ◌^◌, ◌/◌, ◌%◌, nat_le, nat_lt, Bool, true, if◌then◌else◌, List, [], ◌∷◌, ◌++◌, length, map, reverse, Option, Some, None, is_some, option_and_then, option_map, codes}
use Rattle.std.specs.Str.{bytes_eq, is_utf8}
use Rattle.serde_json.specs.Data.{unsigned, Data, Items, Members, array, boolean, item, member, no_items, no_members, number, object, string}
use Rattle.serde_json.specs.Find.{as_array, as_number, as_str, as_u64, at, get}
use Rattle.serde_json.specs.Read.{read}
use Rattle.serde_json.specs.View.{items_of}
use Rattle.serde_json.specs.Written.{compact_text}
use Rattle.vp_json.specs.Keys.{has_keys}
use Rattle.vp_bits.specs.declared.bit.Bit.{Bit}
use Rattle.vp_bits.specs.Digits.{digit_of}
use Rattle.vp_bits.specs.Vector.{aval_of, bval_of}
use Rattle.vp_pragma.specs.Rights.{RightSet, name_of}
use Rattle.vp_elab.specs.Tree.{kind_of_name}
use Rattle.vp_policy.specs.declared.denial.ShownBarrier.{ShownBarrier}
use Rattle.vp_policy.specs.declared.denial.ShownBarrier.TheVariants as by
use Rattle.vp_policy.specs.Denials.{DenialText}
use Rattle.vp_policy.specs.File.{each_of, opened_by}
use Rattle.vp_policy.specs.Filter.{run_denied}
use Rattle.vp_notify.specs.declared.notice.Notices.{Notices}
use Rattle.vp_notify.specs.declared.notice.PolledNotice.{PolledNotice}
use Rattle.vp_vpi.specs.declared.iteration.ListedObject.{ListedObject}
use Rattle.vp_vpi.specs.declared.iteration.Listing.{Listing}
use Rattle.vp_vpi.specs.declared.property.NumberProperty.{NumberProperty}
use Rattle.vp_vpi.specs.declared.property.NumberProperty.TheVariants as property
use Rattle.vp_vpi.specs.declared.property.TextProperty.{TextProperty}
use Rattle.vp_vpi.specs.declared.property.TextProperty.TheVariants as text
use Rattle.vp_vpi.specs.declared.property.VectorWord.{VectorWord}
use Rattle.vp_vpi.specs.declared.property.PutValue.TheVariants as put
use Rattle.vp_vpi.specs.declared.races.RaceLine.{RaceLine}
use Rattle.vp_vpi.specs.declared.races.RaceDetails.{RaceDetails}
use Rattle.vp_answer.specs.declared.query.ValueFormat.{ValueFormat}
use Rattle.vp_answer.specs.declared.query.ValueFormat.TheVariants as format
use Rattle.vp_answer.specs.declared.query.Query.{Query}
use Rattle.vp_answer.specs.declared.query.Query.TheVariants as query
use Rattle.vp_answer.specs.declared.request.Call.TheVariants as call
use Rattle.vp_answer.specs.declared.status.ServerStatus.{ServerStatus}
use Rattle.vp_answer.specs.declared.status.UserSessions.{UserSessions}
use Rattle.vp_answer.specs.declared.status.WorldStatus.{WorldStatus}
use Rattle.vp_answer.specs.declared.request.Request.{Request}
use Rattle.vp_answer.specs.declared.request.Request.TheVariants as request
use Rattle.vp_answer.specs.declared.reply.Refusal.{Refusal}
use Rattle.vp_answer.specs.declared.reply.Reply.{Reply}
use Rattle.vp_answer.specs.declared.reply.Reply.TheVariants as reply
use Rattle.vp_answer.specs.Refusals.{text_of}

-- ---- replies

-- what keeps a user out, in a line (profile)
abbrev pub by_text : ShownBarrier → List ℕ
by_text by.Viewport = codes "viewport"
by_text by.Envelope = codes "envelope"
by_text by.Grant = codes "grant"

-- an object of one member
abbrev pub only : List ℕ → Data → Data
only key value = object (member key value no_members)

-- the object of a viewport, if one keeps the user out, before other members
abbrev pub with_object : Option (List ℕ) → Members → Members
with_object None members = members
with_object (Some name) members = member (codes "object") (string name) members

-- the members of a denial: the author of its envelope, what keeps the user out, the number of the envelope, the object of the
-- viewport, if one keeps him out, and the right that he lacks, in the order of the bytes of their keys (profile)
abbrev pub denial_members : List ℕ → List ℕ → ℕ → Option (List ℕ) → List ℕ → Members
denial_members author by envelope name right =
    member (codes "author") (string author)
    (member (codes "by") (string by)
    (member (codes "no") (number (unsigned envelope))
    (with_object name (member (codes "right") (string right) no_members))))

-- a denial as JSON (profile)
abbrev pub denial_data : DenialText → Data
denial_data words =
    only (codes "denied")
    (object (denial_members words.author (by_text words.by) words.envelope words.object (name_of words.right)))

-- the denial of a run, as the filter has it; the open text has no author (profile)
abbrev pub run_denial_data : Data
run_denial_data = only (codes "denied") (object (denial_members [] (by_text run_denied.0) run_denied.1 None run_denied.2))

-- the current time as JSON, its keys in the order of their bytes (profile)
abbrev pub time_data : ℕ → Bool → Data
time_data time finished =
    object (member (codes "finished") (boolean finished) (member (codes "time") (number (unsigned time)) no_members))

-- that it was done, as JSON (profile)
abbrev pub done_data : Data
done_data = only (codes "ok") (boolean true)

-- a handle as JSON (profile)
abbrev pub handle_data : ℕ → Data
handle_data handle = only (codes "h") (number (unsigned handle))

-- numbers as JSON
abbrev pub numbers_data : List ℕ → Data
numbers_data numbers = array (items_of (map (λ n. number (unsigned n)) numbers))

-- an object of an iteration as JSON, its keys in the order of their bytes (profile)
abbrev pub listed_data : ListedObject → Data
listed_data o = object (member (codes "h") (number (unsigned o.handle)) (member (codes "name") (string o.name) no_members))

-- what is reported of an iteration as JSON, its keys in the order of their bytes (profile)
abbrev pub listing_data : Listing → Data
listing_data l =
    object (member (codes "closed") (numbers_data l.closed) (member (codes "items") (array (items_of (map listed_data l.items))) no_members))

-- the bits of a vector as JSON: binary digits, greatest bit first (profile)
abbrev pub digits_data : List Bit → Data
digits_data bits = string (map digit_of (reverse bits))

-- the value of a vector as JSON, in binary digits (profile)
abbrev pub vector_data : List Bit → Data
vector_data bits = only (codes "value") (digits_data bits)

-- a number of an object as JSON (profile)
abbrev pub number_data : ℕ → Data
number_data n = only (codes "n") (number (unsigned n))

-- a text of an object as JSON (profile)
abbrev pub text_data : List ℕ → Data
text_data text = only (codes "s") (string text)

-- two numbers as JSON
abbrev pub pair_data : ℕ → ℕ → Data
pair_data a b = array (item (number (unsigned a)) (item (number (unsigned b)) no_items))

-- the words of 32 bits of a vector with the words aval and bval, least significant first (clause 27)
abbrev pub words_of : (width aval bval : ℕ) → Items
words_of width aval bval =
    if nat_le width 32
    then item (pair_data aval bval) no_items
    else item (pair_data (aval % 2 ^ 32) (bval % 2 ^ 32)) (item (pair_data (aval / 2 ^ 32) (bval / 2 ^ 32)) no_items)

-- the value of a vector as JSON, in words of 32 bits (profile)
abbrev pub words_data : List Bit → Data
words_data bits = only (codes "vector") (array (words_of (length bits) (aval_of bits) (bval_of bits)))

-- whether two handles are of one object, as JSON (profile)
abbrev pub same_data : Bool → Data
same_data same = only (codes "same") (boolean same)

-- a callback as JSON (profile)
abbrev pub callback_data : ℕ → Data
callback_data callback = only (codes "cb") (number (unsigned callback))

-- a notice as JSON, its keys in the order of their bytes (profile)
abbrev pub notice_data : PolledNotice → Data
notice_data n =
    object (member (codes "cb") (number (unsigned n.callback))
    (member (codes "time") (number (unsigned n.time)) (member (codes "value") (digits_data n.value) no_members)))

-- what a poll reports as JSON, its keys in the order of their bytes (profile)
abbrev pub polled_data : Notices → Data
polled_data p =
    object (member (codes "lost") (number (unsigned p.lost))
    (member (codes "notices") (array (items_of (map notice_data p.notices))) no_members))

-- two values as JSON, in binary digits
abbrev pub values_data : List Bit × List Bit → Data
values_data values = array (item (digits_data values.0) (item (digits_data values.1) no_items))

-- a race in a list as JSON, its keys in the order of their bytes (profile)
abbrev pub race_line_data : RaceLine → Data
race_line_data l =
    object (member (codes "name") (string l.name)
    (member (codes "no") (number (unsigned l.number))
    (member (codes "time") (number (unsigned l.time)) (member (codes "values") (values_data l.values) no_members))))

-- races as JSON (profile)
abbrev pub races_data : List RaceLine → Data
races_data lines = only (codes "races") (array (items_of (map race_line_data lines)))

-- the steps of an order as JSON, by the names of their processes (profile)
abbrev pub steps_data : List (List ℕ) → Data
steps_data steps = array (items_of (map string steps))

-- the steps of both orders of a race as JSON
abbrev pub both_steps_data : RaceDetails → Data
both_steps_data r = array (item (steps_data r.first_steps) (item (steps_data r.second_steps) no_items))

-- a race with its steps as JSON, its keys in the order of their bytes (profile)
abbrev pub race_data : RaceDetails → Data
race_data r =
    object (member (codes "name") (string r.line.name)
    (member (codes "no") (number (unsigned r.line.number))
    (member (codes "steps") (both_steps_data r)
    (member (codes "time") (number (unsigned r.line.time)) (member (codes "values") (values_data r.line.values) no_members)))))

-- the number of a segment that is handed out as JSON (profile)
abbrev pub job_data : ℕ → Data
job_data job = only (codes "job") (number (unsigned job))

-- how many sessions a user has open as JSON, its keys in the order of their bytes (profile)
abbrev pub user_sessions_data : UserSessions → Data
user_sessions_data u =
    object (member (codes "sessions") (number (unsigned u.sessions)) (member (codes "user") (string u.user) no_members))

-- how a world stands as JSON, its keys in the order of their bytes (profile)
abbrev pub world_status_data : WorldStatus → Data
world_status_data w =
    object (member (codes "bytes") (number (unsigned w.bytes))
    (member (codes "entries") (number (unsigned w.entries))
    (member (codes "held") (number (unsigned w.held))
    (member (codes "jobs") (number (unsigned w.jobs))
    (member (codes "races") (number (unsigned w.races))
    (member (codes "running") (boolean w.running)
    (member (codes "sessions") (array (items_of (map user_sessions_data w.sessions)))
    (member (codes "time") (number (unsigned w.time)) no_members))))))))

-- how a server stands as JSON, its keys in the order of their bytes (profile)
abbrev pub status_data : ServerStatus → Data
status_data s =
    object (member (codes "connections") (number (unsigned s.connections))
    (member (codes "denials") (number (unsigned s.denials))
    (member (codes "version") (string s.version)
    (member (codes "world") (world_status_data s.world)
    (member (codes "wrong_tokens") (number (unsigned s.wrong_tokens)) no_members)))))

-- a refusal as JSON (profile)
abbrev pub error_data : Refusal → Data
error_data refusal = only (codes "error") (string (text_of refusal))

-- a reply as JSON (profile)
abbrev pub data_of : Reply → Data
data_of (reply.Opened session) = done_data
data_of reply.Done = done_data
data_of (reply.Handle handle) = handle_data handle
data_of (reply.Listing l) = listing_data l
data_of (reply.Number n) = number_data n
data_of (reply.Text text) = text_data text
data_of (reply.Value bits) = vector_data bits
data_of (reply.Vector bits) = words_data bits
data_of (reply.Same same) = same_data same
data_of (reply.Callback callback) = callback_data callback
data_of (reply.Notices p) = polled_data p
data_of (reply.Races lines) = races_data lines
data_of (reply.Race r) = race_data r
data_of (reply.Job job) = job_data job
data_of (reply.Denied words) = denial_data words
data_of reply.RunDenied = run_denial_data
data_of (reply.Time time finished) = time_data time finished
data_of (reply.Status status) = status_data status
data_of (reply.Error refusal) = error_data refusal

-- the line of a reply: compact JSON, and a newline (profile)
abbrev pub line_of : Reply → List ℕ
line_of r = compact_text (data_of r) ++ 10 ∷ []

-- ---- requests

-- the text under a key
abbrev pub text_at : List ℕ → Data → Option (List ℕ)
text_at key d = option_and_then as_str (get key d)

-- a number of 32 bits
abbrev pub word_of : ℕ → Option ℕ
word_of n = if nat_lt n (2 ^ 32) then Some n else None

-- the number of 32 bits under a key
abbrev pub number_at : List ℕ → Data → Option ℕ
number_at key d = option_and_then word_of (option_and_then as_u64 (option_and_then as_number (get key d)))

-- the number of 32 bits under a key that may be left out
abbrev pub number_if : List ℕ → Data → Option (Option ℕ)
number_if key d = if is_some (get key d) then option_map Some (number_at key d) else Some None

-- the number of 64 bits under a key
abbrev pub long_at : List ℕ → Data → Option ℕ
long_at key d = option_and_then as_u64 (option_and_then as_number (get key d))

-- the time under a key: a number below 2^62
abbrev pub time_at : List ℕ → Data → Option ℕ
time_at key d =
    option_and_then (λ n. if nat_lt n (2 ^ 62) then Some n else None)
    (long_at key d)

-- what is asked, of an object with exactly these keys beside op
abbrev pub of_keys : {X : Type 0} → List (List ℕ) → Data → Option X → Option X
of_keys keys d r = if has_keys keys (codes "op" ∷ []) d then r else None

-- the same of an object that may have one key more
abbrev pub of_keys_or : {X : Type 0} → List (List ℕ) → List ℕ → Data → Option X → Option X
of_keys_or keys other d r = if has_keys keys (codes "op" ∷ other ∷ []) d then r else None

-- the request to open a session
abbrev pub open_request : Data → Option Request
open_request d =
    of_keys (codes "user" ∷ codes "token" ∷ []) d
    (option_and_then (λ u. option_map (request.Open u) (text_at (codes "token") d)) (text_at (codes "user") d))

-- the request to close a session
abbrev pub close_request : Data → Option Request
close_request d = of_keys [] d (Some (request.Call call.Close))

-- the rights under a key: none for the empty text, else those of an access string
abbrev pub access_at : List ℕ → Data → Option RightSet
access_at key d = option_and_then opened_by (text_at key d)

-- the request of these words to change a grant
abbrev pub grant_of_words : List ℕ → List ℕ → ℕ → RightSet → Request
grant_of_words token user envelope access =
    request.Grant (record { token = token; user = user; envelope = envelope; access = access })

-- the request to change a grant (profile)
abbrev pub grant_request : Data → Option Request
grant_request d =
    of_keys (codes "token" ∷ codes "user" ∷ codes "envelope" ∷ codes "access" ∷ []) d
    (option_and_then (λ token. option_and_then (λ user. option_and_then (λ envelope. option_map (grant_of_words token user envelope)
    (access_at (codes "access") d)) (number_at (codes "envelope") d)) (text_at (codes "user") d)) (text_at (codes "token") d))

-- the request of these words to end a user's sessions
abbrev pub end_of_words : List ℕ → List ℕ → Request
end_of_words token user = request.End (record { token = token; user = user })

-- the request to end a user's sessions (profile)
abbrev pub end_request : Data → Option Request
end_request d =
    of_keys (codes "token" ∷ codes "user" ∷ []) d
    (option_and_then (λ token. option_map (end_of_words token) (text_at (codes "user") d)) (text_at (codes "token") d))

-- the token of an operator who gives nothing else
abbrev pub token_alone : Data → Option (List ℕ)
token_alone d = of_keys (codes "token" ∷ []) d (text_at (codes "token") d)

-- an operator's request to let the design stand still (profile)
abbrev pub halt_request : Data → Option Request
halt_request d = option_map (λ token. request.Halt (record { token = token })) (token_alone d)

-- an operator's request of how the server stands (profile)
abbrev pub status_request : Data → Option Request
status_request d = option_map request.Status (token_alone d)

-- an operator's request to end the server (profile)
abbrev pub shutdown_request : Data → Option Request
shutdown_request d = option_map request.Shutdown (token_alone d)

-- the query of a handle
abbrev pub handle_query : Data → Option Query
handle_query d =
    of_keys_or (codes "name" ∷ []) (codes "scope") d
    (option_and_then (λ name. option_map (query.Handle name) (number_if (codes "scope") d)) (text_at (codes "name") d))

-- the query of an iteration
abbrev pub iterate_query : Data → Option Query
iterate_query d =
    of_keys_or (codes "kind" ∷ []) (codes "h") d
    (option_and_then (λ k. option_map (query.Iterate k) (number_if (codes "h") d))
    (option_and_then kind_of_name (text_at (codes "kind") d)))

-- the number of an object that a word names (profile)
abbrev pub number_property : List ℕ → Option NumberProperty
number_property word =
    if bytes_eq word (codes "size") then Some property.Size
    else (if bytes_eq word (codes "line") then Some property.Line
    else None)

-- the query of a number of an object
abbrev pub get_query : Data → Option Query
get_query d =
    of_keys (codes "h" ∷ codes "prop" ∷ []) d
    (option_and_then (λ handle. option_map (query.Get handle) (option_and_then number_property (text_at (codes "prop") d)))
    (number_at (codes "h") d))

-- the text of an object that a word names (profile)
abbrev pub text_property : List ℕ → Option TextProperty
text_property word =
    if bytes_eq word (codes "type") then Some text.Type
    else (if bytes_eq word (codes "name") then Some text.Name
    else (if bytes_eq word (codes "full_name") then Some text.FullName
    else (if bytes_eq word (codes "def_name") then Some text.DefinitionName
    else None)))

-- the query of a text of an object
abbrev pub get_str_query : Data → Option Query
get_str_query d =
    of_keys (codes "h" ∷ codes "prop" ∷ []) d
    (option_and_then (λ handle. option_map (query.GetStr handle) (option_and_then text_property (text_at (codes "prop") d)))
    (number_at (codes "h") d))

-- the format of values that a word names (profile)
abbrev pub format_of : List ℕ → Option ValueFormat
format_of word =
    if bytes_eq word (codes "bin") then Some format.Binary
    else (if bytes_eq word (codes "vec") then Some format.Vector
    else None)

-- the format that a value is asked in, by default binary digits
abbrev pub format_at : Data → Option ValueFormat
format_at d =
    if is_some (get (codes "format") d) then option_and_then format_of (text_at (codes "format") d) else Some format.Binary

-- the query of a value
abbrev pub value_query : Data → Option Query
value_query d =
    of_keys_or (codes "h" ∷ []) (codes "format") d
    (option_and_then (λ handle. option_map (query.Value handle) (format_at d)) (number_at (codes "h") d))

-- the number of 32 bits at an index of an array
abbrev pub number_in : ℕ → Data → Option ℕ
number_in index d = option_and_then word_of (option_and_then as_u64 (option_and_then as_number (at index d)))

-- a word of a vector of two numbers
abbrev pub vector_word : ℕ → ℕ → VectorWord
vector_word a b = record { aval = a; bval = b }

-- a word of a vector: an array of two numbers of 32 bits (clause 27, profile)
abbrev pub word_in : Data → Option VectorWord
word_in d =
    if is_some (at 2 d) then None else option_and_then (λ a. option_map (vector_word a) (number_in 1 d)) (number_in 0 d)

-- the words of a vector under a key
abbrev pub words_at : List ℕ → Data → Option (List VectorWord)
words_at key d = option_and_then (each_of word_in) (option_and_then as_array (get key d))

-- the query of a put by digits
abbrev pub digits_query : Data → Option Query
digits_query d =
    of_keys (codes "h" ∷ codes "value" ∷ []) d
    (option_and_then (λ handle. option_map (λ t. query.Put handle (put.Digits t)) (text_at (codes "value") d))
    (number_at (codes "h") d))

-- the query of a put by words
abbrev pub vector_query : Data → Option Query
vector_query d =
    of_keys (codes "h" ∷ codes "vector" ∷ []) d
    (option_and_then (λ handle. option_map (λ ws. query.Put handle (put.Words ws)) (words_at (codes "vector") d))
    (number_at (codes "h") d))

-- the query of a put: by digits, or else by words
abbrev pub put_query : Data → Option Query
put_query d = if is_some (get (codes "value") d) then digits_query d else vector_query d

-- the query to compare two handles
abbrev pub compare_query : Data → Option Query
compare_query d =
    of_keys (codes "a" ∷ codes "b" ∷ []) d
    (option_and_then (λ a. option_map (query.Compare a) (number_at (codes "b") d)) (number_at (codes "a") d))

-- the query to free a handle
abbrev pub free_query : Data → Option Query
free_query d = of_keys (codes "h" ∷ []) d (option_map query.Free (number_at (codes "h") d))

-- the query to be notified of an object's changes
abbrev pub watch_query : Data → Option Query
watch_query d = of_keys (codes "h" ∷ []) d (option_map query.Watch (number_at (codes "h") d))

-- the query not to be notified by a callback any more
abbrev pub unwatch_query : Data → Option Query
unwatch_query d = of_keys (codes "cb" ∷ []) d (option_map query.Unwatch (number_at (codes "cb") d))

-- the query of what was to be reported
abbrev pub poll_query : Data → Option Query
poll_query d = of_keys [] d (Some query.Poll)

-- the number of 64 bits under a key, by default 1
abbrev pub from_at : List ℕ → Data → Option ℕ
from_at key d = if is_some (get key d) then long_at key d else Some 1

-- the query of the races that are shown
abbrev pub races_query : Data → Option Query
races_query d = of_keys_or [] (codes "from") d (option_map query.Races (from_at (codes "from") d))

-- the query of a race that is shown
abbrev pub race_query : Data → Option Query
race_query d = of_keys (codes "no" ∷ []) d (option_map query.Race (long_at (codes "no") d))

-- the query to let the design run
abbrev pub run_query : Data → Option Query
run_query d = of_keys (codes "until" ∷ []) d (option_map query.Run (time_at (codes "until") d))

-- the query to let the design stand still
abbrev pub stop_query : Data → Option Query
stop_query d = of_keys [] d (Some query.Stop)

-- the query of the time
abbrev pub time_query : Data → Option Query
time_query d = of_keys [] d (Some query.Time)

-- the query of an op that an open session asks (profile)
abbrev pub query_of_op : List ℕ → Data → Option Query
query_of_op op d =
    if bytes_eq op (codes "handle") then handle_query d
    else (if bytes_eq op (codes "iterate") then iterate_query d
    else (if bytes_eq op (codes "get") then get_query d
    else (if bytes_eq op (codes "get_str") then get_str_query d
    else (if bytes_eq op (codes "value") then value_query d
    else (if bytes_eq op (codes "put") then put_query d
    else (if bytes_eq op (codes "compare") then compare_query d
    else (if bytes_eq op (codes "free") then free_query d
    else (if bytes_eq op (codes "watch") then watch_query d
    else (if bytes_eq op (codes "unwatch") then unwatch_query d
    else (if bytes_eq op (codes "poll") then poll_query d
    else (if bytes_eq op (codes "races") then races_query d
    else (if bytes_eq op (codes "race") then race_query d
    else (if bytes_eq op (codes "run") then run_query d
    else (if bytes_eq op (codes "time") then time_query d
    else None))))))))))))))

-- a query as a request, if it is one
abbrev pub query_request : Option Query → Option Request
query_request q = option_map (λ r. request.Call (call.Query r)) q

-- the request to let the design stand still: an operator's where a token is given, else a session's (profile)
abbrev pub stop_request : Data → Option Request
stop_request d = if is_some (get (codes "token") d) then halt_request d else query_request (stop_query d)

-- the request of an op that an operator asks, or a session that is open (profile)
abbrev pub order_of_op : List ℕ → Data → Option Request
order_of_op op d =
    if bytes_eq op (codes "grant") then grant_request d
    else (if bytes_eq op (codes "end") then end_request d
    else (if bytes_eq op (codes "stop") then stop_request d
    else (if bytes_eq op (codes "status") then status_request d
    else (if bytes_eq op (codes "shutdown") then shutdown_request d
    else query_request (query_of_op op d)))))

-- the request of an op (profile)
abbrev pub request_of_op : List ℕ → Data → Option Request
request_of_op op d =
    if bytes_eq op (codes "open") then open_request d
    else (if bytes_eq op (codes "close") then close_request d
    else order_of_op op d)

-- the request of a JSON value; none where it is no request
abbrev pub request_of : Data → Option Request
request_of d = option_and_then (λ op. request_of_op op d) (text_at (codes "op") d)

-- what a line is: no JSON, JSON that is no request, or a request
pub data Meaning : Type 0 where
  NotJson : Meaning
  NotRequest : Meaning
  Asks : Request → Meaning

-- what a line is, by the JSON value that is read of it, if one is
abbrev pub meaning_of_value : Option Data → Meaning
meaning_of_value None = NotJson
meaning_of_value (Some d) = meaning_of_request (request_of d)
  where
    meaning_of_request : Option Request → Meaning
    meaning_of_request None = NotRequest
    meaning_of_request (Some r) = Asks r

-- what a line is, by its bytes without the newline: a text that is no UTF-8 is no JSON (profile)
abbrev pub meaning_of : List ℕ → Meaning
meaning_of line = if is_utf8 line then meaning_of_value (read line) else NotJson
