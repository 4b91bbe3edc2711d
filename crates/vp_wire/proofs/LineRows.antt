-- Lines, computed. Each row is an equation that holds by computation.
use Rattle.std.proofs.Common.{◌≡◌, true, [], ◌∷◌, Some, None, refl}
use Rattle.std.specs.Prelude.{codes}
use Rattle.std.specs.Fmt.{digits}
use Rattle.std.specs.Str.{is_utf8, chars}
use Rattle.serde_json.proofs.OnLiterals.{serde_json_on_literals}
use Rattle.vp_bits.specs.declared.bit.Bit.TheVariants.{Zero, One, Unknown, HighImpedance}
use Rattle.vp_pragma.specs.declared.rights.Right.TheVariants as right
use Rattle.vp_pragma.specs.Rights.{RightSet, nothing, with_right}
use Rattle.vp_policy.specs.declared.denial.ShownBarrier.TheVariants as by
use Rattle.vp_answer.specs.declared.query.Query.TheVariants as query
use Rattle.vp_answer.specs.declared.request.Call.TheVariants as call
use Rattle.vp_answer.specs.declared.request.Request.TheVariants as request
use Rattle.vp_answer.specs.declared.query.ValueFormat.TheVariants as format
use Rattle.vp_answer.specs.declared.reply.Refusal.TheVariants as refusal
use Rattle.vp_answer.specs.declared.reply.Reply.TheVariants as reply
use Rattle.vp_wire.specs.Lines.{line_of, meaning_of, NotJson, NotRequest, Asks}

done : line_of reply.Done ≡ codes "{\"ok\":true}\n"
unfolding serde_json_on_literals
done = refl

handle : line_of (reply.Handle 12) ≡ codes "{\"h\":12}\n"
unfolding serde_json_on_literals digits
handle = refl

value : line_of (reply.Value (HighImpedance ∷ Zero ∷ Unknown ∷ One ∷ [])) ≡ codes "{\"value\":\"1x0z\"}\n"
unfolding serde_json_on_literals
value = refl

denied :
    line_of (reply.Denied (record { by = by.Envelope; envelope = 1; right = right.List; author = codes "acme"; object = None }))
    ≡ codes "{\"denied\":{\"author\":\"acme\",\"by\":\"envelope\",\"no\":1,\"right\":\"list\"}}\n"
unfolding serde_json_on_literals digits
denied = refl

denied_by_viewport :
    line_of (reply.Denied (record { by = by.Viewport; envelope = 1; right = right.Put; author = codes "acme"; object = Some (codes "ip.s") }))
    ≡ codes "{\"denied\":{\"author\":\"acme\",\"by\":\"viewport\",\"no\":1,\"object\":\"ip.s\",\"right\":\"put\"}}\n"
unfolding serde_json_on_literals digits
denied_by_viewport = refl

callback : line_of (reply.Callback 3) ≡ codes "{\"cb\":3}\n"
unfolding serde_json_on_literals digits
callback = refl

notices :
    line_of (reply.Notices (record { notices = record { callback = 1; time = 5; value = HighImpedance ∷ Zero ∷ Unknown ∷ One ∷ [] } ∷ []; lost = 7 }))
    ≡ codes "{\"lost\":7,\"notices\":[{\"cb\":1,\"time\":5,\"value\":\"1x0z\"}]}\n"
unfolding serde_json_on_literals digits
notices = refl

status :
    line_of (reply.Status (record {
      world = record {
        time = 5;
        running = true;
        entries = 12;
        held = 7;
        bytes = 40;
        sessions = record { user = codes "ann"; sessions = 2 } ∷ [];
        jobs = 1;
        races = 3;
      };
      connections = 4;
      denials = 6;
      wrong_tokens = 0;
      version = codes "0.1.0";
    }))
    ≡ codes "{\"connections\":4,\"denials\":6,\"version\":\"0.1.0\",\"world\":{\"bytes\":40,\"entries\":12,\"held\":7,\"jobs\":1,\"races\":3,\"running\":true,\"sessions\":[{\"sessions\":2,\"user\":\"ann\"}],\"time\":5},\"wrong_tokens\":0}\n"
unfolding serde_json_on_literals digits
status = refl

no_such_name : line_of (reply.Error refusal.NoSuchName) ≡ codes "{\"error\":\"no such name\"}\n"
unfolding serde_json_on_literals
no_such_name = refl

asks_handle : meaning_of (codes "{\"op\":\"handle\",\"name\":\"top.a\"}") ≡ Asks (request.Call (call.Query (query.Handle (codes "top.a") None)))
unfolding serde_json_on_literals is_utf8 chars
asks_handle = refl

asks_value : meaning_of (codes "{\"h\":1,\"op\":\"value\"}") ≡ Asks (request.Call (call.Query (query.Value 1 format.Binary)))
unfolding serde_json_on_literals is_utf8 chars
asks_value = refl

asks_watch : meaning_of (codes "{\"op\":\"watch\",\"h\":2}") ≡ Asks (request.Call (call.Query (query.Watch 2)))
unfolding serde_json_on_literals is_utf8 chars
asks_watch = refl

asks_poll : meaning_of (codes "{\"op\":\"poll\"}") ≡ Asks (request.Call (call.Query query.Poll))
unfolding serde_json_on_literals is_utf8 chars
asks_poll = refl

cut_off : meaning_of (codes "{\"op\":\"time\"") ≡ NotJson
unfolding serde_json_on_literals is_utf8 chars
cut_off = refl

no_such_op : meaning_of (codes "{\"op\":\"tim\"}") ≡ NotRequest
unfolding serde_json_on_literals is_utf8 chars
no_such_op = refl

key_too_many : meaning_of (codes "{\"op\":\"close\",\"h\":1}") ≡ NotRequest
unfolding serde_json_on_literals is_utf8 chars
key_too_many = refl

wrong_type : meaning_of (codes "{\"op\":\"value\",\"h\":\"1\"}") ≡ NotRequest
unfolding serde_json_on_literals is_utf8 chars
wrong_type = refl

-- the greatest handle is one below 2 ^ 32
handle_too_great : meaning_of (codes "{\"op\":\"value\",\"h\":4294967296}") ≡ NotRequest
unfolding serde_json_on_literals is_utf8 chars
handle_too_great = refl

-- a text of one byte that is no UTF-8
no_utf8 : meaning_of (34 ∷ 255 ∷ 34 ∷ []) ≡ NotJson
unfolding is_utf8 chars lib.Utf8.encode
no_utf8 = refl

-- the change of a grant
abbrev grants : RightSet → request.the_data
grants access = request.Grant (record { token = codes "op"; user = codes "ann"; envelope = 1; access = access })

asks_grant :
    meaning_of (codes "{\"op\":\"grant\",\"token\":\"op\",\"user\":\"ann\",\"envelope\":1,\"access\":\"read\"}")
    ≡ Asks (grants (with_right right.Read (with_right right.List nothing)))
unfolding serde_json_on_literals is_utf8 chars
asks_grant = refl

asks_empty_grant :
    meaning_of (codes "{\"op\":\"grant\",\"token\":\"op\",\"user\":\"ann\",\"envelope\":1,\"access\":\"\"}") ≡ Asks (grants nothing)
unfolding serde_json_on_literals is_utf8 chars
asks_empty_grant = refl

grant_of_no_right :
    meaning_of (codes "{\"op\":\"grant\",\"token\":\"op\",\"user\":\"ann\",\"envelope\":1,\"access\":\"peek\"}") ≡ NotRequest
unfolding serde_json_on_literals is_utf8 chars
grant_of_no_right = refl

-- ---- what else an operator asks

asks_end :
    meaning_of (codes "{\"op\":\"end\",\"token\":\"op\",\"user\":\"ann\"}") ≡ Asks (request.End (record { token = codes "op"; user = codes "ann" }))
unfolding serde_json_on_literals is_utf8 chars
asks_end = refl

end_of_nobody : meaning_of (codes "{\"op\":\"end\",\"token\":\"op\"}") ≡ NotRequest
unfolding serde_json_on_literals is_utf8 chars
end_of_nobody = refl

-- with a token a stop is the operator's, and without one a session's
asks_halt : meaning_of (codes "{\"op\":\"stop\",\"token\":\"op\"}") ≡ Asks (request.Halt (record { token = codes "op" }))
unfolding serde_json_on_literals is_utf8 chars
asks_halt = refl

asks_stop : meaning_of (codes "{\"op\":\"stop\"}") ≡ Asks (request.Call (call.Query query.Stop))
unfolding serde_json_on_literals is_utf8 chars
asks_stop = refl

stop_until : meaning_of (codes "{\"op\":\"stop\",\"until\":5}") ≡ NotRequest
unfolding serde_json_on_literals is_utf8 chars
stop_until = refl

halt_by_a_number : meaning_of (codes "{\"op\":\"stop\",\"token\":1}") ≡ NotRequest
unfolding serde_json_on_literals is_utf8 chars
halt_by_a_number = refl

asks_status : meaning_of (codes "{\"op\":\"status\",\"token\":\"op\"}") ≡ Asks (request.Status (codes "op"))
unfolding serde_json_on_literals is_utf8 chars
asks_status = refl

asks_shutdown : meaning_of (codes "{\"op\":\"shutdown\",\"token\":\"op\"}") ≡ Asks (request.Shutdown (codes "op"))
unfolding serde_json_on_literals is_utf8 chars
asks_shutdown = refl

status_without_a_token : meaning_of (codes "{\"op\":\"status\"}") ≡ NotRequest
unfolding serde_json_on_literals is_utf8 chars
status_without_a_token = refl
