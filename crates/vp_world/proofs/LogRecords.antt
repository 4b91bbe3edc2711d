-- What is kept of a log stands for the same entries where more is kept.
use Rattle.std.proofs.Common.{zero, suc, arith, ◌≡◌, ◌∙◌, ◌++◌, ◌∷◌, ◌<◌, ℕ, [], List, Option, Some, None, length, map, slice_index_or, ap, refl, subst, sym}
use Rattle.std.specs.Prelude.{Bool, IfSome, slice_get}
use Rattle.std.proofs.lemmas.Option.{slice_get-get_or}
use Rattle.std.specs.List.{All}
use Rattle.std.proofs.Math.Seq.{get_or-append_seam}
use Rattle.std.proofs.lemmas.List.{get_or_append_left, map-append}
use Rattle.vp_expr.specs.declared.change.Change.{Change}
use Rattle.vp_world.specs.declared.log.Record.{Record}
use Rattle.vp_world.specs.declared.log.Record.TheVariants as record_of
use Rattle.vp_answer.specs.declared.reply.Reply.TheVariants as reply
use Rattle.vp_world.specs.declared.event.Event.TheVariants as event
use Rattle.vp_world.specs.Entries.{Entry}
use Rattle.vp_world.specs.LogRecords.{IsWithin, first_step_after, no_change, no_entry, shown}

-- a record stands for the same entry
same_entry : (os es : List Entry) (cs ds : List Change) (r : Record) → IsWithin (length os) (length cs) r → shown (os ++ es) (cs ++ ds) r ≡ shown os cs r
same_entry os es cs ds (record_of.Step after) within = ap (λ (e : Entry). first_step_after e None) (get_or_append_left os es no_entry after within)
same_entry os es cs ds (record_of.StepWithChange after change) within =
    ap (λ (e : Entry). first_step_after e (Some (slice_index_or (cs ++ ds) change no_change))) (get_or_append_left os es no_entry after within.0)
    ∙ ap (λ (c : Change). first_step_after (slice_index_or os after no_entry) (Some c)) (get_or_append_left cs ds no_change change within.1)
same_entry os es cs ds (record_of.Other index) within = get_or_append_left os es no_entry index within

-- and so do all
same_entries : (os es : List Entry) (cs ds : List Change) (rs : List Record) → All (IsWithin (length os) (length cs)) rs → map (shown (os ++ es) (cs ++ ds)) rs ≡ map (shown os cs) rs
same_entries os es cs ds [] within = refl
same_entries os es cs ds (r ∷ rs) within =
    ap (λ (e : Entry). e ∷ map (shown (os ++ es) (cs ++ ds)) rs) (same_entry os es cs ds r (within zero r (omega arith)))
    ∙ ap (λ (xs : List Entry). shown os cs r ∷ xs) (same_entries os es cs ds rs (λ k d h. within (suc k) d (omega (arith, h))))

-- one record more stands for one entry more
pub one_more : (os os' es : List Entry) (cs cs' ds : List Change) (rs rs' : List Record) (r : Record) (e : Entry)
    → All (IsWithin (length os) (length cs)) rs → os' ≡ os ++ es → cs' ≡ cs ++ ds → rs' ≡ rs ++ r ∷ [] → shown os' cs' r ≡ e
    → map (shown os' cs') rs' ≡ map (shown os cs) rs ++ e ∷ []
one_more os os' es cs cs' ds rs rs' r e within o c s stands =
    ap (map (shown os' cs')) s
    ∙ map-append (shown os' cs') rs (r ∷ [])
    ∙ ap (λ (x : Entry). map (shown os' cs') rs ++ x ∷ []) stands
    ∙ ap (λ (xs : List Entry). map (shown xs cs') rs ++ e ∷ []) o
    ∙ ap (λ (xs : List Change). map (shown (os ++ es) xs) rs ++ e ∷ []) c
    ∙ ap (λ (xs : List Entry). xs ++ e ∷ []) (same_entries os es cs ds rs within)

-- the entry that was added last
pub last_added : (os os' : List Entry) (e : Entry) (n : ℕ) → n ≡ length os → os' ≡ os ++ e ∷ [] → slice_index_or os' n no_entry ≡ e
last_added os os' e n at added =
    ap (λ (xs : List Entry). slice_index_or xs n no_entry) added
    ∙ ap (λ k. slice_index_or (os ++ e ∷ []) k no_entry) at
    ∙ get_or-append_seam os e [] no_entry

-- a step that took the first event at the time of an entry
pub at_time_of : (others : List Entry) (after k time : ℕ) (finished : Bool) (change : Option Change)
    → after < length others → IfSome (slice_get others after) (λ (e : Entry). (e.time ≡ time) × (e.finished ≡ finished)) → k ≡ 0
    → first_step_after (slice_index_or others after no_entry) change ≡ record { event = event.Step k; reply = reply.Done; change = change; time = time; finished = finished }
at_time_of others after k time finished change within like first =
    let x : Entry = slice_index_or others after no_entry in
    let same = subst (λ (o : Option Entry). IfSome o (λ (e : Entry). (e.time ≡ time) × (e.finished ≡ finished))) (slice_get-get_or others after no_entry within) like in
    ap (λ n. record { event = event.Step n; reply = reply.Done; change = change; time = x.time; finished = x.finished }) (sym first)
    ∙ ap (λ n. record { event = event.Step k; reply = reply.Done; change = change; time = n; finished = x.finished }) same.0
    ∙ ap (λ b. record { event = event.Step k; reply = reply.Done; change = change; time = time; finished = b }) same.1
