-- What every desk keeps, after an event, an opening, and a pass that was handed back.
use Rattle.std.proofs.Common.{◌≡◌, ◌∙◌, ◌≤◌, ◌-◌, ℕ, ◌+◌, Bool, true, false, cond, List, [], ◌∷◌, ◌++◌, Some, ap, arith, length, refl, remove, subst, sum_by, sym}
use Rattle.std.specs.Prelude.{if◌then◌else◌, min, slice_get}
use Rattle.std.proofs.lemmas.Bool.{le-leb}
use Rattle.std.proofs.lemmas.List.{length_push}
use Rattle.std.proofs.lemmas.List.Edits.{length-remove}
use Rattle.std.proofs.lemmas.List.Sums.{sum_by_push}
use Rattle.std.proofs.lemmas.Option.{slice_get_within}
use Rattle.vp_answer.specs.declared.request.SessionId.{SessionId}
use Rattle.vp_world.specs.declared.event.Event.{Event}
use Rattle.vp_world.specs.declared.event.Event.TheVariants as event
use Rattle.vp_world.specs.Entries.{Entry}
use Rattle.vp_world.specs.Worlds.{Opening, WorldLog}
use Rattle.vp_hub.specs.Calls.{Keeps, Passed, is_of_session, session_entries}
use Rattle.vp_hub.specs.Desks.{Desked, IsDesk, IsOther, KeepsPasses, counted_more, handed_out, handed_out_to, is_due}
use Rattle.vp_hub.specs.declared.archive.LogArchive.TheVariants as kinds
use Rattle.vp_world.specs.declared.archive.CountingArchive.{CountingArchive}

-- an event that is of no session
pub other_event : (e : Event) → IsOther e → is_of_session e ≡ false
other_event (event.Open user token) other = absurd other
other_event (event.Ask id r) other = absurd other
other_event (event.Close id) other = absurd other
other_event (event.Grant change) other = refl
other_event (event.End order) other = refl
other_event (event.Halt order) other = refl
other_event (event.Step k) other = refl
other_event event.Advance other = refl
other_event event.TakeJob other = refl
other_event (event.Book finding) other = refl

-- a world with one entry more
abbrev pub one_more : WorldLog → Entry → WorldLog
one_more w x = record w { log = w.log ++ x ∷ [] }

-- the entries of sessions in a log with one entry more
entries_more : (log : List Entry) (x : Entry) → session_entries (log ++ x ∷ []) ≡ session_entries log + cond (is_of_session x.event) 1 0
entries_more log x = sum_by_push (λ (e : Entry). cond (is_of_session e.event) 1 0) log x

-- how many they are, and how many there are in all
counts_more : (w v : WorldLog) (x : Entry) → v ≡ one_more w x → (session_entries v.log ≡ session_entries w.log + cond (is_of_session x.event) 1 0) × (length v.log ≡ length w.log + 1)
counts_more w v x is = (ap (λ (u : WorldLog). session_entries u.log) is ∙ entries_more w.log x, ap (λ (u : WorldLog). length u.log) is ∙ length_push w.log x)

-- after an event, which is counted if it is of a session
pub desk_on : (opening : Opening) (all amount : ℕ) (d next : Desked) (x : Entry) → IsDesk opening all d amount → next.world ≡ one_more d.world x → next.total ≡ d.total + cond (is_of_session x.event) 1 0
    → next.parts ≡ d.parts → next.passes_out ≡ d.passes_out → next.handed_back ≡ d.handed_back → IsDesk opening all next amount
desk_on opening all amount d next x desk world total parts out back =
    let more = counts_more d.world next.world x world in
    let long = ap (λ (ids : List SessionId). length ids) out in
    record {
      opened = ap (λ (w : WorldLog). w.opening) world ∙ desk.opened;
      counted = total ∙ ap (λ (n : ℕ). n + cond (is_of_session x.event) 1 0) desk.counted ∙ sym more.0;
      room = omega (arith, desk.room, parts, more.1);
      parts = omega (arith, desk.parts, parts, long);
      sum = desk.sum ∙ ap (λ (ps : List Passed). sum_by (λ (p : Passed). length p.indexes) ps) (sym back);
    }

-- after an opening
pub desk_out : (opening : Opening) (all amount left : ℕ) (d next : Desked) (x : Entry) (id : SessionId) → IsDesk opening all d amount → next.world ≡ one_more d.world x → is_of_session x.event ≡ true → next.total ≡ d.total + 1
    → next.parts + 1 ≡ d.parts → next.passes_out ≡ d.passes_out ++ id ∷ [] → next.handed_back ≡ d.handed_back → left ≡ amount → IsDesk opening all next left
desk_out opening all amount left d next x id desk world of_session total parts out back same =
    let more = counts_more d.world next.world x world in
    let one : cond {A = ℕ} (is_of_session x.event) 1 0 ≡ 1 = ap {B = ℕ} (λ (b : Bool). cond b 1 0) of_session in
    let long : length next.passes_out ≡ length d.passes_out + 1 = ap (λ (ids : List SessionId). length ids) out ∙ length_push d.passes_out id in
    record {
      opened = ap (λ (w : WorldLog). w.opening) world ∙ desk.opened;
      counted = omega (arith, total, desk.counted, more.0, one);
      room = omega (arith, desk.room, parts, more.1);
      parts = omega (arith, desk.parts, parts, long);
      sum = same ∙ desk.sum ∙ ap (λ (ps : List Passed). sum_by (λ (p : Passed). length p.indexes) ps) (sym back);
    }

-- after a pass that was handed back
pub desk_back : (opening : Opening) (all amount left n : ℕ) (d next : Desked) (p : Passed) → IsDesk opening all d amount → Keeps p → slice_get d.passes_out n ≡ Some p.session → next.world ≡ d.world → next.total ≡ d.total
    → next.parts ≡ d.parts + p.parts → next.passes_out ≡ remove d.passes_out n → next.handed_back ≡ d.handed_back ++ p ∷ [] → left ≡ amount + p.amount → IsDesk opening all next left
desk_back opening all amount left n d next p desk keeps at world total parts out back more =
    let there = slice_get_within d.passes_out n p.session at in
    let long : length next.passes_out ≡ length (remove d.passes_out n) = ap (λ (ids : List SessionId). length ids) out in
    let fewer = length-remove d.passes_out n there in
    let all_calls : sum_by (λ (q : Passed). length q.indexes) next.handed_back ≡ sum_by (λ (q : Passed). length q.indexes) d.handed_back + length p.indexes =
    ap (λ (ps : List Passed). sum_by (λ (q : Passed). length q.indexes) ps) back ∙ sum_by_push (λ (q : Passed). length q.indexes) d.handed_back p in
    let same_length = ap (λ (w : WorldLog). length w.log) world in
    record {
      opened = ap (λ (w : WorldLog). w.opening) world ∙ desk.opened;
      counted = total ∙ desk.counted ∙ ap (λ (w : WorldLog). session_entries w.log) (sym world);
      room = omega (arith, desk.room, parts, keeps.one, same_length);
      parts = omega (arith, desk.parts, parts, keeps.one, long, fewer);
      sum = omega (arith, more, desk.sum, keeps.counted, all_calls);
    }

-- the same passes
pub same_passes : (log next : List Entry) (out next_out : List SessionId) (back next_back : List Passed) → KeepsPasses log out back → next ≡ log → next_out ≡ out → next_back ≡ back → KeepsPasses next next_out next_back
same_passes log next out next_out back next_back keeps a b c =
    subst (λ (x : List Entry × List SessionId × List Passed). KeepsPasses x.0 x.1 x.2) (λ i. (sym a i, sym b i, sym c i)) keeps

-- the first of two, where it is chosen
chosen : {X : Type 0} (b : Bool) (x y : X) → b ≡ true → (if b then x else y) ≡ x
chosen true x y h = refl
chosen false x y h = absurd (cc)

-- a desk whose log was handed out to an archive that counts
pub counted_out : (d : Desked) (a b : CountingArchive) (w : WorldLog) (n : ℕ) → d.archive ≡ kinds.Counting a → n ≡ length d.world.log - d.world.handed_out → is_due d ≡ true
    → w ≡ record d.world { handed_out = length d.world.log } → b.entries ≡ min (a.entries + n) 18446744073709551615
    → record d { world = w; archive = kinds.Counting b } ≡ handed_out d
counted_out d a b w n is count due world entries =
    let m = length d.world.log - d.world.handed_out in
    (λ i. record d { world = world i; archive = kinds.Counting (record { entries = (entries ∙ ap (λ k. min (a.entries + k) 18446744073709551615) count) i }) })
    ∙ sym (chosen (is_due d) (record d { world = record d.world { handed_out = length d.world.log }; archive = counted_more a m }) d due)
    ∙ ap (handed_out_to d) (sym is)

-- it is handed out, by an archive that never refuses
pub hands_out : (b : Bool) (d next : Desked) → (b ≡ true → next ≡ handed_out d) → (b ≡ false → ⊥) → next ≡ handed_out d
hands_out true d next taken refused = taken refl
hands_out false d next taken refused = absurd (refused refl)
