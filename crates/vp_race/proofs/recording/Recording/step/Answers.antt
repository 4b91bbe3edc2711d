use Rattle.std.proofs.Common.{◌≡◌, ◌∙◌, ◌++◌, ◌∷◌, [], ℕ, suc, true, false, if◌then◌else◌, Option, Result, Ok, Err, ap, subst, sym}
use Rattle.std.specs.Prelude.{OnOk, is_err, option_map}
use Rattle.vp_elab.specs.declared.object.ObjectId.{ObjectId}
use Rattle.vp_sim.specs.States.{Goes, State, change_in, step}
use Rattle.vp_race.specs.Orders.{is_over}
use Rattle.vp_race.specs.Recording.{Begun, HasRoom, IsKept, Opened, Recorded, Ring, Segments, Stands, closed_run, last_kept, opened_at, opened_by, with_choice, with_step}
use Rattle.vp_race.proofs.Standing.{opened_more, stands_more}
use Rattle.vp_race.proofs.recording.Recording.step.Goals as goal

-- what holds of what is no error
met : {X Y : Type 0} (P : Type 0) (r : Result X Y) → is_err r ≡ false → OnOk r P → P
met P (Ok x) fine h = h
met P (Err e) fine h = cc

pub close-requires-clause-stands : goal.close-requires-clause-stands
close-requires-clause-stands c =
    let s = c.make_ready.new.simulation in
    let begun = c.make_ready.new.self in
    let stands = subst (λ (x : State). Stands begun x) (sym c.make_ready.ensures.same) c.make_ready.ensures.stands in
    let kept = subst (λ (x : State). IsKept begun x) (sym c.make_ready.ensures.same) (met (IsKept begun c.self.inside.simulation) c.make_ready.result (sym c.is_err.ensures.value ∙ c.if-is_err.false) c.make_ready.ensures.kept) in
    subst (λ (b : Option Begun). Stands b c.step.new.self) (sym c.note.ensures)
    (stands_more begun s c.step.new.self c.args.k c.in_ok-stepped.stepped.source (change_in c.step.new.self c.in_ok-stepped.stepped.changed) stands kept (c.in_ok-stepped.ensures {u = tt}).ok (c.in_ok-stepped.ensures {u = tt}).source)

pub invariant_of-self-else-is_over : goal.invariant_of-self-else-is_over
invariant_of-self-else-is_over c =
    let s = c.make_ready.new.simulation in
    let begun = c.make_ready.new.self in
    let stands = subst (λ (x : State). Stands begun x) (sym c.make_ready.ensures.same) c.make_ready.ensures.stands in
    let kept = subst (λ (x : State). IsKept begun x) (sym c.make_ready.ensures.same) (met (IsKept begun c.self.inside.simulation) c.make_ready.result (sym c.is_err.ensures.value ∙ c.if-is_err.false) c.make_ready.ensures.kept) in
    subst (λ (b : Option Begun). Stands b c.step.new.self) (sym c.note.ensures)
    (stands_more begun s c.step.new.self c.args.k c.in_ok-stepped.stepped.source (change_in c.step.new.self c.in_ok-stepped.stepped.changed) stands kept (c.in_ok-stepped.ensures {u = tt}).ok (c.in_ok-stepped.ensures {u = tt}).source)

-- an open segment after one choice more
abbrev longer : Opened → ℕ → Opened
longer o k = record { start = o.start; order = o.order ++ k ∷ [] }

-- where something is left to do the open segment goes on
goes : (r : Segments) (k : ℕ) (s : State) (o : Opened) → is_over s ≡ false → o ≡ longer r.opened k → record r { opened = o } ≡ with_step r k s
goes r k s o left is =
    ap (λ (x : Opened). record r { opened = x }) is
    ∙ sym (ap (λ b. if b then record r { opened = opened_at s; count = suc r.count; kept = last_kept (r.kept ++ closed_run r k ∷ []) } else record r { opened = longer r.opened k }) left)

-- and else it closes
ends : (r : Segments) (k : ℕ) (s : State) (o : Opened) → is_over s ≡ true → o ≡ longer r.opened k
    → record r { opened = opened_at s; count = suc r.count; kept = last_kept (r.kept ++ record { number = suc r.count; start = o.start; order = o.order } ∷ []) } ≡ with_step r k s
ends r k s o over is =
    ap (λ (x : Opened). record r { opened = opened_at s; count = suc r.count; kept = last_kept (r.kept ++ record { number = suc r.count; start = x.start; order = x.order } ∷ []) }) is
    ∙ sym (ap (λ b. if b then record r { opened = opened_at s; count = suc r.count; kept = last_kept (r.kept ++ closed_run r k ∷ []) } else record r { opened = longer r.opened k }) over)

seen : (r t : Recorded) (k : ℕ) (s : State) (segments : Segments) → segments ≡ with_step r.segments k s → r ≡ t → segments ≡ with_step t.segments k s
seen r t k s segments is same = is ∙ ap (λ (x : Recorded). with_step x.segments k s) same

-- the open segment after a step
grown : (begun noted : Option Begun) (s next : State) (k : ℕ) (source : ObjectId) (change : _) (o : Opened) → HasRoom begun → IsKept begun s
    → step s k ≡ Goes next change → noted ≡ option_map (λ b. with_choice b k source) begun → opened_by begun s ≡ o → opened_by noted next ≡ longer o k
grown begun noted s next k source change o room kept goes is before =
    ap (λ (b : Option Begun). opened_by b next) is ∙ opened_more begun s next k source change room kept goes ∙ ap (λ (x : Opened). longer x k) before

pub returns-then-is_over-clause-segments : goal.returns-then-is_over-clause-segments
returns-then-is_over-clause-segments c =
    let i = c.self.inside in
    let k = c.args.k in
    let s = c.make_ready.new.simulation in
    let begun = c.make_ready.new.self in
    let next = c.step.new.self in
    let fine = sym c.is_err.ensures.value ∙ c.if-is_err.false in
    let room = met (HasRoom begun) c.make_ready.result fine c.make_ready.ensures.room in
    let kept = subst (λ (x : State). IsKept begun x) (sym c.make_ready.ensures.same) (met (IsKept begun i.simulation) c.make_ready.result fine c.make_ready.ensures.kept) in
    let stepped = c.in_ok-stepped.stepped in
    let more = grown begun c.note.new.self s next k stepped.source (change_in next stepped.changed) (opened_by i.begun i.simulation) room kept (c.in_ok-stepped.ensures {u = tt}).ok c.note.ensures (ap (opened_by begun) c.make_ready.ensures.same ∙ c.make_ready.ensures.seen) in
    let old : Recorded = record { simulation = i.simulation; segments = record { opened = opened_by i.begun i.simulation; count = i.closed.count; kept = i.closed.kept; last_job = i.last_job } } in
    ap (λ (b : Option Begun). record { opened = opened_by b next; count = c.close.new.closed.count; kept = c.close.new.closed.kept; last_job = i.last_job }) c.close.ensures.begun
    ∙ ap (λ (r : Ring). record { opened = opened_at next; count = r.count; kept = r.kept; last_job = i.last_job }) c.close.ensures.closed
    ∙ seen old c.args.self.now k next _ (ends old.segments k next (opened_by c.note.new.self next) (sym c.is_over.ensures ∙ c.if-is_over.true) more) c.self.view_is

pub returns-else-is_over-clause-segments : goal.returns-else-is_over-clause-segments
returns-else-is_over-clause-segments c =
    let i = c.self.inside in
    let k = c.args.k in
    let s = c.make_ready.new.simulation in
    let begun = c.make_ready.new.self in
    let next = c.step.new.self in
    let fine = sym c.is_err.ensures.value ∙ c.if-is_err.false in
    let room = met (HasRoom begun) c.make_ready.result fine c.make_ready.ensures.room in
    let kept = subst (λ (x : State). IsKept begun x) (sym c.make_ready.ensures.same) (met (IsKept begun i.simulation) c.make_ready.result fine c.make_ready.ensures.kept) in
    let stepped = c.in_ok-stepped.stepped in
    let more = grown begun c.note.new.self s next k stepped.source (change_in next stepped.changed) (opened_by i.begun i.simulation) room kept (c.in_ok-stepped.ensures {u = tt}).ok c.note.ensures (ap (opened_by begun) c.make_ready.ensures.same ∙ c.make_ready.ensures.seen) in
    let old : Recorded = record { simulation = i.simulation; segments = record { opened = opened_by i.begun i.simulation; count = i.closed.count; kept = i.closed.kept; last_job = i.last_job } } in
    seen old c.args.self.now k next _ (goes old.segments k next (opened_by c.note.new.self next) (sym c.is_over.ensures ∙ c.if-is_over.false) more) c.self.view_is
