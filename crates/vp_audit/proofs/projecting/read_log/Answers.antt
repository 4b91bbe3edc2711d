use Rattle.std.proofs.Common.{arith, ◌≡◌, ◌∙◌, ◌+◌, ℕ, List, Vec, Global, Ok, Some, ap, refl, subst, sym}
use Rattle.std.specs.Prelude.{slice_get}
use Rattle.std.proofs.lemmas.Option.{slice_get-get_or}
use Rattle.vp_policy.specs.Users.{member_at}
use Rattle.vp_sim.specs.States as sim
use Rattle.vp_world.specs.Entries.{Entry}
use Rattle.vp_replay.specs.declared.item.Item.{Item}
use Rattle.vp_audit.specs.Projections.{values_seen}
use Rattle.vp_audit.specs.Readings.{LogReader, Reads, reading_of}
use Rattle.vp_audit.proofs.LogReading.{IsAt, all_read, continues, next_at, projection_is, with_item}
use Rattle.vp_audit.proofs.projecting.read_log.Goals.{in-Some+in_ok-push, in_default}
use Rattle.vp_audit.proofs.projecting.read_log.Goals as goal

pub loop-index-preserved : goal.loop-index-preserved
loop-index-preserved c opening u first legal =
    let log : List Entry = c.args.log.now.entries in
    let n = c.loop-index.index in
    let done : List Item = c.loop-index.items.items in
    let reading : LogReader = c.loop-index.reading in
    let e : Entry = c.entry-entry.result.now in
    let at = c.loop-index.invariant opening u first legal in
    let there : slice_get log n ≡ Some e = c.entry-entry.ensures in
    let goes = continues opening u log n done reading at e there in
    let his : reading ≡ reading_of reading.user at.state at.known = subst (λ (r : LogReader). r ≡ reading_of r.user at.state at.known) (sym at.reads) refl in
    let reads : Reads u opening at.state at.known e (Ok c.in_ok-item.field-0) c.item.new.self =
    subst (λ (w : ℕ). Reads w opening at.state at.known e (Ok c.in_ok-item.field-0) c.item.new.self) (ap (λ (r : LogReader). r.user) at.reads)
    ((c.in_ok-item.ensures {u = tt}).item opening at.state at.known his goes) in
    let items : c.match-branch-3.items.items ≡ with_item done c.in_ok-item.field-0 =
    elim c.match-branch-3.branch [
      | in-Some+in_ok-push w ↦
          ap (λ (v : Vec Item Global). v.items) w.items-is ∙ (w.in_ok-push.ensures {u = tt}).items ∙ ap (with_item done) (sym w.in-Some.is)
      | in_default w ↦ ap (λ (v : Vec Item Global). v.items) w.items-is ∙ ap (with_item done) (sym w.in_default.is)
    ] in
    subst (λ (is : List Item). IsAt opening u log (n + 1) is c.item.new.self) (sym items)
    (next_at opening u log n done reading at e there c.in_ok-item.field-0 c.item.new.self reads.item reads.reading)

pub returns-clause-projection : goal.returns-clause-projection
returns-clause-projection c opening u first legal =
    let log : List Entry = c.args.log.now.entries in
    projection_is opening u log c.in_ok-values.values c.from_vec.result
    (c.in_ok-values.ensures {u = tt} (sim.start opening.design) (sym (ap (λ (r : LogReader). r.design) first)) (sym (ap (λ (r : LogReader). r.values) first))
    ∙ ap (λ (r : LogReader). values_seen (sim.start opening.design) (member_at r.policy.members r.user) r.known) first)
    (c.from_vec.ensures
    ∙ sym (all_read opening u log c.loop-index.index c.loop-index.items.items c.loop-index.reading (c.loop-index.invariant opening u first legal) (omega (arith, c.len-index-end.ensures, c.loop-index-test.false))))
