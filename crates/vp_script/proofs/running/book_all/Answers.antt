use Rattle.std.proofs.Common.{rules, ◌≡◌, ℕ, All, List, Some, sym, subst}
use Rattle.std.specs.Prelude.{drop, slice_get}
use Rattle.vp_race.specs.Segments.{FindingState}
use Rattle.vp_world.specs.declared.event.Event.TheVariants as event
use Rattle.vp_world.specs.Worlds.{WorldLog}
use Rattle.vp_script.specs.Pending.{HappensTo}
use Rattle.vp_script.specs.Scripts.{Running}
use Rattle.vp_script.proofs.Turns.{booked_designs, booked_next}
use Rattle.vp_script.proofs.running.book_all.Goals as goal

pub returns-in_err-book-clause-happened : goal.returns-in_err-book-clause-happened
returns-in_err-book-clause-happened c = λ seeds.
    subst (λ (w : WorldLog). HappensTo (record { world = c.args.world.now; found = c.args.findings.now.items; seeds = seeds }) (record { world = w; found = c.loop-first.findings.items; seeds = seeds }))
    (sym (c.in_err-book.ensures {u = tt}).unchanged) (c.loop-first.invariant.happened seeds)

pub loop-first-preserved-in_ok-book : goal.loop-first-preserved-in_ok-book
loop-first-preserved-in_ok-book c =
    let begins : ℕ → Running = λ seeds. record { world = c.args.world.now; found = c.args.findings.now.items; seeds = seeds } in
    let w = c.loop-first.world in
    let v = c.book.new.world in
    let items = c.loop-first.findings.items in
    let finding = c.in_ok-finding.finding in
    let rest : c.pop_front-booked.new.self.items ≡ drop 1 items = search rules in
    let there : Some finding ≡ slice_get items 0 = search rules in
    let is = (c.in_ok-book.ensures {u = tt}).booked in
    record {
      happened = λ seeds.
          subst (λ (fs : List FindingState). HappensTo (begins seeds) (record { world = v; found = fs; seeds = seeds })) (sym rest)
          (booked_next seeds (begins seeds) w v items finding (c.loop-first.invariant.happened seeds) there is);
      designs = subst (λ (fs : List FindingState). All (λ (f : FindingState). f.segment.start.design ≡ v.opening.design) fs) (sym rest) (booked_designs w v (event.Book finding) items is c.loop-first.invariant.designs);
    }
