use Rattle.std.proofs.Common.{rules, ◌≡◌, ◌∙◌, [], Bool, List, None, Option, ap, arith, false, option_map, subst, sym, true}
use Rattle.std.specs.Prelude.{is_err, is_none}
use Rattle.std.specs.Arc.{arc_value}
use Rattle.vp_race.specs.Segments.{FindingState, Run}
use Rattle.vp_world.specs.declared.event.Event.TheVariants as event
use Rattle.vp_world.specs.History.{refused_by}
use Rattle.vp_world.specs.Worlds.{WorldLog}
use Rattle.vp_script.specs.Pending.{ArePending, HappensTo, running_of}
use Rattle.vp_script.specs.Scripts.{Running, Runs, next_event}
use Rattle.vp_script.proofs.Turns.{all_booked, happens_next, happens_then, less_by_turn, next_happened, none_pending, nothing_pending, room, room_kept, run_out_of_memory, run_over}
use Rattle.vp_script.proofs.running.run.Goals as goal

pub returns-in_err-book_pending-clause-runs : goal.returns-in_err-book_pending-clause-runs
returns-in_err-book_pending-clause-runs c =
    let seeds = c.args.seeds in
    let begins = running_of seeds c.args.world.now (option_map arc_value c.args.segment.now) c.args.findings.now.items in
    let ends = running_of seeds c.book_pending.new.world (option_map arc_value c.book_pending.new.segment) c.book_pending.new.findings.items in
    let allocation_error : is_err c.from_residual.result ≡ true = search rules in
    subst (λ (b : Bool). Runs b begins ends) (sym allocation_error) (run_out_of_memory begins ends (happens_then begins _ ends c.loop-world.invariant.happened c.book_pending.ensures.happened))

pub returns-in_err-take_job-clause-runs : goal.returns-in_err-take_job-clause-runs
returns-in_err-take_job-clause-runs c =
    let seeds = c.args.seeds in
    let begins = running_of seeds c.args.world.now (option_map arc_value c.args.segment.now) c.args.findings.now.items in
    let items = c.book_pending.new.findings.items in
    let same = (c.in_err-take_job.ensures {u = tt}).unchanged in
    let segment : option_map arc_value c.take_job.new.segment ≡ option_map arc_value c.book_pending.new.segment = ap (option_map arc_value) same.1 in
    let booked = happens_then begins _ (running_of seeds c.book_pending.new.world (option_map arc_value c.book_pending.new.segment) items) c.loop-world.invariant.happened c.book_pending.ensures.happened in
    let by_world : HappensTo begins (running_of seeds c.take_job.new.world (option_map arc_value c.book_pending.new.segment) items) =
    subst (λ (u : WorldLog). HappensTo begins (running_of seeds u (option_map arc_value c.book_pending.new.segment) items)) (sym same.0) booked in
    let ends = running_of seeds c.take_job.new.world (option_map arc_value c.take_job.new.segment) items in
    let happened : HappensTo begins ends = subst (λ (o : Option Run). HappensTo begins (running_of seeds c.take_job.new.world o items)) (sym segment) by_world in
    let allocation_error : is_err c.from_residual-in_err-take_job.result ≡ true = search rules in
    subst (λ (b : Bool). Runs b begins ends) (sym allocation_error) (run_out_of_memory begins ends happened)

pub loop-world-smaller-then-branch : goal.loop-world-smaller-then-branch
loop-world-smaller-then-branch c =
    let seeds = c.args.seeds in
    let taken = (c.in_ok-take_job.ensures {u = tt}).some c.if-branch.true in
    let less = less_by_turn seeds c.book_pending.new.world c.take_job.new.world _ taken.0 in
    let kept = room_kept c.book_pending.ensures.happened.0 _ _ c.book_pending.ensures.happened.1 in
    omega (arith, less, kept)

pub loop-world-preserved-then-branch : goal.loop-world-preserved-then-branch
loop-world-preserved-then-branch c =
    let seeds = c.args.seeds in
    let begins = running_of seeds c.args.world.now (option_map arc_value c.args.segment.now) c.args.findings.now.items in
    let all = (c.in_ok-book_pending.ensures {u = tt}).all in
    let booked =
    all_booked seeds begins _ c.book_pending.new.world (option_map arc_value c.book_pending.new.segment) c.book_pending.new.findings.items
    c.loop-world.invariant.happened c.book_pending.ensures.happened (ap (option_map arc_value) all.0) all.1 in
    let taken = (c.in_ok-take_job.ensures {u = tt}).some c.if-branch.true in
    let segment = option_map arc_value c.take_job.new.segment in
    record {
      happened = subst (λ (fs : List FindingState). HappensTo begins (running_of seeds c.take_job.new.world segment fs)) (sym all.1) (happens_next begins _ _ booked taken.0);
      pending = subst (λ (fs : List FindingState). ArePending c.take_job.new.world.opening.design segment fs) (sym all.1) taken.1;
    }

pub loop-world-smaller : goal.loop-world-smaller
loop-world-smaller c =
    let seeds = c.args.seeds in
    let rests = (c.in_ok-take_job.ensures {u = tt}).none c.if-branch.false in
    let no_job : is_none (refused_by c.take_job.new.world event.TakeJob) ≡ false = subst (λ (u : WorldLog). is_none (refused_by u event.TakeJob) ≡ false) (sym rests.1) rests.0 in
    let next = (c.in-Ok.ensures {u = tt}).ok in
    let less = less_by_turn seeds c.take_job.new.world c.run_next.new.world [] (next_happened seeds c.take_job.new.world c.run_next.new.world no_job next.0 next.1) in
    let kept = room_kept c.book_pending.ensures.happened.0 _ _ c.book_pending.ensures.happened.1 in
    let same = ap room rests.1 in
    omega (arith, less, kept, same)

pub loop-world-preserved : goal.loop-world-preserved
loop-world-preserved c =
    let seeds = c.args.seeds in
    let begins = running_of seeds c.args.world.now (option_map arc_value c.args.segment.now) c.args.findings.now.items in
    let all = (c.in_ok-book_pending.ensures {u = tt}).all in
    let booked =
    all_booked seeds begins _ c.book_pending.new.world (option_map arc_value c.book_pending.new.segment) c.book_pending.new.findings.items
    c.loop-world.invariant.happened c.book_pending.ensures.happened (ap (option_map arc_value) all.0) all.1 in
    let rests = (c.in_ok-take_job.ensures {u = tt}).none c.if-branch.false in
    let no_job : is_none (refused_by c.take_job.new.world event.TakeJob) ≡ false = subst (λ (u : WorldLog). is_none (refused_by u event.TakeJob) ≡ false) (sym rests.1) rests.0 in
    let next = (c.in-Ok.ensures {u = tt}).ok in
    let ready : HappensTo begins (record { world = c.take_job.new.world; found = []; seeds = seeds }) =
    subst (λ (u : WorldLog). HappensTo begins (record { world = u; found = []; seeds = seeds })) (sym rests.1) booked in
    let none : option_map arc_value c.take_job.new.segment ≡ None = ap (option_map arc_value) (rests.2 ∙ all.0) in
    record {
      happened =
          subst (λ (fs : List FindingState). HappensTo begins (record { world = c.run_next.new.world; found = fs; seeds = seeds })) (sym (none_pending seeds _ _ none all.1))
          (happens_next begins _ _ ready (next_happened seeds c.take_job.new.world c.run_next.new.world no_job next.0 next.1));
      pending = nothing_pending c.run_next.new.world.opening.design _ _ none all.1;
    }

pub returns-in-Err-NoMemory-clause-runs : goal.returns-in-Err-NoMemory-clause-runs
returns-in-Err-NoMemory-clause-runs c =
    let seeds = c.args.seeds in
    let begins = running_of seeds c.args.world.now (option_map arc_value c.args.segment.now) c.args.findings.now.items in
    let all = (c.in_ok-book_pending.ensures {u = tt}).all in
    let booked =
    all_booked seeds begins _ c.book_pending.new.world (option_map arc_value c.book_pending.new.segment) c.book_pending.new.findings.items
    c.loop-world.invariant.happened c.book_pending.ensures.happened (ap (option_map arc_value) all.0) all.1 in
    let rests = (c.in_ok-take_job.ensures {u = tt}).none c.if-branch.false in
    let same = (c.in-Err-NoMemory.ensures {u = tt}).unchanged ∙ rests.1 in
    let none : option_map arc_value c.take_job.new.segment ≡ None = ap (option_map arc_value) (rests.2 ∙ all.0) in
    let ends : Running = record { world = c.run_next.new.world; found = []; seeds = seeds } in
    subst (λ (fs : List FindingState). Runs true begins (record { world = c.run_next.new.world; found = fs; seeds = seeds })) (sym (none_pending seeds _ _ none all.1))
    (run_out_of_memory begins ends (subst (λ (u : WorldLog). HappensTo begins (record { world = u; found = []; seeds = seeds })) (sym same) booked))

pub returns-in-Err : goal.returns-in-Err
returns-in-Err c =
    let seeds = c.args.seeds in
    let begins = running_of seeds c.args.world.now (option_map arc_value c.args.segment.now) c.args.findings.now.items in
    let all = (c.in_ok-book_pending.ensures {u = tt}).all in
    let booked =
    all_booked seeds begins _ c.book_pending.new.world (option_map arc_value c.book_pending.new.segment) c.book_pending.new.findings.items
    c.loop-world.invariant.happened c.book_pending.ensures.happened (ap (option_map arc_value) all.0) all.1 in
    let rests = (c.in_ok-take_job.ensures {u = tt}).none c.if-branch.false in
    let no_job : is_none (refused_by c.take_job.new.world event.TakeJob) ≡ false = subst (λ (u : WorldLog). is_none (refused_by u event.TakeJob) ≡ false) (sym rests.1) rests.0 in
    let no_event : is_none (refused_by c.take_job.new.world (next_event c.take_job.new.world)) ≡ false = search rules in
    let ready : HappensTo begins (record { world = c.take_job.new.world; found = []; seeds = seeds }) =
    subst (λ (u : WorldLog). HappensTo begins (record { world = u; found = []; seeds = seeds })) (sym rests.1) booked in
    let same = (c.in-Err.ensures {u = tt}).unchanged in
    let none : option_map arc_value c.take_job.new.segment ≡ None = ap (option_map arc_value) (rests.2 ∙ all.0) in
    record {
      runs =
          subst (λ (fs : List FindingState). Runs false begins (record { world = c.run_next.new.world; found = fs; seeds = seeds })) (sym (none_pending seeds _ _ none all.1))
          (subst (λ (u : WorldLog). Runs false begins (record { world = u; found = []; seeds = seeds })) (sym same) (run_over seeds begins c.take_job.new.world ready no_job no_event));
      pending = nothing_pending c.run_next.new.world.opening.design _ _ none all.1;
    }
