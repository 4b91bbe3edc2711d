-- What leaves no trace in what goes to a user.
use Rattle.std.proofs.Common.{◌≡◌, ℕ, Bool, false, true, List, Option, Some, None, refl, ap, ◌∙◌, arith}
use Rattle.std.specs.Prelude.{◌==◌, if◌then◌else◌, option_map}
use Rattle.std.specs.Option.{option_map_or}
use Rattle.vp_policy.specs.Users.{member_at, user_of}
use Rattle.vp_sim.specs.States as sim
use Rattle.vp_expr.specs.declared.change.Change.{Change}
use Rattle.vp_answer.specs.declared.request.EndOrder.{EndOrder}
use Rattle.vp_answer.specs.declared.request.GrantChange.{GrantChange}
use Rattle.vp_answer.specs.declared.request.HaltOrder.{HaltOrder}
use Rattle.vp_world.specs.declared.event.Event.TheVariants as event
use Rattle.vp_world.specs.History.{after, change_of, ended_for, granted_to, stepped}
use Rattle.vp_race.specs.Recording.{with_step}
use Rattle.vp_world.specs.Worlds.{Opening, State}
use Rattle.vp_audit.specs.Projections.{change_seen, granted_of, is_end_of, is_followed, item_if, known_after, number_in, order_by, other_flag, other_number}
use Rattle.vp_audit.specs.laws.Promise.{item_at}

-- a number is no other than itself, nor is a flag
same_time : (a b : ℕ) → b ≡ a → other_number a b ≡ None
same_time a b e = let self : (a == b) ≡ true = grind (arith, e) in ap (λ (c : Bool). if c then None else Some b) self

-- nor is whether something is so
same_flag : (a b : Bool) → b ≡ a → other_flag a b ≡ None
same_flag true true e = refl
same_flag false false e = refl
same_flag true false e = absurd (cc)
same_flag false true e = absurd (cc)

-- a change of another's grant leaves none
pub grant_of_another : (opening : Opening) (u : ℕ) (s : State) (known : List Bool) (change : GrantChange) (v : ℕ) → user_of s.policy.members change.user ≡ Some v → (v == u) ≡ false
    → item_if (item_at opening u s known (event.Grant change)) ≡ None
grant_of_another opening u s known change v his other =
    let t : State = after opening s (event.Grant change) in
    let now = known_after u s t known (event.Grant change) in
    let none : (if option_map_or (λ w. w == u) (user_of s.policy.members change.user) false then Some change else None) ≡ None =
    ap (λ (n : Option ℕ). if option_map_or (λ w. w == u) n false then Some change else None) his ∙ ap (λ (b : Bool). if b then Some change else None) other in
    let run : t.run ≡ s.run = ap (λ (n : Option ℕ). (let x : State = option_map_or (granted_to s change) n s in x.run)) his in
    ap (λ (g : Option GrantChange). item_if (record {
      own_event = None;
      order = order_by false (option_map (granted_of u s t known now) g);
      change = None;
      time = other_number s.run.time t.run.time;
      finished = other_flag s.run.finished t.run.finished;
      race = None;
    })) none
    ∙ ap (λ n. item_if (record { own_event = None; order = None; change = None; time = n; finished = other_flag s.run.finished t.run.finished; race = None })) (same_time s.run.time t.run.time (ap (λ (r : sim.State). r.time) run))
    ∙ ap (λ n. item_if (record { own_event = None; order = None; change = None; time = None; finished = n; race = None })) (same_flag s.run.finished t.run.finished (ap (λ (r : sim.State). r.finished) run))

-- an end of another's sessions leaves none
pub end_of_another : (opening : Opening) (u : ℕ) (s : State) (known : List Bool) (order : EndOrder) (v : ℕ) → user_of s.policy.members order.user ≡ Some v → (v == u) ≡ false
    → item_if (item_at opening u s known (event.End order)) ≡ None
end_of_another opening u s known order v his other =
    let t : State = after opening s (event.End order) in
    let no_end : is_end_of u s.policy (event.End order) ≡ false = ap (λ (n : Option ℕ). option_map_or (λ w. w == u) n false) his ∙ other in
    let run : t.run ≡ s.run = ap (λ (n : Option ℕ). (let x : State = option_map_or (ended_for s) n s in x.run)) his in
    ap (λ (b : Bool). item_if (record {
      own_event = None;
      order = order_by b None;
      change = None;
      time = other_number s.run.time t.run.time;
      finished = other_flag s.run.finished t.run.finished;
      race = None;
    })) no_end
    ∙ ap (λ n. item_if (record { own_event = None; order = None; change = None; time = n; finished = other_flag s.run.finished t.run.finished; race = None })) (same_time s.run.time t.run.time (ap (λ (r : sim.State). r.time) run))
    ∙ ap (λ n. item_if (record { own_event = None; order = None; change = None; time = None; finished = n; race = None })) (same_flag s.run.finished t.run.finished (ap (λ (r : sim.State). r.finished) run))

-- a halt leaves none, to anybody
pub halt_leaves_none : (opening : Opening) (u : ℕ) (s : State) (known : List Bool) (order : HaltOrder) → item_if (item_at opening u s known (event.Halt order)) ≡ None
halt_leaves_none opening u s known order =
    ap (λ n. item_if (record { own_event = None; order = None; change = None; time = n; finished = other_flag s.run.finished s.run.finished; race = None })) (same_time s.run.time s.run.time refl)
    ∙ ap (λ n. item_if (record { own_event = None; order = None; change = None; time = None; finished = n; race = None })) (same_flag s.run.finished s.run.finished refl)

-- a step that changes what a user may neither read nor watch leaves none, where the time stays and $finish is not executed
pub hidden_step : (opening : Opening) (u : ℕ) (s : State) (known : List Bool) (k : ℕ) (run : sim.State) (c : Change) → sim.step s.run k ≡ sim.Goes run (Some c)
    → is_followed s.run.design.tree (member_at s.policy.members u) c.object.0 ≡ false → run.time ≡ s.run.time → run.finished ≡ s.run.finished
    → item_if (item_at opening u s known (event.Step k)) ≡ None
hidden_step opening u s known k run c goes hidden time finished =
    let m = member_at s.policy.members u in
    let d = s.run.design.tree in
    ap (λ (o : sim.Outcome). (let t : State = stepped s (with_step s.segments k) o in
    item_if (record { own_event = None; order = None; change = change_seen d m known (change_of o); time = other_number s.run.time t.run.time; finished = other_flag s.run.finished t.run.finished; race = None }))) goes
    ∙ ap (λ (b : Bool). item_if (record {
      own_event = None;
      order = None;
      change = option_map (λ (n : ℕ). record { object = record { 0 = n }; value = c.value }) (if b then number_in known c.object.0 else None);
      time = other_number s.run.time run.time;
      finished = other_flag s.run.finished run.finished;
      race = None;
    })) hidden
    ∙ ap (λ n. item_if (record { own_event = None; order = None; change = None; time = n; finished = other_flag s.run.finished run.finished; race = None })) (same_time s.run.time run.time time)
    ∙ ap (λ n. item_if (record { own_event = None; order = None; change = None; time = None; finished = n; race = None })) (same_flag s.run.finished run.finished finished)
