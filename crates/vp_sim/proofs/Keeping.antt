-- A simulation that begins, or goes on from a copy.
use Rattle.std.proofs.Common.{◌≡◌, ◌∙◌, ℕ, Bool, false, List, Option, Result, Ok, Err, ap, length, sym}
use Rattle.std.specs.Prelude.{OnOk}
use Rattle.std.specs.Result.{is_err}
use Rattle.std.proofs.lemmas.List.{length-map, length-replicate}
use Rattle.vp_bits.specs.declared.bit.Bit.{Bit}
use Rattle.vp_elab.specs.Built.{Elaborated}
use Rattle.vp_expr.specs.Tables.{tables_of}
use Rattle.vp_expr.specs.Start.{start_of}
use Rattle.vp_statement.specs.Walking.{flow_of}
use Rattle.vp_strata.specs.Queues.{Queue}
use Rattle.vp_waking.specs.declared.waiting.Waiting.{Waiting}
use Rattle.vp_waking.specs.declared.waiting.Waiting.TheVariants.{Nothing}
use Rattle.vp_waking.specs.Listening.{AreHeard}
use Rattle.vp_waking.proofs.Hearing.{all_nothing}
use Rattle.vp_sim.specs.States.{FitsDesign, IsWhole, State, start}

-- two states are the same, part by part
pub one_state : (design : Elaborated) (time : ℕ) (finished : Bool) (values : List (List Bit)) (remaining : List (Option ℕ)) (waiting : List Waiting) (queue : Queue) (k : State)
    → design ≡ k.design → time ≡ k.time → finished ≡ k.finished → values ≡ k.values → remaining ≡ k.remaining → waiting ≡ k.waiting → queue ≡ k.queue
    → record { design = design; time = time; finished = finished; values = values; remaining = remaining; waiting = waiting; queue = queue } ≡ k
one_state design time finished values remaining waiting queue k d t f v r w q =
    ap (λ x. record { design = x; time = time; finished = finished; values = values; remaining = remaining; waiting = waiting; queue = queue }) d
    ∙ ap (λ x. record { design = k.design; time = x; finished = finished; values = values; remaining = remaining; waiting = waiting; queue = queue }) t
    ∙ ap (λ x. record { design = k.design; time = k.time; finished = x; values = values; remaining = remaining; waiting = waiting; queue = queue }) f
    ∙ ap (λ x. record { design = k.design; time = k.time; finished = k.finished; values = x; remaining = remaining; waiting = waiting; queue = queue }) v
    ∙ ap (λ x. record { design = k.design; time = k.time; finished = k.finished; values = k.values; remaining = x; waiting = waiting; queue = queue }) r
    ∙ ap (λ x. record { design = k.design; time = k.time; finished = k.finished; values = k.values; remaining = k.remaining; waiting = x; queue = queue }) w
    ∙ ap (λ x. record { design = k.design; time = k.time; finished = k.finished; values = k.values; remaining = k.remaining; waiting = k.waiting; queue = x }) q

-- what fits a copy's design is whole in a machine of the same design, with the copy's values and waits, by which all are heard
pub whole_by : (design kept : Elaborated) (flow kept_flow : List (Option ℕ)) (values kept_values : List (List Bit)) (count kept_count : ℕ) (waiting kept_waiting : List Waiting) (lists : List (List ℕ))
    → FitsDesign kept kept_flow kept_values kept_count kept_waiting → kept ≡ design → flow ≡ kept_flow → values ≡ kept_values → count ≡ length (tables_of design).processes → waiting ≡ kept_waiting → AreHeard (tables_of design) lists waiting
    → IsWhole design flow values count waiting lists
whole_by design kept flow kept_flow values kept_values count kept_count waiting kept_waiting lists fits same flows objects processes waits heard = record {
  flows = flows ∙ fits.flows ∙ ap (λ (d : Elaborated). flow_of d.source (tables_of d).actions) same;
  objects = ap length objects ∙ fits.objects ∙ ap (λ (d : Elaborated). length d.tree.nodes) same;
  processes = processes;
  waits = ap length waits ∙ fits.waits ∙ ap (λ (d : Elaborated). length (tables_of d).processes) same;
  heard = heard;
}

-- a copy of a whole machine fits its design
pub fits_by : (design made : Elaborated) (flow made_flow : List (Option ℕ)) (values made_values : List (List Bit)) (count made_count : ℕ) (waiting made_waiting : List Waiting) (lists : List (List ℕ))
    → IsWhole design flow values count waiting lists → made ≡ design → made_flow ≡ flow → made_values ≡ values → made_count ≡ count → made_waiting ≡ waiting
    → FitsDesign made made_flow made_values made_count made_waiting
fits_by design made flow made_flow values made_values count made_count waiting made_waiting lists whole same flows objects processes waits = record {
  flows = flows ∙ whole.flows ∙ ap (λ (d : Elaborated). flow_of d.source (tables_of d).actions) (sym same);
  objects = ap length objects ∙ whole.objects ∙ ap (λ (d : Elaborated). length d.tree.nodes) (sym same);
  processes = processes ∙ whole.processes ∙ ap (λ (d : Elaborated). length (tables_of d).processes) (sym same);
  waits = ap length waits ∙ whole.waits ∙ ap (λ (d : Elaborated). length (tables_of d).processes) (sym same);
}

-- what holds where there is no error, where there is none
pub at_ok : {T E Q : Type 0} (r : Result T E) → is_err r ≡ false → OnOk r Q → Q
at_ok (Ok a) none h = h
at_ok (Err e) none h = absurd cc

-- a machine is whole at the start
pub whole_start : (d : Elaborated) (flow : List (Option ℕ)) (values : List (List Bit)) (count : ℕ) (waiting : List Waiting) (lists : List (List ℕ))
    → flow ≡ flow_of d.source (tables_of d).actions → values ≡ (start d).values → count ≡ length (tables_of d).processes → waiting ≡ (start d).waiting
    → IsWhole d flow values count waiting lists
whole_start d flow values count waiting lists flows objects processes waits = record {
  flows = flows;
  objects = ap length objects ∙ length-map d.tree.nodes (start_of d);
  processes = processes;
  waits = ap length waits ∙ length-replicate (length (tables_of d).processes) Nothing;
  heard = rw waits (all_nothing (tables_of d) lists (length (tables_of d).processes));
}
