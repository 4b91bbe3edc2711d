use Rattle.std.proofs.Common.{◌≡◌, ◌∙◌, ◌++◌, ℕ, true, List, ap, map, subst}
use Rattle.std.proofs.lemmas.List.Elements.{All-same}
use Rattle.std.proofs.lemmas.Result.{IfOk-weaker}
use Rattle.vp_elab.specs.Built.{Elaborated}
use Rattle.vp_operand.specs.Arena.{term_at}
use Rattle.vp_operand.specs.Reads.{reads, slot_at}
use Rattle.vp_expr.specs.Tables.{tables_of}
use Rattle.vp_operand.specs.declared.operand.Slot.{Slot}
use Rattle.vp_waking.specs.Listening.{IsHeard, Listening, may_listen}
use Rattle.vp_waking.specs.Waking.{Term, any_of, object_at}
use Rattle.vp_waking.proofs.Hearing.{all_slots, at_slots}
use Rattle.vp_waking.proofs.listeners.Listeners.add_operands.Goals as goal

pub add_slots-requires : goal.add_slots-requires
add_slots-requires c =
    let tables = tables_of c.args.self.now.design in
    let P = λ (slot : ℕ). may_listen tables (object_at c.args.instance slot) c.args.process ≡ true in
    let read : List ℕ = reads (term_at tables.operands c.args.value.place) in
    let slots : c.deref-2.result.now ≡ map slot_at read =
    c.deref-2.ensures.value ∙ (c.in_ok-add_reads.ensures {u = tt}).read
    ∙ ap (λ (l : List Slot). l ++ map slot_at (reads (term_at (tables_of c.deref.result.now).operands c.place.result))) c.new-slots.ensures.items
    ∙ ap (λ (place : ℕ). map slot_at (reads (term_at (tables_of c.deref.result.now).operands place))) c.place.ensures
    ∙ ap (λ (d : Elaborated). map slot_at (reads (term_at (tables_of d).operands c.args.value.place))) (c.deref.ensures ∙ ap (λ (r : Listening). r.design) c.self.view_is) in
    All-same (λ (s : Slot). P s.0) c.deref-2.result.now (map slot_at read) slots (all_slots P read c.requires)

pub returns-clause-heard : goal.returns-clause-heard
returns-clause-heard c =
    let tables = tables_of c.args.self.now.design in
    let instance = c.args.instance in
    let read : List ℕ = reads (term_at tables.operands c.args.value.place) in
    let slots : c.deref-2.result.now ≡ map slot_at read =
    c.deref-2.ensures.value ∙ (c.in_ok-add_reads.ensures {u = tt}).read
    ∙ ap (λ (l : List Slot). l ++ map slot_at (reads (term_at (tables_of c.deref.result.now).operands c.place.result))) c.new-slots.ensures.items
    ∙ ap (λ (place : ℕ). map slot_at (reads (term_at (tables_of c.deref.result.now).operands place))) c.place.ensures
    ∙ ap (λ (d : Elaborated). map slot_at (reads (term_at (tables_of d).operands c.args.value.place))) (c.deref.ensures ∙ ap (λ (r : Listening). r.design) c.self.view_is) in
    let terms = λ (l : List Slot). map (λ slot. any_of instance slot.0) l in
    IfOk-weaker c.add_slots.result (λ _. IsHeard c.add_slots.new.self.lists (terms c.deref-2.result.now) c.args.process) (λ _. IsHeard c.add_slots.new.self.lists (map (any_of instance) read) c.args.process) (λ _ h. subst (λ (l : List Term). IsHeard c.add_slots.new.self.lists l c.args.process) (ap terms slots ∙ at_slots instance read) h) c.add_slots.ensures.heard
