use Rattle.std.proofs.Common.{◌≡◌, ◌∙◌, ◌==◌, ◌<◌, ℕ, List, [], sym, subst, get_or, map, refl, set}
use Rattle.std.specs.List.{AllPairs}
use Rattle.std.proofs.lemmas.Result.{IfOk-weaker, IfErr-weaker}
use Rattle.vp_waking.specs.Listening.{listeners_of, with_number, with_number_at}
use Rattle.vp_waking.proofs.Lists.{exchanged, shown}
use Rattle.vp_waking.proofs.listeners.add_listener.Goals as goal

pub add_number-requires : goal.add_number-requires
add_number-requires c =
    let lists = c.grow.new.lists.items in
    let object = c.args.object in
    let within = (c.in_ok-grow.ensures {u = tt}).within in
    let here : c.index_mut.result.now.items ≡ listeners_of (map (λ v. v.items) c.args.lists.now.items) object =
    shown (λ v. v.items) lists object c.index_mut.result.now within c.index_mut.ensures.value ∙ c.grow.ensures.same object in
    subst (λ (l : List ℕ). AllPairs (λ x y. x < y) l) (sym here) c.requires

pub returns-clause-ok : goal.returns-clause-ok
returns-clause-ok c =
    let lists = c.grow.new.lists.items in
    let object = c.args.object in
    let process = c.args.process in
    let within = (c.in_ok-grow.ensures {u = tt}).within in
    IfOk-weaker c.add_number.result (λ _. c.add_number.new.numbers.items ≡ with_number c.index_mut.result.now.items process) (λ _. (k : ℕ) → get_or (map (λ v. v.items) (set lists object c.add_number.new.numbers)) k [] ≡ with_number_at (get_or (map (λ v. v.items) c.args.lists.now.items) k []) process (object == k)) (λ _ h k. exchanged (λ v. v.items) lists object k c.index_mut.result.now c.add_number.new.numbers (λ b l. with_number_at l process b) (get_or (map (λ v. v.items) c.args.lists.now.items) k []) within c.index_mut.ensures.value h (λ l. refl) (c.grow.ensures.same k)) c.add_number.ensures.ok

pub returns-clause-err : goal.returns-clause-err
returns-clause-err c =
    let lists = c.grow.new.lists.items in
    let object = c.args.object in
    let within = (c.in_ok-grow.ensures {u = tt}).within in
    IfErr-weaker c.add_number.result (λ _. c.add_number.new.numbers.items ≡ c.index_mut.result.now.items) (λ _. (k : ℕ) → get_or (map (λ v. v.items) (set lists object c.add_number.new.numbers)) k [] ≡ get_or (map (λ v. v.items) c.args.lists.now.items) k []) (λ _ h k. exchanged (λ v. v.items) lists object k c.index_mut.result.now c.add_number.new.numbers (λ b l. l) (get_or (map (λ v. v.items) c.args.lists.now.items) k []) within c.index_mut.ensures.value h (λ l. refl) (c.grow.ensures.same k)) c.add_number.ensures.err
