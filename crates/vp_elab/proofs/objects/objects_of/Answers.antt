use Rattle.std.proofs.Common.{◌≡◌, ◌+◌, ◌-◌, ◌<◌, ◌++◌, ◌∷◌, [], ◌∙◌, suc, true, false, Vec, Global, ap, sym, length, drop, get_or, slice_get, Some, Option, List, ℕ, arith}
use Rattle.std.specs.Option.{option_and_then, option_map_or}
use Rattle.std.proofs.lemmas.Option.{slice_get-get_or}
use Rattle.vp_source.specs.declared.source.Module.{Module}
use Rattle.vp_modules.specs.Items.{is_top}
use Rattle.vp_elab.specs.declared.object.Object.{Object}
use Rattle.vp_elab.specs.Elaboration.{further_limit}
use Rattle.vp_elab.specs.Objects.{objects_below, objects_within, root_object}
use Rattle.vp_elab.specs.Sizes.{size, whole_size}
use Rattle.vp_elab.proofs.Counting.{none_room, top_known, top_room}
use Rattle.vp_elab.proofs.Making.{none_made, top_long, top_made, within_split}
use Rattle.vp_elab.proofs.Parts.{nowhere}
use Rattle.vp_elab.proofs.objects.objects_of.Goals as goal
use Rattle.vp_elab.proofs.objects.objects_of.Goals.{then-tops-number+in_ok-add_object, else-tops-number}

pub add_object-requires-clause-few : goal.add_object-requires-clause-few
add_object-requires-clause-few c =
    let source = c.args.source.now in
    let envelopes = c.args.envelopes.now.envelopes in
    let number : ℕ = c.loop-number.number in
    let long = ap (λ (ms : List Module). length ms) c.as_slice-module-items.ensures in
    let within : number < length source.modules = omega arith in
    let m : Module = get_or source.modules number nowhere in
    let top : is_top source m ≡ true = top_known source c.args.tops.now number true c.requires.tops within c.if-tops-number.true in
    let is_object : c.root_object-object.result ≡ root_object envelopes number m =
    c.root_object-object.ensures ∙ ap (λ (ms : List Module). root_object envelopes number (get_or ms number nowhere)) c.as_slice-module-items.ensures in
    let at : slice_get source.modules number ≡ Some m = slice_get-get_or source.modules number nowhere within in
    let limit : c.step_limit-further.result - 1 ≡ further_limit = (let step = c.step_limit-further.ensures in omega arith) in
    let size_is : option_map_or (size source (c.step_limit-further.result - 1)) (option_and_then (slice_get source.modules) c.root_object-object.result.scope) 0 ≡ whole_size source m =
    ap (λ (o : Object). option_map_or (size source (c.step_limit-further.result - 1)) (option_and_then (slice_get source.modules) o.scope) 0) is_object
    ∙ ap (λ (x : Option Module). option_map_or (size source (c.step_limit-further.result - 1)) x 0) at ∙ ap (λ (d : ℕ). size source d m) limit in
    let room = top_room source number (length c.loop-number.objects.items) within top c.loop-number.invariant.few in
    omega arith

pub loop-number-preserved : goal.loop-number-preserved
loop-number-preserved c =
    let source = c.args.source.now in
    let envelopes = c.args.envelopes.now.envelopes in
    let number : ℕ = c.loop-number.number in
    let long = ap (λ (ms : List Module). length ms) c.as_slice-module-items.ensures in
    let within : number < length source.modules = omega arith in
    let m : Module = get_or source.modules number nowhere in
    let rest : List Module = drop (number + 1) source.modules in
    let old : List Object = c.loop-number.objects.items in
    let split =
    ap (λ (os : List Object). old ++ os) (sym (within_split source envelopes number (length old) within)) ∙ c.loop-number.invariant.objects in
    elim c.if-tops-number.branch [
      | then-tops-number+in_ok-add_object w ↦
          let top : is_top source m ≡ true = top_known source c.args.tops.now number true c.requires.tops within w.if-tops-number.true in
          let is_object : w.root_object-object.result ≡ root_object envelopes number m =
          w.root_object-object.ensures ∙ ap (λ (ms : List Module). root_object envelopes number (get_or ms number nowhere)) c.as_slice-module-items.ensures in
          let at : slice_get source.modules number ≡ Some m = slice_get-get_or source.modules number nowhere within in
          let added =
          w.in_ok-add_object.ensures {u = tt}
          ∙ ap (λ (n : ℕ). old ++ w.root_object-object.result ∷ option_map_or (objects_below source envelopes n (length old)) (option_and_then (slice_get source.modules) w.root_object-object.result.scope) []) c.step_limit-further.ensures in
          let room = top_room source number (length old) within top c.loop-number.invariant.few in
          let longer = top_long source envelopes old w.add_object.new.objects.items w.root_object-object.result number m at is_object added (omega arith) in
          let same = ap (λ (v : Vec Object Global). v.items) w.objects-is in
          let same_long = ap (λ (os : List Object). length os) same in
          record {
            objects =
                ap (λ (os : List Object). os ++ objects_within source envelopes (suc further_limit) (number + 1) (length os) rest) same
                ∙ top_made source envelopes old w.add_object.new.objects.items w.root_object-object.result number m rest top at is_object added ∙ split;
            few = omega arith;
          }
      | else-tops-number w ↦
          let top : is_top source m ≡ false = top_known source c.args.tops.now number false c.requires.tops within w.if-tops-number.false in
          let room = none_room source number (length old) within top c.loop-number.invariant.few in
          let same = ap (λ (v : Vec Object Global). v.items) w.objects-is in
          let same_long = ap (λ (os : List Object). length os) same in
          record {
            objects =
                ap (λ (os : List Object). os ++ objects_within source envelopes (suc further_limit) (number + 1) (length os) rest) same
                ∙ none_made source envelopes old number m rest top ∙ split;
            few = omega arith;
          }
    ]
