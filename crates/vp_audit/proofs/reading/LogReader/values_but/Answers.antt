use Rattle.std.proofs.Common.{◌≡◌, ◌∙◌, ◌<◌, ◌≤◌, ◌++◌, ◌∷◌, ◌+◌, [], Bool, Option, Vec, Global, List, true, false, ap, append-nil, length, sym, arith, drop}
use Rattle.std.specs.Prelude.{slice_get, unwrap_or}
use Rattle.std.proofs.lemmas.List.{drop_all}
use Rattle.vp_bits.specs.declared.bit.Bit.{Bit}
use Rattle.vp_elab.specs.Built.{Elaborated}
use Rattle.vp_policy.specs.Users.{Member, member_at}
use Rattle.vp_audit.specs.Readings.{LogReader, value_but}
use Rattle.vp_audit.proofs.Marks.{over_marked, over_more, over_same, values_are}
use Rattle.vp_audit.proofs.reading.LogReader.values_but.Goals.{then-is_marked+in_ok-push, else-is_marked}
use Rattle.vp_audit.proofs.reading.LogReader.values_but.Goals as goal

pub loop-number-preserved : goal.loop-number-preserved
loop-number-preserved c =
    let r : LogReader = c.args.self.now in
    let f = value_but c.args.marks.now r.design.tree r.values (member_at r.policy.members r.user) in
    let n = c.loop-number.number in
    let done : List (Option (List Bit)) = c.loop-number.values.items in
    let many : length r.known ≡ c.count-number-end.result =
    sym (ap (λ (x : LogReader). length x.known) c.self.view_is) ∙ c.self.invariant.1 ∙ sym c.count-number-end.ensures in
    let within : n < length r.known = (let test = c.loop-number-test.true in omega (arith, many, test)) in
    let marks : c.deref.result.now ≡ r.known = c.deref.ensures.value ∙ ap (λ (x : LogReader). x.known) c.self.view_is in
    let mark : c.is_marked.result ≡ unwrap_or (slice_get r.known n) false = c.is_marked.ensures ∙ ap (λ ms. unwrap_or (slice_get ms n) false) marks in
    elim c.if-is_marked.branch [
      | then-is_marked+in_ok-push w ↦
          let set : unwrap_or (slice_get r.known n) false ≡ true = sym mark ∙ w.if-is_marked.true in
          let items : c.if-is_marked.values.items ≡ done ++ w.value_but.result ∷ [] = ap (λ (v : Vec (Option (List Bit)) Global). v.items) w.values-is ∙ (w.in_ok-push.ensures {u = tt}).items in
          c.loop-number.invariant ∙ over_more f r.known n done w.value_but.result within set w.value_but.ensures
          ∙ ap (λ (xs : List (Option (List Bit))). xs ++ over_marked (n + 1) (drop (n + 1) r.known) f) (sym items)
      | else-is_marked w ↦
          let unset : unwrap_or (slice_get r.known n) false ≡ false = sym mark ∙ w.if-is_marked.false in
          let items : c.if-is_marked.values.items ≡ done = ap (λ (v : Vec (Option (List Bit)) Global). v.items) w.values-is in
          c.loop-number.invariant ∙ over_same f r.known n done within unset
          ∙ ap (λ (xs : List (Option (List Bit))). xs ++ over_marked (n + 1) (drop (n + 1) r.known) f) (sym items)
    ]

pub returns : goal.returns
returns c run design values =
    let r : LogReader = c.args.self.now in
    let m : Member = member_at r.policy.members r.user in
    let f = value_but c.args.marks.now r.design.tree r.values m in
    let n = c.loop-number.number in
    let many : length r.known ≡ c.count-number-end.result =
    sym (ap (λ (x : LogReader). length x.known) c.self.view_is) ∙ c.self.invariant.1 ∙ sym c.count-number-end.ensures in
    let past : length r.known ≤ n = (let test = c.loop-number-test.false in omega (arith, many, test)) in
    c.from_vec.ensures
    ∙ sym (c.loop-number.invariant ∙ ap (λ (ms : List Bool). c.loop-number.values.items ++ over_marked n ms f) (drop_all n r.known past) ∙ append-nil c.loop-number.values.items)
    ∙ sym (ap (λ (d : Elaborated). over_marked 0 r.known (value_but c.args.marks.now d.tree r.values m)) design)
    ∙ sym (ap (λ vs. over_marked 0 r.known (value_but c.args.marks.now run.design.tree vs m)) values)
    ∙ sym (values_are c.args.marks.now run m r.known)
