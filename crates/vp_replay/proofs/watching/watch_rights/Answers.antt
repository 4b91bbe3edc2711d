use Rattle.std.proofs.Common.{◌≡◌, ◌∙◌, ◌++◌, ◌∷◌, [], ℕ, Bool, List, ap, arith, length, subst, sym}
use Rattle.std.specs.Prelude.{false, is_some, slice_get}
use Rattle.std.specs.Option.{option_map_or}
use Rattle.std.proofs.lemmas.List.{length-append}
use Rattle.vp_pragma.specs.declared.rights.Right.TheVariants as right
use Rattle.vp_pragma.specs.declared.rights.Rights.{Rights}
use Rattle.vp_replay.specs.Objects.{is_unwatchable}
use Rattle.vp_replay.specs.Seen.{denied_seen}
use Rattle.vp_replay.proofs.EachObject.{each_more, each_whole}
use Rattle.vp_replay.proofs.watching.watch_rights.Goals as goal

pub loop-number-preserved : goal.loop-number-preserved
loop-number-preserved c =
    let v = c.args.view.now in
    let before : List Rights = c.loop-number.rights.items in
    let now : List Rights = c.push.new.self.items in
    let x : Rights = c.watch_right.result in
    let is : now ≡ before ++ x ∷ [] = (c.in_ok-push.ensures {u = tt}).items in
    let more = length-append before (x ∷ []) in
    let long = ap length is in
    let many = c.loop-number.invariant.many in
    record {
      many = omega (arith, more, long, many);
      each = λ o. ap (λ (rs : List Rights). option_map_or is_unwatchable (slice_get rs o) false) is
          ∙ each_more is_unwatchable (λ o. is_some (denied_seen v right.Watch o)) before c.loop-number.number x many c.watch_right.ensures c.loop-number.invariant.each o;
    }

pub returns : goal.returns
returns c o =
    let count : length c.args.view.now.nodes ≡ c.loop-number.number = (let end = c.count-number-end.ensures in omega (arith, end)) in
    c.loop-number.invariant.each o ∙ each_whole c.args.view.now c.loop-number.number o count
