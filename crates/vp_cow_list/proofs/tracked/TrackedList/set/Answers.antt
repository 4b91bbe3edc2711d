use Rattle.std.proofs.Common.{◌∙◌, sym}
use Rattle.std.proofs.lemmas.List.{length-set}
use Rattle.vp_cow_list.specs.laws.Tracked.{copied_set}
use Rattle.vp_cow_list.proofs.tracked.TrackedList.set.Goals as goal

pub invariant_of-self : goal.invariant_of-self
invariant_of-self g c =
    let old = c.self.inside in
    let known = c.mark_written-self-inside.ensures in (
      known.marked,
      λ h.
          let complete = c.self.invariant.1 (known.there h).0 in (
            complete.0 ∙ sym (length-set old.items.items c.args.place c.args.item),
            copied_set old.copy old.items.items old.written.items c.mark_written-self-inside.new.written.items c.args.place c.args.item complete.1 known.others (known.there h).1,
          ),
    )
