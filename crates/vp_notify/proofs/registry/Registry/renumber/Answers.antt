use Rattle.std.proofs.Common.{◌≡◌, ◌∙◌, ◌&&◌, Bool, true, List, length, map, ap, arith, sym, subst}
use Rattle.std.specs.List.{list_all}
use Rattle.std.proofs.lemmas.List.{length-map}
use Rattle.vp_notify.specs.declared.registry.Callback.{Callback}
use Rattle.vp_notify.specs.Registry.{AreOrdered, RegistryState}
use Rattle.vp_notify.specs.Renumbered.{is_callback_within, is_notice_within, is_within, moved_callback, number_now}
use Rattle.vp_notify.proofs.Rising.{first_of, ordered}
use Rattle.vp_notify.proofs.registry.Registry.renumber.Goals as goal

pub invariant_of-self : goal.invariant_of-self
invariant_of-self c =
    let numbers = c.args.numbers.now in
    let callbacks : List Callback = c.self.inside.callbacks.items in
    let count = length numbers in
    let all : is_within count c.args.self.now ≡ true = c.requires.within in
    let within : list_all (is_callback_within count) callbacks ≡ true =
    first_of (list_all (is_callback_within count) callbacks) (list_all (is_notice_within count) c.self.inside.waiting.items)
    (ap (is_within count) c.self.view_is ∙ all) in (
      subst AreOrdered (sym c.renumber_callbacks.ensures) (ordered numbers callbacks c.requires.rises within c.self.invariant.0),
      (let long = length-map callbacks (moved_callback (number_now numbers)) in let same = ap length c.renumber_callbacks.ensures in let few = c.self.invariant.1 in omega (arith, long, same, few)),
      c.renumber_notices.ensures.capacity ∙ c.self.invariant.2,
    )
