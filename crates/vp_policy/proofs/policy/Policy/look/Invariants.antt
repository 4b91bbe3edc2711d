use Rattle.std.proofs.Common.{◌≡◌, length}
use Rattle.std.specs.Prelude.{IsUtf8, option_map}
use Rattle.vp_text.specs.Texts.{parts}
use Rattle.vp_policy.specs.Filter.{look_in}
use Rattle.vp_policy.specs.Users.{member_at}
use Rattle.vp_policy.proofs.policy.Policy.look.Given as goal

-- what is left of the name is looked up in the scope that was reached
abbrev pub invariant-loop-object : goal.invariant-loop-object
invariant-loop-object l = record {
  text : IsUtf8 l.rest;
  left :
      look_in l.design.tree (member_at l.self.members l.user.0) (option_map (λ o. o.0) l.scope) (parts 46 l.rest)
      ≡ look_in l.design.tree (member_at l.self.members l.user.0) (option_map (λ o. o.0) l.fn.scope) (parts 46 l.name);
}

abbrev pub decreases-loop-object : goal.decreases-loop-object
decreases-loop-object l = length l.rest
