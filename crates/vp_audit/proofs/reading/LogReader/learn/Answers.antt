use Rattle.std.proofs.Common.{◌≡◌, ◌∙◌, Bool, List, Vec, Global, ap, length, sym, subst}
use Rattle.vp_elab.specs.Tree.{Tree}
use Rattle.vp_policy.specs.SeenObjects.{numbers_from}
use Rattle.vp_policy.specs.Users.{Member, member_at}
use Rattle.vp_policy.specs.View.{HoldScopes}
use Rattle.vp_replay.specs.Known.{known_also}
use Rattle.vp_audit.specs.Readings.{LogReader, either_marked}
use Rattle.vp_audit.proofs.Marks.{learned_is, learned_long, learned_scopes}
use Rattle.vp_audit.proofs.reading.LogReader.learn.Goals as goal

pub numbers_of-requires : goal.numbers_of-requires
numbers_of-requires c =
    let tree : Tree = c.self.inside.design.now.tree in
    let member : Member = member_at c.self.inside.policy.members c.self.inside.user.0 in
    let is : c.in_ok-known.known.items ≡ either_marked c.self.inside.known.items c.in-Ok.listed.items =
    c.in_ok-known.ensures {u = tt} ∙ ap (λ (ms : List Bool). either_marked ms c.deref-2.result.now) c.deref.ensures.value
    ∙ ap (either_marked c.self.inside.known.items) c.deref-2.ensures.value in
    ap length c.deref-3.ensures.value
    ∙ learned_long tree member c.self.inside.known.items c.in-Ok.listed.items c.in_ok-known.known.items (c.in-Ok.ensures {u = tt}).marks c.self.invariant.1 is

module _ (c : goal.After-drop-listed-2) where
  abbrev tree : Tree
  tree = c.self.inside.design.now.tree

  abbrev member : Member
  member = member_at c.self.inside.policy.members c.self.inside.user.0

  abbrev known : List Bool
  known = c.self.inside.known.items

  -- what is known after it
  abbrev then : List Bool
  then = c.in_ok-known.known.items

  put : c.replace.new.dest.items ≡ then
  put = ap (λ (v : Vec Bool Global). v.items) c.replace.ensures.after

  is : then ≡ either_marked known c.in-Ok.listed.items
  is =
      c.in_ok-known.ensures {u = tt} ∙ ap (λ (ms : List Bool). either_marked ms c.deref-2.result.now) c.deref.ensures.value
      ∙ ap (either_marked known) c.deref-2.ensures.value

  long : length then ≡ length tree.nodes
  long = learned_long tree member known c.in-Ok.listed.items then (c.in-Ok.ensures {u = tt}).marks c.self.invariant.1 is

  scopes : HoldScopes tree.nodes then
  scopes = learned_scopes tree member known c.in-Ok.listed.items then (c.in-Ok.ensures {u = tt}).marks c.self.invariant.1 is c.self.invariant.2

  learned : then ≡ known_also tree member known tree.nodes
  learned = learned_is tree member known c.in-Ok.listed.items then (c.in-Ok.ensures {u = tt}).marks c.self.invariant.1 is

pub invariant_of-self : goal.invariant_of-self
invariant_of-self c =
    let numbers : c.in_ok-numbers.numbers.items ≡ numbers_from 0 (then c) = c.in_ok-numbers.ensures {u = tt} ∙ ap (numbers_from 0) c.deref-3.ensures.value in (
      c.self.invariant.0,
      ap length (put c) ∙ long c,
      subst (HoldScopes (tree c).nodes) (sym (put c)) (scopes c),
      numbers ∙ ap (numbers_from 0) (sym (put c)),
    )

pub returns-clause-now : goal.returns-clause-now
returns-clause-now c = knows _ c.args.self.now c.self.view_is c.replace.new.dest.items (put c ∙ learned c) where
  knows : (r s : LogReader) → r ≡ s → (ms : List Bool) → ms ≡ known_also r.design.tree (member_at r.policy.members r.user) r.known r.design.tree.nodes
      → record r { known = ms } ≡ record s { known = known_also s.design.tree (member_at s.policy.members s.user) s.known s.design.tree.nodes }
  knows r s same ms are =
      ap (λ (ks : List Bool). record r { known = ks }) are
      ∙ ap (λ (x : LogReader). record x { known = known_also x.design.tree (member_at x.policy.members x.user) x.known x.design.tree.nodes }) same
