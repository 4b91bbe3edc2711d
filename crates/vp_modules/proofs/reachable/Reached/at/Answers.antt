use Rattle.std.proofs.Common.{◌<◌, ℕ, length, subst, sym}
use Rattle.std.proofs.lemmas.List.{get_or_read}
use Rattle.vp_modules.proofs.Graph.{member_known}
use Rattle.vp_modules.proofs.reachable.Reached.at.Goals as goal

pub returns-clause-known : goal.returns-clause-known
returns-clause-known c =
    let r = c.args.self.now in
    subst (λ (k : ℕ). k < length r.seen.items) (sym (get_or_read r.order.items c.args.place c.index.result.now c.requires c.index.ensures 0))
    (member_known r.seen.items r.order.items c.args.place r.marked c.requires)
