use Rattle.std.proofs.Common.{◌∙◌, ◌==◌, ◌++◌, ◌∷◌, [], false, List, ap, filter, map}
use Rattle.std.specs.Prelude.{not}
use Rattle.std.proofs.lemmas.List.{map-append, take_all}
use Rattle.vp_policy.specs.declared.grant.Grant.{Grant}
use Rattle.vp_policy.specs.Members.{grant_shown}
use Rattle.vp_policy.specs.Users.{GrantEntry}
use Rattle.vp_policy.proofs.regrant.with_grant.Goals as goal

pub returns : goal.returns
returns c =
    let grants : List Grant = c.args.grants.now in
    let others = c.loop-grant.changed.items in
    let last : Grant = record { envelope = c.args.envelope; access = c.args.access; names_author = false } in
    ap (map grant_shown) (c.from_vec.ensures ∙ (c.in_ok-push-2.ensures {u = tt}).items)
    ∙ map-append grant_shown others (last ∷ [])
    ∙ ap (λ (gs : List GrantEntry). gs ++ grant_shown last ∷ []) c.loop-grant.invariant
    ∙ ap (λ (gs : List Grant). filter (λ g. not (g.envelope == c.args.envelope)) (map grant_shown gs) ++ grant_shown last ∷ []) (take_all c.loop-grant.grant-index grants c.loop-grant-test.false)
