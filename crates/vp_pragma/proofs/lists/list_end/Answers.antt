use Rattle.std.proofs.Common.{◌≡◌, ◌∙◌, ℕ, suc, ◌+◌, ◌-◌, None, Some, sym, ap, arith}
use Rattle.std.specs.Prelude.{option_map}
use Rattle.vp_pragma.specs.declared.lists.Due.TheVariants as due
use Rattle.vp_pragma.specs.declared.lists.Move.{Move}
use Rattle.vp_pragma.specs.declared.lists.Move.TheVariants.{To, Opens, Closes}
use Rattle.vp_pragma.specs.Lists.{moved, next, scan}
use Rattle.vp_pragma.specs.Reading.{placed}
use Rattle.vp_pragma.proofs.Scans.{leads_on, nothing_left, one_less}
use Rattle.vp_pragma.proofs.lists.list_end.Goals as goal

pub returns-in_err-following-clause-parts : goal.returns-in_err-following-clause-parts
returns-in_err-following-clause-parts c =
    ap (option_map placed) c.from_residual.ensures
    ∙ leads_on c.loop-token.due c.loop-token.depth (placed c.loop-token.left) (placed c.in-Some.others) (c.loop-token.left.at, c.in-Some.token) None (scan due.Expression 0 (placed c.args.rest))
    c.in-Some.ensures.parts (sym (c.in_err-following.was {u = tt}) ∙ c.next.ensures ∙ ap (next c.loop-token.due) c.class_of.ensures) c.loop-token.invariant.leads

pub returns-in-Closes-clause-parts : goal.returns-in-Closes-clause-parts
returns-in-Closes-clause-parts c =
    let zero : c.loop-token.depth ≡ 0 = omega arith in
    ap (λ (n : ℕ). moved n (placed c.in-Some.others) (λ e n. scan e n (placed c.in-Some.others)) (Some Closes)) (sym zero)
    ∙ leads_on c.loop-token.due c.loop-token.depth (placed c.loop-token.left) (placed c.in-Some.others) (c.loop-token.left.at, c.in-Some.token) (Some Closes) (scan due.Expression 0 (placed c.args.rest))
    c.in-Some.ensures.parts (sym (c.in_ok-following.was {u = tt} ∙ ap (λ (m : Move). Some m) c.in-Closes.is) ∙ c.next.ensures ∙ ap (next c.loop-token.due) c.class_of.ensures) c.loop-token.invariant.leads

pub loop-token-smaller-in-To : goal.loop-token-smaller-in-To
loop-token-smaller-in-To c =
    let less = one_less c.loop-token.left c.in-Some.others (c.loop-token.left.at, c.in-Some.token) c.in-Some.ensures.parts in
    omega arith

pub loop-token-preserved-in-To : goal.loop-token-preserved-in-To
loop-token-preserved-in-To c =
    let less = one_less c.loop-token.left c.in-Some.others (c.loop-token.left.at, c.in-Some.token) c.in-Some.ensures.parts in
    record {
      places = c.in-Some.ensures.places;
      shallow = omega (arith, c.loop-token.invariant.shallow);
      leads =
          leads_on c.loop-token.due c.loop-token.depth (placed c.loop-token.left) (placed c.in-Some.others) (c.loop-token.left.at, c.in-Some.token) (Some (To c.in-To.following)) (scan due.Expression 0 (placed c.args.rest))
          c.in-Some.ensures.parts (sym (c.in_ok-following.was {u = tt} ∙ ap (λ (m : Move). Some m) c.in-To.is) ∙ c.next.ensures ∙ ap (next c.loop-token.due) c.class_of.ensures) c.loop-token.invariant.leads;
    }

pub loop-token-smaller-in-Opens : goal.loop-token-smaller-in-Opens
loop-token-smaller-in-Opens c =
    let less = one_less c.loop-token.left c.in-Some.others (c.loop-token.left.at, c.in-Some.token) c.in-Some.ensures.parts in
    omega arith

pub loop-token-preserved-in-Opens : goal.loop-token-preserved-in-Opens
loop-token-preserved-in-Opens c =
    let less = one_less c.loop-token.left c.in-Some.others (c.loop-token.left.at, c.in-Some.token) c.in-Some.ensures.parts in
    let one : suc c.loop-token.depth ≡ c.loop-token.depth + 1 = omega arith in
    record {
      places = c.in-Some.ensures.places;
      shallow = omega (arith, c.loop-token.invariant.shallow);
      leads =
          ap (λ (n : ℕ). scan due.Expression n (placed c.in-Some.others)) (sym one)
          ∙ leads_on c.loop-token.due c.loop-token.depth (placed c.loop-token.left) (placed c.in-Some.others) (c.loop-token.left.at, c.in-Some.token) (Some Opens) (scan due.Expression 0 (placed c.args.rest))
          c.in-Some.ensures.parts (sym (c.in_ok-following.was {u = tt} ∙ ap (λ (m : Move). Some m) c.in-Opens.is) ∙ c.next.ensures ∙ ap (next c.loop-token.due) c.class_of.ensures) c.loop-token.invariant.leads;
    }

pub loop-token-smaller : goal.loop-token-smaller
loop-token-smaller c =
    let less = one_less c.loop-token.left c.in-Some.others (c.loop-token.left.at, c.in-Some.token) c.in-Some.ensures.parts in
    omega arith

pub loop-token-preserved : goal.loop-token-preserved
loop-token-preserved c =
    let less = one_less c.loop-token.left c.in-Some.others (c.loop-token.left.at, c.in-Some.token) c.in-Some.ensures.parts in
    let one : suc (c.loop-token.depth - 1) ≡ c.loop-token.depth = omega arith in
    record {
      places = c.in-Some.ensures.places;
      shallow = omega (arith, c.loop-token.invariant.shallow);
      leads =
          ap (λ (n : ℕ). moved n (placed c.in-Some.others) (λ e n. scan e n (placed c.in-Some.others)) (Some Closes)) one
          ∙ leads_on c.loop-token.due c.loop-token.depth (placed c.loop-token.left) (placed c.in-Some.others) (c.loop-token.left.at, c.in-Some.token) (Some Closes) (scan due.Expression 0 (placed c.args.rest))
          c.in-Some.ensures.parts (sym (c.in_ok-following.was {u = tt} ∙ ap (λ (m : Move). Some m) c.in-Closes.is) ∙ c.next.ensures ∙ ap (next c.loop-token.due) c.class_of.ensures) c.loop-token.invariant.leads;
    }

pub returns-clause-parts : goal.returns-clause-parts
returns-clause-parts c = nothing_left c.loop-token.due c.loop-token.depth (placed c.loop-token.left) ((c.in_default.ensures {u = tt}).parts) ∙ c.loop-token.invariant.leads
