use Rattle.std.proofs.Common.{◌≡◌, ℕ, Bool, true, false, cond, List, [], ◌∷◌, ◌++◌, sym, ap, refl, ◌∙◌}
use Rattle.std.specs.Prelude.{not, string_bytes}
use Rattle.vp_modules.specs.Items.{is_among}
use Rattle.vp_expr.specs.Origins.{first_index}
use Rattle.vp_expr.proofs.FirstIndexes.{added_new, added_old}
use Rattle.vp_expr.proofs.process.NamedPorts.add.Goals as goal

pub returns-in_ok-push-clause-first : goal.returns-in_ok-push-clause-first
returns-in_ok-push-clause-first c =
    let s = c.args.self.now in
    let names : c.add.new.self ≡ s.names ++ c.args.name.now ∷ [] =
    c.in_ok-add.ensures.names
    ∙ ap (λ (b : Bool). cond b (s.names ++ string_bytes c.in_ok-from_str.field-0 ∷ []) s.names) c.if-branch.true
    ∙ ap (λ (w : List ℕ). s.names ++ w ∷ []) c.in_ok-from_str.ensures.ok in
    λ n.
    ap (λ (ns : List (List ℕ)). first_index ns c.push.new.self.items n) names
    ∙ ap (λ (firsts : List ℕ). first_index (s.names ++ c.args.name.now ∷ []) firsts n) c.in_ok-push.ensures.items
    ∙ added_new s.names s.firsts.items c.args.name.now c.args.index n c.requires

is_there : (b : Bool) → false ≡ not b → b ≡ true
is_there true h = refl
is_there false h = absurd cc

pub returns-else-branch-clause-first : goal.returns-else-branch-clause-first
returns-else-branch-clause-first c =
    let s = c.args.self.now in
    let names : c.add.new.self ≡ s.names =
    c.in_ok-add.ensures.names ∙ ap (λ (b : Bool). cond b (s.names ++ string_bytes c.in_ok-from_str.field-0 ∷ []) s.names) c.if-branch.false in
    let there : is_among s.names c.args.name.now ≡ true =
    is_there (is_among s.names c.args.name.now)
    (sym c.if-branch.false ∙ c.in_ok-add.ensures.added ∙ ap (λ (w : List ℕ). not (is_among s.names w)) c.in_ok-from_str.ensures.ok) in
    λ n.
    ap (λ (ns : List (List ℕ)). first_index ns s.firsts.items n) names ∙ added_old s.names s.firsts.items c.args.name.now c.args.index n c.requires there
