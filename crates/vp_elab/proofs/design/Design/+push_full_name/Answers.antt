use Rattle.std.proofs.Common.{◌≡◌, ◌∙◌, ◌++◌, ◌∷◌, [], List, ℕ, ap, sym, lit<}
use Rattle.std.specs.Prelude.{string_bytes}
use Rattle.vp_elab.specs.Tree.{full_name_at}
use Rattle.vp_elab.proofs.FullNames.{full_name_inner, name_joined, name_pushed}
use Rattle.vp_elab.proofs.design.Design.+push_full_name.Goals as goal

pub returns-in_ok-push-in-Some-parent : goal.returns-in_ok-push-in-Some-parent
returns-in_ok-push-in-Some-parent t c =
    let tree = c.args.self.now.tree in
    let old : List ℕ = string_bytes c.args.text.now in
    let name : List ℕ = c.name.result.now in
    let above : List ℕ = full_name_at tree c.in-Some-parent.module.0 in
    let pushed = c.in_ok-push_full_name-in-Some-parent.ensures {u = tt} in
    let dot = c.in_ok-push-in-Some-parent.ensures {u = tt} in
    let full = full_name_inner tree c.objects.result.now c.objects.ensures.nodes c.args.id.0 c.in-Some.object c.in-Some-parent.module (sym c.object_at.ensures ∙ c.in-Some.is) c.in-Some-parent.is in
    let before : string_bytes c.push.new.self ≡ (old ++ above) ++ 46 ∷ [] =
    dot.bytes ∙ ap (λ (x : List ℕ). string_bytes c.push_full_name.new.text ++ x) (dot.ascii (lit< tt)) ∙ ap (λ (x : List ℕ). x ++ 46 ∷ []) pushed in
    name_pushed c.push_str.result old (string_bytes c.push.new.self) (string_bytes c.push_str.new.self) name (full_name_at tree c.args.id.0) c.push_str.ensures.bytes
    (ap (λ (x : List ℕ). x ++ name) before ∙ name_joined old above name ∙ ap (λ (x : List ℕ). old ++ (above ++ 46 ∷ x)) c.name.ensures ∙ ap (λ (x : List ℕ). old ++ x) (sym full))
