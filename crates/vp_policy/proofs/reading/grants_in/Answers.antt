use Rattle.std.proofs.Common.{◌≡◌, ◌∙◌, ◌<◌, ◌||◌, ◌++◌, ◌∷◌, [], ℕ, Bool, List, ap, length, sym, arith}
use Rattle.std.specs.Prelude.{not, option_map}
use Rattle.std.specs.List.{list_any}
use Rattle.std.proofs.Math.Bool.{or-false, or-true}
use Rattle.serde_json.specs.View.{view}
use Rattle.serde_json.specs.declared.value.Value.{Value}
use Rattle.vp_policy.specs.File.{FileGrant, grant_of, names_none}
use Rattle.vp_policy.specs.Listing.{file_grant}
use Rattle.vp_policy.proofs.Items.{each_more}
use Rattle.vp_policy.proofs.NamedGrants.{any_more, grants_more}
use Rattle.vp_policy.proofs.reading.grants_in.Goals.{then-not-branch, else-not-branch}
use Rattle.vp_policy.proofs.reading.grants_in.Goals as goal

pub loop-item-preserved : goal.loop-item-preserved
loop-item-preserved c =
    let authors : List (List ℕ) = c.args.design.now.tree.authors in
    let all : List FileGrant = c.loop-item.invariant.0 in
    let g : FileGrant = file_grant c.in_ok-grant.grant in
    let missing_before : Bool = list_any (names_none authors) all in
    let in_list : c.loop-item.item-index < length c.args.items.now = omega arith in
    let pushed = c.in_ok-push_entries.ensures {u = tt} in
    let none_named : not c.in_ok-push_entries.field-0 ≡ names_none authors g = pushed.named in (
      all ++ g ∷ [],
      each_more grant_of all c.args.items.now c.loop-item.item-index c.item-item.result g in_list
          (ap (λ (v : Value). grant_of (view v)) (sym c.item-item.is) ∙ sym c.grant_of.ensures ∙ ap (option_map file_grant) c.in_ok-grant.ensures.ok_part)
          ∙ c.loop-item.invariant.1,
      grants_more authors all g c.loop-item.entries.items c.push_entries.new.entries.items c.loop-item.invariant.2 pushed.entries,
      elim c.if-not-branch.branch [
        | then-not-branch w ↦
            w.missing-is ∙ sym (any_more (names_none authors) all g ∙ ap (λ (b : Bool). missing_before || b) (sym none_named ∙ ap not w.if-not-branch.true) ∙ or-true missing_before)
        | else-not-branch w ↦
            w.missing-is ∙ c.loop-item.invariant.3
            ∙ sym (any_more (names_none authors) all g ∙ ap (λ (b : Bool). missing_before || b) (sym none_named ∙ ap not w.if-not-branch.false) ∙ or-false missing_before)
      ],
    )
