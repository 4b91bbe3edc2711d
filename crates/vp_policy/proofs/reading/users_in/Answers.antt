use Rattle.std.proofs.Common.{◌≡◌, ◌∙◌, ◌∷◌, ◌++◌, ◌<◌, ◌||◌, [], ℕ, List, Bool, ap, length, map, subst, sym, arith}
use Rattle.std.specs.Prelude.{is_some}
use Rattle.std.specs.List.{list_any}
use Rattle.std.proofs.lemmas.List.{map-append}
use Rattle.indexmap.proofs.CallerLemmas.{insert_entry-new}
use Rattle.serde_json.specs.View.{view}
use Rattle.serde_json.specs.declared.value.Value.{Value}
use Rattle.vp_policy.specs.File.{FileUser, has_missing, member_in, user_from}
use Rattle.vp_policy.specs.Members.{member_of}
use Rattle.vp_policy.specs.Users.{Member}
use Rattle.vp_policy.proofs.Items.{each_more}
use Rattle.vp_policy.proofs.NamedGrants.{any_more}
use Rattle.vp_policy.proofs.Tables.{AreRead, none_of, read_once, read_twice}
use Rattle.vp_policy.proofs.reading.users_in.Goals.{then-is_some, else-is_some}
use Rattle.vp_policy.proofs.reading.users_in.Goals as goal

pub loop-item-preserved : goal.loop-item-preserved
loop-item-preserved c =
    let authors : List (List ℕ) = c.args.design.now.tree.authors in
    let all : List FileUser = c.loop-item.invariant.0 in
    let done : List Member = map (member_in authors) all in
    let name = c.in_ok-read.read.name in
    let user = c.in_ok-read.read.user in
    let he = (c.in_ok-read.ensures {u = tt}).ok in
    let added = c.in_ok-insert.ensures {u = tt} in
    let es = c.loop-item.users.entries in
    let fs = c.insert.new.self.entries in
    let here : map (member_in authors) (all ++ he.all ∷ []) ≡ done ++ member_of (name, user) ∷ [] =
    map-append (member_in authors) all (he.all ∷ []) ∙ ap (λ (m : Member). done ++ m ∷ []) (sym he.shown) in
    let in_list : c.loop-item.item-index < length c.args.items.now = omega arith in (
      all ++ he.all ∷ [],
      each_more user_from all c.args.items.now c.loop-item.item-index c.item-item.result he.all in_list
          (ap (λ (v : Value). user_from (view v)) (sym c.item-item.is) ∙ he.read)
          ∙ c.loop-item.invariant.1,
      subst (λ (ms : List Member). AreRead ms c.if-is_some.once fs) (sym here) (elim c.if-is_some.branch [
        | then-is_some w ↦ subst (λ (b : Bool). AreRead (done ++ member_of (name, user) ∷ []) b fs) (sym w.once-is)
            (read_twice done c.loop-item.once es fs name user c.loop-item.invariant.2 (ap is_some (sym added.old) ∙ sym c.is_some.ensures ∙ w.if-is_some.true))
        | else-is_some w ↦ subst (λ (b : Bool). AreRead (done ++ member_of (name, user) ∷ []) b fs) (sym w.once-is)
            (read_once done c.loop-item.once es fs name user c.loop-item.invariant.2 (ap is_some (sym added.old) ∙ sym c.is_some.ensures ∙ w.if-is_some.false)
            (added.entries ∙ insert_entry-new _ c.loop-item.users name user (none_of _ (ap is_some (sym added.old) ∙ sym c.is_some.ensures ∙ w.if-is_some.false))))
      ]),
      ap (λ (b : Bool). b || c.in_ok-read.read.missing) c.loop-item.invariant.3 ∙ ap (λ (b : Bool). list_any (has_missing authors) all || b) he.missing
          ∙ sym (any_more (has_missing authors) all he.all),
    )
