use Rattle.std.proofs.Common.{◌≡◌, ◌∙◌, ◌+◌, ◌++◌, ◌∷◌, [], List, Option, Some, ℕ, ap, append-nil, map, option_to_list, sym, take}
use Rattle.std.specs.Prelude.{slice_get}
use Rattle.std.proofs.lemmas.List.{map-append}
use Rattle.vp_answer.specs.declared.request.SessionId.{SessionId}
use Rattle.vp_world.specs.Entries.{Entry}
use Rattle.vp_hub.specs.Calls.{entry_indexes, sessions_opened}
use Rattle.vp_hub.proofs.Opened.{opened_to}
use Rattle.vp_hub.proofs.close.receipts.Goals.{in-Some+in_ok-entry_indexes+in_ok-push, in_default}
use Rattle.vp_hub.proofs.close.receipts.Goals as goal

pub loop-index-preserved : goal.loop-index-preserved
loop-index-preserved c =
    let log = c.args.log.now.entries in
    let n = c.loop-index.index in
    let e : Entry = c.entry.result.now in
    let at : slice_get log n ≡ Some e = c.entry.ensures in
    let opened : Option SessionId → List SessionId = λ o. sessions_opened (take n log) ++ option_to_list o in
    let to : sessions_opened (take (n + 1) log) ≡ opened c.session_opened.result = opened_to log n e at ∙ ap opened (sym c.session_opened.ensures) in
    elim c.match-session_opened.branch [
      | in-Some+in_ok-entry_indexes+in_ok-push w ↦
          ap (λ v. v.items) w.lists-is ∙ (w.in_ok-push.ensures {u = tt}).items
          ∙ ap (λ (ls : List (List ℕ)). ls ++ w.in_ok-entry_indexes.field-0 ∷ []) c.loop-index.invariant
          ∙ ap (λ (ns : List ℕ). map (entry_indexes log) (sessions_opened (take n log)) ++ ns ∷ []) (w.in_ok-entry_indexes.ensures {u = tt})
          ∙ sym (map-append (entry_indexes log) (sessions_opened (take n log)) (w.in-Some.session ∷ []))
          ∙ ap (map (entry_indexes log)) (sym (to ∙ ap opened w.in-Some.is))
      | in_default w ↦
          ap (λ v. v.items) w.lists-is ∙ c.loop-index.invariant
          ∙ ap (map (entry_indexes log)) (sym (to ∙ ap opened w.in_default.is ∙ append-nil (sessions_opened (take n log))))
    ]
