use Rattle.std.proofs.Common.{arith, rules, suc, ◌≡◌, ◌∙◌, ◌+◌, ◌≤◌, ◌<◌, ◌++◌, [], ◌∷◌, List, None, Some, true, false, drop, length, take, ap, refl, sym}
use Rattle.std.specs.Prelude.{slice_get}
use Rattle.std.proofs.lemmas.Bool.{ltb-false, ltb-true}
use Rattle.std.proofs.lemmas.List.{drop_all}
use Rattle.std.proofs.lemmas.Option.{slice_get-get_or, slice_get_past, slice_get_read, slice_get_within}
use Rattle.vp_answer.specs.declared.reply.Reply.{Reply}
use Rattle.vp_world.specs.Entries.{Entry, reply_in}
use Rattle.vp_audit.specs.Projections.{is_own, replies_of}
use Rattle.vp_audit.proofs.Comparing.{first_other, one_there, replies_others, replies_own, taken_more}
use Rattle.vp_audit.proofs.audit.compared.Goals as goal
use Rattle.vp_audit.proofs.audit.compared.Goals.{else-is_own, in_default-via-in-Some+else-is_answered, in_default-via-in-None-1, then-is_own+in-Some}

pub returns-in_default : goal.returns-in_default
returns-in_default c =
    let u = c.args.user.0 in
    let log : List Entry = c.args.log.now.entries in
    let replayed : List Reply = c.args.replayed.now in
    let n = c.loop-index.number in
    let i = c.loop-index.index in
    let e : Entry = c.entry-entry.result.now in
    let rest : List Reply = e.reply ∷ replies_of u (drop (i + 1) log) in
    let own_event : is_own u e ≡ true = sym c.is_own.ensures ∙ c.if-is_own.true in
    let there : slice_get log i ≡ Some e = c.entry-entry.ensures in
    let are : replies_of u log ≡ take n replayed ++ rest = c.loop-index.invariant.told ∙ ap (λ (rs : List Reply). take n replayed ++ rs) (replies_own u log i e there own_event) in
    let other : (Some e.reply ≡ slice_get replayed n → ⊥) = elim c.in_default.branch [
      | in_default-via-in-Some+else-is_answered w ↦ λ (same : Some e.reply ≡ slice_get replayed n).
          let reply : Reply = w.in-Some.reply.now in
          let within : n < length replayed = slice_get_within replayed n e.reply (sym same) in
          let found : slice_get replayed n ≡ Some reply = slice_get_read replayed (length replayed) n reply refl within (w.in-Some.ensures {u = tt}).lookup.1 in
          let alike : e.reply ≡ reply = (let both : Some e.reply ≡ Some reply = same ∙ found in cc) in
          let told : reply_in c.entry.inside.happening ≡ e.reply = ap (λ (x : Entry). x.reply) c.entry.view_is in
          let yes : w.is_answered.result ≡ true = w.is_answered.ensures.differs (told ∙ alike) in
          let no : w.is_answered.result ≡ false = w.if-is_answered.false in
          absurd (cc)
      | in_default-via-in-None-1 w ↦ λ (same : Some e.reply ≡ slice_get replayed n).
          let past : slice_get replayed n ≡ None = slice_get_past replayed n (ltb-false n (length replayed) (sym (w.in-None-1.ensures {u = tt}).0)) in
          let never : Some e.reply ≡ None = same ∙ past in
          absurd (cc)
    ] in
    first_other (replies_of u log) replayed rest n c.loop-index.invariant.within are other

pub returns-then-number-replayed : goal.returns-then-number-replayed
returns-then-number-replayed c =
    let u = c.args.user.0 in
    let log : List Entry = c.args.log.now.entries in
    let replayed : List Reply = c.args.replayed.now in
    let n = c.loop-index.number in
    let i = c.loop-index.index in
    let past : length log ≤ i = omega (arith, c.len-index-end.ensures, c.loop-index-test.false) in
    let are : replies_of u log ≡ take n replayed ++ [] = c.loop-index.invariant.told ∙ ap (λ (es : List Entry). take n replayed ++ replies_of u es) (drop_all i log past) in
    first_other (replies_of u log) replayed [] n c.loop-index.invariant.within are (λ (same : None ≡ slice_get replayed n).
    one_there replayed n c.if-number-replayed.true (sym same))

pub loop-index-preserved : goal.loop-index-preserved
loop-index-preserved c =
    let u = c.args.user.0 in
    let log : List Entry = c.args.log.now.entries in
    let replayed : List Reply = c.args.replayed.now in
    let n = c.loop-index.number in
    let i = c.loop-index.index in
    let e : Entry = c.entry-entry.result.now in
    let there : slice_get log i ≡ Some e = c.entry-entry.ensures in
    let told : reply_in c.entry.inside.happening ≡ e.reply = ap (λ (x : Entry). x.reply) c.entry.view_is in
    elim c.if-is_own.branch [
      | then-is_own+in-Some w ↦
          let reply : Reply = w.in-Some.reply.now in
          let found : slice_get replayed n ≡ Some reply = slice_get_read replayed (length replayed) n reply refl (ltb-true n (length replayed) (sym (w.in-Some.ensures {u = tt}).lookup.0)) (w.in-Some.ensures {u = tt}).lookup.1 in
          let same : reply_in c.entry.inside.happening ≡ reply = w.is_answered.ensures.same w.if-is_answered.true in
          let at : slice_get replayed n ≡ Some e.reply = found ∙ ap Some (sym same ∙ told) in
          let more : n + 1 ≡ suc n = omega arith in
          let within : n < length replayed = slice_get_within replayed n e.reply at in
          record {
            told =
                c.loop-index.invariant.told
                ∙ ap (λ (rs : List Reply). take n replayed ++ rs) (replies_own u log i e there (sym c.is_own.ensures ∙ w.if-is_own.true))
                ∙ taken_more replayed (replies_of u (drop (i + 1) log)) n e.reply at
                ∙ ap (λ k. take k replayed ++ replies_of u (drop (i + 1) log)) (sym more ∙ sym w.number-is);
            within = omega (arith, w.number-is, within);
            following = omega (arith, w.number-is, c.loop-index.invariant.following);
          }
      | else-is_own w ↦
          record {
            told =
                c.loop-index.invariant.told
                ∙ ap (λ (rs : List Reply). take n replayed ++ rs) (replies_others u log i e there (sym c.is_own.ensures ∙ w.if-is_own.false))
                ∙ ap (λ k. take k replayed ++ replies_of u (drop (i + 1) log)) (sym w.number-is);
            within = omega (arith, w.number-is, c.loop-index.invariant.within);
            following = omega (arith, w.number-is, c.loop-index.invariant.following);
          }
    ]
