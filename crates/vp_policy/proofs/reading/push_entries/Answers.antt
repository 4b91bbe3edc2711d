use Rattle.std.proofs.Common.{◌≡◌, ◌∙◌, ◌+◌, ◌<◌, ◌||◌, ◌++◌, ◌∷◌, [], ℕ, Bool, List, true, false, ap, length, map, sym, take, arith}
use Rattle.std.specs.List.{enumerate_from, list_any}
use Rattle.std.proofs.Math.Bool.{or-false, or-true}
use Rattle.std.proofs.lemmas.List.{append_assoc, append-nil, map-append}
use Rattle.vp_elab.specs.Tree.{author_in}
use Rattle.vp_pragma.specs.Rights.{set_of}
use Rattle.vp_policy.specs.declared.grant.Grant.{Grant}
use Rattle.vp_policy.specs.File.{FileGrant, entries_for, is_named}
use Rattle.vp_policy.specs.Listing.{file_grant}
use Rattle.vp_policy.specs.Members.{grant_shown}
use Rattle.vp_policy.specs.Users.{GrantEntry}
use Rattle.vp_policy.proofs.NamedGrants.{entries_more, mapped_there, named_more}
use Rattle.vp_policy.proofs.reading.push_entries.Goals.{then-is_named+in_ok-push, else-is_named}
use Rattle.vp_policy.proofs.reading.push_entries.Goals as goal

pub loop-before-preserved : goal.loop-before-preserved
loop-before-preserved c =
    let authors : List (List ℕ) = c.args.design.now.tree.authors in
    let g : FileGrant = file_grant c.args.grant.now in
    let n : ℕ = c.loop-before.before in
    let author : List ℕ = c.author.result.now in
    let old : List GrantEntry = map grant_shown c.args.entries.now.items in
    let so_far = c.loop-before.invariant in
    let named_before : Bool = list_any (is_named g) (enumerate_from 1 (take n authors)) in
    let within : n < length authors = omega arith in
    let whose : author ≡ author_in authors (n + 1) = c.author.ensures in
    elim c.if-is_named.branch [
      | then-is_named+in_ok-push w ↦
          let last : Grant = record { envelope = n + 1; access = c.args.grant.now.access; names_author = w.is_some.result } in
          let its : is_named g (n + 1, author) ≡ true = sym c.is_named.ensures ∙ w.if-is_named.true in (record {
            pushed =
                ap (λ v. map grant_shown v.items) w.entries-is ∙ ap (map grant_shown) (w.in_ok-push.ensures {u = tt}).items
                ∙ map-append grant_shown c.loop-before.entries.items (last ∷ [])
                ∙ ap (λ (es : List GrantEntry). es ++ grant_shown last ∷ []) so_far.pushed
                ∙ append_assoc old (entries_for (take n authors) g) (grant_shown last ∷ [])
                ∙ ap (λ (b : Bool). (let e : GrantEntry = record { envelope = n + 1; access = set_of c.args.grant.now.access; names_author = b } in old ++ (entries_for (take n authors) g ++ e ∷ [])))
                (w.is_some.ensures ∙ mapped_there (λ a. a.now) c.args.grant.now.author)
                ∙ ap (λ (es : List GrantEntry). old ++ es) (sym (entries_more authors g n author true within whose (sym its)));
            named = w.named-is ∙ sym (named_more authors g n author within whose ∙ ap (λ (b : Bool). named_before || b) its ∙ or-true named_before);
          })
      | else-is_named w ↦
          let other : is_named g (n + 1, author) ≡ false = sym c.is_named.ensures ∙ w.if-is_named.false in (record {
            pushed =
                ap (λ v. map grant_shown v.items) w.entries-is ∙ so_far.pushed
                ∙ ap (λ (es : List GrantEntry). old ++ es) (sym (entries_more authors g n author false within whose (sym other) ∙ append-nil (entries_for (take n authors) g)));
            named = w.named-is ∙ so_far.named ∙ sym (named_more authors g n author within whose ∙ ap (λ (b : Bool). named_before || b) other ∙ or-false named_before);
          })
    ]
