-- The walk of a dotted name.
use Rattle.std.proofs.Common.{◌≡◌, ◌∙◌, ℕ, ◌==◌, List, [], ◌∷◌, ◌++◌, Option, Some, None, Bool, true, false, refl, sym, ap}
use Rattle.std.specs.Prelude.{if◌then◌else◌}
use Rattle.vp_text.specs.Texts.{begun, part_and_rest, parts}
use Rattle.vp_policy.specs.View.{View}
use Rattle.vp_vpi.specs.Observers.{Absent, Found, Lookup}
use Rattle.vp_replay.specs.Objects.{names_to}
use Rattle.vp_replay.specs.Seen.{closed_seen, find_listed_seen, from_seen, unlisted_seen, walk_seen}
use Rattle.vp_replay.proofs.Numbers.{scope_is}

begun_part : (b : ℕ) (first : List ℕ) (others : List (List ℕ)) (ps : List (List ℕ)) → ps ≡ first ∷ others → (cut : Bool) → (f : List ℕ) × (os : List (List ℕ)) × ((if cut then [] ∷ ps else begun b ps) ≡ f ∷ os)
begun_part b first others ps e true = ([], ps, refl)
begun_part b first others ps e false = (b ∷ first, others, ap (begun b) e)

-- a text has a part
parts_after : (text : List ℕ) → (first : List ℕ) × (others : List (List ℕ)) × (parts 46 text ≡ first ∷ others)
parts_after [] = ([], [], refl)
parts_after (b ∷ bytes) = begun_part b (parts_after bytes).0 (parts_after bytes).1 (parts 46 bytes) (parts_after bytes).2 (b == 46)

-- where a walk stands makes no difference to what follows a name
walk_here : (v : View) (here there : Lookup) (scope : Option ℕ) (text : List ℕ) → walk_seen v here scope (parts 46 text) ≡ walk_seen v there scope (parts 46 text)
walk_here v here there scope text =
    let p = parts_after text in
    ap (walk_seen v here scope) p.2 ∙ sym (ap (walk_seen v there scope) p.2)

module _ (v : View) (scope : Option ℕ) (text part : List ℕ) where
  -- the names to what is looked up first
  abbrev pub named : List (List ℕ)
  named = names_to v.nodes scope ++ part ∷ []

  walk_by : (found : Option ℕ) (others : List (List ℕ)) → found ≡ find_listed_seen v named
      → walk_seen v Absent scope (part ∷ others) ≡ from_seen found (unlisted_seen v (closed_seen v scope)) (λ o. walk_seen v (Found o) (Some o) others)
  walk_by found others is =
      ap (λ ns. from_seen (find_listed_seen v (ns ++ part ∷ [])) (unlisted_seen v (closed_seen v scope)) (λ o. walk_seen v (Found o) (Some o) others)) (scope_is v scope)
      ∙ ap (λ x. from_seen x (unlisted_seen v (closed_seen v scope)) (λ o. walk_seen v (Found o) (Some o) others)) (sym is)

  -- a name that is listed, with others after it
  pub walk_next : (further : List ℕ) (o : ℕ) → parts 46 text ≡ part_and_rest 46 part (Some further) → Some o ≡ find_listed_seen v named
      → walk_seen v Absent (Some o) (parts 46 further) ≡ walk_seen v Absent scope (parts 46 text)
  walk_next further o split found =
      walk_here v Absent (Found o) (Some o) further ∙ sym (ap (walk_seen v Absent scope) split ∙ walk_by (Some o) (parts 46 further) found)

  -- the last name, which is listed
  pub walk_end : (o : ℕ) → parts 46 text ≡ part_and_rest 46 part None → Some o ≡ find_listed_seen v named → Found o ≡ walk_seen v Absent scope (parts 46 text)
  walk_end o split found = sym (ap (walk_seen v Absent scope) split ∙ walk_by (Some o) [] found)

  -- a name that is not listed
  pub walk_unlisted : (following : Option (List ℕ)) → parts 46 text ≡ part_and_rest 46 part following → None ≡ find_listed_seen v named
      → unlisted_seen v (closed_seen v scope) ≡ walk_seen v Absent scope (parts 46 text)
  walk_unlisted None split found = sym (ap (walk_seen v Absent scope) split ∙ walk_by None [] found)
  walk_unlisted (Some further) split found = sym (ap (walk_seen v Absent scope) split ∙ walk_by None (parts 46 further) found)
