-- Names that are declared twice, module by module.
use Rattle.std.proofs.Common.{◌≡◌, ℕ, suc, ◌+◌, ◌<◌, Bool, false, cond, List, [], ◌∷◌, ◌++◌, length, drop, get_or, Option, Some, None, ap, sym, subst, ◌∙◌, arith}
use Rattle.std.proofs.Math.Seq.{drop-cons}
use Rattle.vp_text.specs.Refusals.{MayExplain}
use Rattle.vp_source.specs.Places.{line_at, word_at}
use Rattle.vp_source.specs.declared.source.Source.{Source}
use Rattle.vp_source.specs.declared.source.Module.{Module}
use Rattle.vp_modules.specs.declared.error.ElabError.{ElabError}
use Rattle.vp_modules.specs.declared.error.ElabError.TheVariants.{Duplicate, NoMemory}
use Rattle.vp_modules.specs.Items.{is_among, items_in}
use Rattle.vp_modules.specs.Refusals.{first_of_two, twice, twice_in}

-- after a module whose names are new and declared once, the modules go on
pub twice_after :
    (source : Source) (names : List (List ℕ)) (m : Module) (ms : List Module)
    → is_among names (word_at source m.name) ≡ false → twice source [] (items_in source m) ≡ None
    → twice_in source names (m ∷ ms) ≡ twice_in source (names ++ word_at source m.name ∷ []) ms
twice_after source names m ms new once =
    ap (λ (b : Bool). cond b (Some (Duplicate (line_at source m.name))) (first_of_two (twice source [] (items_in source m)) (twice_in source (names ++ word_at source m.name ∷ []) ms))) new
    ∙ ap (λ (e : Option ElabError). first_of_two e (twice_in source (names ++ word_at source m.name ∷ []) ms)) once

-- the same at a place of a list
pub twice_next :
    (source : Source) (names : List (List ℕ)) (ms : List Module) (i : ℕ) (d : Module) → i < length ms
    → is_among names (word_at source (get_or ms i d).name) ≡ false → twice source [] (items_in source (get_or ms i d)) ≡ None
    → twice_in source names (drop i ms) ≡ twice_in source (names ++ word_at source (get_or ms i d).name ∷ []) (drop (i + 1) ms)
twice_next source names ms i d in_list new once =
    let m : Module = get_or ms i d in
    let next : suc i ≡ i + 1 = omega arith in
    ap (twice_in source names) (drop-cons ms i d in_list) ∙ twice_after source names m (drop (suc i) ms) new once
    ∙ ap (λ (n : ℕ). twice_in source (names ++ word_at source m.name ∷ []) (drop n ms)) next

-- a refusal by a module and those after it is that of the text, where those before it are in order
pub refused_at :
    (source : Source) (names : List (List ℕ)) (ms : List Module) (i : ℕ) (d : Module) (e : ElabError) → i < length ms
    → twice_in source names (drop i ms) ≡ twice_in source [] ms
    → ((rest : List Module) → MayExplain NoMemory (twice_in source names (get_or ms i d ∷ rest)) e) → MayExplain NoMemory (twice_in source [] ms) e
refused_at source names ms i d e in_list same refused =
    subst (λ (r : Option ElabError). MayExplain NoMemory r e) (ap (twice_in source names) (sym (drop-cons ms i d in_list)) ∙ same) (refused (drop (suc i) ms))
