-- The parts of a bundle, and the script of them.
use Rattle.std.proofs.Common.{◌≡◌, ◌∙◌, ◌≤◌, ◌<◌, ℕ, Bool, inl, inr, List, length, Option, Some, sym, subst, ap}
use Rattle.std.specs.Prelude.{IsUtf8, option_map}
use Rattle.std.proofs.lemmas.Bool.Decides.{leb_tells}
use Rattle.vp_script.specs.declared.error.ServeFault.{ServeFault}
use Rattle.vp_script.specs.declared.error.ServeFault.TheVariants as fault
use Rattle.vp_script.specs.Bundles.{cut_of}
use Rattle.vp_design.specs.Designs.{text_limit}
use Rattle.vp_script.specs.Failure.{HasDesignText}
use Rattle.vp_script.specs.Scripts.{EndsBundleBy, EndsBy, HasParts, IsBadBundle, IsBundle, IsScript, Parts, bundle_limit, seed_count}

-- what a cut that was found gives
cut_found : {A : Type 0} (now : A → List ℕ × List ℕ) (r : Option A) (a : A) (o : Option (List ℕ × List ℕ)) → option_map now r ≡ o → r ≡ Some a → o ≡ Some (now a)
cut_found now r a o is found = sym is ∙ ap (option_map now) found

-- the parts of a bundle that was cut twice
pub parts_of : {A : Type 0} (now : A → List ℕ × List ℕ) (bundle : List ℕ) (r s : Option A) (a b : A) → length bundle ≤ bundle_limit → option_map now r ≡ cut_of bundle → r ≡ Some a → option_map now s ≡ cut_of (now a).1 → s ≡ Some b
    → HasParts bundle (record { text = (now a).0; policy = (now b).0; input = (now b).1 })
parts_of now bundle r s a b fits first first_found second second_found = record {
  fits = fits;
  cut = record {
    rest = (now a).1;
    first_cut = cut_found now r a (cut_of bundle) first first_found;
    second_cut = cut_found now s b (cut_of (now a).1) second second_found;
  };
}

-- the text of the design of a bundle that was cut twice
pub has_design_text : (bundle text rest policy input design : List ℕ) → Some (text, rest) ≡ cut_of bundle → Some (policy, input) ≡ cut_of rest → design ≡ text → (length text ≤ text_limit) × IsUtf8 text → HasDesignText bundle design
has_design_text bundle text rest policy input design first second is text_is = record {
  parts = record { text = text; policy = policy; input = input };
  cut = record { rest = rest; first_cut = sym first; second_cut = sym second };
  first = is;
  fits = subst (λ (t : List ℕ). length t ≤ text_limit) (sym is) text_is.0;
  text = subst (λ (t : List ℕ). IsUtf8 t) (sym is) text_is.1;
}

module _ (bundle : List ℕ) (parts : Parts) (has : HasParts bundle parts) where
  -- the fault of a bundle whose design is none
  pub text_refused : (f : ServeFault) → (text_limit < length parts.text → f ≡ fault.TooLong) → (length parts.text ≤ text_limit → (f ≡ fault.BadBundle) × (IsUtf8 parts.text → ⊥)) → IsBadBundle bundle f
  text_refused f long none = elim (leb_tells (length parts.text) text_limit) [
    | inl (so, fits) ↦
        let bad = none fits in
        subst (IsBadBundle bundle) (sym bad.0) (inr (parts, has, fits, bad.1))
    | inr (not, more) ↦ subst (IsBadBundle bundle) (sym (long more)) (inr (parts, has, more))
  ]

  module _ (text : IsUtf8 parts.text) (held holds : Option (List ℕ)) (own input : List ℕ) (is_text : own ≡ parts.text) (is_input : input ≡ parts.input) where
    -- the script of a bundle, which has read all of it
    pub bundle_script : (out_of_memory : Bool) (still : List ℕ) (lines : ℕ) → IsScript seed_count out_of_memory own parts.policy (Some input) (Some still) held holds lines → IsBundle out_of_memory bundle held holds lines
    bundle_script out_of_memory still lines script =
        let first = subst (λ (t : List ℕ). IsScript seed_count out_of_memory t parts.policy (Some input) (Some still) held holds lines) is_text script in
        let whole = subst (λ (t : List ℕ). IsScript seed_count out_of_memory parts.text parts.policy (Some t) (Some still) held holds lines) is_input first in
        record {
          parts = parts;
          has = has;
          text = text;
          script = subst (λ (t : List ℕ). IsScript seed_count out_of_memory parts.text parts.policy (Some parts.input) (Some t) held holds lines) whole.answered.whole.at_end whole;
        }

    -- the fault of its script
    pub bundle_fault : (still : Option (List ℕ)) (f : ServeFault) → EndsBy seed_count own parts.policy (Some input) still held holds f → EndsBundleBy bundle held holds f
    bundle_fault still f ends =
        let first = subst (λ (t : List ℕ). EndsBy seed_count t parts.policy (Some input) still held holds f) is_text ends in
        inr (record {
          parts = parts;
          has = has;
          text = text;
          still_unread = still;
          ends = subst (λ (t : List ℕ). EndsBy seed_count parts.text parts.policy (Some t) still held holds f) is_input first;
        })
