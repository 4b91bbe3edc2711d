-- The diagnostic of a fault of a policy.
use Rattle.std.specs.Prelude.{◌≡◌, ℕ, List, ◌++◌}
use Rattle.vp_policy.specs.declared.error.PolicyError.{PolicyError}
use Rattle.vp_policy.specs.Faults.{code_of}
use Rattle.vp_design.specs.Rendering.{head_without_line}
use Rattle.vp_design.specs.Words.{policy_words}

-- the diagnostic of a fault of a policy: its head, and a note on its place, of which nothing is said here
pub record IsPolicyDiagnostic (name : List ℕ) (e : PolicyError) (result : List ℕ) : Type 0 where
  pub note : List ℕ
  pub is : result ≡ head_without_line name (code_of e) (policy_words e) ++ note
