-- What is reported of a design and a policy before anything runs (profile).
use Rattle.std.specs.Prelude.{◌≡◌, ◌⊎◌, ◌≤◌, ℕ, List, length, Some, None, Ok}
use Rattle.vp_elab.specs.Built.{Elaborated}
use Rattle.vp_policy.specs.declared.error.PolicyError.TheVariants as policy_error
use Rattle.vp_policy.specs.File.{PolicyFile, file_of}
use Rattle.vp_policy.specs.Users.{Member, member_at, user_of}
use Rattle.vp_policy.specs.View.{view_of}
use Rattle.vp_replay.specs.Outline.{outline_of}
use Rattle.vp_script.specs.declared.error.ServeFault.{ServeFault}
use Rattle.vp_script.specs.declared.error.ServeFault.TheVariants as fault
use Rattle.vp_design.specs.Designs.{IsDesignOf, text_limit}
use Rattle.vp_script.specs.Designs.{IsRefusedBy}
use Rattle.vp_script.specs.Scripts.{IsPolicyRefusedBy}

-- ---- checks

-- a policy file gives this for a design
pub record Gives (policy : List ℕ) (design : Elaborated) (file : PolicyFile) : Type 0 where
  pub fits : length policy ≤ text_limit
  pub is_file : file_of design.tree.authors policy ≡ Ok file

-- a policy file is right for a design
abbrev pub IsPolicyFor : Elaborated → List ℕ → Type 0
IsPolicyFor design policy = (file : PolicyFile) × Gives policy design file

-- a text has a design
abbrev pub HasDesign : List ℕ → Type 0
HasDesign text = (design : Elaborated) × IsDesignOf text design

-- a text has a design, for which a policy file is right
abbrev pub AreRight : List ℕ → List ℕ → Type 0
AreRight text policy = (design : Elaborated) × IsDesignOf text design × IsPolicyFor design policy

-- ---- what a user sees

-- this is what the user of a name among these sees of a design, as an indented text
pub record IsSeenBy (users : List Member) (name : List ℕ) (design : Elaborated) (view : List ℕ) : Type 0 where
  pub user : ℕ
  pub named : user_of users name ≡ Some user
  pub tells : view ≡ outline_of (view_of design (member_at users user))

-- the same under a policy file
abbrev pub IsSeenUnder : (policy name : List ℕ) → Elaborated → (view : List ℕ) → Type 0
IsSeenUnder policy name design view = (file : PolicyFile) × Gives policy design file × IsSeenBy file.members name design view

-- the same of the design of a text
abbrev pub IsViewOf : (text policy name view : List ℕ) → Type 0
IsViewOf text policy name view = (design : Elaborated) × IsDesignOf text design × IsSeenUnder policy name design view

-- ---- why it is not reported

-- what the user of a name among these sees is not reported for this fault: there is no such user, or memory is lacking
abbrev pub IsUntold : List Member → (name : List ℕ) → ServeFault → Type 0
IsUntold users name fault.NoSuchUser = user_of users name ≡ None
IsUntold users name (fault.Policy e) = e ≡ policy_error.NoMemory
IsUntold users name fault.NoMemory = Unit {0}
IsUntold users name f = ⊥

-- the same under a policy file: a fault of the file, or, where it has none, of the name
abbrev pub IsUntoldUnder : (policy name : List ℕ) → Elaborated → ServeFault → Type 0
IsUntoldUnder policy name design f =
    IsPolicyRefusedBy design policy f ⊎ ((file : PolicyFile) × Gives policy design file × IsUntold file.members name f)

-- the same of the design of a text: a fault of the text, or, where it has none, of the file or the name
abbrev pub IsViewRefusedBy : (text policy name : List ℕ) → ServeFault → Type 0
IsViewRefusedBy text policy name f =
    IsRefusedBy text f ⊎ ((design : Elaborated) × IsDesignOf text design × IsUntoldUnder policy name design f)
