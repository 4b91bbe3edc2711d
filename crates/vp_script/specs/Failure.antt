-- What is reported of a fault in words (profile).
use Rattle.std.specs.Prelude.{◌≡◌, ◌⊎◌, ◌≤◌, IsUtf8, length, ℕ, List, [], codes}
use Rattle.vp_design.specs.Designs.{text_limit}
use Rattle.vp_design.specs.Diagnostics.{IsDesignDiagnostic}
use Rattle.vp_design.specs.Policies.{IsPolicyDiagnostic}
use Rattle.vp_design.specs.Rendering.{file_text, plain_text}
use Rattle.vp_script.specs.Faults.{code_of, line_of}
use Rattle.vp_script.specs.Scripts.{IsCutInto, Parts}
use Rattle.vp_script.specs.declared.error.ServeFault.{ServeFault}
use Rattle.vp_script.specs.declared.error.ServeFault.TheVariants as fault
use Rattle.vp_script.specs.declared.failure.Failure.{Failure}
use Rattle.vp_wire.specs.declared.error.WireError.{WireError}
use Rattle.vp_wire.specs.declared.error.WireError.TheVariants.{ReadFault, TurnLimit, WriteFault}

-- the words of a fault of the reading or writing of lines
abbrev pub words_of_lines : WireError → List ℕ
words_of_lines ReadFault = codes "standard input can't be read"
words_of_lines WriteFault = codes "standard output can't be written"
words_of_lines TurnLimit = codes "standard input was read 16,777,216 times"
words_of_lines e = codes "bad lines"

-- a failure has the number and the line of a fault
pub record IsOf (f : ServeFault) (failure : Failure) : Type 0 where
  pub code : failure.code ≡ code_of f
  pub line : failure.line ≡ line_of f

-- the words of a fault that is none of a design's or a policy's text
abbrev pub words_of : ServeFault → List ℕ
words_of (fault.Design e) = codes "bad design"
words_of (fault.Policy e) = codes "bad policy"
words_of (fault.World e) = codes "no memory for a world"
words_of (fault.Lines e) = words_of_lines e
words_of fault.BadBundle = codes "a bundle is a design in UTF-8, a line %%, a policy, a line %%, and a script"
words_of fault.ReadFailed = codes "it can't be read as text in UTF-8"
words_of fault.TooLong = codes "a design and a policy have at most 1,048,576 bytes, a bundle 16,777,216"
words_of fault.NoSuchUser = codes "the policy has no such user"
words_of fault.NoMemory = codes "no memory"

-- the diagnostic of a fault of a run over a design and a policy of files of these names: that of the text of the design, of the policy,
-- of the policy's file, or of no file
abbrev pub IsDiagnostic : (design_name design policy_name : List ℕ) → ServeFault → List ℕ → Type 0
IsDiagnostic design_name design policy_name (fault.Design e) text = IsDesignDiagnostic design_name design e text
IsDiagnostic design_name design policy_name (fault.Policy e) text = IsPolicyDiagnostic policy_name e text
IsDiagnostic design_name design policy_name fault.TooLong text = text ≡ file_text policy_name 1603 (words_of fault.TooLong)
IsDiagnostic design_name design policy_name f text = text ≡ plain_text (code_of f) (words_of f)

-- what is reported where there may be no memory for it: nothing then
abbrev pub IsToldOr : (List ℕ → Type 0) → List ℕ → Type 0
IsToldOr is text = (text ≡ []) ⊎ is text

-- ---- a bundle

-- the name under which the parts of a bundle are reported
abbrev pub standard_input : List ℕ
standard_input = codes "standard input"

-- a bundle has a design of this text: the first of the parts that it is cut into, which is not too long, and in UTF-8
pub record HasDesignText (bundle design : List ℕ) : Type 0 where
  pub parts : Parts
  pub cut : IsCutInto bundle parts
  pub first : design ≡ parts.text
  pub fits : length design ≤ text_limit
  pub text : IsUtf8 design

-- a bundle has no design
abbrev pub HasNoDesignText : List ℕ → Type 0
HasNoDesignText bundle = (design : List ℕ) → HasDesignText bundle design → ⊥

-- the diagnostic of a fault of a run of a bundle: that over its design, with its policy under the same name, if it has one; else that of
-- the bundle as a whole
abbrev pub IsBundleDiagnostic : List ℕ → ServeFault → List ℕ → Type 0
IsBundleDiagnostic bundle f text =
    ((design : List ℕ) × HasDesignText bundle design × IsDiagnostic standard_input design standard_input f text)
    ⊎ (HasNoDesignText bundle × (text ≡ file_text standard_input (code_of f) (words_of f)))
