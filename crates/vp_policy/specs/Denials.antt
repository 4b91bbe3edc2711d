-- A denial in words.
use Rattle.std.specs.Prelude.{ℕ, List, Option}
use Rattle.vp_pragma.specs.declared.rights.Right.{Right}
use Rattle.vp_policy.specs.declared.denial.ShownBarrier.{ShownBarrier}
use Rattle.vp_policy.specs.declared.denial.Words.{Words}

-- a denial in the words that its user is shown: what keeps him out, the number of the envelope, the right that he lacks, the author of
-- the envelope, and the object of the viewport that keeps him out, if one does (profile)
pub record DenialText : Type 0 where
  pub by : ShownBarrier
  pub envelope : ℕ
  pub right : Right
  pub author : List ℕ
  pub object : Option (List ℕ)

-- what is seen of the fields of a denial in words
abbrev pub words_shown : Words → DenialText
words_shown w = record { by = w.by; envelope = w.envelope; right = w.right; author = w.author; object = w.object }
