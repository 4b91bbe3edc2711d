-- Whether two lists of replies are the same.
use Rattle.std.specs.Prelude.{◌≡◌, ℕ, suc, Bool, true, false, List, length, slice_get, take}
use Rattle.vp_answer.specs.declared.reply.Reply.{Reply}
use Rattle.vp_audit.specs.declared.audit.Audit.{Audit}

-- the first reply that another stands in place of, or that stands in one list alone, has this number, from 1
abbrev pub IsFirstOther : (told replayed : List Reply) → (number : ℕ) → Type 0
IsFirstOther told replayed number =
    (n : ℕ) × (number ≡ suc n) × (take n told ≡ take n replayed) × (slice_get told n ≡ slice_get replayed n → ⊥)

-- the lists are the same, of so many replies; or that is the number of the first other
abbrev pub IsAuditBy : (told replayed : List Reply) → (number : ℕ) → (same : Bool) → Type 0
IsAuditBy told replayed number true = (told ≡ replayed) × (number ≡ length told)
IsAuditBy told replayed number false = IsFirstOther told replayed number

-- an audit of replies that were shown by those that were replayed
abbrev pub IsAudit : (told replayed : List Reply) → Audit → Type 0
IsAudit told replayed a = IsAuditBy told replayed a.number a.same
