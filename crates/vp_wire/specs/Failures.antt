-- How often a reader or a writer has failed, and by which fault of a dialogue that is reported.
use Rattle.std.specs.Prelude.{ℕ, ◌+◌, ◌%◌, ◌^◌, Result, Ok, Err}
use Rattle.vp_wire.specs.declared.error.WireError.{WireError}
use Rattle.vp_wire.specs.declared.error.WireError.TheVariants.{ReadFault, WriteFault}

-- one more, modulo 2^64
abbrev pub one_more : ℕ → ℕ
one_more n = (n + 1) % 2 ^ 64

-- the count of failures after a call that had this result
abbrev pub failures_after : {T E : Type 0} → ℕ → Result T E → ℕ
failures_after n (Ok x) = n
failures_after n (Err e) = one_more n

-- a reader's count of failures after a dialogue: one more exactly where the reader's fault is reported
abbrev pub reader_failures : {T : Type 0} → ℕ → Result T WireError → ℕ
reader_failures n (Ok x) = n
reader_failures n (Err ReadFault) = one_more n
reader_failures n (Err e) = n

-- a writer's count of failures after a dialogue: one more exactly where the writer's fault is reported
abbrev pub writer_failures : {T : Type 0} → ℕ → Result T WireError → ℕ
writer_failures n (Ok x) = n
writer_failures n (Err WriteFault) = one_more n
writer_failures n (Err e) = n
