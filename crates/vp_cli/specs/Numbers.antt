-- The ranges of the numbers that the program's words give.
use Rattle.std.specs.Prelude.{◌≤◌, ⊤}
use Rattle.vp_cli.specs.declared.words.Command.{Command}
use Rattle.vp_cli.specs.declared.words.Command.TheVariants.{Audit, Bundle, Check, Run, Serve, Show, View}

-- the numbers of `serve` are in their ranges, and so are the seeds of `run` and `audit`; no other words give numbers
abbrev pub HasNumbersInRange : Command → Type 0
HasNumbersInRange (Serve design policy port workers sessions keep log) =
    (1 ≤ port) × (port ≤ 65535) × (workers ≤ 16) × (sessions ≤ 4294967295)
HasNumbersInRange (Run design policy seeds) = seeds ≤ 16
HasNumbersInRange (Check design policy) = ⊤
HasNumbersInRange (View design policy user) = ⊤
HasNumbersInRange (Audit design policy user seeds explain) = seeds ≤ 16
HasNumbersInRange Bundle = ⊤
HasNumbersInRange (Show text) = ⊤
