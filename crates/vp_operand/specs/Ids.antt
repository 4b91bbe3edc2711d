-- Expressions by their places.
use Rattle.std.specs.Prelude.{ℕ}

-- an expression by its place in the list of operands, with the size of its context in bits (IEEE Std 1364-2005, 5.4.1)
pub record Sized : Type 0 where
  pub place : ℕ
  pub size : ℕ
