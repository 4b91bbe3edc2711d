-- Reading symbols from left to right: what is read, or where it stops; and what the code returns of it.
use Rattle.std.specs.Prelude.{◌≡◌, ℕ, Bool, false, if◌then◌else◌, List, [], ◌∷◌, length, Option, Some, None, IfSome, Result, Ok, Err}
use Rattle.vp_parse_expr.specs.declared.reading.Stop as stop
use Rattle.vp_parse_expr.specs.declared.reading.Stop.TheVariants as stop_of
use Rattle.vp_source.specs.declared.symbol.Symbol.{Symbol}
use Rattle.vp_source.specs.declared.symbol.SymbolKind.{SymbolKind}
use Rattle.vp_source.specs.Kinds.{same_kind}

-- where reading stops, with so many symbols left: no derivation goes on there, or something is nested too deep (profile)
pub data Stop : Type 0 where
  Unexpected : (left : ℕ) → Stop
  TooDeep : (left : ℕ) → Stop

-- how many symbols are left where reading stops
abbrev pub left_of : Stop → ℕ
left_of (Unexpected left) = left
left_of (TooDeep left) = left

infixl 10 ◌>>=◌
-- the next step, unless the one before it stopped
abbrev pub ◌>>=◌ : {A B : Type 0} → Result A Stop → (A → Result B Stop) → Result B Stop
(Ok x) >>= f = f x
(Err e) >>= f = Err e

-- what is read, and the symbols that are left
abbrev pub Reader : Type 0 → Type 0
Reader A = List Symbol → Result (A × List Symbol) Stop

-- no derivation goes on here
abbrev pub refused : {A : Type 0} → List Symbol → Result A Stop
refused ts = Err (Unexpected (length ts))

-- the next symbol is of this kind
abbrev pub is_next : SymbolKind → List Symbol → Bool
is_next kind [] = false
is_next kind (s ∷ ts) = same_kind kind s.kind

-- the place of the next symbol, which is of this kind
unfoldable pub terminal : SymbolKind → Reader ℕ
terminal kind [] = refused []
terminal kind (s ∷ ts) = if same_kind kind s.kind then Ok (s.place, ts) else refused (s ∷ ts)

-- what is left after the next symbol, which is of this kind
unfoldable pub following : SymbolKind → List Symbol → Result (List Symbol) Stop
following kind [] = refused []
following kind (s ∷ ts) = if same_kind kind s.kind then Ok ts else refused (s ∷ ts)

-- the stop that the code reports; none when out of memory
abbrev pub stop_told : stop.Stop → Option Stop
stop_told (stop_of.Syntax left) = Some (Unexpected left)
stop_told (stop_of.LeftOut left) = Some (Unexpected left)
stop_told (stop_of.TooDeep left) = Some (TooDeep left)
stop_told stop_of.NoMemory = None

-- reading stops where the code does, unless memory ran out
abbrev pub Fails : {Y : Type 0} → stop.Stop → Result Y Stop → Type 0
Fails e read = IfSome (stop_told e) (λ s. read ≡ Err s)

-- what the code returns, seen by a view, is what reading gives, unless memory ran out
abbrev pub Gives : {X Y : Type 0} → (X → Y) → Result X stop.Stop → Result Y Stop → Type 0
Gives view (Ok x) read = read ≡ Ok (view x)
Gives view (Err e) read = Fails e read
