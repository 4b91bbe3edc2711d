-- The loops of the reading into lists, one turn at a time.
use Rattle.std.proofs.Common.{◌≡◌, ℕ, zero, suc, ◌≤◌, ◌<◌, List, [], ◌∷◌, ◌++◌, length, Bool, true, false, Result, Ok, Err, refl, sym, ◌∙◌, arith}
use Rattle.std.specs.Prelude.{◌==◌}
use Rattle.vp_lex.specs.declared.keyword.Keyword.TheVariants as keyword
use Rattle.vp_lex.specs.declared.token.Punctuator.TheVariants as punctuator
use Rattle.vp_parse_expr.specs.declared.reading.Stop as stop
use Rattle.vp_parse_expr.specs.declared.reading.Stop.TheVariants as stop_of
use Rattle.vp_source.specs.declared.source.Module as module_of
use Rattle.vp_source.specs.declared.symbol.Symbol.{Symbol}
use Rattle.vp_source.specs.declared.symbol.SymbolKind.{SymbolKind}
use Rattle.vp_source.specs.declared.symbol.SymbolKind.TheVariants as symbol
use Rattle.vp_parse_expr.specs.Stopping.{Stop, is_next, following, Fails}
use Rattle.vp_parse_stmt.specs.Placing.{Placer}
use Rattle.vp_source.specs.Layout.{Lists, PortType}
use Rattle.vp_parse.specs.Placing.{Kept, Keeper, Made, further_into, item_into, items_into, next_type_into, port_into, ports_into, module_into, modules_into}

-- a comma is next
abbrev comma : List Symbol → Bool
comma ts = is_next (symbol.Punctuator punctuator.Comma) ts

-- what is after the next comma
abbrev after_comma : List Symbol → Result (List Symbol) Stop
after_comma ts = following (symbol.Punctuator punctuator.Comma) ts

is_next_longer : (kind : SymbolKind) (rest : List Symbol) → is_next kind rest ≡ true → 0 < length rest
is_next_longer kind [] h = absurd cc
is_next_longer kind (s ∷ ts) h = omega arith

-- ---- lists with commas

-- what is left of a list, with enough turns, gives the whole
pub record FurtherGoesOn (part : Keeper) (lists : Lists) (rest : List Symbol) (whole : Result Kept Stop) : Type 0 where
  pub turns : ℕ
  pub enough : length rest ≤ turns
  pub same_end : further_into part turns lists rest ≡ whole

module _ (part : Keeper) (lists : Lists) (rest : List Symbol) (whole : Result Kept Stop) where
  further_turn_by : (after : List Symbol) (e : Kept) (m : ℕ) → comma rest ≡ true → after_comma rest ≡ Ok after → part lists after ≡ Ok e → length e.1 < length rest → length rest ≤ m → further_into part m lists rest ≡ whole → FurtherGoesOn part e.0 e.1 whole
  unfolding further_into
  further_turn_by after e zero b h k lt le p = absurd (omega arith)
  further_turn_by after e (suc m) b h k lt le p = record { turns = m; enough = omega arith; same_end = sym (rw (b, h) (rw k refl)) ∙ p }

  -- one more part
  pub further_turn : (after : List Symbol) (e : Kept) → comma rest ≡ true → after_comma rest ≡ Ok after → part lists after ≡ Ok e → length e.1 < length rest → FurtherGoesOn part lists rest whole → FurtherGoesOn part e.0 e.1 whole
  further_turn after e b h k lt g = further_turn_by after e g.turns b h k lt g.enough g.same_end

  no_comma_by : (s : Stop) (m : ℕ) → comma rest ≡ true → after_comma rest ≡ Err s → length rest ≤ m → further_into part m lists rest ≡ whole → whole ≡ Err s
  unfolding further_into
  no_comma_by s zero b h le p = let lt = is_next_longer (symbol.Punctuator punctuator.Comma) rest b in absurd (omega arith)
  no_comma_by s (suc m) b h le p = sym p ∙ rw (b, h) refl

  -- no comma is next
  pub no_comma : (e : stop.Stop) → comma rest ≡ true → Fails e (after_comma rest) → FurtherGoesOn part lists rest whole → Fails e whole
  no_comma (stop_of.Syntax n) b h g = no_comma_by _ g.turns b h g.enough g.same_end
  no_comma (stop_of.LeftOut n) b h g = no_comma_by _ g.turns b h g.enough g.same_end
  no_comma (stop_of.TooDeep n) b h g = no_comma_by _ g.turns b h g.enough g.same_end
  no_comma stop_of.NoMemory b h g = tt

  no_part_by : (after : List Symbol) (s : Stop) (m : ℕ) → comma rest ≡ true → after_comma rest ≡ Ok after → part lists after ≡ Err s → length rest ≤ m → further_into part m lists rest ≡ whole → whole ≡ Err s
  unfolding further_into
  no_part_by after s zero b h k le p = let lt = is_next_longer (symbol.Punctuator punctuator.Comma) rest b in absurd (omega arith)
  no_part_by after s (suc m) b h k le p = sym p ∙ rw (b, h) (rw k refl)

  -- no part follows the comma
  pub no_part : (after : List Symbol) (e : stop.Stop) → comma rest ≡ true → after_comma rest ≡ Ok after → Fails e (part lists after) → FurtherGoesOn part lists rest whole → Fails e whole
  no_part after (stop_of.Syntax n) b h k g = no_part_by after _ g.turns b h k g.enough g.same_end
  no_part after (stop_of.LeftOut n) b h k g = no_part_by after _ g.turns b h k g.enough g.same_end
  no_part after (stop_of.TooDeep n) b h k g = no_part_by after _ g.turns b h k g.enough g.same_end
  no_part after stop_of.NoMemory b h k g = tt

  further_done_by : (m : ℕ) → comma rest ≡ false → further_into part m lists rest ≡ whole → whole ≡ Ok (lists, rest)
  unfolding further_into
  further_done_by zero b p = sym p
  further_done_by (suc m) b p = sym p ∙ rw b refl

  -- no more parts
  pub further_done : comma rest ≡ false → FurtherGoesOn part lists rest whole → whole ≡ Ok (lists, rest)
  further_done b g = further_done_by g.turns b g.same_end

-- ---- the items of a module

-- what is left of a module, with enough turns, gives the whole
pub record ItemsGoOn (limit : ℕ) (statement : Placer) (lists : Lists) (rest : List Symbol) (whole : Result Kept Stop) : Type 0 where
  pub turns : ℕ
  pub enough : length rest ≤ turns
  pub same_end : items_into limit statement turns lists rest ≡ whole

-- the items end
abbrev at_end : List Symbol → Bool
at_end ts = is_next (symbol.Keyword keyword.Endmodule) ts

module _ (limit : ℕ) (statement : Placer) (lists : Lists) (rest : List Symbol) (whole : Result Kept Stop) where
  item_turn_by : (e : Kept) (m : ℕ) → at_end rest ≡ false → item_into limit statement lists rest ≡ Ok e → length e.1 < length rest → length rest ≤ m → items_into limit statement m lists rest ≡ whole → ItemsGoOn limit statement e.0 e.1 whole
  unfolding items_into
  item_turn_by e zero b h lt le p = absurd (omega arith)
  item_turn_by e (suc m) b h lt le p = record { turns = m; enough = omega arith; same_end = sym (rw (b, h) refl) ∙ p }

  -- one more item
  pub item_turn : (e : Kept) → at_end rest ≡ false → item_into limit statement lists rest ≡ Ok e → length e.1 < length rest → ItemsGoOn limit statement lists rest whole → ItemsGoOn limit statement e.0 e.1 whole
  item_turn e b h lt g = item_turn_by e g.turns b h lt g.enough g.same_end

  items_done_by : (m : ℕ) → at_end rest ≡ true → items_into limit statement m lists rest ≡ whole → whole ≡ Ok (lists, rest)
  unfolding items_into
  items_done_by zero b p = sym p ∙ rw b refl
  items_done_by (suc m) b p = sym p ∙ rw b refl

  -- no more items
  pub items_done : at_end rest ≡ true → ItemsGoOn limit statement lists rest whole → whole ≡ Ok (lists, rest)
  items_done b g = items_done_by g.turns b g.same_end

item_fails_by : (limit : ℕ) (statement : Placer) (lists : Lists) (rest : List Symbol) (whole : Result Kept Stop) (s : Stop) (m : ℕ) → at_end rest ≡ false → item_into limit statement lists rest ≡ Err s → length rest ≤ m → items_into limit statement m lists rest ≡ whole → whole ≡ Err s
unfolding items_into item_into
item_fails_by limit statement lists [] whole s zero b h le p = sym p ∙ h
item_fails_by limit statement lists (t ∷ ts) whole s zero b h le p = absurd (omega arith)
item_fails_by limit statement lists rest whole s (suc m) b h le p = sym p ∙ rw (b, h) refl

-- the next item fails
pub item_fails : (limit : ℕ) (statement : Placer) (lists : Lists) (rest : List Symbol) (whole : Result Kept Stop) (e : stop.Stop) → at_end rest ≡ false → Fails e (item_into limit statement lists rest) → ItemsGoOn limit statement lists rest whole → Fails e whole
item_fails limit statement lists rest whole (stop_of.Syntax n) b h g = item_fails_by limit statement lists rest whole _ g.turns b h g.enough g.same_end
item_fails limit statement lists rest whole (stop_of.LeftOut n) b h g = item_fails_by limit statement lists rest whole _ g.turns b h g.enough g.same_end
item_fails limit statement lists rest whole (stop_of.TooDeep n) b h g = item_fails_by limit statement lists rest whole _ g.turns b h g.enough g.same_end
item_fails limit statement lists rest whole stop_of.NoMemory b h g = tt

-- ---- further ports

-- what is left of a list of ports, with enough turns, gives the whole
pub record PortsGoOn (before : PortType) (lists : Lists) (rest : List Symbol) (whole : Result Kept Stop) : Type 0 where
  pub turns : ℕ
  pub enough : length rest ≤ turns
  pub same_end : ports_into before turns lists rest ≡ whole

module _ (before : PortType) (lists : Lists) (rest : List Symbol) (whole : Result Kept Stop) where
  port_turn_by : (after : List Symbol) (t : PortType × List Symbol) (e : Kept) (m : ℕ) → comma rest ≡ true → after_comma rest ≡ Ok after → next_type_into before after ≡ Ok t → port_into t.0 lists t.1 ≡ Ok e → length e.1 < length rest → length rest ≤ m → ports_into before m lists rest ≡ whole → PortsGoOn t.0 e.0 e.1 whole
  unfolding ports_into
  port_turn_by after t e zero b h k l lt le p = absurd (omega arith)
  port_turn_by after t e (suc m) b h k l lt le p = record { turns = m; enough = omega arith; same_end = sym (rw (b, h) (rw k (rw l refl))) ∙ p }

  -- one more port
  pub port_turn : (after : List Symbol) (t : PortType × List Symbol) (e : Kept) → comma rest ≡ true → after_comma rest ≡ Ok after → next_type_into before after ≡ Ok t → port_into t.0 lists t.1 ≡ Ok e → length e.1 < length rest → PortsGoOn before lists rest whole → PortsGoOn t.0 e.0 e.1 whole
  port_turn after t e b h k l lt g = port_turn_by after t e g.turns b h k l lt g.enough g.same_end

  ports_stop_by : (s : Stop) (m : ℕ) → comma rest ≡ true → after_comma rest ≡ Err s → length rest ≤ m → ports_into before m lists rest ≡ whole → whole ≡ Err s
  unfolding ports_into
  ports_stop_by s zero b h le p = let lt = is_next_longer (symbol.Punctuator punctuator.Comma) rest b in absurd (omega arith)
  ports_stop_by s (suc m) b h le p = sym p ∙ rw (b, h) refl

  -- no comma is next
  pub ports_stop : (e : stop.Stop) → comma rest ≡ true → Fails e (after_comma rest) → PortsGoOn before lists rest whole → Fails e whole
  ports_stop (stop_of.Syntax n) b h g = ports_stop_by _ g.turns b h g.enough g.same_end
  ports_stop (stop_of.LeftOut n) b h g = ports_stop_by _ g.turns b h g.enough g.same_end
  ports_stop (stop_of.TooDeep n) b h g = ports_stop_by _ g.turns b h g.enough g.same_end
  ports_stop stop_of.NoMemory b h g = tt

  no_type_by : (after : List Symbol) (s : Stop) (m : ℕ) → comma rest ≡ true → after_comma rest ≡ Ok after → next_type_into before after ≡ Err s → length rest ≤ m → ports_into before m lists rest ≡ whole → whole ≡ Err s
  unfolding ports_into
  no_type_by after s zero b h k le p = let lt = is_next_longer (symbol.Punctuator punctuator.Comma) rest b in absurd (omega arith)
  no_type_by after s (suc m) b h k le p = sym p ∙ rw (b, h) (rw k refl)

  -- no direction follows the comma
  pub no_type : (after : List Symbol) (e : stop.Stop) → comma rest ≡ true → after_comma rest ≡ Ok after → Fails e (next_type_into before after) → PortsGoOn before lists rest whole → Fails e whole
  no_type after (stop_of.Syntax n) b h k g = no_type_by after _ g.turns b h k g.enough g.same_end
  no_type after (stop_of.LeftOut n) b h k g = no_type_by after _ g.turns b h k g.enough g.same_end
  no_type after (stop_of.TooDeep n) b h k g = no_type_by after _ g.turns b h k g.enough g.same_end
  no_type after stop_of.NoMemory b h k g = tt

  no_port_by : (after : List Symbol) (t : PortType × List Symbol) (s : Stop) (m : ℕ) → comma rest ≡ true → after_comma rest ≡ Ok after → next_type_into before after ≡ Ok t → port_into t.0 lists t.1 ≡ Err s → length rest ≤ m → ports_into before m lists rest ≡ whole → whole ≡ Err s
  unfolding ports_into
  no_port_by after t s zero b h k l le p = let lt = is_next_longer (symbol.Punctuator punctuator.Comma) rest b in absurd (omega arith)
  no_port_by after t s (suc m) b h k l le p = sym p ∙ rw (b, h) (rw k (rw l refl))

  -- no name follows the direction
  pub no_port : (after : List Symbol) (t : PortType × List Symbol) (e : stop.Stop) → comma rest ≡ true → after_comma rest ≡ Ok after → next_type_into before after ≡ Ok t → Fails e (port_into t.0 lists t.1) → PortsGoOn before lists rest whole → Fails e whole
  no_port after t (stop_of.Syntax n) b h k l g = no_port_by after t _ g.turns b h k l g.enough g.same_end
  no_port after t (stop_of.LeftOut n) b h k l g = no_port_by after t _ g.turns b h k l g.enough g.same_end
  no_port after t (stop_of.TooDeep n) b h k l g = no_port_by after t _ g.turns b h k l g.enough g.same_end
  no_port after t stop_of.NoMemory b h k l g = tt

  ports_done_by : (m : ℕ) → comma rest ≡ false → ports_into before m lists rest ≡ whole → whole ≡ Ok (lists, rest)
  unfolding ports_into
  ports_done_by zero b p = sym p
  ports_done_by (suc m) b p = sym p ∙ rw b refl

  -- no more ports
  pub ports_done : comma rest ≡ false → PortsGoOn before lists rest whole → whole ≡ Ok (lists, rest)
  ports_done b g = ports_done_by g.turns b g.same_end

-- ---- the modules of a text

-- what is left of a text, with enough turns, gives the whole
pub record ModulesGoOn (limit : ℕ) (modules : List module_of.Module) (lists : Lists) (rest : List Symbol) (whole : Result (List module_of.Module × Lists) Stop) : Type 0 where
  pub turns : ℕ
  pub enough : length rest ≤ turns
  pub same_end : modules_into limit turns modules lists rest ≡ whole

module _ (limit : ℕ) (modules : List module_of.Module) (lists : Lists) (rest : List Symbol) (whole : Result (List module_of.Module × Lists) Stop) where
  module_turn_by : (e : Made module_of.Module) (m : ℕ) → (length rest == 0) ≡ false → module_into limit lists rest ≡ Ok e → length e.2 < length rest → length rest ≤ m → modules_into limit m modules lists rest ≡ whole → ModulesGoOn limit (modules ++ e.0 ∷ []) e.1 e.2 whole
  unfolding modules_into
  module_turn_by e zero b h lt le p = absurd (omega arith)
  module_turn_by e (suc m) b h lt le p = record { turns = m; enough = omega arith; same_end = sym (rw (b, h) refl) ∙ p }

  -- one more module
  pub module_turn : (e : Made module_of.Module) → (length rest == 0) ≡ false → module_into limit lists rest ≡ Ok e → length e.2 < length rest → ModulesGoOn limit modules lists rest whole → ModulesGoOn limit (modules ++ e.0 ∷ []) e.1 e.2 whole
  module_turn e b h lt g = module_turn_by e g.turns b h lt g.enough g.same_end

  modules_done_by : (m : ℕ) → (length rest == 0) ≡ true → modules_into limit m modules lists rest ≡ whole → whole ≡ Ok (modules, lists)
  unfolding modules_into
  modules_done_by zero b p = sym p ∙ rw b refl
  modules_done_by (suc m) b p = sym p ∙ rw b refl

  -- no more modules
  pub modules_done : (length rest == 0) ≡ true → ModulesGoOn limit modules lists rest whole → whole ≡ Ok (modules, lists)
  modules_done b g = modules_done_by g.turns b g.same_end

  module_fails_by : (s : Stop) (m : ℕ) → (length rest == 0) ≡ false → module_into limit lists rest ≡ Err s → length rest ≤ m → modules_into limit m modules lists rest ≡ whole → whole ≡ Err s
  unfolding modules_into
  module_fails_by s zero b h le p = let e : length rest ≡ 0 = omega arith in absurd (zero_not rest e b) where
    zero_not : (rest : List Symbol) → length rest ≡ 0 → (length rest == 0) ≡ false → ⊥
    zero_not [] e b = absurd cc
    zero_not (s ∷ ts) e b = absurd (omega arith)
  module_fails_by s (suc m) b h le p = sym p ∙ rw (b, h) refl

  -- the next module fails
  pub module_fails : (e : stop.Stop) → (length rest == 0) ≡ false → Fails e (module_into limit lists rest) → ModulesGoOn limit modules lists rest whole → Fails e whole
  module_fails (stop_of.Syntax n) b h g = module_fails_by _ g.turns b h g.enough g.same_end
  module_fails (stop_of.LeftOut n) b h g = module_fails_by _ g.turns b h g.enough g.same_end
  module_fails (stop_of.TooDeep n) b h g = module_fails_by _ g.turns b h g.enough g.same_end
  module_fails stop_of.NoMemory b h g = tt
