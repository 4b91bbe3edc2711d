-- The loops of the reading into lists, one turn at a time, and one more level of depth.
use Rattle.vp_source.specs.declared.symbol.SymbolKind.TheVariants as symbol
use Rattle.vp_lex.specs.declared.token.Punctuator.TheVariants as punctuator
use Rattle.vp_source.specs.declared.statement.EventTerm as term
use Rattle.vp_source.specs.declared.statement.Choice as choice
use Rattle.std.proofs.Common.{◌≡◌, ℕ, zero, suc, ◌-◌, ◌≤◌, ◌<◌, List, [], ◌∷◌, ◌++◌, length, true, false, Result, Ok, Err, refl, sym, ap, ◌∙◌, arith, Bool}
use Rattle.vp_parse_expr.specs.declared.reading.Stop as stop
use Rattle.vp_parse_expr.specs.declared.reading.Stop.TheVariants as stop_of
use Rattle.vp_source.specs.declared.statement.Statement.TheVariants as statement_of
use Rattle.vp_source.specs.declared.symbol.Symbol.{Symbol}
use Rattle.vp_source.specs.StmtLayout.{Lists}
use Rattle.vp_parse_expr.specs.Stopping.{Stop, TooDeep, Fails, is_next}
use Rattle.vp_parse_stmt.specs.Reading.{goes_on, is_separator, items_go_on, may_still}
use Rattle.vp_parse_stmt.specs.Placing.{Made, Placer, chain_into, stmts_into, form_into, stmt_into, MadeTerms, joined_into, further_terms_into, MadeLabels, further_label_into, further_labels_into, MadeItems, item_into, further_items_into}

-- ---- the statements of a block

-- what is left of a block, with enough turns, gives the whole
pub record ChainGoesOn (next : Placer) (chain : ℕ) (lists : Lists) (rest : List Symbol) (whole : Result Made Stop) : Type 0 where
  pub turns : ℕ
  pub enough : length rest ≤ turns
  pub same_end : chain_into next turns chain lists rest ≡ whole

goes_on_longer : (rest : List Symbol) → goes_on rest ≡ true → 0 < length rest
goes_on_longer [] h = absurd cc
goes_on_longer (s ∷ ts) h = omega arith

-- the lists with one more link of a chain
abbrev pub linked : ℕ → ℕ → Lists → Lists
linked chain last lists = record lists { statements = lists.statements ++ statement_of.Then chain last ∷ [] }

module _ (next : Placer) (chain : ℕ) (lists : Lists) (rest : List Symbol) (whole : Result Made Stop) where
  chain_turn_by : (e : Made) (m : ℕ) → goes_on rest ≡ true → next lists rest ≡ Ok e → length e.2 < length rest → length rest ≤ m → chain_into next m chain lists rest ≡ whole → ChainGoesOn next (length e.1.statements) (linked chain e.0 e.1) e.2 whole
  unfolding chain_into
  chain_turn_by e zero b h lt le p = absurd (omega arith)
  chain_turn_by e (suc m) b h lt le p = record { turns = m; enough = omega arith; same_end = sym (rw (b, h) refl) ∙ p }

  -- one more statement
  pub chain_turn : (e : Made) → goes_on rest ≡ true → next lists rest ≡ Ok e → length e.2 < length rest → ChainGoesOn next chain lists rest whole → ChainGoesOn next (length e.1.statements) (linked chain e.0 e.1) e.2 whole
  chain_turn e b h lt g = chain_turn_by e g.turns b h lt g.enough g.same_end

  chain_fails_by : (s : Stop) (m : ℕ) → goes_on rest ≡ true → next lists rest ≡ Err s → length rest ≤ m → chain_into next m chain lists rest ≡ whole → whole ≡ Err s
  unfolding chain_into
  chain_fails_by s zero b h le p = let lt = goes_on_longer rest b in absurd (omega arith)
  chain_fails_by s (suc m) b h le p = sym p ∙ rw (b, h) refl

  -- the next statement fails
  pub chain_fails : (e : stop.Stop) → goes_on rest ≡ true → Fails e (next lists rest) → ChainGoesOn next chain lists rest whole → Fails e whole
  chain_fails (stop_of.Syntax n) b h g = chain_fails_by _ g.turns b h g.enough g.same_end
  chain_fails (stop_of.LeftOut n) b h g = chain_fails_by _ g.turns b h g.enough g.same_end
  chain_fails (stop_of.TooDeep n) b h g = chain_fails_by _ g.turns b h g.enough g.same_end
  chain_fails stop_of.NoMemory b h g = tt

  chain_done_by : (m : ℕ) → goes_on rest ≡ false → chain_into next m chain lists rest ≡ whole → whole ≡ Ok (chain, lists, rest)
  unfolding chain_into
  chain_done_by zero b p = sym p
  chain_done_by (suc m) b p = sym p ∙ rw b refl

  -- no more statements
  pub chain_done : goes_on rest ≡ false → ChainGoesOn next chain lists rest whole → whole ≡ Ok (chain, lists, rest)
  chain_done b g = chain_done_by g.turns b g.same_end

-- a block's statements begin with an empty chain
pub chain_starts : (next : Placer) (lists : Lists) (ts : List Symbol) → ChainGoesOn next (length lists.statements) (record lists { statements = lists.statements ++ statement_of.Empty ∷ [] }) ts (stmts_into next lists ts)
unfolding stmts_into
chain_starts next lists ts = record { turns = length ts; enough = omega arith; same_end = refl }

-- ---- the terms of an event

-- what is left of terms, with enough turns, gives the whole
pub record TermsGoOn (terms : List term.EventTerm) (rest : List Symbol) (whole : Result MadeTerms Stop) : Type 0 where
  pub turns : ℕ
  pub enough : length rest ≤ turns
  pub same_end : further_terms_into turns terms rest ≡ whole

is_separator_longer : (rest : List Symbol) → is_separator rest ≡ true → 0 < length rest
is_separator_longer [] h = absurd cc
is_separator_longer (s ∷ ts) h = omega arith

module _ (terms : List term.EventTerm) (rest : List Symbol) (whole : Result MadeTerms Stop) where
  term_turn_by : (e : MadeTerms) (m : ℕ) → is_separator rest ≡ true → joined_into terms rest ≡ Ok e → length e.1 < length rest → length rest ≤ m → further_terms_into m terms rest ≡ whole → TermsGoOn e.0 e.1 whole
  unfolding further_terms_into
  term_turn_by e zero b h lt le p = absurd (omega arith)
  term_turn_by e (suc m) b h lt le p = record { turns = m; enough = omega arith; same_end = sym (rw (b, h) refl) ∙ p }

  -- one more term
  pub term_turn : (e : MadeTerms) → is_separator rest ≡ true → joined_into terms rest ≡ Ok e → length e.1 < length rest → TermsGoOn terms rest whole → TermsGoOn e.0 e.1 whole
  term_turn e b h lt g = term_turn_by e g.turns b h lt g.enough g.same_end

  term_fails_by : (s : Stop) (m : ℕ) → is_separator rest ≡ true → joined_into terms rest ≡ Err s → length rest ≤ m → further_terms_into m terms rest ≡ whole → whole ≡ Err s
  unfolding further_terms_into
  term_fails_by s zero b h le p = let lt = is_separator_longer rest b in absurd (omega arith)
  term_fails_by s (suc m) b h le p = sym p ∙ rw (b, h) refl

  -- the next term fails
  pub term_fails : (e : stop.Stop) → is_separator rest ≡ true → Fails e (joined_into terms rest) → TermsGoOn terms rest whole → Fails e whole
  term_fails (stop_of.Syntax n) b h g = term_fails_by _ g.turns b h g.enough g.same_end
  term_fails (stop_of.LeftOut n) b h g = term_fails_by _ g.turns b h g.enough g.same_end
  term_fails (stop_of.TooDeep n) b h g = term_fails_by _ g.turns b h g.enough g.same_end
  term_fails stop_of.NoMemory b h g = tt

  terms_done_by : (m : ℕ) → is_separator rest ≡ false → further_terms_into m terms rest ≡ whole → whole ≡ Ok (terms, rest)
  unfolding further_terms_into
  terms_done_by zero b p = sym p
  terms_done_by (suc m) b p = sym p ∙ rw b refl

  -- no more terms
  pub terms_done : is_separator rest ≡ false → TermsGoOn terms rest whole → whole ≡ Ok (terms, rest)
  terms_done b g = terms_done_by g.turns b g.same_end

-- ---- the labels of an item of a case

-- a comma is next
abbrev pub is_comma : List Symbol → Bool
is_comma ts = is_next (symbol.Punctuator punctuator.Comma) ts

-- what is left of labels, with enough turns, gives the whole
pub record LabelsGoOn (limit : ℕ) (labels : List ℕ) (lists : Lists) (rest : List Symbol) (whole : Result MadeLabels Stop) : Type 0 where
  pub turns : ℕ
  pub enough : length rest ≤ turns
  pub same_end : further_labels_into limit turns labels lists rest ≡ whole

is_comma_longer : (rest : List Symbol) → is_comma rest ≡ true → 0 < length rest
is_comma_longer [] h = absurd cc
is_comma_longer (s ∷ ts) h = omega arith

module _ (limit : ℕ) (labels : List ℕ) (lists : Lists) (rest : List Symbol) (whole : Result MadeLabels Stop) where
  label_turn_by : (e : MadeLabels) (m : ℕ) → is_comma rest ≡ true → further_label_into limit labels lists rest ≡ Ok e → length e.2 < length rest → length rest ≤ m → further_labels_into limit m labels lists rest ≡ whole → LabelsGoOn limit e.0 e.1 e.2 whole
  unfolding further_labels_into
  label_turn_by e zero b h lt le p = absurd (omega arith)
  label_turn_by e (suc m) b h lt le p = record { turns = m; enough = omega arith; same_end = sym (rw (b, h) refl) ∙ p }

  -- one more label
  pub label_turn : (e : MadeLabels) → is_comma rest ≡ true → further_label_into limit labels lists rest ≡ Ok e → length e.2 < length rest → LabelsGoOn limit labels lists rest whole → LabelsGoOn limit e.0 e.1 e.2 whole
  label_turn e b h lt g = label_turn_by e g.turns b h lt g.enough g.same_end

  label_fails_by : (s : Stop) (m : ℕ) → is_comma rest ≡ true → further_label_into limit labels lists rest ≡ Err s → length rest ≤ m → further_labels_into limit m labels lists rest ≡ whole → whole ≡ Err s
  unfolding further_labels_into
  label_fails_by s zero b h le p = let lt = is_comma_longer rest b in absurd (omega arith)
  label_fails_by s (suc m) b h le p = sym p ∙ rw (b, h) refl

  -- the next label fails
  pub label_fails : (e : stop.Stop) → is_comma rest ≡ true → Fails e (further_label_into limit labels lists rest) → LabelsGoOn limit labels lists rest whole → Fails e whole
  label_fails (stop_of.Syntax n) b h g = label_fails_by _ g.turns b h g.enough g.same_end
  label_fails (stop_of.LeftOut n) b h g = label_fails_by _ g.turns b h g.enough g.same_end
  label_fails (stop_of.TooDeep n) b h g = label_fails_by _ g.turns b h g.enough g.same_end
  label_fails stop_of.NoMemory b h g = tt

  labels_done_by : (m : ℕ) → is_comma rest ≡ false → further_labels_into limit m labels lists rest ≡ whole → whole ≡ Ok (labels, lists, rest)
  unfolding further_labels_into
  labels_done_by zero b p = sym p
  labels_done_by (suc m) b p = sym p ∙ rw b refl

  -- no more labels
  pub labels_done : is_comma rest ≡ false → LabelsGoOn limit labels lists rest whole → whole ≡ Ok (labels, lists, rest)
  labels_done b g = labels_done_by g.turns b g.same_end

-- ---- the items of a case

-- what is left of items, with enough turns, gives the whole
pub record ItemsGoOn (limit : ℕ) (next : Placer) (may_default : Bool) (choices : List choice.Choice) (lists : Lists) (rest : List Symbol) (whole : Result MadeItems Stop) : Type 0 where
  pub turns : ℕ
  pub enough : length rest ≤ turns
  pub same_end : further_items_into limit next turns may_default choices lists rest ≡ whole

items_longer : (rest : List Symbol) → items_go_on rest ≡ true → 0 < length rest
items_longer [] h = absurd cc
items_longer (s ∷ ts) h = omega arith

module _ (limit : ℕ) (next : Placer) (may_default : Bool) (choices : List choice.Choice) (lists : Lists) (rest : List Symbol) (whole : Result MadeItems Stop) where
  item_turn_by : (e : MadeItems) (m : ℕ) → items_go_on rest ≡ true → item_into limit next may_default choices lists rest ≡ Ok e → length e.2 < length rest → length rest ≤ m → further_items_into limit next m may_default choices lists rest ≡ whole → ItemsGoOn limit next (may_still may_default rest) e.0 e.1 e.2 whole
  unfolding further_items_into
  item_turn_by e zero b h lt le p = absurd (omega arith)
  item_turn_by e (suc m) b h lt le p = record { turns = m; enough = omega arith; same_end = sym (rw (b, h) refl) ∙ p }

  -- one more item
  pub item_turn : (e : MadeItems) → items_go_on rest ≡ true → item_into limit next may_default choices lists rest ≡ Ok e → length e.2 < length rest → ItemsGoOn limit next may_default choices lists rest whole → ItemsGoOn limit next (may_still may_default rest) e.0 e.1 e.2 whole
  item_turn e b h lt g = item_turn_by e g.turns b h lt g.enough g.same_end

  item_fails_by : (s : Stop) (m : ℕ) → items_go_on rest ≡ true → item_into limit next may_default choices lists rest ≡ Err s → length rest ≤ m → further_items_into limit next m may_default choices lists rest ≡ whole → whole ≡ Err s
  unfolding further_items_into
  item_fails_by s zero b h le p = let lt = items_longer rest b in absurd (omega arith)
  item_fails_by s (suc m) b h le p = sym p ∙ rw (b, h) refl

  -- the next item fails
  pub item_fails : (e : stop.Stop) → items_go_on rest ≡ true → Fails e (item_into limit next may_default choices lists rest) → ItemsGoOn limit next may_default choices lists rest whole → Fails e whole
  item_fails (stop_of.Syntax n) b h g = item_fails_by _ g.turns b h g.enough g.same_end
  item_fails (stop_of.LeftOut n) b h g = item_fails_by _ g.turns b h g.enough g.same_end
  item_fails (stop_of.TooDeep n) b h g = item_fails_by _ g.turns b h g.enough g.same_end
  item_fails stop_of.NoMemory b h g = tt

  items_done_by : (m : ℕ) → items_go_on rest ≡ false → further_items_into limit next m may_default choices lists rest ≡ whole → whole ≡ Ok (choices, lists, rest)
  unfolding further_items_into
  items_done_by zero b p = sym p
  items_done_by (suc m) b p = sym p ∙ rw b refl

  -- no more items
  pub items_done : items_go_on rest ≡ false → ItemsGoOn limit next may_default choices lists rest whole → whole ≡ Ok (choices, lists, rest)
  items_done b g = items_done_by g.turns b g.same_end

-- a statement within one more level of depth
pub stmt_step : (limit d : ℕ) (lists : Lists) (ts : List Symbol) → (d ≡ 0 → ⊥) → stmt_into limit d lists ts ≡ form_into limit (stmt_into limit (d - 1)) lists ts
unfolding stmt_into
stmt_step limit zero lists ts h = absurd (h refl)
stmt_step limit (suc d) lists ts h = let e : d ≡ suc d - 1 = omega arith in ap (λ k. form_into limit (stmt_into limit k) lists ts) e

pub stmt_none : (limit d : ℕ) (lists : Lists) (ts : List Symbol) → d ≡ 0 → stmt_into limit d lists ts ≡ Err (TooDeep (length ts))
unfolding stmt_into
stmt_none limit zero lists ts h = refl
stmt_none limit (suc d) lists ts h = absurd (omega arith)
