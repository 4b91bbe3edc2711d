-- Laws of reading: what is spelled by a well-formed derivation is read as that derivation.
use Rattle.std.proofs.Common.{◌≡◌, ℕ, zero, suc, ◌+◌, ◌-◌, ◌≤◌, ◌<◌, List, [], ◌∷◌, length, true, false, eqb, Some, None, Result, Ok, refl, ◌∙◌, arith}
use Rattle.std.specs.Prelude.{nat_le, nat_lt}
use Rattle.std.proofs.lemmas.Bool.{and_left, and_right, ne_eqb}
use Rattle.vp_lex.specs.declared.token.Punctuator.{Punctuator}
use Rattle.vp_lex.specs.declared.token.Punctuator.TheVariants as punctuator
use Rattle.vp_source.specs.declared.operator.BinaryOperator.{BinaryOperator}
use Rattle.vp_source.specs.declared.operator.BinaryOperator.TheVariants as binary
use Rattle.vp_source.specs.declared.operator.UnaryOperator.{UnaryOperator}
use Rattle.vp_source.specs.declared.operator.UnaryOperator.TheVariants as unary
use Rattle.vp_source.specs.declared.symbol.Symbol.{Symbol}
use Rattle.vp_source.specs.declared.symbol.SymbolKind.{SymbolKind}
use Rattle.vp_source.specs.declared.symbol.SymbolKind.TheVariants as symbol
use Rattle.vp_source.specs.declared.symbol.TheConstants.{NUMBER_LIMIT}
use Rattle.vp_source.specs.Kinds.{same_kind, symbol_at}
use Rattle.vp_source.specs.Operators.{unary_sign, binary_sign, level, binds}
use Rattle.vp_parse_expr.specs.laws.Binding.{level_above, level_below, binds-sign, binds-loose, binds-more, binds-none}
use Rattle.vp_parse_expr.specs.Stopping.{Stop, ◌>>=◌, Reader, is_next, terminal}
use Rattle.vp_source.specs.ExprGrammar.{Range, Expr, Name, Sized, Based, Number, Group, Unary, Binary, Conditional, Concatenation, Replication, Selection, Whole, Bit, Part, Parts, First, More, range_text, expr_text, selection_text, parts_text, tightness, is_unsized, is_sized, is_sized_base, IsRange, IsExpr, IsSelection, AreParts, expr_depth, selection_depth, parts_depth}
use Rattle.vp_parse_expr.specs.Meaning.{Stops}
use Rattle.vp_parse_expr.specs.Reading.{is_alone, is_base_next, is_number_before, is_bare, bound_by, bound_at, range_at, sized_at, number_at, literal_by, literal_at, bit_at, part_select_at, select_at, name_at, group_at, unary_at, part_at, further_part_at, further_parts_at, parts_at, concatenation_at, replication_at, braces_at, operand_by, operand_at, binary_at, more_at, conditional_at, is_choice, choice_at, chain_at, expr_at}
use Rattle.vp_parse_expr.specs.laws.Takes.{before, expr_longer}

nat_le-of : (m n : ℕ) → m ≤ n → nat_le m n ≡ true
nat_le-of m n h = grind arith

nat_lt-of : (m n : ℕ) → m < n → nat_lt m n ≡ true
nat_lt-of m n h = grind arith

-- an expression nests
pub depth_above : (e : Expr) → 0 < expr_depth e
depth_above (Name place s) = omega arith
depth_above (Sized place size kind digits) = omega arith
depth_above (Based digits) = omega arith
depth_above (Number place value) = omega arith
depth_above (Group opening e closing) = omega arith
depth_above (Unary o place e) = omega arith
depth_above (Binary o a place b) = omega arith
depth_above (Conditional c question a colon b) = omega arith
depth_above (Concatenation opening l closing) = omega arith
depth_above (Replication opening count_place count inner_opening l inner_closing closing) = omega arith

-- a reader at each level reads each expression again that nests at most so deep
abbrev pub Complete : ℕ → (ℕ → Reader Expr) → Type 0
Complete limit next = (least : ℕ) (e : Expr) (rest : List Symbol) → IsExpr e → least ≤ tightness e → expr_depth e ≤ limit → Stops least rest → next least (expr_text e rest) ≡ Ok (e, rest)

-- a reader of an index reads it again, up to its bracket
abbrev pub CompleteIndex : ℕ → Reader Expr → Type 0
CompleteIndex limit index = (e : Expr) (closing : ℕ) (rest : List Symbol) → IsExpr e → expr_depth e ≤ limit → index (expr_text e (symbol_at (symbol.Punctuator punctuator.RightBracket) closing ∷ rest)) ≡ Ok (e, symbol_at (symbol.Punctuator punctuator.RightBracket) closing ∷ rest)

index_complete : (limit : ℕ) (next : ℕ → Reader Expr) → Complete limit next → CompleteIndex limit (next 0)
index_complete limit next complete e closing rest is fits =
    complete 0 e (before (symbol.Punctuator punctuator.RightBracket) closing rest) is (omega arith) fits (record { no_operator = refl; no_choice = refl; no_bracket = refl; no_base = refl })

-- ---- ranges and selections

bound_again : (greatest value place : ℕ) (rest : List Symbol) → value ≤ greatest → bound_at greatest (symbol_at (symbol.Number value) place ∷ rest) ≡ Ok (value, place, rest)
unfolding bound_at bound_by
bound_again greatest value place rest le = let h = nat_le-of value greatest le in rw h refl

-- what is spelled as a range is read as that range
pub range_again : (r : Range) (rest : List Symbol) → IsRange r → range_at (range_text r rest) ≡ Ok (r, rest)
unfolding range_at terminal
range_again r rest is =
    let right = before (symbol.Punctuator punctuator.RightBracket) r.closing rest in
    let h = bound_again 65535 r.msb r.msb_place (before (symbol.Punctuator punctuator.Colon) r.colon (before (symbol.Number r.lsb) r.lsb_place right)) is.fits in
    let k = bound_again r.msb r.lsb r.lsb_place right is.descends in
    rw h (rw k refl)

-- ---- what two symbols decide

base_no_punctuator : (p : Punctuator) (kind : SymbolKind) → is_sized_base kind ≡ true → same_kind (symbol.Punctuator p) kind ≡ false
base_no_punctuator p symbol.ShortBase h = refl
base_no_punctuator p symbol.Base h = refl
base_no_punctuator p _ h = absurd cc

module _ (p : Punctuator) (no_sign : (o : BinaryOperator) → same_kind (symbol.Punctuator p) (symbol.Punctuator (binary_sign o)) ≡ false) (no_question : same_kind (symbol.Punctuator p) (symbol.Punctuator punctuator.Conditional) ≡ false) where
  -- an expression does not begin with a number and this punctuator
  expr_alone : (e : Expr) (rest : List Symbol) → IsExpr e → is_next (symbol.Punctuator p) rest ≡ false → is_number_before (symbol.Punctuator p) (expr_text e rest) ≡ false
  expr_alone (Sized place size kind digits) rest is h = base_no_punctuator p kind is.2
  expr_alone (Number place value) rest is h = h
  expr_alone (Binary o a place b) rest is h = expr_alone a (before (symbol.Punctuator (binary_sign o)) place (expr_text b rest)) is.0 (no_sign o)
  expr_alone (Conditional c question a colon b) rest is h =
      expr_alone c (before (symbol.Punctuator punctuator.Conditional) question (expr_text a (before (symbol.Punctuator punctuator.Colon) colon (expr_text b rest)))) is.0 no_question
  expr_alone (Name place s) rest is h = refl
  expr_alone (Based digits) rest is h = refl
  expr_alone (Group opening e closing) rest is h = refl
  expr_alone (Unary o place e) rest is h = refl
  expr_alone (Concatenation opening l closing) rest is h = refl
  expr_alone (Replication opening count_place count inner_opening l inner_closing closing) rest is h = refl

no_colon : (o : BinaryOperator) → same_kind (symbol.Punctuator punctuator.Colon) (symbol.Punctuator (binary_sign o)) ≡ false
no_colon binary.Multiply = refl
no_colon _ = refl

no_brace : (o : BinaryOperator) → same_kind (symbol.Punctuator punctuator.LeftBrace) (symbol.Punctuator (binary_sign o)) ≡ false
no_brace binary.Multiply = refl
no_brace _ = refl

no_bracket_of : (o : BinaryOperator) → same_kind (symbol.Punctuator punctuator.LeftBracket) (symbol.Punctuator (binary_sign o)) ≡ false
no_bracket_of binary.Multiply = refl
no_bracket_of _ = refl

no_question_of : (o : BinaryOperator) → same_kind (symbol.Punctuator punctuator.Conditional) (symbol.Punctuator (binary_sign o)) ≡ false
no_question_of binary.Multiply = refl
no_question_of _ = refl

parts_alone : (l : Parts) (rest : List Symbol) → AreParts l → is_next (symbol.Punctuator punctuator.LeftBrace) rest ≡ false → is_number_before (symbol.Punctuator punctuator.LeftBrace) (parts_text l rest) ≡ false
parts_alone (First e) rest are h = expr_alone punctuator.LeftBrace no_brace refl e rest are.0 h
parts_alone (More l comma e) rest are h = parts_alone l (before (symbol.Punctuator punctuator.Comma) comma (expr_text e rest)) are.0 refl

-- ---- selections

-- what is spelled as a selection is read as that selection
pub select_again : (limit : ℕ) (index : Reader Expr) → CompleteIndex limit index → (s : Selection) (rest : List Symbol) → IsSelection s → selection_depth s ≤ limit → is_next (symbol.Punctuator punctuator.LeftBracket) rest ≡ false → select_at index (selection_text s rest) ≡ Ok (s, rest)
unfolding select_at bit_at part_select_at terminal
select_again limit index complete Whole rest is fits stops = rw stops refl
select_again limit index complete (Bit opening e closing) rest is fits stops =
    let alone = expr_alone punctuator.Colon no_colon refl e (before (symbol.Punctuator punctuator.RightBracket) closing rest) is refl in
    let h = complete e closing rest is fits in
    rw alone (rw h refl)
select_again limit index complete (Part r) rest is fits stops = let h = range_again r rest is in rw h refl

-- ---- operands

sized_again : (size place : ℕ) (kind : SymbolKind) (digits : ℕ) (rest : List Symbol) → 1 ≤ size → size ≤ 65535 → is_sized_base kind ≡ true → number_at size place (symbol_at kind digits ∷ rest) ≡ Ok (Sized place size kind digits, rest)
unfolding number_at sized_at
sized_again size place symbol.ShortBase digits rest least most is = rw (nat_le-of 1 size least, nat_le-of size 65535 most) refl
sized_again size place symbol.Base digits rest least most is = rw (nat_le-of 1 size least, nat_le-of size 65535 most) refl
sized_again size place _ digits rest least most is = absurd cc

number_again : (value place : ℕ) (rest : List Symbol) → value < NUMBER_LIMIT → is_base_next rest ≡ false → number_at value place rest ≡ Ok (Number place value, rest)
unfolding number_at
number_again value place rest fits stops = rw (stops, nat_lt-of value NUMBER_LIMIT fits) refl

sized_base_next : (kind : SymbolKind) (digits : ℕ) (rest : List Symbol) → is_sized_base kind ≡ true → is_base_next (symbol_at kind digits ∷ rest) ≡ true
sized_base_next symbol.ShortBase digits rest is = refl
sized_base_next symbol.Base digits rest is = refl
sized_base_next _ digits rest is = absurd cc

sized_read : (size place : ℕ) (kind : SymbolKind) (digits : ℕ) (rest : List Symbol) → is_base_next (symbol_at kind digits ∷ rest) ≡ true → number_at size place (symbol_at kind digits ∷ rest) ≡ Ok (Sized place size kind digits, rest) → sized_at size place (symbol_at kind digits ∷ rest) ≡ Ok (Sized place size kind digits, rest)
unfolding number_at
sized_read size place kind digits rest b h = rw b at h

-- what is spelled as a literal with a size is read as that literal
pub literal_again : (e : Expr) (rest : List Symbol) → IsExpr e → is_sized e ≡ true → literal_at (expr_text e rest) ≡ Ok (e, rest)
unfolding literal_at literal_by
literal_again (Sized place size kind digits) rest is sized =
    let h = sized_again size place kind digits rest is.0 is.1 is.2 in
    let b = sized_base_next kind digits rest is.2 in
    rw b (sized_read size place kind digits rest b h)
literal_again _ rest is sized = absurd cc

longer_not_bare : (ts rest : List Symbol) → length rest + 1 < length ts → is_bare ts rest ≡ false
longer_not_bare [] rest h = refl
longer_not_bare (s ∷ ts) rest h = and_right (is_alone s.kind) (eqb (length ts) (length rest)) (ne_eqb _ _ (λ e. omega arith))

sized_not_bare : (e : Expr) (rest : List Symbol) → is_unsized e ≡ false → is_bare (expr_text e rest) rest ≡ false
sized_not_bare (Based digits) rest h = absurd cc
sized_not_bare (Number place value) rest h = absurd cc
sized_not_bare (Sized place size kind digits) rest h = ne_eqb _ _ (λ e. omega arith)
sized_not_bare (Binary o a place b) rest h = longer_not_bare (expr_text a (before (symbol.Punctuator (binary_sign o)) place (expr_text b rest))) rest (let h = expr_longer a (before (symbol.Punctuator (binary_sign o)) place (expr_text b rest)) in let k = expr_longer b rest in omega arith)
sized_not_bare (Conditional c question a colon b) rest h =
    let following = before (symbol.Punctuator punctuator.Colon) colon (expr_text b rest) in
    longer_not_bare (expr_text c (before (symbol.Punctuator punctuator.Conditional) question (expr_text a following))) rest
    (let h = expr_longer c (before (symbol.Punctuator punctuator.Conditional) question (expr_text a following)) in let k = expr_longer a following in let l = expr_longer b rest in omega arith)
sized_not_bare (Name place s) rest h = refl
sized_not_bare (Group opening e closing) rest h = refl
sized_not_bare (Unary o place e) rest h = refl
sized_not_bare (Concatenation opening l closing) rest h = refl
sized_not_bare (Replication opening count_place count inner_opening l inner_closing closing) rest h = refl

module _ (d : ℕ) (next : ℕ → Reader Expr) (complete : Complete d next) where
  part_again : (e : Expr) (rest : List Symbol) → IsExpr e → is_unsized e ≡ false → expr_depth e ≤ d → Stops 0 rest → part_at next (expr_text e rest) ≡ Ok (e, rest)
  unfolding part_at
  part_again e rest is sized fits stops =
      let h = complete 0 e rest is (omega arith) fits stops in
      rw h (rw (sized_not_bare e rest sized) refl)

  -- the reading of parts comes after these, to go on there
  record PartsOpened (l : Parts) (rest : List Symbol) : Type 0 where
    turns : ℕ
    enough : length rest ≤ turns
    comes : parts_at next (parts_text l rest) ≡ further_parts_at next turns l rest

  PartsOpened-more : (l : Parts) (comma : ℕ) (e : Expr) (rest : List Symbol) (m : ℕ) → length (symbol_at (symbol.Punctuator punctuator.Comma) comma ∷ expr_text e rest) ≤ m
      → parts_at next (parts_text l (symbol_at (symbol.Punctuator punctuator.Comma) comma ∷ expr_text e rest)) ≡ further_parts_at next m l (symbol_at (symbol.Punctuator punctuator.Comma) comma ∷ expr_text e rest)
      → IsExpr e → is_unsized e ≡ false → expr_depth e ≤ d → Stops 0 rest → PartsOpened (More l comma e) rest
  unfolding further_parts_at further_part_at terminal
  PartsOpened-more l comma e rest zero le comes is sized fits stops = absurd (omega arith)
  PartsOpened-more l comma e rest (suc m) le comes is sized fits stops =
      let h = part_again e rest is sized fits stops in
      let longer = expr_longer e rest in
      record { turns = m; enough = omega arith; comes = comes ∙ rw h refl }

  parts_open : (l : Parts) (rest : List Symbol) → AreParts l → parts_depth l ≤ d → Stops 0 rest → PartsOpened l rest
  unfolding parts_at
  parts_open (First e) rest are fits stops =
      let h = part_again e rest are.0 are.1 fits stops in
      record { turns = length rest; enough = omega arith; comes = rw h refl }
  parts_open (More l comma e) rest are fits stops =
      let o = parts_open l (before (symbol.Punctuator punctuator.Comma) comma (expr_text e rest)) are.0 (omega arith) (record { no_operator = refl; no_choice = refl; no_bracket = refl; no_base = refl }) in
      PartsOpened-more l comma e rest o.turns o.enough o.comes are.1 are.2 (omega arith) stops

  parts_stop : (m : ℕ) (l : Parts) (closing : ℕ) (rest : List Symbol) → further_parts_at next m l (symbol_at (symbol.Punctuator punctuator.RightBrace) closing ∷ rest) ≡ Ok (l, symbol_at (symbol.Punctuator punctuator.RightBrace) closing ∷ rest)
  unfolding further_parts_at
  parts_stop zero l closing rest = refl
  parts_stop (suc m) l closing rest = refl

  parts_again : (l : Parts) (closing : ℕ) (rest : List Symbol) → AreParts l → parts_depth l ≤ d → parts_at next (parts_text l (symbol_at (symbol.Punctuator punctuator.RightBrace) closing ∷ rest)) ≡ Ok (l, symbol_at (symbol.Punctuator punctuator.RightBrace) closing ∷ rest)
  parts_again l closing rest are fits =
      let o = parts_open l (before (symbol.Punctuator punctuator.RightBrace) closing rest) are fits (record { no_operator = refl; no_choice = refl; no_bracket = refl; no_base = refl }) in
      o.comes ∙ parts_stop o.turns l closing rest

  unary_again : (o : UnaryOperator) (place : ℕ) (e : Expr) (rest : List Symbol) → IsExpr e → 11 ≤ tightness e → expr_depth e ≤ d → is_next (symbol.Punctuator punctuator.LeftBracket) rest ≡ false → is_base_next rest ≡ false → unary_at next (Some o) place (expr_text e rest) ≡ Ok (Unary o place e, rest)
  unfolding unary_at
  unary_again o place e rest is tight fits bracket base =
      let h = complete 11 e rest is tight fits (record { no_operator = binds-none 11 rest (omega arith); no_choice = refl; no_bracket = bracket; no_base = base }) in
      rw h refl

  unary_by_again : (o : UnaryOperator) (place : ℕ) (ts : List Symbol) → operand_by next (symbol.Punctuator (unary_sign o)) place ts ≡ unary_at next (Some o) place ts
  unfolding operand_by
  unary_by_again unary.Plus place ts = refl
  unary_by_again _ place ts = refl

  operand_again : (e : Expr) (rest : List Symbol) → tightness e ≡ 11 → IsExpr e → expr_depth e ≤ suc d → is_next (symbol.Punctuator punctuator.LeftBracket) rest ≡ false → is_base_next rest ≡ false → operand_at next (expr_text e rest) ≡ Ok (e, rest)
  unfolding operand_at operand_by name_at group_at braces_at concatenation_at replication_at terminal
  operand_again (Name place s) rest tight is fits bracket base =
      let h = select_again d (next 0) (index_complete d next complete) s rest is (omega arith) bracket in rw h refl
  operand_again (Sized place size kind digits) rest tight is fits bracket base = sized_again size place kind digits rest is.0 is.1 is.2
  operand_again (Based digits) rest tight is fits bracket base = refl
  operand_again (Number place value) rest tight is fits bracket base = number_again value place rest is base
  operand_again (Group opening e closing) rest tight is fits bracket base =
      let h = complete 0 e (before (symbol.Punctuator punctuator.RightParenthesis) closing rest) is (omega arith) (omega arith) (record { no_operator = refl; no_choice = refl; no_bracket = refl; no_base = refl }) in
      rw h refl
  operand_again (Unary o place e) rest tight is fits bracket base =
      unary_by_again o place (expr_text e rest) ∙ unary_again o place e rest is.0 is.1 (omega arith) bracket base
  operand_again (Concatenation opening l closing) rest tight is fits bracket base =
      let alone = parts_alone l (before (symbol.Punctuator punctuator.RightBrace) closing rest) is refl in
      let h = parts_again l closing rest is (omega arith) in
      rw alone (rw h refl)
  operand_again (Replication opening count_place count inner_opening l inner_closing closing) rest tight is fits bracket base =
      let n = bound_again (NUMBER_LIMIT - 1) count count_place (before (symbol.Punctuator punctuator.LeftBrace) inner_opening (parts_text l (before (symbol.Punctuator punctuator.RightBrace) inner_closing (before (symbol.Punctuator punctuator.RightBrace) closing rest)))) (omega (arith, is.1)) in
      let h = parts_again l inner_closing (before (symbol.Punctuator punctuator.RightBrace) closing rest) is.0 (omega arith) in
      rw n (rw h refl)
  operand_again (Binary o a place b) rest tight is fits bracket base = let h = level_below o in absurd (omega arith)
  operand_again (Conditional c question a colon b) rest tight is fits bracket base = absurd (omega arith)

-- ---- operators of two operands, and ?:

-- the reading comes after the expression, to go on there
record Opened (next : ℕ → Reader Expr) (limit least : ℕ) (e : Expr) (rest : List Symbol) : Type 0 where
  turns : ℕ
  enough : length rest ≤ turns
  comes : (k : Expr × List Symbol → Result (Expr × List Symbol) Stop) → (operand_at next (expr_text e rest) >>= λ x. more_at next limit (length x.1) least x.0 x.1 >>= k) ≡ (more_at next limit turns least e rest >>= k)

module _ (d : ℕ) (next : ℕ → Reader Expr) (complete : Complete d next) where
  Opened-operand : (least : ℕ) (e : Expr) (rest : List Symbol) → tightness e ≡ 11 → IsExpr e → expr_depth e ≤ suc d → is_next (symbol.Punctuator punctuator.LeftBracket) rest ≡ false → is_base_next rest ≡ false → Opened next d least e rest
  Opened-operand least e rest tight is fits bracket base =
      let h = operand_again d next complete e rest tight is fits bracket base in
      record { turns = length rest; enough = omega arith; comes = λ k. rw h refl }

  Opened-more : (least : ℕ) (o : BinaryOperator) (a : Expr) (place : ℕ) (b : Expr) (rest : List Symbol) (m : ℕ) → length (symbol_at (symbol.Punctuator (binary_sign o)) place ∷ expr_text b rest) ≤ m
      → ((k : Expr × List Symbol → Result (Expr × List Symbol) Stop) → (operand_at next (expr_text a (symbol_at (symbol.Punctuator (binary_sign o)) place ∷ expr_text b rest)) >>= λ x. more_at next d (length x.1) least x.0 x.1 >>= k) ≡ (more_at next d m least a (symbol_at (symbol.Punctuator (binary_sign o)) place ∷ expr_text b rest) >>= k))
      → IsExpr b → level o < tightness b → least ≤ level o → expr_depth a ≤ d → expr_depth b ≤ d → binds (level o + 1) rest ≡ None → is_next (symbol.Punctuator punctuator.LeftBracket) rest ≡ false → is_base_next rest ≡ false → Opened next d least (Binary o a place b) rest
  unfolding more_at binary_at
  Opened-more least o a place b rest zero le comes is tight lt fits-a fits-b ends bracket base = absurd (omega arith)
  Opened-more least o a place b rest (suc m) le comes is tight lt fits-a fits-b ends bracket base =
      let no_choice : is_choice (level o + 1) rest ≡ false = and_left (eqb (level o + 1) 0) (is_next (symbol.Punctuator punctuator.Conditional) rest) (ne_eqb _ _ (λ e. omega arith)) in
      let h = complete (level o + 1) b rest is (omega arith) fits-b (record { no_operator = ends; no_choice = no_choice; no_bracket = bracket; no_base = base }) in
      let longer = expr_longer b rest in
      record { turns = m; enough = omega arith; comes = λ k. comes k ∙ rw (binds-sign least place o (expr_text b rest) lt) (rw (nat_le-of (expr_depth a) d fits-a, h) refl) }

  chain_again : (least : ℕ) (e : Expr) (rest : List Symbol) → 0 < tightness e → IsExpr e → least ≤ tightness e → expr_depth e ≤ suc d → binds (tightness e + 1) rest ≡ None → is_next (symbol.Punctuator punctuator.LeftBracket) rest ≡ false → is_base_next rest ≡ false → Opened next d least e rest
  chain_again least (Binary o a place b) rest no_choice is tight fits ends bracket base =
      let above = level_above o in
      let first = chain_again least a (before (symbol.Punctuator (binary_sign o)) place (expr_text b rest)) (omega (arith, is.2)) is.0 (omega (arith, is.2)) (omega arith) (binds-loose (tightness a + 1) place o (expr_text b rest) (omega (arith, is.2))) (no_bracket_of o) refl in
      Opened-more least o a place b rest first.turns first.enough first.comes is.1 is.3 tight (omega arith) (omega arith) ends bracket base
  chain_again least (Conditional c question a colon b) rest no_choice is tight fits ends bracket base = absurd (omega arith)
  chain_again least (Name place s) rest no_choice is tight fits ends bracket base = Opened-operand least (Name place s) rest refl is fits bracket base
  chain_again least (Sized place size kind digits) rest no_choice is tight fits ends bracket base = Opened-operand least (Sized place size kind digits) rest refl is fits bracket base
  chain_again least (Based digits) rest no_choice is tight fits ends bracket base = Opened-operand least (Based digits) rest refl is fits bracket base
  chain_again least (Number place value) rest no_choice is tight fits ends bracket base = Opened-operand least (Number place value) rest refl is fits bracket base
  chain_again least (Group opening e closing) rest no_choice is tight fits ends bracket base = Opened-operand least (Group opening e closing) rest refl is fits bracket base
  chain_again least (Unary o place e) rest no_choice is tight fits ends bracket base = Opened-operand least (Unary o place e) rest refl is fits bracket base
  chain_again least (Concatenation opening l closing) rest no_choice is tight fits ends bracket base = Opened-operand least (Concatenation opening l closing) rest refl is fits bracket base
  chain_again least (Replication opening count_place count inner_opening l inner_closing closing) rest no_choice is tight fits ends bracket base =
      Opened-operand least (Replication opening count_place count inner_opening l inner_closing closing) rest refl is fits bracket base

  more_stops : (least m : ℕ) (left : Expr) (rest : List Symbol) → binds least rest ≡ None → more_at next d m least left rest ≡ Ok (left, rest)
  unfolding more_at
  more_stops least zero left rest ends = refl
  more_stops least (suc m) left rest ends = rw ends refl

  choice_stops : (least : ℕ) (e : Expr) (rest : List Symbol) → is_choice least rest ≡ false → choice_at next d least e rest ≡ Ok (e, rest)
  unfolding choice_at
  choice_stops least e rest stops = rw stops refl

  -- after an expression whose operators have been read
  opened_choice : (least : ℕ) (e : Expr) (rest : List Symbol) → Opened next d least e rest → binds least rest ≡ None → chain_at next d least (expr_text e rest) ≡ choice_at next d least e rest
  unfolding chain_at
  opened_choice least e rest o ends = o.comes (λ z. choice_at next d least z.0 z.1) ∙ rw (more_stops least o.turns e rest ends) refl

  whole_chain : (least : ℕ) (e : Expr) (rest : List Symbol) → 0 < tightness e → IsExpr e → least ≤ tightness e → expr_depth e ≤ suc d → Stops least rest → chain_at next d least (expr_text e rest) ≡ Ok (e, rest)
  whole_chain least e rest no_choice is tight fits stops =
      let o = chain_again least e rest no_choice is tight fits (binds-more least (tightness e + 1) rest (omega arith) stops.no_operator) stops.no_bracket stops.no_base in
      opened_choice least e rest o stops.no_operator ∙ choice_stops least e rest stops.no_choice

  conditional_again : (c : Expr) (question : ℕ) (a : Expr) (colon : ℕ) (b : Expr) (rest : List Symbol) → IsExpr (Conditional c question a colon b) → expr_depth (Conditional c question a colon b) ≤ suc d → Stops 0 rest
      → choice_at next d 0 c (symbol_at (symbol.Punctuator punctuator.Conditional) question ∷ expr_text a (symbol_at (symbol.Punctuator punctuator.Colon) colon ∷ expr_text b rest)) ≡ Ok (Conditional c question a colon b, rest)
  unfolding choice_at conditional_at terminal
  conditional_again c question a colon b rest is fits stops =
      let h = complete 0 a (before (symbol.Punctuator punctuator.Colon) colon (expr_text b rest)) is.1 (omega arith) (omega arith) (record { no_operator = refl; no_choice = refl; no_bracket = refl; no_base = refl }) in
      let k = complete 0 b rest is.2 (omega arith) (omega arith) stops in
      rw (nat_le-of (expr_depth c) d (omega arith), h) (rw k refl)

  whole_choice : (c : Expr) (question : ℕ) (a : Expr) (colon : ℕ) (b : Expr) (rest : List Symbol) → IsExpr (Conditional c question a colon b) → expr_depth (Conditional c question a colon b) ≤ suc d → Stops 0 rest → chain_at next d 0 (expr_text (Conditional c question a colon b) rest) ≡ Ok (Conditional c question a colon b, rest)
  whole_choice c question a colon b rest is fits stops =
      let tail = before (symbol.Punctuator punctuator.Conditional) question (expr_text a (before (symbol.Punctuator punctuator.Colon) colon (expr_text b rest))) in
      let o = chain_again 0 c tail is.3 is.0 (omega arith) (omega arith) refl refl refl in
      opened_choice 0 c tail o refl ∙ conditional_again c question a colon b rest is fits stops

  chain_complete : Complete (suc d) (chain_at next d)
  chain_complete least (Conditional c question a colon b) rest is tight fits stops =
      let z : least ≡ 0 = omega arith in
      rw z (whole_choice c question a colon b rest is fits (rw z at stops))
  chain_complete least (Binary o a place b) rest is tight fits stops = whole_chain least (Binary o a place b) rest (level_above o) is tight fits stops
  chain_complete least e rest is tight fits stops = whole_chain least e rest (omega arith) is tight fits stops

-- what is spelled as an expression, and followed by nothing that goes on, is read as that expression
pub expr_again : (limit : ℕ) → Complete limit (expr_at limit)
unfolding expr_at
expr_again zero least e rest is tight fits stops = let h = depth_above e in absurd (omega arith)
expr_again (suc d) least e rest is tight fits stops = chain_complete d (expr_at d) (expr_again d) least e rest is tight fits stops

-- and what is spelled as a selection
pub selection_again : (limit : ℕ) (s : Selection) (rest : List Symbol) → IsSelection s → selection_depth s ≤ limit → is_next (symbol.Punctuator punctuator.LeftBracket) rest ≡ false → select_at (expr_at limit 0) (selection_text s rest) ≡ Ok (s, rest)
selection_again limit s rest is fits stops = select_again limit (expr_at limit 0) (index_complete limit (expr_at limit) (expr_again limit)) s rest is fits stops
