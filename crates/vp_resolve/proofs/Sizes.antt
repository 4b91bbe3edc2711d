-- The sizes of the expressions of a design of which none is too wide or bad: each is 1 to 64, and as it is counted.
use Rattle.std.proofs.Common.{◌≡◌, ◌∙◌, ℕ, zero, suc, ◌+◌, ◌*◌, ◌≤◌, ◌==◌, max, Bool, true, false, cond, List, [], ◌∷◌, ◌++◌, length, map, drop, replicate, get_or, slice_get, append_assoc, Option, Some, None, refl, sym, ap, subst, arith}
use Rattle.std.specs.Prelude.{option_map}
use Rattle.std.proofs.lemmas.Bool.{and_from, le-leb, ltb-false, eqb-false}
use Rattle.std.proofs.lemmas.List.{append-nil, length-append, length-replicate, length-take, map-append}
use Rattle.std.proofs.lemmas.List.Quantifiers.{position-Some}
use Rattle.std.proofs.lemmas.List.Sums.{fold-append}
use Rattle.std.proofs.lemmas.Option.{slice_get_within, slice_get-get_or}
use Rattle.std.specs.List.{flat_map, fold, list_all, position}
use Rattle.std.specs.Option.{option_and_then, option_map_or}
use Rattle.vp_source.specs.declared.expression.Expression.{Expression}
use Rattle.vp_source.specs.declared.expression.Expression.TheVariants as expression
use Rattle.vp_source.specs.declared.expression.Selection.{Selection}
use Rattle.vp_source.specs.declared.expression.Selection.TheVariants as selection
use Rattle.vp_source.specs.declared.operator.UnaryOperator.{UnaryOperator}
use Rattle.vp_source.specs.declared.operator.UnaryOperator.TheVariants as before
use Rattle.vp_source.specs.declared.source.Module.{Module}
use Rattle.vp_source.specs.declared.source.Source.{Source}
use Rattle.vp_source.specs.Places.{earliest, word_at}
use Rattle.vp_modules.specs.Items.{expressions_in}
use Rattle.vp_elab.specs.Built.{Elaborated}
use Rattle.vp_elab.specs.Elaboration.{range_width}
use Rattle.vp_elab.specs.Tree.{Node, find_named, is_named, scope_names}
use Rattle.vp_operand.specs.declared.operand.Infix.{Infix}
use Rattle.vp_operand.specs.declared.operand.Infix.TheVariants as pair
use Rattle.vp_operand.specs.declared.operand.Operand.{Operand}
use Rattle.vp_operand.specs.declared.operand.Operand.TheVariants as operand
use Rattle.vp_operand.specs.declared.operand.Slot.{Slot}
use Rattle.vp_operand.specs.Arena.{is_width, operand_size, pair_size, sizes_in, term_from, with_term}
use Rattle.vp_operand.specs.Literals.{digits_bits, digits_of, digits_value, literal_bits, pad_of}
use Rattle.vp_operand.specs.Terms.{Term, size}
use Rattle.vp_operand.specs.Values.{no_value}
use Rattle.vp_operand.specs.laws.Terms.{length-bits_of_number}
use Rattle.vp_operand.proofs.Arenas.{each_fits, last_fits, size_from, width_from}
use Rattle.vp_resolve.specs.Checks.{bad_at, bad_in, counted, counted_size, counted_sizes, first_wide_in, first_wide_of, is_wide, selected_width, size_of_bits, wide_among, wide_at, with_size, with_sizes}
use Rattle.vp_resolve.specs.Names.{object_named, scope_of, slot_in, width_in}
use Rattle.vp_resolve.specs.Operands.{infix_of, named_operand, operand_of, operands_in, operands_of, selected_operand, sizes_of, unary_operand}
use Rattle.vp_resolve.proofs.Nowhere.{all_at, all_both, all_from, below_none, earlier_none, place_none}
use Rattle.vp_resolve.proofs.Widths.{is_narrow, narrow_there, node_fits, width_there}

-- a size that fits, however it is counted
pub record IsCounted (size counts : ℕ) : Type 0 where
  pub is : counts ≡ size
  pub fits : is_width counts ≡ true

-- a size that fits is counted as it is
counted_there : (size : ℕ) → is_width size ≡ true → IsCounted size (counted size)
counted_there size fits =
    let w = width_from size fits in
    let most = w.1 in
    let is : counted size ≡ size = omega arith in
    record { is = is; fits = ap is_width is ∙ fits }

-- one bit
one_bit : IsCounted 1 (counted 1)
one_bit = record { is = refl; fits = refl }

-- a size of one bit or more that is not counted as too great
narrow_counted : (size : ℕ) → 1 ≤ size → is_wide (counted size) ≡ false → is_width size ≡ true
narrow_counted size some narrow =
    let most = ltb-false 64 (counted size) narrow in
    let few : size ≤ 64 = omega arith in
    and_from _ _ (le-leb 1 size some) (le-leb size 64 few)

-- the greater of two sizes that fit
max_fits : (a b : ℕ) → is_width a ≡ true → is_width b ≡ true → is_width (max a b) ≡ true
max_fits a b h k =
    let v = width_from a h in
    let w = width_from b k in
    let a_some = v.0 in
    let a_most = v.1 in
    let b_most = w.1 in
    and_from _ _ (le-leb 1 (max a b) (omega arith)) (le-leb (max a b) 64 (omega arith))

-- ---- literals

-- the bits of digits are as many as the size
length-digits : (size : ℕ) (width : Option ℕ) (digits : List ℕ) → length (digits_value size width digits) ≡ size
length-digits size None digits = length-bits_of_number size _
length-digits size (Some width) digits =
    omega (arith, length-take size (digits_bits width digits ++ replicate size (pad_of digits)), length-append (digits_bits width digits) (replicate size (pad_of digits)), length-replicate size (pad_of digits))

-- the bits of a literal, where a vector has so many
literal_by : (fits : Bool) (size : ℕ) (width : Option ℕ) (digits : List ℕ) → is_width size ≡ fits → size ≤ 64 → length (cond fits (digits_value size width digits) no_value) ≡ max 1 size
literal_by true size width digits h most =
    let w = width_from size h in
    let some = w.0 in
    length-digits size width digits ∙ omega arith
literal_by false zero width digits h most = refl
literal_by false (suc n) width digits h most =
    let fits : is_width (suc n) ≡ true = and_from _ _ (le-leb 1 (suc n) (omega arith)) (le-leb (suc n) 64 most) in
    absurd cc

length-literal : (size : ℕ) (text : List ℕ) → size ≤ 64 → length (literal_bits size text) ≡ max 1 size
length-literal size text most = literal_by (is_width size) size _ (digits_of text) refl most

-- ---- operators

-- what an operator of one operand gives has a size that fits
unary_fits : (sizes : List ℕ) (operator : UnaryOperator) (a : ℕ) → list_all is_width sizes ≡ true → is_width (operand_size sizes (unary_operand operator a)) ≡ true
unary_fits sizes before.Plus a h = each_fits sizes a h
unary_fits sizes before.Minus a h = each_fits sizes a h
unary_fits sizes before.Negation a h = each_fits sizes a h
unary_fits sizes before.LogicalNegation a h = refl
unary_fits sizes before.ReductionAnd a h = refl
unary_fits sizes before.ReductionNand a h = refl
unary_fits sizes before.ReductionOr a h = refl
unary_fits sizes before.ReductionNor a h = refl
unary_fits sizes before.ReductionXor a h = refl
unary_fits sizes before.ReductionXnor a h = refl

-- and so has what one between operands gives
pair_fits : (sizes : List ℕ) (i : Infix) (a b : ℕ) → list_all is_width sizes ≡ true → is_width (pair_size sizes i a b) ≡ true
pair_fits sizes (pair.Combined o) a b h =
    max_fits (get_or sizes a 1) (get_or sizes b 1) (each_fits sizes a h) (each_fits sizes b h)
pair_fits sizes (pair.Shifted o) a b h = each_fits sizes a h
pair_fits sizes (pair.Compared o) a b h = refl
pair_fits sizes (pair.Joined o) a b h = refl

-- so many times a size of one bit or more
replicated_some : (count size : ℕ) → (count ≡ 0 → ⊥) → 1 ≤ size → 1 ≤ count * size
replicated_some zero size h k = absurd (h refl)
replicated_some (suc n) size h k = omega arith

-- ---- names

-- an object that has so many bits is as long as they are many
object_size : (fits : Bool) (sizes : List ℕ) (slot : Slot) (width : ℕ) → fits ≡ true → operand_size sizes (cond fits (operand.Object slot width) (operand.Constant no_value false)) ≡ width
object_size true sizes slot width h = refl
object_size false sizes slot width h = absurd cc

-- and so is a part
part_size : (fits : Bool) (sizes : List ℕ) (slot : Slot) (place width : ℕ) → fits ≡ true → operand_size sizes (cond fits (operand.PartSelect slot place width) (operand.Constant no_value false)) ≡ width
part_size true sizes slot place width h = refl
part_size false sizes slot place width h = absurd cc

-- there is an object where one is found
position_there : {X : Type 0} (t : X → Bool) (xs : List X) (i : ℕ) (d : X) → position t xs ≡ Some i → slice_get xs i ≡ Some (get_or xs i d)
position_there t xs i d h = slice_get-get_or xs i d (position-Some t xs i d h).0

named_there : (nodes : List Node) (names : List (List ℕ)) (i : ℕ) → find_named nodes names ≡ Some i → (n : Node) × (slice_get nodes i ≡ Some n)
named_there [] names i h = absurd cc
named_there (n ∷ ns) names i h = (get_or (n ∷ ns) i n, position_there (λ x. is_named names x.path) (n ∷ ns) i n h)

found_by : (nodes : List Node) (scope : Option (List (List ℕ))) (name : List ℕ) (i : ℕ) → option_and_then (λ names. find_named nodes (names ++ name ∷ [])) scope ≡ Some i → (n : Node) × (slice_get nodes i ≡ Some n)
found_by nodes None name i h = absurd cc
found_by nodes (Some names) name i h = named_there nodes (names ++ name ∷ []) i h

-- ---- places of expressions

-- none of a module's expressions is too wide, by the sizes of all
narrow_each : (es : List Expression) (sizes : List ℕ) (k : ℕ) (found : Option Expression) → first_wide_of es sizes ≡ None → slice_get es k ≡ found → wide_among es sizes k ≡ None
narrow_each es sizes k None h at = ap (option_and_then (wide_at (get_or sizes k 1))) at
narrow_each es sizes k (Some e) h at =
    below_none (wide_among es sizes) (length es) k h (slice_get_within es k e at)

-- an expression of these is no literal that is too wide
narrow_one : (es : List Expression) (sizes : List ℕ) (k : ℕ) (e : Expression) → first_wide_of es sizes ≡ None → slice_get es k ≡ Some e → is_narrow e ≡ true
narrow_one es sizes k e h at =
    narrow_there (get_or sizes k 1) e
    (ap (option_and_then (wide_at (get_or sizes k 1))) (sym at) ∙ narrow_each es sizes k (Some e) h at)

-- ---- a design

module _ (d : Elaborated) (wide : list_all node_fits d.tree.nodes ≡ true) where
  -- what is selected of an object that is there
  selected_counted : (scope : Option ℕ) (sizes : List ℕ) (id name : ℕ) (node : Node) (s : Selection) → slice_get d.tree.nodes id ≡ Some node → wide_at 1 (expression.Name name s) ≡ None → IsCounted (operand_size sizes (selected_operand d scope id s)) (counted (selected_width s node.width))
  selected_counted scope sizes id name node selection.Whole at h =
      let is : width_in d id ≡ node.width = ap (λ n. option_map_or (λ (n : Node). n.width) n 0) at in
      let fits : is_width node.width ≡ true = all_at node_fits d.tree.nodes id node wide at in
      let own = counted_there node.width fits in
      let long = object_size (is_width (width_in d id)) sizes (slot_in scope id) (width_in d id) (ap is_width is ∙ fits) in
      record { is = own.is ∙ sym is ∙ sym long; fits = own.fits }
  selected_counted scope sizes id name node (selection.Bit index) at h = record { is = refl; fits = refl }
  selected_counted scope sizes id name node (selection.Part r) at h =
      let fits : is_width (range_width r) ≡ true = width_there (range_width r) (omega arith) (place_none (is_wide (range_width r)) name h) in
      let own = counted_there (range_width r) fits in
      let long = part_size (is_width (range_width r)) sizes (slot_in scope id) _ (range_width r) fits in
      record { is = own.is ∙ sym long; fits = own.fits }

  -- what is selected of an object, if one is found
  named_counted : (scope : Option ℕ) (sizes : List ℕ) (object : Option ℕ) (name : ℕ) (s : Selection) → ((id : ℕ) → object ≡ Some id → (n : Node) × (slice_get d.tree.nodes id ≡ Some n)) → wide_at 1 (expression.Name name s) ≡ None → IsCounted (operand_size sizes (named_operand d scope object s)) (counted (size_of_bits s (option_map (λ (n : Node). (n.width, n.lowest)) (option_and_then (slice_get d.tree.nodes) object))))
  named_counted scope sizes None name s there h = one_bit
  named_counted scope sizes (Some id) name s there h =
      let at = there id refl in
      let own = selected_counted scope sizes id name at.0 s at.1 h in
      subst (λ (x : Option Node). IsCounted (operand_size sizes (selected_operand d scope id s)) (counted (size_of_bits s (option_map (λ (n : Node). (n.width, n.lowest)) x)))) (sym at.1) own

  -- the object that a name names is there
  object_there : (scope : Option ℕ) (name id : ℕ) → object_named d scope name ≡ Some id → (n : Node) × (slice_get d.tree.nodes id ≡ Some n)
  object_there None name id h = absurd cc
  object_there (Some s) name id h =
      found_by d.tree.nodes (scope_names d.tree.nodes (Some s)) (word_at d.source name) id h

  -- the size of an expression that is not too wide or bad, by sizes that fit
  one_counted : (scope : Option ℕ) (sizes : List ℕ) (e : Expression) → list_all is_width sizes ≡ true → wide_at (counted_size d scope sizes e) e ≡ None → bad_at d scope e ≡ None → IsCounted (operand_size sizes (operand_of d scope e)) (counted_size d scope sizes e)
  one_counted scope sizes (expression.Name name s) fit h bad =
      named_counted scope sizes (object_named d scope name) name s (object_there scope name) h
  one_counted scope sizes (expression.Literal place size digits) fit h bad =
      let most = ltb-false 64 size (place_none (is_wide size) place h) in
      let long = length-literal size (word_at d.source digits) most in
      let fits : is_width (max 1 size) ≡ true = and_from _ _ (le-leb 1 (max 1 size) (omega arith)) (le-leb (max 1 size) 64 (omega arith)) in
      let own = counted_there (max 1 size) fits in
      record { is = own.is ∙ sym long; fits = own.fits }
  one_counted scope sizes (expression.Based digits) fit h bad =
      counted_there _ (ap is_width (length-literal 32 (word_at d.source digits) (omega arith)))
  one_counted scope sizes (expression.Number place number) fit h bad =
      counted_there _ (ap is_width (length-bits_of_number 32 number))
  one_counted scope sizes (expression.Unary operator place a) fit h bad =
      counted_there _ (unary_fits sizes operator a fit)
  one_counted scope sizes (expression.Binary operator place a b) fit h bad =
      counted_there _ (pair_fits sizes (infix_of operator) a b fit)
  one_counted scope sizes (expression.Conditional c a b) fit h bad =
      counted_there _ (max_fits (get_or sizes a 1) (get_or sizes b 1) (each_fits sizes a fit) (each_fits sizes b fit))
  one_counted scope sizes (expression.Concatenation brace part) fit h bad =
      counted_there _ (each_fits sizes part fit)
  one_counted scope sizes (expression.Appended brace list part) fit h bad =
      let w = width_from (get_or sizes list 1) (each_fits sizes list fit) in
      let some = w.0 in
      let long = get_or sizes list 1 + get_or sizes part 1 in
      counted_there long (narrow_counted long (omega arith) (place_none (is_wide (counted long)) brace h))
  one_counted scope sizes (expression.Replication brace count list) fit h bad =
      let w = width_from (get_or sizes list 1) (each_fits sizes list fit) in
      let some = w.0 in
      let long = count * get_or sizes list 1 in
      let more : 1 ≤ long = replicated_some count (get_or sizes list 1) (eqb-false count 0 (place_none (count == 0) brace bad)) some in
      counted_there long (narrow_counted long more (place_none (is_wide (counted long)) brace h))

  -- ---- the expressions of a module

  -- sizes, and after them that of one more operand
  abbrev with_operand : List ℕ → Operand → List ℕ
  with_operand sizes o = sizes ++ operand_size sizes o ∷ []

  -- the sizes of expressions after others, as they are counted
  abbrev sizes_after : (scope : Option ℕ) → List ℕ → List Expression → List ℕ
  sizes_after scope sizes [] = []
  sizes_after scope sizes (e ∷ es) =
      counted_size d scope sizes e ∷ sizes_after scope (with_size d scope sizes e) es

  fold_after : (scope : Option ℕ) (sizes : List ℕ) (es : List Expression) → fold (with_size d scope) sizes es ≡ sizes ++ sizes_after scope sizes es
  fold_after scope sizes [] = sym (append-nil sizes)
  fold_after scope sizes (e ∷ es) =
      fold_after scope (with_size d scope sizes e) es
      ∙ append_assoc sizes (counted_size d scope sizes e ∷ []) (sizes_after scope (with_size d scope sizes e) es)

  length-following : (scope : Option ℕ) (sizes : List ℕ) (es : List Expression) → length (sizes_after scope sizes es) ≡ length es
  length-following scope sizes [] = refl
  length-following scope sizes (e ∷ es) = ap suc (length-following scope (with_size d scope sizes e) es)

  -- sizes as they are counted are those of operands, and fit
  record AreCounted (sizes counts : List ℕ) : Type 0 where
    are : counts ≡ sizes
    fit : list_all is_width counts ≡ true

  list_counted : (scope : Option ℕ) (sizes : List ℕ) (es : List Expression) (more : List ℕ) → list_all is_width sizes ≡ true → ((k : ℕ) → wide_among es (sizes_after scope sizes es ++ more) k ≡ None) → earliest (bad_at d scope) es ≡ None → AreCounted (fold with_operand sizes (map (operand_of d scope) es)) (fold (with_size d scope) sizes es)
  list_counted scope sizes [] more fit narrow good = record { are = refl; fit = fit }
  list_counted scope sizes (e ∷ es) more fit narrow good =
      let both = earlier_none (bad_at d scope e) (earliest (bad_at d scope) es) good in
      let own = one_counted scope sizes e fit (narrow 0) both.0 in
      let rest = list_counted scope (with_size d scope sizes e) es more (last_fits sizes (counted_size d scope sizes e) fit own.fits) (λ k. narrow (suc k)) both.1 in
      record {
        are =
            rest.are ∙ ap (λ (n : ℕ). fold with_operand (sizes ++ n ∷ []) (map (operand_of d scope) es)) own.is;
        fit = rest.fit;
      }

  -- ---- the expressions of all modules

  -- the sizes of the expressions of modules after others, as they are counted
  abbrev sizes_all : List ℕ → List Module → List ℕ
  sizes_all sizes [] = []
  sizes_all sizes (m ∷ ms) =
      sizes_after (scope_of d m) sizes (expressions_in d.source m) ++ sizes_all (with_sizes d sizes m) ms

  fold_all : (sizes : List ℕ) (ms : List Module) → fold (with_sizes d) sizes ms ≡ sizes ++ sizes_all sizes ms
  fold_all sizes [] = sym (append-nil sizes)
  fold_all sizes (m ∷ ms) =
      let own = sizes_after (scope_of d m) sizes (expressions_in d.source m) in
      fold_all (with_sizes d sizes m) ms
      ∙ ap (λ (l : List ℕ). l ++ sizes_all (with_sizes d sizes m) ms) (fold_after (scope_of d m) sizes (expressions_in d.source m))
      ∙ append_assoc sizes own (sizes_all (with_sizes d sizes m) ms)

  -- what stands after the sizes of a module
  drop_after : (scope : Option ℕ) (sizes : List ℕ) (es : List Expression) (more : List ℕ) → drop (length es) (sizes_after scope sizes es ++ more) ≡ more
  drop_after scope sizes [] more = refl
  drop_after scope sizes (e ∷ es) more = drop_after scope (with_size d scope sizes e) es more

  modules_counted : (sizes : List ℕ) (ms : List Module) → list_all is_width sizes ≡ true → first_wide_in d.source ms (sizes_all sizes ms) ≡ None → earliest (bad_in d) ms ≡ None → AreCounted (fold with_operand sizes (flat_map (operands_in d) ms)) (fold (with_sizes d) sizes ms)
  modules_counted sizes [] fit narrow good = record { are = refl; fit = fit }
  modules_counted sizes (m ∷ ms) fit narrow good =
      let scope = scope_of d m in
      let es = expressions_in d.source m in
      let more = sizes_all (with_sizes d sizes m) ms in
      let all = sizes_after scope sizes es ++ more in
      let wide_parts = earlier_none (first_wide_of es all) (first_wide_in d.source ms (drop (length es) all)) narrow in
      let bad_parts = earlier_none (bad_in d m) (earliest (bad_in d) ms) good in
      let bad_own = earlier_none _ (earliest (bad_at d scope) es) bad_parts.0 in
      let own = list_counted scope sizes es more fit (λ k. narrow_each es all k (slice_get es k) wide_parts.0 refl) bad_own.1 in
      let rest = modules_counted (with_sizes d sizes m) ms own.fit (ap (first_wide_in d.source ms) (sym (drop_after scope sizes es more)) ∙ wide_parts.1) bad_parts.1 in
      record {
        are =
            rest.are
            ∙ ap (λ (l : List ℕ). fold with_operand l (flat_map (operands_in d) ms)) own.are
            ∙ sym (fold-append with_operand sizes (operands_in d m) (flat_map (operands_in d) ms));
        fit = rest.fit;
      }

  -- the sizes of operands, from those of the first on
  sizes_from : (terms : List Term) (os : List Operand) → map size (fold with_term terms os) ≡ fold with_operand (map size terms) os
  sizes_from terms [] = refl
  sizes_from terms (o ∷ os) =
      sizes_from (with_term terms o) os
      ∙ ap (λ (l : List ℕ). fold with_operand l os)
      (map-append size terms (term_from terms o ∷ []) ∙ ap (λ (n : ℕ). map size terms ++ n ∷ []) (sym (size_from terms o)))

  -- the sizes of a design of which no expression is too wide or bad
  pub sizes_fit : first_wide_in d.source d.source.modules (counted_sizes d) ≡ None → earliest (bad_in d) d.source.modules ≡ None → list_all is_width (sizes_of d) ≡ true
  unfolding sizes_in
  sizes_fit narrow good =
      let ms = d.source.modules in
      let all = modules_counted [] ms refl (ap (first_wide_in d.source ms) (sym (fold_all [] ms)) ∙ narrow) good in
      ap (list_all is_width) (sizes_from [] (operands_of d) ∙ sym all.are) ∙ all.fit

-- ---- literals of all modules

-- no literal of modules is too wide
pub literals_narrow : (source : Source) (ms : List Module) (sizes : List ℕ) → first_wide_in source ms sizes ≡ None → list_all is_narrow (flat_map (expressions_in source) ms) ≡ true
literals_narrow source [] sizes h = refl
literals_narrow source (m ∷ ms) sizes h =
    let es = expressions_in source m in
    let both = earlier_none (first_wide_of es sizes) (first_wide_in source ms (drop (length es) sizes)) h in
    all_both is_narrow es (flat_map (expressions_in source) ms)
    (all_from is_narrow es (λ k e at. narrow_one es sizes k e both.0 at))
    (literals_narrow source ms (drop (length es) sizes) both.1)
