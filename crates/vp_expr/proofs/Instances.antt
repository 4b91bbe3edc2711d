-- What an expression says in one instance of its module it says in another: its names are looked up alike.
use Rattle.std.proofs.Common.{◌≡◌, ◌∙◌, ℕ, ◌-◌, true, false, cond, List, [], ◌∷◌, ◌++◌, position, get_or, slice_get, Option, Some, None, refl, sym, ap}
use Rattle.std.specs.Prelude.{option_and_then, option_map}
use Rattle.std.specs.Option.{option_map_or, unwrap_or}
use Rattle.std.specs.Str.{bytes_eq}
use Rattle.std.proofs.lemmas.List.Quantifiers.{position-Some}
use Rattle.std.proofs.lemmas.Option.{slice_get-get_or}
use Rattle.vp_bits.specs.declared.bit.Bit as bits
use Rattle.std.proofs.lemmas.Slice.Eq.{bytes_eq-Decides}
use Rattle.vp_source.specs.ExprGrammar.{Expr, Name, Sized, Based, Number, Group, Unary, Binary, Conditional, Concatenation, Replication, Selection, Whole, Bit, Part, Parts, First, More}
use Rattle.vp_source.specs.ExprLayout.{put_range}
use Rattle.vp_source.specs.Places.{word_at}
use Rattle.vp_source.specs.declared.source.Module.{Module}
use Rattle.vp_elab.specs.Built.{Elaborated}
use Rattle.vp_elab.specs.Elaboration.{range_width}
use Rattle.vp_elab.specs.Tree.{AreAlike, Named, Node, definition_at, find_in, find_named, first_of, is_module_of, is_named, named_in, scope_names, seen_from}
use Rattle.vp_elab.proofs.Found.{position_fails}
use Rattle.vp_operand.specs.Arena.{blank, is_width, value_in}
use Rattle.vp_operand.specs.Terms as term
use Rattle.vp_operand.specs.Terms.{Term, value}
use Rattle.vp_resolve.specs.Names.{object_named, scope_of}
use Rattle.vp_expr.specs.Derived.{IsInstanceOf, binary_term, derived_value, expr_term, named_term, parts_term, unary_term}

-- what is selected of what a name names, with the term of its index
abbrev selected_of : Option Named → Selection → (Expr → Term) → Term
selected_of None s index = blank
selected_of (Some n) Whole index = cond (is_width n.width) (term.Object n.distance n.width) blank
selected_of (Some n) (Bit opening e closing) index = term.BitSelect n.distance (unwrap_or n.lowest 0) (index e)
selected_of (Some n) (Part r) index =
    cond (is_width (range_width (put_range r))) (term.PartSelect n.distance ((put_range r).lsb - unwrap_or n.lowest 0) (range_width (put_range r))) blank

-- an object of a number that was found is there
found_there : (nodes : List Node) (names : Option (List (List ℕ))) (name : List ℕ) (i : ℕ) → option_and_then (λ ns. find_named nodes (ns ++ name ∷ [])) names ≡ Some i → (n : Node) × (slice_get nodes i ≡ Some n)
found_there nodes None name i found = absurd cc
found_there nodes (Some ns) name i found = there nodes found
  where
    there : (all : List Node) → position (λ (n : Node). is_named (ns ++ name ∷ []) n.path) all ≡ Some i → (n : Node) × (slice_get all i ≡ Some n)
    there [] found = absurd cc
    there (x ∷ all) found =
        let inside = (position-Some (λ (n : Node). is_named (ns ++ name ∷ []) n.path) (x ∷ all) i x found).0 in
        (get_or (x ∷ all) i x, slice_get-get_or (x ∷ all) i x inside)

module _ (d : Elaborated) where
  selected_at : (scope i : ℕ) (n : Node) (s : Selection) → slice_get d.tree.nodes i ≡ Some n → named_term d (Some scope) (Some i) s ≡ selected_of (Some (seen_from scope i n)) s (expr_term d (Some scope))
  selected_at scope i n Whole at = rw at refl
  selected_at scope i n (Bit opening e closing) at = rw at refl
  selected_at scope i n (Part r) at = rw at refl

  selected_by : (scope : ℕ) (name : List ℕ) (s : Selection) (found : Option ℕ) → find_in d.tree.nodes (Some scope) name ≡ found → named_term d (Some scope) found s ≡ selected_of (option_and_then (λ i. option_map (seen_from scope i) (slice_get d.tree.nodes i)) found) s (expr_term d (Some scope))
  selected_by scope name s None at = refl
  selected_by scope name s (Some i) at =
      let there = found_there d.tree.nodes (scope_names d.tree.nodes (Some scope)) name i at in
      selected_at scope i there.0 s there.1
      ∙ sym (ap (λ (o : Option Node). selected_of (option_map (seen_from scope i) o) s (expr_term d (Some scope))) there.1)

  selected_is : (scope place : ℕ) (s : Selection) → named_term d (Some scope) (object_named d (Some scope) place) s ≡ selected_of (named_in d.tree.nodes scope (word_at d.source place)) s (expr_term d (Some scope))
  selected_is scope place s = selected_by scope (word_at d.source place) s (find_in d.tree.nodes (Some scope) (word_at d.source place)) refl

  module _ (alike : AreAlike d.tree.nodes) (a b : ℕ) (definition : List ℕ) (is_a : definition_at d.tree.nodes a ≡ Some definition) (is_b : definition_at d.tree.nodes b ≡ Some definition) where
    mutual
      expr_alike : (e : Expr) → expr_term d (Some a) e ≡ expr_term d (Some b) e
      expr_alike (Name place s) =
          selected_is a place s
          ∙ ap (λ (o : Option Named). selected_of o s (expr_term d (Some a))) (alike a b definition (word_at d.source place) is_a is_b)
          ∙ selected_alike (named_in d.tree.nodes b (word_at d.source place)) s
          ∙ sym (selected_is b place s)
      expr_alike (Sized place size kind digits) = refl
      expr_alike (Based digits) = refl
      expr_alike (Number place number) = refl
      expr_alike (Group opening e closing) = expr_alike e
      expr_alike (Unary o place e) = ap (unary_term o) (expr_alike e)
      expr_alike (Binary o x place y) =
          ap (λ (t : Term). binary_term o t (expr_term d (Some a) y)) (expr_alike x) ∙ ap (binary_term o (expr_term d (Some b) x)) (expr_alike y)
      expr_alike (Conditional c question x colon y) =
          ap (λ (t : Term). term.Conditional t (expr_term d (Some a) x) (expr_term d (Some a) y)) (expr_alike c)
          ∙ ap (λ (t : Term). term.Conditional (expr_term d (Some b) c) t (expr_term d (Some a) y)) (expr_alike x)
          ∙ ap (term.Conditional (expr_term d (Some b) c) (expr_term d (Some b) x)) (expr_alike y)
      expr_alike (Concatenation opening l closing) = parts_alike l
      expr_alike (Replication opening count_place count inner_opening l inner_closing closing) = ap (term.Replicated count) (parts_alike l)

      selected_alike : (o : Option Named) (s : Selection) → selected_of o s (expr_term d (Some a)) ≡ selected_of o s (expr_term d (Some b))
      selected_alike None s = refl
      selected_alike (Some n) Whole = refl
      selected_alike (Some n) (Bit opening e closing) = ap (term.BitSelect n.distance (unwrap_or n.lowest 0)) (expr_alike e)
      selected_alike (Some n) (Part r) = refl

      parts_alike : (l : Parts) → parts_term d (Some a) l ≡ parts_term d (Some b) l
      parts_alike (First e) = ap (λ (t : Term). term.Concatenated t) (expr_alike e)
      parts_alike (More l comma e) =
          ap (λ (t : Term). term.Appended t (expr_term d (Some a) e)) (parts_alike l) ∙ ap (term.Appended (parts_term d (Some b) l)) (expr_alike e)

-- the first object of a definition is a module of it
pub first_is : (nodes : List Node) (definition : List ℕ) (f : ℕ) → first_of nodes definition ≡ Some f → definition_at nodes f ≡ Some definition
first_is [] definition f found = absurd cc
first_is (x ∷ nodes) definition f found =
    let there = position-Some (is_module_of definition) (x ∷ nodes) f x found in
    let at = slice_get-get_or (x ∷ nodes) f x there.0 in
    ap (option_and_then (λ (n : Node). n.definition)) at ∙ defined (get_or (x ∷ nodes) f x).definition there.1
  where
    defined : (o : Option (List ℕ)) → option_map_or (bytes_eq definition) o false ≡ true → o ≡ Some definition
    defined None h = absurd cc
    defined (Some name) h = ap (λ (n : List ℕ). Some n) (sym ((bytes_eq-Decides definition name).0 h))

-- where an object of a definition is there, a first one is
pub first_there : (nodes : List Node) (definition : List ℕ) (i : ℕ) (o : Option ℕ) → definition_at nodes i ≡ Some definition → first_of nodes definition ≡ o → (f : ℕ) × (o ≡ Some f)
first_there nodes definition i (Some f) is none = (f, refl)
first_there nodes definition i None is none = by (slice_get nodes i) refl is
  where
    by : (n : Option Node) → slice_get nodes i ≡ n → option_and_then (λ (n : Node). n.definition) n ≡ Some definition → (f : ℕ) × (None ≡ Some f)
    by None at h = absurd cc
    by (Some n) at h =
        let fails = position_fails (is_module_of definition) nodes i n none at in
        let own = ap (λ (o : Option (List ℕ)). option_map_or (bytes_eq definition) o false) h in
        let same = (bytes_eq-Decides definition definition).1 refl in
        absurd (let off = sym fails ∙ own ∙ same in cc)

-- an expression says in an instance what it says in the first object of its module
pub instance_alike : (d : Elaborated) (m : Module) (instance : ℕ) (e : Expr) → AreAlike d.tree.nodes → IsInstanceOf d m instance → expr_term d (scope_of d m) e ≡ expr_term d (Some instance) e
instance_alike d m instance e alike is =
    let name = word_at d.source m.name in
    let f = first_there d.tree.nodes name instance (first_of d.tree.nodes name) is refl in
    ap (λ (scope : Option ℕ). expr_term d scope e) f.1
    ∙ expr_alike d alike f.0 instance name (first_is d.tree.nodes name f.0 f.1) is e

-- and so is its value
pub value_alike : (d : Elaborated) (m : Module) (instance : ℕ) (values : List (List bits.Bit)) (n : ℕ) (e : Expr) → AreAlike d.tree.nodes → IsInstanceOf d m instance → derived_value d (scope_of d m) values n e ≡ derived_value d (Some instance) values n e
value_alike d m instance values n e alike is = ap (value (value_in values) n) (instance_alike d m instance e alike is)
