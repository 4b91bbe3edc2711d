-- What is read of a pragma's line is what its derivation says.
use Rattle.std.proofs.Common.{◌≡◌, ◌∙◌, Bool, true, false, cond, List, [], ◌∷◌, Option, Some, None, refl, sym, ap, subst}
use Rattle.std.specs.Prelude.{not, option_map, option_and_then, if◌then◌else◌}
use Rattle.std.specs.Option.{option_map_or}
use Rattle.vp_lex.specs.declared.token.Token.{Token}
use Rattle.vp_pragma.specs.declared.line.Expression.{Expression}
use Rattle.vp_pragma.specs.declared.line.Expression.TheVariants as said
use Rattle.vp_pragma.specs.declared.line.Expression.TheVariants.{Only}
use Rattle.vp_pragma.specs.declared.line.Value.{Value}
use Rattle.vp_pragma.specs.declared.line.Value.TheVariants as value
use Rattle.vp_pragma.specs.declared.lists.Due.TheVariants as due
use Rattle.vp_pragma.specs.declared.token_class.TokenClass.{TokenClass}
use Rattle.vp_pragma.specs.declared.token_class.TokenClass.TheVariants as token_class
use Rattle.vp_pragma.specs.Lists.{scan}
use Rattle.vp_pragma.specs.LineReading.{expression_at, keyword_text, pair_of, pair_with, pragma_value, value_by}
use Rattle.vp_pragma.specs.PragmaGrammar.{PragmaValue, Text, Number, Sized, Unsized, Word, Listed, PragmaExpression, Keyword, Assigned, Alone, PragmaList, Last, More, value_text, expression_text, list_text, Has, is_word_value, IsValue, IsExpression, IsList, text_assigned, pair_said, list_said, value_said, expression_said, EndsValue, EndsExpression, Begins}
use Rattle.vp_pragma.specs.TokenClasses.{Placed, begins_with, is_base, is_equals, is_word, rest_of, same_class, class_of}
use Rattle.vp_pragma.proofs.Scanned.{list_found, list_scan}

-- ---- two keywords with strings

-- a token of another sign is no equals
abbrev no_equals : List Placed → Type 0
no_equals ps = begins_with is_equals ps ≡ false

-- a keyword with a string, before these tokens
abbrev named : Option (Token × Token) → List Placed → Option (Token × Token × List Placed)
named o rest = option_map (λ k. (k.0, k.1, rest)) o

-- what is read as a keyword with a string is one
keyword_read : (e : PragmaExpression) (rest : List Placed) → IsExpression e → no_equals rest → keyword_text (expression_text e rest) ≡ named (text_assigned e) rest
keyword_read (Keyword w) rest h none = rw (h, none) refl
keyword_read (Assigned w q (Text s)) rest h none = rw (h.0, h.1, h.2) refl
keyword_read (Assigned w q (Number n)) rest h none = rw (h.0, h.1, h.2) refl
keyword_read (Assigned w q (Sized n b)) rest h none = rw (h.0, h.1, h.2.0) refl
keyword_read (Assigned w q (Unsized b)) rest h none = rw (h.0, h.1, h.2) refl
keyword_read (Assigned w q (Word v)) rest h none = rw (h.0, h.1, h.2) refl
keyword_read (Assigned w q (Listed o l c)) rest h none = rw (h.0, h.1, h.2.0) refl
keyword_read (Alone (Text s)) rest h none = rw h.1 refl
keyword_read (Alone (Number n)) rest h none = rw h.1 refl
keyword_read (Alone (Sized n b)) rest h none = rw h.1.0 refl
keyword_read (Alone (Unsized b)) rest h none = rw h.1 refl
keyword_read (Alone (Word w)) rest h none = absurd cc
keyword_read (Alone (Listed o l c)) rest h none = rw h.1.0 refl

-- a pair as a value
abbrev paired : Option (Token × Token × List Placed) → Value
paired first = option_map_or (λ p. value.Pairs p) (option_and_then pair_with first) value.Other

-- after one keyword with a string that ends a list
one_alone : (first : Option (Token × Token)) (closing : Placed) (rest : List Placed) → Has token_class.Closing closing → paired (named first (closing ∷ rest)) ≡ value.Other
one_alone None closing rest h = refl
one_alone (Some k) closing rest h = rw h refl

-- after two keywords with strings that end a list
two_alone :
    (first second : Option (Token × Token)) (comma closing : Placed) (next rest : List Placed) → Has token_class.Comma comma → Has token_class.Closing closing
    → keyword_text next ≡ named second (closing ∷ rest)
    → paired (named first (comma ∷ next)) ≡ pair_said first second
two_alone None second comma closing next rest h k is = refl
two_alone (Some a) None comma closing next rest h k is = rw (h, is) refl
two_alone (Some a) (Some b) comma closing next rest h k is = rw (h, is, k) refl

-- after two keywords with strings, and more
three_alone :
    (first second : Option (Token × Token)) (comma more : Placed) (next rest : List Placed) → Has token_class.Comma comma → Has token_class.Comma more
    → keyword_text next ≡ named second (more ∷ rest)
    → paired (named first (comma ∷ next)) ≡ value.Other
three_alone None second comma more next rest h k is = refl
three_alone (Some a) None comma more next rest h k is = rw (h, is) refl
three_alone (Some a) (Some b) comma more next rest h k is = rw (h, is, k) refl

comma_no_equals : (p : Placed) (ps : List Placed) → Has token_class.Comma p → no_equals (p ∷ ps)
comma_no_equals p ps h = rw h refl

closing_no_equals : (p : Placed) (ps : List Placed) → Has token_class.Closing p → no_equals (p ∷ ps)
closing_no_equals p ps h = rw h refl

-- what is read of a list is what it says
pub list_read : (l : PragmaList) (closing : Placed) (rest : List Placed) → IsList l → Has token_class.Closing closing → pair_of (list_text l (closing ∷ rest)) ≡ list_said l
list_read (Last e) c rest h is =
    ap paired (keyword_read e (c ∷ rest) h (closing_no_equals c rest is)) ∙ one_alone (text_assigned e) c rest is
list_read (More e comma (Last f)) c rest h is =
    ap paired (keyword_read e (comma ∷ expression_text f (c ∷ rest)) h.0 (comma_no_equals comma (expression_text f (c ∷ rest)) h.1))
    ∙ two_alone (text_assigned e) (text_assigned f) comma c (expression_text f (c ∷ rest)) rest h.1 is (keyword_read f (c ∷ rest) h.2 (closing_no_equals c rest is))
list_read (More e comma (More f more l)) c rest h is =
    let remainder = list_text l (c ∷ rest) in
    ap paired (keyword_read e (comma ∷ expression_text f (more ∷ remainder)) h.0 (comma_no_equals comma (expression_text f (more ∷ remainder)) h.1))
    ∙ three_alone (text_assigned e) (text_assigned f) comma more (expression_text f (more ∷ remainder)) remainder h.1 h.2.1 (keyword_read f (more ∷ remainder) h.2.0 (comma_no_equals more remainder h.2.1))

-- ---- what is derived is read

-- a value is read as what it says
value_read : (v : PragmaValue) (rest : List Placed) → IsValue v → EndsValue v rest → pragma_value (value_text v rest) ≡ Some (value_said v, rest)
value_read (Text s) rest h ends = rw h refl
value_read (Number n) rest h ends = rw (h, ends) refl
value_read (Sized n b) rest h ends = rw (h.0, h.1) refl
value_read (Unsized b) rest h ends = rw h refl
value_read (Word w) rest h ends = rw h refl
value_read (Listed o l c) rest h ends =
    ap (λ (s : TokenClass). value_by s o (list_text l (c ∷ rest))) h.0
    ∙ ap (option_map (λ (r : List Placed). (pair_of (list_text l (c ∷ rest)), r))) (list_scan l 0 c rest h.1 h.2)
    ∙ ap (λ (v : Value). Some (v, rest)) (list_read l c rest h.1 h.2)

-- where no word is first, a value is read
no_word_read : (ps : List Placed) → begins_with is_word ps ≡ false → expression_at ps ≡ option_map (λ v. (Only, v.1)) (pragma_value ps)
no_word_read [] h = refl
no_word_read (p ∷ ps) h = rw h refl

-- the first token of a value that is no word is none
no_word_first : (v : PragmaValue) (rest : List Placed) → is_word_value v ≡ false → IsValue v → begins_with is_word (value_text v rest) ≡ false
no_word_first (Text s) rest plain h = rw h refl
no_word_first (Number n) rest plain h = rw h refl
no_word_first (Sized n b) rest plain h = rw h.0 refl
no_word_first (Unsized b) rest plain h = rw h refl
no_word_first (Word w) rest plain h = absurd cc
no_word_first (Listed o l c) rest plain h = rw h.0 refl

-- an expression is read as what it says
pub expression_read : (e : PragmaExpression) (rest : List Placed) → IsExpression e → EndsExpression e rest → expression_at (expression_text e rest) ≡ Some (expression_said e, rest)
expression_read (Keyword w) rest h ends = rw (h, ends) refl
expression_read (Assigned w q v) rest h ends = rw (h.0, h.1) (ap (option_map (λ (x : Value × List Placed). (said.Assigned w.1 x.0, x.1))) (value_read v rest h.2 ends))
expression_read (Alone v) rest h ends =
    no_word_read (value_text v rest) (no_word_first v rest h.0 h.1)
    ∙ ap (option_map (λ (x : Value × List Placed). (Only, x.1))) (value_read v rest h.1 ends)

-- ---- what is read is derived

-- signs that are the same
same_signs : (s t : TokenClass) → same_class s t ≡ true → t ≡ s
same_signs token_class.Word token_class.Word h = refl
same_signs token_class.Text token_class.Text h = refl
same_signs token_class.Number token_class.Number h = refl
same_signs token_class.Base token_class.Base h = refl
same_signs token_class.Equals token_class.Equals h = refl
same_signs token_class.Comma token_class.Comma h = refl
same_signs token_class.Opening token_class.Opening h = refl
same_signs token_class.Closing token_class.Closing h = refl
same_signs token_class.Other token_class.Other h = refl
same_signs s t h = absurd cc

-- what follows what was read
rests : {A : Type 0} (x y : A × List Placed) → Some x ≡ Some y → x.1 ≡ y.1
rests {A} x y h = let same : x ≡ y = cc in ap (λ (z : A × List Placed). z.1) same

-- a list as a value
abbrev as_list : List Placed → List Placed → Value × List Placed
as_list ps rest = (pair_of ps, rest)

-- a keyword with a value, as it is read
abbrev as_assigned : Placed → Value × List Placed → Expression × List Placed
as_assigned w v = (said.Assigned w.1 v.0, v.1)

-- a value alone, as it is read
abbrev as_only : Value × List Placed → Expression × List Placed
as_only v = (Only, v.1)

-- a keyword alone, as it is read
abbrev as_alone : Placed → List Placed → Expression × List Placed
as_alone w ps = (said.Alone w.0 w.1, ps)

-- tokens are a value, with which nothing that follows goes on
record IsRead (ps rest : List Placed) : Type 0 where
  v : PragmaValue
  is : IsValue v
  ends : EndsValue v rest
  spelled : ps ≡ value_text v rest

-- after a number
number_derived : (p : Placed) (ps rest : List Placed) → Has token_class.Number p → (if begins_with is_base ps then rest_of ps else ps) ≡ rest → IsRead (p ∷ ps) rest
number_derived p [] rest h is = record {
  v = Number p;
  is = h;
  ends = subst (λ (r : List Placed). begins_with is_base r ≡ false) is refl;
  spelled = ap (λ (r : List Placed). p ∷ r) is;
}
number_derived p (q ∷ ps) rest h is = by_base (same_class token_class.Base (class_of q.1.kind)) refl is
  where
    by_base : (b : Bool) → same_class token_class.Base (class_of q.1.kind) ≡ b → cond b ps (q ∷ ps) ≡ rest → IsRead (p ∷ q ∷ ps) rest
    by_base true based is = record {
      v = Sized p q;
      is = (h, same_signs token_class.Base (class_of q.1.kind) based);
      ends = tt;
      spelled = ap (λ (r : List Placed). p ∷ q ∷ r) is;
    }
    by_base false based is = record {
      v = Number p;
      is = h;
      ends = subst (λ (r : List Placed). begins_with is_base r ≡ false) is based;
      spelled = ap (λ (r : List Placed). p ∷ r) is;
    }

-- a list that is read
list_derived : (p : Placed) (ps rest : List Placed) (v : Value) (o : Option (List Placed)) → Has token_class.Opening p → scan due.Expression 0 ps ≡ o → option_map (as_list ps) o ≡ Some (v, rest) → IsRead (p ∷ ps) rest
list_derived p ps rest v None h is read = absurd cc
list_derived p ps rest v (Some r) h is read =
    let same : r ≡ rest = rests (as_list ps r) (v, rest) read in
    let f = list_found ps rest (is ∙ ap (λ (q : List Placed). Some q) same) in
    record {
      v = Listed p f.2.l f.0;
      is = (h, f.2.is, f.1);
      ends = tt;
      spelled = ap (λ (q : List Placed). p ∷ q) f.2.spelled;
    }

-- a value that is read is derived, by the sign of its first token
value_derived_by : (s : TokenClass) (p : Placed) (ps rest : List Placed) (v : Value) → Has s p → value_by s p ps ≡ Some (v, rest) → IsRead (p ∷ ps) rest
value_derived_by token_class.Text p ps rest v h is = record { v = Text p; is = h; ends = tt; spelled = ap (λ (q : List Placed). p ∷ q) (rests (value.Text p.1, ps) (v, rest) is) }
value_derived_by token_class.Number p ps rest v h is = number_derived p ps rest h (rests (value.Other, if begins_with is_base ps then rest_of ps else ps) (v, rest) is)
value_derived_by token_class.Base p ps rest v h is = record { v = Unsized p; is = h; ends = tt; spelled = ap (λ (q : List Placed). p ∷ q) (rests (value.Other, ps) (v, rest) is) }
value_derived_by token_class.Word p ps rest v h is = record { v = Word p; is = h; ends = tt; spelled = ap (λ (q : List Placed). p ∷ q) (rests (value.Other, ps) (v, rest) is) }
value_derived_by token_class.Opening p ps rest v h is = list_derived p ps rest v (scan due.Expression 0 ps) h refl is
value_derived_by token_class.Equals p ps rest v h is = absurd cc
value_derived_by token_class.Comma p ps rest v h is = absurd cc
value_derived_by token_class.Closing p ps rest v h is = absurd cc
value_derived_by token_class.Other p ps rest v h is = absurd cc

-- a value that is read is derived
value_derived : (ps rest : List Placed) (v : Value) → pragma_value ps ≡ Some (v, rest) → IsRead ps rest
value_derived [] rest v is = absurd cc
value_derived (p ∷ ps) rest v is = value_derived_by (class_of p.1.kind) p ps rest v refl is

-- a keyword with a value
assigned_derived : (w q : Placed) (ps rest : List Placed) (x : Expression) (o : Option (Value × List Placed)) → Has token_class.Word w → Has token_class.Equals q → pragma_value ps ≡ o → option_map (as_assigned w) o ≡ Some (x, rest) → (e : PragmaExpression) × Begins (w ∷ q ∷ ps) e rest
assigned_derived w q ps rest x None h k is read = absurd cc
assigned_derived w q ps rest x (Some v) h k is read =
    let same : v.1 ≡ rest = rests (as_assigned w v) (x, rest) read in
    let r = value_derived ps rest v.0 (is ∙ ap (λ (r : List Placed). Some (v.0, r)) same) in
    (Assigned w q r.v, record { spelled = ap (λ (t : List Placed). w ∷ q ∷ t) r.spelled; is = (h, k, r.is); ends = r.ends })

-- a word is no other value's first token
word_no_other : (v : PragmaValue) (rest : List Placed) → begins_with is_word (value_text v rest) ≡ false → IsValue v → is_word_value v ≡ false
word_no_other (Word w) rest h is = let word : same_class token_class.Word (class_of w.1.kind) ≡ true = ap (same_class token_class.Word) is in absurd cc
word_no_other (Text s) rest h is = refl
word_no_other (Number n) rest h is = refl
word_no_other (Sized n b) rest h is = refl
word_no_other (Unsized b) rest h is = refl
word_no_other (Listed o l c) rest h is = refl

-- a value alone
alone_derived : (ps rest : List Placed) (x : Expression) (o : Option (Value × List Placed)) → begins_with is_word ps ≡ false → pragma_value ps ≡ o → option_map as_only o ≡ Some (x, rest) → (e : PragmaExpression) × Begins ps e rest
alone_derived ps rest x None no_word is read = absurd cc
alone_derived ps rest x (Some v) no_word is read =
    let same : v.1 ≡ rest = rests (as_only v) (x, rest) read in
    let r = value_derived ps rest v.0 (is ∙ ap (λ (r : List Placed). Some (v.0, r)) same) in
    let plain = word_no_other r.v rest (ap (begins_with is_word) (sym r.spelled) ∙ no_word) r.is in
    (Alone r.v, record { spelled = r.spelled; is = (plain, r.is); ends = r.ends })

-- after a word
word_derived : (w : Placed) (ps rest : List Placed) (x : Expression) → Has token_class.Word w → (if begins_with is_equals ps then option_map (as_assigned w) (pragma_value (rest_of ps)) else Some (as_alone w ps)) ≡ Some (x, rest) → (e : PragmaExpression) × Begins (w ∷ ps) e rest
word_derived w [] rest x h is =
    let same : [] ≡ rest = rests (as_alone w []) (x, rest) is in
    (Keyword w, record { spelled = ap (λ (r : List Placed). w ∷ r) same; is = h; ends = subst (λ (r : List Placed). begins_with is_equals r ≡ false) same refl })
word_derived w (q ∷ ps) rest x h is = by_equals (same_class token_class.Equals (class_of q.1.kind)) refl is
  where
    by_equals : (b : Bool) → same_class token_class.Equals (class_of q.1.kind) ≡ b → cond b (option_map (as_assigned w) (pragma_value ps)) (Some (as_alone w (q ∷ ps))) ≡ Some (x, rest) → (e : PragmaExpression) × Begins (w ∷ q ∷ ps) e rest
    by_equals true equals is = assigned_derived w q ps rest x (pragma_value ps) h (same_signs token_class.Equals (class_of q.1.kind) equals) refl is
    by_equals false equals is =
        let same : q ∷ ps ≡ rest = rests (as_alone w (q ∷ ps)) (x, rest) is in
        (Keyword w, record { spelled = ap (λ (r : List Placed). w ∷ r) same; is = h; ends = subst (λ (r : List Placed). begins_with is_equals r ≡ false) same equals })

-- an expression that is read is derived
pub expression_derived : (ps rest : List Placed) (x : Expression) → expression_at ps ≡ Some (x, rest) → (e : PragmaExpression) × Begins ps e rest
expression_derived [] rest x is = absurd cc
expression_derived (p ∷ ps) rest x is = by_word (same_class token_class.Word (class_of p.1.kind)) refl is
  where
    by_word :
        (b : Bool) → same_class token_class.Word (class_of p.1.kind) ≡ b
        → cond (not b) (option_map as_only (pragma_value (p ∷ ps)))
        (if begins_with is_equals ps then option_map (as_assigned p) (pragma_value (rest_of ps)) else Some (as_alone p ps))
        ≡ Some (x, rest)
        → (e : PragmaExpression) × Begins (p ∷ ps) e rest
    by_word true word is = word_derived p ps rest x (same_signs token_class.Word (class_of p.1.kind) word) is
    by_word false word is = alone_derived (p ∷ ps) rest x (pragma_value (p ∷ ps)) word refl is
