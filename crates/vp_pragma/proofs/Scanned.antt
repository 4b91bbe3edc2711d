-- The lists that the grammar of a pragma's line derives are those that are scanned to their end.
use Rattle.std.proofs.Common.{◌≡◌, ◌∙◌, ℕ, zero, suc, ◌<◌, ◌≤◌, false, List, [], ◌∷◌, Option, Some, None, length, refl, sym, ap, subst, arith}
use Rattle.vp_pragma.specs.declared.lists.Due.{Due}
use Rattle.vp_pragma.specs.declared.lists.Due.TheVariants as due
use Rattle.vp_pragma.specs.declared.lists.Move.{Move}
use Rattle.vp_pragma.specs.declared.lists.Move.TheVariants.{To, Opens, Closes}
use Rattle.vp_pragma.specs.declared.token_class.TokenClass.{TokenClass}
use Rattle.vp_pragma.specs.declared.token_class.TokenClass.TheVariants as token_class
use Rattle.vp_pragma.specs.Lists.{moved, next, scan}
use Rattle.vp_pragma.specs.PragmaGrammar.{PragmaValue, Text, Number, Sized, Unsized, Word, Listed, PragmaExpression, Keyword, Assigned, Alone, PragmaList, Last, More, value_text, expression_text, list_text, Has, is_word_value, IsValue, IsExpression, IsList}
use Rattle.vp_pragma.specs.TokenClasses.{Placed, class_of}

-- ---- what is derived is scanned

-- one token
step : (d : Due) (depth : ℕ) (p : Placed) (ps : List Placed) (s : TokenClass) → Has s p → scan d depth (p ∷ ps) ≡ moved depth ps (λ e n. scan e n ps) (next d s)
unfolding scan
step d depth p ps s h = ap (λ (t : TokenClass). moved depth ps (λ (e : Due) (n : ℕ). scan e n ps) (next d t)) h

-- what follows a list that lies within so many others, past its end
abbrev pub closes : ℕ → List Placed → Option (List Placed)
closes zero rest = Some rest
closes (suc depth) rest = scan due.After depth rest

-- what is due after a value
abbrev due_following : PragmaValue → Due
due_following (Number number) = due.AfterNumber
due_following _ = due.After

-- what is due after an expression
abbrev due_after : PragmaExpression → Due
due_after (Keyword word) = due.AfterWord
due_after (Assigned word equals v) = due_following v
due_after (Alone v) = due_following v

-- a list may end there, or go on after a comma
record GoesOn (d : Due) : Type 0 where
  closing : next d token_class.Closing ≡ Some Closes
  comma : next d token_class.Comma ≡ Some (To due.Expression)

goes_on_following : (v : PragmaValue) → GoesOn (due_following v)
goes_on_following (Number number) = record { closing = refl; comma = refl }
goes_on_following _ = record { closing = refl; comma = refl }

goes_on_after : (e : PragmaExpression) → GoesOn (due_after e)
goes_on_after (Keyword word) = record { closing = refl; comma = refl }
goes_on_after (Assigned word equals v) = goes_on_following v
goes_on_after (Alone v) = goes_on_following v

closing_moved : (depth : ℕ) (rest : List Placed) → moved depth rest (λ e n. scan e n rest) (Some Closes) ≡ closes depth rest
closing_moved zero rest = refl
closing_moved (suc depth) rest = refl

-- the end of a list
ends_scan : (d : Due) (depth : ℕ) (closing : Placed) (rest : List Placed) → GoesOn d → Has token_class.Closing closing → scan d depth (closing ∷ rest) ≡ closes depth rest
ends_scan d depth closing rest on h =
    step d depth closing rest token_class.Closing h
    ∙ ap (moved depth rest (λ (e : Due) (n : ℕ). scan e n rest)) on.closing
    ∙ closing_moved depth rest

-- a comma
comma_scan : (d : Due) (depth : ℕ) (comma : Placed) (rest : List Placed) → GoesOn d → Has token_class.Comma comma → scan d depth (comma ∷ rest) ≡ scan due.Expression depth rest
comma_scan d depth comma rest on h =
    step d depth comma rest token_class.Comma h ∙ ap (moved depth rest (λ (e : Due) (n : ℕ). scan e n rest)) on.comma

-- a value that is no word is scanned alike where an expression is due
same_scan : (v : PragmaValue) (depth : ℕ) (rest : List Placed) → is_word_value v ≡ false → IsValue v → scan due.Expression depth (value_text v rest) ≡ scan due.Value depth (value_text v rest)
same_scan (Text s) depth rest plain h = step due.Expression depth s rest token_class.Text h ∙ sym (step due.Value depth s rest token_class.Text h)
same_scan (Number n) depth rest plain h = step due.Expression depth n rest token_class.Number h ∙ sym (step due.Value depth n rest token_class.Number h)
same_scan (Sized n b) depth rest plain h = step due.Expression depth n (b ∷ rest) token_class.Number h.0 ∙ sym (step due.Value depth n (b ∷ rest) token_class.Number h.0)
same_scan (Unsized b) depth rest plain h = step due.Expression depth b rest token_class.Base h ∙ sym (step due.Value depth b rest token_class.Base h)
same_scan (Word w) depth rest plain h = absurd cc
same_scan (Listed o l c) depth rest plain h =
    step due.Expression depth o (list_text l (c ∷ rest)) token_class.Opening h.0 ∙ sym (step due.Value depth o (list_text l (c ∷ rest)) token_class.Opening h.0)

mutual
  value_scan : (v : PragmaValue) (depth : ℕ) (rest : List Placed) → IsValue v → scan due.Value depth (value_text v rest) ≡ scan (due_following v) depth rest
  value_scan (Text s) depth rest h = step due.Value depth s rest token_class.Text h
  value_scan (Number n) depth rest h = step due.Value depth n rest token_class.Number h
  value_scan (Sized n b) depth rest h = step due.Value depth n (b ∷ rest) token_class.Number h.0 ∙ step due.AfterNumber depth b rest token_class.Base h.1
  value_scan (Unsized b) depth rest h = step due.Value depth b rest token_class.Base h
  value_scan (Word w) depth rest h = step due.Value depth w rest token_class.Word h
  value_scan (Listed o l c) depth rest h = step due.Value depth o (list_text l (c ∷ rest)) token_class.Opening h.0 ∙ list_scan l (suc depth) c rest h.1 h.2

  expression_scan : (e : PragmaExpression) (depth : ℕ) (rest : List Placed) → IsExpression e → scan due.Expression depth (expression_text e rest) ≡ scan (due_after e) depth rest
  expression_scan (Keyword w) depth rest h = step due.Expression depth w rest token_class.Word h
  expression_scan (Assigned w q v) depth rest h =
      step due.Expression depth w (q ∷ value_text v rest) token_class.Word h.0
      ∙ step due.AfterWord depth q (value_text v rest) token_class.Equals h.1
      ∙ value_scan v depth rest h.2
  expression_scan (Alone v) depth rest h = same_scan v depth rest h.0 h.1 ∙ value_scan v depth rest h.1

  -- a list that is derived is scanned to its end
  pub list_scan : (l : PragmaList) (depth : ℕ) (closing : Placed) (rest : List Placed) → IsList l → Has token_class.Closing closing → scan due.Expression depth (list_text l (closing ∷ rest)) ≡ closes depth rest
  list_scan (Last e) depth c rest h is = expression_scan e depth (c ∷ rest) h ∙ ends_scan (due_after e) depth c rest (goes_on_after e) is
  list_scan (More e comma l) depth c rest h is =
      expression_scan e depth (comma ∷ list_text l (c ∷ rest)) h.0
      ∙ comma_scan (due_after e) depth comma (list_text l (c ∷ rest)) (goes_on_after e) h.1
      ∙ list_scan l depth c rest h.2 is

-- ---- what is scanned is derived

-- what may follow an expression of a list, up to its end
abbrev tail_text : Option (Placed × PragmaList) → List Placed → List Placed
tail_text None rest = rest
tail_text (Some t) rest = t.0 ∷ list_text t.1 rest

abbrev IsTail : Option (Placed × PragmaList) → Type 0
IsTail None = Unit {0}
IsTail (Some t) = Has token_class.Comma t.0 × IsList t.1

-- an expression, and what follows it in a list
abbrev joined : PragmaExpression → Option (Placed × PragmaList) → PragmaList
joined e None = Last e
joined e (Some t) = More e t.0 t.1

joined_text : (e : PragmaExpression) (t : Option (Placed × PragmaList)) (rest : List Placed) → expression_text e (tail_text t rest) ≡ list_text (joined e t) rest
joined_text e None rest = refl
joined_text e (Some t) rest = refl

joined_is : (e : PragmaExpression) (t : Option (Placed × PragmaList)) → IsExpression e → IsTail t → IsList (joined e t)
joined_is e None h k = h
joined_is e (Some t) h k = (h, k.0, k.1)

-- tokens are an expression and what follows it in a list
pub record Expressed (ps rest : List Placed) : Type 0 where
  pub e : PragmaExpression
  pub is : IsExpression e
  pub t : Option (Placed × PragmaList)
  pub are : IsTail t
  pub spelled : ps ≡ expression_text e (tail_text t rest)

-- tokens are a value and what follows it in a list
pub record Valued (ps rest : List Placed) : Type 0 where
  pub v : PragmaValue
  pub is : IsValue v
  pub t : Option (Placed × PragmaList)
  pub are : IsTail t
  pub spelled : ps ≡ value_text v (tail_text t rest)

-- tokens are what follows an expression in a list
pub record Tailed (ps rest : List Placed) : Type 0 where
  pub t : Option (Placed × PragmaList)
  pub are : IsTail t
  pub spelled : ps ≡ tail_text t rest

-- tokens are a list
pub record Derived (ps rest : List Placed) : Type 0 where
  pub l : PragmaList
  pub is : IsList l
  pub spelled : ps ≡ list_text l rest

-- tokens are a number and more, or another value that is no word
pub record Counted (ps rest : List Placed) : Type 0 where
  pub valued : Valued ps rest
  pub no_word : is_word_value valued.v ≡ false

-- tokens, up to the end of a list, are what is due
abbrev pub Leads : Due → List Placed → List Placed → Type 0
Leads due.Expression ps rest = Derived ps rest
Leads due.Value ps rest = Valued ps rest
Leads due.AfterWord ps rest = (w : Placed) → Has token_class.Word w → Expressed (w ∷ ps) rest
Leads due.AfterNumber ps rest = (n : Placed) → Has token_class.Number n → Counted (n ∷ ps) rest
Leads due.After ps rest = Tailed ps rest

-- a list in parentheses, and what follows it in a list
record Opened (ps rest : List Placed) : Type 0 where
  l : PragmaList
  is : IsList l
  closing : Placed
  closes : Has token_class.Closing closing
  t : Option (Placed × PragmaList)
  are : IsTail t
  spelled : ps ≡ list_text l (closing ∷ tail_text t rest)

-- what a token's move leads to, up to the end of the list
abbrev Led : Option Move → Placed → List Placed → List Placed → Type 0
Led None p ps rest = ⊥
Led (Some (To d)) p ps rest = Leads d ps rest
Led (Some Opens) p ps rest = Opened ps rest
Led (Some Closes) p ps rest = p ∷ ps ≡ rest

expressed : (ps rest : List Placed) → Expressed ps rest → Derived ps rest
expressed ps rest x = record { l = joined x.e x.t; is = joined_is x.e x.t x.is x.are; spelled = x.spelled ∙ joined_text x.e x.t rest }

alone : (ps rest : List Placed) → Counted ps rest → Derived ps rest
alone ps rest x =
    expressed ps rest (record { e = Alone x.valued.v; is = (x.no_word, x.valued.is); t = x.valued.t; are = x.valued.are; spelled = x.valued.spelled })

-- one token that is a value, before what follows it
single : (v : PragmaValue) (p : Placed) (ps rest : List Placed) → ((tail : List Placed) → value_text v tail ≡ p ∷ tail) → IsValue v → Tailed ps rest → Valued (p ∷ ps) rest
single v p ps rest text is x = record { v = v; is = is; t = x.t; are = x.are; spelled = ap (λ (q : List Placed). p ∷ q) x.spelled ∙ sym (text (tail_text x.t rest)) }

listed : (p : Placed) (ps rest : List Placed) → Has token_class.Opening p → Opened ps rest → Valued (p ∷ ps) rest
listed p ps rest h x = record {
  v = Listed p x.l x.closing;
  is = (h, x.is, x.closes);
  t = x.t;
  are = x.are;
  spelled = ap (λ (q : List Placed). p ∷ q) x.spelled;
}

-- one token more
extend : (d : Due) (s : TokenClass) (p : Placed) (ps rest : List Placed) → Has s p → Led (next d s) p ps rest → Leads d (p ∷ ps) rest
unfolding single listed
extend due.Expression token_class.Word p ps rest h x = expressed (p ∷ ps) rest (x p h)
extend due.Expression token_class.Text p ps rest h x = alone (p ∷ ps) rest (record { valued = single (Text p) p ps rest (λ _. refl) h x; no_word = refl })
extend due.Expression token_class.Base p ps rest h x = alone (p ∷ ps) rest (record { valued = single (Unsized p) p ps rest (λ _. refl) h x; no_word = refl })
extend due.Expression token_class.Number p ps rest h x = alone (p ∷ ps) rest (x p h)
extend due.Expression token_class.Opening p ps rest h x = alone (p ∷ ps) rest (record { valued = listed p ps rest h x; no_word = refl })
extend due.Value token_class.Word p ps rest h x = single (Word p) p ps rest (λ _. refl) h x
extend due.Value token_class.Text p ps rest h x = single (Text p) p ps rest (λ _. refl) h x
extend due.Value token_class.Base p ps rest h x = single (Unsized p) p ps rest (λ _. refl) h x
extend due.Value token_class.Number p ps rest h x = (x p h).valued
extend due.Value token_class.Opening p ps rest h x = listed p ps rest h x
extend due.AfterWord token_class.Equals p ps rest h x = λ w k. record {
  e = Assigned w p x.v;
  is = (k, h, x.is);
  t = x.t;
  are = x.are;
  spelled = ap (λ (q : List Placed). w ∷ p ∷ q) x.spelled;
}
extend due.AfterWord token_class.Comma p ps rest h x = λ w k. record {
  e = Keyword w;
  is = k;
  t = Some (p, x.l);
  are = (h, x.is);
  spelled = ap (λ (q : List Placed). w ∷ p ∷ q) x.spelled;
}
extend due.AfterWord token_class.Closing p ps rest h x = λ w k. record { e = Keyword w; is = k; t = None; are = tt; spelled = ap (λ (q : List Placed). w ∷ q) x }
extend due.AfterNumber token_class.Base p ps rest h x = λ n k. record {
  valued = record {
    v = Sized n p;
    is = (k, h);
    t = x.t;
    are = x.are;
    spelled = ap (λ (q : List Placed). n ∷ p ∷ q) x.spelled;
  };
  no_word = refl;
}
extend due.AfterNumber token_class.Comma p ps rest h x = λ n k. record {
  valued = record {
    v = Number n;
    is = k;
    t = Some (p, x.l);
    are = (h, x.is);
    spelled = ap (λ (q : List Placed). n ∷ p ∷ q) x.spelled;
  };
  no_word = refl;
}
extend due.AfterNumber token_class.Closing p ps rest h x = λ n k. record {
  valued = record { v = Number n; is = k; t = None; are = tt; spelled = ap (λ (q : List Placed). n ∷ q) x };
  no_word = refl;
}
extend due.After token_class.Comma p ps rest h x = record { t = Some (p, x.l); are = (h, x.is); spelled = ap (λ (q : List Placed). p ∷ q) x.spelled }
extend due.After token_class.Closing p ps rest h x = record { t = None; are = tt; spelled = x }
extend d s p ps rest h x = absurd x

-- the token that ends a list
closing_class : (d : Due) (s : TokenClass) → next d s ≡ Some Closes → s ≡ token_class.Closing
closing_class due.Expression token_class.Closing h = refl
closing_class due.Value token_class.Closing h = refl
closing_class due.After token_class.Closing h = refl
closing_class due.AfterWord token_class.Closing h = refl
closing_class due.AfterNumber token_class.Closing h = refl
closing_class d s h = absurd cc

-- tokens that were scanned: what was due, up to the end of the list; and what follows that end
pub record Found (d : Due) (depth : ℕ) (ps out : List Placed) : Type 0 where
  pub closing : Placed
  pub mid : List Placed
  pub leads : Leads d ps (closing ∷ mid)
  pub is : Has token_class.Closing closing
  pub goes_on : closes depth mid ≡ Some out
  pub shorter : length mid < length ps

-- what is scanned, by the move of the first token, where shorter tokens are found so
found_by :
    (n : ℕ) (d : Due) (depth : ℕ) (p : Placed) (ps out : List Placed) (move : Option Move)
    → ((d : Due) (depth : ℕ) (qs : List Placed) → length qs ≤ length ps → scan d depth qs ≡ Some out → Found d depth qs out)
    → next d (class_of p.1.kind) ≡ move → moved depth ps (λ e n. scan e n ps) move ≡ Some out → Found d depth (p ∷ ps) out
found_by n d depth p ps out None shorter is h = absurd cc
found_by n d depth p ps out (Some (To following)) shorter is h =
    let f = shorter following depth ps (omega arith) h in
    let led : Led (Some (To following)) p ps (f.closing ∷ f.mid) = f.leads in
    record {
      closing = f.closing;
      mid = f.mid;
      leads = extend d (class_of p.1.kind) p ps (f.closing ∷ f.mid) refl (subst (λ (m : Option Move). Led m p ps (f.closing ∷ f.mid)) (sym is) led);
      is = f.is;
      goes_on = f.goes_on;
      shorter = omega (arith, f.shorter);
    }
found_by n d depth p ps out (Some Opens) shorter is h =
    let f = shorter due.Expression (suc depth) ps (omega arith) h in
    let g = shorter due.After depth f.mid (omega (arith, f.shorter)) f.goes_on in
    let list : Derived ps (f.closing ∷ f.mid) = f.leads in
    let tail : Tailed f.mid (g.closing ∷ g.mid) = g.leads in
    let led : Led (Some Opens) p ps (g.closing ∷ g.mid) = record {
      l = list.l;
      is = list.is;
      closing = f.closing;
      closes = f.is;
      t = tail.t;
      are = tail.are;
      spelled = list.spelled ∙ ap (λ (q : List Placed). list_text list.l (f.closing ∷ q)) tail.spelled;
    }
    in
    record {
      closing = g.closing;
      mid = g.mid;
      leads = extend d (class_of p.1.kind) p ps (g.closing ∷ g.mid) refl (subst (λ (m : Option Move). Led m p ps (g.closing ∷ g.mid)) (sym is) led);
      is = g.is;
      goes_on = g.goes_on;
      shorter = omega (arith, f.shorter, g.shorter);
    }
found_by n d zero p ps out (Some Closes) shorter is h =
    let led : Led (Some Closes) p ps (p ∷ ps) = refl in
    record {
      closing = p;
      mid = ps;
      leads = extend d (class_of p.1.kind) p ps (p ∷ ps) refl (subst (λ (m : Option Move). Led m p ps (p ∷ ps)) (sym is) led);
      is = closing_class d (class_of p.1.kind) is;
      goes_on = h;
      shorter = omega arith;
    }
found_by n d (suc depth) p ps out (Some Closes) shorter is h =
    let led : Led (Some Closes) p ps (p ∷ ps) = refl in
    record {
      closing = p;
      mid = ps;
      leads = extend d (class_of p.1.kind) p ps (p ∷ ps) refl (subst (λ (m : Option Move). Led m p ps (p ∷ ps)) (sym is) led);
      is = closing_class d (class_of p.1.kind) is;
      goes_on = h;
      shorter = omega arith;
    }

-- what is scanned, of at most so many tokens
found_within : (n : ℕ) (d : Due) (depth : ℕ) (ps out : List Placed) → length ps ≤ n → scan d depth ps ≡ Some out → Found d depth ps out
unfolding scan
found_within n d depth [] out le h = absurd cc
found_within zero d depth (p ∷ ps) out le h = absurd (omega arith)
found_within (suc n) d depth (p ∷ ps) out le h =
    found_by n d depth p ps out (next d (class_of p.1.kind)) (λ e m qs short k. found_within n e m qs out (omega arith) k) refl h

-- a list that was scanned to its end is derived
pub list_found : (ps out : List Placed) → scan due.Expression 0 ps ≡ Some out → (closing : Placed) × Has token_class.Closing closing × Derived ps (closing ∷ out)
list_found ps out h =
    let f = found_within (length ps) due.Expression 0 ps out (omega arith) h in
    let same : f.mid ≡ out = the_same f.mid out f.goes_on in
    (f.closing, f.is, subst (λ (q : List Placed). Derived ps (f.closing ∷ q)) same f.leads)
  where
    the_same : (a b : List Placed) → Some a ≡ Some b → a ≡ b
    the_same a b h = cc
