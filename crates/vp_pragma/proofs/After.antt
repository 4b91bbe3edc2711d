-- What is open after one more token.
use Rattle.std.proofs.Common.{◌≡◌, ℕ, suc, ◌+◌, ◌-◌, ◌<◌, ◌≤◌, Bool, true, false, cond, eqb, Option, Some, None, List, [], ◌∷◌, ◌++◌, length, take, drop, get_or, map, filter, refl, sym, ap, subst, ◌∙◌, arith}
use Rattle.std.proofs.Math.Seq.{drop-cons}
use Rattle.std.specs.List.{find}
use Rattle.std.specs.Option.{option_map_or}
use Rattle.std.specs.Prelude.{◌&&◌, count_by, not, option_map, if◌then◌else◌}
use Rattle.std.proofs.lemmas.List.{map-append, append-nil}
use Rattle.std.proofs.lemmas.List.Elements.{filter_more}
use Rattle.std.proofs.lemmas.List.Sums.{fold_push}
use Rattle.vp_lex.specs.declared.token.Token.{Token}
use Rattle.vp_lex.specs.declared.token.TokenKind.{TokenKind}
use Rattle.vp_lex.specs.declared.token.TokenKind.TheVariants as token
use Rattle.vp_pragma.specs.declared.surroundings.Surroundings.{Surroundings}
use Rattle.vp_pragma.specs.Surroundings.{around_of, around_after, counted, kinds_before, open_count, opens_block, closes_block, opens_case, closes_case, opens_parenthesis, closes_parenthesis, opens_bracket, closes_bracket, opens_brace, closes_brace, is_free_around, begins_module, ends_module, may_end, CountsUpTo, is_before_else, is_else, is_free, is_free_after, module_at}
use Rattle.vp_pragma.specs.declared.reading.Before.{Before}
use Rattle.vp_pragma.specs.Pragmas.{begins_line, pragma_line}
use Rattle.vp_pragma.specs.Reading.{IsBefore}
use Rattle.vp_pragma.proofs.Refusals.{at_some}

-- a token that stands for one that is not there
abbrev pub blank : Token
blank = record { kind = token.Name; start = 0; end = 0; line = 0; column = 0; directive = false }

-- one more, if it passes
one_more : (b : Bool) (n : ℕ) → n + cond b 1 0 ≡ counted b false n
one_more true n = refl
one_more false n = omega arith

-- a count of those that pass, after one more
count_push : (p : TokenKind → Bool) (kinds : List TokenKind) (kind : TokenKind) → count_by p (kinds ++ kind ∷ []) ≡ counted (p kind) false (count_by p kinds)
count_push p kinds kind = fold_push (λ (n : ℕ) (x : TokenKind). n + cond (p x) 1 0) 0 kinds kind ∙ one_more (p kind) (count_by p kinds)

-- how many are open after one more
open_push :
    (opens closes : TokenKind → Bool) (kinds : List TokenKind) (kind : TokenKind)
    → open_count opens closes (kinds ++ kind ∷ []) ≡ counted (opens kind) (closes kind) (open_count opens closes kinds)
open_push opens closes kinds kind =
    fold_push (λ (n : ℕ) (x : TokenKind). if opens x then n + 1 else (if closes x then n - 1 else n)) 0 kinds kind

-- what is open, by its parts
abbrev around : (blocks cases parentheses brackets braces modules : ℕ) → (in_module at_boundary : Bool) → Surroundings
around a b c d e f g h = record {
  blocks = a;
  cases = b;
  parentheses = c;
  brackets = d;
  braces = e;
  modules = f;
  in_module = g;
  at_boundary = h;
}

-- equal in each part
same_around :
    (a a' b b' c c' d d' e e' f f' : ℕ) (g g' h h' : Bool) → a ≡ a' → b ≡ b' → c ≡ c' → d ≡ d' → e ≡ e' → f ≡ f' → g ≡ g' → h ≡ h'
    → around a b c d e f g h ≡ around a' b' c' d' e' f' g' h'
same_around a a' b b' c c' d d' e e' f f' g g' h h' i j k l m n o p = cc

-- what is open after one more token that the grammar sees
pub around_push : (kinds : List TokenKind) (kind : TokenKind) → around_of (kinds ++ kind ∷ []) ≡ around_after (around_of kinds) kind
around_push kinds kind =
    same_around _ _ _ _ _ _ _ _ _ _ _ _ _ _ _ _
    (open_push opens_block closes_block kinds kind)
    (open_push opens_case closes_case kinds kind)
    (open_push opens_parenthesis closes_parenthesis kinds kind)
    (open_push opens_bracket closes_bracket kinds kind)
    (open_push opens_brace closes_brace kinds kind)
    (count_push begins_module kinds kind)
    (fold_push (λ (inside : Bool) (x : TokenKind). if begins_module x then true else (if ends_module x then false else inside)) false kinds kind)
    (fold_push (λ (before : Bool) (x : TokenKind). may_end x) true kinds kind)

-- the grammar sees one token more
pub kinds_seen :
    (tokens : List Token) (place : ℕ) (d : Token) → place < length tokens → (get_or tokens place d).directive ≡ false
    → kinds_before (place + 1) tokens ≡ kinds_before place tokens ++ (get_or tokens place d).kind ∷ []
kinds_seen tokens place d lt seen =
    let t : Token = get_or tokens place d in
    let front : List Token = filter (λ (x : Token). not x.directive) (take place tokens) in
    ap (map (λ (x : Token). x.kind)) (filter_more (λ (x : Token). not x.directive) tokens place d lt ∙ ap (λ (b : Bool). front ++ cond (not b) (t ∷ []) []) seen)
    ∙ map-append (λ (x : Token). x.kind) front (t ∷ [])

-- the grammar sees none of a pragma
pub kinds_same :
    (tokens : List Token) (place : ℕ) (d : Token) → place < length tokens → (get_or tokens place d).directive ≡ true
    → kinds_before (place + 1) tokens ≡ kinds_before place tokens
kinds_same tokens place d lt unseen =
    let t : Token = get_or tokens place d in
    let front : List Token = filter (λ (x : Token). not x.directive) (take place tokens) in
    ap (map (λ (x : Token). x.kind)) (filter_more (λ (x : Token). not x.directive) tokens place d lt ∙ ap (λ (b : Bool). front ++ cond (not b) (t ∷ []) []) unseen ∙ append-nil front)

-- one more at most
counted_within : (opens closes : Bool) (n limit : ℕ) → n ≤ limit → counted opens closes n ≤ limit + 1
counted_within true closes n limit le = omega arith
counted_within false true n limit le = omega arith
counted_within false false n limit le = omega arith

-- what stands before the token after one that the grammar sees
pub seen_after :
    (tokens : List Token) (place : ℕ) (t d : Token) (around next : Surroundings)
    → place < length tokens → t ≡ get_or tokens place d → t.directive ≡ false
    → around ≡ around_of (kinds_before place tokens) → CountsUpTo place around → next ≡ around_after around t.kind
    → (next ≡ around_of (kinds_before (place + 1) tokens)) × CountsUpTo (place + 1) next × Unit {0}
seen_after tokens place t d around next lt is seen around_is within next_is =
    let seen_there : (get_or tokens place d).directive ≡ false = ap (λ (x : Token). x.directive) (sym is) ∙ seen in
    let kinds : kinds_before (place + 1) tokens ≡ kinds_before place tokens ++ t.kind ∷ [] =
    kinds_seen tokens place d lt seen_there ∙ ap (λ (x : Token). kinds_before place tokens ++ x.kind ∷ []) (sym is) in
    let step : next ≡ around_of (kinds_before (place + 1) tokens) =
    next_is ∙ ap (λ (s : Surroundings). around_after s t.kind) around_is ∙ sym (around_push (kinds_before place tokens) t.kind) ∙ ap around_of (sym kinds) in
    let counts : CountsUpTo (place + 1) (around_after around t.kind) = (
      counted_within (opens_block t.kind) (closes_block t.kind) around.blocks place within.0,
      counted_within (opens_case t.kind) (closes_case t.kind) around.cases place within.1,
      counted_within (opens_parenthesis t.kind) (closes_parenthesis t.kind) around.parentheses place within.2,
      counted_within (opens_bracket t.kind) (closes_bracket t.kind) around.brackets place within.3,
      counted_within (opens_brace t.kind) (closes_brace t.kind) around.braces place within.4,
      counted_within (begins_module t.kind) false around.modules place within.5,
    )
    in
    (step, subst (CountsUpTo (place + 1)) (sym next_is) counts, tt)

-- the left of two tests that hold
left_holds : (a b : Bool) → a && b ≡ true → a ≡ true
left_holds true b h = refl
left_holds false b h = h

-- a directive stands on a pragma's line
directive_of_line : (before : Option ℕ) (t : Token) → begins_line before t ≡ true → t.directive ≡ true
directive_of_line None t h = h
directive_of_line (Some line) t h = left_holds t.directive (not (eqb t.line line)) h

-- a token of a pragma's line is no else
else_same :
    (tokens : List Token) (place : ℕ) (t d : Token) → place < length tokens → t ≡ get_or tokens place d → t.directive ≡ true
    → is_before_else tokens place ≡ is_before_else tokens (place + 1)
else_same tokens place t d lt is directive =
    let one : suc place ≡ place + 1 = omega arith in
    let split : drop place tokens ≡ t ∷ drop (place + 1) tokens =
    drop-cons tokens place d lt ∙ ap (λ (x : Token). x ∷ drop (suc place) tokens) (sym is) ∙ ap (λ (n : ℕ). t ∷ drop n tokens) one in
    let found : List Token → Option Token = λ ts. find (λ (x : Token). not x.directive) ts in
    let answer : Option Token → Bool = λ o. option_map_or is_else (option_map (λ (x : Token). x.kind) o) false in
    ap (λ (ts : List Token). answer (found ts)) split
    ∙ ap (λ (b : Bool). answer (cond (not b) (Some t) (found (drop (place + 1) tokens)))) directive

-- what stands around a line is what stands before the token after its directive
pub stands_around :
    (tokens : List Token) (place : ℕ) (t d : Token) (before : Option ℕ) (before_next : Before) (free : Bool) (inside : Option ℕ)
    → place < length tokens → t ≡ get_or tokens place d → begins_line before t ≡ true → before_next.line ≡ pragma_line t
    → IsBefore tokens (place + 1) before_next
    → free ≡ (is_free_around before_next.around && not before_next.before_else)
    → inside ≡ (if before_next.around.in_module then Some before_next.around.modules else None)
    → (free ≡ is_free tokens place) × (inside ≡ module_at tokens place)
stands_around tokens place t d before before_next free inside lt is begins line_is stands free_is inside_is =
    let directive : t.directive ≡ true = directive_of_line before t begins in
    let there : (get_or tokens place d).directive ≡ true = ap (λ (x : Token). x.directive) (sym is) ∙ directive in
    let kinds : kinds_before (place + 1) tokens ≡ kinds_before place tokens = kinds_same tokens place d lt there in
    let around_is : before_next.around ≡ around_of (kinds_before place tokens) = stands.0 ∙ ap around_of kinds in
    let line : before_next.line ≡ Some t.line = line_is ∙ ap (λ (b : Bool). cond b (Some t.line) None) directive in
    let else_is : before_next.before_else ≡ is_before_else tokens place =
    at_some (λ (n : ℕ). before_next.before_else ≡ is_before_else tokens (place + 1)) before_next.line t.line line stands.2 ∙ sym (else_same tokens place t d lt is directive) in (
      free_is
          ∙ ap (λ (s : Surroundings). is_free_around s && not before_next.before_else) around_is
          ∙ ap (λ (b : Bool). is_free_after (kinds_before place tokens) && not b) else_is,
      inside_is ∙ ap (λ (s : Surroundings). if s.in_module then Some s.modules else None) around_is,
    )
