-- What is read of the lines of a text is what they do.
use Rattle.std.proofs.Common.{◌≡◌, ◌∙◌, ℕ, zero, suc, ◌+◌, ◌<◌, ◌≤◌, Bool, true, false, cond, List, [], ◌∷◌, ◌++◌, map, Option, Some, None, Result, Ok, length, refl, sym, ap, subst, arith}
use Rattle.std.specs.Prelude.{codes}
use Rattle.std.specs.Str.{bytes_eq}
use Rattle.vp_lex.specs.Texts.{text_of}
use Rattle.vp_lex.specs.declared.token.Token.{Token}
use Rattle.vp_pragma.specs.declared.pragma_effect.PragmaEffect.{PragmaEffect}
use Rattle.vp_pragma.specs.declared.pragma_effect.PragmaEffect.TheVariants.{Forgets, Bad}
use Rattle.vp_pragma.specs.declared.pragma_effect.Pragma.{Pragma}
use Rattle.vp_pragma.specs.declared.pragma_effect.Pragma.TheVariants.{Protect, Reset}
use Rattle.vp_pragma.specs.declared.error.PragmaError.{PragmaError}
use Rattle.vp_pragma.specs.declared.line.Expression.{Expression}
use Rattle.vp_pragma.specs.declared.token_class.TokenClass.{TokenClass}
use Rattle.vp_pragma.specs.declared.token_class.TokenClass.TheVariants as token_class
use Rattle.vp_pragma.specs.Envelopes.{Protection}
use Rattle.vp_pragma.specs.EnvelopesOf.{AreEnvelopes, after_effects, at_start, envelopes_after}
use Rattle.vp_pragma.specs.LineReading.{all_effects, effects_after, effects_from, effects_of_text, directive_effects, envelopes_read, expression_at, first_effects, line_effects, named_effects, next_effects}
use Rattle.vp_pragma.specs.PragmaGrammar.{PragmaValue, Text, Number, Sized, Unsized, Word, Listed, PragmaExpression, Keyword, Assigned, Alone, PragmaList, Last, More, value_text, expression_text, list_text, expression_said, AreExpressions, Begins, Follows, FollowsBy}
use Rattle.vp_pragma.specs.Pragmas.{ExpressionsDo, Expressions, LineDoes, LinesDo, NoEffect, PragmaLine, ResetAll, Unnamed, before_effects, begins_line, effect_of, effects_by, directive_line, is_pragma, line_after, lines_from, named_line, on_line, pragma_line}
use Rattle.vp_pragma.specs.TokenClasses.{Placed, is_word, same_class, class_of}
use Rattle.vp_pragma.proofs.Refusals.{all_some}
use Rattle.vp_pragma.proofs.Said.{expression_derived, expression_read}

-- ---- the expressions of a pragma

mutual
  value_longer : (v : PragmaValue) (rest : List Placed) → length rest < length (value_text v rest)
  value_longer (Text s) rest = omega arith
  value_longer (Number n) rest = omega arith
  value_longer (Sized n b) rest = omega arith
  value_longer (Unsized b) rest = omega arith
  value_longer (Word w) rest = omega arith
  value_longer (Listed o l c) rest = let h = list_longer l (c ∷ rest) in omega arith

  expression_longer : (e : PragmaExpression) (rest : List Placed) → length rest < length (expression_text e rest)
  expression_longer (Keyword w) rest = omega arith
  expression_longer (Assigned w q v) rest = let h = value_longer v rest in omega arith
  expression_longer (Alone v) rest = value_longer v rest

  list_longer : (l : PragmaList) (rest : List Placed) → length rest < length (list_text l rest)
  list_longer (Last e) rest = expression_longer e rest
  list_longer (More e comma l) rest =
      let h = expression_longer e (comma ∷ list_text l rest) in
      let k = list_longer l rest in
      omega arith

-- what begins with an expression has more tokens than follow it
begins_longer : (ps : List Placed) (e : PragmaExpression) (rest : List Placed) → Begins ps e rest → length rest < length ps
begins_longer ps e rest b = subst (λ (qs : List Placed). length rest < length qs) (sym b.spelled) (expression_longer e rest)

-- what begins with an expression is read as what it says
begins_read : (ps : List Placed) (e : PragmaExpression) (rest : List Placed) → Begins ps e rest → expression_at ps ≡ Some (expression_said e, rest)
begins_read ps e rest b = ap expression_at b.spelled ∙ expression_read e rest b.is b.ends

-- tokens that begin with no expression are read as none
none_read : (ps : List Placed) (o : Option (Expression × List Placed)) → expression_at ps ≡ o → ((e : PragmaExpression) (rest : List Placed) → Begins ps e rest → ⊥) → o ≡ None
none_read ps None is none = refl
none_read ps (Some x) is none = let d = expression_derived ps x.1 x.0 is in absurd (none d.0 x.1 d.1)

-- what follows an expression that is read, by the sign of the first token after it
follows_by : (pragma : Pragma) (text : List ℕ) (more : List PragmaEffect) (next : Type 0) (es : List PragmaExpression) (whole : Bool) (s : TokenClass) → (next → more ≡ effects_by pragma text es whole) → FollowsBy s next es whole → cond (same_class token_class.Comma s) more (Bad ∷ []) ≡ effects_by pragma text es whole
follows_by pragma text more next es whole token_class.Comma h f = h f
follows_by pragma text more next [] whole s h f = ap (λ (b : Bool). cond b [] (Bad ∷ [])) (sym f)
follows_by pragma text more next (e ∷ es) whole s h f = absurd f

-- what follows an expression that is read, where more is read after a comma
follows_read :
    (pragma : Pragma) (text : List ℕ) (more : List Placed → List PragmaEffect) (es : List PragmaExpression) (whole : Bool) (rest : List Placed)
    → ((qs : List Placed) → length qs < length rest → AreExpressions qs es whole → more qs ≡ effects_by pragma text es whole)
    → Follows (λ qs. AreExpressions qs es whole) rest es whole → next_effects more rest ≡ effects_by pragma text es whole
follows_read pragma text more [] whole [] ih f = ap (λ (b : Bool). cond b [] (Bad ∷ [])) (sym f)
follows_read pragma text more (e ∷ es) whole [] ih f = absurd f
follows_read pragma text more es whole (q ∷ qs) ih f =
    follows_by pragma text (more qs) (AreExpressions qs es whole) es whole (class_of q.1.kind) (λ a. ih qs (omega arith) a) f

-- expressions are read, and what they do
read_as :
    (pragma : Pragma) (text : List ℕ) (n : ℕ) (ps : List Placed) (es : List PragmaExpression) (whole : Bool) → length ps ≤ n
    → AreExpressions ps es whole → effects_from pragma text n ps ≡ effects_by pragma text es whole
read_as pragma text zero ps [] whole le h = ap (λ (b : Bool). cond b [] (Bad ∷ [])) (sym h.0)
read_as pragma text (suc n) ps [] whole le h =
    ap (first_effects pragma text (effects_from pragma text n)) (none_read ps (expression_at ps) refl h.1)
    ∙ ap (λ (b : Bool). cond b [] (Bad ∷ [])) (sym h.0)
read_as pragma text zero ps (e ∷ es) whole le h = let k = begins_longer ps e h.0 h.1 in absurd (omega arith)
read_as pragma text (suc n) ps (e ∷ es) whole le h =
    let k = begins_longer ps e h.0 h.1 in
    ap (first_effects pragma text (effects_from pragma text n)) (begins_read ps e h.0 h.1)
    ∙ ap (before_effects (effect_of pragma text (expression_said e)))
    (follows_read pragma text (effects_from pragma text n) es whole h.0 (λ qs short a. read_as pragma text n qs es whole (omega arith) a) h.2)

-- tokens have expressions
record HasExpressions (ps : List Placed) : Type 0 where
  es : List PragmaExpression
  whole : Bool
  are : AreExpressions ps es whole

-- a line is bad after an expression that no comma follows
bad_after : (s : TokenClass) (next : Type 0) → same_class token_class.Comma s ≡ false → FollowsBy s next [] false
bad_after token_class.Comma next h = absurd cc
bad_after s next h = refl

-- a line goes on after a comma
goes_on_following : (s : TokenClass) (next : Type 0) (es : List PragmaExpression) (whole : Bool) → same_class token_class.Comma s ≡ true → next → FollowsBy s next es whole
goes_on_following token_class.Comma next es whole h x = x
goes_on_following s next es whole h x = absurd cc

-- after an expression
after_begun : (ps : List Placed) (e : PragmaExpression) (rest : List Placed) → Begins ps e rest → ((qs : List Placed) → length qs < length rest → HasExpressions qs) → HasExpressions ps
after_begun ps e [] b ih = record { es = e ∷ []; whole = true; are = ([], b, refl) }
after_begun ps e (q ∷ qs) b ih = by_comma (same_class token_class.Comma (class_of q.1.kind)) refl
  where
    by_comma : (comma : Bool) → same_class token_class.Comma (class_of q.1.kind) ≡ comma → HasExpressions ps
    by_comma true h =
        let k = ih qs (omega arith) in
        record { es = e ∷ k.es; whole = k.whole; are = (q ∷ qs, b, goes_on_following (class_of q.1.kind) (AreExpressions qs k.es k.whole) k.es k.whole h k.are) }
    by_comma false h = record { es = e ∷ []; whole = false; are = (q ∷ qs, b, bad_after (class_of q.1.kind) (AreExpressions qs [] false) h) }

-- what is there is not nothing
some_none : (x : Expression × List Placed) → ◌≡◌ {A = Option (Expression × List Placed)} (Some x) None → ⊥
some_none x h =
    let P : Option (Expression × List Placed) → Type 0 = λ o. elim o as (λ _. Type 0) [ Some y ↦ Unit {0} | None ↦ ⊥ ] in
    subst P h tt

-- after what is read at the front of tokens
after_read :
    (ps : List Placed) (o : Option (Expression × List Placed)) → expression_at ps ≡ o → ((qs : List Placed) → length qs < length ps → HasExpressions qs) → HasExpressions ps
after_read ps None is ih = record {
  es = [];
  whole = false;
  are = (refl, λ e rest b. some_none (expression_said e, rest) (sym (begins_read ps e rest b) ∙ is));
}
after_read ps (Some x) is ih =
    let d = expression_derived ps x.1 x.0 is in
    let longer = begins_longer ps d.0 x.1 d.1 in
    after_begun ps d.0 x.1 d.1 (λ qs short. ih qs (omega arith))

-- at most so many tokens have expressions
has_within : (n : ℕ) (ps : List Placed) → length ps ≤ n → HasExpressions ps
has_within zero ps le = after_read ps (expression_at ps) refl (λ qs short. absurd (omega arith))
has_within (suc n) ps le = after_read ps (expression_at ps) refl (λ qs short. has_within n qs (omega arith))

-- ---- the pragma of a line

-- what the expressions of a pragma do is what is read of them
expressions_do : (pragma : Pragma) (text : List ℕ) (ps : List Placed) → ExpressionsDo pragma text ps (all_effects pragma text ps)
expressions_do pragma text [] = refl
expressions_do pragma text (p ∷ ps) =
    let h = has_within (suc (length ps)) (p ∷ ps) (omega arith) in
    (h.es, h.whole, h.are, sym (all_some pragma text (p ∷ ps) (suc (length ps)) refl (omega arith)) ∙ read_as pragma text (suc (length ps)) (p ∷ ps) h.es h.whole (omega arith) h.are)

-- it is nothing else
expressions_once : (pragma : Pragma) (text : List ℕ) (ps : List Placed) (effects : List PragmaEffect) → ExpressionsDo pragma text ps effects → effects ≡ all_effects pragma text ps
expressions_once pragma text [] effects h = h
expressions_once pragma text (p ∷ ps) effects h =
    h.3 ∙ sym (sym (all_some pragma text (p ∷ ps) (suc (length ps)) refl (omega arith)) ∙ read_as pragma text (suc (length ps)) (p ∷ ps) h.0 h.1 (omega arith) h.2)

-- what is read of the pragma of a line
abbrev read_of : List ℕ → PragmaLine → List PragmaEffect
read_of text NoEffect = []
read_of text Unnamed = Bad ∷ []
read_of text ResetAll = Forgets ∷ []
read_of text (Expressions pragma ps) = all_effects pragma text ps

line_does : (text : List ℕ) (line : PragmaLine) → LineDoes text line (read_of text line)
line_does text NoEffect = refl
line_does text Unnamed = refl
line_does text ResetAll = refl
line_does text (Expressions pragma ps) = expressions_do pragma text ps

line_once : (text : List ℕ) (line : PragmaLine) (effects : List PragmaEffect) → LineDoes text line effects → effects ≡ read_of text line
line_once text NoEffect effects h = h
line_once text Unnamed effects h = h
line_once text ResetAll effects h = h
line_once text (Expressions pragma ps) effects h = expressions_once pragma text ps effects h

-- what is read of a choice of lines
read_choice : (text : List ℕ) (b : Bool) (x y : PragmaLine) → read_of text (cond b x y) ≡ cond b (read_of text x) (read_of text y)
read_choice text true x y = refl
read_choice text false x y = refl

named_read : (text name : List ℕ) (ps : List Placed) → read_of text (named_line name ps) ≡ named_effects text name ps
named_read text name ps =
    let protect = bytes_eq name (codes "protect") in
    let reset = bytes_eq name (codes "reset") in
    let all = bytes_eq name (codes "resetall") in
    read_choice text protect (Expressions Protect ps) (cond reset (Expressions Reset ps) (cond all ResetAll NoEffect))
    ∙ ap (cond protect (all_effects Protect text ps)) (read_choice text reset (Expressions Reset ps) (cond all ResetAll NoEffect) ∙ ap (cond reset (all_effects Reset text ps)) (read_choice text all ResetAll NoEffect))

line_read : (text : List ℕ) (ps : List Placed) → read_of text (line_after text ps) ≡ line_effects text ps
line_read text [] = refl
line_read text (name ∷ ps) =
    read_choice text (is_word name.1.kind) (named_line (text_of text name.1) ps) Unnamed
    ∙ ap (λ (ds : List PragmaEffect). cond (is_word name.1.kind) ds (Bad ∷ [])) (named_read text (text_of text name.1) ps)

directive_read : (text : List ℕ) (t : Token) (ps : List Placed) → read_of text (directive_line text t ps) ≡ directive_effects text t ps
directive_read text t ps =
    read_choice text (is_pragma text t) (line_after text ps) NoEffect
    ∙ ap (λ (ds : List PragmaEffect). cond (is_pragma text t) ds []) (line_read text ps)

-- ---- the lines of a text

-- the deeds of a line before those of others
abbrev tagged : Placed → List PragmaEffect → List (Placed × PragmaEffect) → List (Placed × PragmaEffect)
tagged directive here more = map (λ effect. (directive, effect)) here ++ more

-- a line, if there is one, before others
with_line :
    (text : List ℕ) (b : Bool) (directive : Placed) (line : PragmaLine) (ls : List (Placed × PragmaLine)) (here : List PragmaEffect) (more : List (Placed × PragmaEffect))
    → read_of text line ≡ here → LinesDo text ls more → LinesDo text (cond b ((directive, line) ∷ ls) ls) (tagged directive (cond b here []) more)
with_line text true directive line ls here more is h = (here, more, subst (LineDoes text line) is (line_does text line), h, refl)
with_line text false directive line ls here more is h = h

-- what lines do is what is read of them
lines_do : (text : List ℕ) (before : Option ℕ) (place : ℕ) (ts : List Token) → LinesDo text (lines_from text before place ts) (effects_after text before place ts)
lines_do text before place [] = refl
lines_do text before place (t ∷ ts) =
    with_line text (begins_line before t) (place, t) (directive_line text t (on_line place t ts)) (lines_from text (pragma_line t) (place + 1) ts)
    (directive_effects text t (on_line place t ts)) (effects_after text (pragma_line t) (place + 1) ts)
    (directive_read text t (on_line place t ts)) (lines_do text (pragma_line t) (place + 1) ts)

-- it is nothing else, of a line, if there is one, before others
with_line_once :
    (text : List ℕ) (b : Bool) (directive : Placed) (line : PragmaLine) (ls : List (Placed × PragmaLine)) (here : List PragmaEffect) (more effects : List (Placed × PragmaEffect))
    → read_of text line ≡ here → ((ds : List (Placed × PragmaEffect)) → LinesDo text ls ds → ds ≡ more)
    → LinesDo text (cond b ((directive, line) ∷ ls) ls) effects → effects ≡ tagged directive (cond b here []) more
with_line_once text true directive line ls here more effects is once h =
    h.4
    ∙ ap (λ (ds : List PragmaEffect). tagged directive ds h.1) (line_once text line h.0 h.2 ∙ is)
    ∙ ap (tagged directive here) (once h.1 h.3)
with_line_once text false directive line ls here more effects is once h = once effects h

-- it is nothing else
lines_once : (text : List ℕ) (before : Option ℕ) (place : ℕ) (ts : List Token) (effects : List (Placed × PragmaEffect)) → LinesDo text (lines_from text before place ts) effects → effects ≡ effects_after text before place ts
lines_once text before place [] effects h = h
lines_once text before place (t ∷ ts) effects h =
    with_line_once text (begins_line before t) (place, t) (directive_line text t (on_line place t ts)) (lines_from text (pragma_line t) (place + 1) ts)
    (directive_effects text t (on_line place t ts)) (effects_after text (pragma_line t) (place + 1) ts) effects
    (directive_read text t (on_line place t ts)) (λ ds k. lines_once text (pragma_line t) (place + 1) ts ds k) h

-- ---- envelopes

-- what is read of a text are its envelopes
pub are_read : (text : List ℕ) (tokens : List Token) → AreEnvelopes text tokens (envelopes_read text tokens)
are_read text tokens = record { effects = effects_of_text text tokens; done = lines_do text None 0 tokens; are = refl }

-- a text has no others
pub read_once : (text : List ℕ) (tokens : List Token) (due : Result Protection PragmaError) → AreEnvelopes text tokens due → due ≡ envelopes_read text tokens
read_once text tokens due h =
    h.are
    ∙ ap (λ (ds : List (Placed × PragmaEffect)). envelopes_after (after_effects text tokens (Ok at_start) ds)) (lines_once text None 0 tokens h.effects h.done)

-- a text has one answer: its envelopes and viewports, or its first fault
pub envelopes_once : (text : List ℕ) (tokens : List Token) (a b : Result Protection PragmaError) → AreEnvelopes text tokens a → AreEnvelopes text tokens b → a ≡ b
envelopes_once text tokens a b h k = read_once text tokens a h ∙ sym (read_once text tokens b k)
