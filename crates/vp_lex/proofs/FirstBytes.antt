-- The first bytes of a piece show its kind.
use Rattle.std.proofs.Common.{◌≡◌, ℕ, ◌≤◌, Bool, true, false, cond, ◌&&◌, ◌||◌, ◌⊎◌, inl, inr, List, [], ◌∷◌, ◌++◌, length, leb, Option, Some, None, refl, sym, ◌∙◌, ap, subst, arith}
use Rattle.std.specs.Prelude.{not, bytes_eq, is_some}
use Rattle.std.specs.List.{list_all}
use Rattle.std.proofs.lemmas.Bool.{and_parts, eqb-true, leb-true, false_from_ne_true}
use Rattle.std.proofs.lemmas.Bool.Decides.{nat_tests}
use Rattle.std.proofs.lemmas.Slice.Eq.{bytes_eq-Decides}
use Rattle.vp_lex.specs.Bytes.{is_space, begins_name, goes_on_name, is_decimal, goes_on_number, is_apostrophe, is_quote, is_solidus, is_asterisk, is_dollar, is_accent}
use Rattle.vp_lex.specs.Tables.{looked_up}
use Rattle.vp_lex.specs.Symbols.{symbols, is_symbol}
use Rattle.vp_lex.specs.Pieces.{PieceKind, WhiteSpace, Comment, Word, SystemWord, Number, BasePart, Quoted, Operator, Directive, is_piece, is_word, ends_comment, ends_block, is_within_line, ends_base_part, ends_string}
use Rattle.vp_lex.specs.Cutting.{kind_begun, goes_on_comment, begins_comment, kind_in_front}

-- ---- symbols

listed_at : {X : Type 0} (p : List ℕ → Bool) (entry : List ℕ) (value : X) (table : List (List ℕ × X)) (bytes : List ℕ) (test : Bool) → bytes_eq bytes entry ≡ test → p entry ≡ true → (is_some (looked_up table bytes None) ≡ true → p bytes ≡ true) → is_some (cond test (Some value) (looked_up table bytes None)) ≡ true → p bytes ≡ true
listed_at p entry value table bytes true e first rest h = let same : bytes ≡ entry = (bytes_eq-Decides bytes entry).0 e in ap p same ∙ first
listed_at p entry value table bytes false e first rest h = rest h

-- what holds of each entry of a table holds of what is found in it
pub listed_all : {X : Type 0} (p : List ℕ → Bool) (table : List (List ℕ × X)) (bytes : List ℕ) → list_all (λ entry. p entry.0) table ≡ true → is_some (looked_up table bytes None) ≡ true → p bytes ≡ true
listed_all p [] bytes all h = absurd cc
listed_all {X} p ((entry, value) ∷ table) bytes all h =
    let parts = and_parts (p entry) (list_all (λ (e : List ℕ × X). p e.0) table) all in
    listed_at p entry value table bytes (bytes_eq bytes entry) refl parts.0 (listed_all p table bytes parts.1) h

-- what holds of each symbol
pub symbol_all : (p : List ℕ → Bool) (bytes : List ℕ) → list_all (λ entry. p entry.0) symbols ≡ true → is_symbol bytes ≡ true → p bytes ≡ true
symbol_all p bytes all h = listed_all p symbols bytes all h

-- a test of the first byte
abbrev pub of_first : (ℕ → Bool) → List ℕ → Bool
of_first p [] = false
of_first p (byte ∷ bytes) = p byte

symbol_begins : (b : ℕ) (bytes : List ℕ) → is_symbol (b ∷ bytes) ≡ true → is_symbol (b ∷ []) ≡ true
symbol_begins b bytes h = symbol_all (of_first (λ byte. is_symbol (byte ∷ []))) (b ∷ bytes) refl h

abbrev is_operator : Option PieceKind → Bool
is_operator (Some Operator) = true
is_operator o = false

operator_is : (o : Option PieceKind) → is_operator o ≡ true → o ≡ Some Operator
operator_is None h = absurd cc
operator_is (Some WhiteSpace) h = absurd cc
operator_is (Some Comment) h = absurd cc
operator_is (Some Word) h = absurd cc
operator_is (Some SystemWord) h = absurd cc
operator_is (Some Number) h = absurd cc
operator_is (Some BasePart) h = absurd cc
operator_is (Some Quoted) h = absurd cc
operator_is (Some Operator) h = refl
operator_is (Some Directive) h = absurd cc

operator_begun : (b : ℕ) → is_symbol (b ∷ []) ≡ true → kind_begun b ≡ Some Operator
operator_begun b h = operator_is (kind_begun b) (symbol_all (of_first (λ byte. is_operator (kind_begun byte))) (b ∷ []) refl h)

-- a symbol has no more than three bytes
pub symbol_short : (bytes : List ℕ) → is_symbol bytes ≡ true → length bytes ≤ 3
symbol_short bytes h = leb-true (length bytes) 3 (symbol_all (λ s. leb (length s) 3) bytes refl h)

-- a symbol that begins with a solidus has no other byte
solidus_alone : (b : ℕ) (bytes : List ℕ) → is_solidus b ≡ true → is_symbol (b ∷ bytes) ≡ true → length (b ∷ bytes) ≤ 1
solidus_alone b bytes e h =
    let alone : (not (is_solidus b) || leb (length (b ∷ bytes)) 1) ≡ true = symbol_all (λ s. of_first (λ byte. not (is_solidus byte)) s || leb (length s) 1) (b ∷ bytes) refl h in
    let short : leb (length (b ∷ bytes)) 1 ≡ true = rw e at alone in
    leb-true (length (b ∷ bytes)) 1 short

-- ---- what a piece is after its first byte

-- the bytes that begin a piece of a kind
abbrev pub begins : PieceKind → ℕ → Bool
begins WhiteSpace byte = is_space byte
begins Comment byte = is_solidus byte
begins Word byte = begins_name byte
begins SystemWord byte = is_dollar byte
begins Number byte = is_decimal byte
begins BasePart byte = is_apostrophe byte
begins Quoted byte = is_quote byte
begins Operator byte = is_symbol (byte ∷ [])
begins Directive byte = is_accent byte

-- what may stand after the first byte of a piece of a kind
abbrev pub ends : PieceKind → ℕ → List ℕ → Bool
ends WhiteSpace byte bytes = list_all is_space bytes
ends Comment byte bytes = ends_comment bytes
ends Word byte bytes = list_all goes_on_name bytes
ends SystemWord byte bytes = is_word bytes
ends Number byte bytes = list_all goes_on_number bytes
ends BasePart byte bytes = ends_base_part bytes
ends Quoted byte bytes = ends_string false bytes
ends Operator byte bytes = is_symbol (byte ∷ bytes)
ends Directive byte bytes = is_word bytes

operator_parts : (b : ℕ) (bytes : List ℕ) (test : Bool) → is_symbol (b ∷ bytes) ≡ test → test ≡ (is_symbol (b ∷ []) && test)
operator_parts b bytes true e = sym (ap (λ (v : Bool). v && true) (symbol_begins b bytes e))
operator_parts b bytes false e = never (is_symbol (b ∷ []))
  where
    never : (v : Bool) → false ≡ (v && false)
    never true = refl
    never false = refl

pub is_piece-parts : (kind : PieceKind) (b : ℕ) (bytes : List ℕ) → is_piece kind (b ∷ bytes) ≡ (begins kind b && ends kind b bytes)
is_piece-parts WhiteSpace b bytes = refl
is_piece-parts Comment b bytes = refl
is_piece-parts Word b bytes = refl
is_piece-parts SystemWord b bytes = refl
is_piece-parts Number b bytes = refl
is_piece-parts BasePart b bytes = refl
is_piece-parts Quoted b bytes = refl
is_piece-parts Operator b bytes = operator_parts b bytes (is_symbol (b ∷ bytes)) refl
is_piece-parts Directive b bytes = refl

-- after a byte that begins its kind, only the rest of a piece decides
pub ends_decide : (kind : PieceKind) (b : ℕ) → begins kind b ≡ true → (x : List ℕ) → is_piece kind (b ∷ x) ≡ ends kind b x
ends_decide kind b h x = is_piece-parts kind b x ∙ ap (λ (v : Bool). v && ends kind b x) h

-- ---- from the kind that a byte begins

on_test : (P : PieceKind → Type 0) (test : Bool) (kind found : PieceKind) (rest : Option PieceKind) → (test ≡ true → P kind) → (rest ≡ Some found → P found) → cond test (Some kind) rest ≡ Some found → P found
on_test P true kind found rest here there e = let same : kind ≡ found = cc in subst P same (here refl)
on_test P false kind found rest here there e = there e

begun_begins : (b : ℕ) (kind : PieceKind) → kind_begun b ≡ Some kind → begins kind b ≡ true
begun_begins b kind =
    let P : PieceKind → Type 0 = λ k. begins k b ≡ true in
    let not_none : None ≡ Some kind → P kind = λ e. absurd cc in
    on_test P (is_space b) WhiteSpace kind _ (λ e. e)
    (on_test P (begins_name b) Word kind _ (λ e. e)
    (on_test P (is_dollar b) SystemWord kind _ (λ e. e)
    (on_test P (is_decimal b) Number kind _ (λ e. e)
    (on_test P (is_apostrophe b) BasePart kind _ (λ e. e)
    (on_test P (is_quote b) Quoted kind _ (λ e. e)
    (on_test P (is_accent b) Directive kind _ (λ e. e)
    (on_test P (is_symbol (b ∷ [])) Operator kind _ (λ e. e)
    not_none)))))))

pub begins-from : (b : ℕ) (bytes : List ℕ) (kind : PieceKind) → kind_in_front b bytes ≡ Some kind → begins kind b ≡ true
begins-from b bytes kind =
    on_test (λ k. begins k b ≡ true) (begins_comment b bytes) Comment kind (kind_begun b)
    (λ e. (and_parts (is_solidus b) (goes_on_comment bytes) e).0) (begun_begins b kind)

at_byte : (b byte : ℕ) (kind : PieceKind) → b ≡ byte → kind_begun byte ≡ Some kind → kind_begun b ≡ Some kind
at_byte b byte kind e h = ap kind_begun e ∙ h

solidus_begun : (b : ℕ) → is_solidus b ≡ true → kind_begun b ≡ Some Operator
solidus_begun b h = at_byte b 47 Operator (eqb-true b 47 h) refl

comment_at : (b : ℕ) (bytes : List ℕ) (test : Bool) → begins_comment b bytes ≡ test → cond test (Some Comment) (kind_begun b) ≡ Some Comment → goes_on_comment bytes ≡ true
comment_at b bytes true e h = (and_parts (is_solidus b) (goes_on_comment bytes) e).1
comment_at b bytes false e h =
    let other : kind_begun b ≡ Some Operator = solidus_begun b (begun_begins b Comment h) in
    let both : ◌≡◌ {A = Option PieceKind} (Some Comment) (Some Operator) = sym h ∙ other in
    absurd cc

-- where a comment begins, it goes on
pub comment_goes_on : (b : ℕ) (bytes : List ℕ) → kind_in_front b bytes ≡ Some Comment → goes_on_comment bytes ≡ true
comment_goes_on b bytes h = comment_at b bytes (begins_comment b bytes) refl h

-- ---- to the kind that a byte begins

space_low : (b : ℕ) → is_space b ≡ true → b ≤ 32
space_low b h = grind (arith, nat_tests)

name_high : (b : ℕ) → begins_name b ≡ true → 65 ≤ b
name_high b h = grind (arith, nat_tests)

decimal_low : (b : ℕ) → is_decimal b ≡ true → b ≤ 57
decimal_low b h = grind (arith, nat_tests)

decimal_high : (b : ℕ) → is_decimal b ≡ true → 48 ≤ b
decimal_high b h = grind (arith, nat_tests)

name_no_space : (b : ℕ) → begins_name b ≡ true → is_space b ≡ false
name_no_space b h = false_from_ne_true (is_space b) (λ e. omega (arith, space_low b e, name_high b h))

decimal_no_space : (b : ℕ) → is_decimal b ≡ true → is_space b ≡ false
decimal_no_space b h = false_from_ne_true (is_space b) (λ e. omega (arith, space_low b e, decimal_high b h))

decimal_no_name : (b : ℕ) → is_decimal b ≡ true → begins_name b ≡ false
decimal_no_name b h = false_from_ne_true (begins_name b) (λ e. omega (arith, name_high b e, decimal_low b h))

decimal_no_dollar : (b : ℕ) → is_decimal b ≡ true → is_dollar b ≡ false
decimal_no_dollar b h = false_from_ne_true (is_dollar b) (λ e. omega (arith, eqb-true b 36 e, decimal_high b h))

decimal_begun : (b : ℕ) (space name dollar : Bool) (rest : Option PieceKind) → space ≡ false → name ≡ false → dollar ≡ false → cond space (Some WhiteSpace) (cond name (Some Word) (cond dollar (Some SystemWord) rest)) ≡ rest
decimal_begun b space name dollar rest s n d = rw (s, n, d) refl

-- the byte that begins a piece of a kind, and no comment
begun-from : (kind : PieceKind) (b : ℕ) → begins kind b ≡ true → (kind ≡ Comment → ⊥) → kind_begun b ≡ Some kind
begun-from WhiteSpace b h other = rw h refl
begun-from Comment b h other = absurd (other refl)
begun-from Word b h other = rw (name_no_space b h, h) refl
begun-from SystemWord b h other = at_byte b 36 SystemWord (eqb-true b 36 h) refl
begun-from Number b h other =
    decimal_begun b (is_space b) (begins_name b) (is_dollar b) _ (decimal_no_space b h) (decimal_no_name b h) (decimal_no_dollar b h) ∙ rw h refl
begun-from BasePart b h other = at_byte b 39 BasePart (eqb-true b 39 h) refl
begun-from Quoted b h other = at_byte b 34 Quoted (eqb-true b 34 h) refl
begun-from Operator b h other = operator_begun b h
begun-from Directive b h other = at_byte b 96 Directive (eqb-true b 96 h) refl

-- the kind of the piece that a text begins with, by its first bytes
abbrev pub kind_at : List ℕ → Option PieceKind
kind_at [] = None
kind_at (b ∷ bytes) = kind_in_front b bytes

no_piece_empty : (kind : PieceKind) → is_piece kind [] ≡ false
no_piece_empty WhiteSpace = refl
no_piece_empty Comment = refl
no_piece_empty Word = refl
no_piece_empty SystemWord = refl
no_piece_empty Number = refl
no_piece_empty BasePart = refl
no_piece_empty Quoted = refl
no_piece_empty Operator = refl
no_piece_empty Directive = refl

-- a piece has a byte
pub no_empty_piece : (kind : PieceKind) → is_piece kind [] ≡ true → ⊥
no_empty_piece kind h = let e : false ≡ true = sym (no_piece_empty kind) ∙ h in absurd cc

-- a piece in front of bytes is of the kind that begins there; but where a comment begins, an operator of one byte is a piece too
abbrev pub FrontKind : PieceKind → List ℕ → List ℕ → Type 0
FrontKind kind its bytes = (kind_at bytes ≡ Some kind) ⊎ ((kind_at bytes ≡ Some Comment) × (length its ≤ 1))

no_comment_at : (kind : PieceKind) (b : ℕ) (bytes its : List ℕ) → is_solidus b ≡ false → kind_begun b ≡ Some kind → FrontKind kind its (b ∷ bytes)
no_comment_at kind b bytes its s k = inl (ap (λ (v : Bool). cond (v && goes_on_comment bytes) (Some Comment) (kind_begun b)) s ∙ k)

no_solidus : (kind : PieceKind) (b : ℕ) → kind_begun b ≡ Some kind → (kind ≡ Operator → ⊥) → is_solidus b ≡ false
no_solidus kind b k other = false_from_ne_true (is_solidus b) (λ e.
    let both : ◌≡◌ {A = Option PieceKind} (Some kind) (Some Operator) = sym k ∙ solidus_begun b e in
    other cc)

ends_goes_on : (tail following : List ℕ) → ends_comment tail ≡ true → goes_on_comment (tail ++ following) ≡ true
ends_goes_on [] following h = absurd cc
ends_goes_on (c ∷ tail) following h = at (is_solidus c) (is_asterisk c) (list_all is_within_line tail) (ends_block false tail) h
  where
    at : (solidus asterisk line block : Bool) → cond solidus line (asterisk && block) ≡ true → (solidus || asterisk) ≡ true
    at true asterisk line block h = refl
    at false true line block h = refl
    at false false line block h = h

comment_in_front : (b : ℕ) (tail following its : List ℕ) → is_piece Comment (b ∷ tail) ≡ true → FrontKind Comment its (b ∷ (tail ++ following))
comment_in_front b tail following its h =
    let parts = and_parts (is_solidus b) (ends_comment tail) h in
    let both : begins_comment b (tail ++ following) ≡ true = rw (parts.0, ends_goes_on tail following parts.1) refl in
    inl (ap (λ (v : Bool). cond v (Some Comment) (kind_begun b)) both)

operator_in_front : (b : ℕ) (tail following : List ℕ) (test : Bool) → begins_comment b (tail ++ following) ≡ test → is_symbol (b ∷ tail) ≡ true → (cond test (Some Comment) (kind_begun b) ≡ Some Operator) ⊎ ((cond test (Some Comment) (kind_begun b) ≡ Some Comment) × (length (b ∷ tail) ≤ 1))
operator_in_front b tail following true e h = inr (refl, solidus_alone b tail (and_parts (is_solidus b) (goes_on_comment (tail ++ following)) e).0 h)
operator_in_front b tail following false e h = inl (operator_begun b (symbol_begins b tail h))

other_in_front : (kind : PieceKind) (b : ℕ) (tail bytes : List ℕ) → (kind ≡ Comment → ⊥) → (kind ≡ Operator → ⊥) → is_piece kind (b ∷ tail) ≡ true → FrontKind kind (b ∷ tail) (b ∷ bytes)
other_in_front kind b tail bytes comment operator h =
    let begun = begun-from kind b (and_parts (begins kind b) (ends kind b tail) (sym (is_piece-parts kind b tail) ∙ h)).0 comment in
    no_comment_at kind b bytes (b ∷ tail) (no_solidus kind b begun operator) begun

in_front : (kind : PieceKind) (b : ℕ) (tail following : List ℕ) → is_piece kind (b ∷ tail) ≡ true → FrontKind kind (b ∷ tail) (b ∷ (tail ++ following))
in_front WhiteSpace b tail following h = other_in_front WhiteSpace b tail (tail ++ following) (λ e. absurd cc) (λ e. absurd cc) h
in_front Comment b tail following h = comment_in_front b tail following (b ∷ tail) h
in_front Word b tail following h = other_in_front Word b tail (tail ++ following) (λ e. absurd cc) (λ e. absurd cc) h
in_front SystemWord b tail following h = other_in_front SystemWord b tail (tail ++ following) (λ e. absurd cc) (λ e. absurd cc) h
in_front Number b tail following h = other_in_front Number b tail (tail ++ following) (λ e. absurd cc) (λ e. absurd cc) h
in_front BasePart b tail following h = other_in_front BasePart b tail (tail ++ following) (λ e. absurd cc) (λ e. absurd cc) h
in_front Quoted b tail following h = other_in_front Quoted b tail (tail ++ following) (λ e. absurd cc) (λ e. absurd cc) h
in_front Operator b tail following h = operator_in_front b tail following (begins_comment b (tail ++ following)) refl h
in_front Directive b tail following h = other_in_front Directive b tail (tail ++ following) (λ e. absurd cc) (λ e. absurd cc) h

pub front_kind : (text : List ℕ) (kind : PieceKind) (its following : List ℕ) → is_piece kind its ≡ true → text ≡ its ++ following → FrontKind kind its text
front_kind text kind [] following h e = absurd (no_empty_piece kind h)
front_kind text kind (b ∷ tail) following h e = subst (λ (x : List ℕ). FrontKind kind (b ∷ tail) x) (sym e) (in_front kind b tail following h)
