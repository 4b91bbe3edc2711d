-- What is computed after the first byte of a piece is the longest that may stand there, and whether it is read; or nothing may.
use Rattle.std.proofs.Common.{◌≡◌, ℕ, ◌≤◌, Bool, true, false, cond, ◌&&◌, ◌||◌, List, [], ◌∷◌, ◌++◌, length, take, drop, Option, Some, None, Result, Ok, Err, refl, sym, ◌∙◌, ap, subst, arith}
use Rattle.std.specs.Prelude.{not}
use Rattle.std.specs.List.{list_all, take_while}
use Rattle.std.proofs.Math.Seq.{take-append_seam}
use Rattle.std.proofs.lemmas.Bool.{cond_both, eqb-true}
use Rattle.std.proofs.lemmas.List.{length-append, length-take, take-append-drop}
use Rattle.vp_lex.specs.declared.piece.Fault.{Fault}
use Rattle.vp_lex.specs.declared.piece.Fault.TheVariants.{BadCharacter, OpenComment, OpenString, UnknownDirective}
use Rattle.vp_lex.specs.Bytes.{is_space, is_newline, begins_name, goes_on_name, goes_on_number, is_solidus, is_asterisk}
use Rattle.vp_lex.specs.Symbols.{is_symbol}
use Rattle.vp_lex.specs.Pieces.{PieceKind, WhiteSpace, Comment, Word, SystemWord, Number, BasePart, Quoted, Operator, Directive, is_empty, is_word, is_within_line, ends_block, has_block_end, ends_comment, has_comment_end, closes, escapes, ends_string, has_string_end, unless, is_known, unread}
use Rattle.vp_lex.specs.Cutting.{run_front, or_bad, after_byte, base_front, string_front, block_front, comment_front, symbol_front, is_known_name, known_directive, front_of, goes_on_comment, kind_in_front}
use Rattle.vp_lex.proofs.Fronts.{Reaches, reaches_more, reaches_nothing, reaches_run}
use Rattle.vp_lex.proofs.FirstBytes.{ends, begins-from, comment_goes_on, symbol_short}
use Rattle.vp_lex.proofs.Reaching.{reaches_run_front, run_found, reaches_base, base_there, base_fault}

-- what a result says of the bytes after the first byte of a piece of a kind
abbrev pub Shows : PieceKind → ℕ → List ℕ → Result (List ℕ) Fault → Type 0
Shows kind b bytes (Ok tail) = Reaches (ends kind b) bytes tail × (unread kind (b ∷ tail) ≡ None)
Shows kind b bytes (Err BadCharacter) = (tail rest : List ℕ) → bytes ≡ tail ++ rest → ends kind b tail ≡ true → ⊥
Shows kind b bytes (Err fault) = (tail : List ℕ) × Reaches (ends kind b) bytes tail × (unread kind (b ∷ tail) ≡ Some fault)

-- ---- nothing more

none_no_longer : (test : List ℕ → Bool) (bytes : List ℕ) → ((b : ℕ) (other following : List ℕ) → bytes ≡ b ∷ (other ++ following) → test (b ∷ other) ≡ true → ⊥) → (other following : List ℕ) → bytes ≡ other ++ following → test other ≡ true → length other ≤ 0
none_no_longer test bytes never [] following e h = omega arith
none_no_longer test bytes never (b ∷ other) following e h = absurd (never b other following e h)

-- no byte goes on
reaches_none : (test : List ℕ → Bool) (bytes : List ℕ) → test [] ≡ true → ((b : ℕ) (other following : List ℕ) → bytes ≡ b ∷ (other ++ following) → test (b ∷ other) ≡ true → ⊥) → Reaches test bytes []
reaches_none test bytes passes never = record { rest = bytes; splits = refl; passes = passes; longest = none_no_longer test bytes never }

-- ---- strings

abbrev StringShows : Bool → List ℕ → Result (List ℕ) Fault → Type 0
StringShows escaped bytes (Ok tail) = Reaches (ends_string escaped) bytes tail × (has_string_end escaped tail ≡ true)
StringShows escaped bytes (Err fault) = (fault ≡ OpenString) × ((tail : List ℕ) × Reaches (ends_string escaped) bytes tail × (has_string_end escaped tail ≡ false))

string_closed : (escaped : Bool) (b : ℕ) (bytes : List ℕ) → closes escaped b ≡ true → StringShows escaped (b ∷ bytes) (Ok (b ∷ []))
string_closed escaped b bytes c =
    let same : (x : List ℕ) → ends_string escaped (b ∷ x) ≡ is_empty x = λ x. ap (λ (v : Bool). cond v (is_empty x) (not (is_newline b) && ends_string (escapes escaped b) x)) c in
    (reaches_more is_empty (ends_string escaped) b bytes [] same (reaches_nothing bytes), ap (λ (v : Bool). v || has_string_end (escapes escaped b) []) c)

string_line : (escaped : Bool) (b : ℕ) (bytes : List ℕ) → closes escaped b ≡ false → is_newline b ≡ true → StringShows escaped (b ∷ bytes) (Err OpenString)
string_line escaped b bytes c n =
    let never : (d : ℕ) (other following : List ℕ) → b ∷ bytes ≡ d ∷ (other ++ following) → ends_string escaped (d ∷ other) ≡ true → ⊥ = λ d other following e h.
    let same : d ≡ b = cc in
    let h : ends_string escaped (b ∷ other) ≡ true = subst (λ (x : ℕ). ends_string escaped (x ∷ other) ≡ true) same h in
    let refused : ends_string escaped (b ∷ other) ≡ false = both_tests (closes escaped b) (is_newline b) (is_empty other) (ends_string (escapes escaped b) other) c n in
    let both : true ≡ false = sym h ∙ refused in
    absurd cc in
    (refl, ([], reaches_none (ends_string escaped) (b ∷ bytes) refl never, refl))
  where
    both_tests : (quote newline x y : Bool) → quote ≡ false → newline ≡ true → cond quote x (not newline && y) ≡ false
    both_tests false true x y c n = refl
    both_tests true newline x y c n = absurd cc
    both_tests false false x y c n = absurd cc

string_next : (escaped : Bool) (b : ℕ) → closes escaped b ≡ false → is_newline b ≡ false → (x : List ℕ) → ends_string escaped (b ∷ x) ≡ ends_string (escapes escaped b) x
string_next escaped b c n x = both (closes escaped b) (is_newline b) (is_empty x) (ends_string (escapes escaped b) x) c n
  where
    both : (quote newline x y : Bool) → quote ≡ false → newline ≡ false → cond quote x (not newline && y) ≡ y
    both false false x y c n = refl
    both true newline x y c n = absurd cc
    both false true x y c n = absurd cc

string_has : (escaped : Bool) (b : ℕ) (tail : List ℕ) → closes escaped b ≡ false → has_string_end escaped (b ∷ tail) ≡ has_string_end (escapes escaped b) tail
string_has escaped b tail c = ap (λ (v : Bool). v || has_string_end (escapes escaped b) tail) c

string_more : (escaped : Bool) (b : ℕ) (bytes : List ℕ) (r : Result (List ℕ) Fault) → closes escaped b ≡ false → is_newline b ≡ false → StringShows (escapes escaped b) bytes r → StringShows escaped (b ∷ bytes) (after_byte b r)
string_more escaped b bytes (Ok tail) c n h = (reaches_more (ends_string (escapes escaped b)) (ends_string escaped) b bytes tail (string_next escaped b c n) h.0, string_has escaped b tail c ∙ h.1)
string_more escaped b bytes (Err fault) c n h = (h.0, (b ∷ h.1.0, reaches_more (ends_string (escapes escaped b)) (ends_string escaped) b bytes h.1.0 (string_next escaped b c n) h.1.1, string_has escaped b h.1.0 c ∙ h.1.2))

string_shows : (escaped : Bool) (bytes : List ℕ) → StringShows escaped bytes (string_front escaped bytes)
string_shows escaped [] = (refl, ([], reaches_none (ends_string escaped) [] refl (λ d other following e h. absurd cc), refl))
string_shows escaped (b ∷ bytes) =
    let P : Result (List ℕ) Fault → Type 0 = StringShows escaped (b ∷ bytes) in
    cond_both (closes escaped b) _ _ P (λ c. string_closed escaped b bytes c)
    (λ c. cond_both (is_newline b) _ _ P (λ n. string_line escaped b bytes c n)
    (λ n. string_more escaped b bytes (string_front (escapes escaped b) bytes) c n (string_shows (escapes escaped b) bytes)))

string_kind : (b : ℕ) (bytes : List ℕ) (r : Result (List ℕ) Fault) → StringShows false bytes r → Shows Quoted b bytes r
string_kind b bytes (Ok tail) h = (h.0, ap (λ (v : Bool). unless v OpenString) h.1)
string_kind b bytes (Err BadCharacter) h = absurd cc
string_kind b bytes (Err OpenComment) h = absurd cc
string_kind b bytes (Err OpenString) h = (h.1.0, h.1.1, ap (λ (v : Bool). unless v OpenString) h.1.2)
string_kind b bytes (Err UnknownDirective) h = absurd cc

-- ---- comments

abbrev BlockShows : Bool → List ℕ → Result (List ℕ) Fault → Type 0
BlockShows starred bytes (Ok tail) = Reaches (ends_block starred) bytes tail × (has_block_end starred tail ≡ true)
BlockShows starred bytes (Err fault) = (fault ≡ OpenComment) × ((tail : List ℕ) × Reaches (ends_block starred) bytes tail × (has_block_end starred tail ≡ false))

block_closed : (starred : Bool) (b : ℕ) (bytes : List ℕ) → (starred && is_solidus b) ≡ true → BlockShows starred (b ∷ bytes) (Ok (b ∷ []))
block_closed starred b bytes c =
    let same : (x : List ℕ) → ends_block starred (b ∷ x) ≡ is_empty x = λ x. ap (λ (v : Bool). cond v (is_empty x) (ends_block (is_asterisk b) x)) c in
    (reaches_more is_empty (ends_block starred) b bytes [] same (reaches_nothing bytes), ap (λ (v : Bool). v || has_block_end (is_asterisk b) []) c)

block_next : (starred : Bool) (b : ℕ) → (starred && is_solidus b) ≡ false → (x : List ℕ) → ends_block starred (b ∷ x) ≡ ends_block (is_asterisk b) x
block_next starred b c x = ap (λ (v : Bool). cond v (is_empty x) (ends_block (is_asterisk b) x)) c

block_has : (starred : Bool) (b : ℕ) (tail : List ℕ) → (starred && is_solidus b) ≡ false → has_block_end starred (b ∷ tail) ≡ has_block_end (is_asterisk b) tail
block_has starred b tail c = ap (λ (v : Bool). v || has_block_end (is_asterisk b) tail) c

block_more : (starred : Bool) (b : ℕ) (bytes : List ℕ) (r : Result (List ℕ) Fault) → (starred && is_solidus b) ≡ false → BlockShows (is_asterisk b) bytes r → BlockShows starred (b ∷ bytes) (after_byte b r)
block_more starred b bytes (Ok tail) c h = (reaches_more (ends_block (is_asterisk b)) (ends_block starred) b bytes tail (block_next starred b c) h.0, block_has starred b tail c ∙ h.1)
block_more starred b bytes (Err fault) c h = (h.0, (b ∷ h.1.0, reaches_more (ends_block (is_asterisk b)) (ends_block starred) b bytes h.1.0 (block_next starred b c) h.1.1, block_has starred b h.1.0 c ∙ h.1.2))

block_shows : (starred : Bool) (bytes : List ℕ) → BlockShows starred bytes (block_front starred bytes)
block_shows starred [] = (refl, ([], reaches_none (ends_block starred) [] refl (λ d other following e h. absurd cc), refl))
block_shows starred (b ∷ bytes) =
    cond_both (starred && is_solidus b) _ _ (BlockShows starred (b ∷ bytes)) (λ c. block_closed starred b bytes c)
    (λ c. block_more starred b bytes (block_front (is_asterisk b) bytes) c (block_shows (is_asterisk b) bytes))

line_shows : (b c : ℕ) (bytes : List ℕ) → is_solidus c ≡ true → Shows Comment b (c ∷ bytes) (Ok (c ∷ take_while is_within_line bytes))
line_shows b c bytes s =
    let same : (x : List ℕ) → ends_comment (c ∷ x) ≡ list_all is_within_line x = λ x. ap (λ (v : Bool). cond v (list_all is_within_line x) (is_asterisk c && ends_block false x)) s in
    let line : List ℕ = take_while is_within_line bytes in (
      reaches_more (list_all is_within_line) ends_comment c bytes line same (reaches_run is_within_line bytes),
      ap (λ (v : Bool). unless (v || has_block_end false line) OpenComment) s,
    )

asterisk_next : (c : ℕ) → is_solidus c ≡ false → is_asterisk c ≡ true → (x : List ℕ) → ends_comment (c ∷ x) ≡ ends_block false x
asterisk_next c s a x = both (is_solidus c) (is_asterisk c) (list_all is_within_line x) (ends_block false x) s a
  where
    both : (solidus asterisk x y : Bool) → solidus ≡ false → asterisk ≡ true → cond solidus x (asterisk && y) ≡ y
    both false true x y s a = refl
    both true asterisk x y s a = absurd cc
    both false false x y s a = absurd cc

block_end_told : (c : ℕ) (tail : List ℕ) (ended : Bool) → is_solidus c ≡ false → has_block_end false tail ≡ ended → unless (has_comment_end (c ∷ tail)) OpenComment ≡ unless ended OpenComment
block_end_told c tail ended s h = ap (λ (v : Bool). unless (v || has_block_end false tail) OpenComment) s ∙ ap (λ (v : Bool). unless v OpenComment) h

block_kind : (b c : ℕ) (bytes : List ℕ) (r : Result (List ℕ) Fault) → is_solidus c ≡ false → is_asterisk c ≡ true → BlockShows false bytes r → Shows Comment b (c ∷ bytes) (after_byte c r)
block_kind b c bytes (Ok tail) s a h = (reaches_more (ends_block false) ends_comment c bytes tail (asterisk_next c s a) h.0, block_end_told c tail true s h.1)
block_kind b c bytes (Err BadCharacter) s a h = absurd cc
block_kind b c bytes (Err OpenComment) s a h = (c ∷ h.1.0, reaches_more (ends_block false) ends_comment c bytes h.1.0 (asterisk_next c s a) h.1.1, block_end_told c h.1.0 false s h.1.2)
block_kind b c bytes (Err OpenString) s a h = absurd cc
block_kind b c bytes (Err UnknownDirective) s a h = absurd cc

is_asterisk_then : (c : ℕ) (bytes : List ℕ) → goes_on_comment (c ∷ bytes) ≡ true → is_solidus c ≡ false → is_asterisk c ≡ true
is_asterisk_then c bytes g s = ap (λ (v : Bool). v || is_asterisk c) (sym s) ∙ g

comment_shows : (b : ℕ) (bytes : List ℕ) → goes_on_comment bytes ≡ true → Shows Comment b bytes (comment_front bytes)
comment_shows b [] g = absurd cc
comment_shows b (c ∷ bytes) g =
    cond_both (is_solidus c) _ _ (λ (r : Result (List ℕ) Fault). Shows Comment b (c ∷ bytes) (after_byte c r)) (λ s. line_shows b c bytes s)
    (λ s. block_kind b c bytes (block_front false bytes) s (is_asterisk_then c bytes g s) (block_shows false bytes))

-- ---- symbols

-- a symbol after its first byte is some of the next two bytes
symbol_part : (b : ℕ) (bytes other following : List ℕ) → bytes ≡ other ++ following → is_symbol (b ∷ other) ≡ true → (length other ≤ 2) × (length other ≤ length bytes) × (take (length other) bytes ≡ other)
symbol_part b bytes other following e h = (
  omega (arith, symbol_short (b ∷ other) h),
  omega (arith, ap length e, length-append other following),
  ap (take (length other)) e ∙ take-append_seam other following,
)

-- it has not this many bytes, where these are no symbol
no_symbol : (b n : ℕ) (bytes other following : List ℕ) → bytes ≡ other ++ following → is_symbol (b ∷ other) ≡ true → is_symbol (b ∷ take n bytes) ≡ false → length other ≡ n → ⊥
no_symbol b n bytes other following e h refused l =
    let part = symbol_part b bytes other following e h in
    let same : take n bytes ≡ other = ap (λ (k : ℕ). take k bytes) (sym l) ∙ part.2 in
    let both : true ≡ false = sym h ∙ ap (λ (x : List ℕ). is_symbol (b ∷ x)) (sym same) ∙ refused in
    absurd cc

symbol_taken : (b n : ℕ) (bytes : List ℕ) → is_symbol (b ∷ take n bytes) ≡ true → ((other following : List ℕ) → bytes ≡ other ++ following → is_symbol (b ∷ other) ≡ true → length other ≤ n) → Reaches (ends Operator b) bytes (take n bytes)
symbol_taken b n bytes h no_more = record {
  rest = drop n bytes;
  splits = sym (take-append-drop n bytes);
  passes = h;
  longest = λ other following e passes.
      let part = symbol_part b bytes other following e passes in
      let least = no_more other following e passes in
      omega (arith, length-take n bytes, part.1);
}

two_or_less : (n : ℕ) → n ≤ 2 → (n ≡ 2 → ⊥) → n ≤ 1
two_or_less n l never = grind arith

one_or_less : (n : ℕ) → n ≤ 1 → (n ≡ 1 → ⊥) → n ≤ 0
one_or_less n l never = grind arith

symbol_shows : (b : ℕ) (bytes : List ℕ) → is_symbol (b ∷ []) ≡ true → Reaches (ends Operator b) bytes (symbol_front b bytes)
symbol_shows b bytes alone =
    let P : List ℕ → Type 0 = Reaches (ends Operator b) bytes in
    let less : is_symbol (b ∷ take 2 bytes) ≡ false → (other following : List ℕ) → bytes ≡ other ++ following → is_symbol (b ∷ other) ≡ true → length other ≤ 1 =
    λ two other following e h. two_or_less (length other) (symbol_part b bytes other following e h).0 (no_symbol b 2 bytes other following e h two) in
    cond_both (is_symbol (b ∷ take 2 bytes)) _ _ P (λ two. symbol_taken b 2 bytes two (λ other following e h. (symbol_part b bytes other following e h).0))
    (λ two. cond_both (is_symbol (b ∷ take 1 bytes)) _ _ P (λ one. symbol_taken b 1 bytes one (less two))
    (λ one. symbol_taken b 0 bytes alone (λ other following e h. one_or_less (length other) (less two other following e h) (no_symbol b 1 bytes other following e h one))))

-- ---- names, and base parts

no_run : (bytes tail rest : List ℕ) → run_front begins_name goes_on_name bytes ≡ None → bytes ≡ tail ++ rest → is_word tail ≡ true → ⊥
no_run bytes tail rest e splits h =
    let f = run_found begins_name goes_on_name tail rest h in
    let both : None ≡ Some f.0 = sym e ∙ ap (run_front begins_name goes_on_name) splits ∙ f.1 in
    absurd cc

system_shows : (b : ℕ) (bytes : List ℕ) (found : Option (List ℕ)) → run_front begins_name goes_on_name bytes ≡ found → Shows SystemWord b bytes (or_bad found)
system_shows b bytes None e = λ tail rest splits h. no_run bytes tail rest e splits h
system_shows b bytes (Some tail) e = (reaches_run_front begins_name goes_on_name bytes tail e, refl)

known_shows : (b : ℕ) (bytes name : List ℕ) (test : Bool) → is_known (b ∷ name) ≡ test → Reaches is_word bytes name → Shows Directive b bytes (cond test (Ok name) (Err UnknownDirective))
known_shows b bytes name true e h = (h, ap (λ (v : Bool). unless v UnknownDirective) e)
known_shows b bytes name false e h = (name, h, ap (λ (v : Bool). unless v UnknownDirective) e)

directive_shows : (b : ℕ) (bytes : List ℕ) (found : Option (List ℕ)) → b ≡ 96 → run_front begins_name goes_on_name bytes ≡ found → Shows Directive b bytes (known_directive found)
directive_shows b bytes None accent e = λ tail rest splits h. no_run bytes tail rest e splits h
directive_shows b bytes (Some name) accent e =
    known_shows b bytes name (is_known_name name) (ap (λ (x : ℕ). is_known (x ∷ name)) accent) (reaches_run_front begins_name goes_on_name bytes name e)

base_shows : (b : ℕ) (bytes : List ℕ) (r : Result (List ℕ) Fault) → base_front bytes ≡ r → Shows BasePart b bytes r
base_shows b bytes (Ok tail) e = (reaches_base bytes tail e, refl)
base_shows b bytes (Err BadCharacter) e = λ tail rest splits h.
    let f = base_there tail rest h in
    let both : ◌≡◌ {A = Result (List ℕ) Fault} (Err BadCharacter) (Ok f.0) = sym e ∙ ap base_front splits ∙ f.1 in
    absurd cc
base_shows b bytes (Err OpenComment) e = let other = base_fault bytes OpenComment e in absurd cc
base_shows b bytes (Err OpenString) e = let other = base_fault bytes OpenString e in absurd cc
base_shows b bytes (Err UnknownDirective) e = let other = base_fault bytes UnknownDirective e in absurd cc

-- ---- all kinds

pub shows : (kind : PieceKind) (b : ℕ) (bytes : List ℕ) → kind_in_front b bytes ≡ Some kind → Shows kind b bytes (front_of kind b bytes)
shows WhiteSpace b bytes k = (reaches_run is_space bytes, refl)
shows Comment b bytes k = comment_shows b bytes (comment_goes_on b bytes k)
shows Word b bytes k = (reaches_run goes_on_name bytes, refl)
shows SystemWord b bytes k = system_shows b bytes (run_front begins_name goes_on_name bytes) refl
shows Number b bytes k = (reaches_run goes_on_number bytes, refl)
shows BasePart b bytes k = base_shows b bytes (base_front bytes) refl
shows Quoted b bytes k = string_kind b bytes (string_front false bytes) (string_shows false bytes)
shows Operator b bytes k = (symbol_shows b bytes (begins-from b bytes Operator k), refl)
shows Directive b bytes k = directive_shows b bytes (run_front begins_name goes_on_name bytes) (eqb-true b 96 (begins-from b bytes Directive k)) refl
