-- What stands at the front of a list of bytes, ends as it should, and is the longest that does.
use Rattle.std.proofs.Common.{◌≡◌, ℕ, ◌≤◌, Bool, true, false, cond, List, [], ◌∷◌, ◌++◌, length, drop, refl, sym, ◌∙◌, ap, arith}
use Rattle.std.specs.List.{prefix_len, list_all, take_while}
use Rattle.std.proofs.lemmas.Bool.{and_parts, and_from}
use Rattle.std.proofs.lemmas.List.{take-append-drop}
use Rattle.std.proofs.lemmas.List.Sums.{take_while-cons}
use Rattle.vp_lex.specs.Pieces.{is_run, is_empty}

-- the tail is at the front of the bytes, passes a test, and no longer front of them does
pub record Reaches (test : List ℕ → Bool) (bytes tail : List ℕ) : Type 0 where
  pub rest : List ℕ
  pub splits : bytes ≡ tail ++ rest
  pub passes : test tail ≡ true
  pub longest : (other following : List ℕ) → bytes ≡ other ++ following → test other ≡ true → length other ≤ length tail

-- ---- one more byte

longest_more : (test more : List ℕ → Bool) (byte : ℕ) (bytes tail : List ℕ) → ((x : List ℕ) → more (byte ∷ x) ≡ test x) → Reaches test bytes tail → (other following : List ℕ) → byte ∷ bytes ≡ other ++ following → more other ≡ true → length other ≤ length (byte ∷ tail)
longest_more test more byte bytes tail same h [] following e passes = omega arith
longest_more test more byte bytes tail same h (b ∷ other) following e passes =
    let first : byte ≡ b = cc in
    let others : bytes ≡ other ++ following = cc in
    let passed : more (byte ∷ other) ≡ true = rw first passes in
    let le = h.longest other following others (sym (same other) ∙ passed) in
    omega arith

-- a byte in front, where the longer test is the shorter one after it
pub reaches_more : (test more : List ℕ → Bool) (byte : ℕ) (bytes tail : List ℕ) → ((x : List ℕ) → more (byte ∷ x) ≡ test x) → Reaches test bytes tail → Reaches more (byte ∷ bytes) (byte ∷ tail)
reaches_more test more byte bytes tail same h = record {
  rest = h.rest;
  splits = ap (λ (x : List ℕ). byte ∷ x) h.splits;
  passes = same tail ∙ h.passes;
  longest = longest_more test more byte bytes tail same h;
}

-- ---- nothing

empty_no_longer : (bytes other following : List ℕ) → bytes ≡ other ++ following → is_empty other ≡ true → length other ≤ 0
empty_no_longer bytes [] following e h = omega arith
empty_no_longer bytes (b ∷ other) following e h = absurd cc

pub reaches_nothing : (bytes : List ℕ) → Reaches is_empty bytes []
reaches_nothing bytes = record { rest = bytes; splits = refl; passes = refl; longest = empty_no_longer bytes }

-- ---- runs

-- each byte of a run is of its class
pub all_taken : (p : ℕ → Bool) (bytes : List ℕ) → list_all p (take_while p bytes) ≡ true
all_taken p [] = refl
all_taken p (b ∷ bytes) =
    let at : (c : Bool) → p b ≡ c → list_all p (cond c (b ∷ take_while p bytes) []) ≡ true =
    λ c. elim c as (λ c. p b ≡ c → list_all p (cond c (b ∷ take_while p bytes) []) ≡ true) [ true ↦ (λ e. and_from (p b) (list_all p (take_while p bytes)) e (all_taken p bytes)) | false ↦ (λ e. refl) ] in
    rw (take_while-cons p b bytes) (at (p b) refl)

run_no_longer : (p : ℕ → Bool) (other following : List ℕ) → list_all p other ≡ true → length other ≤ length (take_while p (other ++ following))
run_no_longer p [] following h = omega arith
run_no_longer p (b ∷ other) following h =
    let parts = and_parts (p b) (list_all p other) h in
    let e : p b ≡ true = parts.0 in
    let le = run_no_longer p other following parts.1 in
    rw (take_while-cons p b (other ++ following), e) (omega arith)

-- the longest run of bytes of a class
pub reaches_run : (p : ℕ → Bool) (bytes : List ℕ) → Reaches (list_all p) bytes (take_while p bytes)
reaches_run p bytes = record {
  rest = drop (prefix_len p bytes) bytes;
  splits = sym (take-append-drop (prefix_len p bytes) bytes);
  passes = all_taken p bytes;
  longest = λ other following e h. rw e (run_no_longer p other following h);
}

is_run-at : (begins goes_on : ℕ → Bool) (b : ℕ) → begins b ≡ true → (x : List ℕ) → is_run begins goes_on (b ∷ x) ≡ list_all goes_on x
is_run-at begins goes_on b e x = rw e refl

-- the longest run that begins with a byte that may begin one
pub reaches_begun : (begins goes_on : ℕ → Bool) (b : ℕ) (bytes : List ℕ) → begins b ≡ true → Reaches (is_run begins goes_on) (b ∷ bytes) (b ∷ take_while goes_on bytes)
reaches_begun begins goes_on b bytes e =
    reaches_more (list_all goes_on) (is_run begins goes_on) b bytes (take_while goes_on bytes) (is_run-at begins goes_on b e) (reaches_run goes_on bytes)
