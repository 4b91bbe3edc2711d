-- Notices that are looked at one by one: what comes of the first goes after the others, or it goes.
use Rattle.std.proofs.Common.{◌≡◌, ◌∙◌, ℕ, zero, suc, ◌+◌, ◌-◌, ◌≤◌, ◌<◌, Bool, true, false, List, [], ◌∷◌, ◌++◌, length, filter, drop, map, Option, Some, None, refl, sym, ap, subst, arith, append_assoc, append-nil}
use Rattle.std.specs.Prelude.{cond, if◌then◌else◌, slice_get}
use Rattle.std.specs.List.{cons_option, filter_map}
use Rattle.circular_buffer.specs.Buffer.{Buffer, buffer, keep_last}
use Rattle.std.proofs.lemmas.List.{length-append, length-drop}
use Rattle.vp_notify.specs.declared.notice.Notice.{Notice}

-- of the notices that waited, so many are left to be looked at, and after them stand those that were kept
pub record IsRetiring (each : Notice → Option Notice) (before now : List Notice) (count : ℕ) : Type 0 where
  pub left : List Notice
  pub kept : List Notice
  pub split : now ≡ left ++ kept
  pub long : length left ≡ count
  pub same : kept ++ filter_map each left ≡ filter_map each before

-- none was looked at
pub begun : (each : Notice → Option Notice) (before : List Notice) → IsRetiring each before before (length before)
begun each before = record { left = before; kept = []; split = sym (append-nil before); long = refl; same = refl }

-- all were looked at
ended_by : (each : Notice → Option Notice) (before now left kept : List Notice) → now ≡ left ++ kept → length left ≡ 0 → kept ++ filter_map each left ≡ filter_map each before → now ≡ filter_map each before
ended_by each before now [] kept split long same = split ∙ sym (append-nil kept) ∙ same
ended_by each before now (n ∷ left) kept split long same = absurd (omega arith)

pub ended : (each : Notice → Option Notice) (before now : List Notice) (count : ℕ) → count ≡ 0 → IsRetiring each before now count → now ≡ filter_map each before
ended each before now count none r = ended_by each before now r.left r.kept r.split (r.long ∙ none) r.same

filter_some : (each : Notice → Option Notice) (n m : Notice) (left : List Notice) → each n ≡ Some m → filter_map each (n ∷ left) ≡ m ∷ filter_map each left
filter_some each n m left h = ap (λ x. cons_option x (filter_map each left)) h

filter_none : (each : Notice → Option Notice) (n : Notice) (left : List Notice) → each n ≡ None → filter_map each (n ∷ left) ≡ filter_map each left
filter_none each n left h = ap (λ x. cons_option x (filter_map each left)) h

-- the first that is left goes
gone_by : (each : Notice → Option Notice) (before now left kept : List Notice) (count : ℕ) (n : Notice) → now ≡ left ++ kept → length left ≡ suc count → kept ++ filter_map each left ≡ filter_map each before
    → slice_get now 0 ≡ Some n → each n ≡ None → IsRetiring each before (drop 1 now) count
gone_by each before now [] kept count n split long same first h = absurd (omega arith)
gone_by each before now (m ∷ left) kept count n split long same first h =
    let is : m ≡ n = (let e : Some m ≡ Some n = ap (λ ns. slice_get ns 0) (sym split) ∙ first in cc) in
    record {
      left = left;
      kept = kept;
      split = ap (drop 1) split;
      long = omega arith;
      same = ap (λ ns. kept ++ ns) (sym (filter_none each m left (ap each is ∙ h))) ∙ same;
    }

pub gone : (each : Notice → Option Notice) (before now : List Notice) (count next : ℕ) (n : Notice) → count ≡ suc next → IsRetiring each before now count → slice_get now 0 ≡ Some n → each n ≡ None → IsRetiring each before (drop 1 now) next
gone each before now count next n one r first h = gone_by each before now r.left r.kept next n r.split (r.long ∙ one) r.same first h

-- the first that is left goes after the others
turned_by : (each : Notice → Option Notice) (before now left kept : List Notice) (count : ℕ) (n new : Notice) → now ≡ left ++ kept → length left ≡ suc count → kept ++ filter_map each left ≡ filter_map each before
    → slice_get now 0 ≡ Some n → each n ≡ Some new → IsRetiring each before (drop 1 now ++ new ∷ []) count
turned_by each before now [] kept count n new split long same first h = absurd (omega arith)
turned_by each before now (m ∷ left) kept count n new split long same first h =
    let is : m ≡ n = (let e : Some m ≡ Some n = ap (λ ns. slice_get ns 0) (sym split) ∙ first in cc) in
    record {
      left = left;
      kept = kept ++ new ∷ [];
      split = ap (λ ns. drop 1 ns ++ new ∷ []) split ∙ append_assoc left kept (new ∷ []);
      long = omega arith;
      same =
          append_assoc kept (new ∷ []) (filter_map each left)
          ∙ ap (λ ns. kept ++ ns) (sym (filter_some each m new left (ap each is ∙ h)))
          ∙ same;
    }

pub turned : (each : Notice → Option Notice) (before now : List Notice) (count next : ℕ) (n new : Notice) → count ≡ suc next → IsRetiring each before now count → slice_get now 0 ≡ Some n → each n ≡ Some new → IsRetiring each before (drop 1 now ++ new ∷ []) next
turned each before now count next n new one r first h = turned_by each before now r.left r.kept next n new r.split (r.long ∙ one) r.same first h

-- while some are left, one is first
there_by : (now left kept : List Notice) (count : ℕ) → now ≡ left ++ kept → length left ≡ suc count → slice_get now 0 ≡ None → ⊥
there_by now [] kept count split long none = omega arith
there_by now (n ∷ left) kept count split long none = let e : Some n ≡ None = ap (λ ns. slice_get ns 0) (sym split) ∙ none in cc

pub there : (each : Notice → Option Notice) (before now : List Notice) (count next : ℕ) → count ≡ suc next → IsRetiring each before now count → slice_get now 0 ≡ None → ⊥
there each before now count next one r none = there_by now r.left r.kept next r.split (r.long ∙ one) none

-- what there is room for is kept whole
kept_whole : (capacity : ℕ) (ns : List Notice) → length ns ≤ capacity → keep_last capacity ns ≡ ns
kept_whole capacity ns fits = let none : length ns - capacity ≡ 0 = omega arith in ap (λ n. drop n ns) none

-- a ring of notices of which so many are left to be looked at
pub record Retires (each : Notice → Option Notice) (before now : Buffer Notice) (count : ℕ) : Type 0 where
  pub retiring : IsRetiring each before.items now.items count
  pub capacity : now.capacity ≡ before.capacity
  pub room : length now.items ≤ now.capacity

some_there : (ns : List Notice) (n : Notice) → slice_get ns 0 ≡ Some n → 0 < length ns
some_there [] n h = absurd (let no : None ≡ Some n = h in cc)
some_there (m ∷ ns) n h = omega arith

-- the first is looked at, and goes
pub goes : (each : Notice → Option Notice) (before now popped : Buffer Notice) (count next : ℕ) (n : Notice) → count ≡ suc next → Retires each before now count → slice_get now.items 0 ≡ Some n
    → popped ≡ buffer (drop 1 now.items) now.capacity → each n ≡ None → Retires each before popped next
goes each before now popped count next n one r first is h =
    let shorter = length-drop 1 now.items in
    subst (λ b. Retires each before b next) (sym is)
    (record {
      retiring = gone each before.items now.items count next n one r.retiring first h;
      capacity = r.capacity;
      room = omega (arith, r.room);
    })

-- the first is looked at, and what comes of it goes after the others
pub turns : (each : Notice → Option Notice) (before now popped pushed : Buffer Notice) (count next : ℕ) (n new : Notice) → count ≡ suc next → Retires each before now count → slice_get now.items 0 ≡ Some n
    → popped ≡ buffer (drop 1 now.items) now.capacity → pushed ≡ buffer (keep_last popped.capacity (popped.items ++ new ∷ [])) popped.capacity → each n ≡ Some new → Retires each before pushed next
turns each before now popped pushed count next n new one r first is put h =
    let some = some_there now.items n first in
    let shorter = length-drop 1 now.items in
    let longer = length-append (drop 1 now.items) (new ∷ []) in
    let fits : length (drop 1 now.items ++ new ∷ []) ≤ now.capacity = omega (arith, r.room) in
    let whole = kept_whole now.capacity (drop 1 now.items ++ new ∷ []) fits in
    subst (λ b. Retires each before b next)
    (sym (put ∙ ap (λ (b : Buffer Notice). buffer (keep_last b.capacity (b.items ++ new ∷ [])) b.capacity) is ∙ ap (λ ns. buffer ns now.capacity) whole))
    (record {
      retiring = turned each before.items now.items count next n new one r.retiring first h;
      capacity = r.capacity;
      room = fits;
    })

-- ---- what comes of each

-- a notice stays, or goes
abbrev pub kept_if : Bool → Notice → Option Notice
kept_if b n = if b then Some n else None

-- by a test
abbrev pub if_kept : (keeps : Notice → Bool) → Notice → Option Notice
if_kept keeps n = kept_if (keeps n) n

-- those that stay
pub kept_are : (keeps : Notice → Bool) (ns : List Notice) → filter_map (if_kept keeps) ns ≡ filter keeps ns
kept_are keeps [] = refl
kept_are keeps (n ∷ ns) =
    let rest = kept_are keeps ns in
    elim (keeps n) as (λ b. cons_option (if b then Some n else None) (filter_map (if_kept keeps) ns) ≡ cond b (n ∷ filter keeps ns) (filter keeps ns)) [
      | true ↦ ap (λ ms. n ∷ ms) rest
      | false ↦ rest
    ]

-- all that come of all
pub all_become : (f : Notice → Notice) (ns : List Notice) → filter_map (λ n. Some (f n)) ns ≡ map f ns
all_become f [] = refl
all_become f (n ∷ ns) = ap (λ ms. f n ∷ ms) (all_become f ns)
