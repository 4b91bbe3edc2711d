-- The handles of a list that are not freed.
use Rattle.std.proofs.Common.{◌≡◌, ◌∙◌, ℕ, zero, suc, ◌+◌, ◌<◌, ◌≤◌, ◌≢◌, List, [], ◌∷◌, ◌++◌, length, map, get_or, set, take, Option, Some, None, Result, Ok, Err, IfOk, IfErr, refl, sym, ap, subst, arith}
use Rattle.std.specs.List.{remove, list_all}
use Rattle.std.specs.List.Sorted.{IsSearchInRange, IsBinarySearchResult, IsNonDecreasingBy}
use Rattle.std.specs.Option.{option_flatten}
use Rattle.std.specs.Ordering.{nat_cmp, ordering_index}
use Rattle.std.specs.Prelude.{◌&&◌, cond, count_by, is_some, nat_lt, slice_get}
use Rattle.std.proofs.lemmas.Bool.Decides.{nat_tests}
use Rattle.std.proofs.lemmas.Cmp.{ranked}
use Rattle.std.proofs.lemmas.List.{append-nil, length-append, length-map, length-set, length-take-le, take_more}
use Rattle.std.proofs.lemmas.List.FromFn.{fill_by_all, length-map-range_with_len}
use Rattle.std.proofs.lemmas.List.Sorted.{IsNonDecreasingBy-from_default}
use Rattle.std.proofs.lemmas.List.Sums.{sum_by-cons}
use Rattle.vp_elab.specs.declared.object.ObjectId.{ObjectId}
use Rattle.vp_vpi.specs.declared.session.handle_table.OpenHandle.{OpenHandle}
use Rattle.vp_vpi.specs.Renumbered.{is_handle_within, moved_handle}
use Rattle.vp_vpi.specs.HandleTables.{IsPlaceOf, handles_of, moved_open, is_open_within, object_in, opened_from}

abbrev pub Handles : Type 0
Handles = List (Option ObjectId)

-- none of them has an index below that of the first of the list
at_least : (xs : Handles) (from j : ℕ) (d : OpenHandle) → j < length (opened_from from xs) → from ≤ (get_or (opened_from from xs) j d).index
at_least [] from j d within = absurd (omega (arith, within))
at_least (None ∷ xs) from j d within = let more = at_least xs (suc from) j d within in omega (arith, more)
at_least (Some o ∷ xs) from zero d within = omega arith
at_least (Some o ∷ xs) from (suc j) d within = let more = at_least xs (suc from) j d (omega (arith, within)) in omega (arith, more)

-- their indexes rise
rises : (xs : Handles) (from i j : ℕ) (d : OpenHandle) → i < j → j < length (opened_from from xs) → (get_or (opened_from from xs) i d).index < (get_or (opened_from from xs) j d).index
rises [] from i j d less within = absurd (omega (arith, within))
rises (None ∷ xs) from i j d less within = rises xs (suc from) i j d less within
rises (Some o ∷ xs) from i zero d less within = absurd (omega (arith, less))
rises (Some o ∷ xs) from zero (suc j) d less within = let more = at_least xs (suc from) j d (omega (arith, within)) in omega (arith, more)
rises (Some o ∷ xs) from (suc i) (suc j) d less within = rises xs (suc from) i j d (omega (arith, less)) (omega (arith, within))

-- no handle has an index that none of them has
absent : (hs : List OpenHandle) (index : ℕ) (d : OpenHandle) → ((j : ℕ) → j < length hs → (get_or hs j d).index ≢ index) → object_in hs index ≡ None
absent [] index d other = refl
absent (h ∷ hs) index d other = grind (arith, nat_tests, other 0 (omega arith), absent hs index d (λ j within. other (suc j) (omega (arith, within))))

-- the object of a handle that is found
pub object_found : (xs : Handles) (from place : ℕ) (d : OpenHandle) → place < length (opened_from from xs) → object_in (opened_from from xs) (get_or (opened_from from xs) place d).index ≡ Some (get_or (opened_from from xs) place d).object
object_found [] from place d within = absurd (omega (arith, within))
object_found (None ∷ xs) from place d within = object_found xs (suc from) place d within
object_found (Some o ∷ xs) from zero d within = grind (arith, nat_tests)
object_found (Some o ∷ xs) from (suc place) d within = grind (arith, nat_tests, at_least xs (suc from) place d (omega (arith, within)), object_found xs (suc from) place d (omega (arith, within)))

-- the object at an index of a list is that of the handle with that index
pub object_at : (xs : Handles) (from i index : ℕ) → from + i ≡ index → object_in (opened_from from xs) index ≡ option_flatten (slice_get xs i)
object_at [] from i index e = refl
object_at (None ∷ xs) from zero index e = absent (opened_from (suc from) xs) index (record { index = 0; object = record { 0 = 0 } }) (λ j within same. let more = at_least xs (suc from) j (record { index = 0; object = record { 0 = 0 } }) within in omega (arith, more, same, e))
object_at (None ∷ xs) from (suc i) index e = object_at xs (suc from) i index (omega (arith, e))
object_at (Some o ∷ xs) from zero index e = grind (arith, nat_tests)
object_at (Some o ∷ xs) from (suc i) index e = grind (arith, nat_tests, object_at xs (suc from) i index (omega (arith, e)))

-- what is at an index, and none past the end
flat_at : (xs : Handles) (i : ℕ) → get_or xs i None ≡ option_flatten (slice_get xs i)
flat_at [] i = refl
flat_at (None ∷ xs) zero = refl
flat_at (Some o ∷ xs) zero = refl
flat_at (x ∷ xs) (suc i) = flat_at xs i

-- the list has them back
pub list_is : (xs : Handles) → handles_of (length xs) (opened_from 0 xs) ≡ xs
list_is xs = sym (fill_by_all (object_in (opened_from 0 xs)) xs (length xs) None refl (λ k within. flat_at xs k ∙ sym (object_at xs 0 k k (omega arith))))

-- of a list and one after it
pub opened_append : (xs ys : Handles) (from n : ℕ) → from + length xs ≡ n → opened_from from (xs ++ ys) ≡ opened_from from xs ++ opened_from n ys
opened_append [] ys from n e = ap (λ i. opened_from i ys) (let same : from ≡ n = omega (arith, e) in same)
opened_append (None ∷ xs) ys from n e = opened_append xs ys (suc from) n (omega (arith, e))
opened_append (Some o ∷ xs) ys from n e = ap (λ hs. record { index = from; object = o } ∷ hs) (opened_append xs ys (suc from) n (omega (arith, e)))

-- how many they are
pub opened_count : (xs : Handles) (from : ℕ) → length (opened_from from xs) ≡ count_by is_some xs
opened_count [] from = refl
opened_count (None ∷ xs) from = let more = opened_count xs (suc from) in let here = sum_by-cons (λ (h : Option ObjectId). cond (is_some h) 1 0) None xs in omega (arith, more, here)
opened_count (Some o ∷ xs) from = let more = opened_count xs (suc from) in let here = sum_by-cons (λ (h : Option ObjectId). cond (is_some h) 1 0) (Some o) xs in omega (arith, more, here)

-- their objects are among so many where those of the list are
pub opened_within : (count : ℕ) (xs : Handles) (from : ℕ) → list_all (is_open_within count) (opened_from from xs) ≡ list_all (is_handle_within count) xs
opened_within count [] from = refl
opened_within count (None ∷ xs) from = opened_within count xs (suc from)
opened_within count (Some o ∷ xs) from = ap (λ b. nat_lt o.0 count && b) (opened_within count xs (suc from))

-- their objects have other numbers where those of the list do
pub opened_map : (f : ℕ → ℕ) (xs : Handles) (from : ℕ) → map (moved_open f) (opened_from from xs) ≡ opened_from from (map (moved_handle f) xs)
opened_map f [] from = refl
opened_map f (None ∷ xs) from = opened_map f xs (suc from)
opened_map f (Some o ∷ xs) from = ap (λ hs. record { index = from; object = record { 0 = f o.0 } } ∷ hs) (opened_map f xs (suc from))

-- without one of them, where the list has none at its index
pub opened_remove : (xs : Handles) (from i place : ℕ) (d : OpenHandle) → place < length (opened_from from xs) → (get_or (opened_from from xs) place d).index ≡ from + i → remove (opened_from from xs) place ≡ opened_from from (set xs i None)
opened_remove [] from i place d within here = absurd (omega (arith, within))
opened_remove (None ∷ xs) from zero place d within here = let more = at_least xs (suc from) place d within in absurd (omega (arith, more, here))
opened_remove (None ∷ xs) from (suc i) place d within here = opened_remove xs (suc from) i place d within (omega (arith, here))
opened_remove (Some o ∷ xs) from zero zero d within here = refl
opened_remove (Some o ∷ xs) from (suc i) zero d within here = absurd (omega (arith, here))
opened_remove (Some o ∷ xs) from zero (suc place) d within here = let more = at_least xs (suc from) place d (omega (arith, within)) in absurd (omega (arith, more, here))
opened_remove (Some o ∷ xs) from (suc i) (suc place) d within here = ap (λ hs. record { index = from; object = o } ∷ hs) (opened_remove xs (suc from) i place d (omega (arith, within)) (omega (arith, here)))

-- nothing is freed where no handle is
pub set_none : (xs : Handles) (i : ℕ) → option_flatten (slice_get xs i) ≡ None → set xs i None ≡ xs
set_none [] i h = refl
set_none (Some o ∷ xs) zero h = absurd (grind (arith, h))
set_none (None ∷ xs) zero h = refl
set_none (x ∷ xs) (suc i) h = ap (λ ys. x ∷ ys) (set_none xs i h)

-- the comparisons with an index rise, as a binary search asks
comparisons_rise : (xs : Handles) (index : ℕ) → IsNonDecreasingBy (λ h. ordering_index (nat_cmp h.index index)) (opened_from 0 xs)
comparisons_rise xs index =
    let hs = opened_from 0 xs in
    let d : OpenHandle = record { index = 0; object = record { 0 = 0 } } in
    IsNonDecreasingBy-from_default (λ h. ordering_index (nat_cmp h.index index)) hs d (λ i j le within.
    let up : (get_or hs i d).index ≤ (get_or hs j d).index = grind (arith, rises xs 0 i j d, λ (same : i ≡ j). ap (λ k. (get_or hs k d).index) same) in
    grind (arith, nat_tests))

-- a binary search by index ends at the handle, or where none is
searched_in : (xs : Handles) (index : ℕ) (r : Result ℕ ℕ) → IsSearchInRange r (length (opened_from 0 xs)) → IsBinarySearchResult (λ h. nat_cmp h.index index) (opened_from 0 xs) r → record { found : IfOk r (IsPlaceOf (opened_from 0 xs) index); absent : IfErr r (λ _. option_flatten (slice_get xs index) ≡ None) }
searched_in xs index (Ok place) in_range equal = record { found = record { in_range = in_range; has_index = λ d. ranked _ index _ (sym (equal d)) }; absent = tt }
searched_in xs index (Err place) in_range parted =
    let d : OpenHandle = record { index = 0; object = record { 0 = 0 } } in
    let hs = opened_from 0 xs in
    let below : (j : ℕ) → j < place → (get_or hs j d).index < index = λ j less. ranked _ index _ (sym ((parted (comparisons_rise xs index)).0 j d (omega (arith, less, in_range)) less)) in
    let above : (j : ℕ) → place ≤ j → j < length hs → index < (get_or hs j d).index = λ j le less. ranked _ index _ (sym ((parted (comparisons_rise xs index)).1 j d le less)) in
    record {
      found = tt;
      absent = sym (object_at xs 0 index index (omega arith)) ∙ absent hs index d (λ j within same. grind (arith, below j, above j));
    }

-- the same of a table's handles
pub searched : (hs : List OpenHandle) (xs : Handles) → hs ≡ opened_from 0 xs → (index : ℕ) (r : Result ℕ ℕ) → IsSearchInRange r (length hs) → IsBinarySearchResult (λ h. nat_cmp h.index index) hs r → record { found : IfOk r (IsPlaceOf (opened_from 0 xs) index); absent : IfErr r (λ _. option_flatten (slice_get xs index) ≡ None) }
searched hs xs same index r in_range by_index = searched_in xs index r (subst (λ (ys : List OpenHandle). IsSearchInRange r (length ys)) same in_range) (subst (λ (ys : List OpenHandle). IsBinarySearchResult (λ h. nat_cmp h.index index) ys r) same by_index)

-- a table is that of a list of handles
pub record IsTableOf (made : ℕ) (hs : List OpenHandle) (xs : Handles) : Type 0 where
  pub opened : hs ≡ opened_from 0 xs
  pub counted : made ≡ length xs

-- each is that of the list that a contract sees
pub is_table : (made : ℕ) (hs : List OpenHandle) (xs : Handles) → hs ≡ opened_from 0 (handles_of made hs) → handles_of made hs ≡ xs → IsTableOf made hs xs
is_table made hs xs kept seen = record {
  opened = kept ∙ ap (opened_from 0) seen;
  counted = sym (length-map-range_with_len (object_in hs) 0 made) ∙ ap (λ (ys : Handles). length ys) seen;
}

-- which is then what a contract sees
pub shown : {made : ℕ} {hs : List OpenHandle} {xs : Handles} → IsTableOf made hs xs → handles_of made hs ≡ xs
shown {made} {hs} {xs} t = ap (handles_of made) t.opened ∙ (ap (λ n. handles_of n (opened_from 0 xs)) t.counted ∙ list_is xs)

-- and keeps the invariant
pub kept : {made : ℕ} {hs : List OpenHandle} {xs : Handles} → IsTableOf made hs xs → hs ≡ opened_from 0 (handles_of made hs)
kept t = t.opened ∙ ap (opened_from 0) (sym (shown t))

-- with handles more
pub IsTableOf-add : {made : ℕ} {hs : List OpenHandle} {xs : Handles} → IsTableOf made hs xs → (more : Handles) (new : List OpenHandle) → new ≡ hs ++ opened_from made more → IsTableOf (made + length more) new (xs ++ more)
IsTableOf-add {made} {hs} {xs} t more new e = record {
  opened = e ∙ (ap (λ ys. ys ++ opened_from made more) t.opened ∙ sym (opened_append xs more 0 made (omega (arith, t.counted))));
  counted = let long = length-append xs more in omega (arith, long, t.counted);
}

-- without one
pub IsTableOf-remove : {made : ℕ} {hs : List OpenHandle} {xs : Handles} → IsTableOf made hs xs → (index place : ℕ) → IsPlaceOf (opened_from 0 xs) index place → (new : List OpenHandle) → new ≡ remove hs place → IsTableOf made new (set xs index None)
IsTableOf-remove {made} {hs} {xs} t index place found new e = record {
  opened = e ∙ (ap (λ ys. remove ys place) t.opened ∙ opened_remove xs 0 index place (record { index = 0; object = record { 0 = 0 } }) found.in_range (found.has_index (record { index = 0; object = record { 0 = 0 } }) ∙ (let here : index ≡ 0 + index = omega arith in here)));
  counted = t.counted ∙ sym (length-set xs index None);
}

-- with other numbers of objects
pub IsTableOf-map : {made : ℕ} {hs : List OpenHandle} {xs : Handles} → IsTableOf made hs xs → (f : ℕ → ℕ) (new : List OpenHandle) → new ≡ map (moved_open f) hs → IsTableOf made new (map (moved_handle f) xs)
IsTableOf-map {made} {hs} {xs} t f new e = record {
  opened = e ∙ (ap (map (moved_open f)) t.opened ∙ opened_map f xs 0);
  counted = t.counted ∙ sym (length-map xs (moved_handle f));
}

-- the handle at a place that was found, as it is read
pub object_read : (xs : Handles) (index place : ℕ) → IsPlaceOf (opened_from 0 xs) index place → (h : OpenHandle) → h ≡ get_or (opened_from 0 xs) place h → Some h.object ≡ option_flatten (slice_get xs index)
object_read xs index place found h read =
    ap (λ (k : OpenHandle). Some k.object) read
    ∙ (sym (object_found xs 0 place h found.in_range)
    ∙ (ap (object_in (opened_from 0 xs)) (found.has_index h)
    ∙ object_at xs 0 index index (omega arith)))

-- of the first of a list, and of one more
opened_more : (xs : Handles) (from place : ℕ) → place < length xs → opened_from from (take (place + 1) xs) ≡ opened_from from (take place xs) ++ opened_from (from + place) (get_or xs place None ∷ [])
opened_more xs from place within = ap (opened_from from) (take_more xs place None within) ∙ opened_append (take place xs) (get_or xs place None ∷ []) from (from + place) (let long = length-take-le place xs (omega (arith, within)) in omega (arith, long))

-- that is not freed
pub opened_push : (xs : Handles) (from place : ℕ) (o : ObjectId) → place < length xs → get_or xs place None ≡ Some o → opened_from from (take (place + 1) xs) ≡ opened_from from (take place xs) ++ record { index = from + place; object = o } ∷ []
opened_push xs from place o within e = opened_more xs from place within ∙ ap (λ h. opened_from from (take place xs) ++ opened_from (from + place) (h ∷ [])) e

-- that was freed
pub opened_skip : (xs : Handles) (from place : ℕ) → place < length xs → get_or xs place None ≡ None → opened_from from (take (place + 1) xs) ≡ opened_from from (take place xs)
opened_skip xs from place within e = opened_more xs from place within ∙ (ap (λ h. opened_from from (take place xs) ++ opened_from (from + place) (h ∷ [])) e ∙ append-nil (opened_from from (take place xs)))

-- what is no object is none
pub none_else : {A : Type 0} (o : Option A) → ((x : A) → o ≡ Some x → ⊥) → o ≡ None
none_else None h = refl
none_else (Some x) h = absurd (h x refl)
