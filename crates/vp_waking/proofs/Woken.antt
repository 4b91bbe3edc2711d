-- The processes that a change wakes are those of the object's listeners that wait for it.
use Rattle.std.proofs.Common.{◌≡◌, ◌∙◌, ℕ, zero, suc, ◌+◌, ◌==◌, ◌<◌, ◌≤◌, ◌&&◌, ◌||◌, Bool, true, false, cond, ◌⊎◌, List, [], ◌∷◌, ◌++◌, All, Option, Some, ap, sym, subst, arith, append_assoc, length, map, filter, take, get_or, refl, inl, inr}
use Rattle.std.specs.Prelude.{slice_get}
use Rattle.std.specs.List.{AllPairs, list_any}
use Rattle.std.proofs.lemmas.List.Sums.{fold-append}
use Rattle.std.specs.Option.{option_map_or}
use Rattle.std.proofs.lemmas.Bool.{and_parts, cases_eq, cases_lt, ne_eqb, or_cases}
use Rattle.std.proofs.lemmas.List.{get_or-set_other, get_or-take, length-take-le, map-append, take_all}
use Rattle.std.proofs.lemmas.List.Elements.{All-cons, All-filter, All-head, All-tail, All-weaker, filter_more}
use Rattle.std.proofs.lemmas.Option.{slice_get_past}
use Rattle.vp_bits.specs.declared.bit.Bit.{Bit}
use Rattle.vp_elab.specs.declared.object.ObjectId.{ObjectId}
use Rattle.vp_elab.specs.Tree.{below}
use Rattle.vp_expr.specs.declared.tables.Process.{Process}
use Rattle.vp_expr.specs.declared.tables.Process.TheVariants.{Procedure, Assignment, Connection}
use Rattle.vp_expr.specs.declared.tables.Tables.{Tables}
use Rattle.vp_active_events.specs.declared.event.Event.TheVariants.{Evaluation}
use Rattle.vp_strata.specs.Queues.{Queue, with_active}
use Rattle.vp_expr.specs.declared.change.Change.{Change}
use Rattle.vp_waking.specs.declared.waiting.Waiting.{Waiting}
use Rattle.vp_waking.specs.declared.waiting.Waiting.TheVariants as wait
use Rattle.vp_waking.specs.Listening.{AreHeard, AreListeners, has, is_about, listeners_of, listens_to, may_listen}
use Rattle.vp_waking.specs.Waking.{Term, any_of, awaited_by, is_continuous, is_of, object_at, woken_state, woken_one, terms_of, wait_of, wakes, wakes_at, with_evaluations, woken_alone, woken_by}
use Rattle.vp_waking.proofs.Rising.{rise_head, rise_tail}

-- a test of what is made of things
pub any_map : {X Y : Type 0} (p : Y → Bool) (f : X → Y) (xs : List X) → list_any (λ x. p (f x)) xs ≡ list_any p (map f xs)
any_map p f [] = refl
any_map p f (x ∷ xs) = ap (λ b. p (f x) || b) (any_map p f xs)

-- ---- continuous processes

and_true : (b : Bool) → (b && true) ≡ b
and_true true = refl
and_true false = refl

any_about : (old : List Bit) (change : Change) (instance : ObjectId) (slots : List ℕ) → list_any (is_of old change) (map (any_of instance) slots) ≡ list_any (is_about change.object.0) (map (any_of instance) slots)
any_about old change instance [] = refl
any_about old change instance (s ∷ slots) =
    ap (λ b. b || list_any (is_of old change) (map (any_of instance) slots)) (and_true (object_at instance s == change.object.0))
    ∙ ap (λ b. (object_at instance s == change.object.0) || b) (any_about old change instance slots)

operands_wake_as : (tables : Tables) (old : List Bit) (change : Change) (kind : Process) → listens_to tables change.object.0 kind ≡ true → is_continuous kind ≡ list_any (is_of old change) (terms_of tables wait.Operands kind)
operands_wake_as tables old change (Procedure object instance repeats body) h = refl
operands_wake_as tables old change (Assignment object net instance value) h = sym (any_about old change instance _ ∙ h)
operands_wake_as tables old change (Connection port net) h = sym (ap (λ b. (b && true) || false) h)

-- a continuous process that listens to an object is woken by its changes
pub operands_wake : (tables : Tables) (old : List Bit) (change : Change) (w : Waiting) (process : ℕ) (kind : Process) → w ≡ wait.Operands → slice_get tables.processes process ≡ Some kind → may_listen tables change.object.0 process ≡ true → is_continuous kind ≡ wakes tables old change w process
operands_wake tables old change w process kind is at may =
    let listens : listens_to tables change.object.0 kind ≡ true =
    sym (ap (λ (o : Option Process). option_map_or (listens_to tables change.object.0) o false) at) ∙ may in
    operands_wake_as tables old change kind listens
    ∙ sym (ap (λ (v : Waiting). wakes tables old change v process) is ∙ ap (λ (o : Option Process). list_any (is_of old change) (option_map_or (terms_of tables wait.Operands) o [])) at)

-- ---- all that are woken are listeners

has_none : (ns : List ℕ) (n : ℕ) → All (λ x. n < x) ns → has ns n ≡ false
has_none [] n h = refl
has_none (x ∷ xs) n h =
    let first : n < x = All-head (λ x. n < x) x xs h in
    ap (λ b. b || has xs n) (ne_eqb x n (λ e. omega arith)) ∙ has_none xs n (All-tail (λ x. n < x) x xs h)

filter_none : (p : ℕ → Bool) (ns : List ℕ) → All (λ x. p x ≡ false) ns → filter p ns ≡ []
filter_none p [] h = refl
filter_none p (x ∷ xs) h =
    ap (λ b. cond b (x ∷ filter p xs) (filter p xs)) (All-head (λ x. p x ≡ false) x xs h) ∙ filter_none p xs (All-tail (λ x. p x ≡ false) x xs h)

bool_cases : (b : Bool) → (b ≡ true) ⊎ (b ≡ false)
bool_cases true = inl refl
bool_cases false = inr refl

not_true : (b : Bool) → (b ≡ true → ⊥) → b ≡ false
not_true true h = absurd (h refl)
not_true false h = refl

-- so many numbers from one on
abbrev upto : ℕ → ℕ → List ℕ
upto a zero = []
upto a (suc n) = a ∷ upto (suc a) n

upto_more : (a n : ℕ) → upto a n ++ (a + n) ∷ [] ≡ upto a (suc n)
upto_more a zero = let e : a + 0 ≡ a = omega arith in ap (λ k. k ∷ []) e
upto_more a (suc n) = let e : a + suc n ≡ suc a + n = omega arith in ap (λ k. a ∷ (upto (suc a) n ++ k ∷ [])) e ∙ ap (λ (l : List ℕ). a ∷ l) (upto_more (suc a) n)

below_upto : (n : ℕ) → below n ≡ upto 0 n
below_upto zero = refl
below_upto (suc n) = ap (λ (l : List ℕ). l ++ n ∷ []) (below_upto n) ∙ (let e : 0 + n ≡ n = omega arith in ap (λ k. upto 0 n ++ k ∷ []) (sym e)) ∙ upto_more 0 n

other_in : (x p : ℕ) (xs : List ℕ) → (x ≡ p → ⊥) → has (x ∷ xs) p ≡ true → has xs p ≡ true
other_in x p xs other h = sym (ap (λ b. b || has xs p) (ne_eqb x p other)) ∙ h

-- of numbers that rise, those that pass a test are those among all numbers, if all that pass stand there
complete : (p : ℕ → Bool) (n a : ℕ) (ns : List ℕ) → AllPairs (λ x y. x < y) ns → All (λ x. a ≤ x) ns → ((q : ℕ) → a ≤ q → p q ≡ true → has ns q ≡ true) → ((q : ℕ) → p q ≡ true → q < a + n) → filter p ns ≡ filter p (upto a n)
complete p zero a ns rise from there bound = filter_none p ns (λ k d w. not_true _ (λ t. let l = bound _ t in let m = from k d w in omega (arith, l, m)))
complete p (suc n) a [] rise from there bound =
    let no : p a ≡ false = not_true (p a) (λ t. let e = there a (omega arith) t in cc) in
    complete p n (suc a) [] rise (λ k d w. absurd (omega arith)) (λ q l t. there q (omega arith) t) (λ q t. let l = bound q t in omega (arith, l))
    ∙ sym (ap (λ b. cond b (a ∷ filter p (upto (suc a) n)) (filter p (upto (suc a) n))) no)
complete p (suc n) a (x ∷ xs) rise from there bound = elim (cases_eq x a) [
  | inl same ↦
      (let rest = complete p n (suc a) xs (rise_tail x xs rise) (λ k d w. let l = rise_head x xs rise k d w in omega (arith, same, l)) (λ q l t. other_in x q xs (λ e. omega (arith, e, same)) (there q (omega arith) t)) (λ q t. let l = bound q t in omega (arith, l)) in
      ap (λ (l : List ℕ). cond (p x) (x ∷ l) l) rest ∙ ap (λ y. cond (p y) (y ∷ filter p (upto (suc a) n)) (filter p (upto (suc a) n))) same)
  | inr other ↦
      (let least : a ≤ x = All-head (λ x. a ≤ x) x xs from in
      let first : a < x = omega (arith, least, other) in
      let above = All-cons (λ y. a < y) x xs first (All-weaker (λ y. x < y) (λ y. a < y) (λ y l. omega (arith, l, first)) xs (rise_head x xs rise)) in
      let no : p a ≡ false = not_true (p a) (λ t. let e = there a (omega arith) t in let f = has_none (x ∷ xs) a above in cc) in
      complete p n (suc a) (x ∷ xs) rise (λ k d w. let l = above k d w in omega (arith, l)) (λ q l t. there q (omega arith) t) (λ q t. let l = bound q t in omega (arith, l))
      ∙ sym (ap (λ b. cond b (a ∷ filter p (upto (suc a) n)) (filter p (upto (suc a) n))) no))
]

-- ---- the loop over the listeners

any_weaker : {X : Type 0} (p q : X → Bool) → ((x : X) → p x ≡ true → q x ≡ true) → (xs : List X) → list_any p xs ≡ true → list_any q xs ≡ true
any_weaker p q weaker [] h = h
any_weaker p q weaker (x ∷ xs) h = elim (or_cases (p x) (list_any p xs) h) [
  | inl here ↦ ap (λ b. b || list_any q xs) (weaker x here)
  | inr there ↦ elim (bool_cases (q x)) [
    | inl t ↦ ap (λ b. b || list_any q xs) t
    | inr f ↦ ap (λ b. b || list_any q xs) f ∙ any_weaker p q weaker xs there
  ]
]

about : (old : List Bit) (change : Change) (t : Term) → is_of old change t ≡ true → is_about change.object.0 t ≡ true
about old change t h = (and_parts (t.object == change.object.0) _ h).0

-- a process that is woken is one of the processes
woken_within : (tables : Tables) (old : List Bit) (change : Change) (waiting : List Waiting) (p : ℕ) → wakes_at tables old change waiting p ≡ true → p < length tables.processes
woken_within tables old change waiting p h = elim (cases_lt p (length tables.processes)) [
  | inl within ↦ within
  | inr past ↦
      (let e = sym h ∙ ap (λ (o : Option Process). list_any (is_of old change) (option_map_or (terms_of tables (wait_of waiting p)) o [])) (slice_get_past tables.processes p past) in
      cc)
]

-- the processes that a change wakes are those of the object's listeners that wait for it
pub woken_listeners : (tables : Tables) (lists : List (List ℕ)) (old : List Bit) (change : Change) (waiting : List Waiting) → AreListeners tables change.object.0 (listeners_of lists change.object.0) → AreHeard tables lists waiting → filter (wakes_at tables old change waiting) (listeners_of lists change.object.0) ≡ woken_by tables old change waiting
woken_listeners tables lists old change waiting fit heard =
    complete (wakes_at tables old change waiting) (length tables.processes) 0 (listeners_of lists change.object.0) fit.rise (λ k d w. omega arith) (λ q l t. heard q change.object.0 (any_weaker (is_of old change) (is_about change.object.0) (about old change) (awaited_by tables (wait_of waiting q) q) t)) (λ q t. let l = woken_within tables old change waiting q t in omega (arith, l))
    ∙ ap (filter (wakes_at tables old change waiting)) (sym (below_upto (length tables.processes)))

-- who waits, where others are roused
woken_other : (waiting : List Waiting) (ps : List ℕ) (p : ℕ) → All (λ q. q < p) ps → wait_of (woken_state waiting ps) p ≡ wait_of waiting p
woken_other waiting [] p h = refl
woken_other waiting (q ∷ qs) p h =
    let first : q < p = All-head (λ q. q < p) q qs h in
    woken_other (woken_one waiting q) qs p (All-tail (λ q. q < p) q qs h) ∙ get_or-set_other waiting q p wait.Nothing wait.Nothing (λ e. omega (arith, e))

get_or-default : (ns : List ℕ) (i d e : ℕ) → i < length ns → get_or ns i d ≡ get_or ns i e
get_or-default [] i d e h = absurd (omega arith)
get_or-default (n ∷ ns) zero d e h = refl
get_or-default (n ∷ ns) (suc i) d e h = get_or-default ns i d e (omega arith)

before_all : (ns : List ℕ) (i : ℕ) → AllPairs (λ x y. x < y) ns → i < length ns → All (λ x. x < get_or ns i 0) (take i ns)
before_all ns i rise within k d w =
    let short : length (take i ns) ≡ i = length-take-le i ns (omega arith) in
    let less : k < i = omega (arith, short) in
    let before : get_or ns k d < get_or ns i 0 = subst (λ x. get_or ns k d < x) (get_or-default ns i d 0 within) (rise k i d less within) in
    subst (λ x. x < get_or ns i 0) (sym (get_or-take i ns k d less)) before

-- the next listener, where those before it are woken
next_alone : (tables : Tables) (old : List Bit) (change : Change) (waiting : List Waiting) (ns : List ℕ) (i : ℕ) → AllPairs (λ x y. x < y) ns → i < length ns → woken_alone tables old change (woken_state waiting (filter (wakes_at tables old change waiting) (take i ns))) (get_or ns i 0) ≡ cond (wakes_at tables old change waiting (get_or ns i 0)) (get_or ns i 0 ∷ []) []
next_alone tables old change waiting ns i rise within =
    let p = wakes_at tables old change waiting in
    let n = get_or ns i 0 in
    ap (λ (w : Waiting). cond (wakes tables old change w n) (n ∷ []) []) (woken_other waiting (filter p (take i ns)) n (All-filter p (λ x. x < n) (take i ns) (before_all ns i rise within)))

-- what the next listener does, as the code sees it
abbrev pub Alone : Tables → List Bit → Change → (ns : List ℕ) → (waiting : List Waiting) → (now : List Waiting) → (i : ℕ) → (alone : List ℕ) → Type 0
Alone tables old change ns waiting now i alone = alone ≡ cond (wakes_at tables old change waiting (get_or ns i 0)) (get_or ns i 0 ∷ []) []

pub alone_is :
    (t tables : Tables) (old : List Bit) (change : Change) (waiting now : List Waiting) (items ns : List ℕ) (i : ℕ)
    → t ≡ tables → items ≡ ns → AllPairs (λ x y. x < y) ns → i < length items
    → now ≡ woken_state waiting (filter (wakes_at tables old change waiting) (take i ns))
    → Alone tables old change ns waiting now i (woken_alone t old change now (get_or items i 0))
alone_is t tables old change waiting now items ns i et ei rise within en =
    ap (λ (u : Tables). woken_alone u old change now (get_or items i 0)) et
    ∙ ap (λ (l : List ℕ). woken_alone tables old change now (get_or l i 0)) ei
    ∙ ap (λ (w : List Waiting). woken_alone tables old change w (get_or ns i 0)) en
    ∙ next_alone tables old change waiting ns i rise (subst (λ (l : List ℕ). i < length l) ei within)

-- one more listener is woken, if it waits for the change
pub waiting_more :
    (tables : Tables) (old : List Bit) (change : Change) (waiting now new : List Waiting) (ns alone : List ℕ) (i : ℕ)
    → i < length ns → Alone tables old change ns waiting now i alone
    → now ≡ woken_state waiting (filter (wakes_at tables old change waiting) (take i ns)) → new ≡ woken_state now alone
    → new ≡ woken_state waiting (filter (wakes_at tables old change waiting) (take (i + 1) ns))
waiting_more tables old change waiting now new ns alone i within is en e =
    let p = wakes_at tables old change waiting in
    let one = cond (p (get_or ns i 0)) (get_or ns i 0 ∷ []) [] in
    e ∙ ap (λ (w : List Waiting). woken_state w alone) en ∙ ap (woken_state (woken_state waiting (filter p (take i ns)))) is
    ∙ sym (fold-append woken_one waiting (filter p (take i ns)) one)
    ∙ ap (woken_state waiting) (sym (filter_more p ns i 0 within))

evaluations_more : (q : Queue) (ps qs : List ℕ) → with_evaluations (with_evaluations q ps) qs ≡ with_evaluations q (ps ++ qs)
evaluations_more q ps qs =
    ap (with_active q) (append_assoc q.active (map Evaluation ps) (map Evaluation qs) ∙ ap (λ l. q.active ++ l) (sym (map-append Evaluation ps qs)))

pub queue_more :
    (tables : Tables) (old : List Bit) (change : Change) (waiting now : List Waiting) (q r new : Queue) (ns alone : List ℕ) (i : ℕ)
    → i < length ns → Alone tables old change ns waiting now i alone
    → r ≡ with_evaluations q (filter (wakes_at tables old change waiting) (take i ns)) → new ≡ with_evaluations r alone
    → new ≡ with_evaluations q (filter (wakes_at tables old change waiting) (take (i + 1) ns))
queue_more tables old change waiting now q r new ns alone i within is en e =
    let p = wakes_at tables old change waiting in
    let one = cond (p (get_or ns i 0)) (get_or ns i 0 ∷ []) [] in
    e ∙ ap (λ (s : Queue). with_evaluations s alone) en ∙ ap (with_evaluations (with_evaluations q (filter p (take i ns)))) is
    ∙ evaluations_more q (filter p (take i ns)) one
    ∙ ap (with_evaluations q) (sym (filter_more p ns i 0 within))

-- after the last listener all are woken
pub all_woken : {X : Type 0} (f : List ℕ → X) (tables : Tables) (lists : List (List ℕ)) (old : List Bit) (change : Change) (waiting : List Waiting) (i : ℕ) (x : X) → length (listeners_of lists change.object.0) ≤ i → AreListeners tables change.object.0 (listeners_of lists change.object.0) → AreHeard tables lists waiting → x ≡ f (filter (wakes_at tables old change waiting) (take i (listeners_of lists change.object.0))) → x ≡ f (woken_by tables old change waiting)
all_woken f tables lists old change waiting i x end fit heard e =
    e ∙ ap (λ (l : List ℕ). f (filter (wakes_at tables old change waiting) l)) (take_all i (listeners_of lists change.object.0) end)
    ∙ ap f (woken_listeners tables lists old change waiting fit heard)
