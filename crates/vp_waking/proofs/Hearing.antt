-- Processes among the listeners of the objects that they await.
use Rattle.std.proofs.Common.{◌≡◌, ◌∙◌, ℕ, ◌+◌, ◌==◌, ◌<◌, ◌&&◌, Bool, true, false, List, [], ◌∷◌, ◌++◌, All, Option, Some, None, Result, Ok, Err, ap, sym, subst, arith, length, map, replicate, take, set, get_or, refl, inl, inr}
use Rattle.std.specs.Prelude.{OnOk, OnErr, slice_get, is_ok}
use Rattle.std.specs.List.{list_any}
use Rattle.std.specs.Option.{option_map_or}
use Rattle.std.proofs.lemmas.Bool.{cases_lt, cases_eq, eqb-true, eq-eqb, or_cases}
use Rattle.std.proofs.lemmas.List.{get_or-set_same, get_or-set_other, get_or-replicate, get_or_past, length-replicate, map_push, take_more, length-set, length-map, get_or-map}
use Rattle.std.proofs.lemmas.List.Folds.{list_any-append, list_any_at}
use Rattle.vp_elab.specs.declared.object.ObjectId.{ObjectId}
use Rattle.vp_operand.specs.declared.operand.Slot.{Slot}
use Rattle.vp_expr.specs.declared.tables.Process.{Process}
use Rattle.vp_expr.specs.declared.tables.Tables.{Tables}
use Rattle.vp_operand.specs.Reads.{slot_at}
use Rattle.vp_expr.specs.Tables.{tables_of}
use Rattle.vp_waking.specs.declared.waiting.Waiting.{Waiting}
use Rattle.vp_waking.specs.declared.waiting.Waiting.TheVariants as wait
use Rattle.vp_waking.specs.Listening.{AreAllListeners, AreHeard, AreKept, AreListeners, IsHeard, Listening, has, is_about, listeners_of, may_listen, with_number_at}
use Rattle.vp_waking.specs.Waking.{Term, any_of, awaited_by, object_at, woken_state, woken_one, terms_of, wait_of}
use Rattle.vp_waking.proofs.Rising.{all_with, has_more, has_self, rise_with}

-- the listeners, as they are shown
abbrev pub Fits : Listening → Type 0
Fits r = AreAllListeners (tables_of r.design) r.lists

abbrev pub Knows : List Waiting → Listening → Type 0
Knows known r = AreHeard (tables_of r.design) r.lists known

-- a process was put among the listeners of an object, or not
abbrev pub Grown : (old : List (List ℕ)) → (new : List (List ℕ)) → (object : ℕ) → (process : ℕ) → Bool → Type 0
Grown old new object process b =
    (k : ℕ) → listeners_of new k ≡ with_number_at (listeners_of old k) process (b && (object == k))

pub grown_in :
    {A E : Type 0} (r : Result A E) (old new : List (List ℕ)) (object process : ℕ)
    → OnOk r ((k : ℕ) → listeners_of new k ≡ with_number_at (listeners_of old k) process (object == k))
    → OnErr r ((k : ℕ) → listeners_of new k ≡ listeners_of old k)
    → Grown old new object process (is_ok r)
grown_in (Ok x) old new object process ok err = ok
grown_in (Err e) old new object process ok err = err

fit_with : (tables : Tables) (k process : ℕ) (ns : List ℕ) (b : Bool) → (b ≡ true → may_listen tables k process ≡ true) → AreListeners tables k ns → AreListeners tables k (with_number_at ns process b)
fit_with tables k process ns true may fit = record {
  rise = rise_with ns process fit.rise;
  listen = all_with (λ p. may_listen tables k p ≡ true) ns process (may refl) fit.listen;
}
fit_with tables k process ns false may fit = fit

chosen : (b : Bool) (object k : ℕ) → (b && (object == k)) ≡ true → object ≡ k
chosen true object k e = eqb-true object k e
chosen false object k e = cc

-- the lists stay lists of listeners
pub all_grown : (tables : Tables) (old new : List (List ℕ)) (object process : ℕ) (b : Bool) → Grown old new object process b → may_listen tables object process ≡ true → AreAllListeners tables old → AreAllListeners tables new
all_grown tables old new object process b grown may all k =
    subst (λ (l : List ℕ). AreListeners tables k l) (sym (grown k)) (fit_with tables k process (listeners_of old k) (b && (object == k)) (λ e. ap (λ o. may_listen tables o process) (sym (chosen b object k e)) ∙ may) (all k))

has_with : (ns : List ℕ) (process other : ℕ) (b : Bool) → has ns other ≡ true → has (with_number_at ns process b) other ≡ true
has_with ns process other true h = has_more ns process other h
has_with ns process other false h = h

-- none is lost
pub kept_grown : (old new : List (List ℕ)) (object process : ℕ) (b : Bool) → Grown old new object process b → AreKept old new
kept_grown old new object process b grown k other h =
    ap (λ (l : List ℕ). has l other) (grown k) ∙ has_with (listeners_of old k) process other (b && (object == k)) h

-- the process stands there
pub heard_grown : {A E : Type 0} (r : Result A E) (old new : List (List ℕ)) (object process : ℕ) → Grown old new object process (is_ok r) → OnOk r (has (listeners_of new object) process ≡ true)
heard_grown (Ok x) old new object process grown =
    ap (λ (l : List ℕ). has l process) (grown object ∙ ap (with_number_at (listeners_of old object) process) (eq-eqb object object refl))
    ∙ has_self (listeners_of old object) process
heard_grown (Err e) old new object process grown = tt

-- who is heard stays so
pub heard_kept : (old new : List (List ℕ)) (terms : List Term) (process : ℕ) → AreKept old new → IsHeard old terms process → IsHeard new terms process
heard_kept old new terms process kept heard object about = kept object process (heard object about)

pub all_kept : (tables : Tables) (old new : List (List ℕ)) (waiting : List Waiting) → AreKept old new → AreHeard tables old waiting → AreHeard tables new waiting
all_kept tables old new waiting kept heard process = heard_kept old new (awaited_by tables (wait_of waiting process) process) process kept (heard process)

about_one : (t : Term) (object : ℕ) (lists : List (List ℕ)) (process : ℕ) → has (listeners_of lists t.object) process ≡ true → list_any (is_about object) (t ∷ []) ≡ true → has (listeners_of lists object) process ≡ true
about_one t object lists process there e = elim (or_cases (t.object == object) false e) [
  | inl same ↦ ap (λ o. has (listeners_of lists o) process) (sym (eqb-true t.object object same)) ∙ there
  | inr nothing ↦ cc
]

-- one more term
pub heard_more : (lists : List (List ℕ)) (terms : List Term) (t : Term) (process : ℕ) → IsHeard lists terms process → has (listeners_of lists t.object) process ≡ true → IsHeard lists (terms ++ t ∷ []) process
heard_more lists terms t process heard there object e =
    elim (or_cases (list_any (is_about object) terms) (list_any (is_about object) (t ∷ [])) (sym (list_any-append (is_about object) terms (t ∷ [])) ∙ e)) [
      | inl before ↦ heard object before
      | inr here ↦ about_one t object lists process there here
    ]

-- one more of the things from which the terms are made
pub heard_next : {X : Type 0} (f : X → Term) (lists : List (List ℕ)) (xs : List X) (i process : ℕ) (x : X) → i < length xs → x ≡ get_or xs i x → IsHeard lists (map f (take i xs)) process → has (listeners_of lists (f x).object) process ≡ true → IsHeard lists (map f (take (i + 1) xs)) process
heard_next f lists xs i process x within at heard there =
    let more : map f (take (i + 1) xs) ≡ map f (take i xs) ++ f x ∷ [] =
    ap (map f) (take_more xs i x within) ∙ map_push f (take i xs) (get_or xs i x) ∙ ap (λ y. map f (take i xs) ++ f y ∷ []) (sym at) in
    subst (λ (l : List Term). IsHeard lists l process) (sym more) (heard_more lists (map f (take i xs)) (f x) process heard there)

-- what a process waits for, where one of them begins to wait
wait_set : (waiting : List Waiting) (process other : ℕ) (w : Waiting) (P : Waiting → Type 0) → (process ≡ other → P w) → P (wait_of waiting other) → P (wait_of (set waiting process w) other)
wait_set waiting process other w P new old = elim (cases_eq process other) [
  | inl same ↦
      elim (cases_lt process (length waiting)) [
        | inl within ↦ subst P (sym (ap (λ q. get_or (set waiting process w) q wait.Nothing) (sym same) ∙ get_or-set_same waiting process w wait.Nothing within)) (new same)
        | inr past ↦
            (let e = length-set waiting process w in
            subst P (get_or_past waiting other wait.Nothing (omega (arith, same)) ∙ sym (get_or_past (set waiting process w) other wait.Nothing (omega (arith, same, e)))) old)
      ]
  | inr different ↦ subst P (sym (get_or-set_other waiting process other w wait.Nothing (λ e. different (sym e)))) old
]

-- one that is heard begins to wait
pub heard_set : (tables : Tables) (lists : List (List ℕ)) (waiting : List Waiting) (process : ℕ) (w : Waiting) → AreHeard tables lists waiting → IsHeard lists (awaited_by tables w process) process → AreHeard tables lists (set waiting process w)
heard_set tables lists waiting process w all heard other =
    wait_set waiting process other w (λ v. IsHeard lists (awaited_by tables v other) other) (λ e. subst (λ q. IsHeard lists (awaited_by tables w q) q) e heard) (all other)

-- the objects at slots
pub at_slots : (instance : ObjectId) (slots : List ℕ) → map (λ (s : Slot). any_of instance s.0) (map slot_at slots) ≡ map (any_of instance) slots
at_slots instance [] = refl
at_slots instance (s ∷ slots) = ap (λ (l : List Term). any_of instance s ∷ l) (at_slots instance slots)

-- what holds of slots
pub all_slots : (P : ℕ → Type 0) (slots : List ℕ) → All P slots → All (λ (s : Slot). P s.0) (map slot_at slots)
all_slots P slots all k d within =
    let n : k < length slots = subst (λ m. k < m) (length-map slots slot_at) within in
    subst (λ (s : Slot). P s.0) (sym (get_or-map slot_at slots k 0 d n)) (all k 0 n)

-- each of the slots is read
pub all_read : (instance : ObjectId) (slots : List ℕ) → All (λ slot. list_any (is_about (object_at instance slot)) (map (any_of instance) slots) ≡ true) slots
all_read instance slots k d within =
    let n : k < length (map (any_of instance) slots) = subst (λ m. k < m) (sym (length-map slots (any_of instance))) within in
    let there : get_or (map (any_of instance) slots) k (any_of instance d) ≡ any_of instance (get_or slots k d) = get_or-map (any_of instance) slots k d (any_of instance d) within in
    list_any_at (is_about (object_at instance (get_or slots k d))) (map (any_of instance) slots) k (any_of instance d) n
    (ap (is_about (object_at instance (get_or slots k d))) there ∙ eq-eqb (object_at instance (get_or slots k d)) (object_at instance (get_or slots k d)) refl)

-- ---- nobody waits

nothing_of : (tables : Tables) (o : Option Process) → option_map_or (terms_of tables wait.Nothing) o [] ≡ []
nothing_of tables None = refl
nothing_of tables (Some kind) = refl

nothing_awaited : (tables : Tables) (w : Waiting) (process object : ℕ) → w ≡ wait.Nothing → list_any (is_about object) (awaited_by tables w process) ≡ false
nothing_awaited tables w process object e =
    ap (λ (v : Waiting). list_any (is_about object) (awaited_by tables v process)) e ∙ ap (list_any (is_about object)) (nothing_of tables (slice_get tables.processes process))

-- who waits for nothing is heard
pub heard_nothing : (tables : Tables) (lists : List (List ℕ)) (w : Waiting) (process : ℕ) → w ≡ wait.Nothing → IsHeard lists (awaited_by tables w process) process
heard_nothing tables lists w process e object h = let f = nothing_awaited tables w process object e in cc

none_waits : (n process : ℕ) → wait_of (replicate n wait.Nothing) process ≡ wait.Nothing
none_waits n process = elim (cases_lt process n) [
  | inl within ↦ get_or-replicate n process wait.Nothing wait.Nothing within
  | inr past ↦ get_or_past (replicate n wait.Nothing) process wait.Nothing (let e = length-replicate n wait.Nothing in omega (arith, e))
]

pub all_nothing : (tables : Tables) (lists : List (List ℕ)) (n : ℕ) → AreHeard tables lists (replicate n wait.Nothing)
all_nothing tables lists n process = heard_nothing tables lists (wait_of (replicate n wait.Nothing) process) process (none_waits n process)

-- all are heard where each of those that are there is
pub all_heard : (tables : Tables) (lists : List (List ℕ)) (waiting : List Waiting) → ((p : ℕ) → p < length waiting → IsHeard lists (awaited_by tables (wait_of waiting p) p) p) → AreHeard tables lists waiting
all_heard tables lists waiting heard process = elim (cases_lt process (length waiting)) [
  | inl within ↦ heard process within
  | inr past ↦ heard_nothing tables lists (wait_of waiting process) process (get_or_past waiting process wait.Nothing past)
]

-- no listeners
pub no_listeners : (tables : Tables) → AreAllListeners tables []
no_listeners tables object = record {
  rise = λ i j d l w. absurd (omega arith);
  listen = λ k d w. absurd (omega arith);
}

-- who is woken waits no more
pub heard_woken : (tables : Tables) (lists : List (List ℕ)) (waiting : List Waiting) (processes : List ℕ) → AreHeard tables lists waiting → AreHeard tables lists (woken_state waiting processes)
heard_woken tables lists waiting [] all = all
heard_woken tables lists waiting (p ∷ ps) all =
    heard_woken tables lists (woken_one waiting p) ps (heard_set tables lists waiting p wait.Nothing all (heard_nothing tables lists wait.Nothing p refl))

-- as many wait
pub length_woken : (waiting : List Waiting) (processes : List ℕ) → length (woken_state waiting processes) ≡ length waiting
length_woken waiting [] = refl
length_woken waiting (p ∷ ps) = length_woken (woken_one waiting p) ps ∙ length-set waiting p wait.Nothing
