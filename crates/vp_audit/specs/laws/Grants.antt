-- A user's part after a change of a grant.
use Rattle.std.proofs.Common.{◌≡◌, ℕ, zero, suc, ◌+◌, ◌-◌, ◌<◌, ◌≤◌, Bool, false, true, List, [], ◌∷◌, ◌++◌, length, Option, Some, None, refl, ap, sym, subst, ◌∙◌, arith, length-append, ◌⊎◌, inl, inr}
use Rattle.std.specs.Prelude.{◌==◌, ◌&&◌, ◌||◌, filter, if◌then◌else◌, is_none, is_some, map, not, nat_lt, option_map, slice_get, slice_index_or, slice_set, unwrap_or}
use Rattle.std.specs.List.{All}
use Rattle.std.specs.Option.{option_map_or}
use Rattle.std.proofs.lemmas.Bool.{cases_lt}
use Rattle.std.proofs.lemmas.List.{length-map, length-set}
use Rattle.std.proofs.lemmas.List.Elements.{All-cons, All-map, All-nil}
use Rattle.std.proofs.lemmas.Option.{slice_get-map}
use Rattle.vp_bits.specs.declared.bit.Bit.{Bit}
use Rattle.vp_bits.specs.declared.bit.Bit.TheVariants.{Unknown}
use Rattle.vp_pragma.specs.declared.rights.Right.TheVariants as right
use Rattle.vp_elab.specs.Built.{Elaborated}
use Rattle.vp_elab.specs.declared.object.ObjectId.{ObjectId}
use Rattle.vp_elab.specs.Tree.{Node, Tree, below}
use Rattle.vp_policy.specs.Filter.{denial_at, is_listed, words_of}
use Rattle.vp_policy.specs.PolicyState.{PolicyState}
use Rattle.vp_policy.specs.Regrants.{regranted, regranted_user}
use Rattle.vp_policy.specs.Users.{Member, member_at, nobody}
use Rattle.vp_policy.specs.View.{SeenNode, View, seen_node, known_view, marked}
use Rattle.vp_notify.specs.declared.registry.Callback.{Callback}
use Rattle.vp_notify.specs.declared.notice.Notice.{Notice}
use Rattle.vp_sim.specs.States as sim
use Rattle.vp_vpi.specs.Observers.{is_readable, is_watch_denied, kind_at}
use Rattle.vp_world.specs.Races.{races_seen}
use Rattle.vp_vpi.specs.SessionStates.{SessionState, retired}
use Rattle.vp_answer.specs.declared.request.GrantChange.{GrantChange}
use Rattle.vp_answer.specs.Renumbering as under
use Rattle.vp_answer.specs.laws.Renumbering.{retired_under}
use Rattle.vp_world.specs.History.{granted_to}
use Rattle.vp_answer.specs.OpenSessions.{OpenSessionState, notified_session, retired_for}
use Rattle.vp_world.specs.Worlds.{State}
use Rattle.vp_replay.specs.Known.{known_also, known_index}
use Rattle.vp_notify.specs.Renumbered.{moved_callback, moved_notice}
use Rattle.vp_vpi.specs.Renumbered.{moved_handle, moved_session_state}
use Rattle.vp_replay.specs.Parts.{Part, come_or_known, granted_session, granted_values, moved_to, part_granted, with_known}
use Rattle.vp_audit.specs.Projections.{granted_of, is_read, moved_numbers, number_in, read_marks, value_seen, values_but, values_seen}
use Rattle.vp_replay.specs.Seen.{denied_seen, kind_seen}
use Rattle.vp_audit.specs.laws.Alike.{AreValues, IsKnown}
use Rattle.vp_audit.specs.laws.After.{AreWatched, get_other, index_number, number_index}
use Rattle.vp_replay.specs.laws.Denials.{AllInEnvelopes, denied_seen_at, node_seen}
use Rattle.vp_answer.proofs.Lists.{map_same}
use Rattle.vp_audit.specs.laws.Events.{AllWatched, AreNamed, AreSessions, IsPartOf, filter_form, is_of, map_alike, map_all, map_twice, part_following, same_number, session_under}
use Rattle.vp_replay.specs.laws.Known.{by_index}

-- ---- lists

-- a number that is set
index_set : {X : Type 0} (xs : List X) (i : ℕ) (x d : X) → i < length xs → slice_index_or (slice_set xs i x) i d ≡ x
index_set [] i x d l = absurd (omega arith)
index_set (y ∷ xs) zero x d l = refl
index_set (y ∷ xs) (suc i) x d l = index_set xs i x d (omega arith)

-- another stays
index_kept : {X : Type 0} (xs : List X) (i j : ℕ) (x d : X) → (j ≡ i → ⊥) → slice_index_or (slice_set xs i x) j d ≡ slice_index_or xs j d
index_kept [] i j x d n = refl
index_kept (y ∷ xs) zero zero x d n = absurd (n refl)
index_kept (y ∷ xs) zero (suc j) x d n = refl
index_kept (y ∷ xs) (suc i) zero x d n = refl
index_kept (y ∷ xs) (suc i) (suc j) x d n = index_kept xs i j x d (λ e. n (ap suc e))

-- what passes a test has what all have, and passes it
all_passing : {X : Type 0} (P : X → Type 0) (q : X → Bool) (xs : List X) → All P xs → All (λ x. P x × (q x ≡ true)) (filter q xs)
all_passing P q [] h = All-nil (λ x. P x × (q x ≡ true))
all_passing P q (x ∷ xs) h = by_test (q x) refl (all_passing P q xs (λ k d l. h (suc k) d (omega arith))) where
  by_test : (b : Bool) → q x ≡ b → All (λ x. P x × (q x ≡ true)) (filter q xs) → All (λ x. P x × (q x ≡ true)) (if b then x ∷ filter q xs else filter q xs)
  by_test true e rest = All-cons (λ x. P x × (q x ≡ true)) x (filter q xs) (h 0 x (omega arith), e) rest
  by_test false e rest = rest

-- how many numbers are below one
pub below_length : (n : ℕ) → length (below n) ≡ n
below_length zero = refl
below_length (suc n) = let rest = below_length n in let more = length-append (below n) (n ∷ []) in omega (arith, rest, more)

-- the item of a number below
pub below_at : (n k : ℕ) → k < n → slice_get (below n) k ≡ Some k
below_at zero k l = absurd (omega arith)
below_at (suc n) k l =
    elim (cases_lt k n) [
      | inl less ↦ push_front (below n) n k (let long = below_length n in omega (arith, less, long)) ∙ below_at n k less
      | inr more ↦
          let e : k ≡ n = omega (arith, l, more) in
          ap (slice_get (below n ++ n ∷ [])) (e ∙ sym (below_length n)) ∙ push_back (below n) n ∙ ap Some (sym e)
    ]
  where
    push_front : (xs : List ℕ) (x i : ℕ) → i < length xs → slice_get (xs ++ x ∷ []) i ≡ slice_get xs i
    push_front [] x i l = absurd (omega arith)
    push_front (y ∷ xs) x zero l = refl
    push_front (y ∷ xs) x (suc i) l = push_front xs x i (omega arith)

    push_back : (xs : List ℕ) (x : ℕ) → slice_get (xs ++ x ∷ []) (length xs) ≡ Some x
    push_back [] x = refl
    push_back (y ∷ xs) x = push_back xs x

-- ---- what is known now

-- as much
pub now_long : (tree : Tree) (m : Member) (known : List Bool) (nodes : List Node) → length known ≡ length nodes → length (known_also tree m known nodes) ≡ length nodes
now_long tree m [] [] e = refl
now_long tree m [] (n ∷ nodes) e = absurd (cc)
now_long tree m (k ∷ known) [] e = absurd (cc)
now_long tree m (k ∷ known) (n ∷ nodes) e = ap suc (now_long tree m known nodes (omega (arith, e)))

-- all that was known
pub now_more : (tree : Tree) (m : Member) (known : List Bool) (nodes : List Node) → length known ≡ length nodes → (o : ℕ) → slice_get known o ≡ Some true → slice_get (known_also tree m known nodes) o ≡ Some true
now_more tree m [] nodes e o at = absurd (cc)
now_more tree m (k ∷ known) [] e o at = absurd (cc)
now_more tree m (k ∷ known) (n ∷ nodes) e zero at = let is : k ≡ true = cc in ap (λ (b : Bool). Some (b || is_listed tree m n)) is
now_more tree m (k ∷ known) (n ∷ nodes) e (suc o) at = now_more tree m known nodes (omega (arith, e)) o at

-- and all that is listed
now_covers : (tree : Tree) (m : Member) (known : List Bool) (nodes : List Node) → length known ≡ length nodes → (o : ℕ) (node : Node) → slice_get nodes o ≡ Some node → is_listed tree m node ≡ true
    → slice_get (known_also tree m known nodes) o ≡ Some true
now_covers tree m [] [] e o node at is = absurd (cc)
now_covers tree m [] (n ∷ nodes) e o node at is = absurd (cc)
now_covers tree m (k ∷ known) [] e o node at is = absurd (cc)
now_covers tree m (k ∷ known) (n ∷ nodes) e zero node at is =
    let same : n ≡ node = cc in ap Some (ap (λ (x : Node). k || is_listed tree m x) same ∙ ap (λ (b : Bool). k || b) is ∙ or_true k)
  where
    or_true : (b : Bool) → (b || true) ≡ true
    or_true true = refl
    or_true false = refl
now_covers tree m (k ∷ known) (n ∷ nodes) e (suc o) node at is = now_covers tree m known nodes (omega (arith, e)) o node at is

-- ---- numbers

-- how many are marked does not hang on what they mark
pub marked_count : {X Y : Type 0} (known : List Bool) (xs : List X) (ys : List Y) → length known ≡ length xs → length known ≡ length ys → length (marked known xs) ≡ length (marked known ys)
marked_count [] xs ys e f = refl
marked_count (k ∷ known) [] ys e f = absurd (cc)
marked_count (k ∷ known) (x ∷ xs) [] e f = absurd (cc)
marked_count (true ∷ known) (x ∷ xs) (y ∷ ys) e f = ap suc (marked_count known xs ys (omega (arith, e)) (omega (arith, f)))
marked_count (false ∷ known) (x ∷ xs) (y ∷ ys) e f = marked_count known xs ys (omega (arith, e)) (omega (arith, f))

-- the index of a number is marked
pub index_marked : (known : List Bool) (k : ℕ) → k < length (marked known known) → slice_get known (known_index known k) ≡ Some true
index_marked known k l = go known known refl k l where
  go : (ks : List Bool) (xs : List Bool) → length ks ≡ length xs → (k : ℕ) → k < length (marked ks xs) → slice_get ks (known_index ks k) ≡ Some true
  go [] xs e k l = absurd (omega arith)
  go (b ∷ ks) [] e k l = absurd (cc)
  go (true ∷ ks) (x ∷ xs) e zero l = refl
  go (true ∷ ks) (x ∷ xs) e (suc k) l = go ks xs (omega (arith, e)) k (omega arith)
  go (false ∷ ks) (x ∷ xs) e k l = go ks xs (omega (arith, e)) k l

-- after the last number it is after all indexes
pub index_past : (known : List Bool) (k : ℕ) → length (marked known known) ≤ k → known_index known k ≡ length known + (k - length (marked known known))
index_past known k l = go known known refl k l where
  go : (ks : List Bool) (xs : List Bool) → length ks ≡ length xs → (k : ℕ) → length (marked ks xs) ≤ k → known_index ks k ≡ length ks + (k - length (marked ks xs))
  go [] xs e k l = omega arith
  go (b ∷ ks) [] e k l = absurd (cc)
  go (true ∷ ks) (x ∷ xs) e zero l = absurd (omega arith)
  go (true ∷ ks) (x ∷ xs) e (suc k) l = let rest = go ks xs (omega (arith, e)) k (omega arith) in omega (arith, rest)
  go (false ∷ ks) (x ∷ xs) e k l = let rest = go ks xs (omega (arith, e)) k l in omega (arith, rest)

-- what is marked has a number
pub marked_number : (known : List Bool) (o : ℕ) → slice_get known o ≡ Some true → (k : ℕ) × (number_in known o ≡ Some k)
marked_number [] o e = absurd (cc)
marked_number (true ∷ known) zero e = (0, refl)
marked_number (false ∷ known) zero e = absurd (cc)
marked_number (true ∷ known) (suc o) e = let rest = marked_number known o e in (suc rest.0, ap (option_map suc) rest.1)
marked_number (false ∷ known) (suc o) e = marked_number known o e

-- a number of before, and that of now, are of one index
pub moved_is : (tree : Tree) (m : Member) (known : List Bool) (nodes : List Node) → length known ≡ length nodes → (count : ℕ) → count ≡ length (marked (known_also tree m known nodes) nodes) → (k : ℕ)
    → known_index known k ≡ known_index (known_also tree m known nodes) (moved_to (moved_numbers known (known_also tree m known nodes)) count k)
moved_is tree m known nodes e count counted k =
    let now = known_also tree m known nodes in
    let c = length (marked known known) in
    let long : length (moved_numbers known now) ≡ c = length-map (below c) (λ j. option_map_or (λ n. n) (number_in now (known_index known j)) 0) ∙ below_length c in
    elim (cases_lt k c) [
      | inl less ↦
          let marks = now_more tree m known nodes e (known_index known k) (index_marked known k less) in
          let (j, number) = marked_number now (known_index known k) marks in
          let test : nat_lt k (length (moved_numbers known now)) ≡ true = grind (arith, long, less) in
          let item : slice_get (moved_numbers known now) k ≡ Some j =
          slice_get-map (λ i. option_map_or (λ n. n) (number_in now (known_index known i)) 0) (below c) k
          ∙ ap (option_map (λ i. option_map_or (λ n. n) (number_in now (known_index known i)) 0)) (below_at c k less)
          ∙ ap (λ n. Some (option_map_or (λ i. i) n 0)) number in
          sym (ap (λ (b : Bool). known_index now (if b then slice_index_or (moved_numbers known now) k 0 else count + (k - length (moved_numbers known now)))) test
          ∙ ap (known_index now) (index_at (moved_numbers known now) k j item) ∙ number_index now (known_index known k) j number)
      | inr more ↦
          let test : nat_lt k (length (moved_numbers known now)) ≡ false = grind (arith, long, more) in
          let many = marked_count now now nodes refl (now_long tree m known nodes e) in
          let same = now_long tree m known nodes e in
          let past = index_past known k more in
          let past_now = index_past now (count + (k - length (moved_numbers known now))) (omega (arith, counted, many)) in
          let there : length known + (k - c) ≡ length now + (count + (k - length (moved_numbers known now)) - length (marked now now)) = omega (arith, long, counted, many, same, e) in
          past ∙ there ∙ sym past_now
          ∙ sym (ap (λ (b : Bool). known_index now (if b then slice_index_or (moved_numbers known now) k 0 else count + (k - length (moved_numbers known now)))) test)
    ]
  where
    index_at : (xs : List ℕ) (i x : ℕ) → slice_get xs i ≡ Some x → slice_index_or xs i 0 ≡ x
    index_at [] i x e = absurd (cc)
    index_at (y ∷ xs) zero x e = cc
    index_at (y ∷ xs) (suc i) x e = index_at xs i x e

-- ---- sessions under other numbers

-- a session under the numbers of before is the moved one under those of now
session_state_moved : (known now : List Bool) (f : ℕ → ℕ) → ((k : ℕ) → known_index known k ≡ known_index now (f k)) → (s : SessionState) → under.session_state (by_index known) s ≡ under.session_state (by_index now) (moved_session_state f s)
session_state_moved known now f h s =
    ap (λ hs. record { user = s.user; handles = hs; registry = under.registry (by_index known) s.registry }) (handles s.handles)
    ∙ ap (λ cs. record {
      user = s.user;
      handles = map (under.handle (by_index now)) (map (moved_handle f) s.handles);
      registry = record { callbacks = cs; given = s.registry.given; waiting = map (under.notice (by_index known)) s.registry.waiting; lost = s.registry.lost };
    }) (callbacks s.registry.callbacks)
    ∙ ap (λ ts. record {
      user = s.user;
      handles = map (under.handle (by_index now)) (map (moved_handle f) s.handles);
      registry = record { callbacks = map (under.callback (by_index now)) (map (moved_callback f) s.registry.callbacks); given = s.registry.given; waiting = ts; lost = s.registry.lost };
    })
    (notices s.registry.waiting)
  where
    handles : (hs : List (Option ObjectId)) → map (under.handle (by_index known)) hs ≡ map (under.handle (by_index now)) (map (moved_handle f) hs)
    handles [] = refl
    handles (None ∷ hs) = ap (λ xs. None ∷ xs) (handles hs)
    handles (Some o ∷ hs) = ap (λ (n : ℕ). Some (record { 0 = n }) ∷ map (under.handle (by_index known)) hs) (h o.0) ∙ ap (λ xs. Some (record { 0 = known_index now (f o.0) }) ∷ xs) (handles hs)

    callbacks : (cs : List Callback) → map (under.callback (by_index known)) cs ≡ map (under.callback (by_index now)) (map (moved_callback f) cs)
    callbacks [] = refl
    callbacks (c ∷ cs) =
        ap (λ (n : ℕ). record { number = c.number; object = record { 0 = n } } ∷ map (under.callback (by_index known)) cs) (h c.object.0)
        ∙ ap (λ xs. record { number = c.number; object = record { 0 = known_index now (f c.object.0) } } ∷ xs) (callbacks cs)

    notices : (ts : List Notice) → map (under.notice (by_index known)) ts ≡ map (under.notice (by_index now)) (map (moved_notice f) ts)
    notices [] = refl
    notices (t ∷ ts) =
        ap (λ (n : ℕ). record { callback = t.callback; object = record { 0 = n }; time = t.time; value = t.value } ∷ map (under.notice (by_index known)) ts) (h t.object.0)
        ∙ ap (λ xs. record { callback = t.callback; object = record { 0 = known_index now (f t.object.0) }; time = t.time; value = t.value } ∷ xs) (notices ts)

-- a denial in words is one
some_words : {A B : Type 0} (f : A → B) (x : Option A) → is_some (option_map f x) ≡ is_some x
some_words f None = refl
some_words f (Some x) = refl

-- what is not there is none
not_some : {A : Type 0} (x : Option A) → not (is_some x) ≡ true → x ≡ None
not_some None e = refl
not_some (Some x) e = absurd (cc)

-- what is none in words is none
none_again : {A B : Type 0} (f : A → B) (x : Option A) → option_map f x ≡ None → is_none x ≡ true
none_again f None e = refl
none_again f (Some x) e = absurd (cc)

-- ---- values

-- an object with a kind is there
readable_within : (nodes : List SeenNode) (k : ℕ) → is_readable (option_map (λ n. n.kind) (slice_get nodes k)) ≡ true → k < length nodes
readable_within [] k e = absurd (cc)
readable_within (n ∷ nodes) zero e = omega arith
readable_within (n ∷ nodes) (suc k) e = let rest = readable_within nodes k e in omega (arith, rest)

-- a condition that is so has the first branch
branch_true : {X : Type 0} (b : Bool) (x y : X) → b ≡ true → (if b then x else y) ≡ x
branch_true true x y e = refl
branch_true false x y e = absurd (cc)

-- and one that is not the other
branch_false : {X : Type 0} (b : Bool) (x y : X) → b ≡ false → (if b then x else y) ≡ y
branch_false true x y e = absurd (cc)
branch_false false x y e = refl

-- what is no Bool of two is the other
both_true : (a b : Bool) → a ≡ true → b ≡ true → (a && b) ≡ true
both_true true true e f = refl
both_true true false e f = absurd (cc)
both_true false b e f = absurd (cc)

module _ (run : sim.State) (design : Elaborated) (its : run.design ≡ design) (m : Member) (known : List Bool) (long : length known ≡ length design.tree.nodes)
    (denied : (r : _) (k : ℕ) → denied_seen (known_view design m known) r k ≡ option_map (words_of design.tree) (denial_at design.tree m r (known_index known k))) (k : ℕ)
    (open_to : denied_seen (known_view design m known) right.Read k ≡ None) (readable : is_readable (kind_seen (known_view design m known) k) ≡ true) where
  -- the kind of an object in a view is its own
  kind_is : kind_at design.tree (known_index known k) ≡ kind_seen (known_view design m known) k
  kind_is = sym (ap (option_map (λ n. n.kind)) (node_seen design m known k long) ∙ by_node (slice_get design.tree.nodes (known_index known k))) where
    by_node : (node : Option Node) → option_map (λ n. n.kind) (option_map (seen_node design m) node) ≡ option_map (λ (n : Node). n.kind) node
    by_node None = refl
    by_node (Some node) = refl

  -- what may be read is there
  is_within : k < length (marked known known)
  is_within =
      let l = readable_within (known_view design m known).nodes k readable in
      let many = length-map (marked known design.tree.nodes) (seen_node design m) in
      let same = marked_count known known design.tree.nodes refl long in
      omega (arith, l, many, same)

  -- its value is seen
  value_is : value_seen run m known k ≡ Some (slice_index_or run.values (known_index known k) (Unknown ∷ []))
  value_is =
      let readable_is : is_readable (kind_at run.design.tree (known_index known k)) ≡ true =
      ap (λ (d : Elaborated). is_readable (kind_at d.tree (known_index known k))) its ∙ ap is_readable kind_is ∙ readable in
      let undenied : is_none (denial_at run.design.tree m right.Read (known_index known k)) ≡ true =
      ap (λ (d : Elaborated). is_none (denial_at d.tree m right.Read (known_index known k))) its
      ∙ none_again (words_of design.tree) (denial_at design.tree m right.Read (known_index known k)) (sym (denied right.Read k) ∙ open_to) in
      branch_true (is_readable (kind_at run.design.tree (known_index known k)) && is_none (denial_at run.design.tree m right.Read (known_index known k)))
      (Some (slice_index_or run.values (known_index known k) (Unknown ∷ []))) None
      (both_true (is_readable (kind_at run.design.tree (known_index known k))) (is_none (denial_at run.design.tree m right.Read (known_index known k))) readable_is undenied)

  -- it goes to the user unless it is marked
  pub goes_by : (marks : List Bool) → slice_get (values_but marks run m known) k
      ≡ Some (if unwrap_or (slice_get marks (known_index known k)) false then None else Some (slice_index_or run.values (known_index known k) (Unknown ∷ [])))
  goes_by marks =
      let value : ℕ → Option (List Bit) = λ j. if unwrap_or (slice_get marks (known_index known j)) false then None else value_seen run m known j in
      slice_get-map value (below (length (marked known known))) k
      ∙ ap (option_map value) (below_at (length (marked known known)) k is_within)
      ∙ ap (λ v. Some (if unwrap_or (slice_get marks (known_index known k)) false then None else v)) value_is

-- the values that go to a user are those of what he may read
pub values_are : (run : sim.State) (design : Elaborated) → run.design ≡ design → (m : Member) (known : List Bool) → (long : length known ≡ length design.tree.nodes)
    → ((r : _) (k : ℕ) → denied_seen (known_view design m known) r k ≡ option_map (words_of design.tree) (denial_at design.tree m r (known_index known k)))
    → AreValues design run.values m known (values_seen run m known)
values_are run design its m known long denied k open_to readable = goes_by run design its m known long denied k open_to readable []

-- ---- values that go on being known

-- numbers that differ
not_equal : (a b : ℕ) → (a == b) ≡ false → b ≡ a → ⊥
not_equal a b e same = let self : (a == b) ≡ true = grind (arith, same) in absurd (cc)

-- what is set is there
get_set : {X : Type 0} (xs : List X) (i : ℕ) (x y : X) → slice_get xs i ≡ Some y → slice_get (slice_set xs i x) i ≡ Some x
get_set [] i x y e = absurd (cc)
get_set (z ∷ xs) zero x y e = refl
get_set (z ∷ xs) (suc i) x y e = get_set xs i x y e

-- what stands at an index
index_get : {X : Type 0} (xs : List X) (i : ℕ) (x d : X) → slice_get xs i ≡ Some x → slice_index_or xs i d ≡ x
index_get [] i x d e = absurd (cc)
index_get (y ∷ xs) zero x d e = cc
index_get (y ∷ xs) (suc i) x d e = index_get xs i x d e

-- two numbers are the same or not
same_or_not : (n k : ℕ) → (n ≡ k) ⊎ (k ≡ n → ⊥)
same_or_not n k = by_test (n == k) refl where
  by_test : (b : Bool) → (n == k) ≡ b → (n ≡ k) ⊎ (k ≡ n → ⊥)
  by_test true e = inl (same_number n k e)
  by_test false e = inr (not_equal n k e)

-- a value that came stays
came_stays : (moved : List ℕ) (before came : List (Option (List Bit))) (k : ℕ) (bits : List Bit) → slice_get came k ≡ Some (Some bits) → slice_get (granted_values moved before came) k ≡ Some (Some bits)
came_stays [] before came k bits at = at
came_stays (n ∷ moved) [] came k bits at = at
came_stays (n ∷ moved) (v ∷ before) came k bits at =
    came_stays moved before (with_known came n v) k bits
    (elim (same_or_not n k) [
      | inl same ↦
          ap (λ i. slice_get (with_known came i v) k) same
          ∙ get_set came k (come_or_known (slice_index_or came k None) v) (Some bits) at
          ∙ ap (λ c. Some (come_or_known c v)) (index_get came k (Some bits) None at)
      | inr other ↦ get_other came n k (come_or_known (slice_index_or came n None) v) other ∙ at
    ])

-- a value that was known of each number that became this one is known of it, where none came
known_stays : (moved : List ℕ) (before came : List (Option (List Bit))) (k : ℕ) (bits : List Bit) → ((i : ℕ) → slice_get moved i ≡ Some k → slice_get before i ≡ Some (Some bits))
    → slice_get came k ≡ Some None → (i : ℕ) → slice_get moved i ≡ Some k → slice_get (granted_values moved before came) k ≡ Some (Some bits)
known_stays [] before came k bits were none i there = absurd (cc)
known_stays (n ∷ moved) [] came k bits were none i there = absurd (let never = were i there in cc)
known_stays (n ∷ moved) (v ∷ before) came k bits were none i there =
    elim (same_or_not n k) [
      | inl same ↦
          let value : Some v ≡ Some (Some bits) = were 0 (ap Some same) in
          let known : v ≡ Some bits = cc in
          came_stays moved before (with_known came n v) k bits
          (ap (λ j. slice_get (with_known came j v) k) same
          ∙ get_set came k (come_or_known (slice_index_or came k None) v) None none
          ∙ ap (λ c. Some (come_or_known c v)) (index_get came k None None none)
          ∙ ap Some known)
      | inr other ↦
          known_stays moved before (with_known came n v) k bits (λ j at. were (suc j) at)
          (get_other came n k (come_or_known (slice_index_or came n None) v) other ∙ none) (before_first i there other).0 (before_first i there other).1
    ]
  where
    before_first : (i : ℕ) → slice_get (n ∷ moved) i ≡ Some k → (k ≡ n → ⊥) → (j : ℕ) × (slice_get moved j ≡ Some k)
    before_first zero at other = absurd (other (let same : n ≡ k = cc in sym same))
    before_first (suc j) at other = (j, at)

-- what is marked as known and not denied is both
marked_both : (a : Option Bool) (b : Bool) → (unwrap_or a false && b) ≡ true → (a ≡ Some true) × (b ≡ true)
marked_both (Some true) true e = (refl, refl)
marked_both (Some true) false e = absurd (cc)
marked_both (Some false) b e = absurd (cc)
marked_both None b e = absurd (cc)

-- a mark of a list by numbers
mark_at : (f : ℕ → Bool) (n o : ℕ) → unwrap_or (slice_get (map f (below n)) o) false ≡ true → f o ≡ true
mark_at f n o e =
    elim (cases_lt o n) [
      | inl less ↦ sym (ap (λ (x : Option Bool). unwrap_or x false) (slice_get-map f (below n) o ∙ ap (option_map f) (below_at n o less))) ∙ e
      | inr more ↦
          let long = length-map (below n) f in
          let count = below_length n in
          absurd (let none = past (map f (below n)) o (omega (arith, long, count, more)) in let never : false ≡ true = sym (ap (λ (x : Option Bool). unwrap_or x false) none) ∙ e in cc)
    ]
  where
    past : (xs : List Bool) (i : ℕ) → length xs ≤ i → slice_get xs i ≡ None
    past [] i l = refl
    past (x ∷ xs) zero l = absurd (omega arith)
    past (x ∷ xs) (suc i) l = past xs i (omega arith)

-- the number of an object that was known before is that which it has now
moved_at : (tree : Tree) (m : Member) (known : List Bool) (nodes : List Node) → length known ≡ length nodes → (i k : ℕ) → slice_get (moved_numbers known (known_also tree m known nodes)) i ≡ Some k
    → (i < length (marked known known)) × (known_index known i ≡ known_index (known_also tree m known nodes) k)
moved_at tree m known nodes e i k at =
    elim (cases_lt i (length (marked known known))) [
      | inl less ↦
          let now = known_also tree m known nodes in
          let form : ℕ → ℕ = λ j. option_map_or (λ n. n) (number_in now (known_index known j)) 0 in
          let marks = now_more tree m known nodes e (known_index known i) (index_marked known i less) in
          let (j, number) = marked_number now (known_index known i) marks in
          let item : slice_get (moved_numbers known now) i ≡ Some j =
          slice_get-map form (below (length (marked known known))) i ∙ ap (option_map form) (below_at (length (marked known known)) i less) ∙ ap (λ n. Some (option_map_or (λ (x : ℕ). x) n 0)) number in
          let same : Some j ≡ Some k = sym item ∙ at in
          let is : j ≡ k = cc in
          (less, sym (number_index now (known_index known i) j number) ∙ ap (known_index now) is)
      | inr more ↦
          let now = known_also tree m known nodes in
          let long : length (moved_numbers known now) ≡ length (marked known known) =
          length-map (below (length (marked known known))) (λ j. option_map_or (λ n. n) (number_in now (known_index known j)) 0) ∙ below_length (length (marked known known)) in
          absurd (let none = past (moved_numbers known now) i (omega (arith, long, more)) in let never : None ≡ Some k = sym none ∙ at in cc)
    ]
  where
    past : (xs : List ℕ) (i : ℕ) → length xs ≤ i → slice_get xs i ≡ None
    past [] i l = refl
    past (x ∷ xs) zero l = absurd (omega arith)
    past (x ∷ xs) (suc i) l = past xs i (omega arith)

-- an object of which a number is known now was known before by one
number_before : (tree : Tree) (m : Member) (known : List Bool) (nodes : List Node) → length known ≡ length nodes → (k : ℕ) → k < length (marked (known_also tree m known nodes) (known_also tree m known nodes))
    → slice_get known (known_index (known_also tree m known nodes) k) ≡ Some true → (i : ℕ) × (slice_get (moved_numbers known (known_also tree m known nodes)) i ≡ Some k)
number_before tree m known nodes e k within mark =
    let now = known_also tree m known nodes in
    let form : ℕ → ℕ = λ j. option_map_or (λ n. n) (number_in now (known_index known j)) 0 in
    let (i, number) = marked_number known (known_index now k) mark in
    let index = number_index known (known_index now k) i number in
    let less : i < length (marked known known) = number_within known (known_index now k) i number in
    let inside : known_index now k < length now = get_within now (known_index now k) (index_marked now k within) in (
      i,
      slice_get-map form (below (length (marked known known))) i ∙ ap (option_map form) (below_at (length (marked known known)) i less)
          ∙ ap (λ o. Some (option_map_or (λ (x : ℕ). x) (number_in now o) 0)) index
          ∙ ap (λ n. Some (option_map_or (λ (x : ℕ). x) n 0)) (index_number now k inside),
    )
  where
    get_within : (marks : List Bool) (o : ℕ) → slice_get marks o ≡ Some true → o < length marks
    get_within [] o at = absurd (cc)
    get_within (b ∷ marks) zero at = omega arith
    get_within (b ∷ marks) (suc o) at = let rest = get_within marks o at in omega (arith, rest)

    number_within : (marks : List Bool) (o i : ℕ) → number_in marks o ≡ Some i → i < length (marked marks marks)
    number_within marks o i at = go marks marks o i refl at where
      next : (xs ys : List Bool) (o i : ℕ) (n : Option ℕ) → length xs ≡ length ys → number_in xs o ≡ n → option_map suc n ≡ Some i
          → ((j : ℕ) → number_in xs o ≡ Some j → j < length (marked xs ys)) → i < suc (length (marked xs ys))
      next xs ys o i None long at e h = absurd (cc)
      next xs ys o i (Some j) long at e h = let same : suc j ≡ i = cc in let l = h j at in omega (arith, same, l)

      go : (xs ys : List Bool) (o i : ℕ) → length xs ≡ length ys → number_in xs o ≡ Some i → i < length (marked xs ys)
      go [] ys o i long at = absurd (cc)
      go (b ∷ xs) [] o i long at = absurd (cc)
      go (true ∷ xs) (y ∷ ys) zero i long at = let same : 0 ≡ i = cc in omega (arith, same)
      go (false ∷ xs) (y ∷ ys) zero i long at = absurd (cc)
      go (true ∷ xs) (y ∷ ys) (suc o) i long at = next xs ys o i (number_in xs o) (omega (arith, long)) refl at (λ j is. go xs ys o j (omega (arith, long)) is)
      go (false ∷ xs) (y ∷ ys) (suc o) i long at = go xs ys o i (omega (arith, long)) at

-- what is none stays none
none_stays : {A B : Type 0} (f : A → B) (x : Option A) → is_none x ≡ true → option_map f x ≡ None
none_stays f None e = refl
none_stays f (Some x) e = absurd (cc)

module _ (run : sim.State) (design : Elaborated) (its : run.design ≡ design) (envelopes : AllInEnvelopes design.tree) (old m : Member) (known : List Bool) (long : length known ≡ length design.tree.nodes)
    (before : List (Option (List Bit))) (are : AreValues design run.values old known before) (k : ℕ)
    (open_to : denied_seen (known_view design m (known_also design.tree m known design.tree.nodes)) right.Read k ≡ None)
    (readable : is_readable (kind_seen (known_view design m (known_also design.tree m known design.tree.nodes)) k) ≡ true) where
  abbrev now : List Bool
  now = known_also design.tree m known design.tree.nodes

  abbrev marks : List Bool
  marks = read_marks design.tree old known

  abbrev o : ℕ
  o = known_index now k

  abbrev bits : List Bit
  bits = slice_index_or run.values o (Unknown ∷ [])

  long_now : length now ≡ length design.tree.nodes
  long_now = now_long design.tree m known design.tree.nodes long

  denied_now : (r : _) (j : ℕ) → denied_seen (known_view design m now) r j ≡ option_map (words_of design.tree) (denial_at design.tree m r (known_index now j))
  denied_now r j = denied_seen_at design m now long_now envelopes r j

  came : slice_get (values_but marks run m now) k ≡ Some (if unwrap_or (slice_get marks o) false then None else Some bits)
  came = goes_by run design its m now long_now denied_now k open_to readable marks

  -- the kind in the view of before is the object's, too
  kind_before : (i : ℕ) → kind_at design.tree (known_index known i) ≡ kind_seen (known_view design old known) i
  kind_before i = sym (ap (option_map (λ n. n.kind)) (node_seen design old known i long) ∙ by_node (slice_get design.tree.nodes (known_index known i))) where
    by_node : (node : Option Node) → option_map (λ n. n.kind) (option_map (seen_node design old) node) ≡ option_map (λ (n : Node). n.kind) node
    by_node None = refl
    by_node (Some node) = refl

  -- a value that he could read before is known of each number that became this one
  were : is_none (denial_at design.tree old right.Read o) ≡ true → (i : ℕ) → slice_get (moved_numbers known now) i ≡ Some k → slice_get before i ≡ Some (Some bits)
  were undenied i at =
      let index : known_index known i ≡ o = (moved_at design.tree m known design.tree.nodes long i k at).1 in
      are i
      (denied_seen_at design old known long envelopes right.Read i ∙ ap (λ x. option_map (words_of design.tree) (denial_at design.tree old right.Read x)) index
      ∙ none_stays (words_of design.tree) (denial_at design.tree old right.Read o) undenied)
      (sym (ap is_readable (kind_before i)) ∙ ap (λ x. is_readable (kind_at design.tree x)) index
      ∙ ap is_readable (kind_is run design its m now long_now denied_now k open_to readable) ∙ readable)
      ∙ ap (λ x. Some (Some (slice_index_or run.values x (Unknown ∷ [])))) index

  -- so a value that he may read is known, whether it came or not
  value_kept : (b : Bool) → unwrap_or (slice_get marks o) false ≡ b → slice_get (granted_values (moved_numbers known now) before (values_but marks run m now)) k ≡ Some (Some bits)
  value_kept false e =
      came_stays (moved_numbers known now) before (values_but marks run m now) k bits
      (came ∙ ap Some (branch_false (unwrap_or (slice_get marks o) false) None (Some bits) e))
  value_kept true e =
      let (there, undenied) = marked_both (slice_get known o) (is_none (denial_at design.tree old right.Read o)) (mark_at (is_read design.tree old known) (length known) o e) in
      let (i, at) = number_before design.tree m known design.tree.nodes long k (is_within run design its m now long_now denied_now k open_to readable) there in
      known_stays (moved_numbers known now) before (values_but marks run m now) k bits (were undenied)
      (came ∙ ap Some (branch_true (unwrap_or (slice_get marks o) false) None (Some bits) e)) i at

-- the values after a change of grants are those of what a user may read then: what he may newly read came, and the rest he knew
pub kept_values_are : (run : sim.State) (design : Elaborated) → run.design ≡ design → AllInEnvelopes design.tree → (old m : Member) (known : List Bool) → length known ≡ length design.tree.nodes
    → (before : List (Option (List Bit))) → AreValues design run.values old known before
    → (let now : List Bool = known_also design.tree m known design.tree.nodes in
    AreValues design run.values m now (granted_values (moved_numbers known now) before (values_but (read_marks design.tree old known) run m now)))
kept_values_are run design its envelopes old m known long before are k open_to readable =
    value_kept run design its envelopes old m known long before are k open_to readable
    (unwrap_or (slice_get (read_marks design.tree old known) (known_index (known_also design.tree m known design.tree.nodes) k)) false) refl

-- ---- sessions of others

-- they differ the other way round
swapped : (a b : ℕ) → (a == b) ≡ false → (b == a) ≡ false
swapped a b e = grind (arith, e)

-- a session of another is untouched
untouched : (policy : PolicyState) (v : ℕ) (t : OpenSessionState) → (t.session_state.user == v) ≡ false → retired_for policy v t ≡ t
untouched policy v t e =
    ap (λ (b : Bool). record { id = t.id; session_state = if b then retired (is_watch_denied policy.tree (member_at policy.members v)) t.session_state else t.session_state }) e

-- each keeps its user
user_stays : (policy : PolicyState) (v : ℕ) (t : OpenSessionState) (b : Bool)
    → (if b then retired (is_watch_denied policy.tree (member_at policy.members v)) t.session_state else t.session_state).user ≡ t.session_state.user
user_stays policy v t true = refl
user_stays policy v t false = refl

-- a user's own sessions are of him
own_users : (u : ℕ) (known : List Bool) (mine world : List OpenSessionState) → AreSessions u known mine world → AreNamed world → All (λ (t : OpenSessionState). t.session_state.user ≡ u) mine
own_users u known mine world are named k d l =
    let all = all_passing (λ (t : OpenSessionState). t.session_state.user ≡ t.id.user.0) (is_of u) world named in
    let under_all = subst (All (λ (t : OpenSessionState). (t.session_state.user ≡ t.id.user.0) × (is_of u t ≡ true))) (sym are) all in
    let (user, own_event) = mapped_at mine k d l under_all in
    user ∙ same_number (slice_index_or mine k d).id.user.0 u own_event
  where
    mapped_at : (ts : List OpenSessionState) (k : ℕ) (d : OpenSessionState) → k < length ts → All (λ (t : OpenSessionState). (t.session_state.user ≡ t.id.user.0) × (is_of u t ≡ true)) (map (session_under known) ts)
        → ((slice_index_or ts k d).session_state.user ≡ (slice_index_or ts k d).id.user.0) × (is_of u (slice_index_or ts k d) ≡ true)
    mapped_at [] k d l h = absurd (omega arith)
    mapped_at (t ∷ ts) zero d l h = h 0 (session_under known t) (omega arith)
    mapped_at (t ∷ ts) (suc k) d l h = mapped_at ts k d (omega arith) (λ j e m. h (suc j) e (omega arith))

-- numbers that are the same
same_user : (a b : ℕ) → a ≡ b → (a == b) ≡ true
same_user a b e = grind (arith, e)

-- what is left of a session that was retired is on objects that may be watched
retired_watched : (v : View) (s : SessionState) → AreWatched v (retired (λ o. is_some (denied_seen v right.Watch o)) s).registry.callbacks
retired_watched v s =
    map_all (λ (c : Callback). Unit {0} × (not (is_some (denied_seen v right.Watch c.object.0)) ≡ true)) (λ (c : Callback). denied_seen v right.Watch c.object.0 ≡ None)
    (λ c h. not_some (denied_seen v right.Watch c.object.0) h.1)
    (filter (λ (c : Callback). not (is_some (denied_seen v right.Watch c.object.0))) s.registry.callbacks)
    (all_passing (λ (c : Callback). Unit {0}) (λ c. not (is_some (denied_seen v right.Watch c.object.0))) s.registry.callbacks (λ k d l. tt))

-- ---- the part after a change of a grant

-- what is after a change of the grant of another
pub granted_other : (design : Elaborated) (u : ℕ) (s : State) (known : List Bool) (p : Part) → IsPartOf design u s known p → (change : GrantChange) (v : ℕ) → (v == u) ≡ false
    → IsPartOf design u (granted_to s change v) known (part_following p design.tree (member_at s.policy.members u) known p.opens p.sessions None s.run p.races)
granted_other design u s known p is change v other =
    let policy = regranted s.policy v change.envelope change.access in
    let apart = not_equal v u other in
    let same : member_at s.policy.members u ≡ member_at policy.members u =
    sym (index_kept s.policy.members v u (regranted_user change.envelope change.access (member_at s.policy.members v)) nobody apart) in
    let mine = map_same (notified_session None s.run.time) (λ t. refl) p.sessions in
    record {
      its_design = is.its_design;
      its_tree = is.its_tree;
      many = is.many;
      view = is.view ∙ ap (λ (m : Member). known_view design m known) same;
      is_known = subst (λ (m : Member). IsKnown design s.run.values m known p.values) same is.is_known;
      counts = is.counts ∙ sym (length-set s.policy.members v (regranted_user change.envelope change.access (member_at s.policy.members v)));
      opens = is.opens;
      sessions =
          ap (map (session_under known)) mine ∙ is.sessions
          ∙ sym (filter_form (retired_for policy v) (is_of u) (λ t. refl) s.sessions
          ∙ map_alike (λ (t : OpenSessionState). (t.session_state.user ≡ t.id.user.0) × (is_of u t ≡ true)) (retired_for policy v) (λ (t : OpenSessionState). t)
          (λ t h. untouched policy v t (ap (λ (n : ℕ). n == v) (h.0 ∙ same_number t.id.user.0 u h.1) ∙ swapped v u other)) (filter (is_of u) s.sessions)
          (all_passing (λ (t : OpenSessionState). t.session_state.user ≡ t.id.user.0) (is_of u) s.sessions is.named)
          ∙ map_same (λ (t : OpenSessionState). t) (λ t. refl) (filter (is_of u) s.sessions));
      named = All-map (λ (t : OpenSessionState). t.session_state.user ≡ t.id.user.0) (retired_for policy v) s.sessions
          (map_all (λ (t : OpenSessionState). t.session_state.user ≡ t.id.user.0) (λ (t : OpenSessionState). (retired_for policy v t).session_state.user ≡ (retired_for policy v t).id.user.0)
          (λ t e. user_stays policy v t (t.session_state.user == v) ∙ e) s.sessions is.named);
      watched = subst (λ ts. AllWatched p.view ts) (sym mine) is.watched;
      time = refl;
      finished = refl;
      races = is.races ∙ ap (λ (m : Member). races_seen design.tree m s.book) same;
    }

-- what is after a change of his own grant
pub granted_own : (design : Elaborated) (u : ℕ) (s : State) (known : List Bool) (p : Part) → IsPartOf design u s known p → (change : GrantChange) → u < length s.policy.members
    → let t : State = granted_to s change u in
    let now : List Bool = known_also t.run.design.tree (member_at t.policy.members u) known t.run.design.tree.nodes in
    IsPartOf design u t now (part_granted p (granted_of u s t known now change))
granted_own design u s known p is change within =
    subst (λ (d : Elaborated). (let t : State = granted_to s change u in
    let now : List Bool = known_also d.tree (member_at t.policy.members u) known d.tree.nodes in
    IsPartOf design u t now (part_granted p (granted_of u s t known now change)))) (sym is.its_design) (in_design design u s known p is change within)
  where
    in_design : (design : Elaborated) (u : ℕ) (s : State) (known : List Bool) (p : Part) → IsPartOf design u s known p → (change : GrantChange) → u < length s.policy.members
        → (let t : State = granted_to s change u in
        let now : List Bool = known_also design.tree (member_at t.policy.members u) known design.tree.nodes in
        IsPartOf design u t now (part_granted p (granted_of u s t known now change)))
    in_design design u s known p is change within =
        let policy = regranted s.policy u change.envelope change.access in
        let m = member_at policy.members u in
        let t = granted_to s change u in
        let now = known_also design.tree m known design.tree.nodes in
        let g = granted_of u s t known now change in
        let long = now_long design.tree m known design.tree.nodes is.is_known.long in
        let denied = denied_seen_at design m now long is.is_known.envelopes in
        let view : g.view ≡ known_view design m now = ap (λ (d : Elaborated). known_view d m now) is.its_design in
        let old = member_at s.policy.members u in
        let values_now : AreValues design s.run.values m now (granted_values g.moved p.values g.values) =
        subst (λ (d : Elaborated). AreValues design s.run.values m now (granted_values (moved_numbers known now) p.values (values_but (read_marks d.tree old known) s.run m now))) (sym is.its_design)
        (kept_values_are s.run design is.its_design is.is_known.envelopes old m known is.is_known.long p.values is.is_known.are_values) in
        let count : length g.view.nodes ≡ length (marked now design.tree.nodes) =
        ap (λ (v : View). length v.nodes) view ∙ length-map (marked now design.tree.nodes) (seen_node design m) in
        let mv = moved_to g.moved (length g.view.nodes) in
        let moves = moved_is design.tree m known design.tree.nodes is.is_known.long (length g.view.nodes) count in
        let gone : (o : ℕ) → is_watch_denied policy.tree m (known_index now o) ≡ is_some (denied_seen g.view right.Watch o) =
        λ o. ap (λ (tr : Tree). is_some (denial_at tr m right.Watch (known_index now o))) is.its_tree
        ∙ sym (ap (λ v. is_some (denied_seen v right.Watch o)) view ∙ ap is_some (denied right.Watch o) ∙ some_words (words_of design.tree) (denial_at design.tree m right.Watch (known_index now o))) in
        record {
          its_design = is.its_design;
          its_tree = is.its_tree;
          many = is.many;
          view = view;
          is_known = record {
            long = long;
            envelopes = is.is_known.envelopes;
            differ = is.is_known.differ;
            covers = now_covers design.tree m known design.tree.nodes is.is_known.long;
            are_values = values_now;
          };
          counts = is.counts ∙ sym (length-set s.policy.members u (regranted_user change.envelope change.access (member_at s.policy.members u)));
          opens = is.opens;
          sessions =
              map_twice (granted_session g) (session_under now) p.sessions
              ∙ map_alike (λ (x : OpenSessionState). x.session_state.user ≡ u) (λ x. session_under now (granted_session g x)) (λ x. retired_for policy u (session_under known x))
              (λ x h. sym (ap (λ (b : Bool). record {
                id = x.id;
                session_state = if b then retired (is_watch_denied policy.tree m) (under.session_state (by_index known) x.session_state) else under.session_state (by_index known) x.session_state;
              }) (same_user x.session_state.user u h)
              ∙ ap (λ session_state. record { id = x.id; session_state = retired (is_watch_denied policy.tree m) session_state }) (session_state_moved known now mv moves x.session_state)
              ∙ ap (λ session_state. record { id = x.id; session_state = session_state }) (retired_under (by_index now) (λ o. is_some (denied_seen g.view right.Watch o)) (is_watch_denied policy.tree m) gone (moved_session_state mv x.session_state))))
              p.sessions (own_users u known p.sessions s.sessions is.sessions is.named)
              ∙ sym (map_twice (session_under known) (retired_for policy u) p.sessions)
              ∙ ap (map (retired_for policy u)) is.sessions
              ∙ sym (filter_form (retired_for policy u) (is_of u) (λ x. refl) s.sessions);
          named = All-map (λ (x : OpenSessionState). x.session_state.user ≡ x.id.user.0) (retired_for policy u) s.sessions
              (map_all (λ (x : OpenSessionState). x.session_state.user ≡ x.id.user.0) (λ (x : OpenSessionState). (retired_for policy u x).session_state.user ≡ (retired_for policy u x).id.user.0)
              (λ x e. user_stays policy u x (x.session_state.user == u) ∙ e) s.sessions is.named);
          watched = All-map (λ (x : OpenSessionState). AreWatched g.view x.session_state.registry.callbacks) (granted_session g) p.sessions
              (λ k d l. retired_watched g.view (moved_session_state mv (slice_index_or p.sessions k d).session_state));
          time = is.time;
          finished = is.finished;
          races = ap (λ (d : Elaborated). races_seen d.tree m s.book) is.its_design;
        }
