-- The objects of a design have different names, so each is the first that has its names.
use Rattle.std.proofs.Common.{◌≡◌, ℕ, zero, suc, ◌<◌, Bool, false, true, List, [], ◌∷◌, ◌++◌, length, Option, Some, None, refl, ap, sym, subst, ◌∙◌, arith, append_assoc, append-nil}
use Rattle.std.proofs.lemmas.Slice.Eq.{bytes_eq-Decides}
use Rattle.std.proofs.lemmas.List.Folds.{list_any-append}
use Rattle.std.proofs.lemmas.List.Sums.{position_or_len_is}
use Rattle.std.specs.Prelude.{◌||◌, ◌&&◌, nat_lt, cond, if◌then◌else◌, filter, map, slice_get, slice_index_or}
use Rattle.std.specs.List.{All, flat_map}
use Rattle.std.specs.Option.{option_and_then, option_map_or}
use Rattle.std.specs.Str.{bytes_eq}
use Rattle.std.proofs.lemmas.List.{map-append}
use Rattle.std.proofs.lemmas.List.Elements.{All-append, All-cons, All-nil}
use Rattle.vp_source.specs.declared.source.Source.{Source}
use Rattle.vp_source.specs.declared.source.Module as declared
use Rattle.vp_source.specs.declared.source.Item.{Item}
use Rattle.vp_pragma.specs.declared.envelope.Envelope.{Envelope}
use Rattle.vp_modules.specs.declared.error.ElabError.{ElabError}
use Rattle.vp_modules.specs.declared.error.ElabError.TheVariants.{Duplicate}
use Rattle.vp_source.specs.Places.{line_at, word_at}
use Rattle.vp_modules.specs.Items.{definition_of, instantiated, is_among, is_top, item_name, item_place, items_in, module_named, module_number}
use Rattle.vp_modules.specs.Refusals.{first_of_two, twice, twice_in}
use Rattle.vp_modules.specs.ModuleRefusals.{refusal_of, refusal_of_instances, refusal_of_uses}
use Rattle.vp_pragma.specs.Envelopes.{Protection}
use Rattle.vp_elab.specs.Elaboration.{further_limit, tree_of, item_node, item_nodes, item_step, nodes_below, root_step, top_nodes, tops}
use Rattle.vp_elab.specs.Tree.{Node, Step, find_named, is_named, names_of}

-- the names on the paths of nodes
abbrev pub keys : List Node → List (List (List ℕ))
keys nodes = map (λ node. names_of node.path) nodes

-- no two of these are the same
abbrev pub Differ : {X : Type 0} → List X → Type 0
Differ [] = Unit {0}
Differ (k ∷ ks) = All (λ l. l ≡ k → ⊥) ks × Differ ks

-- the first, and the others
first_all : {X : Type 0} (P : X → Type 0) (x : X) (xs : List X) → All P (x ∷ xs) → P x
first_all P x xs h = h 0 x (omega arith)

-- the others
rest_all : {X : Type 0} (P : X → Type 0) (x : X) (xs : List X) → All P (x ∷ xs) → All P xs
rest_all P x xs h k d l = h (suc k) d (omega arith)

-- what follows for each
map_all : {X : Type 0} (P Q : X → Type 0) → ((x : X) → P x → Q x) → (xs : List X) → All P xs → All Q xs
map_all P Q f xs h k d l = f (slice_index_or xs k d) (h k d l)

-- two lists, one after the other
pub differ_append : {X : Type 0} (xs ys : List X) → Differ xs → Differ ys → All (λ x. All (λ y. y ≡ x → ⊥) ys) xs → Differ (xs ++ ys)
differ_append [] ys dx dy cross = dy
differ_append (x ∷ xs) ys (a, dx) dy cross =
    (All-append (λ l. l ≡ x → ⊥) xs ys a (first_all (λ z. All (λ y. y ≡ z → ⊥) ys) x xs cross), differ_append xs ys dx dy (rest_all (λ z. All (λ y. y ≡ z → ⊥) ys) x xs cross))

-- names that begin with these, and go on with this one
abbrev IsBelow : List (List ℕ) → List ℕ → List (List ℕ) → Type 0
IsBelow above name key = (rest : List (List ℕ)) × (key ≡ above ++ name ∷ rest)

-- names that begin with these, and go on
abbrev IsUnder : List (List ℕ) → List (List ℕ) → Type 0
IsUnder above key = (name : List ℕ) × IsBelow above name key

-- the name after the same names
same_head : (above : List (List ℕ)) (a b : List ℕ) (r s : List (List ℕ)) → above ++ a ∷ r ≡ above ++ b ∷ s → a ≡ b
same_head [] a b r s e = let is : a ∷ r ≡ b ∷ s = e in cc
same_head (x ∷ above) a b r s e = let is : x ∷ (above ++ a ∷ r) ≡ x ∷ (above ++ b ∷ s) = e in same_head above a b r s cc

-- all that is after them
same_tail : (above : List (List ℕ)) (r s : List (List ℕ)) → above ++ r ≡ above ++ s → r ≡ s
same_tail [] r s e = e
same_tail (x ∷ above) r s e = let is : x ∷ (above ++ r) ≡ x ∷ (above ++ s) = e in same_tail above r s cc

-- names below one name differ from those below another
apart : (above : List (List ℕ)) (a b : List ℕ) (k l : List (List ℕ)) → (a ≡ b → ⊥) → IsBelow above a k → IsBelow above b l → l ≡ k → ⊥
apart above a b k l n (r, e) (s, f) is = n (same_head above a b r s (sym e ∙ sym is ∙ f))

-- the names of some nodes whose first differ after these
below_all : {X : Type 0} (above : List (List ℕ)) (F : X → List Node) (name : X → List ℕ) (is : List X)
    → ((i : X) → All (IsBelow above (name i)) (keys (F i))) → All (IsUnder above) (keys (flat_map F is))
below_all above F name [] h = All-nil (IsUnder above)
below_all above F name (i ∷ is) h =
    subst (All (IsUnder above)) (sym (map-append (λ node. names_of node.path) (F i) (flat_map F is)))
    (All-append (IsUnder above) (keys (F i)) (keys (flat_map F is)) (map_all (IsBelow above (name i)) (IsUnder above) (λ k b. (name i, b)) (keys (F i)) (h i)) (below_all above F name is h))

-- names below one name differ from those of all others
cross_one : {X : Type 0} (above : List (List ℕ)) (a : List ℕ) (F : X → List Node) (name : X → List ℕ) (is : List X)
    → ((i : X) → All (IsBelow above (name i)) (keys (F i))) → All (λ i. a ≡ name i → ⊥) is
    → (k : List (List ℕ)) → IsBelow above a k → All (λ l. l ≡ k → ⊥) (keys (flat_map F is))
cross_one above a F name [] h n k b = All-nil (λ l. l ≡ k → ⊥)
cross_one above a F name (i ∷ is) h n k b =
    subst (All (λ l. l ≡ k → ⊥)) (sym (map-append (λ node. names_of node.path) (F i) (flat_map F is)))
    (All-append (λ l. l ≡ k → ⊥) (keys (F i)) (keys (flat_map F is))
    (map_all (IsBelow above (name i)) (λ l. l ≡ k → ⊥) (λ l c. apart above a (name i) k l (first_all (λ j. a ≡ name j → ⊥) i is n) b c) (keys (F i)) (h i))
    (cross_one above a F name is h (rest_all (λ j. a ≡ name j → ⊥) i is n) k b))

-- a name differs from those of all items
mapped_at : {X : Type 0} (f : X → List ℕ) (a : List ℕ) (js : List X) → All (λ l. l ≡ a → ⊥) (map f js) → All (λ j. a ≡ f j → ⊥) js
mapped_at f a [] all k e l same = absurd (omega arith)
mapped_at f a (j ∷ js) all zero e l same = first_all (λ l. l ≡ a → ⊥) (f j) (map f js) all (sym same)
mapped_at f a (j ∷ js) all (suc k) e l same = mapped_at f a js (rest_all (λ l. l ≡ a → ⊥) (f j) (map f js) all) k e (omega arith) same

-- items of different names have nodes of different names
flat_differ : {X : Type 0} (above : List (List ℕ)) (F : X → List Node) (name : X → List ℕ) (is : List X)
    → ((i : X) → All (IsBelow above (name i)) (keys (F i))) → All (λ i. Differ (keys (F i))) is → Differ (map name is)
    → Differ (keys (flat_map F is))
flat_differ above F name [] h d n = tt
flat_differ above F name (i ∷ is) h d (first, rest) =
    let others = mapped_at name (name i) is first in
    subst Differ (sym (map-append (λ node. names_of node.path) (F i) (flat_map F is)))
    (differ_append (keys (F i)) (keys (flat_map F is)) (first_all (λ j. Differ (keys (F j))) i is d) (flat_differ above F name is h (rest_all (λ j. Differ (keys (F j))) i is d) rest)
    (map_all (IsBelow above (name i)) (λ k. All (λ l. l ≡ k → ⊥) (keys (flat_map F is))) (λ k b. cross_one above (name i) F name is h others k b) (keys (F i)) (h i)))

-- names after these and one more
one_more : (above : List (List ℕ)) (name : List ℕ) (key : List (List ℕ)) → IsUnder (above ++ name ∷ []) key → IsBelow above name key
one_more above name key (next, (rest, e)) = (next ∷ rest, e ∙ append_assoc above (name ∷ []) (next ∷ rest))

-- no names after these and more are these
longer : (key l : List (List ℕ)) → IsUnder key l → l ≡ key → ⊥
longer key l (next, (rest, e)) same =
    let is : next ∷ rest ≡ [] = same_tail key (next ∷ rest) [] (sym e ∙ same ∙ sym (append-nil key)) in cc

-- the names on the path to an item
item_key : (source : Source) (envelopes : List Envelope) (above : List Step) (m : declared.Module) (i : Item)
    → names_of (item_node source envelopes above m i).path ≡ names_of above ++ item_name source i ∷ []
item_key source envelopes above m i = map-append (λ s. s.name) above (item_step source envelopes m i ∷ [])

-- the nodes below an item, of a module or none
below_of : (above : List (List ℕ)) (name : List ℕ) (F : declared.Module → List Node) → ((m : declared.Module) → All (IsUnder (above ++ name ∷ [])) (keys (F m)))
    → (m : Option declared.Module) → All (IsUnder (above ++ name ∷ [])) (keys (option_map_or F m []))
below_of above name F h None = All-nil (IsUnder (above ++ name ∷ []))
below_of above name F h (Some m) = h m

-- so it is of the nodes of an item
item_all : (source : Source) (envelopes : List Envelope) (d : ℕ) → ((above : List Step) (m : declared.Module) → All (IsUnder (names_of above)) (keys (nodes_below source envelopes d above m)))
    → (above : List Step) (m : declared.Module) (i : Item)
    → All (IsBelow (names_of above) (item_name source i)) (keys (item_nodes source envelopes (nodes_below source envelopes d) above m i))
item_all source envelopes d h above m i =
    let key = item_key source envelopes above m i in
    let next = above ++ item_step source envelopes m i ∷ [] in
    let under = below_of (names_of above) (item_name source i) (nodes_below source envelopes d next)
    (λ below. subst (λ (ns : List (List ℕ)). All (IsUnder ns) (keys (nodes_below source envelopes d next below))) key (h next below)) (definition_of source i) in
    All-cons (IsBelow (names_of above) (item_name source i)) (names_of next) (keys (option_map_or (nodes_below source envelopes d next) (definition_of source i) []))
    ([], key)
    (map_all (IsUnder (names_of above ++ item_name source i ∷ [])) (IsBelow (names_of above) (item_name source i)) (one_more (names_of above) (item_name source i))
    (keys (option_map_or (nodes_below source envelopes d next) (definition_of source i) [])) under)

-- and of those below an object
nodes_all : (source : Source) (envelopes : List Envelope) (d : ℕ) (above : List Step) (m : declared.Module) → All (IsUnder (names_of above)) (keys (nodes_below source envelopes d above m))
nodes_all source envelopes zero above m = All-nil (IsUnder (names_of above))
nodes_all source envelopes (suc d) above m =
    below_all (names_of above) (item_nodes source envelopes (nodes_below source envelopes d) above m) (item_name source) (items_in source m)
    (item_all source envelopes d (nodes_all source envelopes d) above m)

-- the items of a module have different names
abbrev AreNamed : Source → declared.Module → Type 0
AreNamed source m = Differ (map (item_name source) (items_in source m))

-- the nodes of a module, or none
differ_of : (F : declared.Module → List Node) (m : Option declared.Module) → ((n : declared.Module) → m ≡ Some n → Differ (keys (F n))) → Differ (keys (option_map_or F m []))
differ_of F None h = tt
differ_of F (Some m) h = h m refl

-- so the nodes below an object have different names
nodes_differ : (source : Source) (envelopes : List Envelope) → ((i : Item) (n : declared.Module) → definition_of source i ≡ Some n → AreNamed source n)
    → (d : ℕ) (above : List Step) (m : declared.Module) → AreNamed source m → Differ (keys (nodes_below source envelopes d above m))
nodes_differ source envelopes right zero above m named = tt
nodes_differ source envelopes right (suc d) above m named =
    flat_differ (names_of above) (item_nodes source envelopes (nodes_below source envelopes d) above m) (item_name source) (items_in source m)
    (item_all source envelopes d (nodes_all source envelopes d) above m)
    (λ k e l.
    let i = slice_index_or (items_in source m) k e in
    let next = above ++ item_step source envelopes m i ∷ [] in
    let key = item_key source envelopes above m i in
    let under = below_of (names_of above) (item_name source i) (nodes_below source envelopes d next)
    (λ below. subst (λ (ns : List (List ℕ)). All (IsUnder ns) (keys (nodes_below source envelopes d next below))) key (nodes_all source envelopes d next below)) (definition_of source i) in (
      subst (λ (k : List (List ℕ)). All (λ l. l ≡ k → ⊥) (keys (option_map_or (nodes_below source envelopes d next) (definition_of source i) []))) (sym key)
          (map_all (IsUnder (names_of above ++ item_name source i ∷ [])) (λ l. l ≡ names_of above ++ item_name source i ∷ [] → ⊥) (longer (names_of above ++ item_name source i ∷ []))
          (keys (option_map_or (nodes_below source envelopes d next) (definition_of source i) [])) under),
      differ_of (nodes_below source envelopes d next) (definition_of source i) (λ n is. nodes_differ source envelopes right d next n (right i n is)),
    ))
    named

-- ---- from the text

-- a test that refuses, where nothing is refused
not_refused : {E : Type 0} (b : Bool) (e : E) (o : Option E) → (if b then Some e else o) ≡ None → (b ≡ false) × (o ≡ None)
not_refused true e o is = absurd (cc)
not_refused false e o is = (refl, is)

-- the first of two refusals, where nothing is refused
neither : (a b : Option ElabError) → first_of_two a b ≡ None → (a ≡ None) × (b ≡ None)
neither None b is = (refl, is)
neither (Some e) b is = absurd (cc)

-- a name that is not among others and one more
among_less : (names : List (List ℕ)) (n x : List ℕ) → is_among (names ++ n ∷ []) x ≡ false → (is_among names x ≡ false) × (x ≡ n → ⊥)
among_less names n x e =
    let both = or_false (is_among names x) (is_among (n ∷ []) x) (sym (list_any-append (bytes_eq x) names (n ∷ [])) ∙ e) in
    (both.0, λ same. not_itself n (or_false (bytes_eq n n) false (subst (λ (y : List ℕ). is_among (n ∷ []) y ≡ false) same both.1)).0)
  where
    or_false : (a b : Bool) → (a || b) ≡ false → (a ≡ false) × (b ≡ false)
    or_false true b is = absurd (cc)
    or_false false b is = (refl, is)

    not_itself : (n : List ℕ) → bytes_eq n n ≡ false → ⊥
    not_itself n is = let self = (bytes_eq-Decides n n).1 refl in cc

-- items of which none is refused as declared twice have different names, none of which is among those before
item_names : (source : Source) (names : List (List ℕ)) (is : List Item) → twice source names is ≡ None
    → All (λ k. is_among names k ≡ false) (map (item_name source) is) × Differ (map (item_name source) is)
item_names source names [] e = (All-nil (λ k. is_among names k ≡ false), tt)
item_names source names (i ∷ is) e =
    let n = item_name source i in
    let both = not_refused (is_among names n) (Duplicate (line_at source (item_place i))) (twice source (names ++ n ∷ []) is) e in
    let more = item_names source (names ++ n ∷ []) is both.1 in (
      All-cons (λ k. is_among names k ≡ false) n (map (item_name source) is) both.0
          (map_all (λ k. is_among (names ++ n ∷ []) k ≡ false) (λ k. is_among names k ≡ false) (λ k h. (among_less names n k h).0) (map (item_name source) is) more.0),
      (map_all (λ k. is_among (names ++ n ∷ []) k ≡ false) (λ k. k ≡ n → ⊥) (λ k h. (among_less names n k h).1) (map (item_name source) is) more.0, more.1),
    )

-- the name of a module
abbrev module_name : Source → declared.Module → List ℕ
module_name source m = word_at source m.name

-- modules of which nothing is refused as declared twice have different names, and each has items of different names
module_names : (source : Source) (names : List (List ℕ)) (ms : List declared.Module) → twice_in source names ms ≡ None
    → All (λ k. is_among names k ≡ false) (map (module_name source) ms) × Differ (map (module_name source) ms) × All (AreNamed source) ms
module_names source names [] e = (All-nil (λ k. is_among names k ≡ false), tt, All-nil (AreNamed source))
module_names source names (m ∷ ms) e =
    let n = module_name source m in
    let both = not_refused (is_among names n) (Duplicate (line_at source m.name)) (first_of_two (twice source [] (items_in source m)) (twice_in source (names ++ n ∷ []) ms)) e in
    let two = neither (twice source [] (items_in source m)) (twice_in source (names ++ n ∷ []) ms) both.1 in
    let more = module_names source (names ++ n ∷ []) ms two.1 in (
      All-cons (λ k. is_among names k ≡ false) n (map (module_name source) ms) both.0
          (map_all (λ k. is_among (names ++ n ∷ []) k ≡ false) (λ k. is_among names k ≡ false) (λ k h. (among_less names n k h).0) (map (module_name source) ms) more.0),
      (map_all (λ k. is_among (names ++ n ∷ []) k ≡ false) (λ k. k ≡ n → ⊥) (λ k h. (among_less names n k h).1) (map (module_name source) ms) more.0, more.1),
      All-cons (AreNamed source) m ms (item_names source [] (items_in source m) two.0).1 more.2,
    )

-- one more, if it passes
apart_test : {X : Type 0} (name : X → List ℕ) (a : List ℕ) (b : Bool) (x : X) (xs : List X) → (name x ≡ a → ⊥) → All (λ l. l ≡ a → ⊥) (map name xs)
    → All (λ l. l ≡ a → ⊥) (map name (if b then x ∷ xs else xs))
apart_test name a true x xs n h = All-cons (λ l. l ≡ a → ⊥) (name x) (map name xs) n h
apart_test name a false x xs n h = h

-- what passes a test still differs from a name
filter_apart : {X : Type 0} (name : X → List ℕ) (p : X → Bool) (a : List ℕ) (xs : List X) → All (λ l. l ≡ a → ⊥) (map name xs) → All (λ l. l ≡ a → ⊥) (map name (filter p xs))
filter_apart name p a [] h = All-nil (λ l. l ≡ a → ⊥)
filter_apart name p a (x ∷ xs) h =
    apart_test name a (p x) x (filter p xs) (first_all (λ l. l ≡ a → ⊥) (name x) (map name xs) h) (filter_apart name p a xs (rest_all (λ l. l ≡ a → ⊥) (name x) (map name xs) h))

-- one more, if it passes
differ_test : {X : Type 0} (name : X → List ℕ) (b : Bool) (x : X) (xs : List X) → All (λ l. l ≡ name x → ⊥) (map name xs) → Differ (map name xs)
    → Differ (map name (if b then x ∷ xs else xs))
differ_test name true x xs n d = (n, d)
differ_test name false x xs n d = d

-- what passes a test among things of different names
filter_differ : {X : Type 0} (name : X → List ℕ) (p : X → Bool) (xs : List X) → Differ (map name xs) → Differ (map name (filter p xs))
filter_differ name p [] d = tt
filter_differ name p (x ∷ xs) (first, rest) = differ_test name (p x) x (filter p xs) (filter_apart name p (name x) xs first) (filter_differ name p xs rest)

-- ---- modules

-- the first module of a name is one of the modules
named_all : (P : declared.Module → Type 0) (ms : List declared.Module) (n : ℕ) (m : declared.Module) → All P ms → slice_get ms n ≡ Some m → P m
named_all P [] n m h e = absurd (cc)
named_all P (x ∷ ms) zero m h e = let is : x ≡ m = cc in subst P is (first_all P x ms h)
named_all P (x ∷ ms) (suc n) m h e = named_all P ms n m (rest_all P x ms h) e

-- so is the definition of an item
definition_named : (source : Source) (P : declared.Module → Type 0) → All P source.modules → (i : Item) (m : declared.Module) → definition_of source i ≡ Some m → P m
definition_named source P h i m e = by_name (instantiated source i) e where
  by_number : (n : Option ℕ) → option_and_then (slice_get source.modules) n ≡ Some m → P m
  by_number None is = absurd (cc)
  by_number (Some n) is = named_all P source.modules n m h is

  by_name : (name : Option (List ℕ)) → option_and_then (module_named source) name ≡ Some m → P m
  by_name None is = absurd (cc)
  by_name (Some name) is = by_number (module_number source name) is

-- the nodes of a top module begin with its name
top_all : (source : Source) (envelopes : List Envelope) (d : ℕ) (m : declared.Module) → All (IsBelow [] (module_name source m)) (keys (top_nodes source envelopes d m))
top_all source envelopes d m =
    All-cons (IsBelow [] (module_name source m)) (module_name source m ∷ []) (keys (nodes_below source envelopes d (root_step source envelopes m ∷ []) m)) ([], refl)
    (map_all (IsUnder (module_name source m ∷ [])) (IsBelow [] (module_name source m)) (one_more [] (module_name source m))
    (keys (nodes_below source envelopes d (root_step source envelopes m ∷ []) m)) (nodes_all source envelopes d (root_step source envelopes m ∷ []) m))

-- and have different names
top_differ : (source : Source) (envelopes : List Envelope) → All (AreNamed source) source.modules → (d : ℕ) (m : declared.Module) → AreNamed source m → Differ (keys (top_nodes source envelopes d m))
top_differ source envelopes right d m named = (
  map_all (IsUnder (module_name source m ∷ [])) (λ l. l ≡ module_name source m ∷ [] → ⊥) (longer (module_name source m ∷ []))
      (keys (nodes_below source envelopes d (root_step source envelopes m ∷ []) m)) (nodes_all source envelopes d (root_step source envelopes m ∷ []) m),
  nodes_differ source envelopes (definition_named source (AreNamed source) right) d (root_step source envelopes m ∷ []) m named,
)

-- one more, if it passes
one_all : {X : Type 0} (P : X → Type 0) (b : Bool) (x : X) (xs : List X) → P x → All P xs → All P (if b then x ∷ xs else xs)
one_all P true x xs h all = All-cons P x xs h all
one_all P false x xs h all = all

-- what all have, those have that pass a test
pub filter_all : {X : Type 0} (P : X → Type 0) (p : X → Bool) (xs : List X) → All P xs → All P (filter p xs)
filter_all P p [] h = All-nil P
filter_all P p (x ∷ xs) h = one_all P (p x) x (filter p xs) (first_all P x xs h) (filter_all P p xs (rest_all P x xs h))

-- the objects of a source whose modules are right have different names
pub names_differ : (source : Source) (protection : Protection) → refusal_of source ≡ None → Differ (keys (tree_of source protection).nodes)
names_differ source protection right =
    let two = neither (twice_in source [] source.modules) (first_of_two (refusal_of_instances source) (refusal_of_uses source)) right in
    let all = module_names source [] source.modules two.0 in
    let envelopes = protection.envelopes in
    flat_differ [] (top_nodes source envelopes (suc further_limit)) (module_name source) (tops source) (top_all source envelopes (suc further_limit))
    (map_all (AreNamed source) (λ m. Differ (keys (top_nodes source envelopes (suc further_limit) m))) (top_differ source envelopes all.2 (suc further_limit)) (tops source)
    (filter_all (AreNamed source) (is_top source) source.modules all.2))
    (filter_differ (module_name source) (is_top source) source.modules all.1)

-- ---- objects by their names

-- steps have their own names
pub own_names : (path : List Step) → is_named (names_of path) path ≡ true
own_names [] = refl
own_names (s ∷ path) = let self = (bytes_eq-Decides s.name s.name).1 refl in let rest = own_names path in cc

-- both of two
both_true : (a b : Bool) → (a && b) ≡ true → (a ≡ true) × (b ≡ true)
both_true true b h = (refl, h)
both_true false b h = absurd (cc)

-- and only these
pub names_only : (names : List (List ℕ)) (path : List Step) → is_named names path ≡ true → names ≡ names_of path
names_only [] [] h = refl
names_only [] (s ∷ path) h = absurd (cc)
names_only (n ∷ names) [] h = absurd (cc)
names_only (n ∷ names) (s ∷ path) h =
    let both = both_true (bytes_eq n s.name) (is_named names path) h in
    ap (λ (x : List ℕ). x ∷ names) ((bytes_eq-Decides n s.name).0 both.0) ∙ ap (λ xs. s.name ∷ xs) (names_only names path both.1)

-- what holds of the names of all nodes holds of those of one
of_node : (P : List (List ℕ) → Type 0) (nodes : List Node) (k : ℕ) (node : Node) → All P (keys nodes) → slice_get nodes k ≡ Some node → P (names_of node.path)
of_node P [] k node h at = absurd (cc)
of_node P (x ∷ nodes) zero node h at = let is : x ≡ node = cc in subst (λ (n : Node). P (names_of n.path)) is (first_all P (names_of x.path) (keys nodes) h)
of_node P (x ∷ nodes) (suc k) node h at = of_node P nodes k node (rest_all P (names_of x.path) (keys nodes) h) at

-- no node before it has its names
none_before : (nodes : List Node) (k : ℕ) (node : Node) → Differ (keys nodes) → slice_get nodes k ≡ Some node
    → (j : ℕ) → j < k → names_of node.path ≡ names_of (slice_index_or nodes j node).path → ⊥
none_before [] k node d at j l same = absurd (cc)
none_before (x ∷ nodes) zero node d at j l same = absurd (omega arith)
none_before (x ∷ nodes) (suc k) node (first, rest) at zero l same = of_node (λ n. n ≡ names_of x.path → ⊥) nodes k node first at same
none_before (x ∷ nodes) (suc k) node (first, rest) at (suc j) l same = none_before nodes k node rest at j (omega arith) same

-- the node of an index
node_at : (nodes : List Node) (k : ℕ) (node d : Node) → slice_get nodes k ≡ Some node → (k < length nodes) × (slice_index_or nodes k d ≡ node)
node_at [] k node d at = absurd (cc)
node_at (x ∷ nodes) zero node d at = (omega arith, cc)
node_at (x ∷ nodes) (suc k) node d at = let rest = node_at nodes k node d at in (omega (arith, rest.0), rest.1)

-- a test that does not hold
not_named : (b : Bool) → (b ≡ true → ⊥) → b ≡ false
not_named true h = absurd (h refl)
not_named false h = refl

-- an index within
within : (k n : ℕ) → k < n → cond (nat_lt k n) (Some k) None ≡ Some k
within k n l = let is : nat_lt k n ≡ true = grind arith in ap (λ b. cond b (Some k) None) is

-- the object of a number is the first that has its names
pub found_by_names : (nodes : List Node) (k : ℕ) (node : Node) → Differ (keys nodes) → slice_get nodes k ≡ Some node → find_named nodes (names_of node.path) ≡ Some k
found_by_names nodes k node d at =
    let test : Node → Bool = λ n. is_named (names_of node.path) n.path in
    let there = node_at nodes k node node at in
    let index = position_or_len_is test nodes k node (omega (arith, there.0))
    (λ j l. not_named (test (slice_index_or nodes j node))
    (λ is. none_before nodes k node d at j l (names_only (names_of node.path) (slice_index_or nodes j node).path is)))
    (λ l. subst (λ (n : Node). test n ≡ true) (sym there.1) (own_names node.path)) in
    ap (λ (i : ℕ). cond (nat_lt i (length nodes)) (Some i) None) index ∙ within k (length nodes) there.0
