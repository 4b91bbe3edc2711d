-- Tables: what is granted to a user, his rights on each object, and the tables of all users.
use Rattle.std.proofs.Common.{◌≡◌, ◌≢◌, ℕ, zero, suc, ◌+◌, ◌-◌, ◌<◌, ◌≤◌, false, List, [], ◌∷◌, ◌++◌, length, map, take, set, get_or, slice_get, Option, Some, None, min, refl, replicate, sym, ap, subst, ◌∙◌, arith, inl, inr}
use Rattle.std.specs.Prelude.{is_some, not, slice_index_or}
use Rattle.std.specs.Option.{option_map_or}
use Rattle.std.proofs.lemmas.Bool.{cases_lt}
use Rattle.std.proofs.lemmas.List.{get_or-replicate, get_or-set_other, get_or-set_same, get_or_past, length-map, length-set, map-append, take_more}
use Rattle.std.proofs.lemmas.Option.{slice_get-get_or}
use Rattle.vp_pragma.specs.declared.rights.Right.{Right}
use Rattle.vp_pragma.specs.declared.rights.Rights.{Rights}
use Rattle.vp_pragma.specs.Rights.{RightSet, has, nothing, set_of}
use Rattle.vp_elab.specs.declared.object.Kind.TheVariants as kind
use Rattle.vp_elab.specs.Tree.{Node, Tree}
use Rattle.vp_policy.specs.declared.rights_tables.RightsTables.{RightsTables}
use Rattle.vp_policy.specs.declared.rights_tables.UserTables.{UserTables}
use Rattle.vp_policy.specs.declared.scope_lists.ScopeLists.{ScopeLists}
use Rattle.vp_policy.specs.Filter.{denial, denial_at, rights, rights_at}
use Rattle.vp_policy.specs.RightsTables.{AreGranted, AreTables, AreTablesOf, rights_on}
use Rattle.vp_policy.specs.ScopeLists.{AreScopeLists}
use Rattle.vp_policy.specs.Users.{Member, granted, member_at, nobody}
use Rattle.vp_policy.proofs.Entries.{last_cases, same_entry, set_cases}
use Rattle.vp_policy.proofs.Laws.{denied_path}

-- ---- rights

get-take : {X : Type 0} (xs : List X) (n i : ℕ) → i < n → slice_get (take n xs) i ≡ slice_get xs i
get-take [] zero i l = refl
get-take [] (suc n) i l = refl
get-take (x ∷ xs) zero i l = absurd (omega arith)
get-take (x ∷ xs) (suc n) zero l = refl
get-take (x ∷ xs) (suc n) (suc i) l = get-take xs n i (omega arith)

-- the rights on one of the first so many objects
pub rights_before : (tree : Tree) (u : Member) (row : List Rights) (n i : ℕ) → map set_of row ≡ rights_on tree u (take n tree.nodes) → i < n → option_map_or set_of (slice_get row i) nothing ≡ rights_at tree u i
rights_before tree u row n i are l =
    same_entry set_of (λ (node : Node). rights tree u node.path) (λ (his : RightSet). his) nothing row (take n tree.nodes) i are
    ∙ ap (λ (o : Option Node). option_map_or (λ (node : Node). rights tree u node.path) o nothing) (get-take tree.nodes n i l)

-- the rights on one object more
pub rights_more : (tree : Tree) (u : Member) (row : List Rights) (n : ℕ) (next : Rights) → n < length tree.nodes → map set_of row ≡ rights_on tree u (take n tree.nodes) → set_of next ≡ rights_at tree u n → map set_of (row ++ next ∷ []) ≡ rights_on tree u (take (n + 1) tree.nodes)
rights_more tree u row n next l are is =
    let blank : Node = record { path = []; kind = kind.Reg; width = 0; lowest = None; line = 0; definition = None } in
    let here : Node = get_or tree.nodes n blank in
    let own : set_of next ≡ rights tree u here.path =
    is ∙ ap (λ (o : Option Node). option_map_or (λ (node : Node). rights tree u node.path) o nothing) (slice_get-get_or tree.nodes n blank l) in
    map-append set_of row (next ∷ [])
    ∙ ap (λ (rs : List RightSet). rs ++ set_of next ∷ []) are
    ∙ ap (λ (r : RightSet). rights_on tree u (take n tree.nodes) ++ r ∷ []) own
    ∙ sym (map-append (λ (node : Node). rights tree u node.path) (take n tree.nodes) (here ∷ []))
    ∙ sym (ap (rights_on tree u) (take_more tree.nodes n blank l))

-- as many rights as objects
pub row_long : (tree : Tree) (u : Member) (row : List Rights) → map set_of row ≡ rights_on tree u tree.nodes → length row ≡ length tree.nodes
row_long tree u row are = sym (length-map row set_of) ∙ ap length are ∙ length-map tree.nodes (λ (node : Node). rights tree u node.path)

-- the rights on each object
pub row_each : (tree : Tree) (u : Member) (row : List Rights) → map set_of row ≡ rights_on tree u tree.nodes → (o : ℕ) → option_map_or set_of (slice_get row o) nothing ≡ rights_at tree u o
row_each tree u row are o = same_entry set_of (λ (node : Node). rights tree u node.path) (λ (his : RightSet). his) nothing row tree.nodes o are

denied_on : (tree : Tree) (u : Member) (r : Right) (o : Option Node) → option_map_or (λ (node : Node). not (has r (rights tree u node.path))) o false ≡ is_some (denial tree u r (option_map_or (λ (node : Node). node.path) o []))
denied_on tree u r None = refl
denied_on tree u r (Some node) = sym (denied_path tree u r node.path)

-- a right is lacking where it is denied
pub row_denied : (tree : Tree) (u : Member) (row : List Rights) → map set_of row ≡ rights_on tree u tree.nodes → (r : Right) (o : ℕ) → option_map_or (λ (his : Rights). not (has r (set_of his))) (slice_get row o) false ≡ is_some (denial_at tree u r o)
row_denied tree u row are r o =
    same_entry set_of (λ (node : Node). rights tree u node.path) (λ (his : RightSet). not (has r his)) false row tree.nodes o are
    ∙ denied_on tree u r (slice_get tree.nodes o)

-- ---- what is granted

-- what is granted in one envelope more
pub granted_more : (u : Member) (row : List Rights) (n : ℕ) (next : Rights) → n < length row → ((e : ℕ) (d : Rights) → e < n → set_of (slice_index_or row e d) ≡ granted u e) → set_of next ≡ granted u n → (e : ℕ) (d : Rights) → e < n + 1 → set_of (slice_index_or (set row n next) e d) ≡ granted u e
granted_more u row n next l before own e d within =
    elim (cases_lt e n) [
      | inl h ↦ let other : e ≢ n = omega arith in ap (λ (r : Rights). set_of r) (get_or-set_other row n e next d other) ∙ before e d h
      | inr h ↦ let same : n ≡ e = omega arith in subst (λ (i : ℕ). set_of (slice_index_or (set row n next) i d) ≡ granted u i) same (ap (λ (r : Rights). set_of r) (get_or-set_same row n next d l) ∙ own)
    ]

granted_nobody : (e : ℕ) → granted nobody e ≡ nothing
granted_nobody zero = refl
granted_nobody (suc e) = refl

-- to a user who is not there nothing is granted
pub none_granted : (members : List Member) (n : ℕ) (none : Rights) → length members ≤ n → set_of none ≡ nothing → AreGranted (member_at members n) (replicate 256 none)
none_granted members n none following is e d within =
    ap (λ (r : Rights). set_of r) (get_or-replicate 256 e none d within) ∙ is
    ∙ sym (granted_nobody e) ∙ ap (λ (u : Member). granted u e) (sym (get_or_past members n nobody following))

-- ---- the tables of all users

-- the tables of one user more
pub users_more :
    (tree : Tree) (lists : List (List ℕ)) (members : List Member) (tables : List UserTables) (n : ℕ) (his : UserTables)
    → length tables ≡ n → ((k : ℕ) (x : UserTables) → slice_get tables k ≡ Some x → AreTablesOf tree lists (member_at members k) x)
    → AreTablesOf tree lists (member_at members n) his
    → (k : ℕ) (x : UserTables) → slice_get (tables ++ his ∷ []) k ≡ Some x → AreTablesOf tree lists (member_at members k) x
users_more tree lists members tables n his long each own k x there =
    elim (last_cases tables his k x there) [
      | inl h ↦ each k x h
      | inr h ↦ subst (AreTablesOf tree lists (member_at members k)) h.1 (subst (λ (i : ℕ). AreTablesOf tree lists (member_at members i) his) (sym long ∙ h.0) own)
    ]

member_placed : (members : List Member) (n : ℕ) → member_at members (min n (length members)) ≡ member_at members n
member_placed members n =
    elim (cases_lt n (length members)) [
      | inl h ↦ let same : min n (length members) ≡ n = omega arith in ap (member_at members) same
      | inr h ↦ get_or_past members (min n (length members)) nobody (omega arith) ∙ sym (get_or_past members n nobody h)
    ]

-- the tables at the place of a user are his
pub tables_there :
    (tree : Tree) (members : List Member) (tables : RightsTables) (user : ℕ) (his : UserTables)
    → AreTables tree members tables → slice_get tables.users.items (min user (length tables.users.items - 1)) ≡ Some his
    → AreTablesOf tree tables.scopes.lists (member_at members user) his
tables_there tree members tables user his are there =
    let count = are.count in
    let place : min user (length tables.users.items - 1) ≡ min user (length members) = omega arith in
    subst (λ (u : Member). AreTablesOf tree tables.scopes.lists u his) (member_placed members user)
    (are.each (min user (length members)) his (ap (slice_get tables.users.items) (sym place) ∙ there))

-- the tables of a changed user in the place of his tables
pub tables_set :
    (tree : Tree) (members : List Member) (tables after : RightsTables) (n : ℕ) (u : Member) (his : UserTables)
    → n < length members → AreTables tree members tables → AreTablesOf tree tables.scopes.lists u his
    → after.users.items ≡ set tables.users.items n his → after.scopes ≡ tables.scopes
    → AreTables tree (set members n u) after
tables_set tree members tables after n u his within are own exchanged kept = record {
  count = ap length exchanged ∙ length-set tables.users.items n his ∙ are.count ∙ ap (λ (k : ℕ). k + 1) (sym (length-set members n u));
  each = λ k x there. elim (set_cases tables.users.items his n k x (ap (λ (xs : List UserTables). slice_get xs k) (sym exchanged) ∙ there)) [
    | inl h ↦
        let own_there : AreTablesOf tree after.scopes.lists u x =
        subst (λ (s : ScopeLists). AreTablesOf tree s.lists u x) (sym kept) (subst (AreTablesOf tree tables.scopes.lists u) h.1 own) in
        subst (λ (m : Member). AreTablesOf tree after.scopes.lists m x)
        (sym (ap (member_at (set members n u)) h.0 ∙ get_or-set_same members n u nobody within)) own_there
    | inr h ↦
        subst (λ (m : Member). AreTablesOf tree after.scopes.lists m x) (sym (get_or-set_other members n k u nobody h.0))
        (subst (λ (s : ScopeLists). AreTablesOf tree s.lists (member_at members k) x) (sym kept) (are.each k x h.1))
  ];
  scopes = subst (AreScopeLists tree) (sym kept) are.scopes;
}
