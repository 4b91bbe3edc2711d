-- The filter, computed on three designs. Each row is an equation that holds by computation.
use Rattle.std.proofs.Common.{◌≡◌, ℕ, ◌+◌, Bool, true, false, List, [], ◌∷◌, Option, Some, None, refl}
use Rattle.std.specs.Prelude.{codes}
use Rattle.vp_pragma.specs.declared.rights.Right.TheVariants as right
use Rattle.vp_pragma.specs.Rights.{RightSet, nothing, everything, with_right}
use Rattle.vp_elab.specs.declared.object.Kind.{Kind}
use Rattle.vp_elab.specs.declared.object.Kind.TheVariants.{Module, Net, Reg, Always, Initial}
use Rattle.vp_elab.specs.Tree.{Step, Node, Tree}
use Rattle.vp_policy.specs.declared.denial.ShownBarrier.TheVariants as barrier
use Rattle.vp_policy.specs.declared.denial.DeniedBy.TheVariants as by
use Rattle.vp_policy.specs.declared.denial.Look.{Look}
use Rattle.vp_policy.specs.declared.denial.Look.TheVariants as look
use Rattle.vp_policy.specs.Regrants.{by_number}
use Rattle.vp_policy.specs.Users.{GrantEntry, Member, login_of}
use Rattle.vp_policy.specs.Filter.{closed, denial, is_listed, look_in, run_denial, stops_in}

-- ---- users

abbrev pub reading : RightSet
reading = with_right right.Read (with_right right.List nothing)

abbrev listing : RightSet
listing = with_right right.List nothing

abbrev user : List ℕ → RightSet → List GrantEntry → Member
user name open_set grants = record { name = name; token = codes "t1"; open_set = open_set; grants = grants; run = true; sessions = 64 }

abbrev pub ann : Member
ann = user (codes "ann") everything []

abbrev pub bob : Member
bob = user (codes "bob") everything (by_number 1 everything ∷ [])

abbrev pub cem : Member
cem = user (codes "cem") listing []

-- a user whose run flag is not set
abbrev without_run : Member
without_run = record cem { run = false }

abbrev dan : Member
dan = user (codes "dan") everything (by_number 1 listing ∷ [])

abbrev pub eve : Member
eve = user (codes "eve") nothing []

abbrev fay : Member
fay = user (codes "fay") nothing (by_number 1 everything ∷ [])

abbrev hal : Member
hal = user (codes "hal") everything (by_number 2 listing ∷ [])

-- ---- answers

abbrev found : ℕ → Look
found n = look.Found (record { 0 = n })

abbrev hidden_by_envelope : ℕ → Look
hidden_by_envelope n = look.Denied (record { by = by.Envelope; envelope = n; right = right.List })

abbrev hidden_by_grant : ℕ → Look
hidden_by_grant n = look.Denied (record { by = by.Grant; envelope = n; right = right.List })

-- ---- nodes

abbrev step : List ℕ → ℕ → ℕ → Option (List ℕ) → Step
step name place envelope in_module = record { name = name; place = place; envelope = envelope; in_module = in_module }

abbrev item : List Step → Kind → ℕ → Node
item path kind line = record { path = path; kind = kind; width = 1; lowest = None; line = line; definition = None }

abbrev instance : List Step → ℕ → List ℕ → Node
instance path line definition = record { path = path; kind = Module; width = 1; lowest = None; line = line; definition = Some definition }

-- ---- a design with an instance whose module hides a reg, and opens another by a viewport

abbrev a_top : Step
a_top = step (codes "top") 71 0 None

abbrev a_u : Step
a_u = step (codes "u") 80 0 (Some (codes "top"))

abbrev in_top : List ℕ → ℕ → List Step
in_top name place = a_top ∷ step name place 0 (Some (codes "top")) ∷ []

abbrev in_u : List ℕ → ℕ → ℕ → List Step
in_u name place envelope = a_top ∷ a_u ∷ step name place envelope (Some (codes "ip")) ∷ []

abbrev pub instance_design : Tree
instance_design = record {
  nodes =
      instance (a_top ∷ []) 9 (codes "top")
      ∷ item (in_top (codes "c") 74) Reg 10
      ∷ item (in_top (codes "q") 77) Net 11
      ∷ instance (a_top ∷ a_u ∷ []) 12 (codes "ip")
      ∷ item (in_u (codes "c") 5 0) Net 1
      ∷ item (in_u (codes "q") 9 0) Reg 1
      ∷ item (in_u (codes "k") 20 1) Reg 3
      ∷ item (in_u (codes "s") 22 1) Reg 3
      ∷ item (in_u (codes "initial@5:3") 37 1) Initial 5
      ∷ item (in_u (codes "always@6:3") 50 1) Always 6
      ∷ item (in_top (codes "initial@13:3") 95) Initial 13
      ∷ [];
  viewports = record { envelope = 1; in_module = Some (codes "ip"); item = codes "s"; rights = reading; line = 1 } ∷ [];
  authors = codes "acme" ∷ [];
}

-- from the top modules
abbrev look_up : Tree → Member → List (List ℕ) → Look
look_up tree u names = look_in tree u None names

-- the reg that the viewport opens is found, and may be read
opened_by_viewport : look_up instance_design ann (codes "top" ∷ codes "u" ∷ codes "s" ∷ []) ≡ found 7
opened_by_viewport = refl

read_through_viewport : denial instance_design ann right.Read (in_u (codes "s") 22 1) ≡ None
read_through_viewport = refl

-- but not put: by the viewport
put_through_viewport :
    denial instance_design ann right.Put (in_u (codes "s") 22 1)
    ≡ Some (record { by = by.Viewport 0; envelope = 1; right = right.Put })
put_through_viewport = refl

-- a hidden name and an absent one get the same denial
hidden_name : look_up instance_design ann (codes "top" ∷ codes "u" ∷ codes "k" ∷ []) ≡ hidden_by_envelope 1
hidden_name = refl

absent_name : look_up instance_design ann (codes "top" ∷ codes "u" ∷ codes "zz" ∷ []) ≡ hidden_by_envelope 1
absent_name = refl

-- both stop in the scope of the instance, and so does what is asked there alone
hidden_stops : stops_in instance_design ann None (codes "top" ∷ codes "u" ∷ codes "k" ∷ []) ≡ Some (codes "top" ∷ codes "u" ∷ [])
hidden_stops = refl

absent_stops : stops_in instance_design ann (Some 3) (codes "zz" ∷ []) ≡ Some (codes "top" ∷ codes "u" ∷ [])
absent_stops = refl

-- a name that is found stops nowhere
found_stops : stops_in instance_design ann (Some 3) (codes "s" ∷ []) ≡ None
found_stops = refl

-- where nothing is hidden, an absent name is reported
nothing_hidden : look_up instance_design ann (codes "top" ∷ codes "zz" ∷ []) ≡ look.Absent
nothing_hidden = refl

below_a_reg : look_up instance_design ann (codes "top" ∷ codes "c" ∷ codes "x" ∷ []) ≡ look.Absent
below_a_reg = refl

-- the same names in the scope of the instance
opened_in_scope : look_in instance_design ann (Some 3) (codes "s" ∷ []) ≡ found 7
opened_in_scope = refl

hidden_in_scope : look_in instance_design ann (Some 3) (codes "k" ∷ []) ≡ hidden_by_envelope 1
hidden_in_scope = refl

-- an object that is no module declares nothing, and neither does one that is not there
no_module : look_in instance_design ann (Some 1) (codes "x" ∷ []) ≡ look.Absent
no_module = refl

no_object : look_in instance_design ann (Some 11) (codes "s" ∷ []) ≡ look.Absent
no_object = refl

granted_name : look_up instance_design bob (codes "top" ∷ codes "u" ∷ codes "k" ∷ []) ≡ found 6
granted_name = refl

-- who may only list is denied by his open set
listed_only : look_up instance_design cem (codes "top" ∷ codes "c" ∷ []) ≡ found 1
listed_only = refl

read_denied :
    denial instance_design cem right.Read (in_top (codes "c") 74)
    ≡ Some (record { by = by.Grant; envelope = 0; right = right.Read })
read_denied = refl

watch_denied :
    denial instance_design cem right.Watch (in_top (codes "c") 74)
    ≡ Some (record { by = by.Grant; envelope = 0; right = right.Watch })
watch_denied = refl

-- who may not run the design is denied by his open set
run_denied : run_denial without_run ≡ Some (barrier.Grant, 0, codes "run")
run_denied = refl

run_allowed : run_denial ann ≡ None
run_allowed = refl

-- a right on what no grant and no viewport opens is denied by the envelope
denied_by_envelope :
    denial instance_design ann right.List (in_u (codes "k") 20 1)
    ≡ Some (record { by = by.Envelope; envelope = 1; right = right.List })
denied_by_envelope = refl

closed_to_ann : closed instance_design ann (codes "top" ∷ codes "u" ∷ []) ≡ 1 ∷ []
closed_to_ann = refl

closed_to_bob : closed instance_design bob (codes "top" ∷ codes "u" ∷ []) ≡ []
closed_to_bob = refl

-- the numbers of what is listed, in preorder
abbrev listed_from : ℕ → Tree → Member → List Node → List ℕ
listed_from n tree u [] = []
listed_from n tree u (node ∷ nodes) = number (is_listed tree u node) (listed_from (n + 1) tree u nodes)
  where
    number : Bool → List ℕ → List ℕ
    number true rest = n ∷ rest
    number false rest = rest

listed_to_ann : listed_from 0 instance_design ann instance_design.nodes ≡ 0 ∷ 1 ∷ 2 ∷ 3 ∷ 4 ∷ 5 ∷ 7 ∷ 10 ∷ []
listed_to_ann = refl

listed_to_bob :
    listed_from 0 instance_design bob instance_design.nodes ≡ 0 ∷ 1 ∷ 2 ∷ 3 ∷ 4 ∷ 5 ∷ 6 ∷ 7 ∷ 8 ∷ 9 ∷ 10 ∷ []
listed_to_bob = refl

-- ---- a design with one module, one envelope and a viewport for the item alone

abbrev in_flat : List ℕ → ℕ → ℕ → List Step
in_flat name place envelope = step (codes "top") 1 0 None ∷ step name place envelope (Some (codes "top")) ∷ []

abbrev flat_design : Tree
flat_design = record {
  nodes =
      instance (step (codes "top") 1 0 None ∷ []) 1 (codes "top")
      ∷ item (in_flat (codes "s") 11 1) Reg 3
      ∷ item (in_flat (codes "k") 13 1) Reg 3
      ∷ item (in_flat (codes "a") 32 0) Reg 6
      ∷ [];
  viewports =
      record { envelope = 1; in_module = None; item = codes "s"; rights = with_right right.Put reading; line = 1 } ∷ [];
  authors = codes "acme" ∷ [];
}

flat_ann_s : look_up flat_design ann (codes "top" ∷ codes "s" ∷ []) ≡ found 1
flat_ann_s = refl

flat_ann_reads_s : denial flat_design ann right.Read (in_flat (codes "s") 11 1) ≡ None
flat_ann_reads_s = refl

flat_ann_k : look_up flat_design ann (codes "top" ∷ codes "k" ∷ []) ≡ hidden_by_envelope 1
flat_ann_k = refl

flat_ann_zz : look_up flat_design ann (codes "top" ∷ codes "zz" ∷ []) ≡ hidden_by_envelope 1
flat_ann_zz = refl

flat_dan_k : look_up flat_design dan (codes "top" ∷ codes "k" ∷ []) ≡ found 2
flat_dan_k = refl

flat_dan_reads_k :
    denial flat_design dan right.Read (in_flat (codes "k") 13 1)
    ≡ Some (record { by = by.Grant; envelope = 1; right = right.Read })
flat_dan_reads_k = refl

flat_dan_zz : look_up flat_design dan (codes "top" ∷ codes "zz" ∷ []) ≡ look.Absent
flat_dan_zz = refl

-- an empty open set hides the top modules, and says the same of a name that is not there
flat_eve_top : look_up flat_design eve (codes "top" ∷ []) ≡ hidden_by_grant 0
flat_eve_top = refl

flat_eve_zz : look_up flat_design eve (codes "zz" ∷ []) ≡ hidden_by_grant 0
flat_eve_zz = refl

-- a grant for an envelope opens nothing under a module that is not listed
flat_fay_s : look_up flat_design fay (codes "top" ∷ codes "s" ∷ []) ≡ hidden_by_grant 0
flat_fay_s = refl

-- ---- a design with an instance in the open and one in an envelope

abbrev in_leaf : Step → List ℕ → ℕ → ℕ → List Step
in_leaf instance_step name place envelope =
    step (codes "top") 21 0 None ∷ instance_step ∷ step name place envelope (Some (codes "leaf")) ∷ []

abbrev shut_leaf : Step
shut_leaf = step (codes "u") 31 2 (Some (codes "top"))

abbrev open_leaf : Step
open_leaf = step (codes "v") 39 0 (Some (codes "top"))

abbrev pub nested_design : Tree
nested_design = record {
  nodes =
      instance (step (codes "top") 21 0 None ∷ []) 7 (codes "top")
      ∷ instance (step (codes "top") 21 0 None ∷ shut_leaf ∷ []) 9 (codes "leaf")
      ∷ item (in_leaf shut_leaf (codes "a") 4 0) Reg 2
      ∷ item (in_leaf shut_leaf (codes "k") 14 1) Reg 4
      ∷ instance (step (codes "top") 21 0 None ∷ open_leaf ∷ []) 11 (codes "leaf")
      ∷ item (in_leaf open_leaf (codes "a") 4 0) Reg 2
      ∷ item (in_leaf open_leaf (codes "k") 14 1) Reg 4
      ∷ [];
  viewports = [];
  authors = codes "lf" ∷ codes "tp" ∷ [];
}

nested_open_a : look_up nested_design ann (codes "top" ∷ codes "v" ∷ codes "a" ∷ []) ≡ found 5
nested_open_a = refl

nested_open_k : look_up nested_design ann (codes "top" ∷ codes "v" ∷ codes "k" ∷ []) ≡ hidden_by_envelope 1
nested_open_k = refl

-- what stands under a hidden instance is hidden with it, and alike for a name that is not there
nested_shut_a : look_up nested_design ann (codes "top" ∷ codes "u" ∷ codes "a" ∷ []) ≡ hidden_by_envelope 2
nested_shut_a = refl

nested_zz : look_up nested_design ann (codes "top" ∷ codes "zz" ∷ []) ≡ hidden_by_envelope 2
nested_zz = refl

-- a grant for the envelope inside opens nothing under the hidden instance
nested_grant_inside : look_up nested_design bob (codes "top" ∷ codes "u" ∷ codes "k" ∷ []) ≡ hidden_by_envelope 2
nested_grant_inside = refl

-- a grant to list the instance lists what is open in it, and no more
nested_grant_outside : look_up nested_design hal (codes "top" ∷ codes "u" ∷ codes "a" ∷ []) ≡ found 2
nested_grant_outside = refl

nested_read_denied :
    denial nested_design hal right.Read (in_leaf shut_leaf (codes "a") 4 0)
    ≡ Some (record { by = by.Grant; envelope = 2; right = right.Read })
nested_read_denied = refl

-- the same design with a viewport that opens a reg of the leaf to everyone
abbrev nested_with_viewport : Tree
nested_with_viewport = record nested_design {
  viewports = record { envelope = 1; in_module = Some (codes "leaf"); item = codes "k"; rights = reading; line = 1 } ∷ [];
}

-- it opens the reg under the instance that is listed
viewport_under_listed : look_up nested_with_viewport ann (codes "top" ∷ codes "v" ∷ codes "k" ∷ []) ≡ found 6
viewport_under_listed = refl

-- and not under the one that is hidden: what it is denied by is the hidden instance's envelope
viewport_under_hidden :
    look_up nested_with_viewport ann (codes "top" ∷ codes "u" ∷ codes "k" ∷ []) ≡ hidden_by_envelope 2
viewport_under_hidden = refl

-- ---- users by name and token

login_ann : login_of (bob ∷ ann ∷ []) (codes "ann") (codes "t1") ≡ Some 1
login_ann = refl

wrong_token : login_of (bob ∷ ann ∷ []) (codes "ann") (codes "t2") ≡ None
wrong_token = refl
