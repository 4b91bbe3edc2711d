-- What a user sees of a design: all that he is ever shown of it but the values that change.
use Rattle.std.specs.Prelude.{◌≡◌, ℕ, ◌<◌, ◌&&◌, Bool, true, false, if◌then◌else◌, List, [], ◌∷◌, ◌++◌, map, filter, length, slice_get, Option, Some, None}
use Rattle.std.specs.List.{enumerate_from}
use Rattle.vp_bits.specs.declared.bit.Bit.{Bit}
use Rattle.vp_pragma.specs.declared.rights.Right.TheVariants as right
use Rattle.vp_pragma.specs.Rights.{RightSet, has}
use Rattle.vp_pragma.specs.Envelopes.{Viewport, object_of}
use Rattle.vp_elab.specs.declared.object.Kind.{Kind}
use Rattle.vp_elab.specs.declared.object.Kind.TheVariants as kind
use Rattle.vp_elab.specs.Built.{Elaborated}
use Rattle.vp_elab.specs.Tree.{Step, Node, Tree, matches, names_of}
use Rattle.vp_operand.specs.Arena.{is_width}
use Rattle.vp_resolve.specs.Constants.{constant_of}
use Rattle.vp_policy.specs.declared.grant.GrantedBy.{GrantedBy}
use Rattle.vp_policy.specs.Users.{Member, entry_of}
use Rattle.vp_policy.specs.Filter.{closed, is_listed, rights}

-- a viewport as a user sees it: the object that it names, and the rights that it opens (profile)
pub record SeenViewport : Type 0 where
  pub object : List ℕ
  pub rights : RightSet

-- a step as its user sees it: its name and envelope, his rights on the object that it leads to, and the viewports that
-- match it, whose envelope is its own (profile)
pub record SeenStep : Type 0 where
  pub name : List ℕ
  pub envelope : ℕ
  pub rights : RightSet
  pub viewports : List SeenViewport

-- an object that is listed to a user, as he sees it, with the value of a localparam that he may read, and the closed list of
-- its scope (profile)
pub record SeenNode : Type 0 where
  pub path : List SeenStep
  pub kind : Kind
  pub width : ℕ
  pub line : ℕ
  pub definition : Option (List ℕ)
  pub value : Option (List Bit)
  pub closed_list : List ℕ

-- what a user sees of a design: the objects that are listed to him, the closed list of the top modules, of each envelope
-- its author and by what he has a grant entry for it, and whether he may run the design (profile)
pub record View : Type 0 where
  pub nodes : List SeenNode
  pub closed_list : List ℕ
  pub envelopes : List (List ℕ × GrantedBy)
  pub run : Bool

-- a viewport as every user sees it whose object it matches: its line is not reported (profile)
abbrev pub seen_viewport : Viewport → SeenViewport
seen_viewport v = record { object = object_of v; rights = v.rights }

-- the step that stands after these on an object's path, as a user sees it (profile)
abbrev pub seen_step : Tree → Member → List Step → Step → SeenStep
seen_step tree u above s = record {
  name = s.name;
  envelope = s.envelope;
  rights = rights tree u (above ++ s ∷ []);
  viewports = map seen_viewport (filter (matches s) tree.viewports);
}

-- the steps of a path that stand after these, as a user sees them
abbrev pub seen_path : Tree → Member → List Step → List Step → List SeenStep
seen_path tree u above [] = []
seen_path tree u above (s ∷ path) = seen_step tree u above s ∷ seen_path tree u (above ++ s ∷ []) path

-- an object of a kind is a localparam (clause 4.10.2)
abbrev pub is_parameter : Kind → Bool
is_parameter kind.Parameter = true
is_parameter kind.Net = false
is_parameter kind.Reg = false
is_parameter kind.Module = false
is_parameter kind.Always = false
is_parameter kind.Initial = false
is_parameter kind.Assign = false

-- the value of an object of a kind and so many bits stands in the view of a user with these rights on it: it is a localparam
-- that a vector can hold, and he may read it (profile)
abbrev pub is_value_seen : Kind → (width : ℕ) → RightSet → Bool
is_value_seen k width his = is_parameter k && is_width width && has right.Read his

-- the value of an object as a user sees it: the constant of a localparam that he may read, and none of any other object
-- (clause 4.10.2)
abbrev pub seen_value : Elaborated → Member → Node → Option (List Bit)
seen_value design u node =
    if is_value_seen node.kind node.width (rights design.tree u node.path) then Some (constant_of design node) else None

-- an object as a user sees it (profile)
abbrev pub seen_node : Elaborated → Member → Node → SeenNode
seen_node design u node = record {
  path = seen_path design.tree u [] node.path;
  kind = node.kind;
  width = node.width;
  line = node.line;
  definition = node.definition;
  value = seen_value design u node;
  closed_list = closed design.tree u (names_of node.path);
}

-- the authors of envelopes from number n on, each with by what the user has an entry
abbrev pub seen_envelopes : Member → ℕ → List (List ℕ) → List (List ℕ × GrantedBy)
seen_envelopes u n authors = map (λ e. (e.1, entry_of u e.0)) (enumerate_from n authors)

-- of these objects those that are listed to a user, as he sees them
abbrev pub seen_nodes : Elaborated → Member → List Node → List SeenNode
seen_nodes design u nodes = map (seen_node design u) (filter (is_listed design.tree u) nodes)

-- what a user sees of a design (profile)
abbrev pub view_of : Elaborated → Member → View
view_of design u = record {
  nodes = seen_nodes design u design.tree.nodes;
  closed_list = closed design.tree u [];
  envelopes = seen_envelopes u 1 design.tree.authors;
  run = u.run;
}

-- ---- objects that are known

-- of these objects, which are listed to a user
abbrev pub listed_marks : Tree → Member → List Node → List Bool
listed_marks tree u nodes = map (is_listed tree u) nodes

-- those of a list that are marked
abbrev pub marked : {X : Type 0} → (marks : List Bool) → List X → List X
marked [] xs = []
marked (m ∷ marks) [] = []
marked (m ∷ marks) (x ∷ xs) = if m then x ∷ marked marks xs else marked marks xs

-- among as many objects as there are marks, the one in which an object is declared is marked
abbrev pub HasScope : List Node → (marks : List Bool) → Node → Type 0
HasScope nodes marks node =
    (p : ℕ) → (scope : Node) → (s : Step) → p < length marks → slice_get nodes p ≡ Some scope → node.path ≡ scope.path ++ s ∷ []
    → slice_get marks p ≡ Some true

-- with each marked object the one in which it is declared is marked
abbrev pub HoldScopes : List Node → (marks : List Bool) → Type 0
HoldScopes nodes marks = (n : ℕ) → (node : Node) → slice_get marks n ≡ Some true → slice_get nodes n ≡ Some node → HasScope nodes marks node

-- the objects that a user knows, as he sees them
abbrev pub known_nodes : Elaborated → Member → (known : List Bool) → List Node → List SeenNode
known_nodes design u known nodes = map (seen_node design u) (marked known nodes)

-- what a user sees of the objects that he knows, as his rights are now: a view, of which some objects may not be listed any more (profile)
abbrev pub known_view : Elaborated → Member → (known : List Bool) → View
known_view design u known = record {
  nodes = known_nodes design u known design.tree.nodes;
  closed_list = closed design.tree u [];
  envelopes = seen_envelopes u 1 design.tree.authors;
  run = u.run;
}
