-- What users see of the designs of the filter's rows. Each row is an equation that holds by computation.
use Rattle.std.proofs.Common.{◌≡◌, ℕ, ◌+◌, true, false, List, [], ◌∷◌, length, map, slice_get, Option, Some, None, refl}
use Rattle.std.specs.Prelude.{codes}
use Rattle.std.specs.Char.{encode_utf8}
use Rattle.std.specs.Str.{chars, is_utf8}
use Rattle.vp_bits.specs.declared.bit.Bit.{Bit}
use Rattle.vp_bits.specs.declared.bit.Bit.TheVariants.{One, Zero}
use Rattle.vp_lex.specs.declared.token.Token.{Token}
use Rattle.vp_lex.specs.declared.token.TokenKind.TheVariants as token
use Rattle.vp_pragma.specs.Rights.{RightSet, everything}
use Rattle.vp_source.specs.declared.expression.Expression.TheVariants.{Literal}
use Rattle.vp_source.specs.declared.source.Item.TheVariants.{LocalParameter, Reg}
use Rattle.vp_source.specs.declared.source.Source.{Source}
use Rattle.vp_elab.specs.declared.object.Kind.TheVariants as kind
use Rattle.vp_elab.specs.Built.{Elaborated, design_of}
use Rattle.vp_elab.specs.Elaboration.{further_limit}
use Rattle.vp_elab.specs.Tree.{Tree}
use Rattle.vp_policy.specs.declared.grant.GrantedBy.TheVariants as by
use Rattle.vp_policy.specs.declared.view.SeenObject.{SeenObject}
use Rattle.vp_policy.specs.SeenObjects.{nodes_from, numbers_from}
use Rattle.vp_policy.specs.Users.{Member}
use Rattle.vp_policy.specs.View.{SeenNode, SeenStep, listed_marks, view_of}
use Rattle.vp_policy.proofs.FilterRows.{ann, bob, cem, eve, instance_design, nested_design, reading}

-- a step that no viewport matches
abbrev plain : List ℕ → ℕ → RightSet → SeenStep
plain name envelope rights = record { name = name; envelope = envelope; rights = rights; viewports = [] }

-- the names of a path
abbrev names : SeenNode → List (List ℕ)
names node = map (λ s. s.name) node.path

-- a source that says nothing
abbrev no_source : Source
no_source = record {
  text = [];
  tokens = [];
  modules = [];
  items = [];
  connections = [];
  statements = [];
  expressions = [];
  terms = [];
  choices = [];
}

-- a design of which the tree is given
abbrev of_tree : Tree → Elaborated
of_tree tree = record { source = no_source; tree = tree }

-- of the instance design the first user sees eight objects
seen_by_ann :
    map names (view_of (of_tree instance_design) ann).nodes
    ≡ (codes "top" ∷ [])
    ∷ (codes "top" ∷ codes "c" ∷ [])
    ∷ (codes "top" ∷ codes "q" ∷ [])
    ∷ (codes "top" ∷ codes "u" ∷ [])
    ∷ (codes "top" ∷ codes "u" ∷ codes "c" ∷ [])
    ∷ (codes "top" ∷ codes "u" ∷ codes "q" ∷ [])
    ∷ (codes "top" ∷ codes "u" ∷ codes "s" ∷ [])
    ∷ (codes "top" ∷ codes "initial@13:3" ∷ [])
    ∷ []
seen_by_ann = refl

-- the instance, whose closed list is that of its module's envelope
seen_instance :
    slice_get (view_of (of_tree instance_design) ann).nodes 3
    ≡ Some (record {
      path = plain (codes "top") 0 everything ∷ plain (codes "u") 0 everything ∷ [];
      kind = kind.Module;
      width = 1;
      line = 12;
      definition = Some (codes "ip");
      value = None;
      closed_list = 1 ∷ [];
    })
seen_instance = refl

-- the reg that a viewport opens, with the viewport and what it opens
seen_through_viewport :
    slice_get (view_of (of_tree instance_design) ann).nodes 6
    ≡ Some (record {
      path =
          plain (codes "top") 0 everything
          ∷ plain (codes "u") 0 everything
          ∷ record { name = codes "s"; envelope = 1; rights = reading; viewports = record { object = codes "ip.s"; rights = reading } ∷ [] }
          ∷ [];
      kind = kind.Reg;
      width = 1;
      line = 3;
      definition = None;
      value = None;
      closed_list = [];
    })
seen_through_viewport = refl

-- the same design with its viewport on another line
abbrev viewport_elsewhere : Tree
viewport_elsewhere = record instance_design {
  viewports = record { envelope = 1; in_module = Some (codes "ip"); item = codes "s"; rights = reading; line = 9 } ∷ [];
}

-- the line of a viewport is not reported
line_of_a_viewport : view_of (of_tree viewport_elsewhere) ann ≡ view_of (of_tree instance_design) ann
line_of_a_viewport = refl

-- the envelope is another's, and she may let the design run
seen_envelopes_by_ann : (view_of (of_tree instance_design) ann).envelopes ≡ (codes "acme", by.Nothing) ∷ []
seen_envelopes_by_ann = refl

run_by_ann : (view_of (of_tree instance_design) ann).run ≡ true
run_by_ann = refl

nothing_closed_at_the_top : (view_of (of_tree instance_design) ann).closed_list ≡ []
nothing_closed_at_the_top = refl

-- who has a grant sees all of it
seen_by_bob : length (view_of (of_tree instance_design) bob).nodes ≡ 11
seen_by_bob = refl

seen_envelopes_by_bob : (view_of (of_tree instance_design) bob).envelopes ≡ (codes "acme", by.Number) ∷ []
seen_envelopes_by_bob = refl

-- a grant for the inner envelope alone shows nothing under the instance that is hidden
seen_nested :
    map names (view_of (of_tree nested_design) bob).nodes
    ≡ (codes "top" ∷ [])
    ∷ (codes "top" ∷ codes "v" ∷ [])
    ∷ (codes "top" ∷ codes "v" ∷ codes "a" ∷ [])
    ∷ (codes "top" ∷ codes "v" ∷ codes "k" ∷ [])
    ∷ []
seen_nested = refl

-- whose open set is empty sees that something is closed, and no object
seen_by_eve :
    view_of (of_tree instance_design) eve
    ≡ record { nodes = []; closed_list = 0 ∷ []; envelopes = (codes "acme", by.Nothing) ∷ []; run = true }
seen_by_eve = refl

-- ---- constants

abbrev word : (start end : ℕ) → Token
word start end = record { kind = token.Name; start = start; end = end; line = 1; column = start + 1; directive = false }

-- module top; localparam p = 4'd9; reg r; endmodule, with these words: top, p, 4, 'd9 and r
abbrev with_constant : Elaborated
with_constant =
    design_of (record no_source {
      text = codes "topp4'd9r";
      tokens = word 0 3 ∷ word 3 4 ∷ word 4 5 ∷ word 5 8 ∷ word 8 9 ∷ [];
      modules = record {
        name = 0;
        items = record { first = 0; end = 2 };
        ports = 0;
        statements = record { first = 0; end = 0 };
        expressions = record { first = 0; end = 1 };
        terms = record { first = 0; end = 0 };
        choices = record { first = 0; end = 0 };
      } ∷ [];
      items = LocalParameter 1 0 ∷ Reg 4 None ∷ [];
      expressions = Literal 2 4 3 ∷ [];
    })
    (record { envelopes = []; viewports = [] })

-- the values that a user sees
abbrev values_seen : Elaborated → Member → List (Option (List Bit))
values_seen design u = map (λ node. node.value) (view_of design u).nodes

-- who may read a localparam sees its value, and no value of a module or a reg
value_of_a_localparam : values_seen with_constant ann ≡ None ∷ Some (One ∷ Zero ∷ Zero ∷ One ∷ []) ∷ None ∷ []
unfolding is_utf8 chars encode_utf8 further_limit
value_of_a_localparam = refl

-- who may only list it sees none
value_without_read : values_seen with_constant cem ≡ None ∷ None ∷ None ∷ []
unfolding is_utf8 chars encode_utf8 further_limit
value_without_read = refl

-- ---- flat lists

-- what is listed is numbered without what is not
numbers_for_ann :
    numbers_from 0 (listed_marks instance_design ann instance_design.nodes)
    ≡ Some 0 ∷ Some 1 ∷ Some 2 ∷ Some 3 ∷ Some 4 ∷ Some 5 ∷ None ∷ Some 6 ∷ None ∷ None ∷ Some 7 ∷ []
numbers_for_ann = refl

-- an object with all rights, declared in the object of a number
abbrev declared_in : Option ℕ → List ℕ → SeenObject
declared_in parent name = record {
  parent = parent;
  name = name;
  envelope = 0;
  rights = record { 0 = 31 };
  viewports = [];
  kind = kind.Module;
  width = 1;
  line = 1;
  definition = None;
  value = None;
  closed = [];
}

-- the path of each stands after that of the object in which it is declared
flat_nodes :
    map (λ node. node.path)
    (nodes_from [] (declared_in None (codes "top") ∷ declared_in (Some 0) (codes "u") ∷ declared_in (Some 0) (codes "v") ∷ declared_in (Some 2) (codes "a") ∷ []))
    ≡ (plain (codes "top") 0 everything ∷ [])
    ∷ (plain (codes "top") 0 everything ∷ plain (codes "u") 0 everything ∷ [])
    ∷ (plain (codes "top") 0 everything ∷ plain (codes "v") 0 everything ∷ [])
    ∷ (plain (codes "top") 0 everything ∷ plain (codes "v") 0 everything ∷ plain (codes "a") 0 everything ∷ [])
    ∷ []
flat_nodes = refl
