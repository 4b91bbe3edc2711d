-- The outlines of views. Each row is an equation that holds by computation.
use Rattle.std.proofs.Common.{◌≡◌, ℕ, Bool, true, false, List, [], ◌∷◌, ◌++◌, Some, None, refl}
use Rattle.std.specs.Prelude.{codes}
use Rattle.std.specs.Fmt.{digits}
use Rattle.std.specs.List.{flat_map}
use Rattle.serde_json.proofs.OnLiterals.{serde_json_on_literals}
use Rattle.vp_pragma.specs.Access.{access_of}
use Rattle.vp_pragma.specs.Rights.{RightSet, everything, nothing}
use Rattle.vp_elab.specs.declared.object.Kind.{Kind}
use Rattle.vp_elab.specs.declared.object.Kind.TheVariants as kind
use Rattle.vp_policy.specs.declared.grant.GrantedBy.TheVariants as by
use Rattle.vp_policy.specs.View.{SeenNode, SeenStep, View}
use Rattle.vp_replay.specs.Outline.{access_text, outline_of}

-- lines of a text
abbrev lines : List (List ℕ) → List ℕ
lines texts = flat_map (λ text. text ++ 10 ∷ []) texts

-- ---- the example of the formats

-- who may list and read, and no more
abbrev list_and_read : RightSet
list_and_read = record { list = true; read = true; watch = false; put = false; race = false }

-- a step of which he may know so much
abbrev step : List ℕ → ℕ → SeenStep
step name envelope = record { name = name; envelope = envelope; rights = list_and_read; viewports = [] }

-- a module in the open text
abbrev module_node : List SeenStep → List ℕ → List ℕ → SeenNode
module_node path definition closed_list = record {
  path = path;
  kind = kind.Module;
  width = 1;
  line = 1;
  definition = Some definition;
  value = None;
  closed_list = closed_list;
}

-- an object of another kind
abbrev inner_node : List SeenStep → Kind → ℕ → SeenNode
inner_node path kind width = record {
  path = path;
  kind = kind;
  width = width;
  line = 1;
  definition = None;
  value = None;
  closed_list = [];
}

abbrev top : SeenStep
top = step (codes "top") 0

abbrev inner : SeenStep
inner = step (codes "u") 0

-- what he sees
abbrev example : View
example = record {
  nodes =
      module_node (top ∷ []) (codes "top") []
      ∷ inner_node (top ∷ step (codes "c") 0 ∷ []) kind.Reg 1
      ∷ module_node (top ∷ inner ∷ []) (codes "ip") (2 ∷ [])
      ∷ inner_node (top ∷ inner ∷ step (codes "s") 1 ∷ []) kind.Reg 8
      ∷ [];
  closed_list = [];
  envelopes = (codes "acme", by.Number) ∷ (codes "soc team", by.Nothing) ∷ [];
  run = true;
}

outline_of_example :
    outline_of example
    ≡ lines
    (codes "run"
    ∷ codes "envelope 1 \"acme\" granted"
    ∷ codes "envelope 2 \"soc team\""
    ∷ codes "top vpiModule top list+read"
    ∷ codes "  c vpiReg 1 list+read"
    ∷ codes "  u vpiModule ip list+read closed 2"
    ∷ codes "    s vpiReg 8 list+read envelope 1"
    ∷ [])
unfolding serde_json_on_literals digits
outline_of_example = refl

-- ---- the other words

-- who may not let the design run, and to whom envelopes are closed among the top modules: he has no first line, and a closed list
outline_of_closed :
    outline_of (record { nodes = []; closed_list = 0 ∷ 12 ∷ []; envelopes = []; run = false }) ≡ lines (codes "closed 0 12" ∷ [])
unfolding digits
outline_of_closed = refl

-- an author can't write a line of his own
outline_of_author :
    outline_of (record {
      nodes = [];
      closed_list = [];
      envelopes = (codes "acme\" granted\nrun", by.Nothing) ∷ [];
      run = false;
    })
    ≡ lines (codes "envelope 1 \"acme\\\" granted\\nrun\"" ∷ [])
unfolding serde_json_on_literals digits
outline_of_author = refl

-- an entry by the author, and one by the number in an envelope of the same author
outline_of_author_grant :
    outline_of (record {
      nodes = [];
      closed_list = [];
      envelopes = (codes "acme", by.Author) ∷ (codes "acme", by.Number) ∷ [];
      run = false;
    })
    ≡ lines (codes "envelope 1 \"acme\" granted by author" ∷ codes "envelope 2 \"acme\" granted" ∷ [])
unfolding serde_json_on_literals digits
outline_of_author_grant = refl

-- who sees nothing of a text without envelopes
outline_of_nothing : outline_of (record { nodes = []; closed_list = []; envelopes = []; run = false }) ≡ []
outline_of_nothing = refl

-- a step to an object on which he has all rights
abbrev own_step : List ℕ → SeenStep
own_step name = record { name = name; envelope = 0; rights = everything; viewports = [] }

-- a value has a width, a process has none
outline_of_kinds :
    outline_of (record {
      nodes =
          inner_node (top ∷ own_step (codes "n") ∷ []) kind.Net 64
          ∷ inner_node (top ∷ own_step (codes "p") ∷ []) kind.Parameter 4
          ∷ inner_node (top ∷ own_step (codes "initial@3:1") ∷ []) kind.Initial 1
          ∷ inner_node (top ∷ own_step (codes "always@4:1") ∷ []) kind.Always 1
          ∷ inner_node (top ∷ own_step (codes "assign@5:8") ∷ []) kind.Assign 1
          ∷ [];
      closed_list = [];
      envelopes = [];
      run = false;
    })
    ≡ lines
    (codes "  n vpiNet 64 list+read+watch+put+race"
    ∷ codes "  p vpiParameter 4 list+read+watch+put+race"
    ∷ codes "  initial@3:1 vpiInitial list+read+watch+put+race"
    ∷ codes "  always@4:1 vpiAlways list+read+watch+put+race"
    ∷ codes "  assign@5:8 vpiContAssign list+read+watch+put+race"
    ∷ [])
unfolding digits
outline_of_kinds = refl

-- ---- access strings

-- a set with list, and these rights beside it
abbrev with_list : (read watch put race : Bool) → RightSet
with_list read watch put race = record { list = true; read = read; watch = watch; put = put; race = race }

-- the access string of such a set names exactly this set
abbrev IsNamed : RightSet → Type 0
IsNamed set = access_of (access_text set) ≡ Some set

is_named : (read watch put race : Bool) → IsNamed (with_list read watch put race)
is_named true true true true = refl
is_named true true true false = refl
is_named true true false true = refl
is_named true true false false = refl
is_named true false true true = refl
is_named true false true false = refl
is_named true false false true = refl
is_named true false false false = refl
is_named false true true true = refl
is_named false true true false = refl
is_named false true false true = refl
is_named false true false false = refl
is_named false false true true = refl
is_named false false true false = refl
is_named false false false true = refl
is_named false false false false = refl

-- the names stand in the order of the rights
text_of_some : access_text (with_list false true true false) ≡ codes "list+watch+put"
text_of_some = refl

-- no right has no name
text_of_nothing : access_text nothing ≡ []
text_of_nothing = refl
