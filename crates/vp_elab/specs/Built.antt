-- What a design is, and how its tables belong to it.
use Rattle.std.specs.Prelude.{◌≡◌, ◌≤◌, ℕ, List, length, map, slice_get, suc, Option, Some, None}
use Rattle.vp_source.specs.Places.{word_at}
use Rattle.vp_source.specs.declared.source.Item.{Item}
use Rattle.vp_source.specs.declared.source.Module as declared
use Rattle.vp_source.specs.declared.source.Source.{Source}
use Rattle.vp_source.specs.Whole.{AreWhole}
use Rattle.vp_modules.specs.declared.tables.Tables.{Tables}
use Rattle.vp_modules.specs.ModuleRefusals as modules
use Rattle.vp_modules.specs.Items.{item_named, items_in}
use Rattle.vp_modules.specs.Tables.{tables_in}
use Rattle.vp_pragma.specs.Envelopes.{Protection}
use Rattle.vp_pragma.specs.Rights.{RightSet, set_of}
use Rattle.vp_elab.specs.declared.design.Objects.{Objects}
use Rattle.vp_elab.specs.declared.object.TheConstants.{OBJECT_LIMIT}
use Rattle.vp_elab.specs.declared.step_rights.StepRights.{StepRights}
use Rattle.vp_elab.specs.Items.{node_item}
use Rattle.vp_elab.specs.Tree.{Node, Tree, definition_at, find_in}
use Rattle.vp_elab.specs.Elaboration.{further_limit, tops, tree_of}
use Rattle.vp_elab.specs.Objects.{AreFirsts, Declared, declared_in, numbers_of, objects_within}
use Rattle.vp_elab.specs.Sizes.{object_count}

-- a design: a source, and its tree
pub record Elaborated : Type 0 where
  pub source : Source
  pub tree : Tree

-- the design of a source with these envelopes and viewports
abbrev pub design_of : Source → Protection → Elaborated
design_of source protection = record { source = source; tree = tree_of source protection }

-- a tree is that of its source, with some envelopes and viewports
pub record IsElaborated (design : Elaborated) : Type 0 where
  pub protection : Protection
  pub is : design ≡ design_of design.source protection

-- a name in an object of a module is found, and the object that it finds is this item
pub record IsFoundAs (design : Elaborated) (id : ℕ) (name : List ℕ) (i : Item) : Type 0 where
  pub object : ℕ
  pub found : find_in design.tree.nodes (Some id) name ≡ Some object
  pub node : Node
  pub at : slice_get design.tree.nodes object ≡ Some node
  pub is : node_item design.source node ≡ Some i

-- each item of a module is found by its name in each object of the module (clauses 12.1.2 and 12.5)
abbrev pub ItemsAreFound : Elaborated → Type 0
ItemsAreFound design =
    (number id : ℕ) (m : declared.Module) (name : List ℕ) (i : Item)
    → slice_get design.source.modules number ≡ Some m
    → definition_at design.tree.nodes id ≡ Some (word_at design.source m.name)
    → item_named design.source (items_in design.source m) name ≡ Some i
    → IsFoundAs design id name i

-- what a sight shows: the rights that viewports open, and the number of the first
abbrev pub shown : StepRights → RightSet × Option ℕ
shown step_rights = (set_of step_rights.rights, step_rights.viewport)

-- the tables and the objects are those of the source, the envelopes and the viewports; the modules hold all of the source's lists,
-- they are right, and the objects are not too many
pub record IsBuilt (source : Source) (protection : Protection) (tables : Tables) (scopes : List Declared) (objects : Objects) : Type 0 where
  pub names : tables ≡ tables_in source
  pub declared : scopes ≡ map (declared_in source protection) source.modules
  pub flat : objects.all ≡ objects_within source protection.envelopes (suc further_limit) 0 0 source.modules
  pub firsts : AreFirsts objects.all (length source.modules) objects.firsts
  pub root_envelopes : objects.root_envelopes ≡ numbers_of protection.envelopes (map (λ m. m.name) (tops source))
  pub whole : AreWhole source
  pub right : modules.refusal_of source ≡ None
  pub few : object_count source ≤ OBJECT_LIMIT
