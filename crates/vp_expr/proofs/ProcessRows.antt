-- The processes of a design as ones that a simulator runs, at rows that are worked out by hand.
use Rattle.std.proofs.Common.{◌≡◌, ℕ, false, true, [], ◌∷◌, Option, Some, None, refl}
use Rattle.vp_elab.specs.declared.object.Kind.{Kind}
use Rattle.vp_elab.specs.declared.object.Kind.TheVariants.{Assign, Module, Net}
use Rattle.vp_elab.specs.declared.object.ObjectId.{ObjectId}
use Rattle.vp_expr.specs.Origins as origin
use Rattle.vp_elab.specs.Built.{Elaborated}
use Rattle.vp_elab.specs.Tree.{Node}
use Rattle.vp_expr.specs.declared.tables.Process.TheVariants as process
use Rattle.vp_expr.specs.Tables.{process_of}

abbrev node : Kind → (width : ℕ) → (lowest : Option ℕ) → Node
node kind width lowest = record { path = []; kind = kind; width = width; lowest = lowest; line = 1; definition = None }

abbrev object : ℕ → ObjectId
object number = record { 0 = number }

-- a module, and in it a net of 4 bits, a scalar net and a continuous assignment
abbrev design : Elaborated
design = record {
  source = record { text = []; tokens = []; modules = []; connections = []; items = []; statements = []; expressions = []; terms = []; choices = [] };
  tree = record {
    nodes = node Module 1 None ∷ node Net 4 (Some 0) ∷ node Net 1 None ∷ node Assign 1 None ∷ [];
    viewports = [];
    authors = [];
  };
}

procedure_as_it_is : process_of design [] (origin.Procedure (object 3) (object 0) false 7) ≡ Some (process.Procedure (object 3) (object 0) false 7)
procedure_as_it_is = refl

always_repeats : process_of design [] (origin.Procedure (object 3) (object 0) true 7) ≡ Some (process.Procedure (object 3) (object 0) true 7)
always_repeats = refl

-- the value, at place 1, has 2 bits of its own, and the net has 4
at_the_width_of_its_net :
    process_of design (9 ∷ 2 ∷ []) (origin.Assignment (object 3) (object 0) (object 1) 1)
    ≡ Some (process.Assignment (object 3) (object 1) (object 0) (record { place = 1; size = 4 }))
at_the_width_of_its_net = refl

-- the value has 6 bits of its own
at_its_own_size :
    process_of design (6 ∷ []) (origin.Assignment (object 3) (object 0) (object 1) 0)
    ≡ Some (process.Assignment (object 3) (object 1) (object 0) (record { place = 0; size = 6 }))
at_its_own_size = refl

-- no vector has 65 bits
no_such_size : process_of design (65 ∷ []) (origin.Assignment (object 3) (object 0) (object 1) 0) ≡ None
no_such_size = refl

-- the port of 4 bits is both the object and the net
inward_to_the_port :
    process_of design (2 ∷ []) (origin.Inward (object 1) (object 0) 0)
    ≡ Some (process.Assignment (object 1) (object 1) (object 0) (record { place = 0; size = 4 }))
inward_to_the_port = refl

outward_from_the_port : process_of design [] (origin.Outward (object 2) (object 1)) ≡ Some (process.Connection (object 2) (object 1))
outward_from_the_port = refl
