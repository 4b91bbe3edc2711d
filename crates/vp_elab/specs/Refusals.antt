-- Why a source has no design: its modules are not right, or else its objects are too many, or else a viewport is on nothing.
use Rattle.std.specs.Prelude.{suc, ◌||◌, nat_lt, Bool, if◌then◌else◌, List, [], ◌∷◌, length, Option, Some, None}
use Rattle.std.specs.List.{list_any}
use Rattle.vp_source.specs.declared.source.Source.{Source}
use Rattle.vp_source.specs.declared.source.Item.{Item}
use Rattle.vp_source.specs.declared.source.Module as declared
use Rattle.vp_modules.specs.declared.error.ElabError.{ElabError}
use Rattle.vp_modules.specs.declared.error.ElabError.TheVariants.{TooManyObjects, ViewportUnknown}
use Rattle.vp_modules.specs.Items.{items_in}
use Rattle.vp_modules.specs.Refusals.{first_of_two}
use Rattle.vp_modules.specs.ModuleRefusals as modules
use Rattle.vp_pragma.specs.declared.envelope.Envelope.{Envelope}
use Rattle.vp_pragma.specs.Envelopes.{Protection, Viewport}
use Rattle.vp_elab.specs.declared.object.TheConstants.{OBJECT_LIMIT}
use Rattle.vp_elab.specs.Elaboration.{further_limit, item_step, nodes_of}
use Rattle.vp_elab.specs.Tree.{Node, matches}

-- ---- too many objects

-- a path has too many steps (profile)
abbrev pub is_too_long : Node → Bool
is_too_long n = nat_lt (suc further_limit) (length n.path)

-- there are more than 65,536, or one with a path that is too long (profile)
abbrev pub are_too_many : List Node → Bool
are_too_many nodes = nat_lt OBJECT_LIMIT (length nodes) || list_any is_too_long nodes

-- the objects of a source are too many
abbrev pub too_many : Source → List Envelope → Option ElabError
too_many source envelopes = if are_too_many (nodes_of source envelopes) then Some TooManyObjects else None

-- ---- viewports that are on nothing

-- a viewport is on an item of a module, as it stands in each instance of it
abbrev pub is_on_item : Source → List Envelope → Viewport → declared.Module → Item → Bool
is_on_item source envelopes v m i = matches (item_step source envelopes m i) v

-- a viewport is on an item of one of these modules
abbrev pub is_on_any : Source → List Envelope → Viewport → List declared.Module → Bool
is_on_any source envelopes v ms = list_any (λ m. list_any (is_on_item source envelopes v m) (items_in source m)) ms

-- the first of these viewports that is on no item of a source (profile)
abbrev pub first_unmatched : Source → List Envelope → List Viewport → Option ElabError
first_unmatched source envelopes [] = None
first_unmatched source envelopes (v ∷ vs) =
    if is_on_any source envelopes v source.modules then first_unmatched source envelopes vs else Some (ViewportUnknown v.line)

-- the first viewport of a text that is on no item of it
abbrev pub unmatched_in : Source → Protection → Option ElabError
unmatched_in source protection = first_unmatched source protection.envelopes protection.viewports

-- ---- all of them

-- the first refusal of a source, with its envelopes and viewports, that holds; none where it has a design (profile)
abbrev pub refusal_of : Source → Protection → Option ElabError
refusal_of source protection =
    first_of_two (modules.refusal_of source)
    (first_of_two (too_many source protection.envelopes) (unmatched_in source protection))
