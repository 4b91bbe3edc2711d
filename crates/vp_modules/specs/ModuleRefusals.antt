-- Why the modules of a source are not right: the refusals, each tested over the whole text before the next, at the first token of the text.
use Rattle.std.specs.Prelude.{ℕ, zero, suc, ◌+◌, ◌||◌, Bool, false, if◌then◌else◌, List, [], ◌∷◌, ◌++◌, length, Option, Some, None}
use Rattle.std.specs.List.{flat_map, list_any}
use Rattle.std.specs.Option.{option_and_then, option_map_or}
use Rattle.std.specs.Str.{bytes_eq}
use Rattle.vp_source.specs.Places.{earliest, word_at}
use Rattle.vp_source.specs.declared.source.Connection.{Connection}
use Rattle.vp_source.specs.declared.source.Direction.TheVariants as direction
use Rattle.vp_source.specs.declared.source.Source.{Source}
use Rattle.vp_source.specs.declared.source.Module as declared
use Rattle.vp_source.specs.declared.source.Item.{Item}
use Rattle.vp_source.specs.declared.source.Item.TheVariants as item
use Rattle.vp_modules.specs.declared.error.ElabError.{ElabError}
use Rattle.vp_modules.specs.declared.error.ElabError.TheVariants.{UnknownModule, Recursive, Undeclared, BadTarget, BadConnection, MultipleDrivers}
use Rattle.vp_modules.specs.Refusals.{bad_connection, bad_target, first_in, first_of_two, port_of, refused_at, twice_in, undeclared}
use Rattle.vp_modules.specs.Items.{connections_of, definition_of, instantiated, is_among, is_input, items_in, module_named}

-- ---- instances (clause 12.1)

-- the name of the module that an item instantiates, where no module has it
abbrev pub missing_module : Source → Item → Option ℕ
missing_module source (item.Instance name definition first end) =
    option_map_or (λ m. None) (module_named source (word_at source definition)) (Some definition)
missing_module source _ = None

-- an item instantiates a module of this name, or one from which a walk goes on to it
abbrev pub leads_by : Source → List ℕ → (declared.Module → Bool) → Item → Bool
leads_by source name further i =
    option_map_or (λ definition. bytes_eq name definition || option_map_or further (module_named source definition) false) (instantiated source i) false

-- a module leads to one of this name through at most so many instances
abbrev pub leads : Source → List ℕ → ℕ → declared.Module → Bool
leads source name zero m = false
leads source name (suc n) m = list_any (leads_by source name (leads source name n)) (items_in source m)

-- the name of a module that instantiates itself, at any depth
abbrev pub recursive : Source → declared.Module → Option ℕ
recursive source m = if leads source (word_at source m.name) (length source.modules) m then Some m.name else None

-- ---- drivers (clauses 6.1 and 12.3.9; one of each net: profile)

-- the place of the net that a connection to a module's port, after so many, drives: that of an output's value
abbrev pub driven_from : Source → declared.Module → ℕ → Connection → Option ℕ
driven_from source target before c =
    option_and_then (λ port. option_and_then (λ v. if is_input port then None else Some c.place) c.value) (port_of source target before c)

-- the places of the nets that connections to a module's ports, after so many, drive
abbrev pub driven_through : Source → declared.Module → ℕ → List Connection → List ℕ
driven_through source target before [] = []
driven_through source target before (c ∷ cs) =
    option_map_or (λ place. place ∷ []) (driven_from source target before c) [] ++ driven_through source target (before + 1) cs

-- the places at which an item drives nets: an assignment its target, an input itself, an instance what its outputs are connected to
abbrev pub driven_by : Source → Item → List ℕ
driven_by source (item.Port name direction.Input range) = name ∷ []
driven_by source (item.Assignment target value) = target ∷ []
driven_by source i = option_map_or (λ target. driven_through source target 0 (connections_of source i)) (definition_of source i) []

-- the first of these places whose word is among these before it
abbrev pub repeated : Source → List (List ℕ) → List ℕ → Option ℕ
repeated source words [] = None
repeated source words (p ∷ ps) =
    if is_among words (word_at source p) then Some p else repeated source (words ++ word_at source p ∷ []) ps

-- the first place in a module at which a net is driven that is driven before
abbrev pub driven_twice : Source → declared.Module → Option ℕ
driven_twice source m = repeated source [] (flat_map (driven_by source) (items_in source m))

-- ---- all of them

-- why what the names of a source are used for is not right
abbrev pub refusal_of_uses : Source → Option ElabError
refusal_of_uses source =
    first_of_two (refused_at source Undeclared (first_in source (undeclared source)))
    (first_of_two (refused_at source BadTarget (first_in source (bad_target source)))
    (first_of_two (refused_at source BadConnection (first_in source (bad_connection source)))
    (refused_at source MultipleDrivers (first_in source (driven_twice source)))))

-- why its instances are not right
abbrev pub refusal_of_instances : Source → Option ElabError
refusal_of_instances source =
    first_of_two (refused_at source UnknownModule (earliest (missing_module source) source.items))
    (refused_at source Recursive (first_in source (recursive source)))

-- why the modules of a source are not right; none where they are
abbrev pub refusal_of : Source → Option ElabError
refusal_of source =
    first_of_two (twice_in source [] source.modules)
    (first_of_two (refusal_of_instances source)
    (refusal_of_uses source))
