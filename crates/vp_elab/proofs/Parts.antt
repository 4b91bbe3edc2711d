-- Parts of lists, and modules by their numbers.
use Rattle.std.proofs.Common.{◌≡◌, ℕ, ◌-◌, Bool, true, false, cond, ◌&&◌, List, [], length, map, take, drop, slice_get, Option, Some, None, refl, ap, ◌∙◌}
use Rattle.std.specs.Prelude.{nat_le, slice_range}
use Rattle.std.specs.Option.{option_and_then}
use Rattle.std.proofs.lemmas.List.{drop-map, take-map, length-map}
use Rattle.vp_text.specs.Lists.{range_of}
use Rattle.vp_source.specs.declared.source.Source.{Source}
use Rattle.vp_source.specs.declared.source.Module.{Module}
use Rattle.vp_source.specs.declared.source.Item.{Item}
use Rattle.vp_modules.specs.Definitions.{definitions_in}
use Rattle.vp_modules.specs.Items.{definition_number, definition_of, instantiated, items_in, module_number}

-- a module, for a place past the end of a list
abbrev pub nowhere : Module
nowhere = record { name = 0; items = record { first = 0; end = 0 }; ports = 0; statements = record { first = 0; end = 0 }; expressions = record { first = 0; end = 0 }; terms = record { first = 0; end = 0 }; choices = record { first = 0; end = 0 } }

-- numbers that are the same, where they are there
pub some_same : (n m : ℕ) → n ≡ m → Some n ≡ Some m
some_same n m e = ap {B = Option ℕ} Some e

part_by : {X Y : Type 0} (there : Bool) (f : X → Y) (xs : List X) (a b : ℕ) → cond there (slice_range (map f xs) a b) [] ≡ map f (cond there (slice_range xs a b) [])
part_by true f xs a b = ap (take (b - a)) (drop-map f a xs) ∙ take-map f (b - a) (drop a xs)
part_by false f xs a b = refl

-- a part of what f gives is what f gives of the part
pub range_of-map : {X Y : Type 0} (f : X → Y) (xs : List X) (a b : ℕ) → range_of (map f xs) a b ≡ map f (range_of xs a b)
range_of-map f xs a b =
    ap (λ (n : ℕ). cond (nat_le a b && nat_le b n) (slice_range (map f xs) a b) []) (length-map xs f)
    ∙ part_by (nat_le a b && nat_le b (length xs)) f xs a b

-- what a module's items instantiate
pub definitions_are : (source : Source) (definitions : List (Option ℕ)) (m : Module) → definitions ≡ map (definition_number source) source.items → definitions_in definitions m ≡ map (definition_number source) (items_in source m)
definitions_are source definitions m table = ap (λ ds. definitions_in ds m) table ∙ range_of-map (definition_number source) source.items m.items.first m.items.end

definition_by : (source : Source) (name : Option (List ℕ)) → option_and_then (slice_get source.modules) (option_and_then (module_number source) name) ≡ option_and_then (λ n. option_and_then (slice_get source.modules) (module_number source n)) name
definition_by source None = refl
definition_by source (Some name) = refl

-- the module that an item instantiates is that of the number
pub definition_at : (source : Source) (i : Item) → option_and_then (slice_get source.modules) (definition_number source i) ≡ definition_of source i
definition_at source i = definition_by source (instantiated source i)
