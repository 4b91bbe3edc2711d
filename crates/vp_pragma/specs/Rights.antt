-- Rights, and sets of rights.
use Rattle.std.specs.Prelude.{ℕ, ◌==◌, Bool, true, false, ◌&&◌, ◌||◌, List, codes}
use Rattle.std.specs.Int.RustNames.{bit_and}
use Rattle.vp_pragma.specs.declared.rights.Right.{Right}
use Rattle.vp_pragma.specs.declared.rights.Right.TheVariants as right
use Rattle.vp_pragma.specs.declared.rights.Rights.{Rights}

-- the name of a right, in access strings and lines (profile)
abbrev pub name_of : Right → List ℕ
name_of right.List = codes "list"
name_of right.Read = codes "read"
name_of right.Watch = codes "watch"
name_of right.Put = codes "put"
name_of right.Race = codes "race"

-- a set of rights: which of the five are in it (profile)
pub record RightSet : Type 0 where
  pub list : Bool
  pub read : Bool
  pub watch : Bool
  pub put : Bool
  pub race : Bool

-- a right is in a set
abbrev pub has : Right → RightSet → Bool
has right.List set = set.list
has right.Read set = set.read
has right.Watch set = set.watch
has right.Put set = set.put
has right.Race set = set.race

-- the empty set
abbrev pub nothing : RightSet
nothing = record { list = false; read = false; watch = false; put = false; race = false }

-- all five rights
abbrev pub everything : RightSet
everything = record { list = true; read = true; watch = true; put = true; race = true }

-- what is in both sets
abbrev pub both : RightSet → RightSet → RightSet
both a b = record {
  list = a.list && b.list;
  read = a.read && b.read;
  watch = a.watch && b.watch;
  put = a.put && b.put;
  race = a.race && b.race;
}

-- what is in one of the sets
abbrev pub either : RightSet → RightSet → RightSet
either a b = record {
  list = a.list || b.list;
  read = a.read || b.read;
  watch = a.watch || b.watch;
  put = a.put || b.put;
  race = a.race || b.race;
}

-- one right more
abbrev pub with_right : Right → RightSet → RightSet
with_right right.List set = record set { list = true }
with_right right.Read set = record set { read = true }
with_right right.Watch set = record set { watch = true }
with_right right.Put set = record set { put = true }
with_right right.Race set = record set { race = true }

-- the set of one right
abbrev pub only : Right → RightSet
only r = with_right r nothing

-- a number has a bit, which is given by its value
abbrev pub has_bit : ℕ → ℕ → Bool
has_bit n bit = bit_and n bit == bit

-- the set of a value of Rights: list, read, watch, put and race are its bits from the lowest on
abbrev pub set_of : Rights → RightSet
set_of r = record {
  list = has_bit r.0 1;
  read = has_bit r.0 2;
  watch = has_bit r.0 4;
  put = has_bit r.0 8;
  race = has_bit r.0 16;
}
