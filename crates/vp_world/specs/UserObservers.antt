-- What a session can look up of a simulation, by a user of its policy.
use Rattle.std.specs.Prelude.{ℕ, ◌&&◌, if◌then◌else◌, List, [], ◌∷◌, slice_index_or, Option, Some, None, is_none, option_map}
use Rattle.vp_text.specs.Texts.{parts}
use Rattle.vp_bits.specs.declared.bit.Bit.{Bit}
use Rattle.vp_bits.specs.declared.bit.Bit.TheVariants.{Unknown}
use Rattle.vp_pragma.specs.declared.rights.Right.TheVariants as right
use Rattle.vp_elab.specs.Tree.{definition_at, full_name_at, name_at}
use Rattle.vp_policy.specs.Users.{Member}
use Rattle.vp_policy.specs.Filter.{closed_in, denial_at, listed, look_in, words_of}
use Rattle.vp_race.specs.States as sim
use Rattle.vp_vpi.specs.declared.races.ShownRace.{ShownRace}
use Rattle.vp_vpi.specs.Observers.{Observer, is_readable, kind_at, line_at, lookup_of, width_at}

-- the value of an object that a user may read; none where it has none, and where he may not
abbrev pub value_read : sim.State → Member → ℕ → Option (List Bit)
value_read run u o =
    if is_readable (kind_at run.design.tree o) && is_none (denial_at run.design.tree u right.Read o)
    then Some (slice_index_or run.values o (Unknown ∷ [])) else None

-- a simulation, as a user looks into it; without races
abbrev pub observer_of : sim.State → Member → Observer
observer_of run u = record {
  named = λ scope name. lookup_of run.design.tree (look_in run.design.tree u scope (parts 46 name));
  listed = listed run.design.tree u;
  closed = closed_in run.design.tree u;
  denied = λ r o. option_map (words_of run.design.tree) (denial_at run.design.tree u r o);
  kind = kind_at run.design.tree;
  width = width_at run.design.tree;
  line = line_at run.design.tree;
  name = name_at run.design.tree;
  full_name = full_name_at run.design.tree;
  definition = definition_at run.design.tree.nodes;
  value = value_read run u;
  may_run = u.run;
  time = run.time;
  finished = run.finished;
  races = [];
}

-- the same with the races that are shown
abbrev pub with_races : List ShownRace → Observer → Observer
with_races races observation = record observation { races = races }
