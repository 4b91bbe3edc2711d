-- An opening to name where none is picked.
use Rattle.std.specs.Prelude.{[], None}
use Rattle.vp_world.specs.Worlds.{Opening}

-- how a world without a design and without users begins
abbrev pub bare : Opening
bare = record {
  design = record {
    source = record {
      text = [];
      tokens = [];
      modules = [];
      items = [];
      connections = [];
      statements = [];
      expressions = [];
      terms = [];
      choices = [];
    };
    tree = record { nodes = []; viewports = []; authors = [] };
  };
  policy = record {
    tree = record { nodes = []; viewports = []; authors = [] };
    members = [];
    operator = None;
  };
  limits = record { log = 0; for_users = 0; for_operator = 0; for_closes = 0; bytes = None; book = record { races = 0; steps = 0 }; sessions = 0 };
}
