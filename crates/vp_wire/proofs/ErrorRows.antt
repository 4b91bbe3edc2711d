-- The lines that report an error, computed. Each row is an equation that holds by computation.
use Rattle.std.proofs.Common.{◌≡◌, refl}
use Rattle.std.specs.Prelude.{codes}
use Rattle.serde_json.proofs.OnLiterals.{serde_json_on_literals}
use Rattle.vp_wire.specs.Dialogue.{error_line}

pub line_too_long : error_line (codes "line too long") ≡ codes "{\"error\":\"line too long\"}\n"
unfolding serde_json_on_literals
line_too_long = refl

pub bad_json : error_line (codes "bad json") ≡ codes "{\"error\":\"bad json\"}\n"
unfolding serde_json_on_literals
bad_json = refl

pub bad_request : error_line (codes "bad request") ≡ codes "{\"error\":\"bad request\"}\n"
unfolding serde_json_on_literals
bad_request = refl

pub not_open : error_line (codes "not open") ≡ codes "{\"error\":\"not open\"}\n"
unfolding serde_json_on_literals
not_open = refl

pub no_memory : error_line (codes "no memory") ≡ codes "{\"error\":\"no memory\"}\n"
unfolding serde_json_on_literals
no_memory = refl
