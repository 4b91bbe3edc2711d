-- A stop that reports how many symbols are left is not out of memory.
use Rattle.std.proofs.Common.{◌≡◌, ◌≢◌}
use Rattle.std.specs.Prelude.{Some}
use Rattle.vp_parse_expr.specs.declared.reading.Stop as stop
use Rattle.vp_parse_expr.specs.declared.reading.Stop.TheVariants as stop_of
use Rattle.vp_parse_expr.specs.Stopping.{Stop, stop_told}

pub told_stop : (e : stop.Stop) (s : Stop) → stop_told e ≡ Some s → e ≢ stop_of.NoMemory
told_stop (stop_of.Syntax n) s h k = cc
told_stop (stop_of.LeftOut n) s h k = cc
told_stop (stop_of.TooDeep n) s h k = cc
told_stop stop_of.NoMemory s h k = cc
