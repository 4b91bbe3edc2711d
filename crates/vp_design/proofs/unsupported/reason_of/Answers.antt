use Rattle.std.proofs.Common.{◌∙◌, ℕ, List, ap, map}
use Rattle.std.specs.Borrow.{Bor}
use Rattle.vp_design.specs.LeftOut.{reason_in}
use Rattle.vp_design.specs.Tables.{other_reason}
use Rattle.vp_design.proofs.unsupported.reason_of.Goals as goal

pub returns : goal.returns
returns c =
    c.reason_in.ensures
    ∙ ap (λ (t : List (Bor (List ℕ) × Bor (List ℕ))). reason_in (map (λ e. (e.0.now, e.1.now)) t) other_reason c.args.word.now) c.as_slice.ensures
