use Rattle.std.proofs.Common.{rules, ◌≡◌, ◌∙◌, ◌++◌, Err, IfOk, List, Ok, Result}
use Rattle.vp_hub.specs.declared.close.Closed.{Closed}
use Rattle.vp_hub.specs.declared.error.HubError.{HubError}
use Rattle.vp_hub.specs.Calls.{Passed}
use Rattle.vp_hub.specs.Closing.{IsEnd}
use Rattle.vp_hub.proofs.hub.Hub.close.Goals as goal

-- what was handed back last is the end
ended : (r : Result Closed HubError) (before last all : List Passed) → all ≡ before ++ last → IfOk r (λ closed. closed.passes.entries ≡ all) → IfOk r (λ closed. IsEnd last closed.passes.entries)
ended (Ok closed) before last all is e = (before, e ∙ is)
ended (Err e) before last all is none = tt

pub returns-clause-passes : goal.returns-clause-passes
returns-clause-passes g c =
    let back : c.hand_back_all.new.desk.handed_back ≡ c.into_inner-desk.result.handed_back ++ c.args.passes.items = search rules in
    ended c.close.result c.into_inner-desk.result.handed_back c.args.passes.items c.hand_back_all.new.desk.handed_back back c.close.ensures.passes
