use Rattle.std.proofs.Common.{◌≡◌, take, map}
use Rattle.std.specs.List.{fold}
use Rattle.vp_notify.specs.Registry.{notice_of, with_notice}
use Rattle.vp_notify.proofs.registry.Registry.on_changes.Given as goal

-- what the callbacks before this one are notified of waits, as far as it isn't lost
abbrev pub invariant-loop-callback : goal.invariant-loop-callback
invariant-loop-callback l =
    -- while its callbacks are lent, the fields of a registry stand in a row: the fourth is what waits, and the fifth what is lost
    let waiting = l.self-inside.1.1.1.1.0 in
    let lost = l.self-inside.1.1.1.1.1.0 in
    record {
      room : waiting.capacity ≡ 4096;
      told : record l.fn.self { waiting = waiting.items; lost = lost } ≡ fold with_notice l.fn.self (map (notice_of l.change l.time) (take l.callback-index l.callback-items));
    }
