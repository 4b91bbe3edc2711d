use Rattle.std.proofs.Common.{rules, ◌≡◌, ◌∙◌, ◌<◌, length, min, sym}
use Rattle.vp_strata.proofs.Ready.{inactive_ready, nonblocking_ready}
use Rattle.vp_strata.proofs.strata.Strata.choices.Goals as goal

pub returns-then-not-is_empty : goal.returns-then-not-is_empty
returns-then-not-is_empty c =
    let q = c.args.self.now.queue in
    let none : length q.active ≡ 0 = search rules in
    let some : 0 < length q.inactive = search rules in
    let count : c.len.result ≡ length q.inactive = search rules in
    count ∙ sym (inactive_ready q none some)

pub returns : goal.returns
returns c =
    let q = c.args.self.now.queue in
    let none : length q.active ≡ 0 = search rules in
    let idle : length q.inactive ≡ 0 = search rules in
    let count : c.min.result ≡ min (length q.nonblocking) 1 = search rules in
    count ∙ sym (nonblocking_ready q none idle)
