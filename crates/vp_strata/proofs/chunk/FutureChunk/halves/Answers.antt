use Rattle.std.proofs.Common.{◌≡◌, ◌/◌, ◌+◌, ◌-◌, ◌∙◌, ◌++◌, ◌≤◌, ℕ, List, ap, arith, drop, length, insert, take}
use Rattle.std.proofs.lemmas.List.{length-drop, length-take}
use Rattle.vp_strata.specs.declared.event.Timed.{Timed}
use Rattle.vp_strata.proofs.Halves.{front_length, more_in_back, more_in_front}
use Rattle.vp_strata.proofs.chunk.FutureChunk.halves.Goals as goal

pub returns-then-place-half-clause-both : goal.returns-then-place-half-clause-both
returns-then-place-half-clause-both c =
    let events = c.args.self.now in
    let half = (c.len.result - c.args.from) / 2 in
    let many : c.len.result ≡ length events = c.len.ensures.len in
    let within : c.args.from + half ≤ length events = omega (arith, length-drop c.args.from events) in
    let more = (c.in_ok-insert.ensures {u = tt}).inserted in
    let front = c.in_ok-front.ensures {u = tt} in
    let back = c.in_ok-back.ensures {u = tt} in
    ap (λ (ys : List Timed). ys ++ c.in_ok-back.back) more
    ∙ ap (λ (ys : List Timed). insert ys c.args.place c.args.event ++ c.in_ok-back.back) front
    ∙ ap (λ (ys : List Timed). insert (take (c.args.from + half - c.args.from) (drop c.args.from events)) c.args.place c.args.event ++ ys) back
    ∙ ap (λ (n : ℕ). insert (take (c.args.from + half - c.args.from) (drop c.args.from events)) c.args.place c.args.event ++ take (n - (c.args.from + half)) (drop (c.args.from + half) events)) c.len-2.ensures.len
    ∙ more_in_front events c.args.from half c.args.place c.args.event within c.if-place-half.true

pub returns-clause-both : goal.returns-clause-both
returns-clause-both c =
    let events = c.args.self.now in
    let half = (c.len.result - c.args.from) / 2 in
    let many : c.len.result ≡ length events = c.len.ensures.len in
    let within : c.args.from + half ≤ length events = omega (arith, length-drop c.args.from events) in
    let more = (c.in_ok-insert-2.ensures {u = tt}).inserted in
    let front = c.in_ok-front.ensures {u = tt} in
    let back = c.in_ok-back.ensures {u = tt} in
    ap (λ (ys : List Timed). c.in_ok-front.front ++ ys) more
    ∙ ap (λ (ys : List Timed). ys ++ insert c.in_ok-back.back (c.args.place - half) c.args.event) front
    ∙ ap (λ (ys : List Timed). take (c.args.from + half - c.args.from) (drop c.args.from events) ++ insert ys (c.args.place - half) c.args.event) back
    ∙ ap (λ (n : ℕ). take (c.args.from + half - c.args.from) (drop c.args.from events) ++ insert (take (n - (c.args.from + half)) (drop (c.args.from + half) events)) (c.args.place - half) c.args.event) c.len-2.ensures.len
    ∙ more_in_back events c.args.from half c.args.place c.args.event within c.if-place-half.false

pub returns-clause-front : goal.returns-clause-front
returns-clause-front c =
    let events = c.args.self.now in
    let half = (c.len.result - c.args.from) / 2 in
    let rest = length-drop c.args.from events in
    let within : c.args.from + half ≤ length events = omega (arith, rest) in
    let long = front_length events c.args.from half within in
    let front = ap length (c.in_ok-front.ensures {u = tt}) in
    omega (arith, long, front, rest, c.requires, c.if-place-half.false)

pub insert-requires-clause-room : goal.insert-requires-clause-room
insert-requires-clause-room c =
    let events = c.args.self.now in
    let half = (c.len.result - c.args.from) / 2 in
    let many : c.len.result ≡ length events = c.len.ensures.len in
    let rest = length-drop c.args.from events in
    let long = front_length events c.args.from half (omega (arith, rest)) in
    let front = ap length (c.in_ok-front.ensures {u = tt}) in
    omega (arith, long, front, c.len.ensures.most)

pub insert-requires-2-clause-room : goal.insert-requires-2-clause-room
insert-requires-2-clause-room c =
    let events = c.args.self.now in
    let half = (c.len.result - c.args.from) / 2 in
    let many : c.len.result ≡ length events = c.len.ensures.len in
    let again : c.len-2.result ≡ length events = c.len-2.ensures.len in
    let rest = length-drop (c.args.from + half) events in
    let cut = length-take (c.len-2.result - (c.args.from + half)) (drop (c.args.from + half) events) in
    let back = ap length (c.in_ok-back.ensures {u = tt}) in
    omega (arith, back, cut, rest, length-drop c.args.from events, c.requires, c.len.ensures.most)
