use Rattle.std.proofs.Common.{◌≡◌, ◌∙◌, ℕ, Bool, true, length, List, Option, ap, map, sym, rules}
use Rattle.std.specs.List.{list_all}
use Rattle.std.proofs.lemmas.List.{with_items_is}
use Rattle.vp_bits.specs.declared.bit.Bit.{Bit}
use Rattle.vp_notify.specs.Registry.{is_unwatchable}
use Rattle.vp_notify.specs.Renumbered.{number_now}
use Rattle.vp_pragma.specs.declared.rights.Rights.{Rights}
use Rattle.vp_vpi.specs.declared.races.ShownRace.{ShownRace}
use Rattle.vp_answer.specs.OpenSessions.{OpenSessionState, is_session_within, moved_session}
use Rattle.vp_replay.specs.Parts.{Part, granted_session, granted_values, part_granted}
use Rattle.vp_replay.proofs.Moving.{sessions_granted}
use Rattle.vp_replay.proofs.part.Part.grant.Goals as goal

pub returns-clause-after : goal.returns-clause-after
returns-clause-after c =
    let g = c.args.granted.now in
    let inside = c.self.inside in
    let sessions : List OpenSessionState = inside.sessions.items in
    let gone : ℕ → Bool = is_unwatchable c.in_ok-rights.rights.items in
    let within : list_all (is_session_within (length g.moved)) sessions ≡ true =
    ap (λ (ts : List OpenSessionState). list_all (is_session_within (length g.moved)) ts) (sym c.deref.ensures.value)
    ∙ ap (λ (ns : List ℕ). list_all (is_session_within (length ns)) c.deref.result.now) (sym c.as_slice-moved.ensures)
    ∙ sym c.are_sessions_within.ensures ∙ c.if-not-are_sessions_within.false in
    let new : c.renumber_sessions.new.sessions ≡ map (granted_session g) sessions =
    c.renumber_sessions.ensures
    ∙ ap (λ (ts : List OpenSessionState). map (moved_session (number_now c.as_slice-moved.result.now) (is_unwatchable c.deref-3.result.now)) ts) c.deref_mut.ensures.value
    ∙ ap (λ (ns : List ℕ). map (moved_session (number_now ns) (is_unwatchable c.deref-3.result.now)) sessions) c.as_slice-moved.ensures
    ∙ ap (λ (rs : List Rights). map (moved_session (number_now g.moved) (is_unwatchable rs)) sessions) c.deref-3.ensures.value
    ∙ sessions_granted g gone (c.in_ok-rights.ensures {u = tt}) sessions within in
    let came : c.in_ok-values.values.items ≡ g.values = (c.in_ok-values.ensures {u = tt}).items ∙ c.as_slice.ensures in
    let values : c.keep_values.new.values.items ≡ granted_values g.moved inside.values.items g.values =
    c.keep_values.ensures
    ∙ ap (λ ns. granted_values ns c.deref-2.result.now c.in_ok-values.values.items) c.as_slice-moved.ensures
    ∙ ap (λ vs. granted_values g.moved vs c.in_ok-values.values.items) c.deref-2.ensures.value
    ∙ ap (granted_values g.moved inside.values.items) came in
    let races = c.in_ok-races.ensures {u = tt} ∙ c.as_slice-2.ensures in
    let part : List OpenSessionState → List (Option (List Bit)) → List ShownRace → Part = λ ts vs rs.
    record { view = g.view; opens = inside.opens; sessions = ts; values = vs; time = inside.time; finished = inside.finished; races = rs } in
    ap (λ ts. part ts c.keep_values.new.values.items c.in_ok-races.races.items) (with_items_is inside.sessions c.renumber_sessions.new.sessions (search rules) ∙ new)
    ∙ ap (λ vs. part (map (granted_session g) sessions) vs c.in_ok-races.races.items) values
    ∙ ap (λ rs. part (map (granted_session g) sessions) (granted_values g.moved inside.values.items g.values) rs) races
    ∙ ap (λ (x : Part). part_granted x g) c.self.view_is
