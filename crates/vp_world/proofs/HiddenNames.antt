-- A hidden name is answered as an absent one.
use Rattle.std.proofs.Common.{◌≡◌, ◌∙◌, ℕ, Bool, true, false, List, Option, Some, None, Result, Ok, Err, IfOk, refl, ap, sym}
use Rattle.std.specs.Prelude.{if◌then◌else◌, option_and_then, option_map}
use Rattle.vp_text.specs.Texts.{parts}
use Rattle.vp_pragma.specs.declared.rights.Right.TheVariants as right
use Rattle.vp_policy.proofs.Laws.{looks_alike}
use Rattle.vp_policy.specs.declared.denial.Look.{Look}
use Rattle.vp_policy.specs.Denials.{DenialText}
use Rattle.vp_policy.specs.Filter.{look_in, stops_in}
use Rattle.vp_policy.specs.Users.{Member, member_at}
use Rattle.vp_vpi.specs.Calls.{allowed, handle_of, is_module, object_found, scope_of, then_by, undenied}
use Rattle.vp_vpi.specs.Observers.{Observer, lookup_of}
use Rattle.vp_vpi.specs.SessionStates.{SessionState, object_of}
use Rattle.vp_vpi.specs.declared.error.VpiError.{VpiError}
use Rattle.vp_vpi.specs.declared.error.VpiError.TheVariants as error
use Rattle.vp_answer.specs.Answers.{Response, made, response_by}
use Rattle.vp_answer.specs.OpenSessions.{OpenSessionState}
use Rattle.vp_answer.specs.declared.query.Query.TheVariants as query
use Rattle.vp_answer.specs.declared.reply.Reply.{Reply}
use Rattle.vp_world.specs.declared.error.WorldError.{WorldError}
use Rattle.vp_world.specs.declared.event.Event.{Event}
use Rattle.vp_world.specs.HiddenNames.{HidesAlike, scope_in, stop_in, stop_of}
use Rattle.vp_world.specs.History.{answered_by, asked, observer_at, session_of, state_after}
use Rattle.vp_world.specs.Worlds.{State, WorldLog}

-- what comes next of a value is alike where it is so for that value
next_alike : {A B : Type 0} (x : Result A VpiError) (f g : A → Result B VpiError) → ((a : A) → x ≡ Ok a → f a ≡ g a) → then_by x f ≡ then_by x g
next_alike (Ok a) f g h = h a refl
next_alike (Err e) f g h = refl

-- a scope that is answered is that of the handle
scope_found : (observation : Observer) (session_state : SessionState) (scope : Option ℕ) (above : Option ℕ)
    → scope_of observation session_state.handles scope ≡ Ok above → scope_in session_state scope ≡ Some above
scope_found observation session_state None above e = cc
scope_found observation session_state (Some handle) above e = by_found (object_of session_state.handles handle) e where
  by_kind : (o : ℕ) (b : Bool) → ◌≡◌ {A = Result (Option ℕ) VpiError} (if b then Ok (Some o) else Err error.WrongKind) (Ok above) → ◌≡◌ {A = Option (Option ℕ)} (Some (Some o)) (Some above)
  by_kind o true f = cc
  by_kind o false f = absurd (cc)

  by_denial : (o : ℕ) (d : Option DenialText) → then_by (undenied o d) (λ (x : ℕ). if is_module (observation.kind x) then Ok (Some x) else Err error.WrongKind) ≡ Ok above
      → ◌≡◌ {A = Option (Option ℕ)} (Some (Some o)) (Some above)
  by_denial o None f = by_kind o (is_module (observation.kind o)) f
  by_denial o (Some words) f = absurd (cc)

  by_found : (found : Option ℕ) → then_by (allowed observation right.List found) (λ (x : ℕ). if is_module (observation.kind x) then Ok (Some x) else Err error.WrongKind) ≡ Ok above
      → option_map Some found ≡ Some above
  by_found None f = absurd (cc)
  by_found (Some o) f = by_denial o (observation.denied right.List o) f

-- where two names stop that a session asks in one scope, there is one answer
handles_alike : (s : State) (session_state : SessionState) (scope : Option ℕ) (name other : List ℕ) (stop : List (List ℕ))
    → stop_in s session_state scope name ≡ Some stop → stop_in s session_state scope other ≡ Some stop
    → (let observation : Observer = observer_at s (member_at s.policy.members session_state.user) in
    handle_of observation session_state.handles scope other ≡ handle_of observation session_state.handles scope name)
handles_alike s session_state scope name other stop here there =
    let m : Member = member_at s.policy.members session_state.user in
    let tree = s.run.design.tree in
    let observation : Observer = observer_at s m in
    next_alike (scope_of observation session_state.handles scope)
    (λ above. object_found session_state.handles (observation.named above other)) (λ above. object_found session_state.handles (observation.named above name))
    (λ above is.
    let at = scope_found observation session_state scope above is in
    let stops : stops_in tree m above (parts 46 name) ≡ Some stop = ap (option_and_then (λ (a : Option ℕ). stops_in tree m a (parts 46 name))) (sym at) ∙ here in
    let others : stops_in tree m above (parts 46 other) ≡ Some stop = ap (option_and_then (λ (a : Option ℕ). stops_in tree m a (parts 46 other))) (sym at) ∙ there in
    ap (λ (l : Look). object_found session_state.handles (lookup_of tree l))
    (looks_alike tree m above (parts 46 name) (look_in tree m above (parts 46 name)) refl stop stops above (parts 46 other) others))

-- so is the reply
asked_alike : (s : State) (session : Option OpenSessionState) (scope : Option ℕ) (name other : List ℕ) (stop : List (List ℕ))
    → stop_of s session scope name ≡ Some stop → stop_of s session scope other ≡ Some stop
    → asked s session (query.Handle other scope) ≡ asked s session (query.Handle name scope)
asked_alike s None scope name other stop here there = absurd (cc)
asked_alike s (Some session) scope name other stop here there =
    ap (λ (due : Result ℕ VpiError). (let r : Response = response_by session.session_state (made session.session_state) due in r.reply))
    (handles_alike s session.session_state scope name other stop here there)

-- the reply of a world to a hidden name is that to an absent one
hides_alike : (w : WorldLog) (e : Event) (answer : Reply) → answer ≡ answered_by w e → HidesAlike w e answer
hides_alike w e answer is id scope name other asks stop here there =
    let s : State = state_after w.opening w.log in
    asked_alike s (session_of s.sessions id) scope name other stop here there
    ∙ sym (is ∙ ap (answered_by w) asks)

-- so it is where there is a reply
pub hides_if : (w : WorldLog) (e : Event) (result : Result Reply WorldError) → IfOk result (λ answer. answer ≡ answered_by w e) → IfOk result (HidesAlike w e)
hides_if w e (Ok answer) is = hides_alike w e answer is
hides_if w e (Err x) is = is
