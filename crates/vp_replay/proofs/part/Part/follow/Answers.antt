use Rattle.std.proofs.Common.{◌≡◌, ◌∙◌, ◌++◌, ◌∷◌, [], List, Some, None, ap}
use Rattle.std.specs.Prelude.{unwrap_or}
use Rattle.vp_vpi.specs.declared.races.ShownRace.{ShownRace}
use Rattle.vp_replay.specs.Parts.{Part}
use Rattle.vp_replay.proofs.PartSteps.{changed_part, entry_part, unchanged_part}
use Rattle.vp_replay.proofs.part.Part.follow.Goals.{in-Some, in_default}
use Rattle.vp_replay.proofs.part.Part.follow.Goals as goal

pub returns-in_ok-push : goal.returns-in_ok-push
returns-in_ok-push c =
    let p : Part = c.args.self.now in
    let i = c.args.item.now in
    let time = c.unwrap_or-self-inside.result in
    let finished = c.unwrap_or-self-inside-2.result in
    let at : time ≡ unwrap_or i.time p.time = c.unwrap_or-self-inside.ensures ∙ ap (λ (x : Part). unwrap_or i.time x.time) c.self.view_is in
    let flag : finished ≡ unwrap_or i.finished p.finished = c.unwrap_or-self-inside-2.ensures ∙ ap (λ (x : Part). unwrap_or i.finished x.finished) c.self.view_is in
    let race : ShownRace = c.in-Some-race.race in
    let pushed : c.push.new.self.items ≡ c.self-2.inside.races.items ++ race ∷ [] =
    (c.in_ok-push.ensures {u = tt}).items ∙ ap (λ (r : ShownRace). c.self-2.inside.races.items ++ r ∷ []) (c.in_ok-try_clone.ensures {u = tt}) in
    let before : Part = record {
      view = c.self-2.inside.view.now;
      opens = c.self-2.inside.opens;
      sessions = c.self-2.inside.sessions.items;
      values = c.self-2.inside.values.items;
      time = c.self-2.inside.time;
      finished = c.self-2.inside.finished;
      races = c.self-2.inside.races.items;
    } in
    ap (λ (rs : List ShownRace). (let x : Part = record before { races = rs } in x)) pushed
    ∙ ap (λ (x : Part). (let y : Part = record x { races = x.races ++ race ∷ [] } in y)) c.self-2.view_is
    ∙ (elim c.match-item.branch [
      | in-Some w ↦
          entry_part p c.match-item.self i time finished (Some w.in-Some.change) (Some race) at flag w.in-Some.is c.in-Some-race.is
          (w.self-is ∙ w.change.ensures ∙ ap (λ (x : Part). changed_part x time finished (Some w.in-Some.change)) c.self.view_is)
      | in_default w ↦
          entry_part p c.match-item.self i time finished None (Some race) at flag w.in_default.is c.in-Some-race.is
          (w.self-is ∙ ap (λ (x : Part). (let y : Part = record x { time = time; finished = finished } in y)) c.self.view_is ∙ unchanged_part p time finished)
    ])

pub returns-in_default-race : goal.returns-in_default-race
returns-in_default-race c =
    let p : Part = c.args.self.now in
    let i = c.args.item.now in
    let time = c.unwrap_or-self-inside.result in
    let finished = c.unwrap_or-self-inside-2.result in
    let at : time ≡ unwrap_or i.time p.time = c.unwrap_or-self-inside.ensures ∙ ap (λ (x : Part). unwrap_or i.time x.time) c.self.view_is in
    let flag : finished ≡ unwrap_or i.finished p.finished = c.unwrap_or-self-inside-2.ensures ∙ ap (λ (x : Part). unwrap_or i.finished x.finished) c.self.view_is in
    elim c.match-item.branch [
      | in-Some w ↦
          entry_part p c.match-item.self i time finished (Some w.in-Some.change) None at flag w.in-Some.is c.in_default-race.is
          (w.self-is ∙ w.change.ensures ∙ ap (λ (x : Part). changed_part x time finished (Some w.in-Some.change)) c.self.view_is)
      | in_default w ↦
          entry_part p c.match-item.self i time finished None None at flag w.in_default.is c.in_default-race.is
          (w.self-is ∙ ap (λ (x : Part). (let y : Part = record x { time = time; finished = finished } in y)) c.self.view_is ∙ unchanged_part p time finished)
    ]
