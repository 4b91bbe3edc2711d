use Rattle.std.proofs.Common.{◌≡◌, ◌∙◌, [], ℕ, Option, Some, None, ap, sym}
use Rattle.std.specs.Prelude.{IfNone, option_copied}
use denote.Ref.{Bor}
use Rattle.vp_race.specs.Search.{found}
use Rattle.vp_race.specs.Segments.{Run}
use Rattle.vp_race.proofs.Closing.{closed_end}
use Rattle.vp_race.proofs.Found.{found_none}
use Rattle.vp_race.proofs.Matching.{never, run_of}
use Rattle.vp_race.proofs.segment.Segment.first_choice.Goals as goal

-- what holds where nothing is kept, of what is lent of it
lent_none : {X : Type 0} (P : Type 0) (lent : Option (Bor X)) (kept : Option X) → option_copied lent ≡ kept → (kept ≡ None → P) → IfNone lent P
lent_none P None kept is h = h (sym is)
lent_none P (Some x) kept is h = tt

pub returns-clause-alone : goal.returns-clause-alone
returns-clause-alone c =
    let i = c.self.inside in
    let run = run_of i.number i.start i.forced i.choice in
    lent_none ((limit : ℕ) → (seeds : ℕ) → found c.args.self.now limit seeds ≡ []) c.as_ref.result i.choice c.as_ref.ensures.value
    (λ none limit seeds.
    ap (λ (r : Run). found r limit seeds) (sym c.self.view_is)
    ∙ sym (found_none run limit seeds (closed_end i.start i.forced i.choice c.self.invariant) (never i.start i.forced i.choice c.self.invariant none)))
