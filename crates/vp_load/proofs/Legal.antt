-- The events of a legal log.
use Rattle.std.proofs.Common.{◌≡◌, ℕ, List, [], ◌∷◌, ◌++◌, drop, subst, sym}
use Rattle.std.proofs.lemmas.List.Elements.{All-cons, All-drop, All-nil}
use Rattle.vp_elab.specs.Built.{Elaborated}
use Rattle.vp_world.specs.Entries.{Entry}
use Rattle.vp_world.specs.Events.{IsWellFormed}
use Rattle.vp_world.specs.History.{IsLegal}
use Rattle.vp_world.specs.Worlds.{Opening}
use Rattle.vp_load.specs.Logs.{AreWellFormed}

-- each may happen to a world of the design
pub formed_all : (opening : Opening) (before log : List Entry) → IsLegal opening before log → AreWellFormed opening.design log
formed_all opening before [] legal = All-nil (λ (e : Entry). IsWellFormed opening.design e.event)
formed_all opening before (e ∷ log) (formed, accepted, is, legal) =
    All-cons (λ (x : Entry). IsWellFormed opening.design x.event) e log formed (formed_all opening (before ++ e ∷ []) log legal)

-- and so may each of those that were not handed out
pub formed_rest : (design : Elaborated) (n : ℕ) (log entries : List Entry) → entries ≡ drop n log → AreWellFormed design log → AreWellFormed design entries
formed_rest design n log entries is all =
    subst (AreWellFormed design) (sym is) (All-drop (λ (e : Entry). IsWellFormed design e.event) n log all)
