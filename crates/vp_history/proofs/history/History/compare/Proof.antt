-- `compare` holds what the front has reached against what the history is at.
use Rattle.std.proofs.Common.{ℕ, List, [], ◌∷◌, refl}
use mir.Syntax.{a_type, dnil, named}
use mir.Val.{Val, vunit, vptr}
use mir.MapTy.{inst_fn}
use base.Logic.{SProp, emp}
use base.Fml.{Fml, ftrue, fsep, flft, fhide}
use types.Kit.{‵, raw, ◌⊛◌, given, ◌$◌, ◌∵◌, !, qed, by, move, keep, drop, split, fsplit, fsplit3, fjoin, fjoin3, learn, use1, use2, rewrite, feq_i}
use types.Run.{unit_lit, of_opd, returns, enter}
use types.ByLocal.{alloc_all, pass_all, free_all, look_at, sets, env}
use contract.Monad.{fact, fact_i}
use contract.Running.{tables}
use denote.Exit.{yes}
use denote.RattleType.{RattleType, owns}
use denote.Signature.{types_at, plain}
use denote.Builtin.{RefOf}
use denote.Ref.{mut_vals, mut_Tells, shr_vals, shr_Tells}
use denote.Memory.{hidden_shr}
use denote.Opens.{unhide}
use denote.Steps.{nothing, opens, closes}
use denote.Param.{param, bounded}
use denote.Struct.Lending.{lent_out}
use denote.Triple.Walked.{Stays, stay_dropped, stay_ref, walk_of, Goes-dropped, Goes-ref}
use Rattle.atomic_table.proofs.Walks.{proved}
use Rattle.logbook.proofs.Fields.{Token, ends}
use Rattle.std.specs.contracts.marker.PhantomData as marker
use Rattle.vp_history.specs.Kept.{lengthens, reached}
use Rattle.vp_history.specs.contracts.history.History as History
use Rattle.vp_history.specs.contracts.history.Front as Front
use Rattle.vp_history.proofs.Steps as steps
use Rattle.vp_history.specs.contracts.history.History.compare.{ended, clauses}
use Rattle.vp_history.specs.contracts.history.History.compare.Key.{name as #self}
use Rattle.vp_history.proofs.history.History.compare.Statement.{statement}
use Rattle.vp_history.proofs.history.History.compare.Code as code

pub compare_spec : {M : Type 1} → statement M
compare_spec 𝓤 𝓛 𝓜 𝓡 wired E _ =
    let H = 𝓛.H in let 𝓣 = tables 𝓤 H 𝓜 𝓡 𝓡.env in let E' : RattleType = param 0 E in let Row : RattleType = History.the_row E' in let Row' : RattleType = Front.the_row E' in let En = ended E in
    let inst = bounded (a_type ∷ []) (E, tt) dnil in let fn = inst_fn inst code.function in let c = clauses E 𝓛 𝓜.mem 𝓡.returns in
    let cv = E'.coded in let hs : Stays En.signature.params En.kept = (stay_ref (0 ∷ []) tt (plain (λ _. Row)), (stay_dropped (RefOf (1 ∷ []) tt (plain (λ _. Row')) (λ _. tt)) yes, tt)) in
    proved 𝓛 En hs c 𝓜 𝓡 (Goes-ref 𝓛 3 0 tt (plain (λ _. Row)), (Goes-dropped 𝓛 3 (RefOf (1 ∷ []) tt (plain (λ _. Row')) (λ _. tt)) yes (λ κs x f. refl), tt)) (#self inst) fn (code.unfolded 𝓤 H 𝓜 𝓡 wired (E, tt))
    (λ κs. (mut_vals, (shr_vals, tt))) (λ κs. (mut_Tells (named 0) κs.0 Row, (shr_Tells (named 1) κs.1.0 Row', tt))) (λ κs qs bounds a gh are.
    let me = a.0.now in let at0 = a.0.ref_ptr in let other = a.1.0.now in let at1 = a.1.0.ref_ptr in
    let y : (walk_of 𝓛 En hs c).Ghost = ((κs, qs, bounds, a, (vptr at0.0 at0.1 ∷ [], (vptr at1.0 at1.1 ∷ [], tt))), gh) in let Post : Val → SProp 𝓤 = (walk_of 𝓛 En hs c).post y in let toks : Fml = fsep (flft κs.0 qs.0) (fsep (flft κs.1.0 qs.1.0) (fsep (flft κs.1.1.0 qs.1.1.0) ftrue)) in
    qed 𝓛 ((‵ toks ⊛ ‵ (owns (types_at En.signature.params κs) a y.0.4)) ∷ raw (fact 𝓤 _) ∷ given _ (‵ ftrue) ∷ []) ∵ keep ! (2 ∷ 0 ∷ []) $ learn ! (λ asked. drop ! $ split ! $
    fsplit ! $ move ! (1 ∷ []) $ fsplit ! $ move ! (3 ∷ []) $ fsplit ! $ fsplit3 ! $ move ! (3 ∷ []) $ fsplit ! $ fsplit ! $ keep ! (1 ∷ 4 ∷ 5 ∷ 6 ∷ 7 ∷ 8 ∷ []) $
    enter ! 𝓣.C 𝓣.Λ fn (vptr at0.0 at0.1 ∷ vptr at1.0 at1.1 ∷ []) Post $ alloc_all ! (λ l. pass_all ! refl ((tt, tt), ((tt, tt), tt)) $ let Ev = env fn.locals l in
    use1 𝓛 (‵ (hidden_shr (Token E') κs.1.0 (record {}, tt) at1.0 at1.1) ⊛ ‵ (fhide (reached cv.code other.name other.entries))) (lent_out 𝓛 (Front.struct E') (Front.the_codes E.Denot E'.coded (marker.the_row E').coded) (Front.the_heap E') (Front.the_lent E') κs.1.0 other at1.0 at1.1) $ split ! $ drop ! $ unhide ! $
    rewrite ! 0 (λ (γ : ℕ). ‵ (reached cv.code γ other.entries)) asked refl $ move ! (1 ∷ 2 ∷ 5 ∷ []) $
    opens ! tt Row at0.0 at0.1 (λ vs0. move ! (1 ∷ []) $ fsplit ! $ move ! (1 ∷ 6 ∷ []) $
    use2 𝓛 (given (mathlib.Core.List.IsPrefix other.entries me.entries) (‵ (lengthens cv.code me.name me.entries) ⊛ ‵ (reached cv.code me.name other.entries))) (steps.bounds 𝓛 cv me.name me.entries other.entries) $ learn ! (λ so. split ! $ move ! (1 ∷ []) $ drop ! $
    move ! (1 ∷ 0 ∷ []) $ fjoin ! $ move ! (1 ∷ 0 ∷ 2 ∷ 3 ∷ 4 ∷ []) $ closes ! tt Row me vs0 at0.0 at0.1 $
    sets ! (of_opd ! (unit_lit !)) refl (tt, tt) $ feq_i ! (List Val) (vunit ∷ []) (vunit ∷ []) refl $
    move ! (4 ∷ 5 ∷ []) $ fjoin ! $ move ! (4 ∷ 0 ∷ []) $ fjoin ! $ nothing ! $ nothing ! $ fjoin ! $ feq_i ! (List Val) (vptr at0.0 at0.1 ∷ []) (vptr at0.0 at0.1 ∷ []) refl $ move ! (0 ∷ 4 ∷ 5 ∷ []) $ fjoin3 ! $ fjoin ! $
    returns ! (look_at ! 0 refl) $ free_all ! refl $ keep ! (1 ∷ 0 ∷ 2 ∷ []) $ by ! (ends 𝓛 En hs c y vunit tt (me, (tt, tt)) (tt, (tt, tt)) (fact_i 𝓤 _ (emp 𝓤) (refl, so))))))))
