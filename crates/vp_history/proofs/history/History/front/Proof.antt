-- `front` has what the history has reached.
use Rattle.std.proofs.Common.{List, [], ◌∷◌, refl}
use mir.Syntax.{a_type, dnil, named}
use mir.Val.{Val, vptr}
use mir.MapTy.{inst_fn}
use base.Logic.{SProp, emp}
use base.Fml.{Fml, ftrue, fsep, flft}
use types.Kit.{‵, raw, ◌⊛◌, ◌$◌, ◌∵◌, !, qed, by, move, keep, split, fsplit, fsplit3, fjoin, fjoin3, use0, use1, feq_i}
use types.Run.{no_more, and_then, returns, enter}
use types.ByLocal.{alloc_all, pass_all, free_all, look_at, get, sets, env}
use types.Part.{agg}
use contract.Monad.{fact_i}
use contract.Running.{tables}
use denote.RattleType.{RattleType, owns}
use denote.Signature.{types_at, plain}
use denote.Ref.{mut_vals, mut_Tells}
use denote.Steps.{nothing, opens, closes}
use denote.Param.{param, bounded}
use denote.Triple.Walked.{Stays, stay_ref, walk_of, Goes-ref}
use Rattle.atomic_table.proofs.Walks.{proved}
use Rattle.logbook.proofs.Fields.{token, Token, token_made, ends}
use Rattle.vp_history.specs.Kept.{lengthens, reached}
use Rattle.vp_history.specs.contracts.history.History as History
use Rattle.vp_history.proofs.Steps as steps
use Rattle.vp_history.specs.contracts.history.History.front.{ended, clauses}
use Rattle.vp_history.specs.contracts.history.History.front.Key.{name as #self}
use Rattle.vp_history.proofs.history.History.front.Statement.{statement}
use Rattle.vp_history.proofs.history.History.front.Code as code

pub front_spec : {M : Type 1} → statement M
front_spec 𝓤 𝓛 𝓜 𝓡 wired E _ =
    let H = 𝓛.H in let 𝓣 = tables 𝓤 H 𝓜 𝓡 𝓡.env in let E' : RattleType = param 0 E in let Row : RattleType = History.the_row E' in let En = ended E in
    let inst = bounded (a_type ∷ []) (E, tt) dnil in let fn = inst_fn inst code.function in let c = clauses E 𝓛 𝓜.mem 𝓡.returns in
    let cv = E'.coded in let hs : Stays En.signature.params En.kept = (stay_ref (0 ∷ []) tt (plain (λ _. Row)), tt) in
    proved 𝓛 En hs c 𝓜 𝓡 (Goes-ref 𝓛 2 0 tt (plain (λ _. Row)), tt) (#self inst) fn (code.unfolded 𝓤 H 𝓜 𝓡 wired (E, tt))
    (λ κs. (mut_vals, tt)) (λ κs. (mut_Tells (named 0) κs.0 Row, tt)) (λ κs qs bounds a gh are.
    let me = a.0.now in let at0 = a.0.ref_ptr in
    let y : (walk_of 𝓛 En hs c).Ghost = ((κs, qs, bounds, a, (vptr at0.0 at0.1 ∷ [], tt)), gh) in let Post : Val → SProp 𝓤 = (walk_of 𝓛 En hs c).post y in let toks : Fml = fsep (flft κs.0 qs.0) (fsep (flft κs.1.0 qs.1.0) ftrue) in
    qed 𝓛 ((‵ toks ⊛ ‵ (owns (types_at En.signature.params κs) a y.0.4)) ∷ raw ((c κs a).requires gh) ∷ []) ∵ keep ! (0 ∷ []) $ split ! $
    fsplit ! $ move ! (2 ∷ []) $ fsplit ! $ fsplit3 ! $ keep ! (1 ∷ 2 ∷ 4 ∷ 5 ∷ []) $
    enter ! 𝓣.C 𝓣.Λ fn (vptr at0.0 at0.1 ∷ []) Post $ alloc_all ! (λ l. pass_all ! refl ((tt, tt), tt) $ let Ev = env fn.locals l in
    opens ! tt Row at0.0 at0.1 (λ vs0. move ! (1 ∷ []) $ fsplit ! $ move ! (1 ∷ []) $
    use1 𝓛 (‵ (lengthens cv.code me.name me.entries) ⊛ ‵ (reached cv.code me.name me.entries)) (steps.shows 𝓛 cv me.name me.entries) $ split ! $
    move ! (2 ∷ 0 ∷ []) $ fjoin ! $ move ! (2 ∷ 0 ∷ 3 ∷ 4 ∷ 5 ∷ []) $ closes ! tt Row me vs0 at0.0 at0.1 $
    use0 𝓛 (‵ ((Token E').own_val (record {}, tt) (token ∷ []))) (token_made E' 𝓛) $ move ! (0 ∷ 4 ∷ []) $ fjoin ! $
    sets ! (agg ! (no_more !)) refl (tt, tt) $ sets ! (agg ! (and_then ! (get ! refl) (no_more !))) refl (tt, (tt, tt)) $
    move ! (3 ∷ 4 ∷ []) $ fjoin ! $ nothing ! $ feq_i ! (List Val) (vptr at0.0 at0.1 ∷ []) (vptr at0.0 at0.1 ∷ []) refl $ move ! (0 ∷ 4 ∷ 5 ∷ []) $ fjoin3 ! $ fjoin ! $
    returns ! (look_at ! 0 refl) $ free_all ! refl $ keep ! (1 ∷ 0 ∷ 2 ∷ []) $ by ! (ends 𝓛 En hs c y token (record { marker = record {}; name = me.name; entries = me.entries }) (me, tt) (tt, tt) (fact_i 𝓤 _ (emp 𝓤) (refl, refl, refl))))))
