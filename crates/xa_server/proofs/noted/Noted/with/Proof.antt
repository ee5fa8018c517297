-- `with` makes a value of no bytes, whose calls are read off the arguments.
use Rattle.std.proofs.Common.{◌≡◌, [], ◌∷◌, ◌++◌, refl, length}
use Rattle.std.proofs.raw_atomic.Walks.{proved, leaves}
use mir.Syntax.{a_type, dcons, dnil, named}
use mir.Val.{Val, vptr, vstruct, vcons, vnil}
use mir.MapTy.{inst_fn}
use base.Fml.{Fml}
use base.Logic.{SProp, emp}
use types.Kit.{‵, raw, ◌⊛◌, ◌$◌, ◌∵◌, !, qed, by, keep, split, fjoin, use0}
use types.Run.{no_more, and_then, returns, enter}
use types.ByLocal.{alloc_all, pass_all, free_all, look_at, get, sets}
use types.Part.{agg}
use contract.Monad.{fact, fact_i}
use contract.Running.{tables}
use denote.Exit.{yes}
use denote.RattleType.{RattleType, owns}
use denote.Builtin.{RefOf, SliceRefOf, u8}
use denote.Param.{param, bounded}
use denote.Ref.{shr_vals, shr_Tells}
use denote.Shadow.{makes_shadow}
use denote.Signature.{plain, types_at}
use denote.Slice.{slice_val, shr_slice_vals, shr_slice_Tells}
use denote.Steps.{nothing}
use denote.Triple.Entry.{alive}
use denote.Triple.Walked.{Stays, stay_dropped, walk_of, Goes-dropped}
use Rattle.xa_server.specs.contracts.noted.Noted as noted
use Rattle.xa_server.specs.contracts.noted.Noted.with.{ended, clauses}
use Rattle.xa_server.specs.contracts.noted.Noted.with.Key.{name as #self}
use Rattle.xa_server.proofs.noted.Noted.with.Statement.{statement}
use Rattle.xa_server.proofs.noted.Noted.with.Code as code

abbrev token : Val
token = vstruct (vcons (vstruct vnil) vnil)

pub with_spec : {M : Type 1} → statement M
with_spec 𝓤 𝓛 𝓜 𝓡 wired C X Y N LC LX LY LN g d _ =
    let H = 𝓛.H in
    let 𝓣 = tables 𝓤 H 𝓜 𝓡 𝓡.env in
    let En = ended C X Y N g d in
    let c = clauses C X Y N g d 𝓛 𝓜.mem 𝓡.returns in
    let inst = bounded (a_type ∷ a_type ∷ a_type ∷ a_type ∷ []) (C, (X, (Y, (N, tt)))) (dcons d dnil) in
    let fn = inst_fn inst code.function in
    let Row : RattleType = noted.the_row (param 0 C) in
    let self_at = RefOf (0 ∷ []) tt (plain (λ _. Row)) (λ _. tt) in
    let first_at = RefOf (1 ∷ []) tt (plain (λ _. param 1 X)) (λ _. tt) in
    let second_at = RefOf (2 ∷ []) tt (plain (λ _. param 2 Y)) (λ _. tt) in
    let bytes_at = SliceRefOf (3 ∷ []) tt (plain (λ _. u8)) (λ _. tt) in
    let hs : Stays En.signature.params En.kept =
    (stay_dropped self_at yes, (stay_dropped first_at yes, (stay_dropped second_at yes, (stay_dropped bytes_at yes, tt)))) in
    proved 𝓛 En hs c 𝓜 𝓡
    (Goes-dropped 𝓛 8 self_at yes (λ κs x f. refl), (Goes-dropped 𝓛 8 first_at yes (λ κs x f. refl), (Goes-dropped 𝓛 8 second_at yes (λ κs x f. refl), (Goes-dropped 𝓛 8 bytes_at yes (λ κs x f. refl), tt))))
    (#self inst) fn (code.unfolded 𝓤 H 𝓜 𝓡 wired (C, (X, (Y, (N, tt)))) d)
    (λ κs. (shr_vals, (shr_vals, (shr_vals, (shr_slice_vals, tt)))))
    (λ κs. (shr_Tells (named 0) κs.0 Row, (shr_Tells (named 1) κs.1.0 (param 1 X), (shr_Tells (named 2) κs.1.1.0 (param 2 Y), (shr_slice_Tells (named 3) κs.1.1.1.0 u8, tt)))))
    (λ κs qs bounds a gh are.
    let before = a.0.now in
    let bytes = a.1.1.1.0 in
    let p : Val = vptr a.0.ref_ptr.0 a.0.ref_ptr.1 in
    let q : Val = vptr a.1.0.ref_ptr.0 a.1.0.ref_ptr.1 in
    let u : Val = vptr a.1.1.0.ref_ptr.0 a.1.1.0.ref_ptr.1 in
    let s : Val = slice_val bytes.ref_ptr (length bytes.now) in
    let r : Row.Denot = record { marker = record {}; calls = before.calls ++ g.calls a.1.0.now a.1.1.0.now bytes.now } in
    let F : Fml = Row.own_val r (token ∷ []) in
    let Told : Type 0 = r.calls ≡ r.calls in
    let y : (walk_of 𝓛 En hs c).Ghost = ((κs, qs, bounds, a, (p ∷ [], (q ∷ [], (u ∷ [], (s ∷ [], tt))))), gh) in
    let Post : Val → SProp 𝓤 = (walk_of 𝓛 En hs c).post y in
    qed 𝓛 ((raw (alive 𝓛 En.signature κs qs) ⊛ ‵ (owns (types_at En.signature.params κs) a y.0.4)) ∷ raw ((c κs a).requires gh) ∷ []) ∵
    split ! $ keep ! (0 ∷ []) $
    enter ! 𝓣.C 𝓣.Λ fn (p ∷ q ∷ u ∷ s ∷ []) Post $
    alloc_all ! (λ l. pass_all ! refl ((tt, tt), ((tt, tt), ((tt, tt), ((tt, (tt, (record { fits = are.1.1.1.0.0.1.0 }, tt))), tt)))) $
    sets ! (agg ! (no_more !)) refl (tt, tt) $ sets ! (agg ! (and_then ! (get ! refl) (no_more !))) refl (tt, (tt, tt)) $
    use0 𝓛 (raw (fact 𝓤 Told)) (fact_i 𝓤 Told (emp 𝓤) refl) $
    use0 𝓛 (‵ F) (makes_shadow 𝓛 F ((λ vss. (tt, ((λ uss. (tt, tt)), tt))), tt) (((vstruct vnil ∷ [], tt), (refl, ((tt, (refl, tt)), tt))), tt)) $
    nothing ! $ nothing ! $ fjoin ! $ nothing ! $ fjoin ! $ nothing ! $ fjoin ! $ nothing ! $ fjoin ! $
    returns ! (look_at ! 0 refl) $ free_all ! refl $ keep ! (3 ∷ 0 ∷ 1 ∷ 2 ∷ []) $
    by ! (leaves 𝓛 En hs c y token r (tt, (tt, (tt, (tt, tt)))) (tt, (tt, (tt, (tt, tt)))))))
