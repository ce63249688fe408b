-- `full` puts the pointer of a box beside its mark.
use Rattle.std.proofs.Common.{◌≡◌, List, [], ◌∷◌, ◌++◌, refl, sym, subst}
use mathlib.Core.Bool.{true}
use mir.Val.{Val, vptr, vbool}
use base.Logic.{SProp, ent, emp, id⊢}
use base.Fml.{feq, fsep}
use contract.Monad.{fact, fact_i}
use Rattle.std.specs.Prelude.{Option, Some}
use prog.Wp.{WpFn}
use types.Kit.{‵, raw, ◌⊛◌, ◌$◌, ◌∵◌, !, qed, by, move, keep, split, fsplit, fjoin, fpack, suffices, use0, feq_i}
use types.Run.{stop, fld, of_opd, true_lit, no_more, and_then, returns, enter}
use types.ByLocal.{alloc_all, pass_all, free_all, look_at, get, get_in, sets}
use types.Part.{agg, sub, whole}
use contract.Running.{tables}
use denote.Exit.{yes}
use denote.RattleType.{RattleType, owns}
use denote.Signature.{types_at, plain}
use denote.RawPtr.{block_ptr}
use denote.Steps.{nothing}
use denote.Triple.Entry.{alive}
use denote.Triple.Walked.{Stays, stay_dropped, walk_of}
use Rattle.core.proofs.alloc.Calls.{Goes-blank}
use Rattle.std.proofs.alloc.Global.TheLaws as heap_laws
use Rattle.std.specs.contracts.impls.GlobalAllocator.TheImpl.{ghosts}
use Rattle.std.specs.Box.Ownership.{box_owns}
use Rattle.std.proofs.raw_atomic.Walks.{proved_at, leaves}
use Rattle.c_owned.specs.contracts.engine.Engine as engine
use Rattle.c_owned.proofs.Loosed.{both, Loose, loose_good, loose_out}
use Rattle.c_owned.proofs.Values.{three, Z, handle_in, handle_good}
use Rattle.c_owned.specs.contracts.handle.Handle.full.{ended, clauses}
use Rattle.c_owned.specs.contracts.handle.Handle.full.Key.{name as #self}
use Rattle.c_owned.proofs.handle.Handle.full.Statement.{statement}
use Rattle.c_owned.proofs.handle.Handle.full.Code as code

pub full_spec : {M : Type 1} → statement M
full_spec 𝓤 𝓛 𝓜 𝓡 wired =
    let H = 𝓛.H in let 𝓣 = tables 𝓤 H 𝓜 𝓡 𝓡.env in let En = ended in let c = clauses 𝓛 𝓜.mem 𝓡.returns in let LZ =
    heap_laws.the_row_laws in
    let R : RattleType = engine.the_row in let Lr : RattleType =
    Loose R Z LZ ghosts in let hs : Stays En.signature.params En.kept = (stay_dropped (plain (λ _. Lr)) yes, tt) in
    proved_at 𝓛 En hs c 𝓜 𝓡 (Goes-blank 𝓛 0 (plain (λ _. Lr)) yes (λ κs x f. tt), tt) #self code.function
    (code.unfolded 𝓤 H 𝓜 𝓡 wired) (λ z are.
    let κs = z.0.0 in let Same : Option R.Denot → Type 0 = λ e. e ≡ e in let qs = z.0.1 in let d = z.0.3.0 in let a =
    d.alloc in let Post : Val → SProp 𝓤 = (walk_of 𝓛 En hs c).post z in let Run : List Val → SProp 𝓤 =
    λ ws. WpFn 𝓤 H 𝓣.C 𝓣.Λ code.function ws Post in
    qed 𝓛 ((raw (alive 𝓛 En.signature κs qs) ⊛ ‵ (owns (types_at En.signature.params κs) z.0.3 z.0.4)) ∷ raw
    ((c κs z.0.3).requires z.1) ∷ []) ∵ split ! $ move ! (1 ∷ []) $ fsplit ! $
    loose_out R Z LZ ghosts ! d z.0.4.0 (λ b o h e ws fits. let w : Val = three (vptr b o) (vbool true) h in
    suffices ! (Run (both (vptr b o) h ∷ []))
    (subst (λ (us : List Val). ent 𝓤 (Run (both (vptr b o) h ∷ [])) (Run us)) (sym (λ i. ws i ++ []))
    (id⊢ 𝓤 (Run (both (vptr b o) h ∷ [])))) $
    enter ! 𝓣.C 𝓣.Λ code.function (both (vptr b o) h ∷ []) Post $ alloc_all !
    (λ l. pass_all ! refl (loose_good R Z LZ ghosts b o h fits, tt) $
    sets ! (of_opd ! (get_in ! (fld ! refl (stop !)) (sub ! 0 refl (whole !)))) refl (tt, tt) $ sets !
    (of_opd ! (get_in ! (fld ! refl (stop !)) (sub ! 1 refl (whole !)))) refl fits $ sets ! (of_opd ! (get ! refl))
    refl (tt, tt) $
    sets ! (agg ! (and_then ! (get ! refl) (and_then ! (true_lit !) (and_then ! (get ! refl) (no_more !))))) refl
    (handle_good (block_ptr b o) true h fits) $
    feq_i ! (Option R.Denot) (Some d.value) (Some d.value) refl $ fjoin ! $ fpack ! R.Denot
    (λ x. fsep (feq (Option R.Denot) (Some d.value) (Some x))
    (box_owns (ghosts.dealloc_token a) R (block_ptr b o) x)) d.value $ handle_in ! (block_ptr b o) true a
    (Some d.value) h $ use0 𝓛 (raw (fact 𝓤 (Same (Some d.value)))) (fact_i 𝓤 (Same (Some d.value)) (emp 𝓤) refl) $
    nothing ! $ nothing ! $ fjoin ! $
    returns ! (look_at ! 0 refl) $ free_all ! refl $ keep ! (4 ∷ 0 ∷ 2 ∷ 1 ∷ []) $ by !
    (leaves 𝓛 En hs c z w (record { at = block_ptr b o; is_full = true; alloc = a; engine = Some d.value }) (tt, tt)
    (tt, tt)))))
