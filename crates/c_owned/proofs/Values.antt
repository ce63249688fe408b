-- The machine values of a handle. Assumes `Logic`.
use Rattle.std.proofs.Common.{◌≡◌, ℕ, List, [], ◌∷◌, ◌++◌, refl, ◌∙◌}
use mathlib.Core.Bool.{Bool, true, false}
use Rattle.std.specs.Prelude.{Option, None, Some}
use seplogic.Ra.Ura.{Ura}
use lib.Dec.{T}
use mathlib.Core.Bool.{◌&&◌}
use mir.Syntax.{impl, tnil, dnil, ty_ptr}
use mir.Val.{Val, vbool, vstruct, vcons, vnil, of_list, has_ty}
use mir.Raw.{raw as bare}
use base.Logic.{never, fst∗}
use types.Logic.{Logic, sem}
use types.Kit.{Item, Goal, Seq, Step, step, ‵, ◌$◌, move, drop, fsplit, fjoin, fpick, fpack, feq_i, feq_l}
use denote.RattleType.{RattleType, Valss}
use denote.Builtin.{RawPtr, bool}
use denote.Memory.{lone}
use denote.RawPtr.{Ptr, block_ptr, null_ptr, ptr_val, in_a_block}
use denote.Steps.{nothing}
use denote.Param.{layout}
use denote.Struct.Struct.{within}
use denote.Struct.Owning.{shape}
use Rattle.core.proofs.alloc.Calls.{Al, handle_tells}
use Rattle.core.proofs.atomic.Steps.{Ptr-Good}
use Rattle.core.proofs.cell.Inside.{Good}
use Rattle.std.specs.contracts.alloc.Global as heap
use Rattle.std.proofs.alloc.Global.TheLaws as heap_laws
use Rattle.std.specs.contracts.impls.GlobalAllocator.TheImpl.{ghosts}
use Rattle.std.specs.Box.Ownership.{box_owns}
use Rattle.c_owned.specs.Held.{held}
use Rattle.c_owned.specs.contracts.engine.Engine as engine
use Rattle.c_owned.specs.contracts.handle.Handle as handle

-- the machine value of a struct of three fields
abbrev pub three : Val → Val → Val → Val
three v w x = vstruct (vcons v (vcons w (vcons x vnil)))

-- the type of the program's allocator
abbrev pub Z : RattleType
Z = heap.the_row

-- the type of a handle
abbrev pub Handle : RattleType
Handle = handle.the_row

-- the program's allocator, with its laws
abbrev pub al : Al
al = record { row = Z; laws = heap_laws.the_row_laws; g = ghosts; d = impl [] tnil dnil; drops = impl [] tnil dnil }

module _ {M : Type 1} {𝓤 : Ura M} {𝓛 : Logic 𝓤} {K : Type 0} {Γ : List (Item 𝓤)} {G : Goal 𝓤 𝓛.H} where
  -- what a handle holds and its allocator make a handle
  pub handle_in : K → (p : Ptr) (f : Bool) (a : Z.Denot) (e : Option engine.the_row.Denot) (h : Val)
      → Step K 𝓛 (‵ (Handle.own_val (record { at = p; is_full = f; alloc = a; engine = e })
      (three (ptr_val p) (vbool f) h ∷ [])) ∷ Γ) G (‵ (held f p a e) ∷ ‵ (Z.own_val a (h ∷ [])) ∷ Γ) G
  handle_in t p f a e h = step (λ s. let v : Val = three (ptr_val p) (vbool f) h in
      nothing t $ move t (2 ∷ 0 ∷ []) $ fjoin t $ feq_i t (List Val) (vbool f ∷ []) (vbool f ∷ []) refl $ fjoin t $
      feq_i t (List Val) (ptr_val p ∷ []) (ptr_val p ∷ []) refl $ fjoin t $
      feq_i t (List Val) (v ∷ []) (v ∷ []) refl $ fjoin t $
      fpack t (Valss (RawPtr ∷ bool ∷ heap.the_field.row ∷ []))
      (within (shape handle.the_type) (p, (f, (heap.the_field.into a, tt))) (v ∷ []))
      (ptr_val p ∷ [], (vbool f ∷ [], (h ∷ [], tt))) $ fjoin t $ s)

module _ {M : Type 1} {𝓤 : Ura M} {𝓛 : Logic 𝓤} {K : Type 0} {Γ : List (Item 𝓤)} {G : Goal 𝓤 𝓛.H} where
  -- a handle is taken apart into what it holds and its allocator
  pub handle_out : K → (d : Handle.Denot) (vs : List Val)
      → ((h : Val) → vs ≡ three (ptr_val d.at) (vbool d.is_full) h ∷ [] → Good (layout Z) h
      → Seq K 𝓛 (‵ (held d.is_full d.at d.alloc d.engine) ∷ ‵ (Z.own_val d.alloc (h ∷ [])) ∷ Γ) G)
      → Seq K 𝓛 (‵ (Handle.own_val d vs) ∷ Γ) G
  handle_out t d vs k =
      fsplit t $ fpick t (λ vss. fsplit t $ feq_l t
      (λ ev. fsplit t $ feq_l t (λ ep.
      fsplit t $ feq_l t (λ eb. fsplit t $ handle_tells al t d.alloc vss.1.1.0
      (λ h ea fits. move t (1 ∷ []) $ drop t $ move t (1 ∷ []) $
      k h (ev ∙ (λ i. vstruct (of_list (ep i ++ (eb i ++ (ea i ++ [])))) ∷ [])) fits)))))

  -- nothing, or a box at a block
  pub either : K → (f : Bool) (p : Ptr) (a : Z.Denot) (e : Option engine.the_row.Denot)
      → (f ≡ false → e ≡ None → Seq K 𝓛 Γ G)
      → ((b o : ℕ) (x : engine.the_row.Denot) → f ≡ true → e ≡ Some x → p ≡ block_ptr b o
      → Seq K 𝓛 (‵ (box_owns (ghosts.dealloc_token a) engine.the_row (block_ptr b o) x) ∷ Γ) G)
      → Seq K 𝓛 (‵ (held f p a e) ∷ Γ) G
  either t false p a e none some = feq_l t (λ is. none refl is)
  either t true p a e none some = fpick t (λ x. fsplit t $ feq_l t (λ is.
      in_a_block t p (λ q. box_owns (ghosts.dealloc_token a) engine.the_row q x)
      (fst∗ 𝓤 (never 𝓤) (sem 𝓛 (ghosts.dealloc_token a (bare (lone (engine.the_row.mir))) null_ptr)))
      (λ b o at. some b o x refl is at)))

good_three : (x y : Bool) → T x → T y → T (x && (true && (y && true)))
good_three true true s t = tt
good_three true false s t = absurd t
good_three false y s t = absurd s

-- a handle's machine value is one of its type
pub handle_good : (p : Ptr) (f : Bool) (h : Val) → Good (layout Z) h
    → Good (layout Handle) (three (ptr_val p) (vbool f) h)
handle_good p f h good = let g = Ptr-Good p in
    (good_three (has_ty ty_ptr (ptr_val p)) (has_ty (layout Z) h) g.0 good.0, (g.1, (tt, (good.1, tt))))
