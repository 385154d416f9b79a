-- The machine value of a handle. Assumes `Logic`.
use Rattle.std.proofs.Common.{List, [], ◌∷◌, refl}
use seplogic.Ra.Ura.{Ura}
use mir.Val.{Val, vstruct, vnil, vcons}
use types.Logic.{Logic}
use types.Kit.{Item, Goal, Step, step, ‵, ◌$◌, drop, fsplit, fjoin, fpick, fpack, feq_i, feq_l}
use denote.RattleType.{Valss}
use denote.Builtin.{RawPtr}
use denote.RawPtr.{Ptr, ptr_val}
use denote.Steps.{nothing}
use denote.Struct.Struct.{within}
use denote.Struct.Owning.{shape}
use Rattle.std.specs.Prelude.{Option}
use Rattle.embed_logs.specs.declared.files.LogFile.{LogFile}
use Rattle.embed_handles.specs.LogHeld.{held}
use Rattle.embed_handles.specs.contracts.log_handle.LogHandle as handle
use Rattle.embed_handles.specs.declared.log_handle.LogHandle.{LogHandle}

abbrev pub word : Ptr → Val
word p = vstruct (vcons (ptr_val p) vnil)

abbrev pub handled : Ptr → Option LogFile → LogHandle
handled p c = record { at = p; log = c }

module _ {M : Type 1} {𝓤 : Ura M} {𝓛 : Logic 𝓤} {K : Type 0} {Γ : List (Item 𝓤)} {G : Goal 𝓤 𝓛.H} where
  pub handle_out : K → (d : LogHandle) (vs : List Val) → Step K 𝓛 (‵ (held d.at d.log) ∷ Γ) G (‵ (handle.the_row.own_val d vs) ∷ Γ) G
  handle_out t d vs = step (λ s. fsplit t $ fpick t (λ vss. fsplit t $ feq_l t (λ ev. fsplit t $ feq_l t (λ ep. drop t $ s))))

  pub handle_in : K → (p : Ptr) (c : Option LogFile) → Step K 𝓛 (‵ (handle.the_row.own_val (handled p c) (word p ∷ [])) ∷ Γ) G (‵ (held p c) ∷ Γ) G
  handle_in t p c = step (λ s. let v : Val = word p in
      nothing t $ feq_i t (List Val) (ptr_val p ∷ []) (ptr_val p ∷ []) refl $ fjoin t $ feq_i t (List Val) (v ∷ []) (v ∷ []) refl $ fjoin t $
      fpack t (Valss (RawPtr ∷ [])) (within (shape handle.the_type) (p, tt) (v ∷ [])) (ptr_val p ∷ [], tt) $ fjoin t $ s)
