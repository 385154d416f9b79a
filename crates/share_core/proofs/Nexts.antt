-- What a stage makes of the next input of its window.
use Rattle.std.proofs.Common.{◌≡◌, suc, ◌+◌, ◌≤◌, ◌⊎◌, inl, inr, true, false, cond, List, [], ◌∷◌, ◌++◌, drop, refl, ap, sym, ◌∙◌, subst, arith}
use Rattle.std.specs.Prelude.{Bool, slice_get, slice_set, IfSome, Option, Some, None, Result, Err, not, int_lt, ◌==◌}
use Rattle.std.proofs.lemmas.Bool.{false≢true, cond-false, eq-eqb}
use Rattle.std.proofs.lemmas.Option.{same_Some, none-some}
use Rattle.x3d_values.specs.Stamp.{StampedView}
use Rattle.scene_core.specs.declared.scene.Route.{Route}
use Rattle.scene_core.specs.Scene.{SceneView}
use Rattle.cascade_core.specs.Apply.{untold}
use Rattle.cascade_core.specs.declared.fault.ApplyFault.{ApplyFault}
use Rattle.cascade_core.specs.declared.fault.ApplyFault.TheVariants as apply_fault
use Rattle.cascade_core.specs.declared.work.Work.{Work}
use Rattle.cascade_core.specs.Course.{Scripted}
use Rattle.cascade_core.specs.Held.{Held, StageView, Running, Spoiled, after, after_held, applied_of, is_spoiled, refusal_of}
use Rattle.cascade_core.proofs.Turns.{apply-at}
use Rattle.share_core.specs.Ahead.{InPlace}
use Rattle.share_core.proofs.Places.{InPlace-advance, InPlace-drop, InPlace-front}
use Rattle.x3d_values.specs.Ranges.{max_inputs}

-- the world of a stage that isn't spoiled
abbrev pub world_in : SceneView → Held → Scripted
world_in scene (Running w) = w
world_in scene (Spoiled n) = record { world = untold scene; states = [] }

pub running : (scene : SceneView) (h : Held) → is_spoiled h ≡ false → h ≡ Running (world_in scene h)
running scene (Running w) e = refl
running scene (Spoiled n) e = absurd (false≢true (sym e))

applied-after : (scene : SceneView) (routes : List Route) (h : Held) (x : StampedView) → is_spoiled h ≡ false → applied_of (after_held scene routes h x) ≡ applied_of h + 1
applied-after scene routes (Running w) x e = (apply-at scene routes w x).0
applied-after scene routes (Spoiled n) x e = absurd (false≢true (sym e))

module _ (old new : StageView) (window rest : List (Option StampedView)) (x : StampedView)
    (place : InPlace (applied_of old.held + 1) window) (front : slice_get window 0 ≡ Some (Some x)) where
  -- it was applied
  pub advanced : is_spoiled old.held ≡ false → new ≡ after old x → rest ≡ drop 1 window ++ None ∷ [] → (applied_of new.held ≤ max_inputs) × InPlace (applied_of new.held + 1) rest
  advanced runs is moved =
      let more : applied_of new.held ≡ applied_of old.held + 1 = ap (λ (v : StageView). applied_of v.held) is ∙ applied-after old.scene old.routes old.held x runs in
      let next = InPlace-front window (applied_of old.held + 1) x front place in
      let count : applied_of new.held + 1 ≡ suc (applied_of old.held + 1) = omega (arith, more) in (
        omega (arith, more, next.1),
        subst (λ n. InPlace n rest) (sym count) (subst (λ l. InPlace (suc (applied_of old.held + 1)) l) (sym moved) (InPlace-advance window (applied_of old.held + 1) place)),
      )

-- a stage refuses an input, and is as it was
kept : (old new : StageView) (x : StampedView) (result : Result Work ApplyFault) (fault : ApplyFault) → refusal_of old.held x ≡ Some fault
    → IfSome (refusal_of old.held x) (λ f. (result ≡ Err f) × (new ≡ old)) → new ≡ old
kept old new x result fault is h =
    let P : Option ApplyFault → Type 0 = λ o. IfSome o (λ f. (result ≡ Err f) × (new ≡ old)) in
    (subst P is h).1

-- a stage that runs refuses its next input for its time alone
late_alone : (h : Held) (x : StampedView) (fault : ApplyFault) → is_spoiled h ≡ false → x.number ≡ applied_of h + 1 → refusal_of h x ≡ Some fault → fault ≡ apply_fault.TimeNotLater
late_alone (Spoiled n) x fault runs number is = absurd (false≢true (sym runs))
late_alone (Running w) x fault runs number is =
    let next : not (x.number == w.world.applied + 1) ≡ false = ap not (eq-eqb x.number (w.world.applied + 1) number) in
    by_time (int_lt w.world.last_time x.time) (sym (cond-false (not (x.number == w.world.applied + 1)) (Some apply_fault.NotNext) (cond (int_lt w.world.last_time x.time) None (Some apply_fault.TimeNotLater)) next) ∙ is) where
      by_time : (later : Bool) → cond later None (Some apply_fault.TimeNotLater) ≡ Some fault → fault ≡ apply_fault.TimeNotLater
      by_time true e = absurd (none-some fault e)
      by_time false e = sym (same_Some apply_fault.TimeNotLater fault e)

module _ (h : Held) (window : List (Option StampedView)) (x : StampedView) (fault : ApplyFault)
    (runs : is_spoiled h ≡ false) (place : InPlace (applied_of h + 1) window) (front : slice_get window 0 ≡ Some (Some x)) where
  answers : (fault ≡ apply_fault.Memory) ⊎ (refusal_of h x ≡ Some fault) → (fault ≡ apply_fault.Memory) ⊎ (fault ≡ apply_fault.TimeNotLater)
  answers (inl e) = inl e
  answers (inr e) = inr (late_alone h x fault runs (InPlace-front window (applied_of h + 1) x front place).0 e)

  pub never-Spoiled : (fault ≡ apply_fault.Memory) ⊎ (refusal_of h x ≡ Some fault) → fault ≡ apply_fault.Spoiled → ⊥
  never-Spoiled e is = elim (answers e) [ inl m ↦ cc | inr t ↦ cc ]

  pub never-NotNext : (fault ≡ apply_fault.Memory) ⊎ (refusal_of h x ≡ Some fault) → fault ≡ apply_fault.NotNext → ⊥
  never-NotNext e is = elim (answers e) [ inl m ↦ cc | inr t ↦ cc ]

-- an input that isn't later leaves the window
pub left : (old new : StageView) (window rest : List (Option StampedView)) (x : StampedView) (result : Result Work ApplyFault) (fault : ApplyFault) → InPlace (applied_of old.held + 1) window
    → (fault ≡ apply_fault.Memory) ⊎ (refusal_of old.held x ≡ Some fault) → fault ≡ apply_fault.TimeNotLater
    → IfSome (refusal_of old.held x) (λ f. (result ≡ Err f) × (new ≡ old)) → rest ≡ slice_set window 0 None → InPlace (applied_of new.held + 1) rest
left old new window rest x result fault place (inl m) is h set = absurd (let no : apply_fault.Memory ≡ apply_fault.TimeNotLater = sym m ∙ is in cc)
left old new window rest x result fault place (inr e) is h set =
    let same = ap (λ (v : StageView). applied_of v.held + 1) (kept old new x result fault e h) in
    subst (λ n. InPlace n rest) (sym same) (subst (λ l. InPlace (applied_of old.held + 1) l) (sym set) (InPlace-drop window (applied_of old.held + 1) place))
