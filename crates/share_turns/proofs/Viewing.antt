-- Turns of a viewer, one after another.
use Rattle.std.proofs.Common.{◌≡◌, ℕ, suc, ◌+◌, ◌<◌, ◌++◌, Bool, List, refl, ap, subst, arith}
use Rattle.std.specs.Prelude.{Option, Result, Ok, Err, slice_get}
use Rattle.x3d_values.specs.declared.pointing.Point.{Point}
use Rattle.cascade_core.specs.declared.fault.TextFault.{TextFault}
use Rattle.cascade_core.specs.declared.fault.TextFault.TheVariants as text_fault
use Rattle.cascade_core.specs.Course.{Scripted}
use Rattle.cascade_core.specs.Texts.{texts}
use Rattle.share_law.specs.Viewer.{ViewerState, ViewerWorld, Running, Spoiled}
use Rattle.share_core.specs.Viewer.{IfRunning, IfSpoiled, ViewerView, machine_of, with_state}
use Rattle.share_turns.specs.declared.traffic.Traffic.{Traffic}
use Rattle.share_turns.specs.declared.fault.TurnFault.{TurnFault}
use Rattle.share_turns.specs.declared.fault.TurnFault.TheVariants as turn_fault
use Rattle.share_turns.specs.ViewerTurn.{IsViewerTurn}
use Rattle.share_turns.specs.Views.{AreAppended, IsTextFault, IsTurnOf, MayForget, ViewerTurns, applied_by, one_more_if, turn_fault_of}

if_spoiled : (view : ViewerWorld Scripted) (P Q : Type 0) → (P → Q) → IfSpoiled view P → IfSpoiled view Q
if_spoiled (Running w window) P Q f p = tt
if_spoiled (Spoiled count) P Q f p = f p

-- what viewer_turn ensures of a viewer that came of this one
pub turn_of : (v x y : ViewerView) (host : ℕ) (point : Option Point) (a b : Option (List Traffic)) (result : Result Bool TurnFault)
    → x ≡ with_state v x.state
    → IfSpoiled x.state.view ((result ≡ Err turn_fault.Spoiled) × (y ≡ x) × (b ≡ a))
    → IfRunning x.state.view (λ w. IsViewerTurn (machine_of x) x.mark x.who host point a b x.state result y.state)
    → IsTurnOf (with_state v x.state) host point a b result y.state
turn_of v x y host point a b result same spoiled turn =
    subst (λ (z : ViewerView). IsTurnOf z host point a b result y.state) same (record {
      spoiled = if_spoiled x.state.view ((result ≡ Err turn_fault.Spoiled) × (y ≡ x) × (b ≡ a)) ((result ≡ Err turn_fault.Spoiled) × (y.state ≡ x.state) × (b ≡ a))
          (λ s. (s.0, ap (λ (z : ViewerView). z.state) s.1, s.2)) spoiled;
      turn = turn;
    })

abbrev pub turned : Bool → Result Bool TurnFault
turned did = Ok did

-- one turn more, after which old lines may be forgotten
pub viewed_more : (v x y : ViewerView) (host : ℕ) (points : List Point) (until : ℕ) (forget : Option ℕ) (n : ℕ) (a b c : Option (List Traffic)) (before : ℕ) (did : Bool) (new : ViewerState Scripted)
    → ViewerTurns v host points until forget n a b before x.state → x ≡ with_state v x.state → applied_by v x.state < until
    → IfSpoiled x.state.view ((turned did ≡ Err turn_fault.Spoiled) × (y ≡ x) × (c ≡ b))
    → IfRunning x.state.view (λ w. IsViewerTurn (machine_of x) x.mark x.who host (slice_get points before) b c x.state (Ok did) y.state)
    → MayForget forget y.state new
    → ViewerTurns v host points until forget (n + 1) a c (one_more_if did before) new
viewed_more v x y host points until forget n a b c before did new turns same few spoiled turn forgot =
    let next : suc n ≡ n + 1 = omega arith in
    subst (λ k. ViewerTurns v host points until forget k a c (one_more_if did before) new) next
    (b, before, x.state, y.state, did, turns, few, turn_of v x y host (slice_get points before) b c (Ok did) same spoiled turn, forgot, refl)

-- ---- texts

abbrev pub written : Result (Unit {0}) TextFault
written = Ok tt

abbrev pub refused : TextFault → Result (Unit {0}) TextFault
refused fault = Err fault

-- a trace and a scene were appended
pub both_appended : (v : ViewerView) (old new : List ℕ) → IfSpoiled v.state.view (written ≡ Err text_fault.Spoiled)
    → IfRunning v.state.view (λ w. new ≡ old ++ texts v.scene v.routes w) → AreAppended v old new
both_appended v old new unless appended = shown v.state.view refl unless appended
  where
    shown : (view : ViewerWorld Scripted) → v.state.view ≡ view → IfSpoiled view (written ≡ Err text_fault.Spoiled)
        → IfRunning view (λ w. new ≡ old ++ texts v.scene v.routes w) → AreAppended v old new
    shown (Running w window) is unless appended = record { held = w; window = window; runs = is; texts = appended }
    shown (Spoiled count) is unless appended = absurd (cc)

-- a text was refused
pub text_refused : (view : ViewerWorld Scripted) (fault : TextFault) → IfSpoiled view (refused fault ≡ Err text_fault.Spoiled)
    → IfRunning view (λ w. fault ≡ text_fault.Memory) → IsTextFault view (turn_fault_of fault)
text_refused (Running w window) text_fault.Spoiled spoiled running = absurd (cc)
text_refused (Running w window) text_fault.Memory spoiled running = tt
text_refused (Spoiled count) text_fault.Spoiled spoiled running = tt
text_refused (Spoiled count) text_fault.Memory spoiled running = absurd (cc)
