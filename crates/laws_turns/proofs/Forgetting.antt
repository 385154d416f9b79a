-- A viewer that forgets old lines of its trace.
use Rattle.std.proofs.Common.{◌≡◌, ℕ, ◌+◌, ◌-◌, List, false, ap, sym, ◌∙◌, arith, if◌then◌else◌, le-ltb}
use Rattle.std.specs.Prelude.{Option, nat_lt}
use Rattle.x3d_values.specs.Stamp.{StampedView}
use Rattle.cascade_core.specs.Course.{Scripted}
use Rattle.cascade_core.specs.Forgetting.{forget}
use Rattle.share_law.specs.Network.{Network, Seat, with_node, with_seat}
use Rattle.share_law.specs.Viewer.{Running, ViewerState, ViewerWorld, with_view}
use Rattle.share_core.specs.Viewer.{ViewerView, forgot_but, forgot_in, with_state}
use Rattle.laws_calls.specs.Peers.{Peers, machine_for}
use Rattle.laws_forget.specs.Network.{Forgot, Refused, forgets, forgets_at}
use Rattle.laws_turns.specs.Steps.{ForgettingsAreMoves}

-- the first of the last inputs isn't beyond the next one
not-ahead : (applied last : ℕ) → nat_lt (applied + 1) (applied + 1 - last) ≡ false
not-ahead applied last = le-ltb (applied + 1) (applied + 1 - last) (omega arith)

module _ (ps : Peers) (net : Network Scripted) (x : Seat Scripted) (old new : ViewerView) (last : ℕ) (w : Scripted) (window : List (Option StampedView)) where
  -- the state that a seat has then
  then-is : x.node ≡ old.state → old.state.view ≡ Running w window → new ≡ with_state old (forgot_but last old.state) →
      with_view x.node (Running (forget (w.world.applied + 1 - last) w) window) ≡ new.state
  then-is node runs is =
      ap (λ (y : ViewerState Scripted). with_view y (Running (forget (w.world.applied + 1 - last) w) window)) node
      ∙ ap (λ (v : ViewerWorld Scripted). with_view old.state (forgot_in last v)) (sym runs)
      ∙ sym (ap (λ (v : ViewerView). v.state) is)

  moved : x.node ≡ old.state → old.state.view ≡ Running w window → new ≡ with_state old (forgot_but last old.state) →
      forgets (machine_for ps) forget net old.who (w.world.applied + 1 - last) x x.node.view ≡ (Forgot, with_seat net old.who (with_node x new.state))
  moved node runs is =
      ap (forgets (machine_for ps) forget net old.who (w.world.applied + 1 - last) x) (ap (λ (y : ViewerState Scripted). y.view) node ∙ runs)
      ∙ ap (λ b. if b then (Refused, net) else (Forgot, with_seat net old.who (with_node x (with_view x.node (Running (forget (w.world.applied + 1 - last) w) window)))))
      (not-ahead w.world.applied last)
      ∙ ap (λ (y : ViewerState Scripted). (Forgot, with_seat net old.who (with_node x y))) (then-is node runs is)

pub forgettings_are_moves : ForgettingsAreMoves
forgettings_are_moves ps net x old new last w window at node runs is =
    ap (forgets_at (machine_for ps) forget net old.who (w.world.applied + 1 - last)) at ∙ moved ps net x old new last w window node runs is
