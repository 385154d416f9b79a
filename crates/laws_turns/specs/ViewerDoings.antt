-- What a viewer does: one call on it after another, and what its port records of them.
use Rattle.std.specs.Prelude.{◌≡◌, ℕ, List, [], ◌∷◌, ◌++◌, Option, Some, Result}
use Rattle.std.specs.Option.{option_map}
use Rattle.x3d_values.specs.declared.pointing.Point.{Point}
use Rattle.x3d_values.specs.Stamp.{StampedView}
use Rattle.cascade_core.specs.Course.{Scripted}
use Rattle.snapshot_core.specs.Shot.{shot}
use Rattle.share_wire.specs.Decoding.{decoded}
use Rattle.share_law.specs.declared.fault.GatherFault.{GatherFault}
use Rattle.share_law.specs.declared.fault.JoinFault.{JoinFault}
use Rattle.share_law.specs.declared.fault.OfferFault.{OfferFault}
use Rattle.share_law.specs.declared.fault.TakeFault.{TakeFault}
use Rattle.share_law.specs.declared.reply.Gathered.{Gathered}
use Rattle.share_law.specs.declared.reply.Taken.{Taken}
use Rattle.share_law.specs.Calls.{IsGatherOf, IsTakeOf}
use Rattle.share_law.specs.Pieces.{whole_of}
use Rattle.share_law.specs.Viewer.{Running, viewer_ask, viewer_offer, viewer_resend}
use Rattle.share_core.specs.Pieces.{piece_of}
use Rattle.share_core.specs.Rewinds.{IsJoined, IsLawfulJoin}
use Rattle.share_core.specs.Viewer.{ViewerView, forgot_but, machine_of, with_gathering, with_state}
use Rattle.share_turns.specs.declared.traffic.Datagram.{Datagram}
use Rattle.share_turns.specs.declared.traffic.Traffic.{Traffic}
use Rattle.share_turns.specs.declared.traffic.Traffic.TheVariants.{Nothing, Received, Sent}
use Rattle.share_turns.specs.Told.{Grows}
use Rattle.share_turns.specs.HostTurn.{datagram_of}

-- a point that is offered; a datagram that is taken, gathered or discarded; the waiting offer at a
-- place, an ask, or a piece of the viewer's own snapshot, that is sent; a join; lines of the trace
-- that are forgotten, all but those of the last inputs; and a receive for which nothing had arrived
pub data ViewerDoing : Type 0 where
  Offers : Point → Result ℕ OfferFault → ViewerDoing
  Takes : (came : Datagram) → Result Taken TakeFault → ViewerDoing
  Gathers : (came : Datagram) → Result Gathered GatherFault → ViewerDoing
  Discards : (came : Datagram) → ViewerDoing
  Resends : (place : ℕ) → (sent : Datagram) → ViewerDoing
  Asks : (sent : Datagram) → ViewerDoing
  Gives : (piece : ℕ) → (sent : Datagram) → ViewerDoing
  Joins : (boot : ℕ) → Result ℕ JoinFault → ViewerDoing
  Forgets : (last : ℕ) → ViewerDoing
  Waits : ViewerDoing

-- what the call's contract ensures of the viewer
abbrev pub IsViewerDoing : ViewerView → ViewerDoing → ViewerView → Type 0
IsViewerDoing old (Offers point result) new =
    (new ≡ with_state old new.state) × (viewer_offer old.state point ≡ (result, new.state))
IsViewerDoing old (Takes came result) new =
    (new ≡ with_state old new.state)
    × IsTakeOf (machine_of old) old.mark old.who old.state old.state.view (decoded came.bytes)
    result new.state
IsViewerDoing old (Gathers came result) new =
    (new ≡ with_gathering old new.gathering)
    × IsGatherOf old.mark old.gathering (decoded came.bytes) result new.gathering
IsViewerDoing old (Resends place sent) new =
    (new ≡ old)
    × (option_map (datagram_of old.mark) (viewer_resend old.who old.state place)
    ≡ Some sent.bytes)
IsViewerDoing old (Asks sent) new =
    (new ≡ old)
    × (sent.bytes ≡ datagram_of old.mark (viewer_ask (machine_of old) old.who old.state))
IsViewerDoing old (Gives piece sent) new =
    (new ≡ old)
    × ((w : Scripted) × (window : List (Option StampedView)) × (old.state.view ≡ Running w window)
    × (option_map (datagram_of old.mark)
    (piece_of (shot old.mark old.state.boot old.scene w) piece) ≡ Some sent.bytes))
IsViewerDoing old (Joins boot result) new =
    (new ≡ with_gathering (with_state old new.state) new.gathering)
    × IsJoined old (whole_of old.gathering) boot result new.state new.gathering
    × IsLawfulJoin old boot result new.state new.gathering
IsViewerDoing old (Forgets last) new = new ≡ with_state old (forgot_but last old.state)
IsViewerDoing old (Discards came) new = new ≡ old
IsViewerDoing old Waits new = new ≡ old

-- one after another
abbrev pub AreViewerDoings : ViewerView → List ViewerDoing → ViewerView → Type 0
AreViewerDoings old [] new = new ≡ old
AreViewerDoings old (d ∷ ds) new =
    (mid : ViewerView) × IsViewerDoing old d mid × AreViewerDoings mid ds new

-- what a port records
abbrev pub viewer_traffic : ViewerDoing → List Traffic
viewer_traffic (Offers point result) = []
viewer_traffic (Takes came result) = Received came ∷ []
viewer_traffic (Gathers came result) = Received came ∷ []
viewer_traffic (Discards came) = Received came ∷ []
viewer_traffic (Resends place sent) = Sent sent ∷ []
viewer_traffic (Asks sent) = Sent sent ∷ []
viewer_traffic (Gives piece sent) = Sent sent ∷ []
viewer_traffic (Joins boot result) = []
viewer_traffic (Forgets last) = []
viewer_traffic Waits = Nothing ∷ []

abbrev pub all_viewer_traffic : List ViewerDoing → List Traffic
all_viewer_traffic [] = []
all_viewer_traffic (d ∷ ds) = viewer_traffic d ++ all_viewer_traffic ds

-- calls that lead from the one viewer to the other, and that are all that the port recorded
pub record ViewerDoes (told_before told_after : Option (List Traffic)) (old new : ViewerView) :
    Type 0 where
  pub doings : List ViewerDoing
  pub calls : AreViewerDoings old doings new
  pub told : Grows told_before told_after (all_viewer_traffic doings)
