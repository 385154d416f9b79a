-- New peers, and what holds of real peers whatever they called.
use Rattle.std.specs.Prelude.{◌≡◌, ℕ, ◌≤◌, List, length, take, slice_get, Option, Some}
use Rattle.std.specs.Option.{option_map}
use Rattle.x3d_values.specs.Ranges.{max_viewers}
use Rattle.x3d_values.specs.Stamp.{StampedView}
use Rattle.cascade_core.specs.Apply.{world}
use Rattle.cascade_core.specs.Course.{Scripted}
use Rattle.cascade_core.specs.Held.{StageView}
use Rattle.cascade_core.specs.Texts.{scene_text, trace_text}
use Rattle.share_law.specs.declared.step.Step.{Step}
use Rattle.share_law.specs.Lists.{IsPrefixOf}
use Rattle.share_law.specs.Network.{Network, Answer, IsStep, seated, start}
use Rattle.share_law.specs.Parts.{new_part}
use Rattle.share_law.specs.Viewer.{Running}
use Rattle.share_core.specs.Host.{HostView}
use Rattle.share_core.specs.Viewer.{ViewerView}
use Rattle.laws_worlds.specs.Nodes.{RunsAll}
use Rattle.laws_worlds.specs.Opened.{IsOpened}
use Rattle.laws_calls.specs.Peers.{Peers, AreIn, machine_for, viewer_at}

-- ---- the start

-- the new host of a scene with this mark, for this number of viewers
abbrev pub host_before : (mark : List ℕ) → (viewers : ℕ) → HostView
host_before mark viewers = record { mark = mark; part = new_part viewers }

-- the new viewer of this number, in its first boot
abbrev pub viewer_before : Peers → (who boot : ℕ) → ViewerView
viewer_before ps who boot = viewer_at ps who (seated (machine_for ps) boot)

-- the host and all viewers are new; there is a viewer for each of these boots
pub record AreNew (ps : Peers) (boots : List ℕ) : Type 0 where
  pub opened : IsOpened ps.text ps.flat ps.scene ps.routes
  pub attached : RunsAll ps.scene
  pub at_least_one : 1 ≤ length boots
  pub few : length boots ≤ max_viewers
  pub from_one : (who boot : ℕ) → slice_get boots who ≡ Some boot → 1 ≤ boot
  pub host : ps.host ≡ host_before ps.mark (length boots)
  pub viewers : (who : ℕ) → slice_get ps.viewers who
      ≡ option_map (viewer_before ps who) (slice_get boots who)

-- new peers are in the network before the first step
abbrev pub NewPeersBegin : Type 0
NewPeersBegin =
    (ps : Peers) (boots : List ℕ) → AreNew ps boots → AreIn ps (start (machine_for ps) boots)

-- a viewer that starts on this stage is new, if the stage loaded what all peers loaded
abbrev pub IsNewViewer : (mark : List ℕ) → StageView → (who boot : ℕ) → ViewerView → Type 0
IsNewViewer mark stage who boot viewer =
    (ps : Peers) → ps.mark ≡ mark → ps.scene ≡ stage.scene → ps.routes ≡ stage.routes
    → viewer ≡ viewer_before ps who boot

-- ---- packets and snapshots stay

-- each packet keeps its number, and so does each snapshot, whatever the step
abbrev pub SentStays : Type 0
SentStays =
    (ps : Peers) (net next : Network Scripted) (step : Step) (answer : Answer)
    → IsStep (machine_for ps) net step answer next
    → IsPrefixOf net.sent next.sent × IsPrefixOf net.shots next.shots

-- ---- the law of real viewers

-- a real viewer that has applied n inputs holds the world of the first n that the host numbered
abbrev pub ViewersHold : Type 0
ViewersHold =
    (ps : Peers) (net : Network Scripted) → AreIn ps net
    → (viewer : ViewerView) (w : Scripted) (window : List (Option StampedView))
    → slice_get ps.viewers viewer.who ≡ Some viewer → viewer.state.view ≡ Running w window
    → (w.world.applied ≤ length net.host.list)
    × (w ≡ world ps.scene ps.routes (take w.world.applied net.host.list))

-- two of them that have applied the same number hold the same world, and write the same texts
abbrev pub ViewersAgree : Type 0
ViewersAgree =
    (ps : Peers) (net : Network Scripted) → AreIn ps net
    → (viewer other : ViewerView) (w theirs : Scripted)
    (window their_window : List (Option StampedView))
    → slice_get ps.viewers viewer.who ≡ Some viewer → viewer.state.view ≡ Running w window
    → slice_get ps.viewers other.who ≡ Some other → other.state.view ≡ Running theirs their_window
    → w.world.applied ≡ theirs.world.applied
    → (w ≡ theirs)
    × (scene_text ps.scene ps.routes w ≡ scene_text ps.scene ps.routes theirs)
    × (trace_text ps.scene w ≡ trace_text ps.scene theirs)
