-- What holds for the nodes that a rehearsal leaves, and for its log.
use Rattle.std.specs.Prelude.{◌≡◌, ◌↔◌, ℕ, ◌≤◌, pos, true, List, [], ◌∷◌, ◌++◌, length}
use Rattle.std.specs.Prelude.{take, slice_get, codes, Option, None, Some, Ok}
use Rattle.x3d_values.specs.Stamp.{StampedView}
use Rattle.scene_core.specs.declared.scene.Route.{Route}
use Rattle.scene_core.specs.Scene.{SceneView}
use Rattle.cascade_core.specs.Apply.{world}
use Rattle.cascade_core.specs.Course.{Scripted}
use Rattle.cascade_core.specs.Texts.{scene_text, trace_text}
use Rattle.share_law.specs.declared.step.Step.{Step}
use Rattle.share_law.specs.declared.step.Step.TheVariants.{ViewerJoin}
use Rattle.share_law.specs.Cascade.{cascade}
use Rattle.share_law.specs.Host.{HostState}
use Rattle.share_law.specs.HostCalls as hosts
use Rattle.share_law.specs.Joins.{IsPartOf}
use Rattle.share_law.specs.Lists.{IsAhead, Rises}
use Rattle.share_law.specs.Pieces.{Gathering, all_there, joined}
use Rattle.share_law.specs.Steps.{says_memory}
use Rattle.share_law.specs.Viewer.{Running, Shot, begun}
use Rattle.share_core.specs.Viewer.{ViewerView}
use Rattle.share_rehearsal.specs.declared.answer.Answer.{Answer}
use Rattle.share_rehearsal.specs.declared.answer.Answer.TheVariants.{Joined}
use Rattle.share_rehearsal.specs.Calls.{Seen}
use Rattle.share_rehearsal.specs.Log.{answer_text}
use Rattle.share_rehearsal.specs.Stands.{law_answer, shot_at}
use Rattle.share_rehearsal.specs.Rehearsed.{IsRehearsal}

-- for whatever a rehearsal of a scene leaves, whichever its steps, and the list of all inputs that
-- its host numbered, of which the host holds a part
abbrev pub OfRehearsals : (SceneView → List Route → List StampedView → Seen → Type 0) → Type 0
OfRehearsals Law =
    (mark : List ℕ) (scene : SceneView) (routes : List Route) (viewers : ℕ) (steps : List Step)
    (answers : List Answer) (left : Seen)
    → (r : IsRehearsal mark scene routes viewers steps answers left)
    → Law scene routes r.net.host.list left

-- viewer v is left running, with this world and this window
pub record IsLeft (left : Seen) (v : ℕ) (x : ViewerView) (held : Scripted)
    (window : List (Option StampedView)) : Type 0 where
  pub is : slice_get left.viewers v ≡ Some x
  pub runs : x.state.view ≡ Running held window

-- its world is that of the scene and of the first n of all inputs, where n is how many it applied
abbrev pub ViewersHold : SceneView → List Route → List StampedView → Seen → Type 0
ViewersHold scene routes list left =
    (v : ℕ) (x : ViewerView) (held : Scripted) (window : List (Option StampedView))
    → IsLeft left v x held window
    → (held.world.applied ≤ length list)
    × (held ≡ world scene routes (take held.world.applied list))

-- two viewers that applied the same number of inputs hold the same world and write the same texts
abbrev pub ViewersAgree : SceneView → List Route → List StampedView → Seen → Type 0
ViewersAgree scene routes list left =
    (v other : ℕ) (x y : ViewerView) (held theirs : Scripted)
    (window their_window : List (Option StampedView))
    → IsLeft left v x held window → IsLeft left other y theirs their_window
    → held.world.applied ≡ theirs.world.applied
    → (held ≡ theirs)
    × (scene_text x.scene x.routes held ≡ scene_text y.scene y.routes theirs)
    × (trace_text x.scene held ≡ trace_text y.scene theirs)

-- its window lacks its next input, and of the 63 inputs after that one holds only numbered ones
abbrev pub WindowsHold : SceneView → List Route → List StampedView → Seen → Type 0
WindowsHold scene routes list left =
    (v : ℕ) (x : ViewerView) (held : Scripted) (window : List (Option StampedView))
    → IsLeft left v x held window → IsAhead list held.world.applied window

-- the times of all inputs rise
abbrev pub TimesRise : SceneView → List Route → List StampedView → Seen → Type 0
TimesRise scene routes list left = Rises (pos 0) list

-- the host holds the part of a host with all these inputs: those from its floor on, their number,
-- and the time of the last; the floor is from 1 to the next input
abbrev pub HostHolds : SceneView → List Route → List StampedView → Seen → Type 0
HostHolds scene routes list left =
    (h : HostState) × (h.list ≡ list) × hosts.IsPartOf h left.host.part

-- ---- late joiners

-- snapshot number s of those taken is this one: its viewer, its boot, and the bytes of its world
abbrev pub IsTaken : SceneView → Seen → (s : ℕ) → Shot Scripted → Type 0
IsTaken scene left s from = slice_get left.shots s ≡ Some (shot_at left.host.mark scene from)

-- what a viewer has gathered comes from one snapshot that was taken, whichever snapshots its pieces
-- were cut from; once no piece is missing it is the bytes of that snapshot
abbrev pub PiecesHold : SceneView → List Route → List StampedView → Seen → Type 0
PiecesHold scene routes list left =
    (v : ℕ) (x : ViewerView) (g : Gathering)
    → slice_get left.viewers v ≡ Some x → x.gathering ≡ Some g
    → (s : ℕ) × (from : Shot Scripted) × IsTaken scene left s from
    × IsPartOf (cascade left.host.mark scene routes) g from
    × (all_there g.places ≡ true → joined g.places ≡ (shot_at left.host.mark scene from).bytes)

-- viewer v is in the state that a snapshot was taken in: its world, which is that of the scene and
-- of the first n of all inputs; the boot is new and nothing is gathered
pub record StandsIn
    (scene : SceneView) (routes : List Route) (list : List StampedView) (left : Seen)
    (v boot n : ℕ) : Type 0 where
  pub s : ℕ
  pub from : Shot Scripted
  pub taken : IsTaken scene left s from
  pub viewer : ViewerView
  pub is : slice_get left.viewers v ≡ Some viewer
  pub state : viewer.state ≡ begun boot from.state
  pub gathered : viewer.gathering ≡ None
  pub most : n ≤ length list
  pub world_of_n : from.state ≡ world scene routes (take n list)

-- a viewer that joined in the last step with n inputs, by all pieces of a snapshot, is in that
-- state
abbrev pub JoinersStand : Type 0
JoinersStand =
    (mark : List ℕ) (scene : SceneView) (routes : List Route) (viewers : ℕ) (steps : List Step)
    (answers : List Answer) (left : Seen) (v boot n : ℕ)
    → (r : IsRehearsal mark scene routes viewers (steps ++ ViewerJoin v boot ∷ [])
    (answers ++ Joined (Ok n) ∷ []) left)
    → StandsIn scene routes r.net.host.list left v boot n

-- -- the log

-- an answer is logged as `Memory` exactly when it says that memory ran out
abbrev pub MemoryIsLogged : Type 0
MemoryIsLogged =
    (a : Answer) → (answer_text a ≡ codes "Memory") ↔ (says_memory (law_answer a) ≡ true)
