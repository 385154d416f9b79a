-- A rehearsal is a run of the law's network: its answers are the network's, and the real nodes
-- match the network's.
use Rattle.std.specs.Prelude.{◌≡◌, ℕ, List, ◌++◌, length, map, replicate}
use Rattle.scene_core.specs.declared.scene.Route.{Route}
use Rattle.scene_core.specs.Scene.{SceneView}
use Rattle.cascade_core.specs.Held.{StageView}
use Rattle.cascade_core.specs.Course.{Scripted}
use Rattle.share_law.specs.declared.step.Step.{Step}
use Rattle.share_law.specs.Cascade.{cascade}
use Rattle.share_law.specs.Network.{Network, start}
use Rattle.share_law.specs.Reached.{Reached}
use Rattle.share_core.specs.Host.{HostView}
use Rattle.share_core.specs.Viewer.{ViewerView}
use Rattle.share_rehearsal.specs.declared.answer.Answer.{Answer}
use Rattle.share_rehearsal.specs.declared.nodes.Shot.{Shot}
use Rattle.share_rehearsal.specs.Calls.{AreCalls, Seen, begun_with, seen_of}
use Rattle.share_rehearsal.specs.Log.{lines_from, log_text}
use Rattle.share_rehearsal.specs.Told.{ToldRun}
use Rattle.share_rehearsal.specs.Stands.{law_answer, StandFor}
use Rattle.share_rehearsal.specs.Loaded.{AreLoaded}

-- the steps may leave this many viewers of a scene, each in its first boot, and their host so, with
-- these answers, each of which says whether memory ran out; the network that matches them is
-- reached, so the law of shared worlds applies
pub record IsRehearsal (mark : List ℕ) (scene : SceneView) (routes : List Route) (viewers : ℕ)
    (steps : List Step) (answers : List Answer) (new : Seen) : Type 0 where
  pub net : Network Scripted
  pub run : ToldRun (cascade mark scene routes)
      (start (cascade mark scene routes) (replicate viewers 1)) steps (map law_answer answers) net
  pub reached : Reached (cascade mark scene routes) net
  pub stand : StandFor mark scene routes new net

-- the steps were run from these nodes and their lines were appended
pub record IsPlayed (old : Seen) (steps : List Step) (before after : List ℕ) (new : Seen) :
    Type 0 where
  pub answers : List Answer
  pub calls : AreCalls old steps answers new
  pub lines : after ≡ before ++ lines_from 1 answers

-- like IsPlayed, with what each viewer holds at the end after the lines
pub record IsLogged (old : Seen) (steps : List Step) (before after : List ℕ) (new : Seen) :
    Type 0 where
  pub answers : List Answer
  pub calls : AreCalls old steps answers new
  pub log : after ≡ before ++ log_text answers new.viewers

-- viewers with these stages and their host ran the steps and their log was appended; if all stages
-- loaded one text, this is a rehearsal
pub record IsRehearsed (mark : List ℕ) (stages : List StageView) (steps : List Step)
    (before after : List ℕ) (host : HostView) (viewers : List ViewerView) : Type 0 where
  pub answers : List Answer
  pub packets : List (List ℕ)
  pub shots : List Shot
  pub calls : AreCalls (begun_with mark stages) steps answers (seen_of host viewers packets shots)
  pub log : after ≡ before ++ log_text answers viewers
  pub law : (text : List ℕ) (scene : SceneView) (routes : List Route)
      → AreLoaded text scene routes stages
      → IsRehearsal mark scene routes (length stages) steps answers
      (seen_of host viewers packets shots)
