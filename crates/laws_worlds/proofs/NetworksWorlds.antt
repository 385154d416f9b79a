-- The worlds of the scene of a text.
use Rattle.std.proofs.Common.{ℕ, ◌^◌, ◌≤◌, List, length, arith}
use Rattle.proto_flat.specs.declared.flat.Flat.{Flat}
use Rattle.scene_core.specs.declared.scene.Route.{Route}
use Rattle.scene_core.specs.Scene.{SceneView}
use Rattle.laws_worlds.proofs.Counted.{scene_few}
use Rattle.laws_worlds.proofs.DocumentWorlds.{all_have_snapshots, all_worlds_fit}
use Rattle.laws_worlds.proofs.Saved.{saved_have as all_saved, running_have as all_running}
use Rattle.laws_documents.proofs.WrittenWhole.{flats_are_limited}
use Rattle.laws_worlds.specs.Opened.{IsOpened}
use Rattle.laws_worlds.specs.NetworkWorlds.{RunningOfTextsHaveSnapshots, SavedOfTextsHaveSnapshots, WorldsOfTextsFit, WorldsOfTextsHaveSnapshots}
use Rattle.laws_worlds.proofs.Countable.{is_document}

pub few_nodes : (text : List ℕ) (f : Flat) (scene : SceneView) (routes : List Route) → IsOpened text f scene routes → length scene.nodes ≤ 2 ^ 16
few_nodes text f scene routes o = omega (arith, scene_few f scene o.is_scene, (flats_are_limited o.document f o.put_in).0)

pub worlds_fit : WorldsOfTextsFit
worlds_fit text f scene routes inputs o run i = all_worlds_fit f scene routes inputs (is_document text f scene routes o) run i

pub worlds_have : WorldsOfTextsHaveSnapshots
worlds_have text f scene routes inputs o run i few = all_have_snapshots f scene routes inputs (is_document text f scene routes o) run i few

pub saved_have : SavedOfTextsHaveSnapshots
saved_have text f scene routes mark net o run reached s shot at few =
    all_saved f scene routes mark net (is_document text f scene routes o) run reached s shot at few

pub running_have : RunningOfTextsHaveSnapshots
running_have text f scene routes mark net o run reached viewer held window r few =
    all_running f scene routes mark net (is_document text f scene routes o) run reached viewer held window r few
