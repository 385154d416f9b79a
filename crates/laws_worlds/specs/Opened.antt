-- What a text gives: its document, the flat document, the scene and the routes.
use Rattle.std.specs.Prelude.{◌≡◌, ℕ, List, Ok}
use Rattle.classic_tree.specs.declared.tree.Document.{Document}
use Rattle.classic_text.specs.Reading.{read_text}
use Rattle.proto_flat.specs.declared.flat.Flat.{Flat}
use Rattle.proto_meaning.specs.Flat.{flat}
use Rattle.scene_core.specs.declared.scene.Route.{Route}
use Rattle.scene_core.specs.Building.{scene_of}
use Rattle.scene_core.specs.Scene.{SceneView}
use Rattle.route_core.specs.Resolved.{resolved}
use Rattle.laws_worlds.specs.Worlds.{IsDocument}

pub record IsOpened (text : List ℕ) (f : Flat) (scene : SceneView)
    (routes : List Route) : Type 0 where
  pub document : Document
  pub read : read_text text ≡ Ok document
  pub put_in : flat document ≡ Ok f
  pub is_scene : scene_of f ≡ Ok scene
  pub are_routes : resolved f scene ≡ Ok routes

-- the scene's nodes can be numbered in 32 bits, and its lengths can be counted
abbrev pub OpenedAreDocuments : Type 0
OpenedAreDocuments =
    (text : List ℕ) (f : Flat) (scene : SceneView) (routes : List Route)
    → IsOpened text f scene routes → IsDocument f scene routes
