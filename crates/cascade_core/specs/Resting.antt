-- The state of a course between two steps: the remaining tasks, and what stays the same.
use Rattle.std.specs.Prelude.{◌≡◌, []}
use Rattle.std.specs.List.{AllByRecursion}
use Rattle.pick_core.specs.Sites.{rows_of}
use Rattle.scene_core.specs.Scene.{shapes_of}
use Rattle.script_running.specs.Acting.{kinds_of}
use Rattle.cascade_core.specs.declared.buffers.Buffers.{Buffers}
use Rattle.cascade_core.specs.Course.{CourseView, wiring_at}
use Rattle.cascade_core.specs.Scripts.{kinds_in}
use Rattle.cascade_core.specs.Sound.{HasScriptsOf, RunsItsScripts}
use Rattle.cascade_core.specs.Stack.{IsReady}
use Rattle.cascade_core.specs.declared.routed.RoutedScene.{RoutedScene}

-- there are no tasks and no unsent replies, the boxes are those of the nodes, and the scripts are
-- those that are run
pub record IsAtRest (routed : RoutedScene) (buffers : Buffers) (c : CourseView) : Type 0 where
  pub empty : buffers.tasks.items ≡ []
  pub none : buffers.replies.items ≡ []
  pub boxes : buffers.boxes ≡ rows_of routed.scene c.live.world.fields
  pub has_scripts : HasScriptsOf (wiring_at routed) c

-- like `IsAtRest`, with tasks left: each sends by an output of the scene
pub record IsWorking (routed : RoutedScene) (buffers : Buffers) (c : CourseView) : Type 0 where
  pub ready : AllByRecursion (IsReady (shapes_of routed.scene)) buffers.tasks.items
  pub none : buffers.replies.items ≡ []
  pub boxes : buffers.boxes ≡ rows_of routed.scene c.live.world.fields
  pub has_scripts : HasScriptsOf (wiring_at routed) c

-- the kinds and the number of the scripts are unchanged
pub record HasSameScripts (old new : CourseView) : Type 0 where
  pub kinds : kinds_of new.scripts ≡ kinds_of old.scripts
  pub count : new.settling.count ≡ old.settling.count

-- the scripts that are run are those of the scene, and the course has their kinds
pub record HasSceneScripts (routed : RoutedScene) (c : CourseView) : Type 0 where
  pub runs : RunsItsScripts routed
  pub kinds : kinds_of c.scripts ≡ kinds_in routed.scene
