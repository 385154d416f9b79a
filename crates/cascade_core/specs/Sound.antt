-- Scripts that send by outputs of their nodes.
use Rattle.std.specs.Prelude.{◌≡◌, ℕ, Bool, true, List, Some, length, map, slice_get}
use Rattle.std.specs.List.{list_all}
use Rattle.x3d_values.specs.declared.script.Kind.{Kind}
use Rattle.scene_core.specs.Shape.{Shape}
use Rattle.react_core.specs.declared.outbox.SentEvent.{SentEvent}
use Rattle.script_running.specs.Runs.{runs_of}
use Rattle.script_host.specs.Interface.{outputs}
use Rattle.script_running.specs.Acting.{kinds_of}
use Rattle.cascade_core.specs.Apply.{SendingView}
use Rattle.cascade_core.specs.Course.{CourseView, Wiring, node_of, ports_of}
use Rattle.cascade_core.specs.declared.routed.RoutedScene.{RoutedScene}
use Rattle.cascade_core.specs.Outputs.{is_scene_output}

-- these fields of a node are outputs of the scene
abbrev pub are_outputs : List Shape → ℕ → List ℕ → Bool
are_outputs shapes node fields =
    list_all (λ field. is_scene_output shapes (record { node = node; field = field })) fields

-- there is one script for each that is run, and each sends by outputs of its node, as many as its
-- kind has
pub record IsSound (wiring : Wiring) (kinds : List Kind) : Type 0 where
  pub many : length wiring.runs ≡ length kinds
  pub count : (k : ℕ) (kind : Kind) → slice_get kinds k ≡ Some kind
      → length (ports_of wiring k).outputs ≡ length (outputs kind)
  pub sends : (k : ℕ) (kind : Kind) → slice_get kinds k ≡ Some kind
      → are_outputs wiring.shapes (node_of wiring k) (ports_of wiring k).outputs ≡ true

-- the replies are sent by outputs of the scene
abbrev pub are_sent : List Shape → SendingView → Bool
are_sent shapes s = are_outputs shapes s.node (map (λ (r : SentEvent). r.field) s.replies)

-- the scripts that a stage runs are those of its scene
abbrev pub RunsItsScripts : RoutedScene → Type 0
RunsItsScripts g = g.runs ≡ runs_of g.scene

-- the scripts of a course are those that the wiring runs, and no others are counted
pub record HasScriptsOf (wiring : Wiring) (c : CourseView) : Type 0 where
  pub sound : IsSound wiring (kinds_of c.scripts)
  pub counted : c.settling.count ≡ length (kinds_of c.scripts)
