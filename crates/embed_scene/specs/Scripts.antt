-- The scripts that a scene runs, as numbers (our choice).
use Rattle.std.specs.Prelude.{ℕ, ℤ, pos, List, [], ◌∷◌, Option, Some, None}
use Rattle.std.specs.List.{flat_map}
use Rattle.scene_core.specs.Scene.{SceneView}
use Rattle.script_running.specs.Scripts.{script_list}
use Rattle.x3d_values.specs.declared.script.Kind.{Kind}
use Rattle.x3d_values.specs.declared.script.Kind.TheVariants.{Counter, Gate, Adder, Batch, Mover, Meter}
use Rattle.x3d_values.specs.declared.script.ScriptSpec.{ScriptSpec}

-- a world has no script of an unknown kind
abbrev pub kind_number : Option Kind → ℕ
kind_number (Some Counter) = 0
kind_number (Some Gate) = 1
kind_number (Some Adder) = 2
kind_number (Some Batch) = 3
kind_number (Some Mover) = 4
kind_number (Some Meter) = 5
kind_number None = 255

abbrev pub script_numbers : ScriptSpec → List ℤ
script_numbers script = pos script.node ∷ pos (kind_number script.kind) ∷ []

-- the node and the kind of each script, in the order of their numbers
abbrev pub scripts_in : SceneView → List ℤ
scripts_in scene = flat_map script_numbers (script_list scene)
