-- The outputs of a scene (ISO/IEC 19775-1, field semantics: outputOnly and inputOutput fields).
use Rattle.std.specs.Prelude.{ℕ, Bool, ◌+◌, ◌++◌, List, [], ◌∷◌, length, map, sum_by}
use Rattle.std.specs.List.{filter, range_with_len}
use Rattle.scene_core.specs.declared.scene.End.{End}
use Rattle.scene_core.specs.Shape.{Shape, rows_of}
use Rattle.cascade_world.specs.Access.{is_output}
use Rattle.cascade_trace.specs.Ends.{has_sent}

-- the numbers of the fields by which a node sends
unfoldable pub output_fields : Shape → List ℕ
output_fields shape = filter (is_output shape) (range_with_len 0 (length (rows_of shape)))

-- the number of outputs of a node
abbrev pub outputs_of_shape : Shape → ℕ
outputs_of_shape shape = length (output_fields shape)

-- the number of outputs of the nodes
abbrev pub outputs_of : List Shape → ℕ
outputs_of shapes = sum_by outputs_of_shape shapes

-- the outputs of nodes, of which the first has number n
unfoldable pub ends_from : ℕ → List Shape → List End
ends_from n [] = []
ends_from n (shape ∷ shapes) =
    map (λ field. record { node = n; field = field }) (output_fields shape)
    ++ ends_from (n + 1) shapes

-- the end is an output of the scene
abbrev pub is_scene_output : List Shape → End → Bool
is_scene_output shapes source = has_sent (ends_from 0 shapes) source
