use Rattle.std.proofs.Common.{◌≡◌, List}
use Rattle.std.specs.List.{flat_map}
use Rattle.scene_core.specs.declared.scene.End.{End}
use Rattle.embed_changes.specs.OutputBytes.{output_bytes}
use Rattle.embed_changes.proofs.Noting.{Rest}
use Rattle.embed_changes.proofs.outputs.note_all.Given as goal

abbrev pub invariant-loop-output : goal.invariant-loop-output
invariant-loop-output l = (all : List End) → l.fn.bytes ≡ flat_map output_bytes all → Rest l.fn.marks all l.marks l.rest
