-- Each line of a trace has a byte in its snapshot, so snapshots that a machine can hold have few.
use Rattle.std.proofs.Common.{ℕ, ◌≤◌, ◌<◌, ◌^◌, List, [], ◌∷◌, ◌++◌, length, map, arith, length-append}
use Rattle.std.specs.Int.{w32, w64}
use Rattle.std.specs.List.{flat_map}
use Rattle.byte_codec.specs.Codec.{number_text}
use Rattle.scene_core.specs.Scene.{SceneView, shapes_of}
use Rattle.scene_core.specs.Shape.{Shape}
use Rattle.snapshot_codec.specs.Head.{front, sealed}
use Rattle.snapshot_codec.specs.Inputs.{applied_codec, input_codec}
use Rattle.snapshot_codec.specs.Parts.{states_codec}
use Rattle.snapshot_codec.specs.Trace.{entry_codec, moment_codec, sent_at_codec}
use Rattle.cascade_trace.specs.declared.trace.TraceLine.{TraceLine}
use Rattle.cascade_core.specs.Course.{Scripted}
use Rattle.cascade_core.specs.Scripts.{kinds_in}
use Rattle.snapshot_core.specs.Nodes.{nodes_codec}
use Rattle.snapshot_core.specs.Opening.{newest, numbers_of, version_number}
use Rattle.snapshot_core.specs.Shot.{shot}
use Rattle.snapshot_core.specs.WorldCodec.{buttons_codec, entry_of, lines_codec, lists_in, output_type, parts_codec, world_codec}

module _ (shapes : List Shape) where
  -- the bytes of an event
  abbrev bytes_of : TraceLine → List ℕ
  bytes_of line = (entry_codec (numbers_of newest) (output_type shapes)).write (entry_of line)

  abbrev lines_text : List TraceLine → List ℕ
  lines_text lines = flat_map ((entry_codec (numbers_of newest) (output_type shapes)).write) (map entry_of lines)

  some-bytes : (l : TraceLine) → 1 ≤ length (bytes_of l)
  unfolding entry_codec sent_at_codec input_codec number_text
  some-bytes l = omega arith

  each-has : (lines : List TraceLine) → length lines ≤ length (lines_text lines)
  each-has [] = omega arith
  each-has (l ∷ lines) = omega (arith, each-has lines, some-bytes l, length-append (bytes_of l) (lines_text lines))

longer : (xs ys : List ℕ) → length xs ≤ length (xs ++ ys)
longer xs ys = omega (arith, length-append xs ys)

-- a digest is appended
sealed-longer : (bytes : List ℕ) → length bytes ≤ length (sealed bytes)
sealed-longer bytes = longer bytes _

-- what comes before the bytes of the lines, and the digest after them
abbrev around : (a b c d e f g h : List ℕ) → (lines : List ℕ) → List ℕ
around a b c d e f g h lines = sealed (a ++ (b ++ (c ++ (d ++ (e ++ (f ++ (g ++ (h ++ lines))))))))

at-least : (a b c d e f g h lines : List ℕ) → length lines ≤ length (around a b c d e f g h lines)
at-least a b c d e f g h lines = omega (
  arith,
  sealed-longer (a ++ (b ++ (c ++ (d ++ (e ++ (f ++ (g ++ (h ++ lines)))))))),
  length-append a (b ++ (c ++ (d ++ (e ++ (f ++ (g ++ (h ++ lines))))))),
  length-append b (c ++ (d ++ (e ++ (f ++ (g ++ (h ++ lines)))))),
  length-append c (d ++ (e ++ (f ++ (g ++ (h ++ lines))))),
  length-append d (e ++ (f ++ (g ++ (h ++ lines)))),
  length-append e (f ++ (g ++ (h ++ lines))),
  length-append f (g ++ (h ++ lines)),
  length-append g (h ++ lines),
  length-append h lines,
)

-- a snapshot has as many bytes as its trace has lines, and more
lines-fewer : (mark : List ℕ) (boot : ℕ) (scene : SceneView) (w : Scripted) → length w.world.trace ≤ length (shot mark boot scene w)
unfolding world_codec parts_codec lines_codec
lines-fewer mark boot scene w =
    let lines : List TraceLine = w.world.trace in
    omega (
      arith,
      each-has (shapes_of scene) lines,
      at-least (front (version_number newest) mark) (number_text w32 boot) ((applied_codec (numbers_of newest)).write w.world.applied) (moment_codec.write w.world.last_time)
          ((nodes_codec newest scene).write (lists_in w.world)) ((buttons_codec newest).write w.world.buttons)
          ((states_codec (length (kinds_in scene))).write w.states) (number_text w64 (length (map entry_of lines))) (lines_text (shapes_of scene) lines),
    )

pub few-lines : (mark : List ℕ) (boot : ℕ) (scene : SceneView) (w : Scripted) → length (shot mark boot scene w) < 2 ^ 64 → length w.world.trace < 2 ^ 64
few-lines mark boot scene w few = omega (arith, few, lines-fewer mark boot scene w)
