-- The places of the texts of outputs in a buffer.
use Rattle.std.specs.Prelude.{◌≡◌, ◌-◌, ◌≤◌, ℕ, List, drop, length, take}
use Rattle.scene_core.specs.Scene.{SceneView}
use Rattle.cascade_trace.specs.LineText.{head_text}
use Rattle.cascade_trace.specs.declared.labels.Span.{Span}

-- the span of the buffer is the text of its output, followed by a space
pub record IsHead (scene : SceneView) (text : List ℕ) (span : Span) : Type 0 where
  pub ordered : span.start ≤ span.end
  pub within : span.end ≤ length text
  pub is : take (span.end - span.start) (drop span.start text) ≡ head_text scene span.source
