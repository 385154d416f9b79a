-- A node by its name.
use Rattle.std.specs.Prelude.{◌≡◌, ◌<◌, ◌-◌, ◌^◌, ℕ, Bool, true, false, List, Option, Some, None, length, min, nat_eq}
use Rattle.std.specs.Cmp.Lexicographic.{pointwise}
use Rattle.std.specs.Option.{option_map_or}
use Rattle.scene_core.specs.Scene.{SceneView, name_at}

-- a node has this name: a DEF name that no other node has
abbrev pub is_named : SceneView → List ℕ → ℕ → Bool
is_named scene name node =
    option_map_or (λ label. pointwise nat_eq label name) (name_at scene node) false

-- no number below `count` passes
abbrev pub Misses : (ℕ → Bool) → (count : ℕ) → Type 0
Misses passes count = (n : ℕ) → n < count → passes n ≡ false

-- the first number below `count` that passes
abbrev pub IsFirst : (ℕ → Bool) → (count : ℕ) → Option ℕ → Type 0
IsFirst passes count (Some n) = (n < count) × (passes n ≡ true) × Misses passes n
IsFirst passes count None = Misses passes count

-- the first node with this name, if a node has it; no scene has 2^32 nodes
abbrev pub IsNodeNamed : SceneView → List ℕ → Option ℕ → Type 0
IsNodeNamed scene name found =
    IsFirst (is_named scene name) (min (length scene.nodes) (2 ^ 32 - 1)) found
