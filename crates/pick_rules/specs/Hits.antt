-- Where a ray hits a box.
use Rattle.std.specs.Prelude.{ℕ, ◌*◌, ◌<◌, ◌≤◌, ℤ, pos, ◌+ℤ◌, ◌*ℤ◌, ◌≤ℤ◌}
use Rattle.x3d_values.specs.Pointing.{RayView}
use Rattle.pick_rules.specs.declared.bounds.Bounds.{Bounds}

-- on one axis, the ray is between the sides at n / m of its way
pub record IsCrossed (low high origin dir : ℤ) (n m : ℕ) : Type 0 where
  pub above : (pos m *ℤ low) ≤ℤ (pos m *ℤ origin +ℤ pos n *ℤ dir)
  pub below : (pos m *ℤ origin +ℤ pos n *ℤ dir) ≤ℤ (pos m *ℤ high)

-- the ray is in the box at n / m of its way
pub record IsHit (b : Bounds) (ray : RayView) (n m : ℕ) : Type 0 where
  pub x : IsCrossed b.low.x b.high.x ray.origin.x ray.dir.x n m
  pub y : IsCrossed b.low.y b.high.y ray.origin.y ray.dir.y n m
  pub z : IsCrossed b.low.z b.high.z ray.origin.z ray.dir.z n m

-- the box is hit nowhere along the ray
abbrev pub IsMissed : Bounds → RayView → Type 0
IsMissed b ray = (n m : ℕ) → 0 < m → ¬ IsHit b ray n m

-- the box is hit at n / m, and at no fraction before
pub record IsEntered (b : Bounds) (ray : RayView) (n m : ℕ) : Type 0 where
  pub positive : 0 < m
  pub hit : IsHit b ray n m
  pub first : (n' m' : ℕ) → 0 < m' → IsHit b ray n' m' → n * m' ≤ n' * m
