-- Boxes around runs of 16 boxes.
use Rattle.std.specs.Prelude.{◌≡◌, ℕ, ◌+◌, ◌*◌, ◌/◌, ◌≤◌, ◌<◌, ◌≤ℤ◌, List, length, Option, Some, None, slice_get, false}
use Rattle.x3d_values.specs.Pointing.{RayView}
use Rattle.pick_rules.specs.declared.bounds.Bounds.{Bounds}
use Rattle.pick_rules.specs.declared.bounds.Fraction.{Fraction}
use Rattle.pick_core.specs.declared.tree.Tree.{Tree}
use Rattle.pick_core.specs.Passed.{enters_before}

-- a box is inside another
pub record IsInside (inner outer : Bounds) : Type 0 where
  pub low_x : outer.low.x ≤ℤ inner.low.x
  pub low_y : outer.low.y ≤ℤ inner.low.y
  pub low_z : outer.low.z ≤ℤ inner.low.z
  pub high_x : inner.high.x ≤ℤ outer.high.x
  pub high_y : inner.high.y ≤ℤ outer.high.y
  pub high_z : inner.high.z ≤ℤ outer.high.z

-- like `IsInside`, if there is an inner box
abbrev pub IsIn : Option Bounds → Option Bounds → Type 0
IsIn None outer = Unit {0}
IsIn (Some b) None = ⊥
IsIn (Some b) (Some c) = IsInside b c

-- item n of a list is in this run of 16
abbrev pub IsOf : ℕ → ℕ → Type 0
IsOf n run = (16 * run ≤ n) × (n < 16 * run + 16)

-- the box of each run of a list is around all boxes of the run
pub record IsOver (upper lower : List (Option Bounds)) : Type 0 where
  pub room : length lower ≤ 16 * length upper
  pub round : (n run : ℕ) (b c : Option Bounds) → slice_get lower n ≡ Some b
      → slice_get upper run ≡ Some c → IsOf n run → IsIn b c

-- like `IsOver`, except for the boxes from `first` to `last`
pub record IsOverBut (first last : ℕ) (upper lower : List (Option Bounds)) : Type 0 where
  pub room : length lower ≤ 16 * length upper
  pub round : (n run : ℕ) (b c : Option Bounds) → slice_get lower n ≡ Some b
      → slice_get upper run ≡ Some c → IsOf n run → (first ≤ n → n ≤ last → ⊥) → IsIn b c

-- the new box of each run is around all boxes of the run, and only runs that have one of the boxes
-- from `first` to `last` have changed
pub record IsRenewed (first last : ℕ) (old new lower : List (Option Bounds)) : Type 0 where
  pub over : IsOver new lower
  pub long : length new ≡ length old
  pub outside : (run : ℕ) → (first / 16 ≤ run → run ≤ last / 16 → ⊥)
      → slice_get new run ≡ slice_get old run

-- the boxes of a tree are around the runs of a list, and around the groups of these runs
pub record IsTreeOf (tree : Tree) (boxes : List (Option Bounds)) : Type 0 where
  pub runs : IsOver tree.runs.items boxes
  pub groups : IsOver tree.groups.items tree.runs.items

-- like `IsTreeOf`, except for the boxes from `first` to `last`
pub record IsTreeBut (first last : ℕ) (tree : Tree) (boxes : List (Option Bounds)) : Type 0 where
  pub runs : IsOverBut first last tree.runs.items boxes
  pub groups : IsOver tree.groups.items tree.runs.items

-- the list has place `at`, and the ray doesn't enter the box there, if any, before the best so far
pub record IsPassed (boxes : List (Option Bounds)) (at : ℕ) (ray : RayView)
    (best : Option Fraction) : Type 0 where
  pub outer : Option Bounds
  pub there : slice_get boxes at ≡ Some outer
  pub late : enters_before outer ray best ≡ false

-- of the `many` boxes from place `at` on, a ray enters none before the best so far
abbrev pub ArePassed : List (Option Bounds) → ℕ → ℕ → RayView → Option Fraction → Type 0
ArePassed boxes at many ray best = (n : ℕ) (b : Option Bounds) → slice_get boxes n ≡ Some b
    → at ≤ n → n < at + many → enters_before b ray best ≡ false

-- if a ray doesn't enter a box before the best so far, it doesn't enter a box inside it before
-- either
abbrev pub PassedInside : Type 0
PassedInside = (inner outer : Option Bounds) (ray : RayView) (best : Option Fraction)
    → IsIn inner outer → enters_before outer ray best ≡ false → enters_before inner ray best ≡ false
