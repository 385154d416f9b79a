-- The nearest box that a ray hits.
use Rattle.std.specs.Prelude.{◌≡◌, ℕ, ◌*◌, ◌<◌, ◌≤◌, ◌⊎◌, List, [], ◌∷◌, Option, MatchOption}
use Rattle.std.specs.List.{AllByRecursion}
use Rattle.x3d_values.specs.Pointing.{RayView}
use Rattle.pick_rules.specs.Hits.{IsHit, IsMissed}
use Rattle.pick_core.specs.Boxes.{Placed}
use Rattle.pick_core.specs.declared.hit.Hit.{Hit}

-- the lexicographic order of paths
abbrev pub IsPathBefore : List ℕ → List ℕ → Type 0
IsPathBefore [] [] = ⊥
IsPathBefore [] (q ∷ qs) = Unit {0}
IsPathBefore (p ∷ ps) [] = ⊥
IsPathBefore (p ∷ ps) (q ∷ qs) = (p < q) ⊎ ((p ≡ q) × IsPathBefore ps qs)

abbrev pub IsPathUpTo : List ℕ → List ℕ → Type 0
IsPathUpTo p q = (p ≡ q) ⊎ IsPathBefore p q

-- one of the boxes has the hit's path and is hit at the hit's fraction
abbrev pub IsReached : RayView → Hit → List Placed → Type 0
IsReached ray hit [] = ⊥
IsReached ray hit (b ∷ bs) = ((b.path ≡ hit.path) × IsHit b.bounds ray hit.n hit.m)
    ⊎ IsReached ray hit bs

-- the box isn't hit at a smaller fraction, and is hit at this one only if its path isn't smaller
pub record IsNotBehind (ray : RayView) (hit : Hit) (b : Placed) : Type 0 where
  pub first : (n m : ℕ) → 0 < m → IsHit b.bounds ray n m → hit.n * m ≤ n * hit.m
  pub least : IsHit b.bounds ray hit.n hit.m → IsPathUpTo hit.path b.path

-- a path and a fraction at which the box of the path is hit; no box is hit at a smaller fraction,
-- and no box with a smaller path at this one
pub record IsNearest (ray : RayView) (bs : List Placed) (hit : Hit) : Type 0 where
  pub positive : 0 < hit.m
  pub reached : IsReached ray hit bs
  pub none_before : AllByRecursion (IsNotBehind ray hit) bs

-- the nearest hit; None if no box is hit at any fraction
abbrev pub IsPicked : RayView → List Placed → Option Hit → Type 0
IsPicked ray bs hit =
    MatchOption hit (AllByRecursion (λ b. IsMissed b.bounds ray) bs) (IsNearest ray bs)

-- there is only one nearest hit: one path, and one value of the fraction
abbrev pub OneNearest : Type 0
OneNearest =
    (ray : RayView) (bs : List Placed) (h k : Hit) → IsNearest ray bs h → IsNearest ray bs k
    → (h.path ≡ k.path) × (h.n * k.m ≡ k.n * h.m)
