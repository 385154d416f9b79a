-- There is one nearest hit: one path, and one value of the fraction.
use Rattle.std.proofs.Common.{◌≡◌, ℕ, ◌+◌, ◌*◌, ◌<◌, ◌≤◌, inl, inr, ℤ, pos, ◌+ℤ◌, ◌*ℤ◌, ◌≤ℤ◌, List, [], ◌∷◌, ap, sym, subst, arith}
use Rattle.std.proofs.Math.Nat.{mul-le-mul_right, le_of_mul-le-mul_right}
use Rattle.std.proofs.lemmas.Int.{ints}
use Rattle.std.specs.List.{AllByRecursion}
use borrow.Author.Differences.{up, down}
use Rattle.pick_core.specs.Boxes.{Placed}
use Rattle.pick_rules.specs.Hits.{IsCrossed, IsHit}
use Rattle.pick_core.specs.Nearest.{IsPathBefore, IsPathUpTo, IsReached, IsNotBehind, IsNearest}
use Rattle.pick_rules.specs.declared.bounds.Bounds.{Bounds}
use Rattle.x3d_values.specs.Pointing.{RayView}
use Rattle.pick_core.specs.declared.hit.Hit.{Hit}
use Rattle.pick_rules.proofs.Fractions.{mul_parts}

-- six products on each side, at one fraction and at another of the same value
same_value : (a b c d e f n m n' m' : ℕ) → 0 < m → n * m' ≡ n' * m → m * a + (m * b + n * c) ≤ m * d + (n * e + m * f) → m' * a + (m' * b + n' * c) ≤ m' * d + (n' * e + m' * f)
same_value a b c d e f n m n' m' p q h =
    let x : (m * a + (m * b + n * c)) * m' ≤ (m * d + (n * e + m * f)) * m' = mul-le-mul_right m' h in
    let y : (n * m') * c ≡ (n' * m) * c = ap (λ k. k * c) q in
    let z : (n * m') * e ≡ (n' * m) * e = ap (λ k. k * e) q in
    let w : (m' * a + (m' * b + n' * c)) * m ≤ (m' * d + (n' * e + m' * f)) * m = omega arith in
    le_of_mul-le-mul_right w p

above_same : (a b c : ℤ) (n m n' m' : ℕ) → 0 < m → n * m' ≡ n' * m → (pos m *ℤ a) ≤ℤ (pos m *ℤ b +ℤ pos n *ℤ c) → (pos m' *ℤ a) ≤ℤ (pos m' *ℤ b +ℤ pos n' *ℤ c)
above_same a b c n m n' m' p q h =
    let k : m * up a + (m * down b + n * down c) ≤ m * up b + (n * up c + m * down a) = omega (arith, ints, mul_parts m a, mul_parts m b, mul_parts n c) in
    let l = same_value (up a) (down b) (down c) (up b) (up c) (down a) n m n' m' p q k in
    omega (arith, ints, mul_parts m' a, mul_parts m' b, mul_parts n' c)

below_same : (a b c : ℤ) (n m n' m' : ℕ) → 0 < m → n * m' ≡ n' * m → (pos m *ℤ b +ℤ pos n *ℤ c) ≤ℤ (pos m *ℤ a) → (pos m' *ℤ b +ℤ pos n' *ℤ c) ≤ℤ (pos m' *ℤ a)
below_same a b c n m n' m' p q h =
    let k : m * down a + (m * up b + n * up c) ≤ m * down b + (n * down c + m * up a) = omega (arith, ints, mul_parts m a, mul_parts m b, mul_parts n c) in
    let l = same_value (down a) (up b) (up c) (down b) (down c) (up a) n m n' m' p q k in
    omega (arith, ints, mul_parts m' a, mul_parts m' b, mul_parts n' c)

crossed_same : (low high origin d : ℤ) (n m n' m' : ℕ) → 0 < m → n * m' ≡ n' * m → IsCrossed low high origin d n m → IsCrossed low high origin d n' m'
crossed_same low high origin d n m n' m' p q h = record {
  above = above_same low origin d n m n' m' p q h.above;
  below = below_same high origin d n m n' m' p q h.below;
}

-- a box is hit at all fractions of one value, or at none
pub hit_same : (b : Bounds) (r : RayView) (n m n' m' : ℕ) → 0 < m → n * m' ≡ n' * m → IsHit b r n m → IsHit b r n' m'
hit_same b r n m n' m' p q h = record {
  x = crossed_same b.low.x b.high.x r.origin.x r.dir.x n m n' m' p q h.x;
  y = crossed_same b.low.y b.high.y r.origin.y r.dir.y n m n' m' p q h.y;
  z = crossed_same b.low.z b.high.z r.origin.z r.dir.z n m n' m' p q h.z;
}

never_both : (p q : List ℕ) → IsPathBefore p q → IsPathBefore q p → ⊥
never_both [] [] h k = h
never_both [] (y ∷ q) h k = k
never_both (x ∷ p) [] h k = h
never_both (x ∷ p) (y ∷ q) (inl h) (inl k) = omega arith
never_both (x ∷ p) (y ∷ q) (inl h) (inr k) = omega (arith, k.0)
never_both (x ∷ p) (y ∷ q) (inr h) (inl k) = omega (arith, h.0)
never_both (x ∷ p) (y ∷ q) (inr h) (inr k) = never_both p q h.1 k.1

both_up_to : (p q : List ℕ) → IsPathUpTo p q → IsPathUpTo q p → p ≡ q
both_up_to p q (inl e) k = e
both_up_to p q (inr h) (inl e) = sym e
both_up_to p q (inr h) (inr k) = absurd (never_both p q h k)

reached_box : (ray : RayView) (hit : Hit) (P : Placed → Type 0) (bs : List Placed) → AllByRecursion P bs → IsReached ray hit bs → (b : Placed) × ((b.path ≡ hit.path) × IsHit b.bounds ray hit.n hit.m × P b)
reached_box ray hit P [] a h = absurd h
reached_box ray hit P (b ∷ bs) a (inl h) = (b, (h.0, h.1, a.0))
reached_box ray hit P (b ∷ bs) a (inr h) = reached_box ray hit P bs a.1 h

pub one_nearest : (ray : RayView) (bs : List Placed) (h k : Hit) → IsNearest ray bs h → IsNearest ray bs k → (h.path ≡ k.path) × (h.n * k.m ≡ k.n * h.m)
one_nearest ray bs h k p q =
    let (b, x) = reached_box ray h (IsNotBehind ray k) bs q.none_before p.reached in
    let (c, y) = reached_box ray k (IsNotBehind ray h) bs p.none_before q.reached in
    let l = x.2.first h.n h.m p.positive x.1 in
    let g = y.2.first k.n k.m q.positive y.1 in
    let e : h.n * k.m ≡ k.n * h.m = omega arith in
    let e' : k.n * h.m ≡ h.n * k.m = omega arith in
    let there : IsPathUpTo h.path k.path = subst (λ z. IsPathUpTo h.path z) y.0 (y.2.least (hit_same c.bounds ray k.n k.m h.n h.m q.positive e' y.1)) in
    let back : IsPathUpTo k.path h.path = subst (λ z. IsPathUpTo k.path z) x.0 (x.2.least (hit_same b.bounds ray h.n h.m k.n k.m p.positive e x.1)) in
    (both_up_to h.path k.path there back, e)
