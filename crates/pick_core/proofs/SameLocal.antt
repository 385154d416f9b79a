-- Where a hit lies depends on the value of its fraction, and not on its terms.
use Rattle.std.proofs.Common.{◌≡◌, ◌∙◌, ℕ, zero, suc, ◌+◌, ◌*◌, ◌/◌, ◌%◌, ◌<◌, ◌≤◌, ℤ, pos, negsuc, neg_ℤ, ◌+ℤ◌, ◌*ℤ◌, ◌<ℤ◌, List, None, sym, ap, inl, inr, arith}
use Rattle.std.specs.Int.{int_div_euclid}
use Rattle.std.proofs.Math.Nat.{mul-le-mul_right}
use Rattle.std.proofs.lemmas.Bool.{cases_lt}
use Rattle.std.proofs.lemmas.Int.{ints}
use Rattle.std.proofs.lemmas.Nat.{mul-le}
use Rattle.x3d_values.specs.declared.fields.Fields.{Fields}
use Rattle.x3d_values.specs.declared.vector.Vec3.{Vec3}
use Rattle.x3d_values.specs.Pointing.{RayView}
use Rattle.scene_core.specs.Scene.{SceneView}
use Rattle.pick_core.specs.Local.{reached, point_along, local_along, or_world, local_of}
use Rattle.pick_core.specs.Motion.{clamped}
use Rattle.pick_core.specs.declared.hit.Hit.{Hit}
use Rattle.pick_rules.proofs.Fractions.{slope_backward}

parts : (a b : ℕ) → 0 < b → a / b * b + a % b ≡ a
parts a b h = grind arith

rest_small : (a b : ℕ) → 0 < b → a % b < b
rest_small a b h = grind arith

-- the quotient of a fraction below another is not above it; both are less by the same
quotient_up_to : (less a a' m m' : ℕ) → 0 < m → 0 < m' → less ≤ 1 → (a + less) * m' ≤ (a' + less) * m → a / m ≤ a' / m'
quotient_up_to less a a' m m' p p' l h = elim (cases_lt (a' / m') (a / m)) [
  | inl k ↦ absurd (
      let e = parts a m p in
      let e' = parts a' m' p' in
      let r' = rest_small a' m' p' in
      let low : (a / m * m) * m' ≤ a * m' = mul-le-mul_right m' (omega arith) in
      let step : (a' / m' + 1) * m' ≤ (a / m) * m' = mul-le-mul_right m' (omega arith) in
      let high : a' + 1 ≤ (a / m) * m' = omega arith in
      let far : (a' + 1) * m ≤ ((a / m) * m') * m = mul-le-mul_right m high in
      below less a a' m m' (a / m) p p' l low far h
      )
  | inr k ↦ k
]
  where
    below : (less a a' m m' q : ℕ) → 0 < m → 0 < m' → less ≤ 1 → (q * m) * m' ≤ a * m' → (a' + 1) * m ≤ (q * m') * m → (a + less) * m' ≤ (a' + less) * m → ⊥
    below zero a a' m m' q p p' l low far h = omega arith
    below (suc zero) a a' m m' q p p' l low far h = omega arith
    below (suc (suc n)) a a' m m' q p p' l low far h = omega arith

both : (a b : ℕ) → a ≤ b → b ≤ a → a ≡ b
both a b h k = omega arith

same_quotient : (less a a' m m' : ℕ) → 0 < m → 0 < m' → less ≤ 1 → (a + less) * m' ≡ (a' + less) * m → a / m ≡ a' / m'
same_quotient less a a' m m' p p' l e =
    both (a / m) (a' / m') (quotient_up_to less a a' m m' p p' l (omega arith)) (quotient_up_to less a' a m' m p' p l (omega arith))

never_positive : (a m : ℕ) → 0 < m → 0 ≡ suc a * m → ⊥
never_positive a m p e =
    let w : 1 * 1 ≤ suc a * m = mul-le 1 1 (suc a) m (omega arith) p in omega arith

same_negative : (a a' m m' : ℕ) → 0 < m → 0 < m' → a * m' ≡ a' * m → int_div_euclid (neg_ℤ (pos a)) (pos m) ≡ int_div_euclid (neg_ℤ (pos a')) (pos m')
same_negative zero zero m m' p p' e = ap (λ q. pos q) (same_quotient 0 0 0 m m' p p' (omega arith) (omega arith))
same_negative zero (suc a') m m' p p' e = absurd (never_positive a' m p (omega arith))
same_negative (suc a) zero m m' p p' e = absurd (never_positive a m' p' (omega arith))
same_negative (suc a) (suc a') m m' p p' e = ap (λ q. negsuc q) (same_quotient 1 a a' m m' p p' (omega arith) (omega arith))

back-is : (n k : ℕ) → pos n *ℤ negsuc k ≡ neg_ℤ (pos (n * suc k))
back-is n k =
    let h : negsuc k <ℤ pos 0 = omega (arith, ints) in
    let e = slope_backward n (negsuc k) h in
    omega (arith, ints)

same_way : (d : ℤ) (n m n' m' : ℕ) → 0 < m → 0 < m' → n * m' ≡ n' * m → int_div_euclid (pos n *ℤ d) (pos m) ≡ int_div_euclid (pos n' *ℤ d) (pos m')
same_way (pos k) n m n' m' p p' e =
    let f : (n * m') * k ≡ (n' * m) * k = ap (λ x. x * k) e in
    ap (λ q. pos q) (same_quotient 0 (n * k) (n' * k) m m' p p' (omega arith) (omega arith))
same_way (negsuc k) n m n' m' p p' e =
    let f : (n * m') * suc k ≡ (n' * m) * suc k = ap (λ x. x * suc k) e in
    ap (λ z. int_div_euclid z (pos m)) (back-is n k) ∙ (same_negative (n * suc k) (n' * suc k) m m' p p' (omega arith) ∙ ap (λ z. int_div_euclid z (pos m')) (sym (back-is n' k)))

same_reached : (origin d : ℤ) (n m n' m' : ℕ) → 0 < m → 0 < m' → n * m' ≡ n' * m → reached origin d n m ≡ reached origin d n' m'
unfolding reached
same_reached origin d n m n' m' p p' e = ap (λ z. clamped (origin +ℤ z)) (same_way d n m n' m' p p' e)

same_point : (ray : RayView) (n m n' m' : ℕ) → 0 < m → 0 < m' → n * m' ≡ n' * m → point_along ray n m ≡ point_along ray n' m'
unfolding point_along
same_point ray n m n' m' p p' e =
    let x = same_reached ray.origin.x ray.dir.x n m n' m' p p' e in
    let y = same_reached ray.origin.y ray.dir.y n m n' m' p p' e in
    let z = same_reached ray.origin.z ray.dir.z n m n' m' p p' e in
    let make : ℤ → ℤ → ℤ → Vec3 = λ a b c. record { x = a; y = b; z = c } in
    ap (λ a. make a (reached ray.origin.y ray.dir.y n m) (reached ray.origin.z ray.dir.z n m)) x
    ∙ (ap (λ b. make (reached ray.origin.x ray.dir.x n' m') b (reached ray.origin.z ray.dir.z n m)) y
    ∙ ap (λ c. make (reached ray.origin.x ray.dir.x n' m') (reached ray.origin.y ray.dir.y n' m') c) z)

pub one_local : (scene : SceneView) (state : List Fields) (ray : RayView) (sensor : ℕ) (h k : Hit) → 0 < h.m → 0 < k.m → h.path ≡ k.path → h.n * k.m ≡ k.n * h.m → local_of scene state h ray sensor ≡ local_of scene state k ray sensor
unfolding local_of
one_local scene state ray sensor h k p q path e =
    let from : List ℕ → Vec3 → Vec3 = λ ps at. or_world (local_along scene state sensor None ps at) at in
    ap (λ ps. from ps (point_along ray h.n h.m)) path ∙ ap (from k.path) (same_point ray h.n h.m k.n k.m p q e)
