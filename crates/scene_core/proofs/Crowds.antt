-- The sensors of a list don't become fewer.
use Rattle.std.proofs.Common.{◌≡◌, ℕ, ◌+◌, ◌<◌, ◌≤◌, Bool, true, false, List, [], ◌∷◌, ◌++◌, ◌∙◌, ap, sym, arith, drop, length, length-append, get_or, if◌then◌else◌}
use Rattle.std.specs.Prelude.{nat_lt, ◌==◌}
use Rattle.std.specs.List.{fold, list_any}
use Rattle.std.proofs.lemmas.List.{at_drop_more}
use Rattle.scene_core.specs.declared.scene.SceneNode.{SceneNode}
use Rattle.scene_core.specs.Places.{with_sensor, is_sensor, sensors_in, is_crowded}

chosen : (a b : Bool) (ns : List ℕ) (n : ℕ) → length ns ≤ length (if a then (if b then ns else ns ++ n ∷ []) else ns)
chosen false b ns n = omega arith
chosen true true ns n = omega arith
chosen true false ns n = omega (arith, length-append ns (n ∷ []))

pub under : (a b : List ℕ) → length a ≤ 64 → b ≡ a → false ≡ nat_lt 64 (length b)
under a b h e = rw e (grind arith)

module _ (nodes : List SceneNode) where
  more : (ns : List ℕ) (n : ℕ) → length ns ≤ length (with_sensor nodes ns n)
  more ns n = chosen (is_sensor nodes n) (list_any (λ m. m == n) ns) ns n

  all_more : (ns rest : List ℕ) → length ns ≤ length (fold (with_sensor nodes) ns rest)
  all_more ns [] = omega arith
  all_more ns (n ∷ rest) = omega (arith, more ns n, all_more (with_sensor nodes ns n) rest)

  over : (a b : List ℕ) → 64 < length a → b ≡ a → true ≡ nat_lt 64 (length b)
  over a b h e = rw e (grind arith)

  pub full : (list ns : List ℕ) (i d : ℕ) → i < length list → sensors_in nodes list ≡ fold (with_sensor nodes) ns (drop i list) →
      64 < length (with_sensor nodes ns (get_or list i d)) → true ≡ is_crowded nodes list
  full list ns i d h e l =
      let step = at_drop_more (fold (with_sensor nodes) ns) list i d h in
      over (fold (with_sensor nodes) (with_sensor nodes ns (get_or list i d)) (drop (i + 1) list)) (sensors_in nodes list)
      (omega (arith, l, all_more (with_sensor nodes ns (get_or list i d)) (drop (i + 1) list))) (e ∙ step)

  pub next : (list ns more : List ℕ) (i d : ℕ) → i < length list → sensors_in nodes list ≡ fold (with_sensor nodes) ns (drop i list) →
      more ≡ with_sensor nodes ns (get_or list i d) → sensors_in nodes list ≡ fold (with_sensor nodes) more (drop (i + 1) list)
  next list ns more i d h e m =
      e ∙ at_drop_more (fold (with_sensor nodes) ns) list i d h ∙ ap (λ (s : List ℕ). fold (with_sensor nodes) s (drop (i + 1) list)) (sym m)
