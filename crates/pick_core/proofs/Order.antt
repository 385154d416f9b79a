-- The boxes of a scene stand in the order of their paths.
use Rattle.std.proofs.Common.{ℕ, zero, suc, ◌+◌, ◌≤◌, inl, inr, ℤ, List, [], ◌∷◌, ◌++◌, map, Option, Some, None, refl, arith}
use Rattle.std.specs.List.{AllByRecursion}
use Rattle.std.specs.Prelude.{slice_get}
use Rattle.x3d_values.specs.declared.fields.Fields.{Fields}
use Rattle.scene_core.specs.Scene.{SceneView}
use Rattle.pick_core.specs.Boxes.{Placed, under, inside, boxes, layer, shown, shown_child}
use Rattle.pick_core.specs.Looks.{kind_of, listed, choice_of}
use Rattle.pick_core.specs.Nearest.{IsPathBefore}
use Rattle.pick_core.specs.Spread.{spread}
use Rattle.pick_core.specs.declared.look.Role.{Role}
use Rattle.pick_core.specs.declared.look.Role.TheVariants.{Group, Transform, Switch, Shape, Other}
use Rattle.pick_core.specs.declared.trail.Place.{Place}
use Rattle.pick_core.proofs.Picking.{AreInOrder, each-append, each-weaker}

-- the path begins at or behind a position
abbrev BeginsFrom : ℕ → List ℕ → Type 0
BeginsFrom k [] = ⊥
BeginsFrom k (p ∷ ps) = k ≤ p

later_before : (k : ℕ) (ps qs : List ℕ) → BeginsFrom (k + 1) qs → IsPathBefore (k ∷ ps) qs
later_before k ps [] h = absurd h
later_before k ps (q ∷ qs) h = inl (omega arith)

earlier_from : (k : ℕ) (ps : List ℕ) → BeginsFrom (k + 1) ps → BeginsFrom k ps
earlier_from k [] h = absurd h
earlier_from k (p ∷ ps) h = omega arith

module _ (scene : SceneView) (state : List Fields) where
  under-from : (k node : ℕ) (bs : List Placed) → AllByRecursion (λ (b : Placed). BeginsFrom k b.path) (map (under scene state k node) bs)
  under-from k node [] = tt
  under-from k node (b ∷ bs) = (omega arith, under-from k node bs)

  spread-from : (f : ℕ → List Placed) (k : ℕ) (nodes : List ℕ) → AllByRecursion (λ (b : Placed). BeginsFrom k b.path) (spread (under scene state) f k nodes)
  unfolding spread
  spread-from f k [] = tt
  spread-from f k (node ∷ nodes) =
      each-append (λ (b : Placed). BeginsFrom k b.path) (map (under scene state k node) (f node)) (spread (under scene state) f (k + 1) nodes) (under-from k node (f node))
      (each-weaker (λ (b : Placed). BeginsFrom (k + 1) b.path) (λ (b : Placed). BeginsFrom k b.path) (λ b h. earlier_from k b.path h) (spread (under scene state) f (k + 1) nodes) (spread-from f (k + 1) nodes))

  before-under : (k node : ℕ) (b : Placed) (bs : List Placed) → AllByRecursion (λ (c : Placed). IsPathBefore b.path c.path) bs → AllByRecursion (λ (c : Placed). IsPathBefore (k ∷ b.path) c.path) (map (under scene state k node) bs)
  before-under k node b [] h = tt
  before-under k node b (c ∷ bs) h = (inr (refl, h.0), before-under k node b bs h.1)

  order-under : (k node : ℕ) (bs : List Placed) → AreInOrder bs → AreInOrder (map (under scene state k node) bs)
  order-under k node [] h = tt
  order-under k node (b ∷ bs) h = (before-under k node b bs h.0, order-under k node bs h.1)

  order-append : (k node : ℕ) (bs rest : List Placed) → AreInOrder (map (under scene state k node) bs) → AllByRecursion (λ (b : Placed). BeginsFrom (k + 1) b.path) rest → AreInOrder rest → AreInOrder (map (under scene state k node) bs ++ rest)
  order-append k node [] rest o f r = r
  order-append k node (b ∷ bs) rest o f r = (
    each-append (λ (c : Placed). IsPathBefore (k ∷ b.path) c.path) (map (under scene state k node) bs) rest o.0 (each-weaker (λ (c : Placed). BeginsFrom (k + 1) c.path) (λ (c : Placed). IsPathBefore (k ∷ b.path) c.path) (λ c h. later_before k b.path c.path h) rest f),
    order-append k node bs rest o.1 f r,
  )

  order-spread : (f : ℕ → List Placed) (k : ℕ) (nodes : List ℕ) → ((node : ℕ) → AreInOrder (f node)) → AreInOrder (spread (under scene state) f k nodes)
  unfolding spread
  order-spread f k [] h = tt
  order-spread f k (node ∷ nodes) h =
      order-append k node (f node) (spread (under scene state) f (k + 1) nodes) (order-under k node (f node) (h node)) (spread-from f (k + 1) nodes) (order-spread f (k + 1) nodes h)

  order-shown : (f : ℕ → List Placed) (p : Option Place) → ((node : ℕ) → AreInOrder (f node)) → AreInOrder (shown (under scene state) f p)
  order-shown f None h = tt
  order-shown f (Some p) h = order-under p.position p.node (f p.node) (h p.node)

  order-layer : (f : ℕ → List Placed) (which : ℤ) (kind : Role) (children : List ℕ) → ((node : ℕ) → AreInOrder (f node)) → AreInOrder (layer (under scene state) f which kind children)
  order-layer f which Group children h = order-spread f 0 children h
  order-layer f which Transform children h = order-spread f 0 children h
  order-layer f which Switch children h = order-shown f (shown_child children which) h
  order-layer f which (Shape None) children h = tt
  order-layer f which (Shape (Some size)) children h = (tt, tt)
  order-layer f which Other children h = tt

  order-inside : (depth node : ℕ) → AreInOrder (inside scene state depth node)
  unfolding inside
  order-inside zero node = tt
  order-inside (suc depth) node =
      order-layer (inside scene state depth) (choice_of (slice_get state node)) (kind_of scene node) (listed scene node) (λ child. order-inside depth child)

  pub order-boxes : AreInOrder (boxes scene state)
  unfolding boxes
  order-boxes = order-spread (inside scene state 64) 0 scene.roots (λ node. order-inside 64 node)
