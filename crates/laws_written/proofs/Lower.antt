-- The nodes in a node of a scene have lower numbers: one that hasn't would be in a chain that comes
-- back to it, and no chain of a scene is that long.
use Rattle.std.proofs.Common.{◌≡◌, ℕ, zero, suc, ◌+◌, ◌<◌, ◌≤◌, Bool, true, false, ◌||◌, List, [], ◌∷◌, ◌++◌, length, map, Option, Some, None, slice_get, refl, sym, ap, subst, ◌∙◌, ◌⊎◌, inl, inr, arith, true≢false}
use Rattle.std.specs.Prelude.{slice_index_or}
use Rattle.std.specs.List.{AllByRecursion, flat_map, list_any}
use Rattle.std.specs.Option.{option_and_then, option_map_or}
use Rattle.x3d_values.specs.declared.value.Value.{Value}
use Rattle.x3d_values.specs.Ranges.{max_depth}
use Rattle.proto_flat.specs.declared.flat.Flat.{Flat}
use Rattle.proto_flat.specs.declared.flat.FlatNode.{FlatNode}
use Rattle.scene_core.specs.declared.numbering.Numbering.{Numbering}
use Rattle.scene_core.specs.declared.scene.SceneNode.{SceneNode}
use Rattle.scene_core.specs.Deep.{deeper_than, leads_to, linked}
use Rattle.scene_core.specs.Parts.{parts, parts_of}
use Rattle.scene_core.specs.Scene.{SceneView, value_at}
use Rattle.scene_values.specs.Typing.{called}
use Rattle.laws_written.specs.Children.{ChildrenAreLower, children}
use Rattle.laws_written.proofs.Inner.{IsInner, children_are}
use Rattle.laws_written.proofs.NumberedLists.{In, all_in, in_append, in_back, in_front, in_map, index_is, map_in, some_is, within}
use Rattle.laws_written.proofs.NumberedScenes.{IsMade, IsSceneOf, alone_in, found, label_in, numbers_of, scene_is}
use Rattle.laws_written.proofs.Visits.{Edge, Has, Placed, Way, one_further}

-- ---- nodes that a node links to

in_field : (values : List (Option Value)) (field m : ℕ) → In m (linked (option_and_then (λ v. v) (slice_get values field))) → In m (flat_map linked values)
in_field [] field m n = absurd n
in_field (v ∷ values) zero m n = in_front m (linked v) (flat_map linked values) n
in_field (v ∷ values) (suc field) m n = in_back m (linked v) (flat_map linked values) (in_field values field m n)

neither : (a b : Bool) → (a || b) ≡ false → (a ≡ false) × (b ≡ false)
neither false b h = (refl, h)
neither true b h = absurd cc

none_in : (these : List Bool) (ns : List ℕ) → list_any (λ n. slice_index_or these n false) ns ≡ false → (m : ℕ) → In m ns → slice_index_or these m false ≡ false
none_in these [] h m n = absurd n
none_in these (k ∷ ns) h m (inl e) =
    subst (λ (j : ℕ). slice_index_or these j false ≡ false) (sym e) (neither (slice_index_or these k false) (list_any (λ n. slice_index_or these n false) ns) h).0
none_in these (k ∷ ns) h m (inr n) =
    none_in these ns (neither (slice_index_or these k false) (list_any (λ n. slice_index_or these n false) ns) h).1 m n

none_linked : (these : List Bool) (values : List (Option Value)) → list_any (λ v. list_any (λ n. slice_index_or these n false) (linked v)) values ≡ false
    → (m : ℕ) → In m (flat_map linked values) → slice_index_or these m false ≡ false
none_linked these [] h m n = absurd n
none_linked these (v ∷ values) h m n =
    let parted = neither (list_any (λ n. slice_index_or these n false) (linked v)) (list_any (λ v. list_any (λ n. slice_index_or these n false) (linked v)) values) h in
    by_side (none_linked these values parted.1 m) parted.0 (in_append m (linked v) (flat_map linked values) n) where
      by_side : (In m (flat_map linked values) → slice_index_or these m false ≡ false) → list_any (λ n. slice_index_or these n false) (linked v) ≡ false
          → In m (linked v) ⊎ In m (flat_map linked values) → slice_index_or these m false ≡ false
      by_side more first (inl k) = none_in these (linked v) first m k
      by_side more first (inr k) = more k

-- ---- chains of nodes of a scene

map_index : {A B : Type 0} (f : A → B) (xs : List A) (n : ℕ) (x : A) (d : B) → slice_get xs n ≡ Some x → slice_index_or (map f xs) n d ≡ f x
map_index f [] n x d e = absurd cc
map_index f (y ∷ ys) zero x d e = ap f (some_is y x e)
map_index f (y ∷ ys) (suc n) x d e = map_index f ys n x d e

all_deep : (nodes : List SceneNode) (n : ℕ) (node : SceneNode) → slice_get nodes n ≡ Some node → slice_index_or (deeper_than nodes 0) n false ≡ true
unfolding deeper_than
all_deep nodes n node at = map_index (λ (m : SceneNode). true) nodes n node false at

leads_are : (nodes : List SceneNode) (depth n : ℕ) (node : SceneNode) → slice_get nodes n ≡ Some node
    → slice_index_or (deeper_than nodes (suc depth)) n false ≡ leads_to (deeper_than nodes depth) node
unfolding deeper_than
leads_are nodes depth n node at = map_index (leads_to (deeper_than nodes depth)) nodes n node false at

none_deep : (bs : List Bool) (n : ℕ) → list_any (λ b. b) bs ≡ false → slice_index_or bs n false ≡ false
none_deep [] n h = refl
none_deep (b ∷ bs) zero h = (neither b (list_any (λ b. b) bs) h).0
none_deep (b ∷ bs) (suc n) h = none_deep bs n (neither b (list_any (λ b. b) bs) h).1

-- ---- ways in a document

module _ (nodes : List FlatNode) where
  -- no way from the node is as long
  abbrev Short : ℕ → ℕ → Type 0
  Short zero x = ⊥
  Short (suc depth) x = (y : ℕ) → Edge nodes x y → Short depth y

  down : (k depth x z : ℕ) → Way nodes k x z → Short depth x → (left : ℕ) × (left + k ≡ depth) × Short left z
  down zero depth x z w h = (depth, omega arith, subst (Short depth) w h)
  down (suc k) zero x z w h = absurd h
  down (suc k) (suc depth) x z w h =
      let r = down k depth w.0 z w.2 (h w.0 w.1) in
      let e : r.0 + suc k ≡ suc depth = omega (arith, r.1) in
      (r.0, e, r.2)

  no_way_back : (most depth k x : ℕ) → depth ≤ most → Way nodes (suc k) x x → Short depth x → ⊥
  no_way_back zero zero k x l w h = h
  no_way_back zero (suc depth) k x l w h = omega (arith, l)
  no_way_back (suc most) depth k x l w h =
      let r = down (suc k) depth x x w h in no_way_back most r.0 k x (omega (arith, r.1, l)) w r.2

moved : (made node : SceneNode) (m : ℕ) → made ≡ node → In m (children node) → In m (children made)
moved made node m e k = subst (λ (o : SceneNode). In m (children o)) (sym e) k

-- ---- a scene and its document

module _ (flat : Flat) (scene : SceneView) (h : IsSceneOf flat scene) where
  abbrev S : Numbering
  S = numbers_of flat

  -- a node in a node that has a number has one
  pub inside_has : (i x y : ℕ) → slice_get S.order i ≡ Some x → Edge flat.nodes x y → Has S y
  inside_has i x y at e = by_list (h.state.state.listed y (h.state.state.inside i x y at e).0 e.1) where
    by_list : In y [] ⊎ Has S y → Has S y
    by_list (inl n) = absurd n
    by_list (inr n) = n

  pub called_is : (j y : ℕ) → slice_get S.order j ≡ Some y → called S.numbers y ≡ j
  called_is j y at = index_is S.numbers y j 0 (h.state.state.numbered j y at).0

  pub low : (x : ℕ) → Has S x → called S.numbers x < length scene.nodes
  low x n =
      let l = within S.order n.0 x n.1 in
      let e = called_is n.0 x n.1 in
      omega (arith, l, e, h.many)

  -- roots and helpers have numbers
  pub root_has : (x : ℕ) → In x (flat.roots ++ flat.helpers) → Has S x
  root_has x n = by_list (h.state.state.listed x (h.state.seen x n) (by_side (in_append x flat.roots flat.helpers n))) where
    by_side : In x flat.roots ⊎ In x flat.helpers → x < length flat.nodes
    by_side (inl m) = h.roots_low x m
    by_side (inr m) = h.helpers_low x m

    by_list : In x [] ⊎ Has S x → Has S x
    by_list (inl m) = absurd m
    by_list (inr m) = m

  called_low : (xs : List ℕ) → ((x : ℕ) → In x xs → Has S x) → AllByRecursion (λ (n : ℕ). n < length scene.nodes) (map (called S.numbers) xs)
  called_low [] k = tt
  called_low (x ∷ xs) k = (low x (k x (inl refl)), called_low xs (λ y n. k y (inr n)))

  pub roots_low : AllByRecursion (λ (n : ℕ). n < length scene.nodes) scene.roots
  roots_low =
      subst (AllByRecursion (λ (n : ℕ). n < length scene.nodes)) (sym h.roots)
      (called_low flat.roots (λ x n. root_has x (in_front x flat.roots flat.helpers n)))

  pub helpers_low : AllByRecursion (λ (n : ℕ). n < length scene.nodes) scene.helpers
  helpers_low =
      subst (AllByRecursion (λ (n : ℕ). n < length scene.nodes)) (sym h.helpers)
      (called_low flat.helpers (λ x n. root_has x (in_back x flat.roots flat.helpers n)))

  pub inner : (i x : ℕ) (m : IsMade flat.nodes S.numbers (alone_in flat) scene.nodes i x) → IsInner flat.nodes S.numbers (children m.node) (parts_of flat.nodes x)
  unfolding parts_of
  inner i x m =
      subst (λ (o : Option FlatNode). IsInner flat.nodes S.numbers (children m.node) (option_map_or parts o [])) (sym m.flat_is)
      (children_are flat.nodes S.numbers (label_in flat i) m.flat m.node m.made)

  shorts : (depth i x : ℕ) → slice_get S.order i ≡ Some x → slice_index_or (deeper_than scene.nodes depth) i false ≡ false → Short flat.nodes depth x
  shorts zero i x at d = let m = h.each i x at in absurd (true≢false (sym (all_deep scene.nodes i m.node m.node_is) ∙ d))
  shorts (suc depth) i x at d = λ y e.
      let m = h.each i x at in
      let has = inside_has i x y at e in
      let none : leads_to (deeper_than scene.nodes depth) m.node ≡ false = sym (leads_are scene.nodes depth i m.node m.node_is) ∙ d in
      let child : In (called S.numbers y) (children m.node) =
      subst (λ (l : List ℕ). In (called S.numbers y) l) (sym (inner i x m).linked_are) (map_in (called S.numbers) y (parts_of flat.nodes x) e.0) in
      let told = none_linked (deeper_than scene.nodes depth) m.node.values none (called S.numbers y) child in
      shorts depth has.0 y has.1 (subst (λ (k : ℕ). slice_index_or (deeper_than scene.nodes depth) k false ≡ false) (called_is has.0 y has.1) told)

  -- the number of a node in a node
  inside_lower : (i x y : ℕ) → slice_get S.order i ≡ Some x → Edge flat.nodes x y → called S.numbers y < i
  inside_lower i x y at e = by_place (h.state.state.inside i x y at e).1 where
    has : Has S y
    has = inside_has i x y at e

    by_place : Placed flat.nodes S i x y → called S.numbers y < i
    by_place (inl p) = subst (λ (k : ℕ). k < i) (sym (called_is p.0 y p.2)) p.1
    by_place (inr w) =
        absurd (no_way_back flat.nodes max_depth max_depth w.0 y (omega arith) (one_further flat.nodes w.0 y x y w.1 e)
        (shorts max_depth has.0 y has.1 (none_deep (deeper_than scene.nodes max_depth) has.0 h.shallow)))

  node_lower : (n m : ℕ) (node : SceneNode) → slice_get scene.nodes n ≡ Some node → In m (children node) → m < n
  node_lower n m node at k =
      let f = found S.order n (let l = within scene.nodes n node at in omega (arith, l, h.many)) in
      let made = h.each n f.0 f.1 in
      let same : made.node ≡ node = some_is made.node node (sym made.node_is ∙ at) in
      let i = inner n f.0 made in
      let from = in_map (called S.numbers) m (parts_of flat.nodes f.0) (subst (λ (l : List ℕ). In m l) i.linked_are (moved made.node node m same k)) in
      subst (λ (j : ℕ). j < n) {x = called S.numbers from.0} (sym {b = called S.numbers from.0} from.2) (inside_lower n f.0 from.0 f.1 (from.1, i.valid from.0 from.1))

  abbrev field_of : ℕ → Option SceneNode → Option Value
  field_of field o = option_and_then (λ (node : SceneNode). option_and_then (λ v. v) (slice_get node.values field)) o

  lower_at : (n field : ℕ) (o : Option SceneNode) → slice_get scene.nodes n ≡ o → (m : ℕ) → In m (linked (field_of field o)) → m < n
  lower_at n field None e m k = absurd k
  lower_at n field (Some node) e m k = node_lower n m node e (in_field node.values field m k)

pub children_lower : ChildrenAreLower
children_lower flat scene is n field =
    all_in (λ (m : ℕ). m < n) (linked (value_at scene n field))
    (λ m k. lower_at flat scene (scene_is flat scene is) n field (slice_get scene.nodes n) refl m k)
