-- Which nodes have appeared in the text is which have appeared in the numbering.
use Rattle.std.proofs.Common.{◌≡◌, ℕ, zero, suc, ◌+◌, ◌<◌, ◌≤◌, Bool, true, false, not, if◌then◌else◌, List, [], ◌∷◌, ◌++◌, length, map, replicate, Option, Some, None, slice_get, slice_set, refl, sym, ap, subst, ◌∙◌, arith, append-nil}
use Rattle.std.specs.Prelude.{option_map, slice_index_or}
use Rattle.std.specs.List.{AllByRecursion, flat_map, fold}
use Rattle.std.specs.Option.{option_and_then}
use Rattle.std.proofs.lemmas.List.{length-replicate}
use Rattle.std.proofs.lemmas.List.Sums.{fold-append}
use Rattle.std.proofs.lemmas.Option.{slice_get-map}
use Rattle.x3d_values.specs.declared.node_type.NodeType.{NodeType}
use Rattle.x3d_values.specs.declared.value.Value.{Value}
use Rattle.x3d_values.specs.declared.value.Value.TheVariants as value
use Rattle.x3d_values.specs.Ranges.{max_depth}
use Rattle.x3d_values.specs.Values.{nodes_of}
use Rattle.classic_tree.specs.declared.tree.BodyItem.{BodyItem}
use Rattle.classic_tree.specs.declared.tree.NodeText.{NodeText}
use Rattle.proto_flat.specs.declared.flat.Flat.{Flat}
use Rattle.proto_flat.specs.declared.flat.FlatNode.{FlatNode}
use Rattle.scene_core.specs.declared.numbering.Numbering.{Numbering}
use Rattle.scene_core.specs.declared.scene.SceneNode.{SceneNode}
use Rattle.scene_core.specs.Deep.{linked}
use Rattle.scene_core.specs.Numbers.{appear, close, is_new, numbering, unnumbered, visit}
use Rattle.scene_core.specs.Parts.{parts_of}
use Rattle.scene_core.specs.Scene.{value_at}
use Rattle.scene_core.specs.Tasks.{unopened}
use Rattle.scene_core.proofs.Fuel.{visit-new, visit-old}
use Rattle.scene_text.specs.Statements.{helpers_of, root_tree, roots_of}
use Rattle.scene_text.specs.Tree.{Declared, Makes, Plain, PlanView, Shown, Grows, each, field_tree, node_tree, one_more, opened, shown_fields, value_tree}
use Rattle.laws_written.specs.Children.{children}
use Rattle.laws_written.proofs.NumberedLists.{length_set, some_is, within}
use Rattle.laws_written.proofs.Lower.{children_lower, helpers_low, roots_low}
use Rattle.laws_written.proofs.NumberedScenes.{IsSceneOf, found, label_in, numbers_of, scene_is}
use Rattle.laws_written.proofs.Visits.{full, unopened_few}
use Rattle.laws_written.specs.Writable.{IsShallow}
use Rattle.laws_written.proofs.Chains.{IsClosedNode, all_shallow}
use Rattle.laws_written.proofs.Lists.{all_weaker}
use Rattle.laws_written.specs.Order.{HelpersInOrder, IsWritten, NodesInOrder, RootsInOrder}
use Rattle.laws_written.proofs.OrderFields.{HasValues, has_values}
use Rattle.laws_written.proofs.OrderShown.{links, shown_links}

-- ---- facts of all items

all_split : {A : Type 0} (P : A → Type 0) (xs ys : List A) → AllByRecursion P (xs ++ ys) → AllByRecursion P xs × AllByRecursion P ys
all_split P [] ys h = (tt, h)
all_split P (x ∷ xs) ys h = let s = all_split P xs ys h.1 in ((h.0, s.0), s.1)

all_join : {A : Type 0} (P : A → Type 0) (xs ys : List A) → AllByRecursion P xs → AllByRecursion P ys → AllByRecursion P (xs ++ ys)
all_join P [] ys h k = k
all_join P (x ∷ xs) ys h k = (h.0, all_join P xs ys h.1 k)

all_placed : {A : Type 0} (P : A → Type 0) (xs : List A) → ((n : ℕ) (x : A) → slice_get xs n ≡ Some x → P x) → AllByRecursion P xs
all_placed P [] k = tt
all_placed P (x ∷ xs) k = (k 0 x refl, all_placed P xs (λ n y at. k (suc n) y at))

all_linked : (P : ℕ → Type 0) (values : List (Option Value)) → ((field : ℕ) → AllByRecursion P (linked (option_and_then (λ v. v) (slice_get values field))))
    → AllByRecursion P (flat_map linked values)
all_linked P [] k = tt
all_linked P (v ∷ values) k = all_join P (linked v) (flat_map linked values) (k 0) (all_linked P values (λ field. k (suc field)))

-- ---- visits keep how many nodes there are

module _ (nodes : List FlatNode) where
  fold_length : (f : Numbering → ℕ → Numbering) → ((s : Numbering) (n : ℕ) → length (f s n).opened ≡ length s.opened)
      → (s : Numbering) (ns : List ℕ) → length (fold f s ns).opened ≡ length s.opened
  fold_length f k s [] = refl
  fold_length f k s (n ∷ ns) = fold_length f k (f s n) ns ∙ k s n

  visit_length : (fuel : ℕ) (s : Numbering) (n : ℕ) → length (visit fuel nodes s n).opened ≡ length s.opened
  unfolding visit
  visit_length zero s n = refl
  visit_length (suc fuel) s n = by_new (visit_length fuel) (is_new s n) where
    by_new : ((t : Numbering) (m : ℕ) → length (visit fuel nodes t m).opened ≡ length t.opened) → (b : Bool)
        → length (if b then close (fold (visit fuel nodes) (appear s n) (parts_of nodes n)) n else s).opened ≡ length s.opened
    by_new k true = fold_length (visit fuel nodes) k (appear s n) (parts_of nodes n) ∙ length_set s.opened n true
    by_new k false = refl

-- ---- what has appeared

module _ (nodes : List FlatNode) where
  abbrev F : Numbering → ℕ → Numbering
  F = full nodes

  all_length : (s : Numbering) (ns : List ℕ) → length s.opened ≡ length nodes → length (fold F s ns).opened ≡ length nodes
  all_length s ns l = fold_length nodes F (visit_length nodes (length nodes + 1)) s ns ∙ l

  one_length : (s : Numbering) (n : ℕ) → length s.opened ≡ length nodes → length (F s n).opened ≡ length nodes
  one_length s n l = visit_length nodes (length nodes + 1) s n ∙ l

  -- what is made of a node leaves what a visit leaves
  abbrev Leaves : {B : Type 0} → (ℕ → Type 0) → Makes ℕ B → Type 0
  Leaves Q make = (s : Numbering) (n : ℕ) → length s.opened ≡ length nodes → Q n → (make s.opened n).seen ≡ (F s n).opened

  -- of each in turn
  each_leaves : {B : Type 0} (Q : ℕ → Type 0) (make : Makes ℕ B) → Leaves Q make → (made : Grows (List B)) (s : Numbering) (ns : List ℕ)
      → made.seen ≡ s.opened → length s.opened ≡ length nodes → AllByRecursion Q ns → (fold (one_more make) made ns).seen ≡ (fold F s ns).opened
  each_leaves Q make k made s [] e l h = e
  each_leaves Q make k made s (n ∷ ns) e l h =
      each_leaves Q make k (one_more make made n) (F s n) ns (ap (λ (seen : List Bool). (make seen n).seen) e ∙ k s n l h.0) (one_length s n l) h.1

  module _ (Q : ℕ → Type 0) (tree : Makes ℕ NodeText) (k : Leaves Q tree) where
    abbrev none_yet : List Bool → Grows (List NodeText)
    none_yet seen = record { seen = seen; made = [] }

    value_leaves : (s : Numbering) (v : Value) → length s.opened ≡ length nodes → AllByRecursion Q (nodes_of v)
        → (value_tree tree s.opened v).seen ≡ (fold F s (nodes_of v)).opened
    value_leaves s (value.SFNode (Some n)) l h = k s n l h.0
    value_leaves s (value.MFNode []) l h = refl
    value_leaves s (value.MFNode (n ∷ ns)) l h = each_leaves Q tree k (none_yet s.opened) s (n ∷ ns) refl l h
    value_leaves s (value.SFNode None) l h = refl
    value_leaves s (value.SFBool _) l h = refl
    value_leaves s (value.SFInt32 _) l h = refl
    value_leaves s (value.SFFloat _) l h = refl
    value_leaves s (value.SFTime _) l h = refl
    value_leaves s (value.SFString _) l h = refl
    value_leaves s (value.SFVec2f _) l h = refl
    value_leaves s (value.SFVec3f _) l h = refl
    value_leaves s (value.SFColor _) l h = refl
    value_leaves s (value.MFBool _) l h = refl
    value_leaves s (value.MFInt32 _) l h = refl
    value_leaves s (value.MFFloat _) l h = refl
    value_leaves s (value.MFTime _) l h = refl
    value_leaves s (value.MFString _) l h = refl
    value_leaves s (value.MFVec2f _) l h = refl
    value_leaves s (value.MFVec3f _) l h = refl
    value_leaves s (value.MFColor _) l h = refl

    field_leaves : (s : Numbering) (f : Shown) → length s.opened ≡ length nodes → AllByRecursion Q (links f)
        → (field_tree tree s.opened f).seen ≡ (fold F s (links f)).opened
    field_leaves s (Plain name v) l h = value_leaves s v l h
    field_leaves s (Declared d None) l h = refl
    field_leaves s (Declared d (Some v)) l h = value_leaves s v l h

    fields_leave : (made : Grows (List BodyItem)) (s : Numbering) (fs : List Shown) → made.seen ≡ s.opened → length s.opened ≡ length nodes
        → AllByRecursion Q (flat_map links fs) → (fold (one_more (field_tree tree)) made fs).seen ≡ (fold F s (flat_map links fs)).opened
    fields_leave made s [] e l h = e
    fields_leave made s (f ∷ fs) e l h =
        let parted = all_split Q (links f) (flat_map links fs) h in
        fields_leave (one_more (field_tree tree) made f) (fold F s (links f)) fs
        (ap (λ (seen : List Bool). (field_tree tree seen f).seen) e ∙ field_leaves s f l parted.0) (all_length s (links f) l) parted.1
        ∙ ap (λ (t : Numbering). t.opened) (sym (fold-append F s (links f) (flat_map links fs)))

-- ---- a scene that is written

module _ (flat : Flat) (p : PlanView) (nodes : List FlatNode) (w : IsWritten flat p nodes) where
  scene : IsSceneOf flat p.scene
  scene = scene_is flat p.scene w.is_scene

  abbrev G : Numbering → ℕ → Numbering
  G = full nodes

  enough : (s : Numbering) → length s.opened ≡ length nodes → unopened s.opened ≤ length nodes
  enough s l = let k = unopened_few s.opened in omega (arith, k, l)

  inside_shallow : (depth n : ℕ) (node : SceneNode) → slice_get p.scene.nodes n ≡ Some node → IsShallow p.scene (suc depth) n
      → AllByRecursion (IsShallow p.scene depth) (children node)
  unfolding IsShallow
  inside_shallow depth n node is h =
      all_linked (IsShallow p.scene depth) node.values (λ field.
      subst (λ (o : Option SceneNode). AllByRecursion (IsShallow p.scene depth)
      (linked (option_and_then (λ (m : SceneNode). option_and_then (λ v. v) (slice_get m.values field)) o))) is (h.1 field))

  shown_is : (n : ℕ) (node : SceneNode) → slice_get p.scene.nodes n ≡ Some node → flat_map links (shown_fields p n node.node_type) ≡ children node
  shown_is n node is =
      let l = within p.scene.nodes n node is in
      let f = found (numbers_of flat).order n (omega (arith, l, scene.many)) in
      let m = scene.each n f.0 f.1 in
      let same : m.node ≡ node = some_is m.node node (sym m.node_is ∙ is) in
      shown_links p n node w.kept is m.flat
      (subst (λ (o : SceneNode). HasValues m.flat o) same (has_values flat.nodes (numbers_of flat).numbers (label_in flat n) m.flat m.node m.made))

  abbrev InOrder : ℕ → Type 0
  InOrder depth = Leaves nodes (IsShallow p.scene depth) (node_tree depth p)

  -- a node that has not appeared
  new_leaves : (depth : ℕ) → InOrder depth → (s : Numbering) (n : ℕ) (node : SceneNode) → length s.opened ≡ length nodes → slice_get p.scene.nodes n ≡ Some node
      → IsShallow p.scene (suc depth) n → is_new s n ≡ true
      → (opened p (node_tree depth p) s.opened n (Some node.node_type)).seen ≡ (G s n).opened
  new_leaves depth k s n node l is h new =
      let there : length (appear s n).opened ≡ length nodes = length_set s.opened n true ∙ l in
      let shallow : AllByRecursion (IsShallow p.scene depth) (flat_map links (shown_fields p n node.node_type)) =
      subst (AllByRecursion (IsShallow p.scene depth)) (sym (shown_is n node is)) (inside_shallow depth n node is h) in
      let written : (each (field_tree (node_tree depth p)) (slice_set s.opened n true) (shown_fields p n node.node_type)).seen
      ≡ (fold G (appear s n) (flat_map links (shown_fields p n node.node_type))).opened =
      fields_leave nodes (IsShallow p.scene depth) (node_tree depth p) k (record { seen = slice_set s.opened n true; made = [] }) (appear s n)
      (shown_fields p n node.node_type) refl there shallow in
      let inside : flat_map links (shown_fields p n node.node_type) ≡ parts_of nodes n = shown_is n node is ∙ sym (w.children n node is) in
      written
      ∙ (ap (λ (l : List ℕ). (fold G (appear s n) l).opened) inside
      ∙ ap (λ (t : Numbering). t.opened) (sym (visit-new nodes (length nodes) s n new (enough s l))))

  type_is : (n : ℕ) (node : SceneNode) → slice_get p.scene.nodes n ≡ Some node → slice_get (map (λ (m : SceneNode). m.node_type) p.scene.nodes) n ≡ Some node.node_type
  type_is n node is =
      slice_get-map (λ (m : SceneNode). m.node_type) p.scene.nodes n ∙ ap (λ (o : Option SceneNode). option_map (λ (m : SceneNode). m.node_type) o) is

  by_seen : (depth : ℕ) → InOrder depth → (s : Numbering) (n : ℕ) (b : Bool) → slice_index_or s.opened n true ≡ b → length s.opened ≡ length nodes
      → IsShallow p.scene (suc depth) n
      → (opened p (node_tree depth p) s.opened n (if b then None else slice_get (map (λ (m : SceneNode). m.node_type) p.scene.nodes) n)).seen ≡ (G s n).opened
  unfolding IsShallow
  by_seen depth k s n true e l h = ap (λ (t : Numbering). t.opened) (sym (visit-old nodes (length nodes) s n (ap not e)))
  by_seen depth k s n false e l h =
      let f = found p.scene.nodes n h.0 in
      ap (λ (o : Option NodeType). (opened p (node_tree depth p) s.opened n o).seen) (type_is n f.0 f.1)
      ∙ new_leaves depth k s n f.0 l f.1 h (ap not e)

  in_order : (depth : ℕ) → InOrder depth
  unfolding node_tree IsShallow
  in_order zero s n l h = absurd h
  in_order (suc depth) s n l h = by_seen depth (in_order depth) s n (slice_index_or s.opened n true) refl l h

  -- ---- roots and helpers

  closed : AllByRecursion (IsClosedNode (length p.scene.nodes)) p.scene.nodes
  closed = all_placed (IsClosedNode (length p.scene.nodes)) p.scene.nodes (λ n node is.
      all_placed (λ (o : Option Value). AllByRecursion (λ (m : ℕ). m < length p.scene.nodes) (linked o)) node.values
      (λ field o at. field_closed n node field o is at)) where
        field_closed : (n : ℕ) (node : SceneNode) (field : ℕ) (o : Option Value) → slice_get p.scene.nodes n ≡ Some node → slice_get node.values field ≡ Some o
            → AllByRecursion (λ (m : ℕ). m < length p.scene.nodes) (linked o)
        field_closed n node field o is at =
            let l = within p.scene.nodes n node is in
            let same : value_at p.scene n field ≡ o =
            ap (λ (q : Option SceneNode). option_and_then (λ (m : SceneNode). option_and_then (λ v. v) (slice_get m.values field)) q) is
            ∙ ap (λ (q : Option (Option Value)). option_and_then (λ v. v) q) at in
            subst (λ (q : Option Value). AllByRecursion (λ (m : ℕ). m < length p.scene.nodes) (linked q)) same
            (all_weaker (λ (m : ℕ). m < n) (λ (m : ℕ). m < length p.scene.nodes) (λ m k. omega (arith, k, l)) (linked (value_at p.scene n field))
            (children_lower flat p.scene w.is_scene n field))

  low_shallow : (ns : List ℕ) → AllByRecursion (λ (n : ℕ). n < length p.scene.nodes) ns → AllByRecursion (IsShallow p.scene max_depth) ns
  low_shallow ns h = all_weaker (λ (n : ℕ). n < length p.scene.nodes) (IsShallow p.scene max_depth) (λ n l. all_shallow p.scene closed scene.shallow n l) ns h

  run : (roots helpers : List ℕ) → numbering nodes roots helpers ≡ fold G (unnumbered nodes) (roots ++ helpers)
  unfolding numbering
  run roots helpers = refl

  roots_leave : (roots_of p).seen ≡ (fold G (unnumbered nodes) p.scene.roots).opened
  roots_leave =
      each_leaves nodes (IsShallow p.scene max_depth) (root_tree (node_tree max_depth p)) (in_order max_depth)
      (record { seen = replicate (length p.scene.nodes) false; made = [] }) (unnumbered nodes) p.scene.roots
      (ap (λ (k : ℕ). replicate k false) (sym w.many)) (length-replicate (length nodes) false) (low_shallow p.scene.roots (roots_low flat p.scene scene))

  helpers_leave : (helpers_of p (roots_of p).seen).seen ≡ (fold G (fold G (unnumbered nodes) p.scene.roots) p.scene.helpers).opened
  helpers_leave =
      each_leaves nodes (IsShallow p.scene max_depth) (node_tree max_depth p) (in_order max_depth)
      (record { seen = (roots_of p).seen; made = [] }) (fold G (unnumbered nodes) p.scene.roots) p.scene.helpers
      roots_leave (all_length nodes (unnumbered nodes) p.scene.roots (length-replicate (length nodes) false))
      (low_shallow p.scene.helpers (helpers_low flat p.scene scene))

pub nodes_in_order : NodesInOrder
nodes_in_order flat p nodes w s depth n l h = in_order flat p nodes w depth s n l h

pub roots_in_order : RootsInOrder
roots_in_order flat p nodes w =
    roots_leave flat p nodes w
    ∙ ap (λ (t : Numbering). t.opened)
    (ap (λ (l : List ℕ). fold (full nodes) (unnumbered nodes) l) (sym (append-nil p.scene.roots)) ∙ sym (run flat p nodes w p.scene.roots []))

pub helpers_in_order : HelpersInOrder
helpers_in_order flat p nodes w =
    helpers_leave flat p nodes w
    ∙ ap (λ (t : Numbering). t.opened)
    (sym (fold-append (full nodes) (unnumbered nodes) p.scene.roots p.scene.helpers) ∙ sym (run flat p nodes w p.scene.roots p.scene.helpers))
