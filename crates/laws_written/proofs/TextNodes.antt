-- The tree of a node of a writable scene is spellable.
use Rattle.std.proofs.Common.{◌≡◌, ℕ, zero, suc, ◌^◌, ◌<◌, ◌≤◌, Bool, true, false, List, [], length, take, get_or, Option, Some, None, if◌then◌else◌, slice_get, slice_set, refl, sym, ap, subst, ◌∙◌, ◌⊎◌, inl, inr, arith}
use Rattle.std.specs.Prelude.{option_map}
use Rattle.std.specs.List.{AllByRecursion}
use Rattle.std.specs.Option.{option_and_then, option_map_or}
use Rattle.std.proofs.lemmas.Option.{slice_get-map}
use Rattle.x3d_values.specs.declared.node_type.NodeType.{NodeType}
use Rattle.x3d_values.specs.declared.node_type.NodeType.TheVariants.{Script}
use Rattle.x3d_values.specs.Names.{node_type_name}
use Rattle.x3d_values.specs.Tables.{rows}
use Rattle.classic_tree.specs.declared.tree.BodyItem.{BodyItem}
use Rattle.classic_round_trip.specs.Spellable.{IsNoneOf, IsFreeName, IsNameOrNone, IsSpellableItem, IsSpellableUse, IsSpellableFull, BeginsWithNoneOf, IsSpellableNode, IsSpellableProto}
use Rattle.scene_core.specs.declared.row.DeclaredField.{DeclaredField}
use Rattle.scene_core.specs.declared.scene.SceneNode.{SceneNode}
use Rattle.scene_core.specs.Deep.{linked}
use Rattle.scene_core.specs.Scene.{SceneView, declared_at, label_or, label_of, type_at, value_at}
use Rattle.scene_core.specs.Shape.{numbered_fields, most_declared}
use Rattle.scene_text.specs.Tree.{PlanView, each, shown_from, declared_from, shown_fields, field_tree, use_tree, def_name, opened, node_tree}
use Rattle.laws_written.specs.Writable.{IsShallow, IsWritableNode, IsWritable}
use Rattle.laws_written.proofs.TextFields.{IsFitShown, field_spelled, shown_all, declared_all}
use Rattle.laws_written.proofs.Lists.{all_append, all_take, each_all, found}
use Rattle.laws_written.proofs.TextNames.{number_free, rows_free, type_free}

-- ---- labels

label_free_of : (n : ℕ) (label : Option (List ℕ)) → n < 2 ^ 64 → IsNameOrNone label → IsFreeName (label_or n label)
label_free_of n None few h = number_free n few
label_free_of n (Some name) few h = h

module _ (s : SceneView) (few : length s.nodes ≤ 2 ^ 64)
    (nodes : (n : ℕ) (node : SceneNode) → slice_get s.nodes n ≡ Some node → IsWritableNode node) where
  below : (n : ℕ) → n < length s.nodes → n < 2 ^ 64
  below n h = omega (arith, few, h)

  pub label_free : (n : ℕ) → n < length s.nodes → IsFreeName (label_of s n)
  unfolding label_of
  label_free n h =
      let f = found s.nodes n h in
      let e : option_and_then (λ (m : SceneNode). m.label) (slice_get s.nodes n) ≡ f.0.label =
      ap (λ (o : Option SceneNode). option_and_then (λ (m : SceneNode). m.label) o) f.1 in
      subst (λ (o : Option (List ℕ)). IsFreeName (label_or n o)) (sym e) (label_free_of n f.0.label (below n h) (nodes n f.0 f.1).named)

-- ---- the fields of a node

abbrev Declares : SceneNode → List DeclaredField
Declares node = numbered_fields node.node_type node.declared

no_script : (Q : ℕ → Type 0) (p : PlanView) (n number : ℕ) (t : NodeType) (node : SceneNode) → node.declared ≡ []
    → AllByRecursion (IsFitShown Q t) (declared_from p n number (Declares node))
no_script Q p n number t node e =
    subst (λ (ds : List DeclaredField). AllByRecursion (IsFitShown Q t) (declared_from p n number (numbered_fields node.node_type ds))) (sym e)
    (none_shown (most_declared node.node_type)) where
      none_shown : (k : ℕ) → AllByRecursion (IsFitShown Q t) (declared_from p n number (take k []))
      none_shown zero = tt
      none_shown (suc k) = tt

module _ (p : PlanView) (w : IsWritable p.scene p.routes p.state) where
  declared_fit : (Q : ℕ → Type 0) (n : ℕ) (node : SceneNode) (is : slice_get p.scene.nodes n ≡ Some node)
      → ((number : ℕ) → AllByRecursion Q (linked (value_at p.scene n number))) → (node.node_type ≡ Script) ⊎ (node.declared ≡ [])
      → AllByRecursion (IsFitShown Q node.node_type) (declared_from p n (length (rows node.node_type)) (Declares node))
  declared_fit Q n node is inside (inl script) =
      let h = w.nodes n node is in
      declared_all p n node Q w.kept is h.sound inside node.node_type (length (rows node.node_type)) (Declares node) script
      (all_take (λ (d : DeclaredField). IsFreeName d.name) (most_declared node.node_type) node.declared h.declared) h.held
  declared_fit Q n node is inside (inr none) = no_script Q p n (length (rows node.node_type)) node.node_type node none

  fields_fit : (Q : ℕ → Type 0) (n : ℕ) (node : SceneNode) (is : slice_get p.scene.nodes n ≡ Some node)
      → ((number : ℕ) → AllByRecursion Q (linked (value_at p.scene n number)))
      → AllByRecursion (IsFitShown Q node.node_type) (shown_fields p n node.node_type)
  unfolding shown_fields
  fields_fit Q n node is inside =
      let h = w.nodes n node is in
      let t : NodeType = node.node_type in
      let e : declared_at p.scene n ≡ Declares node =
      ap (λ (o : Option SceneNode). option_map_or (λ (m : SceneNode). numbered_fields m.node_type m.declared) o []) is in
      all_append (IsFitShown Q t) (shown_from p n 0 (rows t)) (declared_from p n (length (rows t)) (declared_at p.scene n))
      (shown_all p n node Q w.kept is h.sound inside t 0 (rows t) (rows_free t))
      (subst (λ (ds : List DeclaredField). AllByRecursion (IsFitShown Q t) (declared_from p n (length (rows t)) ds)) (sym e)
      (declared_fit Q n node is inside h.scripted))

  -- ---- nodes

  named_free : (n : ℕ) (b : Bool) → n < length p.scene.nodes → IsNameOrNone (if b then Some (label_of p.scene n) else None)
  named_free n true h = label_free p.scene w.few w.nodes n h
  named_free n false h = tt

  begins : (words : List (List ℕ)) (def : Option (List ℕ)) (t : NodeType) → IsNoneOf words (node_type_name t) → BeginsWithNoneOf words def (node_type_name t)
  begins words None t h = h
  begins words (Some name) t h = tt

  -- no node type is one of the words
  abbrev pub NoTypes : List (List ℕ) → Type 0
  NoTypes words = (t : NodeType) → IsNoneOf words (node_type_name t)

  module _ (depth tall : ℕ) (inner : (n : ℕ) → IsShallow p.scene depth n → (seen : List Bool) → IsSpellableNode depth [] (node_tree tall p seen n).made)
      (words : List (List ℕ)) (unlike : NoTypes words) where
    abbrev Item : List ℕ → BodyItem → Type 0
    Item = IsSpellableItem (IsSpellableNode depth []) (IsSpellableProto depth)

    used : (n : ℕ) → n < length p.scene.nodes → IsSpellableUse (use_tree p n)
    used n h = record { at = 0; name = label_of p.scene n; is = refl; named = label_free p.scene w.few w.nodes n h }

    full : (n : ℕ) (node : SceneNode) (seen : List Bool) → n < length p.scene.nodes → slice_get p.scene.nodes n ≡ Some node
        → ((number : ℕ) → AllByRecursion (IsShallow p.scene depth) (linked (value_at p.scene n number)))
        → IsSpellableFull Item words (opened p (node_tree tall p) seen n (Some node.node_type)).made
    full n node seen h is inside =
        let t : NodeType = node.node_type in
        let marked : List Bool = slice_set seen n true in record {
          at = 0;
          def = def_name p n;
          node_type = node_type_name t;
          items = (each (field_tree (node_tree tall p)) marked (shown_fields p n t)).made;
          is = refl;
          defined = named_free n (get_or p.named n false) h;
          typed = type_free t;
          begins = begins words (def_name p n) t (unlike t);
          body = each_all (field_tree (node_tree tall p)) (IsFitShown (IsShallow p.scene depth) t) (Item (node_type_name t))
              (λ s f. field_spelled (IsSpellableNode depth []) (IsSpellableProto depth) (node_tree tall p) (IsShallow p.scene depth)
              (λ u m k. inner m k u) t s f)
              (record { seen = marked; made = [] }) (shown_fields p n t) tt (fields_fit (IsShallow p.scene depth) n node is inside);
        }

    either : (n : ℕ) (node : SceneNode) (seen : List Bool) (b : Bool) (o : Option NodeType) → n < length p.scene.nodes → slice_get p.scene.nodes n ≡ Some node
        → ((number : ℕ) → AllByRecursion (IsShallow p.scene depth) (linked (value_at p.scene n number))) → o ≡ Some node.node_type
        → IsSpellableUse (opened p (node_tree tall p) seen n (if b then None else o)).made
        ⊎ IsSpellableFull Item words (opened p (node_tree tall p) seen n (if b then None else o)).made
    either n node seen true o h is inside e = inl (used n h)
    either n node seen false o h is inside e =
        subst (λ (o : Option NodeType). IsSpellableUse (opened p (node_tree tall p) seen n o).made
        ⊎ IsSpellableFull Item words (opened p (node_tree tall p) seen n o).made) (sym e) (inr (full n node seen h is inside))

    type_is : (n : ℕ) (node : SceneNode) → slice_get p.scene.nodes n ≡ Some node → type_at p.scene n ≡ Some node.node_type
    type_is n node is =
        slice_get-map (λ (m : SceneNode). m.node_type) p.scene.nodes n ∙ ap (λ (o : Option SceneNode). option_map (λ (m : SceneNode). m.node_type) o) is

    pub node_above : (n : ℕ) → IsShallow p.scene (suc depth) n → (seen : List Bool) → IsSpellableNode (suc depth) words (node_tree (suc tall) p seen n).made
    unfolding IsShallow IsSpellableNode node_tree
    node_above n h seen =
        let f = found p.scene.nodes n h.0 in
        either n f.0 seen (get_or seen n true) (type_at p.scene n) h.0 f.1 h.1 (type_is n f.0 f.1)

  -- a tree that may be taller than its chains
  pub node_spelled : (depth tall : ℕ) (words : List (List ℕ)) → depth ≤ tall → NoTypes words → (n : ℕ) → IsShallow p.scene depth n → (seen : List Bool)
      → IsSpellableNode depth words (node_tree tall p seen n).made
  unfolding IsShallow
  node_spelled zero tall words few unlike n h seen = absurd h
  node_spelled (suc depth) zero words few unlike n h seen = absurd (omega (arith, few))
  node_spelled (suc depth) (suc tall) words few unlike n h seen =
      node_above depth tall (λ m k u. node_spelled depth tall [] (omega (arith, few)) (λ t. tt) m k u) words unlike n h seen
