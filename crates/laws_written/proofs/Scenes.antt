-- The scene of a document whose names are names and whose texts are UTF-8 is writable.
use Rattle.std.proofs.Common.{◌≡◌, ℕ, suc, ◌-◌, ◌^◌, ◌<◌, ◌≤◌, Bool, true, false, not, List, [], ◌∷◌, ◌++◌, length, Option, Some, None, Result, Ok, Err, if◌then◌else◌, slice_get, refl, ap, subst, ◌∙◌, ◌⊎◌, inl, inr, arith}
use Rattle.std.specs.Prelude.{slice_index_or}
use Rattle.std.specs.List.{AllByRecursion, list_all}
use Rattle.std.proofs.lemmas.List.{length-append}
use Rattle.std.proofs.lemmas.Option.{slice_get_within}
use Rattle.x3d_values.specs.declared.fields.Fields.{Fields}
use Rattle.x3d_values.specs.declared.node_type.NodeKind.TheVariants.{Child}
use Rattle.x3d_values.specs.Ranges.{max_depth}
use Rattle.proto_flat.specs.declared.flat.Flat.{Flat}
use Rattle.proto_flat.specs.declared.flat.FlatNode.{FlatNode}
use Rattle.scene_core.specs.declared.fault.SceneFault.{SceneFault}
use Rattle.scene_core.specs.declared.numbering.Numbering.{Numbering}
use Rattle.scene_core.specs.declared.scene.Route.{Route}
use Rattle.scene_core.specs.declared.scene.SceneNode.{SceneNode}
use Rattle.scene_core.specs.Building.{node_of, with_node, nodes_by, limits, called, scene_of}
use Rattle.scene_core.specs.Deep.{deeper_than, too_deep}
use Rattle.scene_core.specs.Labels.{is_alone, is_label, names_of}
use Rattle.scene_core.specs.Scene.{SceneView}
use Rattle.scene_core.specs.Typed.{takes, child, all_children}
use Rattle.route_core.specs.Resolved.{resolved}
use Rattle.laws_documents.specs.Named.{IsNamedNode, IsNamed}
use Rattle.laws_written.specs.Writable.{IsShallow, IsWritableNode, AreKeepable, IsWritable}
use Rattle.laws_written.specs.WrittenTexts.{has_room, ScenesAreWritable}
use Rattle.laws_written.proofs.Chains.{IsClosedNode, shallow, all_shallow}
use Rattle.laws_written.proofs.Lists.{all_append, all_at, all_push, all_weaker}
use Rattle.laws_written.proofs.Numbered.{numbered, some_numbered, all_made, called_low}
use Rattle.laws_written.proofs.Opened.{IsOpened, node_opened}
use Rattle.laws_written.proofs.TextRoutes.{routes_writable}
use Rattle.laws_written.proofs.Steps.{bind_is, ok_is, through_keeps, numbers_of, IsSceneOf, scene_is}
use Rattle.laws_written.proofs.Tests.{both}

-- ---- roots and helpers are nodes

taken : (nodes : List FlatNode) (n : ℕ) (o : Option FlatNode) → slice_get nodes n ≡ o → takes (Some Child) o ≡ true → n < length nodes
taken nodes n None e h = absurd cc
taken nodes n (Some node) e h = slice_get_within nodes n node e

abbrev done : Result (Unit {0}) SceneFault
done = Ok tt

passed : (b : Bool) (e : SceneFault) → (if b then done else Err e) ≡ done → b ≡ true
passed true e h = refl
passed false e h = absurd cc

child_within : (nodes : List FlatNode) (n : ℕ) → child nodes n ≡ Ok tt → n < length nodes
unfolding child
child_within nodes n h = taken nodes n (slice_get nodes n) refl (passed (takes (Some Child) (slice_get nodes n)) _ h)

children_within : (nodes : List FlatNode) (ns : List ℕ) → all_children nodes ns ≡ Ok tt → AllByRecursion (λ (n : ℕ). n < length nodes) ns
children_within nodes [] h = tt
children_within nodes (n ∷ ns) h =
    let b = bind_is (child nodes n) (λ _. all_children nodes ns) tt h in (child_within nodes n b.1, children_within nodes ns b.2)

-- ---- limits

not_so : (b : Bool) (e : SceneFault) (r : Result (Unit {0}) SceneFault) → (if b then Err e else r) ≡ done → b ≡ false
not_so true e r h = absurd cc
not_so false e r h = refl

not_too_deep : (nodes : List SceneNode) (roots : List ℕ) → limits nodes roots ≡ Ok tt → too_deep nodes ≡ false
unfolding limits
not_too_deep nodes roots h = not_so (too_deep nodes) _ _ h

-- ---- nodes

all_opened : (count : ℕ) (nodes : List FlatNode) (s : Numbering) (alone : List ℕ → Bool) (low : (m : ℕ) → slice_index_or s.numbers m 0 < count)
    → AllByRecursion IsNamedNode nodes → (made : List SceneNode) → nodes_by nodes s alone ≡ Ok made → AllByRecursion (IsOpened count s.numbers low) made
unfolding nodes_by
all_opened count nodes s alone low named made h =
    through_keeps (AllByRecursion (IsOpened count s.numbers low)) (λ n made. with_node nodes s.numbers alone (slice_get nodes n) made)
    (λ n x y e p. step n x y (slice_get nodes n) refl e p) s.order [] made h tt where
      step : (n : ℕ) (x y : List SceneNode) (o : Option FlatNode) → slice_get nodes n ≡ o → with_node nodes s.numbers alone o x ≡ Ok y
          → AllByRecursion (IsOpened count s.numbers low) x → AllByRecursion (IsOpened count s.numbers low) y
      step n x y None at e p = subst (AllByRecursion (IsOpened count s.numbers low)) (ok_is x y e) p
      step n x y (Some node) at e p =
          let b = bind_is (node_of nodes s.numbers (is_label alone (length x)) node) (λ k. Ok (x ++ k ∷ [])) y e in
          subst (AllByRecursion (IsOpened count s.numbers low)) (ok_is (x ++ b.0 ∷ []) y b.2)
          (all_push (IsOpened count s.numbers low) x b.0 p
          (node_opened count s.numbers low nodes (is_label alone (length x)) node (all_at IsNamedNode nodes n node named at) b.0 b.1))

-- ---- called nodes

called_all : (P : ℕ → Type 0) (numbers : List ℕ) (ns : List ℕ) → ((n : ℕ) → P (slice_index_or numbers n 0)) → AllByRecursion P (called numbers ns)
called_all P numbers [] k = tt
called_all P numbers (n ∷ ns) k = (k n, called_all P numbers ns k)

roomy : (s : SceneView) (closed : AllByRecursion (IsClosedNode (length s.nodes)) s.nodes) (ns : List ℕ)
    → list_all (λ n. not (slice_index_or (deeper_than s.nodes (max_depth - 1)) n false)) ns ≡ true
    → AllByRecursion (λ (n : ℕ). n < length s.nodes) ns → AllByRecursion (IsShallow s (max_depth - 1)) ns
roomy s closed [] h l = tt
roomy s closed (n ∷ ns) h l =
    let b = both (not (slice_index_or (deeper_than s.nodes (max_depth - 1)) n false)) _ h in
    (shallow s closed (max_depth - 1) n l.0 (no_chain (slice_index_or (deeper_than s.nodes (max_depth - 1)) n false) b.0), roomy s closed ns b.1 l.1) where
      no_chain : (b : Bool) → not b ≡ true → b ≡ false
      no_chain false h = refl
      no_chain true h = absurd cc

module _ (flat : Flat) (named : IsNamed flat) (nodes : List SceneNode) where
  abbrev S : Numbering
  S = numbers_of flat

  abbrev Alone : List ℕ → Bool
  Alone = is_alone (names_of flat.nodes S.order)

  many : nodes_by flat.nodes S Alone ≡ Ok nodes → length nodes ≡ length S.order
  unfolding nodes_by
  many h =
      let n = numbered flat.nodes flat.roots flat.helpers in
      all_made flat.nodes S.numbers Alone S.order [] nodes n.order h ∙ omega arith

  -- every number is that of a node, where there is one
  low : nodes_by flat.nodes S Alone ≡ Ok nodes → 1 ≤ length nodes → (m : ℕ) → slice_index_or S.numbers m 0 < length nodes
  low h one m =
      let n = numbered flat.nodes flat.roots flat.helpers in
      let e = many h in
      let r = called_low (length S.order) S.numbers (omega (arith, e, one)) n.numbers m in
      omega (arith, e, r)

  -- no roots and no helpers, or a node
  abbrev IsEmptyOr : Type 0
  IsEmptyOr = (flat.roots ++ flat.helpers ≡ []) ⊎ (1 ≤ length nodes)

  some_node : nodes_by flat.nodes S Alone ≡ Ok nodes → AllByRecursion (λ (n : ℕ). n < length flat.nodes) (flat.roots ++ flat.helpers) → IsEmptyOr
  some_node h l = by_list (flat.roots ++ flat.helpers) refl where
    by_list : (ns : List ℕ) → flat.roots ++ flat.helpers ≡ ns → IsEmptyOr
    by_list [] e = inl e
    by_list (n ∷ ns) e =
        let some = some_numbered flat.nodes flat.roots flat.helpers l n ns e in
        let m = many h in inr (omega (arith, some, m))

module _ (flat : Flat) (named : IsNamed flat) (nodes : List SceneNode) (made : nodes_by flat.nodes (S flat named nodes) (Alone flat named nodes) ≡ Ok nodes) where
  abbrev Given : List ℕ
  Given = (numbers_of flat).numbers

  abbrev Low : Type 0
  Low = (m : ℕ) → slice_index_or Given m 0 < length nodes

  opened : (l : Low) → AllByRecursion (IsOpened (length nodes) Given l) nodes
  opened l = all_opened (length nodes) flat.nodes (numbers_of flat) (Alone flat named nodes) l named.nodes nodes made

  node_ok : (n : ℕ) (node : SceneNode) → slice_get nodes n ≡ Some node → IsWritableNode node
  node_ok n node e =
      let within = slice_get_within nodes n node e in
      let l : Low = low flat named nodes made (omega (arith, within)) in
      (all_at (IsOpened (length nodes) Given l) nodes n node (opened l) e).writable

  all_closed : (ns : List SceneNode) → nodes ≡ ns → AllByRecursion (IsClosedNode (length nodes)) ns
  all_closed [] e = tt
  all_closed (n ∷ ns) e =
      let many : length nodes ≡ suc (length ns) = ap (λ (x : List SceneNode). length x) e in
      let l : Low = low flat named nodes made (omega (arith, many)) in
      subst (AllByRecursion (IsClosedNode (length nodes))) e
      (all_weaker (IsOpened (length nodes) Given l) (IsClosedNode (length nodes)) (λ n o. o.closed) nodes (opened l))

  called_within : (ns : List ℕ) → (0 < length ns → 1 ≤ length nodes) → AllByRecursion (λ (n : ℕ). n < length nodes) (called Given ns)
  called_within [] k = tt
  called_within (n ∷ ns) k =
      called_all (λ (m : ℕ). m < length nodes) Given (n ∷ ns) (low flat named nodes made (k (omega arith)))

  some_of : AllByRecursion (λ (n : ℕ). n < length flat.nodes) (flat.roots ++ flat.helpers) → 0 < length (flat.roots ++ flat.helpers) → 1 ≤ length nodes
  some_of l some = by_case (some_node flat named nodes made l) where
    by_case : IsEmptyOr flat named nodes → 1 ≤ length nodes
    by_case (inr h) = h
    by_case (inl e) = let none : length (flat.roots ++ flat.helpers) ≡ 0 = ap (λ (x : List ℕ). length x) e in absurd (omega (arith, some, none))

abbrev scene_with : Flat → List SceneNode → SceneView
scene_with flat nodes = record {
  header = flat.header;
  nodes = nodes;
  roots = called (numbers_of flat).numbers flat.roots;
  helpers = called (numbers_of flat).numbers flat.helpers;
  opened = (numbers_of flat).opened;
  numbers = (numbers_of flat).numbers;
}

scene_writable : (flat : Flat) (named : IsNamed flat) (scene : SceneView) (i : IsSceneOf flat scene) (routes : List Route) (state : List Fields)
    → length i.nodes ≤ 2 ^ 64 → AreKeepable state → resolved flat (scene_with flat i.nodes) ≡ Ok routes → has_room (scene_with flat i.nodes) ≡ true
    → IsWritable (scene_with flat i.nodes) routes state
scene_writable flat named scene i routes state few kept joined room =
    let s : SceneView = scene_with flat i.nodes in
    let r = children_within flat.nodes flat.roots i.roots in
    let h = children_within flat.nodes flat.helpers i.helpers in
    let l = all_append (λ (n : ℕ). n < length flat.nodes) flat.roots flat.helpers r h in
    let both_many = length-append flat.roots flat.helpers in
    let closed = all_closed flat named i.nodes i.made i.nodes refl in
    let deep = not_too_deep i.nodes s.roots i.within in
    let roots = called_within flat named i.nodes i.made flat.roots (λ some. some_of flat named i.nodes i.made l (omega (arith, some, both_many))) in
    let helpers = called_within flat named i.nodes i.made flat.helpers (λ some. some_of flat named i.nodes i.made l (omega (arith, some, both_many))) in
    record {
      few = few;
      profile = named.profile;
      components = named.components;
      metas = named.metas;
      nodes = node_ok flat named i.nodes i.made;
      kept = kept;
      roots = all_weaker (λ (n : ℕ). n < length i.nodes) (IsShallow s max_depth) (λ n l. all_shallow s closed deep n l) s.roots roots;
      helpers = roomy s closed s.helpers room helpers;
      ends = routes_writable s flat routes joined;
    }

-- each of its nodes is writable, whatever the lengths of chains
pub nodes_are_writable : (flat : Flat) (scene : SceneView) → IsNamed flat → scene_of flat ≡ Ok scene
    → (n : ℕ) (node : SceneNode) → slice_get scene.nodes n ≡ Some node → IsWritableNode node
nodes_are_writable flat scene named h =
    let i = scene_is flat scene h in
    subst (λ (v : SceneView). (n : ℕ) (node : SceneNode) → slice_get v.nodes n ≡ Some node → IsWritableNode node) i.is
    (node_ok flat named i.nodes i.made)

pub scenes_are_writable : ScenesAreWritable
scenes_are_writable flat scene routes state named h few joined kept room =
    let i = scene_is flat scene h in
    subst (λ (v : SceneView). length v.nodes ≤ 2 ^ 64 → resolved flat v ≡ Ok routes → has_room v ≡ true → IsWritable v routes state) i.is
    (λ k j m. scene_writable flat named scene i routes state k kept j m) few joined room
