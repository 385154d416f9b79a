-- What a scene was made of: the i-th node of the scene is that node of its document which has the
-- number i.
use Rattle.std.proofs.Common.{◌≡◌, ℕ, zero, suc, ◌+◌, ◌<◌, Bool, true, false, if◌then◌else◌, List, [], ◌∷◌, ◌++◌, length, Option, Some, Result, Ok, Err, slice_get, refl, sym, ap, subst, ◌∙◌, inl, inr, arith}
use Rattle.std.proofs.lemmas.List.{length-append}
use Rattle.x3d_values.specs.declared.node_type.NodeKind.TheVariants.{Child}
use Rattle.proto_flat.specs.declared.flat.Flat.{Flat}
use Rattle.proto_flat.specs.declared.flat.FlatNode.{FlatNode}
use Rattle.scene_core.specs.declared.fault.SceneFault.{SceneFault}
use Rattle.scene_core.specs.declared.numbering.Numbering.{Numbering}
use Rattle.scene_core.specs.declared.scene.SceneNode.{SceneNode}
use Rattle.scene_core.specs.Building.{IsLimited, called, limits, node_of, nodes_by, nodes_of, scene_of, with_node}
use Rattle.scene_core.specs.Deep.{too_deep}
use Rattle.scene_core.specs.Faults.{◌>>=◌, through}
use Rattle.scene_core.specs.Labels.{is_alone, is_label, names_of}
use Rattle.scene_core.specs.Numbers.{numbering}
use Rattle.scene_core.specs.Scene.{SceneView}
use Rattle.scene_core.specs.Typed.{all_children, child, takes}
use Rattle.laws_written.proofs.Inner.{bind_is, scene_ok_is, taken}
use Rattle.laws_written.proofs.NumberedLists.{In, push_keeps, push_last, some_is, within}
use Rattle.laws_written.proofs.Visits.{IsNumbered, numbered}

pub found : {A : Type 0} (xs : List A) (n : ℕ) → n < length xs → (x : A) × (slice_get xs n ≡ Some x)
found [] n l = absurd (omega (arith, l))
found (x ∷ xs) zero l = (x, refl)
found (x ∷ xs) (suc n) l = found xs n (omega (arith, l))

-- ---- nodes

module _ (nodes : List FlatNode) (numbers : List ℕ) (alone : List ℕ → Bool) where
  -- the i-th node is made of the document's x-th
  pub record IsMade (all : List SceneNode) (i x : ℕ) : Type 0 where
    pub flat : FlatNode
    pub node : SceneNode
    pub flat_is : slice_get nodes x ≡ Some flat
    pub node_is : slice_get all i ≡ Some node
    pub made : node_of nodes numbers (is_label alone i) flat ≡ Ok node

  record AreMade (order : List ℕ) (made all : List SceneNode) : Type 0 where
    pub kept : (i : ℕ) (n : SceneNode) → slice_get made i ≡ Some n → slice_get all i ≡ Some n
    pub each : (i x : ℕ) → slice_get order i ≡ Some x → IsMade all (length made + i) x
    pub many : length all ≡ length made + length order

  abbrev step : ℕ → List SceneNode → Result (List SceneNode) SceneFault
  step n made = with_node nodes numbers alone (slice_get nodes n) made

  -- one node is made
  record IsOneMore (x : ℕ) (made more : List SceneNode) : Type 0 where
    pub flat : FlatNode
    pub node : SceneNode
    pub flat_is : slice_get nodes x ≡ Some flat
    pub made_of : node_of nodes numbers (is_label alone (length made)) flat ≡ Ok node
    pub is : made ++ node ∷ [] ≡ more

  one_more : (x : ℕ) (made more : List SceneNode) → x < length nodes → step x made ≡ Ok more → IsOneMore x made more
  one_more x made more l h =
      let f = found nodes x l in
      let b = bind_is (node_of nodes numbers (is_label alone (length made)) f.0) (λ n. Ok (made ++ n ∷ [])) more
      (sym (ap (λ (o : Option FlatNode). with_node nodes numbers alone o made) f.1) ∙ h) in
      record { flat = f.0; node = b.0; flat_is = f.1; made_of = b.1; is = scene_ok_is (made ++ b.0 ∷ []) more b.2 }

  all_made : (order : List ℕ) (made all : List SceneNode) → ((i x : ℕ) → slice_get order i ≡ Some x → x < length nodes)
      → through step order made ≡ Ok all → AreMade order made all
  all_made [] made all low h =
      let same : made ≡ all = scene_ok_is made all h in
      record {
        kept = λ i n at. subst (λ (l : List SceneNode). slice_get l i ≡ Some n) same at;
        each = λ i x at. absurd cc;
        many = sym (ap (λ (l : List SceneNode). length l) same) ∙ omega arith;
      }
  all_made (x ∷ order) made all low h =
      let b = bind_is (step x made) (λ more. through step order more) all h in
      let o = one_more x made b.0 (low 0 x refl) b.1 in
      let rest = all_made order b.0 all (λ i y at. low (suc i) y at) b.2 in
      let more : length b.0 ≡ length made + 1 = sym (ap (λ (l : List SceneNode). length l) o.is) ∙ length-append made (o.node ∷ []) in
      record {
        kept = λ i n at. rest.kept i n (subst (λ (l : List SceneNode). slice_get l i ≡ Some n) o.is (push_keeps made o.node i n at));
        each = each_of o rest more;
        many = rest.many ∙ ap (λ (k : ℕ). k + length order) more ∙ omega arith;
      } where
        last_is : (more : List SceneNode) (o : IsOneMore x made more) → slice_get more (length made) ≡ Some o.node
        last_is more o = subst (λ (l : List SceneNode). slice_get l (length made) ≡ Some o.node) o.is (push_last made o.node)

        each_of : {more : List SceneNode} → IsOneMore x made more → AreMade order more all → length more ≡ length made + 1
            → (i y : ℕ) → slice_get (x ∷ order) i ≡ Some y → IsMade all (length made + i) y
        each_of {more} o rest e zero y at =
            let none : length made ≡ length made + 0 = omega arith in
            subst (λ (k : ℕ). IsMade all k y) none
            (subst (λ (z : ℕ). IsMade all (length made) z) (some_is x y at) (record {
              flat = o.flat;
              node = o.node;
              flat_is = o.flat_is;
              node_is = rest.kept (length made) o.node (last_is more o);
              made = o.made_of;
            }))
        each_of {more} o rest e (suc i) y at =
            let same : length more + i ≡ length made + suc i = omega (arith, e) in
            subst (λ (k : ℕ). IsMade all k y) same (rest.each i y at)

-- ---- roots, helpers and limits

abbrev done : Result (Unit {0}) SceneFault
done = Ok tt

passed : (b : Bool) (e : SceneFault) → (if b then done else Err e) ≡ done → b ≡ true
passed true e h = refl
passed false e h = absurd cc

child_low : (nodes : List FlatNode) (m : ℕ) → child nodes m ≡ Ok tt → m < length nodes
unfolding child
child_low nodes m h =
    let t = taken (Some Child) (slice_get nodes m) (passed (takes (Some Child) (slice_get nodes m)) _ h) in within nodes m t.0 t.1

children_low : (nodes : List FlatNode) (ns : List ℕ) → all_children nodes ns ≡ Ok tt → (x : ℕ) → In x ns → x < length nodes
children_low nodes [] h x n = absurd n
children_low nodes (m ∷ ns) h x (inl e) =
    let b = bind_is (child nodes m) (λ _. all_children nodes ns) tt h in subst (λ (z : ℕ). z < length nodes) (sym e) (child_low nodes m b.1)
children_low nodes (m ∷ ns) h x (inr n) =
    let b = bind_is (child nodes m) (λ _. all_children nodes ns) tt h in children_low nodes ns b.2 x n

not_so : (b : Bool) (e : SceneFault) (r : Result (Unit {0}) SceneFault) → (if b then Err e else r) ≡ done → b ≡ false
not_so true e r h = absurd cc
not_so false e r h = refl

not_too_deep : (nodes : List SceneNode) (roots : List ℕ) → limits nodes roots ≡ Ok tt → too_deep nodes ≡ false
unfolding limits
not_too_deep nodes roots h = not_so (too_deep nodes) _ _ h

-- ---- a scene

module _ (flat : Flat) where
  abbrev pub numbers_of : Numbering
  numbers_of = numbering flat.nodes flat.roots flat.helpers

  abbrev pub alone_in : List ℕ → Bool
  alone_in = is_alone (names_of flat.nodes numbers_of.order)

  -- which names the node of that number keeps
  abbrev pub label_in : ℕ → List ℕ → Bool
  label_in number = is_label alone_in number

  pub record IsSceneOf (scene : SceneView) : Type 0 where
    pub each : (i x : ℕ) → slice_get numbers_of.order i ≡ Some x → IsMade flat.nodes numbers_of.numbers alone_in scene.nodes i x
    pub many : length scene.nodes ≡ length numbers_of.order
    pub roots_low : (x : ℕ) → In x flat.roots → x < length flat.nodes
    pub helpers_low : (x : ℕ) → In x flat.helpers → x < length flat.nodes
    pub shallow : too_deep scene.nodes ≡ false
    pub roots : scene.roots ≡ called numbers_of.numbers flat.roots
    pub helpers : scene.helpers ≡ called numbers_of.numbers flat.helpers
    pub state : IsNumbered flat.nodes (flat.roots ++ flat.helpers) numbers_of

  abbrev pub viewed : List SceneNode → SceneView
  viewed nodes = record {
    header = flat.header;
    nodes = nodes;
    roots = called numbers_of.numbers flat.roots;
    helpers = called numbers_of.numbers flat.helpers;
    opened = numbers_of.opened;
    numbers = numbers_of.numbers;
  }

  abbrev limited : List SceneNode → Result SceneView SceneFault
  limited nodes = limits nodes (called numbers_of.numbers flat.roots) >>= λ _. Ok (viewed nodes)

  abbrev with_helpers : List SceneNode → Result SceneView SceneFault
  with_helpers nodes = all_children flat.nodes flat.helpers >>= λ _. limited nodes

  abbrev with_roots : List SceneNode → Result SceneView SceneFault
  with_roots nodes = all_children flat.nodes flat.roots >>= λ _. with_helpers nodes

  made_is : (nodes : List SceneNode) → nodes_of flat.nodes numbers_of ≡ Ok nodes → AreMade flat.nodes numbers_of.numbers alone_in numbers_of.order [] nodes
  unfolding nodes_by
  made_is nodes h =
      all_made flat.nodes numbers_of.numbers alone_in numbers_of.order [] nodes
      (λ i x at. ((numbered flat.nodes flat.roots flat.helpers).state.numbered i x at).2) h

  from_none : (nodes : List SceneNode) (i x : ℕ) → IsMade flat.nodes numbers_of.numbers alone_in nodes (0 + i) x → IsMade flat.nodes numbers_of.numbers alone_in nodes i x
  from_none nodes i x m = let e : 0 + i ≡ i = omega arith in subst (λ (k : ℕ). IsMade flat.nodes numbers_of.numbers alone_in nodes k x) e m

  -- also if there are too many places, sensors or fields
  pub viewed_is : (nodes : List SceneNode) → nodes_of flat.nodes numbers_of ≡ Ok nodes → all_children flat.nodes flat.roots ≡ Ok tt
      → all_children flat.nodes flat.helpers ≡ Ok tt → too_deep nodes ≡ false → IsSceneOf (viewed nodes)
  viewed_is nodes made roots helpers shallow =
      let m = made_is nodes made in
      record {
        each = λ i x at. from_none nodes i x (m.each i x at);
        many = m.many ∙ omega arith;
        roots_low = children_low flat.nodes flat.roots roots;
        helpers_low = children_low flat.nodes flat.helpers helpers;
        shallow = shallow;
        roots = refl;
        helpers = refl;
        state = numbered flat.nodes flat.roots flat.helpers;
      }

  pub scene_is : (scene : SceneView) → scene_of flat ≡ Ok scene → IsSceneOf scene
  unfolding scene_of
  scene_is scene h =
      let a = bind_is (nodes_of flat.nodes numbers_of) with_roots scene h in
      let b = bind_is (all_children flat.nodes flat.roots) (λ _. with_helpers a.0) scene a.2 in
      let c = bind_is (all_children flat.nodes flat.helpers) (λ _. limited a.0) scene b.2 in
      let d = bind_is (limits a.0 (called numbers_of.numbers flat.roots)) (λ _. Ok (viewed a.0)) scene c.2 in
      subst IsSceneOf (scene_ok_is (viewed a.0) scene d.2)
      (viewed_is a.0 a.1 b.1 c.1 (not_too_deep a.0 (called numbers_of.numbers flat.roots) d.1))

  -- a document's scene keeps to the limits
  pub scene_limited : (scene : SceneView) → scene_of flat ≡ Ok scene → IsLimited scene.nodes scene.roots
  unfolding scene_of
  scene_limited scene h =
      let a = bind_is (nodes_of flat.nodes numbers_of) with_roots scene h in
      let b = bind_is (all_children flat.nodes flat.roots) (λ _. with_helpers a.0) scene a.2 in
      let c = bind_is (all_children flat.nodes flat.helpers) (λ _. limited a.0) scene b.2 in
      let d = bind_is (limits a.0 (called numbers_of.numbers flat.roots)) (λ _. Ok (viewed a.0)) scene c.2 in
      subst (λ (v : SceneView). IsLimited v.nodes v.roots) (scene_ok_is (viewed a.0) scene d.2) d.1
