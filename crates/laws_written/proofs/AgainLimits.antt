-- What is read again has no more sensors in a list than the scene that was written, and no more
-- fields in a node than there are numbers.
use Rattle.std.proofs.Common.{◌≡◌, ℕ, zero, suc, ◌+◌, ◌<◌, ◌≤◌, ◌==◌, Bool, true, false, ◌||◌, if◌then◌else◌, List, [], ◌∷◌, ◌++◌, codes, length, map, nat_lt, take, Option, Some, None, Ok, slice_get, refl, sym, ap, subst, ◌∙◌, ◌⊎◌, inl, inr, arith, append-nil}
use Rattle.std.specs.Prelude.{option_map}
use Rattle.std.specs.List.{fold, list_any}
use Rattle.std.specs.Option.{option_map_or}
use Rattle.std.proofs.lemmas.Bool.{cases_lt, or_parts}
use Rattle.std.proofs.lemmas.List.Sums.{fold-append}
use Rattle.std.proofs.lemmas.Option.{slice_get-map}
use Rattle.x3d_values.specs.declared.fields.Fields.{Fields}
use Rattle.x3d_values.specs.declared.node_type.NodeType.{NodeType}
use Rattle.x3d_values.specs.declared.node_type.NodeType.TheVariants.{Group, Switch, Transform}
use Rattle.x3d_values.specs.Ranges.{max_sensors}
use Rattle.x3d_values.specs.Tables.{AreTyped, children as children_row, row_named, rows}
use Rattle.proto_flat.specs.declared.flat.Flat.{Flat}
use Rattle.scene_core.specs.declared.row.DeclaredField.{DeclaredField}
use Rattle.scene_core.specs.declared.scene.Route.{Route}
use Rattle.scene_core.specs.declared.scene.SceneNode.{SceneNode}
use Rattle.scene_core.specs.Building.{scene_of}
use Rattle.scene_core.specs.Places.{any_crowded, children_at, is_crowded, is_pointing, is_sensor, own_siblings, sensors_in, unless_in_switch, with_sensor}
use Rattle.scene_core.specs.Scene.{SceneView, nodes_in, types_of}
use Rattle.scene_core.specs.Shape.{declared_by, most_declared, numbered_fields}
use Rattle.scene_core.specs.Wide.{any_wide, is_wide}
use Rattle.scene_core.proofs.LimitLemmas.{uncrowded}
use Rattle.laws_written.proofs.NumberedLists.{some_is, within}
use Rattle.laws_written.proofs.NumberedScenes.{IsSceneOf, found, scene_limited}
use Rattle.laws_written.specs.Again.{switch_type}
use Rattle.laws_written.specs.Defaults.{LeftOutAreDefaults}
use Rattle.laws_written.specs.FieldsFlats.{HasFieldsOf}
use Rattle.laws_written.specs.Nodes.{switch_root}
use Rattle.laws_written.specs.NodesFlats.{IsFlatOf}
use Rattle.laws_written.specs.Sound.{AreOfType, AreSound}
use Rattle.laws_written.specs.Values.{WrittenNodesAreTyped}
use Rattle.laws_written.specs.Writable.{AreKeepable}
use Rattle.laws_written.proofs.AgainNumbered.{last_is, many}
use Rattle.laws_written.proofs.Made.{front, value_in}
use Rattle.laws_written.proofs.Next.{next_many, next_roots, next_types, next_values, read_is, three}
use Rattle.laws_written.proofs.Present.{declared_by_node, rows_by_node, value_by_node}

-- ---- any of a list

neither : (a b : Bool) → a ≡ false → b ≡ false → (a || b) ≡ false
neither false b e h = h
neither true b e h = absurd cc

none_any : {A : Type 0} (P : A → Bool) (xs : List A) → ((i : ℕ) (x : A) → slice_get xs i ≡ Some x → P x ≡ false) → list_any P xs ≡ false
none_any P [] h = refl
none_any P (x ∷ xs) h = neither (P x) (list_any P xs) (h zero x refl) (none_any P xs (λ i y at. h (suc i) y at))

any_none : {A : Type 0} (P : A → Bool) (xs : List A) → list_any P xs ≡ false → (i : ℕ) (x : A) → slice_get xs i ≡ Some x → P x ≡ false
any_none P [] h i x at = absurd cc
any_none P (y ∷ xs) h zero x at = subst (λ z. P z ≡ false) (some_is y x at) (or_parts (P y) (list_any P xs) h).0
any_none P (y ∷ xs) h (suc i) x at = any_none P xs (or_parts (P y) (list_any P xs) h).1 i x at

at_end : {A : Type 0} (xs : List A) → slice_get xs (length xs) ≡ None
at_end [] = refl
at_end (x ∷ xs) = at_end xs

-- ---- sensors in lists

module _ (nodes again : List SceneNode) (same : (n : ℕ) → is_sensor again n ≡ is_sensor nodes n) where
  among_same : (list ns : List ℕ) → fold (with_sensor again) ns list ≡ fold (with_sensor nodes) ns list
  among_same [] ns = refl
  among_same (n ∷ list) ns =
      ap (λ (b : Bool). fold (with_sensor again) (if b then (if list_any (λ (m : ℕ). m == n) ns then ns else ns ++ n ∷ []) else ns) list) (same n)
      ∙ among_same list (with_sensor nodes ns n)

  crowded_same : (list : List ℕ) → is_crowded again list ≡ is_crowded nodes list
  crowded_same list = ap (λ (l : List ℕ). nat_lt max_sensors (length l)) (among_same list [])

-- one more root that is no sensor
crowded_more : (nodes : List SceneNode) (list hs : List ℕ) (n : ℕ) → is_sensor nodes n ≡ false → is_crowded nodes (list ++ switch_root n hs) ≡ is_crowded nodes list
crowded_more nodes list [] n off = ap (is_crowded nodes) (append-nil list)
crowded_more nodes list (h ∷ hs) n off =
    let ns : List ℕ = sensors_in nodes list in
    ap (λ (l : List ℕ). nat_lt max_sensors (length l))
    (fold-append (with_sensor nodes) [] list (n ∷ [])
    ∙ ap (λ (b : Bool). if b then (if list_any (λ (m : ℕ). m == n) ns then ns else ns ++ n ∷ []) else ns) off)

abbrev type_of : SceneNode → NodeType
type_of node = node.node_type

by_types : (nodes : List SceneNode) (n : ℕ) → is_sensor nodes n ≡ option_map_or is_pointing (slice_get (map type_of nodes) n) false
by_types nodes n = by (slice_get nodes n) ∙ ap (λ o. option_map_or is_pointing o false) (sym (slice_get-map type_of nodes n)) where
  by : (o : Option SceneNode) → option_map_or (λ (node : SceneNode). is_pointing node.node_type) o false ≡ option_map_or is_pointing (option_map type_of o) false
  by None = refl
  by (Some node) = refl

-- a Switch is no sensor
types_more : (ts : List NodeType) (hs : List ℕ) (n : ℕ) → option_map_or is_pointing (slice_get (ts ++ switch_type hs) n) false ≡ option_map_or is_pointing (slice_get ts n) false
types_more [] [] n = refl
types_more [] (h ∷ hs) zero = refl
types_more [] (h ∷ hs) (suc n) = refl
types_more (t ∷ ts) hs zero = refl
types_more (t ∷ ts) hs (suc n) = types_more ts hs n

-- ---- a node's siblings, by its type

abbrev siblings_by : SceneNode → NodeType → List ℕ
siblings_by node t = unless_in_switch t (children_at node (row_named 0 (codes "children") (rows t)))

siblings_same : (m node : SceneNode) (t : NodeType) → ((k : ℕ) → slice_get (rows t) k ≡ Some children_row → value_in m.values k ≡ value_in node.values k)
    → siblings_by m t ≡ siblings_by node t
siblings_same m node Group h = ap nodes_in (h 3 refl)
siblings_same m node Transform h = ap nodes_in (h 4 refl)
siblings_same m node Switch h = refl
siblings_same m node _ h = refl

take_few : {A : Type 0} (n : ℕ) (xs : List A) → length (take n xs) ≤ n
take_few zero [] = omega arith
take_few zero (x ∷ xs) = omega arith
take_few (suc n) [] = omega arith
take_few (suc n) (x ∷ xs) = let r = take_few n xs in omega (arith, r)

not_above : (n m : ℕ) → m ≤ n → nat_lt n m ≡ false
not_above n m h = grind (arith, h)

module _ (from : Flat) (s : SceneView) (routes : List Route) (state : List Fields) (again : Flat) (is_scene : scene_of from ≡ Ok s) (kept : AreKeepable state)
    (of_type : AreOfType s state) (sound : AreSound s) (table : (t : NodeType) → AreTyped (rows t)) (same : IsFlatOf s routes again) (filled : HasFieldsOf s state again)
    (none : again.helpers ≡ []) (next : SceneView) (scene : IsSceneOf again next) (typed_again : WrittenNodesAreTyped) (left_out : LeftOutAreDefaults) where
  abbrev count : ℕ
  count = length s.nodes

  sensor_same : (n : ℕ) → is_sensor next.nodes n ≡ is_sensor s.nodes n
  sensor_same n =
      by_types next.nodes n
      ∙ (ap (λ (ts : List NodeType). option_map_or is_pointing (slice_get ts n) false)
      (next_types from s routes state again is_scene kept of_type sound table same filled none next scene typed_again left_out)
      ∙ (types_more (types_of s) s.helpers n ∙ sym (by_types s.nodes n)))

  was_uncrowded : any_crowded s.nodes s.roots ≡ false
  was_uncrowded = uncrowded s.nodes s.roots (scene_limited from s is_scene)

  list_same : (list : List ℕ) → is_crowded next.nodes list ≡ is_crowded s.nodes list
  list_same = crowded_same s.nodes next.nodes sensor_same

  no_sensor_there : is_sensor s.nodes count ≡ false
  no_sensor_there = ap (λ (o : Option SceneNode). option_map_or (λ (node : SceneNode). is_pointing node.node_type) o false) (at_end s.nodes)

  roots_few : is_crowded next.nodes next.roots ≡ false
  roots_few =
      ap (is_crowded next.nodes) (next_roots from s routes state again is_scene kept of_type sound table same filled none next scene typed_again left_out)
      ∙ (list_same (s.roots ++ switch_root count s.helpers)
      ∙ (crowded_more s.nodes s.roots s.helpers count no_sensor_there
      ∙ (or_parts (is_crowded s.nodes s.roots) (list_any (λ (node : SceneNode). is_crowded s.nodes (own_siblings node)) s.nodes) was_uncrowded).0))

  record Keeps (m : SceneNode) : Type 0 where
    pub few : is_crowded next.nodes (own_siblings m) ≡ false
    pub narrow : is_wide m ≡ false

  -- a node of the scene
  own_keeps : (n : ℕ) (m node : SceneNode) → slice_get next.nodes n ≡ Some m → slice_get s.nodes n ≡ Some node → Keeps m
  own_keeps n m node at is =
      let x = three from s routes state again is_scene kept of_type sound table same filled none next scene typed_again left_out n node is in
      let t : NodeType = node.node_type in
      let type_same : x.m.node_type ≡ t = x.read.is.node_type ∙ x.flat_is.node_type in
      let declared : x.m.declared ≡ numbered_fields t node.declared = x.read.is.declared ∙ (x.flat_is.declared ∙ declared_by_node s n node is) in
      let held : (k : ℕ) → slice_get (rows t) k ≡ Some children_row → value_in x.m.values k ≡ value_in node.values k =
      λ k there. sym (value_by_node next n x.m k x.next_at)
      ∙ (next_values from s routes state again is_scene kept of_type sound table same filled none next scene typed_again left_out n k children_row
      (ap (λ l. slice_get l k) (rows_by_node s n node is) ∙ front (rows t) _ k children_row there)
      ∙ value_by_node s n node k is) in
      let siblings : own_siblings x.m ≡ own_siblings node = ap (siblings_by x.m) type_same ∙ siblings_same x.m node t held in
      let same_node : x.m ≡ m = some_is x.m m (sym x.next_at ∙ at) in
      subst Keeps same_node (record {
        few = ap (is_crowded next.nodes) siblings ∙ (list_same (own_siblings node)
            ∙ any_none (λ (y : SceneNode). is_crowded s.nodes (own_siblings y)) s.nodes
            (or_parts (is_crowded s.nodes s.roots) (list_any (λ (y : SceneNode). is_crowded s.nodes (own_siblings y)) s.nodes) was_uncrowded).1 n node is);
        narrow = ap (λ (u : NodeType). nat_lt (most_declared u) (length x.m.declared)) type_same
            ∙ (ap (λ (l : List DeclaredField). nat_lt (most_declared t) (length l)) declared
            ∙ not_above (most_declared t) (length (numbered_fields t node.declared)) (take_few (most_declared t) node.declared));
      })

  -- the node in which the helpers are
  last_keeps : (hs : List ℕ) → s.helpers ≡ hs → (n : ℕ) (m : SceneNode) → slice_get next.nodes n ≡ Some m → count ≤ n → Keeps m
  last_keeps [] e n m at high =
      let long = next_many from s routes state again is_scene kept of_type sound table same filled none next scene typed_again left_out in
      let as_many = many from s routes state again is_scene kept of_type sound table same filled none
      ∙ ap (λ (l : List ℕ). count + length (switch_root count l)) e in
      let l = within next.nodes n m at in
      absurd (omega (arith, l, long, as_many, high))
  last_keeps (h ∷ hs) e n m at high =
      let long = next_many from s routes state again is_scene kept of_type sound table same filled none next scene typed_again left_out in
      let as_many = many from s routes state again is_scene kept of_type sound table same filled none
      ∙ ap (λ (l : List ℕ). count + length (switch_root count l)) e in
      let l = within next.nodes n m at in
      let here : n ≡ count = omega (arith, l, long, as_many, high) in
      let g = found again.nodes count (omega (arith, as_many)) in
      let a = last_is from s routes state again is_scene kept of_type sound table same filled none h hs g.0 e g.1 in
      let r = read_is from s routes state again is_scene kept of_type sound table same filled none next scene typed_again left_out count g.0 m g.1
      (ap (λ (k : ℕ). slice_get next.nodes k) (sym here) ∙ at) in
      let type_same : m.node_type ≡ Switch = r.is.node_type ∙ a.node_type in
      let declared : m.declared ≡ [] = r.is.declared ∙ ap (map declared_by) a.interface in
      record {
        few = ap (λ (t : NodeType). is_crowded next.nodes (siblings_by m t)) type_same;
        narrow = ap (λ (l : List DeclaredField). nat_lt (most_declared m.node_type) (length l)) declared ∙ not_above (most_declared m.node_type) 0 (omega arith);
      }

  keeps : (n : ℕ) (m : SceneNode) → slice_get next.nodes n ≡ Some m → Keeps m
  keeps n m at = by_place (cases_lt n count) where
    by_place : (n < count) ⊎ (count ≤ n) → Keeps m
    by_place (inl low) = let node = found s.nodes n low in own_keeps n m node.0 at node.1
    by_place (inr high) = last_keeps s.helpers refl n m at high

  pub keeps_limits : (any_crowded next.nodes next.roots || any_wide next.nodes) ≡ false
  keeps_limits =
      neither (any_crowded next.nodes next.roots) (any_wide next.nodes)
      (neither (is_crowded next.nodes next.roots) (list_any (λ (y : SceneNode). is_crowded next.nodes (own_siblings y)) next.nodes) roots_few
      (none_any (λ (y : SceneNode). is_crowded next.nodes (own_siblings y)) next.nodes (λ i m at. (keeps i m at).few)))
      (none_any is_wide next.nodes (λ i m at. (keeps i m at).narrow))
