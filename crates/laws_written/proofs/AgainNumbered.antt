-- The nodes of the flat form of a written scene, which are numbered by their places.
use Rattle.std.proofs.Common.{◌≡◌, ℕ, zero, suc, ◌+◌, List, [], ◌∷◌, ◌++◌, length, map, take, Option, Some, None, Ok, slice_get, refl, sym, ap, ◌∙◌, arith, append-nil}
use Rattle.std.specs.List.{range_with_len}
use Rattle.std.specs.Option.{option_map_or}
use Rattle.std.proofs.lemmas.List.{length-append, length-map, take-map}
use Rattle.x3d_values.specs.declared.fields.Fields.{Fields}
use Rattle.x3d_values.specs.declared.node_type.NodeType.{NodeType}
use Rattle.x3d_values.specs.declared.node_type.NodeType.TheVariants.{Switch}
use Rattle.x3d_values.specs.Tables.{AreTyped, FieldRowView, rows}
use Rattle.classic_tree.specs.declared.tree.Declaration.{Declaration}
use Rattle.proto_flat.specs.declared.flat.Flat.{Flat}
use Rattle.proto_flat.specs.declared.flat.FlatField.{FlatField}
use Rattle.proto_flat.specs.declared.flat.FlatNode.{FlatNode}
use Rattle.laws_documents.specs.Signatures.{Signature, signature, signatures}
use Rattle.laws_documents.specs.Closings.{Shown, shown}
use Rattle.laws_documents.specs.Uses.{held, some}
use Rattle.scene_core.specs.declared.row.DeclaredField.{DeclaredField}
use Rattle.scene_core.specs.declared.scene.Route.{Route}
use Rattle.scene_core.specs.declared.scene.SceneNode.{SceneNode}
use Rattle.scene_core.specs.Building.{scene_of}
use Rattle.scene_core.specs.Numbers.{numbering}
use Rattle.scene_core.specs.Parts.{parts, parts_from, parts_of}
use Rattle.scene_core.specs.Scene.{SceneView, declared_at}
use Rattle.scene_core.specs.Shape.{declaration_entry, declared_by, declared_entry, most_declared, numbered_fields}
use Rattle.laws_written.specs.ScenesAgain.{HaveChildren, in_place}
use Rattle.laws_written.specs.Children.{children}
use Rattle.laws_written.proofs.TextAgain.{all_numbered_again, all_numbered_under_root}
use Rattle.laws_written.proofs.NumberedLists.{some_is, within}
use Rattle.laws_written.proofs.NumberedScenes.{found, numbers_of}
use Rattle.laws_written.specs.Writable.{AreKeepable}
use Rattle.laws_written.specs.Braces.{as_switch, written_as, written_name}
use Rattle.laws_written.specs.NodesFlats.{IsFlatOf}
use Rattle.laws_written.specs.Nodes.{in_switch, switch_root}
use Rattle.laws_written.proofs.Plans.{type_is}
use Rattle.laws_written.specs.Fields.{children_field, declared_signature, fields_by_type, value_now, written_fields, written_interface}
use Rattle.laws_written.specs.FieldsFlats.{HasFieldsOf, node_fields, node_interface, switch_fields, switch_interface}
use Rattle.laws_written.specs.Sound.{AreOfType, AreSound}
use Rattle.laws_written.proofs.Given.{fields}
use Rattle.laws_written.proofs.Holding.{Holds}
use Rattle.laws_written.proofs.Made.{behind, front}
use Rattle.laws_written.proofs.Parts.{node_parts, nodes_within}
use Rattle.laws_written.proofs.Places.{in_front, item_is, mapped_at, range_many, same_numbers, take_twice}
use Rattle.laws_written.proofs.Present.{declared_by_node, now_holds, rows_by_node}

-- ---- declarations by what they say

abbrev field_of : Signature → DeclaredField
field_of x = record { name = x.name; access = x.access; field_type = x.field_type }

same_head : (x y : Signature) (xs ys : List Signature) → (x ∷ xs) ≡ (y ∷ ys) → x ≡ y
same_head x y xs ys e = cc

same_tail : (x y : Signature) (xs ys : List Signature) → (x ∷ xs) ≡ (y ∷ ys) → xs ≡ ys
same_tail x y xs ys e = cc

unsigned : (ds : List (Declaration ℕ)) (es : List DeclaredField) → signatures ds ≡ map declared_signature es → map declared_by ds ≡ es
unsigned [] [] h = refl
unsigned [] (e ∷ es) h = absurd cc
unsigned (d ∷ ds) [] h = absurd cc
unsigned (d ∷ ds) (e ∷ es) h =
    ap (λ (x : DeclaredField). x ∷ map declared_by ds) (ap field_of (same_head (signature d) (declared_signature e) (signatures ds) (map declared_signature es) h))
    ∙ ap (λ (l : List DeclaredField). e ∷ l) (unsigned ds es (same_tail (signature d) (declared_signature e) (signatures ds) (map declared_signature es) h))

no_declarations : (ds : List (Declaration ℕ)) → signatures ds ≡ [] → ds ≡ []
no_declarations [] h = refl
no_declarations (d ∷ ds) h = absurd cc

-- ---- the node in which the helpers stand

none_taken : (k : ℕ) (fs : List FlatField) (number : ℕ) → parts_from fs number (map declaration_entry (take k [])) ≡ []
none_taken zero fs number = refl
none_taken (suc k) fs number = refl

abbrev parts_by : NodeType → List FlatField → List (Declaration ℕ) → List ℕ
parts_by t fs ds = parts_from fs 0 (rows t) ++ parts_from fs (length (rows t)) (map declaration_entry (numbered_fields t ds))

switch_parts : (g : FlatNode) (ns : List ℕ) → g.node_type ≡ Switch → g.fields ≡ children_field ns ∷ [] → signatures g.interface ≡ [] → parts g ≡ ns
switch_parts g ns t f i =
    let fs : List FlatField = children_field ns ∷ [] in
    ap (λ (u : NodeType). parts_by u g.fields g.interface) t
    ∙ (ap (λ (l : List FlatField). parts_by Switch l g.interface) f
    ∙ (ap (λ (l : List (Declaration ℕ)). parts_by Switch fs l) (no_declarations g.interface i)
    ∙ (ap (λ (l : List ℕ). parts_from fs 0 (rows Switch) ++ l) (none_taken (most_declared Switch) fs (length (rows Switch)))
    ∙ (append-nil (ns ++ []) ∙ append-nil ns))))

-- ---- the nodes

module _ (from : Flat) (s : SceneView) (routes : List Route) (state : List Fields) (again : Flat) (is_scene : scene_of from ≡ Ok s) (kept : AreKeepable state)
    (of_type : AreOfType s state) (sound : AreSound s) (table : (t : NodeType) → AreTyped (rows t)) (same : IsFlatOf s routes again) (filled : HasFieldsOf s state again)
    (none : again.helpers ≡ []) where
  abbrev pub count : ℕ
  count = length s.nodes

  switch_many : (hs : List ℕ) → length (as_switch hs) ≡ length (switch_root count hs)
  switch_many [] = refl
  switch_many (n ∷ ns) = refl

  pub many : length again.nodes ≡ count + length (switch_root count s.helpers)
  many =
      let a = length-map again.nodes shown in
      let b = ap (λ (l : List Shown). length l) same.nodes in
      let c = length-append (map (written_as s routes) (range_with_len 0 count)) (as_switch s.helpers) in
      let d = length-map (range_with_len 0 count) (written_as s routes) in
      let e = range_many 0 count in
      let f = switch_many s.helpers in
      omega (arith, a, b, c, d, e, f)

  -- the n-th node of these is the scene's
  pub record IsAgain (n : ℕ) (node : SceneNode) (g : FlatNode) : Type 0 where
    pub node_type : g.node_type ≡ node.node_type
    pub name : g.name ≡ written_name s routes n
    pub fields_same : g.fields ≡ fields s state n (rows node.node_type) (declared_at s n)
    pub declared : map declared_by g.interface ≡ declared_at s n
    pub numbered : map declared_by (numbered_fields node.node_type g.interface) ≡ declared_at s n
    pub inside : parts g ≡ children node

  own_holds : (n : ℕ) (node : SceneNode) → slice_get s.nodes n ≡ Some node → (k : ℕ) (e : FieldRowView) → slice_get (rows node.node_type) k ≡ Some e
      → Holds e (value_now s state n k e.access e.field_type)
  own_holds n node is k e at =
      now_holds from s state is_scene kept of_type sound table n node is k e
      (ap (λ (l : List FieldRowView). slice_get l k) (rows_by_node s n node is)
      ∙ front (rows node.node_type) (map declared_entry (numbered_fields node.node_type node.declared)) k e at)

  more_holds : (n : ℕ) (node : SceneNode) → slice_get s.nodes n ≡ Some node → (i : ℕ) (d : DeclaredField) → slice_get (declared_at s n) i ≡ Some d
      → Holds (declared_entry d) (value_now s state n (length (rows node.node_type) + i) d.access d.field_type)
  more_holds n node is i d at =
      let ds : List DeclaredField = numbered_fields node.node_type node.declared in
      let there : slice_get ds i ≡ Some d = ap (λ (l : List DeclaredField). slice_get l i) (sym (declared_by_node s n node is)) ∙ at in
      now_holds from s state is_scene kept of_type sound table n node is (length (rows node.node_type) + i) (declared_entry d)
      (ap (λ (l : List FieldRowView). slice_get l (length (rows node.node_type) + i)) (rows_by_node s n node is)
      ∙ (behind (rows node.node_type) (map declared_entry ds) i ∙ mapped_at declared_entry ds i d there))

  type_of_shown : (t : NodeType) (name : Option (List ℕ)) (x : Shown) → (Some t, name) ≡ x → x.0 ≡ Some t
  type_of_shown t name x e = ap (λ (y : Shown). y.0) (sym e)

  name_of_shown : (t : Option NodeType) (name : Option (List ℕ)) (x : Shown) → (t, name) ≡ x → name ≡ x.1
  name_of_shown t name x e = ap (λ (y : Shown). y.1) e

  pub again_is : (n : ℕ) (node : SceneNode) (g : FlatNode) → slice_get s.nodes n ≡ Some node → slice_get again.nodes n ≡ Some g → IsAgain n node g
  again_is n node g is at =
      let l = within s.nodes n node is in
      let t : NodeType = node.node_type in
      let shown_as : shown g ≡ written_as s routes n =
      item_is shown again.nodes _ n g (written_as s routes n) same.nodes at (in_front (written_as s routes) count (as_switch s.helpers) n l) in
      let type_same : g.node_type ≡ t =
      some_is g.node_type t (sym (type_of_shown g.node_type g.name (written_as s routes n) shown_as) ∙ type_is s n node is) in
      let fields_as : g.fields ≡ written_fields s state n =
      item_is node_fields again.nodes _ n g (written_fields s state n) filled.fields at (in_front (written_fields s state) count (switch_fields s.helpers) n l) in
      let fields_are : g.fields ≡ fields s state n (rows t) (declared_at s n) =
      fields_as ∙ ap (λ (o : Option NodeType). fields_by_type s state n o) (type_is s n node is) in
      let declared_as : signatures g.interface ≡ written_interface s n =
      item_is node_interface again.nodes _ n g (written_interface s n) filled.interfaces at (in_front (written_interface s) count (switch_interface s.helpers) n l) in
      let declared_are : map declared_by g.interface ≡ declared_at s n = unsigned g.interface (declared_at s n) declared_as in
      let by_node = declared_by_node s n node is in
      let numbered_are : map declared_by (numbered_fields t g.interface) ≡ declared_at s n =
      sym (take-map declared_by (most_declared t) g.interface)
      ∙ (ap (λ (l : List DeclaredField). take (most_declared t) l) (declared_are ∙ by_node) ∙ (take_twice (most_declared t) node.declared ∙ sym by_node)) in
      let held_as : held g ≡ map some (children node) =
      item_is held again.nodes _ n g (map some (children node)) same.inside at
      (mapped_at (map some) _ n (children node) (front (map children s.nodes) (in_switch s.helpers) n (children node) (mapped_at children s.nodes n node is))) in
      record {
        node_type = type_same;
        name = name_of_shown (Some g.node_type) g.name (written_as s routes n) shown_as;
        fields_same = fields_are;
        declared = declared_are;
        numbered = numbered_are;
        inside = node_parts s state n t (declared_at s n) g type_same fields_are numbered_are (own_holds n node is) (more_holds n node is)
            ∙ same_numbers (nodes_within g.fields) (children node) held_as;
      }

  pub have_children : HaveChildren s again.nodes
  unfolding parts_of
  have_children n node is =
      let l = within s.nodes n node is in
      let f = found again.nodes n (omega (arith, many, l)) in
      ap (λ (o : Option FlatNode). option_map_or parts o []) f.1 ∙ (again_is n node f.0 is f.1).inside

  -- ---- the last node, where there are helpers

  pub record IsLast (hs : List ℕ) (g : FlatNode) : Type 0 where
    pub node_type : g.node_type ≡ Switch
    pub name : g.name ≡ None
    pub fields_same : g.fields ≡ children_field hs ∷ []
    pub interface : g.interface ≡ []
    pub inside : parts g ≡ hs

  last_of : {B : Type 0} (f : ℕ → B) (y : B) → slice_get (map f (range_with_len 0 count) ++ y ∷ []) count ≡ Some y
  last_of f y =
      let a = length-map (range_with_len 0 count) f in
      let b = range_many 0 count in
      let c : count ≡ length (map f (range_with_len 0 count)) + 0 = omega (arith, a, b) in
      ap (λ (k : ℕ). slice_get (map f (range_with_len 0 count) ++ y ∷ []) k) c ∙ behind (map f (range_with_len 0 count)) (y ∷ []) 0

  pub last_is : (h : ℕ) (hs : List ℕ) (g : FlatNode) → s.helpers ≡ h ∷ hs → slice_get again.nodes count ≡ Some g → IsLast (h ∷ hs) g
  last_is h hs g e at =
      let shown_as : shown g ≡ (Some Switch, None) =
      item_is shown again.nodes (map (written_as s routes) (range_with_len 0 count) ++ as_switch (h ∷ hs)) count g (Some Switch, None)
      (same.nodes ∙ ap (λ (l : List ℕ). map (written_as s routes) (range_with_len 0 count) ++ as_switch l) e) at (last_of (written_as s routes) (Some Switch, None)) in
      let fields_are : g.fields ≡ children_field (h ∷ hs) ∷ [] =
      item_is node_fields again.nodes (map (written_fields s state) (range_with_len 0 count) ++ switch_fields (h ∷ hs)) count g (children_field (h ∷ hs) ∷ [])
      (filled.fields ∙ ap (λ (l : List ℕ). map (written_fields s state) (range_with_len 0 count) ++ switch_fields l) e) at
      (last_of (written_fields s state) (children_field (h ∷ hs) ∷ [])) in
      let declared_as : signatures g.interface ≡ [] =
      item_is node_interface again.nodes (map (written_interface s) (range_with_len 0 count) ++ switch_interface (h ∷ hs)) count g []
      (filled.interfaces ∙ ap (λ (l : List ℕ). map (written_interface s) (range_with_len 0 count) ++ switch_interface l) e) at (last_of (written_interface s) []) in
      let type_same : g.node_type ≡ Switch = some_is g.node_type Switch (sym (type_of_shown g.node_type g.name (Some Switch, None) shown_as)) in
      record {
        node_type = type_same;
        name = name_of_shown (Some g.node_type) g.name (Some Switch, None) shown_as;
        fields_same = fields_are;
        interface = no_declarations g.interface declared_as;
        inside = switch_parts g (h ∷ hs) type_same fields_are declared_as;
      }

  -- ---- numbers

  numbered_by : (hs : List ℕ) → s.helpers ≡ hs → numbering again.nodes again.roots again.helpers ≡ in_place (length again.nodes)
  unfolding parts_of
  numbered_by [] e =
      let roots : again.roots ≡ s.roots = same.roots ∙ (ap (λ (l : List ℕ). s.roots ++ switch_root count l) e ∙ append-nil s.roots) in
      let as_many : length again.nodes ≡ count = many ∙ (ap (λ (l : List ℕ). count + length (switch_root count l)) e ∙ omega arith) in
      ap (λ (l : List ℕ). numbering again.nodes l again.helpers) roots
      ∙ (ap (λ (l : List ℕ). numbering again.nodes s.roots l) (none ∙ sym e)
      ∙ all_numbered_again from s again.nodes is_scene as_many have_children)
  numbered_by (h ∷ hs) e =
      let roots : again.roots ≡ s.roots ++ count ∷ [] = same.roots ∙ ap (λ (l : List ℕ). s.roots ++ switch_root count l) e in
      let as_many : length again.nodes ≡ count + 1 = many ∙ ap (λ (l : List ℕ). count + length (switch_root count l)) e in
      let g = found again.nodes count (omega (arith, as_many)) in
      let last : parts_of again.nodes count ≡ s.helpers =
      ap (λ (o : Option FlatNode). option_map_or parts o []) g.1 ∙ ((last_is h hs g.0 e g.1).inside ∙ sym e) in
      ap (λ (l : List ℕ). numbering again.nodes l again.helpers) roots
      ∙ (ap (λ (l : List ℕ). numbering again.nodes (s.roots ++ count ∷ []) l) none
      ∙ all_numbered_under_root from s again.nodes is_scene as_many have_children last)

  pub numbered_in_place : numbers_of again ≡ in_place (length again.nodes)
  numbered_in_place = numbered_by s.helpers refl
