-- The nodes of the flat form of a written scene have the fields of the scene's.
use Rattle.std.proofs.Common.{◌≡◌, ℕ, zero, suc, ◌+◌, ◌<◌, true, List, [], ◌∷◌, ◌++◌, length, map, Option, Some, None, Ok, slice_get, refl, sym, ap, subst, ◌∙◌, arith, append-nil}
use Rattle.std.specs.Prelude.{is_some}
use Rattle.std.specs.List.{AllByRecursion, range_with_len}
use Rattle.std.proofs.lemmas.List.{map-append}
use Rattle.x3d_values.specs.declared.fields.Fields.{Fields}
use Rattle.x3d_values.specs.declared.node_type.NodeType.{NodeType}
use Rattle.x3d_values.specs.declared.node_type.NodeType.TheVariants.{Group}
use Rattle.classic_tree.specs.declared.tree.Declaration.{Declaration}
use Rattle.classic_tree.specs.declared.tree.Document.{Document}
use Rattle.classic_tree.specs.declared.tree.Given.TheVariants as given
use Rattle.proto_flat.specs.declared.flat.Flat.{Flat}
use Rattle.proto_flat.specs.declared.flat.FlatField.{FlatField}
use Rattle.proto_flat.specs.declared.flat.FlatNode.{FlatNode}
use Rattle.laws_documents.specs.Signatures.{Signature, signatures}
use Rattle.laws_documents.specs.Closings.{Braces, IsOfNode, Shown, closings, expected}
use Rattle.laws_documents.specs.Uses.{held, some}
use Rattle.laws_documents.specs.Shapes.{NodeShape, NodesTellTheRest, field_shape, node_shape}
use Rattle.laws_documents.specs.PlainLaws.{ShapesStay}
use Rattle.scene_core.specs.declared.row.DeclaredField.{DeclaredField}
use Rattle.scene_core.specs.declared.scene.Route.{Route}
use Rattle.scene_core.specs.declared.scene.SceneNode.{SceneNode}
use Rattle.scene_core.specs.Building.{scene_of}
use Rattle.scene_core.specs.Scene.{SceneView, declared_at}
use Rattle.scene_text.specs.Statements.{scene_document}
use Rattle.laws_written.specs.Children.{children}
use Rattle.laws_written.proofs.NumberedScenes.{found}
use Rattle.laws_written.specs.Writable.{AreKeepable}
use Rattle.laws_written.specs.Braces.{WrittenNodesClose, as_switch, written_as, written_braces}
use Rattle.laws_written.specs.NodesFlats.{WrittenNodesStay}
use Rattle.laws_written.specs.Nodes.{in_switch, written_nodes}
use Rattle.laws_written.proofs.NodesParts.{all_join, shown_are}
use Rattle.laws_written.proofs.Plans.{plan, type_is}
use Rattle.laws_written.specs.Fields.{children_field, declared_signature, written_fields, written_interface}
use Rattle.laws_written.specs.FieldsFlats.{WrittenFieldsStay, node_fields, node_interface, switch_fields, switch_interface}
use Rattle.laws_written.specs.FieldsWritten.{switch_shape, written_shape, written_shapes}
use Rattle.laws_written.proofs.FieldsDocuments.{all_written}
use Rattle.laws_written.proofs.Inside.{fields_inside}

-- ---- each pair of braces is of a node

abbrev HasType : Shown → Type 0
HasType s = is_some s.0 ≡ true

of_nodes : (bs : List Braces) → AllByRecursion HasType (map expected bs) → AllByRecursion IsOfNode bs
of_nodes [] h = tt
of_nodes (b ∷ bs) h = (h.0, of_nodes bs h.1)

module _ (s : SceneView) (routes : List Route) where
  typed : (n : ℕ) → n < length s.nodes → HasType (written_as s routes n)
  typed n l =
      let f = found s.nodes n l in
      ap (λ (o : Option NodeType). is_some o) (type_is s n f.0 f.1)

  all_typed : (from many : ℕ) → from + many ≡ length s.nodes → AllByRecursion HasType (map (written_as s routes) (range_with_len from many))
  all_typed from zero e = tt
  all_typed from (suc many) e = (typed from (omega (arith, e)), all_typed (from + 1) many (omega (arith, e)))

  switch_typed : (helpers : List ℕ) → AllByRecursion HasType (as_switch helpers)
  switch_typed [] = tt
  switch_typed (n ∷ ns) = (refl, tt)

  written_typed : AllByRecursion HasType (written_braces s routes)
  written_typed =
      all_join HasType (map (written_as s routes) (range_with_len 0 (length s.nodes))) (as_switch s.helpers)
      (all_typed 0 (length s.nodes) (omega arith)) (switch_typed s.helpers)

-- ---- lists

mapped : {A B C : Type 0} (f : A → B) (g : B → C) (h : A → C) → ((x : A) → g (f x) ≡ h x) → (xs : List A) → map g (map f xs) ≡ map h xs
mapped f g h k [] = refl
mapped {C = C} f g h k (x ∷ xs) = ap (λ (y : C). y ∷ map g (map f xs)) (k x) ∙ ap (λ (l : List C). h x ∷ l) (mapped f g h k xs)

by_places : {A B : Type 0} (xs : List A) (f : ℕ → B) (g : A → B) (from : ℕ) → ((i : ℕ) (x : A) → slice_get xs i ≡ Some x → f (from + i) ≡ g x)
    → map f (range_with_len from (length xs)) ≡ map g xs
by_places [] f g from k = refl
by_places {B = B} (x ∷ xs) f g from k =
    let here : from + 0 ≡ from = omega arith in
    let rest = by_places xs f g (from + 1) (λ i y at.
    (let e : from + 1 + i ≡ from + suc i = omega arith in ap f e ∙ k (suc i) y at)) in
    ap (λ (y : B). y ∷ map f (range_with_len (from + 1) (length xs))) (ap f (sym here) ∙ k 0 x refl) ∙ ap (λ (l : List B). g x ∷ l) rest

heads : {A : Type 0} (x y : A) (xs ys : List A) → (x ∷ xs) ≡ (y ∷ ys) → x ≡ y
heads x y xs ys e = cc

tails : {A : Type 0} (x y : A) (xs ys : List A) → (x ∷ xs) ≡ (y ∷ ys) → xs ≡ ys
tails x y xs ys e = cc

all_told : NodesTellTheRest → (nodes made : List FlatNode) → map node_shape nodes ≡ map node_shape made → map held nodes ≡ map held made
    → map node_fields nodes ≡ map node_fields made
all_told tell [] [] e k = refl
all_told tell [] (m ∷ made) e k = absurd cc
all_told tell (n ∷ nodes) [] e k = absurd cc
all_told tell (n ∷ nodes) (m ∷ made) e k =
    let one = tell n m (heads (node_shape n) (node_shape m) (map node_shape nodes) (map node_shape made) e) (heads (held n) (held m) (map held nodes) (map held made) k) in
    let rest = all_told tell nodes made (tails (node_shape n) (node_shape m) (map node_shape nodes) (map node_shape made) e)
    (tails (held n) (held m) (map held nodes) (map held made) k) in
    ap (λ (fields : List FlatField). fields ∷ map node_fields nodes) one ∙ ap (λ (l : List (List FlatField)). m.fields ∷ l) rest

-- ---- nodes with the fields that are written

abbrev undeclared : DeclaredField → Declaration ℕ
undeclared d = record { line = 0; access = d.access; field_type = d.field_type; name = d.name; given = given.Nothing }

signed_again : (ds : List DeclaredField) → signatures (map undeclared ds) ≡ map declared_signature ds
signed_again [] = refl
signed_again (d ∷ ds) = ap (λ (l : List Signature). declared_signature d ∷ l) (signed_again ds)

abbrev node_with : List FlatField → List (Declaration ℕ) → FlatNode
node_with fields interface = record { line = 0; name = None; node_type = Group; fields = fields; interface = interface }

abbrev switch_node : List ℕ → List FlatNode
switch_node [] = []
switch_node (n ∷ ns) = node_with (children_field (n ∷ ns) ∷ []) [] ∷ []

switch_shaped : (helpers : List ℕ) → map node_shape (switch_node helpers) ≡ switch_shape helpers
switch_shaped [] = refl
switch_shaped (n ∷ ns) = refl

switch_filled : (helpers : List ℕ) → map node_fields (switch_node helpers) ≡ switch_fields helpers
switch_filled [] = refl
switch_filled (n ∷ ns) = refl

abbrev shape_interface : NodeShape → List Signature
shape_interface shape = shape.interface

switch_told : (helpers : List ℕ) → map shape_interface (switch_shape helpers) ≡ switch_interface helpers
switch_told [] = refl
switch_told (n ∷ ns) = refl

switch_holds : (helpers : List ℕ) → map held (switch_node helpers) ≡ map (map some) (in_switch helpers)
switch_holds [] = refl
switch_holds (n ∷ ns) = ap (λ (l : List ℕ). map some l ∷ []) (append-nil (n ∷ ns))

module _ (from : Flat) (s : SceneView) (routes : List Route) (state : List Fields) (is : scene_of from ≡ Ok s) (kept : AreKeepable state) where
  abbrev numbers : List ℕ
  numbers = range_with_len 0 (length s.nodes)

  abbrev written_node : ℕ → FlatNode
  written_node n = node_with (written_fields s state n) (map undeclared (declared_at s n))

  abbrev made : List FlatNode
  made = map written_node numbers ++ switch_node s.helpers

  made_shapes : map node_shape made ≡ written_shapes s state
  made_shapes =
      map-append node_shape (map written_node numbers) (switch_node s.helpers)
      ∙ (ap (λ (l : List NodeShape). l ++ map node_shape (switch_node s.helpers))
      (mapped written_node node_shape (written_shape s state)
      (λ n. ap (λ (l : List Signature). record { fields = map field_shape (written_fields s state n); interface = l }) (signed_again (declared_at s n))) numbers)
      ∙ ap (λ (l : List NodeShape). map (written_shape s state) numbers ++ l) (switch_shaped s.helpers))

  made_fields : map node_fields made ≡ map (written_fields s state) numbers ++ switch_fields s.helpers
  made_fields =
      map-append node_fields (map written_node numbers) (switch_node s.helpers)
      ∙ (ap (λ (l : List (List FlatField)). l ++ map node_fields (switch_node s.helpers)) (mapped written_node node_fields (written_fields s state) (λ n. refl) numbers)
      ∙ ap (λ (l : List (List FlatField)). map (written_fields s state) numbers ++ l) (switch_filled s.helpers))

  holds_children : (n : ℕ) (node : SceneNode) → slice_get s.nodes n ≡ Some node → held (written_node n) ≡ map some (children node)
  holds_children n node at =
      ap (map some) (fields_inside s routes state n node at ∙ shown_are from s is (plan s routes state) refl kept n node at)

  abbrev numbered_held : ℕ → List (Option ℕ)
  numbered_held n = held (written_node n)

  abbrev child_numbers : SceneNode → List (Option ℕ)
  child_numbers node = map some (children node)

  all_hold : map held (map written_node numbers) ≡ map (map some) (map children s.nodes)
  all_hold =
      mapped written_node held numbered_held (λ n. refl) numbers
      ∙ (by_places s.nodes numbered_held child_numbers 0 (λ i node at.
      (let here : 0 + i ≡ i = omega arith in ap numbered_held here ∙ holds_children i node at))
      ∙ sym (mapped children (map some) child_numbers (λ node. refl) s.nodes))

  made_held : map held made ≡ map (map some) (written_nodes s)
  made_held =
      map-append held (map written_node numbers) (switch_node s.helpers)
      ∙ (ap (λ (l : List (List (Option ℕ))). l ++ map held (switch_node s.helpers)) all_hold
      ∙ (ap (λ (l : List (List (Option ℕ))). map (map some) (map children s.nodes) ++ l) (switch_holds s.helpers)
      ∙ sym (map-append (map some) (map children s.nodes) (in_switch s.helpers))))

  told_interfaces : map shape_interface (written_shapes s state) ≡ map (written_interface s) numbers ++ switch_interface s.helpers
  told_interfaces =
      map-append shape_interface (map (written_shape s state) numbers) (switch_shape s.helpers)
      ∙ (ap (λ (l : List (List Signature)). l ++ map shape_interface (switch_shape s.helpers)) (mapped (written_shape s state) shape_interface (written_interface s) (λ n. refl) numbers)
      ∙ ap (λ (l : List (List Signature)). map (written_interface s) numbers ++ l) (switch_told s.helpers))

-- ---- the flat form

pub all_stay : ShapesStay → NodesTellTheRest → WrittenNodesClose → WrittenNodesStay → WrittenFieldsStay
all_stay shape tell close stay from scene routes state again is few kept distinct e =
    let d : Document = scene_document scene routes state in
    let nodes = of_nodes (closings d) (subst (AllByRecursion HasType) (sym (close from scene routes state is kept)) (written_typed scene routes)) in
    let shaped : map node_shape again.nodes ≡ written_shapes scene state = shape d again nodes e ∙ all_written from scene routes state is kept distinct in
    let inner = (stay from scene routes state again is few kept e).inside in
    record {
      fields = all_told tell again.nodes (made from scene routes state is kept) (shaped ∙ sym (made_shapes from scene routes state is kept))
          (inner ∙ sym (made_held from scene routes state is kept))
          ∙ made_fields from scene routes state is kept;
      interfaces = sym (mapped node_shape shape_interface node_interface (λ n. refl) again.nodes)
          ∙ (ap (map shape_interface) shaped ∙ told_interfaces from scene routes state is kept);
    }
