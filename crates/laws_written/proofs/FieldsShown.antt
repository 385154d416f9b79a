-- The fields that a node's tree shows, by their names, are those that it holds, by their numbers.
use Rattle.std.proofs.Common.{◌≡◌, ℕ, ◌+◌, Bool, true, false, not, if◌then◌else◌, List, [], ◌∷◌, ◌++◌, length, map, Option, Some, None, slice_get, refl, sym, ap, ◌∙◌}
use Rattle.std.specs.List.{flat_map}
use Rattle.std.specs.Option.{option_map_or}
use Rattle.std.proofs.lemmas.Grind.{flat_map-append}
use Rattle.std.proofs.lemmas.List.{map-append}
use Rattle.x3d_values.specs.declared.default.FieldDefault.{FieldDefault}
use Rattle.x3d_values.specs.declared.fields.Fields.{Fields}
use Rattle.x3d_values.specs.declared.node_type.NodeType.{NodeType}
use Rattle.x3d_values.specs.declared.value.Value.{Value}
use Rattle.x3d_values.specs.Tables.{FieldRowView, are_distinct, rows}
use Rattle.laws_documents.specs.Signatures.{Signature, own_interface}
use Rattle.laws_documents.specs.Fields.{Numbering, numbering}
use Rattle.laws_documents.specs.Shapes.{FieldShape, NodeShape, blank, field_shape}
use Rattle.scene_core.specs.declared.row.DeclaredField.{DeclaredField}
use Rattle.scene_core.specs.declared.scene.Route.{Route}
use Rattle.scene_core.specs.declared.scene.SceneNode.{SceneNode}
use Rattle.scene_core.specs.Scene.{SceneView, declared_at}
use Rattle.scene_core.specs.Shape.{declared_entry, numbered_fields}
use Rattle.scene_text.specs.Defaulted.{is_default}
use Rattle.scene_text.specs.Tree.{Declared, Plain, PlanView, Shown, declared_from, shown_field, held_value, present_value, shown_fields, shown_from, shown_if}
use Rattle.laws_written.proofs.Plans.{plan, type_is}
use Rattle.laws_written.specs.Distinct.{HasDistinctFields}
use Rattle.laws_written.specs.Fields.{HeldField, declared_held, declared_signature, fields_by_type, held_by, rows_held, unless_default, written_field, written_interface, written_value}
use Rattle.laws_written.specs.FieldsWritten.{written_shape}
use Rattle.laws_written.proofs.Naming.{AreNumbered, fields_numbered, owned, signed}

-- ---- a field as it is shown

abbrev pub shape_by : Option ℕ → Value → FieldShape
shape_by number v = record { line = 0; number = number; value = blank (written_value v) }

abbrev pub shown_shape : Numbering → Shown → List FieldShape
shown_shape numbers (Plain name v) = shape_by (numbers name) v ∷ []
shown_shape numbers (Declared d None) = []
shown_shape numbers (Declared d (Some v)) = shape_by (numbers d.name) v ∷ []

abbrev pub shown_signature : Shown → List Signature
shown_signature (Plain name v) = []
shown_signature (Declared d held) = declared_signature d ∷ []

abbrev pub all_shown : Numbering → List Shown → List FieldShape
all_shown numbers fields = flat_map (shown_shape numbers) fields

abbrev pub all_signed : List Shown → List Signature
all_signed fields = flat_map shown_signature fields

-- ---- by numbers

abbrev as_shapes : List HeldField → List FieldShape
as_shapes hs = map field_shape (map written_field hs)

as_shapes_append : (xs ys : List HeldField) → as_shapes (xs ++ ys) ≡ as_shapes xs ++ as_shapes ys
as_shapes_append xs ys =
    ap (map field_shape) (map-append written_field xs ys) ∙ map-append field_shape (map written_field xs) (map written_field ys)

one_shape : (o p : Option ℕ) (v : Value) → o ≡ p → (shape_by o v ∷ []) ≡ (shape_by p v ∷ [])
one_shape o p v e = ap (λ (k : Option ℕ). shape_by k v ∷ []) e

if_shown : (numbers : Numbering) (name : List ℕ) (number : ℕ) (v : Value) (b : Bool) → numbers name ≡ Some number
    → all_shown numbers (shown_if (not b) name v) ≡ as_shapes (held_by number (if b then None else Some v))
if_shown numbers name number v true e = refl
if_shown numbers name number v false e = one_shape (numbers name) (Some number) v e

row_shown : (numbers : Numbering) (name : List ℕ) (number : ℕ) (d : Option FieldDefault) (o : Option Value) → numbers name ≡ Some number
    → all_shown numbers (shown_field name d o) ≡ as_shapes (held_by number (unless_default d o))
row_shown numbers name number (Some d) (Some v) e = if_shown numbers name number v (is_default d v) e
row_shown numbers name number (Some d) None e = refl
row_shown numbers name number None o e = refl

held_shown : (numbers : Numbering) (d : DeclaredField) (number : ℕ) (o : Option Value) → numbers d.name ≡ Some number
    → shown_shape numbers (Declared d o) ≡ as_shapes (held_by number o)
held_shown numbers d number None e = refl
held_shown numbers d number (Some v) e = one_shape (numbers d.name) (Some number) v e

if_unsigned : (b : Bool) (name : List ℕ) (v : Value) → all_signed (shown_if b name v) ≡ []
if_unsigned true name v = refl
if_unsigned false name v = refl

row_unsigned : (name : List ℕ) (d : Option FieldDefault) (o : Option Value) → all_signed (shown_field name d o) ≡ []
row_unsigned name (Some d) (Some v) = if_unsigned (not (is_default d v)) name v
row_unsigned name (Some d) None = refl
row_unsigned name None o = refl

module _ (s : SceneView) (routes : List Route) (state : List Fields) (n : ℕ) where
  abbrev p : PlanView
  p = plan s routes state

  rows_shown : (numbers : Numbering) (number : ℕ) (es : List FieldRowView) → AreNumbered numbers number es
      → all_shown numbers (shown_from p n number es) ≡ as_shapes (rows_held s state n number es)
  rows_shown numbers number [] h = refl
  rows_shown numbers number (e ∷ es) h =
      let o : Option Value = present_value p n number e.access e.field_type in
      flat_map-append (shown_shape numbers) (shown_field e.name e.default o) (shown_from p n (number + 1) es)
      ∙ (ap (λ (l : List FieldShape). l ++ all_shown numbers (shown_from p n (number + 1) es)) (row_shown numbers e.name number e.default o h.0)
      ∙ (ap (λ (l : List FieldShape). as_shapes (held_by number (unless_default e.default o)) ++ l) (rows_shown numbers (number + 1) es h.1)
      ∙ sym (as_shapes_append (held_by number (unless_default e.default o)) (rows_held s state n (number + 1) es))))

  declared_shown : (numbers : Numbering) (number : ℕ) (ds : List DeclaredField) → AreNumbered numbers number (map declared_entry ds)
      → all_shown numbers (declared_from p n number ds) ≡ as_shapes (declared_held s state n number ds)
  declared_shown numbers number [] h = refl
  declared_shown numbers number (d ∷ ds) h =
      let o : Option Value = held_value p n number d in
      ap (λ (l : List FieldShape). l ++ all_shown numbers (declared_from p n (number + 1) ds)) (held_shown numbers d number o h.0)
      ∙ (ap (λ (l : List FieldShape). as_shapes (held_by number o) ++ l) (declared_shown numbers (number + 1) ds h.1)
      ∙ sym (as_shapes_append (held_by number o) (declared_held s state n (number + 1) ds)))

  rows_unsigned : (number : ℕ) (es : List FieldRowView) → all_signed (shown_from p n number es) ≡ []
  rows_unsigned number [] = refl
  rows_unsigned number (e ∷ es) =
      let o : Option Value = present_value p n number e.access e.field_type in
      flat_map-append shown_signature (shown_field e.name e.default o) (shown_from p n (number + 1) es)
      ∙ (ap (λ (l : List Signature). l ++ all_signed (shown_from p n (number + 1) es)) (row_unsigned e.name e.default o)
      ∙ rows_unsigned (number + 1) es)

  declared_signed : (number : ℕ) (ds : List DeclaredField) → all_signed (declared_from p n number ds) ≡ signed ds
  declared_signed number [] = refl
  declared_signed number (d ∷ ds) = ap (λ (l : List Signature). declared_signature d ∷ l) (declared_signed (number + 1) ds)

  -- ---- a node

  -- what stands between its braces, with these fields
  abbrev pub shape_as : NodeType → List Shown → NodeShape
  shape_as t fields =
      record { fields = all_shown (numbering (Some t) (all_signed fields)) fields; interface = own_interface t (all_signed fields) }

  abbrev shown_both : NodeType → List DeclaredField → List Shown
  shown_both t ds = shown_from p n 0 (rows t) ++ declared_from p n (length (rows t)) ds

  abbrev held_both : NodeType → List DeclaredField → List HeldField
  held_both t ds = rows_held s state n 0 (rows t) ++ declared_held s state n (length (rows t)) ds

  signed_is : (t : NodeType) (ds : List DeclaredField) → all_signed (shown_both t ds) ≡ signed ds
  signed_is t ds =
      flat_map-append shown_signature (shown_from p n 0 (rows t)) (declared_from p n (length (rows t)) ds)
      ∙ (ap (λ (l : List Signature). l ++ all_signed (declared_from p n (length (rows t)) ds)) (rows_unsigned 0 (rows t))
      ∙ declared_signed (length (rows t)) ds)

  both_shown : (t : NodeType) (ds : List DeclaredField) (numbers : Numbering) → AreNumbered numbers 0 (rows t) → AreNumbered numbers (length (rows t)) (map declared_entry ds)
      → all_shown numbers (shown_both t ds) ≡ as_shapes (held_both t ds)
  both_shown t ds numbers h k =
      flat_map-append (shown_shape numbers) (shown_from p n 0 (rows t)) (declared_from p n (length (rows t)) ds)
      ∙ (ap (λ (l : List FieldShape). l ++ all_shown numbers (declared_from p n (length (rows t)) ds)) (rows_shown numbers 0 (rows t) h)
      ∙ (ap (λ (l : List FieldShape). as_shapes (rows_held s state n 0 (rows t)) ++ l) (declared_shown numbers (length (rows t)) ds k)
      ∙ sym (as_shapes_append (rows_held s state n 0 (rows t)) (declared_held s state n (length (rows t)) ds))))

  shape_is : (t : NodeType) (ds : List DeclaredField) → own_interface t (signed ds) ≡ signed ds → are_distinct (rows t ++ map declared_entry ds) ≡ true
      → shape_as t (shown_both t ds) ≡ record { fields = as_shapes (held_both t ds); interface = signed ds }
  shape_is t ds scripted distinct =
      let numbered = fields_numbered t ds scripted distinct in
      ap (λ (l : List Signature). record { fields = all_shown (numbering (Some t) l) (shown_both t ds); interface = own_interface t l }) (signed_is t ds)
      ∙ (ap (λ (l : List Signature). record { fields = all_shown (numbering (Some t) (signed ds)) (shown_both t ds); interface = l }) scripted
      ∙ ap (λ (l : List FieldShape). record { fields = l; interface = signed ds }) (both_shown t ds (numbering (Some t) (signed ds)) numbered.0 numbered.1))

  pub shape_shown : (node : SceneNode) → slice_get s.nodes n ≡ Some node → HasDistinctFields node
      → shape_as node.node_type (shown_fields p n node.node_type) ≡ written_shape s state n
  unfolding shown_fields
  shape_shown node is h =
      let t : NodeType = node.node_type in
      let ds : List DeclaredField = numbered_fields t node.declared in
      let declared : declared_at s n ≡ ds = ap (λ (o : Option SceneNode). option_map_or (λ (m : SceneNode). numbered_fields m.node_type m.declared) o []) is in
      ap (λ (l : List DeclaredField). shape_as t (shown_both t l)) declared
      ∙ (shape_is t ds (owned t node.declared h.scripted) h.distinct
      ∙ (ap (λ (l : List DeclaredField). record { fields = as_shapes (held_both t l); interface = signed l }) (sym declared)
      ∙ ap (λ (o : Option NodeType). record { fields = map field_shape (fields_by_type s state n o); interface = written_interface s n }) (sym (type_is s n node is))))
