-- The nodes in the fields that a node holds are those in the fields that its tree shows.
use Rattle.std.proofs.Common.{◌≡◌, ℕ, ◌+◌, Bool, true, false, not, ℤ, List, [], ◌∷◌, ◌++◌, length, map, if◌then◌else◌, Option, Some, None, slice_get, refl, sym, ap, ◌∙◌, append-nil}
use Rattle.std.specs.List.{flat_map}
use Rattle.std.proofs.lemmas.Grind.{flat_map-append}
use Rattle.std.proofs.lemmas.List.{map-append}
use Rattle.x3d_values.specs.declared.default.FieldDefault.{FieldDefault}
use Rattle.x3d_values.specs.declared.fields.Fields.{Fields}
use Rattle.x3d_values.specs.declared.node_type.NodeType.{NodeType}
use Rattle.x3d_values.specs.declared.value.Value.{Value}
use Rattle.x3d_values.specs.declared.value.Value.TheVariants as value
use Rattle.x3d_values.specs.Tables.{FieldRowView, rows}
use Rattle.x3d_values.specs.Values.{nodes_of}
use Rattle.proto_flat.specs.declared.flat.FlatField.{FlatField}
use Rattle.laws_documents.specs.Order.{nodes_in}
use Rattle.scene_core.specs.declared.row.DeclaredField.{DeclaredField}
use Rattle.scene_core.specs.declared.scene.Route.{Route}
use Rattle.scene_core.specs.declared.scene.SceneNode.{SceneNode}
use Rattle.scene_core.specs.Deep.{linked}
use Rattle.scene_core.specs.Scene.{SceneView, declared_at}
use Rattle.scene_text.specs.Defaulted.{is_default}
use Rattle.scene_text.specs.Raw.{color_run, integer_run, number_list, number_run, pair_run, string_list, truth_list, vector_run}
use Rattle.scene_text.specs.Tree.{PlanView, declared_from, held_value, present_value, shown_field, shown_fields, shown_from, shown_if}
use Rattle.laws_written.proofs.OrderShown.{links}
use Rattle.laws_written.proofs.Plans.{plan, type_is}
use Rattle.laws_written.specs.Fields.{HeldField, declared_held, fields_by_type, held_by, rows_held, unless_default, written_field, written_fields, written_value}

-- ---- values

no_truths : (truths : List Bool) → nodes_in (truth_list truths) ≡ []
no_truths [] = refl
no_truths (t ∷ ts) = refl

no_numbers : (numbers : List ℤ) → nodes_in (number_list numbers) ≡ []
no_numbers [] = refl
no_numbers (n ∷ ns) = refl

no_texts : (texts : List (List ℕ)) → nodes_in (string_list texts) ≡ []
no_texts [] = refl
no_texts (t ∷ ts) = refl

value_nodes : (v : Value) → nodes_in (written_value v) ≡ nodes_of v
value_nodes (value.SFNode (Some n)) = refl
value_nodes (value.SFNode None) = refl
value_nodes (value.MFNode []) = refl
value_nodes (value.MFNode (n ∷ ns)) = refl
value_nodes (value.SFBool v) = refl
value_nodes (value.SFInt32 v) = refl
value_nodes (value.SFFloat v) = refl
value_nodes (value.SFTime v) = refl
value_nodes (value.SFString v) = refl
value_nodes (value.SFVec2f v) = refl
value_nodes (value.SFVec3f v) = refl
value_nodes (value.SFColor v) = refl
value_nodes (value.MFBool v) = no_truths v
value_nodes (value.MFInt32 v) = no_numbers (flat_map integer_run v)
value_nodes (value.MFFloat v) = no_numbers (flat_map number_run v)
value_nodes (value.MFTime v) = no_numbers (flat_map number_run v)
value_nodes (value.MFString v) = no_texts v
value_nodes (value.MFVec2f v) = no_numbers (flat_map pair_run v)
value_nodes (value.MFVec3f v) = no_numbers (flat_map vector_run v)
value_nodes (value.MFColor v) = no_numbers (flat_map color_run v)

-- ---- fields

abbrev pub nodes_within : List FlatField → List ℕ
nodes_within fields = flat_map (λ (field : FlatField). nodes_in field.value) fields

abbrev inside : List HeldField → List ℕ
inside hs = nodes_within (map written_field hs)

inside_append : (xs ys : List HeldField) → inside (xs ++ ys) ≡ inside xs ++ inside ys
inside_append xs ys =
    ap nodes_within (map-append written_field xs ys) ∙ flat_map-append (λ (field : FlatField). nodes_in field.value) (map written_field xs) (map written_field ys)

if_inside : (name : List ℕ) (number : ℕ) (v : Value) (b : Bool) → inside (held_by number (if b then None else Some v)) ≡ flat_map links (shown_if (not b) name v)
if_inside name number v true = refl
if_inside name number v false = ap (λ (l : List ℕ). l ++ []) (value_nodes v)

row_inside : (name : List ℕ) (number : ℕ) (d : Option FieldDefault) (o : Option Value) → inside (held_by number (unless_default d o)) ≡ flat_map links (shown_field name d o)
row_inside name number (Some d) (Some v) = if_inside name number v (is_default d v)
row_inside name number (Some d) None = refl
row_inside name number None o = refl

held_inside : (number : ℕ) (o : Option Value) → inside (held_by number o) ≡ linked o
held_inside number None = refl
held_inside number (Some v) = append-nil (nodes_in (written_value v)) ∙ value_nodes v

module _ (s : SceneView) (routes : List Route) (state : List Fields) (n : ℕ) where
  abbrev p : PlanView
  p = plan s routes state

  rows_inside : (number : ℕ) (es : List FieldRowView) → inside (rows_held s state n number es) ≡ flat_map links (shown_from p n number es)
  rows_inside number [] = refl
  rows_inside number (e ∷ es) =
      let o : Option Value = present_value p n number e.access e.field_type in
      inside_append (held_by number (unless_default e.default o)) (rows_held s state n (number + 1) es)
      ∙ (ap (λ (l : List ℕ). l ++ inside (rows_held s state n (number + 1) es)) (row_inside e.name number e.default o)
      ∙ (ap (λ (l : List ℕ). flat_map links (shown_field e.name e.default o) ++ l) (rows_inside (number + 1) es)
      ∙ sym (flat_map-append links (shown_field e.name e.default o) (shown_from p n (number + 1) es))))

  declared_inside : (number : ℕ) (ds : List DeclaredField) → inside (declared_held s state n number ds) ≡ flat_map links (declared_from p n number ds)
  declared_inside number [] = refl
  declared_inside number (d ∷ ds) =
      let o : Option Value = held_value p n number d in
      inside_append (held_by number o) (declared_held s state n (number + 1) ds)
      ∙ (ap (λ (l : List ℕ). l ++ inside (declared_held s state n (number + 1) ds)) (held_inside number o)
      ∙ ap (λ (l : List ℕ). linked o ++ l) (declared_inside (number + 1) ds))

  pub fields_inside : (node : SceneNode) → slice_get s.nodes n ≡ Some node → nodes_within (written_fields s state n) ≡ flat_map links (shown_fields p n node.node_type)
  unfolding shown_fields
  fields_inside node is =
      let t : NodeType = node.node_type in
      let ds : List DeclaredField = declared_at s n in
      ap (λ (o : Option NodeType). nodes_within (fields_by_type s state n o)) (type_is s n node is)
      ∙ (inside_append (rows_held s state n 0 (rows t)) (declared_held s state n (length (rows t)) ds)
      ∙ (ap (λ (l : List ℕ). l ++ inside (declared_held s state n (length (rows t)) ds)) (rows_inside 0 (rows t))
      ∙ (ap (λ (l : List ℕ). flat_map links (shown_from p n 0 (rows t)) ++ l) (declared_inside (length (rows t)) ds)
      ∙ sym (flat_map-append links (shown_from p n 0 (rows t)) (declared_from p n (length (rows t)) ds)))))
