-- The fields of each node of a document's scene have distinct names, and what follows for the
-- written scene.
use Rattle.std.proofs.Common.{◌≡◌, ℕ, ◌++◌, true, IsTrue, List, [], ◌∷◌, map, take, drop, Option, Some, None, Ok, slice_get, ◌⊎◌, inl, inr, refl, sym, ap, subst, ◌∙◌, arith, append_assoc, take-append-drop}
use Rattle.std.specs.Prelude.{is_none, option_map}
use Rattle.std.proofs.lemmas.List.{take-map}
use Rattle.x3d_values.specs.declared.node_type.NodeType.{NodeType}
use Rattle.x3d_values.specs.declared.node_type.NodeType.TheVariants.{Script}
use Rattle.x3d_values.specs.declared.table.FieldRow.{FieldRow}
use Rattle.x3d_values.specs.Tables.{FieldRowView, are_distinct, row_named, rows}
use Rattle.classic_tree.specs.declared.tree.Declaration.{Declaration}
use Rattle.proto_flat.specs.declared.flat.Flat.{Flat}
use Rattle.proto_flat.specs.declared.flat.FlatNode.{FlatNode}
use Rattle.laws_documents.specs.Signatures.{of_row}
use Rattle.scene_core.specs.declared.row.DeclaredField.{DeclaredField}
use Rattle.scene_core.specs.declared.scene.SceneNode.{SceneNode}
use Rattle.scene_core.specs.Building.{scene_of}
use Rattle.scene_core.specs.Scene.{SceneView}
use Rattle.scene_core.specs.Shape.{declaration_entry, declared_by, declared_entry, most_declared, numbered_fields}
use Rattle.laws_written.proofs.NumberedLists.{some_is, within}
use Rattle.laws_written.proofs.NumberedScenes.{IsSceneOf, found, label_in, numbers_of, scene_is}
use Rattle.laws_written.proofs.OrderFields.{HasValues, has_values}
use Rattle.laws_documents.proofs.Lists.{all_map}
use Rattle.laws_written.specs.Distinct.{HasDistinctFields}
use Rattle.laws_written.specs.FieldsFlats.{WrittenFieldsStay}
use Rattle.laws_written.specs.Interfaces.{IsDistinctInterface, IsNoneOf}
use Rattle.laws_written.specs.Scenes.{DocumentFieldsStay, FieldsAreDistinct}
use Rattle.laws_written.proofs.DistinctDocuments.{all_distinct}
use Rattle.laws_written.proofs.DistinctRows.{AreApart, apart, distinct_append, distinct_front}

-- the rows of each type have distinct names
abbrev pub AreRowsDistinct : Type 0
AreRowsDistinct = (t : NodeType) → IsTrue (are_distinct (rows t))

-- ---- of a type, and what is declared

none_mapped : (o : Option FieldRow) → option_map of_row o ≡ None → is_none o ≡ true
none_mapped None h = refl
none_mapped (Some row) h = absurd cc

entries_are : (ds : List (Declaration ℕ)) → map declaration_entry ds ≡ map declared_entry (map declared_by ds)
entries_are [] = refl
entries_are (d ∷ ds) = ap (λ (es : List FieldRowView). declaration_entry d ∷ es) (entries_are ds)

module _ (table : AreRowsDistinct) (t : NodeType) (interface : List (Declaration ℕ)) (h : IsDistinctInterface t interface) where
  abbrev all : List FieldRowView
  all = map declared_entry (map declared_by interface)

  all_rows : are_distinct (rows t ++ all) ≡ true
  all_rows =
      subst (λ (es : List FieldRowView). are_distinct (rows t ++ es) ≡ true) (entries_are interface)
      (distinct_append (rows t) (map declaration_entry interface) (table t) h.apart
      (all_map declaration_entry (IsNoneOf t) (λ (e : FieldRowView). AreApart e.name (rows t)) (λ d none. apart 0 d.name (rows t) (none_mapped (row_named 0 d.name (rows t)) none)) interface h.none_own))

  -- those that have numbers are the first
  numbered_rows : are_distinct (rows t ++ map declared_entry (numbered_fields t (map declared_by interface))) ≡ true
  numbered_rows =
      let many : ℕ = most_declared t in
      let parts : (rows t ++ take many all) ++ drop many all ≡ rows t ++ all =
      append_assoc (rows t) (take many all) (drop many all) ∙ ap (λ (es : List FieldRowView). rows t ++ es) (take-append-drop many all) in
      subst (λ (es : List FieldRowView). are_distinct (rows t ++ es) ≡ true) (take-map declared_entry many (map declared_by interface))
      (distinct_front (rows t ++ take many all) (drop many all) (subst (λ (es : List FieldRowView). are_distinct es ≡ true) (sym parts) all_rows))

  scripted_too : (t ≡ Script) ⊎ (interface ≡ []) → (t ≡ Script) ⊎ (map declared_by interface ≡ [])
  scripted_too (inl e) = inl e
  scripted_too (inr e) = inr (ap (λ (ds : List (Declaration ℕ)). map declared_by ds) e)

-- by the node's own type, and what it declares
abbrev IsDistinctNode : NodeType → List DeclaredField → Type 0
IsDistinctNode t ds = ((t ≡ Script) ⊎ (ds ≡ [])) × (are_distinct (rows t ++ map declared_entry (numbered_fields t ds)) ≡ true)

node_distinct : AreRowsDistinct → (from : FlatNode) (node : SceneNode) → HasValues from node → IsDistinctInterface from.node_type from.interface → HasDistinctFields node
node_distinct table from node v h =
    let made : IsDistinctNode from.node_type (map declared_by from.interface) =
    (scripted_too table from.node_type from.interface h h.scripted, numbered_rows table from.node_type from.interface h) in
    let same : IsDistinctNode node.node_type node.declared =
    subst (λ (t : NodeType). IsDistinctNode t node.declared) (sym v.node_type)
    (subst (λ (ds : List DeclaredField). IsDistinctNode from.node_type ds) (sym v.declared) made) in
    record { scripted = same.0; distinct = same.1 }

-- ---- the scene

module _ (f : Flat) (s : SceneView) (is_scene : scene_of f ≡ Ok s) where
  scene : IsSceneOf f s
  scene = scene_is f s is_scene

  -- of which node of the document it was made
  made_of : (n : ℕ) (node : SceneNode) → slice_get s.nodes n ≡ Some node → (x : ℕ) × (from : FlatNode) × (slice_get f.nodes x ≡ Some from) × HasValues from node
  made_of n node is =
      let l = within s.nodes n node is in
      let o = found (numbers_of f).order n (omega (arith, l, scene.many)) in
      let m = scene.each n o.0 o.1 in
      let same : m.node ≡ node = some_is m.node node (sym m.node_is ∙ is) in (
        o.0,
        m.flat,
        m.flat_is,
        subst (λ (k : SceneNode). HasValues m.flat k) same (has_values f.nodes (numbers_of f).numbers (label_in f n) m.flat m.node m.made),
      )

pub scenes_distinct : AreRowsDistinct → FieldsAreDistinct
scenes_distinct table d f s e is_scene n node is =
    let m = made_of f s is_scene n node is in node_distinct table m.1 node m.3 (all_distinct d f m.0 m.1 e m.2)

pub fields_stay : FieldsAreDistinct → WrittenFieldsStay → DocumentFieldsStay
fields_stay distinct stay d from s routes state again e is_scene few kept written =
    stay from s routes state again is_scene few kept (distinct d from s e is_scene) written
