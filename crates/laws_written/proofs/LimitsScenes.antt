-- What is written of a scene has known nodes, whose fields are known and given once, and in which each USE names a
-- node: so it has a flat form, or is too large.
use Rattle.std.proofs.Common.{◌≡◌, ℕ, zero, suc, Bool, true, false, if◌then◌else◌, ℤ, List, [], ◌∷◌, ◌++◌, codes, get_or, length, map, Option, Some, None, slice_get, slice_set, replicate, refl, sym, ap, subst, ◌∙◌, append_assoc, append-nil}
use Rattle.std.specs.Prelude.{option_map}
use Rattle.std.specs.List.{AllByRecursion, flat_map, fold}
use Rattle.std.proofs.lemmas.Grind.{flat_map-append}
use Rattle.std.proofs.lemmas.Option.{slice_get-map}
use Rattle.x3d_values.specs.declared.fields.Fields.{Fields}
use Rattle.x3d_values.specs.declared.node_type.NodeType.{NodeType}
use Rattle.x3d_values.specs.declared.node_type.NodeType.TheVariants.{Switch}
use Rattle.x3d_values.specs.declared.value.Value.{Value}
use Rattle.x3d_values.specs.declared.value.Value.TheVariants as value
use Rattle.x3d_values.specs.Names.{node_type_name, node_type_named}
use Rattle.x3d_values.specs.Ranges.{max_depth}
use Rattle.classic_tree.specs.declared.tree.BodyItem.{BodyItem}
use Rattle.classic_tree.specs.declared.tree.BodyItem.TheVariants as item
use Rattle.classic_tree.specs.declared.tree.Declaration.{Declaration}
use Rattle.classic_tree.specs.declared.tree.Given.{Given}
use Rattle.classic_tree.specs.declared.tree.Given.TheVariants as given
use Rattle.classic_tree.specs.declared.tree.NodeText.{NodeText}
use Rattle.classic_tree.specs.declared.tree.NodeText.TheVariants as node
use Rattle.classic_tree.specs.declared.tree.RawValue.TheVariants as raw
use Rattle.classic_tree.specs.declared.tree.Statement.{Statement}
use Rattle.laws_documents.specs.Uses.{Reading, read, some}
use Rattle.laws_documents.proofs.Lists.{all_append, all_flat, all_push}
use Rattle.scene_core.specs.declared.row.DeclaredField.{DeclaredField}
use Rattle.scene_core.specs.declared.scene.Route.{Route}
use Rattle.scene_core.specs.declared.scene.SceneNode.{SceneNode}
use Rattle.scene_core.specs.Scene.{SceneView, label_of, type_at}
use Rattle.scene_text.specs.Raw.{color_run, integer_run, number_list, number_run, pair_run, string_list, truth_list, vector_run}
use Rattle.scene_text.specs.Statements.{helper_root, helpers_of, root_tree, roots_of, route_of, routes_of, scene_document, statements_of, switch_of}
use Rattle.scene_text.specs.Tree.{Declared, Makes, Plain, PlanView, Grows, def_name, each, field_tree, new_type, node_tree, one_more, opened, shown_fields, value_tree}
use Rattle.scene_text.specs.Tree.{Shown as Field}
use Rattle.laws_written.proofs.NumberedLists.{some_is}
use Rattle.laws_written.specs.Nodes.{AreNodesRead, WrittenNodesAreRead, written_nodes, written_roots}
use Rattle.laws_written.proofs.Braces.{type_named}
use Rattle.laws_written.proofs.Plans.{plan}
use Rattle.laws_written.specs.Distinct.{HaveDistinctFields}
use Rattle.laws_documents.specs.Parts.{Braces, BraceField, BraceItem, entries, in_item, in_node, in_statement, in_value, parts}
use Rattle.laws_documents.specs.Sound.{AllNamed, AreNamed, IsOfType, IsSound, SoundDocumentsAreFlat}
use Rattle.laws_written.specs.LimitsWritten.{WrittenScenesAreFlat}
use Rattle.laws_documents.proofs.PartTexts.{in_full, in_node_statement, in_route, in_use, part_declaration, part_field}
use Rattle.laws_written.proofs.LimitsShown.{shown_entries, shown_entry, shown_once}
use Rattle.laws_documents.proofs.SoundParts.{AreSound}

-- ---- of each in turn

module _ {A B : Type 0} (P : B → Type 0) (make : Makes A B) (k : (seen : List Bool) (x : A) → P (make seen x).made) where
  each_more : (m : Grows (List B)) (xs : List A) → AllByRecursion P m.made → AllByRecursion P (fold (one_more make) m xs).made
  each_more m [] h = h
  each_more m (x ∷ xs) h = each_more (one_more make m x) xs (all_push P m.made (make m.seen x).made h (k m.seen x))

  each_made : (seen : List Bool) (xs : List A) → AllByRecursion P (each make seen xs).made
  each_made seen xs = each_more (record { seen = seen; made = [] }) xs tt

module _ {A B C : Type 0} (make : Makes A B) (f : B → List C) (g : A → List C) (k : (seen : List Bool) (x : A) → f (make seen x).made ≡ g x) where
  gives_more : (m : Grows (List B)) (xs : List A) → flat_map f (fold (one_more make) m xs).made ≡ flat_map f m.made ++ flat_map g xs
  gives_more m [] = sym (append-nil (flat_map f m.made))
  gives_more m (x ∷ xs) =
      let b : B = (make m.seen x).made in
      gives_more (one_more make m x) xs
      ∙ (ap (λ (l : List C). l ++ flat_map g xs) (flat_map-append f m.made (b ∷ []) ∙ ap (λ (l : List C). flat_map f m.made ++ l) (append-nil (f b) ∙ k m.seen x))
      ∙ append_assoc (flat_map f m.made) (g x) (flat_map g xs))

  gives : (seen : List Bool) (xs : List A) → flat_map f (each make seen xs).made ≡ flat_map g xs
  gives seen xs = gives_more (record { seen = seen; made = [] }) xs

abbrev NodeSound : NodeText → Type 0
NodeSound n = AreSound (in_node n)

abbrev ItemSound : BodyItem → Type 0
ItemSound i = AreSound (in_item i)

abbrev StatementSound : Statement → Type 0
StatementSound s = AreSound (in_statement s)

nodes_sound : (nodes : List NodeText) → AllByRecursion NodeSound nodes → AreSound (flat_map in_node nodes)
nodes_sound nodes h = all_flat in_node NodeSound IsSound (λ n k. k) nodes h

-- ---- values without nodes

no_truths : (truths : List Bool) → AreSound (in_value in_node (truth_list truths))
no_truths [] = tt
no_truths (t ∷ ts) = tt

no_numbers : (numbers : List ℤ) → AreSound (in_value in_node (number_list numbers))
no_numbers [] = tt
no_numbers (n ∷ ns) = tt

no_texts : (texts : List (List ℕ)) → AreSound (in_value in_node (string_list texts))
no_texts [] = tt
no_texts (t ∷ ts) = tt

-- ---- fields

module _ (tree : Makes ℕ NodeText) (k : (seen : List Bool) (n : ℕ) → NodeSound (tree seen n).made) where
  value_sound : (seen : List Bool) (v : Value) → AreSound (in_value in_node (value_tree tree seen v).made)
  value_sound seen (value.SFNode (Some n)) = k seen n
  value_sound seen (value.MFNode []) = tt
  value_sound seen (value.MFNode (n ∷ ns)) = nodes_sound (each tree seen (n ∷ ns)).made (each_made NodeSound tree k seen (n ∷ ns))
  value_sound seen (value.SFNode None) = tt
  value_sound seen (value.SFBool v) = tt
  value_sound seen (value.SFInt32 v) = tt
  value_sound seen (value.SFFloat v) = tt
  value_sound seen (value.SFTime v) = tt
  value_sound seen (value.SFString v) = tt
  value_sound seen (value.SFVec2f v) = tt
  value_sound seen (value.SFVec3f v) = tt
  value_sound seen (value.SFColor v) = tt
  value_sound seen (value.MFBool v) = no_truths v
  value_sound seen (value.MFInt32 v) = no_numbers (flat_map integer_run v)
  value_sound seen (value.MFFloat v) = no_numbers (flat_map number_run v)
  value_sound seen (value.MFTime v) = no_numbers (flat_map number_run v)
  value_sound seen (value.MFString v) = no_texts v
  value_sound seen (value.MFVec2f v) = no_numbers (flat_map pair_run v)
  value_sound seen (value.MFVec3f v) = no_numbers (flat_map vector_run v)
  value_sound seen (value.MFColor v) = no_numbers (flat_map color_run v)

  abbrev declaration_of : DeclaredField → Given NodeText → Declaration NodeText
  declaration_of d g = record { line = 0; access = d.access; field_type = d.field_type; name = d.name; given = g }

  field_sound : (seen : List Bool) (x : Field) → ItemSound (field_tree tree seen x).made
  field_sound seen (Plain name v) =
      subst (λ (i : BraceItem). AreSound i.inside) (sym (part_field 0 name (given.Value (value_tree tree seen v).made))) (value_sound seen v)
  field_sound seen (Declared d None) = subst (λ (i : BraceItem). AreSound i.inside) (sym (part_declaration (declaration_of d given.Nothing))) tt
  field_sound seen (Declared d (Some v)) =
      subst (λ (i : BraceItem). AreSound i.inside) (sym (part_declaration (declaration_of d (given.Value (value_tree tree seen v).made)))) (value_sound seen v)

  field_entries : (seen : List Bool) (x : Field) → entries (field_tree tree seen x).made ≡ shown_entry x
  field_entries seen (Plain name v) = ap (λ (i : BraceItem). i.entries) (part_field 0 name (given.Value (value_tree tree seen v).made))
  field_entries seen (Declared d None) = ap (λ (i : BraceItem). i.entries) (part_declaration (declaration_of d given.Nothing))
  field_entries seen (Declared d (Some v)) = ap (λ (i : BraceItem). i.entries) (part_declaration (declaration_of d (given.Value (value_tree tree seen v).made)))

-- ---- nodes

full_sound : (name : Option (List ℕ)) (word : List ℕ) (items : List BodyItem) → AllByRecursion ItemSound items → IsOfType (node_type_named word) (flat_map entries items)
    → NodeSound (node.Full 0 name word items)
full_sound name word items h k =
    subst AreSound (sym (in_full 0 name word items))
    (all_append IsSound (flat_map in_item items) (Braces word (flat_map entries items) ∷ []) (all_flat in_item ItemSound IsSound (λ i j. j) items h) (k, tt))

-- the fields of each node are known, and each stands once
abbrev AreKnown : PlanView → Type 0
AreKnown p = (n : ℕ) (t : NodeType) → type_at p.scene n ≡ Some t → IsOfType (Some t) (shown_entries (shown_fields p n t))

module _ (p : PlanView) (known : AreKnown p) where
  opened_sound : (tree : Makes ℕ NodeText) → ((seen : List Bool) (n : ℕ) → NodeSound (tree seen n).made) → (seen : List Bool) (n : ℕ) (o : Option NodeType)
      → ((t : NodeType) → o ≡ Some t → type_at p.scene n ≡ Some t) → NodeSound (opened p tree seen n o).made
  opened_sound tree k seen n None h = subst AreSound (sym (in_use 0 (label_of p.scene n))) tt
  opened_sound tree k seen n (Some t) h =
      let fields : List Field = shown_fields p n t in
      let items : List BodyItem = (each (field_tree tree) (slice_set seen n true) fields).made in
      let same : flat_map entries items ≡ shown_entries fields = gives (field_tree tree) entries shown_entry (field_entries tree k) (slice_set seen n true) fields in
      full_sound (def_name p n) (node_type_name t) items (each_made ItemSound (field_tree tree) (field_sound tree k) (slice_set seen n true) fields)
      (subst (λ (u : Option NodeType). IsOfType u (flat_map entries items)) (sym (type_named t))
      (subst (λ (es : List BraceField). IsOfType (Some t) es) (sym same) (known n t (h t refl))))

  new_is : (b : Bool) (o : Option NodeType) (t : NodeType) → (if b then None else o) ≡ Some t → o ≡ Some t
  new_is true o t e = absurd cc
  new_is false o t e = e

  tree_sound : (depth : ℕ) (seen : List Bool) (n : ℕ) → NodeSound (node_tree depth p seen n).made
  unfolding node_tree
  tree_sound zero seen n = subst AreSound (sym (in_use 0 (label_of p.scene n))) tt
  tree_sound (suc depth) seen n =
      opened_sound (node_tree depth p) (tree_sound depth) seen n (new_type p seen n) (λ t e. new_is (get_or seen n true) (type_at p.scene n) t e)

  -- ---- statements

  root_sound : (seen : List Bool) (n : ℕ) → StatementSound (root_tree (node_tree max_depth p) seen n).made
  root_sound seen n = subst AreSound (sym (in_node_statement (node_tree max_depth p seen n).made)) (tree_sound max_depth seen n)

  switch_known : IsOfType (Some Switch) (shown_entry (Plain (codes "children") (value.MFNode [])))
  switch_known = (refl, tt)

  switch_sound : (trees : List NodeText) → AllByRecursion NodeSound trees → NodeSound (switch_of trees)
  switch_sound trees h =
      let content : BodyItem = item.Field 0 (codes "children") (given.Value (raw.NodeList trees)) in
      let is = part_field 0 (codes "children") (given.Value (raw.NodeList trees)) in
      full_sound None (codes "Switch") (content ∷ []) (subst (λ (i : BraceItem). AreSound i.inside) (sym is) (nodes_sound trees h), tt)
      (subst (λ (u : Option NodeType). IsOfType u (flat_map entries (content ∷ []))) (sym (type_named Switch))
      (subst (λ (i : BraceItem). IsOfType (Some Switch) (i.entries ++ [])) (sym is) switch_known))

  last_sound : (trees : List NodeText) → AllByRecursion NodeSound trees → AllByRecursion StatementSound (helper_root trees)
  last_sound [] h = tt
  last_sound (tree ∷ trees) h = (subst AreSound (sym (in_node_statement (switch_of (tree ∷ trees)))) (switch_sound (tree ∷ trees) h), tt)

  routes_sound : (s : SceneView) (routes : List Route) → AllByRecursion StatementSound (routes_of s routes)
  routes_sound s [] = tt
  routes_sound s (route ∷ routes) = (subst AreSound (sym (in_route (route_of s route))) tt, routes_sound s routes)

  all_sound : AreSound (flat_map in_statement (statements_of p))
  unfolding statements_of
  all_sound =
      let roots : List Statement = (roots_of p).made in
      let last : List Statement = helper_root (helpers_of p (roots_of p).seen).made in
      let routes : List Statement = routes_of p.scene p.routes in
      all_flat in_statement StatementSound IsSound (λ s k. k) (roots ++ last ++ routes)
      (all_append StatementSound (roots ++ last) routes
      (all_append StatementSound roots last
      (each_made StatementSound (root_tree (node_tree max_depth p)) root_sound (replicate (length p.scene.nodes) false) p.scene.roots)
      (last_sound (helpers_of p (roots_of p).seen).made (each_made NodeSound (node_tree max_depth p) (tree_sound max_depth) (roots_of p).seen p.scene.helpers)))
      (routes_sound p.scene p.routes))

-- ---- names

all_some : (ns : List ℕ) → AreNamed (map some ns)
all_some [] = tt
all_some (n ∷ ns) = (refl, all_some ns)

all_closed : (ns : List (List ℕ)) → AllByRecursion AreNamed (map (map some) ns)
all_closed [] = tt
all_closed (n ∷ ns) = (all_some n, all_closed ns)

read_named : (s : SceneView) (r : Reading) → AreNodesRead s r → AllNamed r
read_named s r h = record {
  closed = subst (AllByRecursion AreNamed) (sym h.0) (all_closed (written_nodes s));
  here = subst AreNamed (sym h.1) (all_some (written_roots s));
}

-- ---- a document's scene

module _ (scene : SceneView) (routes : List Route) (state : List Fields) (distinct : HaveDistinctFields scene) where
  abbrev p : PlanView
  p = plan scene routes state

  known_by : (n : ℕ) (t : NodeType) (o : Option SceneNode) → slice_get scene.nodes n ≡ o → option_map (λ (m : SceneNode). m.node_type) o ≡ Some t
      → IsOfType (Some t) (shown_entries (shown_fields p n t))
  known_by n t None is e = absurd cc
  known_by n t (Some node) is e =
      subst (λ (u : NodeType). IsOfType (Some u) (shown_entries (shown_fields p n u))) (some_is node.node_type t e) (shown_once p n node is (distinct n node is))

  all_known : AreKnown p
  all_known n t e = known_by n t (slice_get scene.nodes n) refl (sym (slice_get-map (λ (m : SceneNode). m.node_type) scene.nodes n) ∙ e)

  document_sound : AreSound (parts (scene_document scene routes state))
  unfolding scene_document
  document_sound = all_sound p all_known

pub all_flat_or_large : SoundDocumentsAreFlat → WrittenNodesAreRead → WrittenScenesAreFlat
all_flat_or_large law named from scene routes state is few kept distinct =
    let d = scene_document scene routes state in
    law d (document_sound scene routes state distinct) (read_named scene (read d) (named from scene routes state is few kept))
