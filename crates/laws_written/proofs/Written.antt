-- The document that a writable scene is written as is spellable.
use Rattle.std.proofs.Common.{◌≡◌, ℕ, ◌-◌, Bool, false, List, [], ◌∷◌, ◌++◌, codes, length, map, Option, Some, None, slice_get, refl, sym, ap, subst, ◌∙◌, inl, inr, arith}
use Rattle.std.specs.Prelude.{option_map, unwrap_or, replicate}
use Rattle.std.specs.List.{AllByRecursion}
use Rattle.std.specs.Option.{option_map_or}
use Rattle.std.proofs.lemmas.Option.{slice_get-map}
use Rattle.x3d_values.specs.declared.fields.Fields.{Fields}
use Rattle.x3d_values.specs.declared.node_type.NodeType.{NodeType}
use Rattle.x3d_values.specs.declared.node_type.NodeType.TheVariants.{Switch}
use Rattle.x3d_values.specs.Names.{node_type_name}
use Rattle.x3d_values.specs.Ranges.{max_depth}
use Rattle.x3d_values.specs.Tables.{FieldRowView, rows}
use Rattle.classic_bytes.specs.Bytes.{begins_name, continues_name, is_digit}
use Rattle.classic_tree.specs.declared.tree.BodyItem.TheVariants as held
use Rattle.classic_tree.specs.declared.tree.Meta.{Meta}
use Rattle.classic_tree.specs.declared.tree.NodeText.{NodeText}
use Rattle.classic_tree.specs.declared.tree.Statement.{Statement}
use Rattle.classic_tree.specs.declared.tree.Statement.TheVariants as stands
use Rattle.classic_tree.specs.declared.tree.Given.TheVariants as given
use Rattle.classic_tree.specs.declared.tree.RawValue.TheVariants as raw
use Rattle.classic_round_trip.proofs.Documents.{spelled_by_text}
use Rattle.classic_round_trip.specs.Spellable.{IsNoneOf, IsFreeName, IsSpellableRoute, IsSpellableNode, IsSpellableProto, IsSpellableItem, IsSpellableTopStatement, AreSpellableStatements, IsSpellable, head_words, unread_words}
use Rattle.scene_core.specs.declared.row.DeclaredField.{DeclaredField}
use Rattle.scene_core.specs.declared.scene.End.{End}
use Rattle.scene_core.specs.declared.scene.Route.{Route}
use Rattle.scene_core.specs.declared.scene.SceneNode.{SceneNode}
use Rattle.scene_core.specs.Scene.{SceneView, field_name, shape_of, rows_at}
use Rattle.scene_core.specs.Shape.{Shape, rows_of, declared_entry, numbered_fields, most_declared}
use Rattle.scene_text.specs.Places.{named}
use Rattle.scene_text.specs.SceneText.{scene_text}
use Rattle.scene_text.specs.Statements.{route_of, switch_of, helper_root, root_tree, roots_of, helpers_of, routes_of, statements_of, scene_document}
use Rattle.scene_text.specs.Tree.{PlanView, each, node_tree}
use Rattle.laws_written.specs.Writable.{IsShallow, IsEnd, IsWritableNode, IsWritableRoute, IsWritable}
use Rattle.laws_written.specs.WrittenTexts.{WrittenScenesSpell}
use Rattle.laws_written.proofs.Lists.{all_append, all_map, all_weaker, all_take, all_at, each_all, found}
use Rattle.laws_written.proofs.TextNames.{IsFieldName, free_name, not_same, no_statement, rows_free, type_free}
use Rattle.laws_written.proofs.TextNodes.{NoTypes, label_free, node_spelled}

-- ---- words that no statement begins with

abbrev Words : Type 0
Words = List (List ℕ)

no_unread : (t : NodeType) → IsNoneOf unread_words (node_type_name t)
no_unread t = let h = no_statement t in h.1.1.1

no_head : (metas : List Meta) (components : List (List ℕ)) (profile : Option (List ℕ)) (t : NodeType)
    → IsNoneOf (head_words metas components profile ++ unread_words) (node_type_name t)
no_head (m ∷ ms) cs pr t = let h = no_statement t in (h.0, h.1.1.1)
no_head [] (c ∷ cs) pr t = let h = no_statement t in (h.0, (h.1.0, h.1.1.1))
no_head [] [] (Some name) t = let h = no_statement t in (h.0, (h.1.0, h.1.1.1))
no_head [] [] None t = no_statement t

-- ---- routes

module _ (s : SceneView) (nodes : (n : ℕ) (node : SceneNode) → slice_get s.nodes n ≡ Some node → IsWritableNode node) where
  abbrev Named : FieldRowView → Type 0
  Named e = IsFreeName e.name

  rows_named : (node : SceneNode) → IsWritableNode node → AllByRecursion Named (rows_of (shape_of node))
  rows_named node h =
      all_append Named (rows node.node_type) (map declared_entry (numbered_fields node.node_type node.declared))
      (all_weaker (λ (e : FieldRowView). IsFieldName e.name) Named (λ e f. f.0) (rows node.node_type) (rows_free node.node_type))
      (all_map declared_entry (λ (d : DeclaredField). IsFreeName d.name) Named (λ d f. f) (numbered_fields node.node_type node.declared)
      (all_take (λ (d : DeclaredField). IsFreeName d.name) (most_declared node.node_type) node.declared h.declared))

  rows_are : (n : ℕ) (node : SceneNode) → slice_get s.nodes n ≡ Some node → rows_at s n ≡ rows_of (shape_of node)
  rows_are n node is =
      ap (λ (o : Option Shape). option_map_or rows_of o [])
      (slice_get-map shape_of s.nodes n ∙ ap (λ (o : Option SceneNode). option_map shape_of o) is)

  field_free : (end : End) → IsEnd s end → IsFreeName (field_name s end)
  field_free end h =
      let f = found s.nodes end.node h.0 in
      let e : field_name s end ≡ h.1.0.name = ap (λ (o : Option FieldRowView). unwrap_or (option_map (λ (e : FieldRowView). e.name) o) []) h.1.1 in
      let is : slice_get (rows_of (shape_of f.0)) end.field ≡ Some h.1.0 =
      ap (λ (es : List FieldRowView). slice_get es end.field) (sym (rows_are end.node f.0 f.1)) ∙ h.1.1 in
      subst IsFreeName (sym e) (all_at Named (rows_of (shape_of f.0)) end.field h.1.0 (rows_named f.0 (nodes end.node f.0 f.1)) is)

-- ---- statements

module _ (p : PlanView) (w : IsWritable p.scene p.routes p.state) where
  route_spelled : (r : Route) → IsWritableRoute p.scene r → IsSpellableRoute (route_of p.scene r)
  route_spelled r h = (
    label_free p.scene w.few w.nodes r.source.node h.0.0,
    field_free p.scene w.nodes r.source h.0,
    label_free p.scene w.few w.nodes r.target.node h.1.0,
    field_free p.scene w.nodes r.target h.1,
  )

  abbrev Top : Words → Statement → Type 0
  Top words = IsSpellableTopStatement words

  node_top : (words : Words) (node : NodeText) → IsSpellableNode max_depth words node → Top words (stands.Node node)
  node_top words node h = inl (record { node = node; is = refl; spellable = h })

  route_top : (words : Words) (r : Route) → IsWritableRoute p.scene r → Top words (stands.Route (route_of p.scene r))
  route_top words r h = inr (inl (record { route = route_of p.scene r; is = refl; spellable = route_spelled r h }))

  routes_top : (words : Words) (rs : List Route) → AllByRecursion (IsWritableRoute p.scene) rs → AllByRecursion (Top words) (routes_of p.scene rs)
  routes_top words rs h = all_map (λ r. stands.Route (route_of p.scene r)) (IsWritableRoute p.scene) (Top words) (route_top words) rs h

  roots_top : (words : Words) → NoTypes p w words → (seen : List Bool) (ns : List ℕ) → AllByRecursion (IsShallow p.scene max_depth) ns
      → AllByRecursion (Top words) (each (root_tree (node_tree max_depth p)) seen ns).made
  roots_top words unlike seen ns h =
      each_all (root_tree (node_tree max_depth p)) (IsShallow p.scene max_depth) (Top words)
      (λ u n k. node_top words (node_tree max_depth p u n).made (node_spelled p w max_depth max_depth words (omega arith) unlike n k u))
      (record { seen = seen; made = [] }) ns tt h

  -- ---- helpers

  children : (words : Words) (tree : NodeText) (trees : List NodeText) → AllByRecursion (IsSpellableNode (max_depth - 1) []) (tree ∷ trees)
      → IsSpellableItem (IsSpellableNode (max_depth - 1) []) (IsSpellableProto (max_depth - 1)) (codes "Switch")
      (held.Field 0 (codes "children") (given.Value (raw.NodeList (tree ∷ trees))))
  unfolding begins_name continues_name is_digit
  children words tree trees h =
      inl (record {
        at = 0;
        name = codes "children";
        value = given.Value (raw.NodeList (tree ∷ trees));
        is = refl;
        named = free_name (codes "children") refl;
        other = not_same (codes "children") (codes "EXTERNPROTO") refl;
        given = h;
      })

  switch_spelled : (words : Words) → NoTypes p w words → (tree : NodeText) (trees : List NodeText)
      → AllByRecursion (IsSpellableNode (max_depth - 1) []) (tree ∷ trees) → IsSpellableNode max_depth words (switch_of (tree ∷ trees))
  unfolding IsSpellableNode
  switch_spelled words unlike tree trees h =
      inr (record {
        at = 0;
        def = None;
        node_type = codes "Switch";
        items = held.Field 0 (codes "children") (given.Value (raw.NodeList (tree ∷ trees))) ∷ [];
        is = refl;
        defined = tt;
        typed = type_free Switch;
        begins = unlike Switch;
        body = (children words tree trees h, tt);
      })

  switch_top : (words : Words) → NoTypes p w words → (trees : List NodeText) → AllByRecursion (IsSpellableNode (max_depth - 1) []) trees
      → AllByRecursion (Top words) (helper_root trees)
  switch_top words unlike [] h = tt
  switch_top words unlike (tree ∷ trees) h = (node_top words (switch_of (tree ∷ trees)) (switch_spelled words unlike tree trees h), tt)

  helpers_spelled : (seen : List Bool) → AllByRecursion (IsSpellableNode (max_depth - 1) []) (helpers_of p seen).made
  helpers_spelled seen =
      each_all (node_tree max_depth p) (IsShallow p.scene (max_depth - 1)) (IsSpellableNode (max_depth - 1) [])
      (λ u n k. node_spelled p w (max_depth - 1) max_depth [] (omega arith) (λ t. tt) n k u)
      (record { seen = seen; made = [] }) p.scene.helpers tt w.helpers

  -- ---- all statements

  all_top : (words : Words) → NoTypes p w words → AllByRecursion (Top words) (statements_of p)
  unfolding statements_of
  all_top words unlike =
      let seen : List Bool = (roots_of p).seen in
      let helpers : List NodeText = (helpers_of p seen).made in
      all_append (Top words) ((roots_of p).made ++ helper_root helpers) (routes_of p.scene p.routes)
      (all_append (Top words) (roots_of p).made (helper_root helpers) (roots_top words unlike (replicate (length p.scene.nodes) false) p.scene.roots w.roots)
      (switch_top words unlike helpers (helpers_spelled seen)))
      (routes_top words p.routes w.ends)

  first_top : (words : Words) (ss : List Statement) → AllByRecursion (Top (words ++ unread_words)) ss → AllByRecursion (Top unread_words) ss
      → AreSpellableStatements words ss
  first_top words [] h k = tt
  first_top words (s ∷ ss) h k = (h.0, k.1)

  pub statements_spelled : (metas : List Meta) (components : List (List ℕ)) (profile : Option (List ℕ))
      → AreSpellableStatements (head_words metas components profile) (statements_of p)
  statements_spelled metas components profile =
      let words : Words = head_words metas components profile in
      first_top words (statements_of p) (all_top (words ++ unread_words) (no_head metas components profile)) (all_top unread_words no_unread)

-- ---- the document

planned : SceneView → List Route → List Fields → PlanView
planned s routes state = record { scene = s; routes = routes; state = state; named = named s routes }

pub document_spellable : (s : SceneView) (routes : List Route) (state : List Fields) → IsWritable s routes state → IsSpellable (scene_document s routes state)
unfolding scene_document planned
document_spellable s routes state w = record {
  profile = w.profile;
  components = w.components;
  metas = w.metas;
  statements = statements_spelled (planned s routes state) w s.header.metas s.header.components s.header.profile;
}

pub written_scenes_spell : WrittenScenesSpell
unfolding scene_text
written_scenes_spell s routes state w = spelled_by_text (scene_document s routes state) (document_spellable s routes state w)
