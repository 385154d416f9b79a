-- What stands between the braces of a written scene is what stands between those of its nodes.
use Rattle.std.proofs.Common.{◌≡◌, ℕ, ◌<◌, Bool, false, List, [], ◌∷◌, ◌++◌, codes, length, map, Option, Some, None, Ok, refl, sym, ap, ◌∙◌, arith, append_assoc, append-nil}
use Rattle.std.specs.List.{AllByRecursion, flat_map, range_with_len}
use Rattle.std.proofs.lemmas.Grind.{flat_map-append}
use Rattle.std.proofs.lemmas.List.{length-replicate}
use Rattle.x3d_values.specs.declared.fields.Fields.{Fields}
use Rattle.x3d_values.specs.declared.node_type.NodeType.{NodeType}
use Rattle.x3d_values.specs.declared.node_type.NodeType.TheVariants.{Switch}
use Rattle.x3d_values.specs.Ranges.{max_depth}
use Rattle.classic_tree.specs.declared.tree.BodyItem.{BodyItem}
use Rattle.classic_tree.specs.declared.tree.BodyItem.TheVariants as item
use Rattle.classic_tree.specs.declared.tree.Given.TheVariants as given
use Rattle.classic_tree.specs.declared.tree.NodeText.{NodeText}
use Rattle.classic_tree.specs.declared.tree.RawValue.TheVariants as raw
use Rattle.classic_tree.specs.declared.tree.Statement.{Statement}
use Rattle.classic_tree.specs.declared.tree.Statement.TheVariants as statement
use Rattle.proto_flat.specs.declared.flat.Flat.{Flat}
use Rattle.proto_flat.specs.declared.flat.FlatNode.{FlatNode}
use Rattle.laws_documents.specs.Signatures.{Signature}
use Rattle.laws_documents.specs.Fields.{interface_of, numbering}
use Rattle.laws_documents.specs.Shapes.{FieldShape, NodeShape, Shapes, in_node, in_statement, no_node, node_of, shapes}
use Rattle.laws_documents.proofs.ShapeParts.{all_fields, declared_shapes, in_full, in_node_statement, in_route, shape-field}
use Rattle.scene_core.specs.declared.scene.Route.{Route}
use Rattle.scene_core.specs.Building.{scene_of}
use Rattle.scene_core.specs.Numbers as order
use Rattle.scene_core.specs.Scene.{SceneView}
use Rattle.scene_text.specs.Statements.{helper_root, helpers_of, root_tree, roots_of, route_of, routes_of, scene_document, statements_of, switch_of}
use Rattle.scene_text.specs.Tree.{PlanView, Grows, each}
use Rattle.laws_written.specs.ScenesAgain.{in_place}
use Rattle.laws_written.specs.Writable.{AreKeepable, IsShallow}
use Rattle.laws_written.proofs.Lists.{all_weaker}
use Rattle.laws_written.proofs.Braces.{type_named}
use Rattle.laws_written.proofs.NodesParts.{holders, low_shallow}
use Rattle.laws_written.proofs.Plans.{Stand, as_many, helpers_there, numbered, one, order_is, plan, roots_are, roots_made, roots_there, s0, s1, s2, stands, tree}
use Rattle.laws_written.proofs.NodesWhole.{made_many}
use Rattle.laws_written.specs.Distinct.{HaveDistinctFields}
use Rattle.laws_written.specs.FieldsWritten.{WrittenShapes, switch_shape, written_shape, written_shapes}
use Rattle.laws_written.proofs.FieldsItems.{as_many_blanks}
use Rattle.laws_written.proofs.FieldsShown.{shape_shown}
use Rattle.laws_written.proofs.FieldsTrees.{Closes, Making, TellsAll, ended, nodes_close, nodes_in_turn, within}

-- ---- the node in which the helpers stand

children_number : numbering (Some Switch) [] (codes "children") ≡ Some 3
children_number = refl

-- with as many of them
abbrev shape_with : List (Unit {0}) → NodeShape
shape_with us = record { fields = record { line = 0; number = Some 3; value = raw.NodeList us } ∷ []; interface = [] }

abbrev content : List NodeText → BodyItem
content trees = item.Field 0 (codes "children") (given.Value (raw.NodeList trees))

switch_content : (trees : List NodeText) → node_of (codes "Switch") (declared_shapes (content trees ∷ [])) (all_fields (content trees ∷ [])) ≡ shape_with (map no_node trees)
switch_content trees =
    let has = shape-field 0 (codes "children") (given.Value (raw.NodeList trees)) in
    let us : List (Unit {0}) = map no_node trees in
    let declared : declared_shapes (content trees ∷ []) ≡ [] = ap (λ (l : List Signature). l ++ []) has.has_declared in
    let shown : all_fields (content trees ∷ []) (numbering (Some Switch) []) ≡ record { line = 0; number = numbering (Some Switch) [] (codes "children"); value = raw.NodeList us } ∷ [] =
    ap (λ (l : List FieldShape). l ++ []) (has.has_fields (numbering (Some Switch) [])) in
    ap (λ (l : List Signature). node_of (codes "Switch") l (all_fields (content trees ∷ []))) declared
    ∙ (ap (λ (o : Option NodeType). record { fields = all_fields (content trees ∷ []) (numbering o []); interface = interface_of o [] }) (type_named Switch)
    ∙ (ap (λ (l : List FieldShape). record { fields = l; interface = [] }) shown
    ∙ ap (λ (o : Option ℕ). record { fields = record { line = 0; number = o; value = raw.NodeList us } ∷ []; interface = [] }) children_number))

switch_shaped : (trees : List NodeText) → in_node (switch_of trees) ≡ flat_map in_node trees ++ shape_with (map no_node trees) ∷ []
switch_shaped trees =
    let has = shape-field 0 (codes "children") (given.Value (raw.NodeList trees)) in
    in_full 0 None (codes "Switch") (content trees ∷ [])
    ∙ (ap (λ (l : Shapes). l ++ node_of (codes "Switch") (declared_shapes (content trees ∷ [])) (all_fields (content trees ∷ [])) ∷ []) (append-nil (within (content trees)) ∙ has.has_inside)
    ∙ ap (λ (m : NodeShape). flat_map in_node trees ++ m ∷ []) (switch_content trees))

helpers_shaped : (helpers : List ℕ) (trees : List NodeText) → length trees ≡ length helpers
    → flat_map in_statement (helper_root trees) ≡ flat_map in_node trees ++ switch_shape helpers
helpers_shaped [] [] l = refl
helpers_shaped [] (tree ∷ trees) l = absurd (omega (arith, l))
helpers_shaped (n ∷ ns) [] l = absurd (omega (arith, l))
helpers_shaped (n ∷ ns) (tree ∷ trees) l =
    append-nil (in_statement (statement.Node (switch_of (tree ∷ trees))))
    ∙ (in_node_statement (switch_of (tree ∷ trees))
    ∙ (switch_shaped (tree ∷ trees)
    ∙ ap (λ (us : List (Unit {0})). flat_map in_node (tree ∷ trees) ++ shape_with us ∷ []) (as_many_blanks (tree ∷ trees) (n ∷ ns) l)))

routes_shaped : (s : SceneView) (routes : List Route) → flat_map in_statement (routes_of s routes) ≡ []
routes_shaped s [] = refl
routes_shaped s (route ∷ routes) =
    ap (λ (l : Shapes). l ++ flat_map in_statement (routes_of s routes)) (in_route (route_of s route)) ∙ routes_shaped s routes

-- ---- a plan

module _ (p : PlanView) (nodes : List FlatNode) (as_written : ℕ → NodeShape) (stand : Stand p nodes) (tells : TellsAll p as_written)
    (roots_fit : AllByRecursion (IsShallow p.scene max_depth) p.scene.roots) (helpers_fit : AllByRecursion (IsShallow p.scene max_depth) p.scene.helpers)
    (numbered : order.numbering nodes p.scene.roots p.scene.helpers ≡ in_place (length nodes)) where
  trees_close : Making p nodes as_written (IsShallow p.scene max_depth) one in_node (tree p)
  trees_close = nodes_close p nodes as_written stand tells max_depth

  roots_close : Making p nodes as_written (IsShallow p.scene max_depth) one in_statement (root_tree (tree p))
  roots_close s n l q =
      let c = trees_close s n l q in
      record {
        seen = c.seen;
        sized = c.sized;
        closed = c.closed ∙ ap (λ (l : Shapes). ended p nodes as_written s ++ l) (sym (in_node_statement ((tree p) s.opened n).made));
      }

  abbrev helpers_made : Grows (List NodeText)
  helpers_made = each (tree p) (s1 p nodes).opened p.scene.helpers

  roots_closed : Closes p nodes as_written (flat_map in_statement) (s0 p nodes) (s1 p nodes) (roots_made p nodes)
  roots_closed =
      nodes_in_turn p nodes as_written (IsShallow p.scene max_depth) in_statement (root_tree (tree p)) roots_close (s0 p nodes) p.scene.roots (length-replicate (length nodes) false) roots_fit

  helpers_closed : Closes p nodes as_written (flat_map in_node) (s1 p nodes) (s2 p nodes) helpers_made
  helpers_closed =
      nodes_in_turn p nodes as_written (IsShallow p.scene max_depth) in_node (tree p) trees_close (s1 p nodes) p.scene.helpers roots_closed.sized helpers_fit

  abbrev helper_statements : List Bool → List Statement
  helper_statements seen = helper_root (helpers_of p seen).made

  abbrev parted : Grows (List Statement) → Shapes
  parted m = flat_map in_statement (m.made ++ helper_statements m.seen ++ routes_of p.scene p.routes)

  apart : flat_map in_statement (statements_of p) ≡ parted (roots_of p)
  unfolding statements_of
  apart = refl

  in_parts : (m : Grows (List Statement)) → parted m ≡ flat_map in_statement m.made ++ flat_map in_statement (helper_statements m.seen)
  in_parts m =
      let front : List Statement = m.made ++ helper_statements m.seen in
      flat_map-append in_statement front (routes_of p.scene p.routes)
      ∙ (ap (λ (l : Shapes). flat_map in_statement front ++ l) (routes_shaped p.scene p.routes)
      ∙ (append-nil (flat_map in_statement front) ∙ flat_map-append in_statement m.made (helper_statements m.seen)))

  made_as_many : length helpers_made.made ≡ length p.scene.helpers
  made_as_many = let k = made_many (tree p) (record { seen = (s1 p nodes).opened; made = [] }) p.scene.helpers in omega (arith, k)

  pub all_shaped : flat_map in_statement (statements_of p) ≡ map as_written (range_with_len 0 (length nodes)) ++ switch_shape p.scene.helpers
  all_shaped =
      let first : ended p nodes as_written (s1 p nodes) ≡ flat_map in_statement (roots_made p nodes).made = roots_closed.closed in
      (apart ∙ ap parted (roots_are p nodes stand))
      ∙ (in_parts (roots_made p nodes)
      ∙ (ap (λ (seen : List Bool). flat_map in_statement (roots_made p nodes).made ++ flat_map in_statement (helper_statements seen)) roots_closed.seen
      ∙ (ap (λ (l : Shapes). l ++ flat_map in_statement (helper_statements (s1 p nodes).opened)) (sym first)
      ∙ (ap (λ (l : Shapes). ended p nodes as_written (s1 p nodes) ++ l) (helpers_shaped p.scene.helpers helpers_made.made made_as_many)
      ∙ (sym (append_assoc (ended p nodes as_written (s1 p nodes)) (flat_map in_node helpers_made.made) (switch_shape p.scene.helpers))
      ∙ (ap (λ (l : Shapes). l ++ switch_shape p.scene.helpers) (sym helpers_closed.closed)
      ∙ ap (λ (l : List ℕ). map as_written l ++ switch_shape p.scene.helpers) (order_is p nodes numbered)))))))

-- ---- a document's scene

module _ (from : Flat) (scene : SceneView) (routes : List Route) (state : List Fields) (is : scene_of from ≡ Ok scene) (kept : AreKeepable state)
    (distinct : HaveDistinctFields scene) where
  abbrev nodes : List FlatNode
  nodes = holders scene

  fit : (ns : List ℕ) → AllByRecursion (λ (n : ℕ). n < length scene.nodes) ns → AllByRecursion (IsShallow scene max_depth) ns
  fit ns h = all_weaker (λ (n : ℕ). n < length scene.nodes) (IsShallow scene max_depth) (λ n l. low_shallow from scene is n l) ns h

  tells_all : TellsAll (plan scene routes state) (written_shape scene state)
  tells_all n node at = shape_shown scene routes state n node at (distinct n node at)

  document_is : shapes (scene_document scene routes state) ≡ flat_map in_statement (statements_of (plan scene routes state))
  unfolding scene_document
  document_is = refl

  document_shaped : shapes (scene_document scene routes state) ≡ written_shapes scene state
  document_shaped =
      document_is
      ∙ (all_shaped (plan scene routes state) nodes (written_shape scene state) (stands from scene is routes state kept) tells_all
      (fit scene.roots (roots_there from scene is)) (fit scene.helpers (helpers_there from scene is)) (numbered from scene is)
      ∙ ap (λ (k : ℕ). map (written_shape scene state) (range_with_len 0 k) ++ switch_shape scene.helpers) (as_many scene))

pub all_written : WrittenShapes
all_written from scene routes state is kept distinct = document_shaped from scene routes state is kept distinct
