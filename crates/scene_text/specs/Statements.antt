-- The document of a scene.
use Rattle.std.specs.Prelude.{ℕ, Bool, false, List, [], ◌∷◌, ◌++◌, None, codes, length, map, replicate}
use Rattle.x3d_values.specs.declared.fields.Fields.{Fields}
use Rattle.x3d_values.specs.Ranges.{max_depth}
use Rattle.classic_tree.specs.declared.tree.Document.{Document}
use Rattle.classic_tree.specs.declared.tree.RouteEnd.{RouteEnd}
use Rattle.classic_tree.specs.declared.tree.RouteText.{RouteText}
use Rattle.classic_tree.specs.declared.tree.RawValue.TheVariants as raw
use Rattle.classic_tree.specs.declared.tree.Given.TheVariants as given
use Rattle.classic_tree.specs.declared.tree.BodyItem.TheVariants as item
use Rattle.classic_tree.specs.declared.tree.NodeText.{NodeText}
use Rattle.classic_tree.specs.declared.tree.NodeText.TheVariants as node
use Rattle.classic_tree.specs.declared.tree.Statement.{Statement}
use Rattle.classic_tree.specs.declared.tree.Statement.TheVariants as statement
use Rattle.scene_core.specs.declared.scene.End.{End}
use Rattle.scene_core.specs.declared.scene.Route.{Route}
use Rattle.scene_core.specs.Scene.{SceneView, field_name, label_of}
use Rattle.scene_text.specs.Places.{named}
use Rattle.scene_text.specs.Tree.{PlanView, Grows, Makes, each, node_tree}

-- ---- routes, by labels and the fields' own names

abbrev pub place_of : SceneView → End → RouteEnd
place_of s end = record { node = label_of s end.node; field = field_name s end }

abbrev pub route_of : SceneView → Route → RouteText
route_of s r = record { line = 0; source = place_of s r.source; target = place_of s r.target }

-- ---- nodes: the roots, and a last root for the helpers

abbrev pub switch_of : List NodeText → NodeText
switch_of trees =
    node.Full 0 None (codes "Switch")
    (item.Field 0 (codes "children") (given.Value (raw.NodeList trees)) ∷ [])

-- helpers, if there are any, are the children of a Switch, which shows none of them
abbrev pub helper_root : List NodeText → List Statement
helper_root [] = []
helper_root (tree ∷ trees) = statement.Node (switch_of (tree ∷ trees)) ∷ []

abbrev pub root_tree : Makes ℕ NodeText → Makes ℕ Statement
root_tree tree seen n =
    let m = tree seen n in record { seen = m.seen; made = statement.Node m.made }

abbrev pub roots_of : PlanView → Grows (List Statement)
roots_of p =
    each (root_tree (node_tree max_depth p)) (replicate (length p.scene.nodes) false) p.scene.roots

abbrev pub helpers_of : PlanView → List Bool → Grows (List NodeText)
helpers_of p seen = each (node_tree max_depth p) seen p.scene.helpers

abbrev pub routes_of : SceneView → List Route → List Statement
routes_of s routes = map (λ r. statement.Route (route_of s r)) routes

unfoldable pub statements_of : PlanView → List Statement
statements_of p =
    (roots_of p).made ++ helper_root (helpers_of p (roots_of p).seen).made
    ++ routes_of p.scene p.routes

-- the header statements as they were read, the roots, the helpers and the routes
unfoldable pub scene_document : SceneView → List Route → List Fields → Document
scene_document s routes state = record {
  version = s.header.version;
  profile = s.header.profile;
  components = s.header.components;
  metas = s.header.metas;
  statements = statements_of (record {
    scene = s;
    routes = routes;
    state = state;
    named = named s routes;
  });
}
