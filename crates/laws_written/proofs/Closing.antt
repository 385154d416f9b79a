-- The braces of what is written of a document's scene are those of its nodes.
use Rattle.std.proofs.Common.{◌≡◌, ℕ, zero, suc, ◌+◌, ◌<◌, Bool, false, if◌then◌else◌, List, [], ◌∷◌, ◌++◌, codes, length, map, Option, Some, None, Ok, refl, sym, ap, ◌∙◌, arith, append_assoc, append-nil}
use Rattle.std.specs.List.{AllByRecursion, flat_map, range_with_len}
use Rattle.std.proofs.lemmas.Grind.{flat_map-append}
use Rattle.std.proofs.lemmas.List.{length-replicate, map-append}
use Rattle.std.proofs.lemmas.List.FromFn.{get_or-map-range_with_len}
use Rattle.x3d_values.specs.declared.fields.Fields.{Fields}
use Rattle.x3d_values.specs.declared.node_type.NodeType.{NodeType}
use Rattle.x3d_values.specs.declared.node_type.NodeType.TheVariants.{Switch}
use Rattle.x3d_values.specs.Ranges.{max_depth}
use Rattle.classic_tree.specs.declared.tree.BodyItem.{BodyItem}
use Rattle.classic_tree.specs.declared.tree.BodyItem.TheVariants as item
use Rattle.classic_tree.specs.declared.tree.Given.TheVariants as given
use Rattle.classic_tree.specs.declared.tree.NodeText.{NodeText}
use Rattle.classic_tree.specs.declared.tree.RawValue.TheVariants as raw
use Rattle.classic_tree.specs.declared.tree.Statement.{Statement}
use Rattle.classic_tree.specs.declared.tree.Statement.TheVariants as statement
use Rattle.proto_flat.specs.declared.flat.Flat.{Flat}
use Rattle.proto_flat.specs.declared.flat.FlatNode.{FlatNode}
use Rattle.laws_documents.specs.Closings.{Braces, Shown, closings, expected, in_item, in_node, in_statement}
use Rattle.laws_documents.proofs.ClosingParts.{in_field, in_full, in_node_statement, in_route}
use Rattle.scene_core.specs.declared.numbering.Numbering.{Numbering}
use Rattle.scene_core.specs.declared.scene.Route.{Route}
use Rattle.scene_core.specs.Building.{scene_of}
use Rattle.scene_core.specs.Numbers.{numbering}
use Rattle.scene_core.specs.Scene.{SceneView, label_of, type_at}
use Rattle.scene_text.specs.Places.{is_named, named}
use Rattle.scene_text.specs.Statements.{helper_root, helpers_of, root_tree, roots_of, route_of, routes_of, scene_document, statements_of, switch_of}
use Rattle.scene_text.specs.Tree.{PlanView, Grows, each}
use Rattle.laws_written.specs.ScenesAgain.{in_place}
use Rattle.laws_written.specs.Writable.{AreKeepable, IsShallow}
use Rattle.laws_written.proofs.Lists.{all_weaker}
use Rattle.laws_written.specs.Braces.{WrittenNodesClose, as_switch, written_as, written_braces}
use Rattle.laws_written.proofs.Plans.{Stand, as_many, helpers_there, numbered, one, order_is, plan, roots_are, roots_made, roots_there, s0, s1, s2, stands, tree}
use Rattle.laws_written.proofs.Braces.{Closes, F, Making, as_written, ended, nodes_close, nodes_in_turn, told, type_named}
use Rattle.laws_written.proofs.NodesParts.{holders, low_shallow}
use Rattle.laws_written.proofs.NodesWhole.{made_many}

-- ---- the node in which the helpers stand

switch_told : (trees : List NodeText) → told (in_node (switch_of trees)) ≡ told (flat_map in_node trees) ++ (Some Switch, None) ∷ []
switch_told trees =
    let content : BodyItem = item.Field 0 (codes "children") (given.Value (raw.NodeList trees)) in
    let last : Braces = record { word = codes "Switch"; name = None } in
    ap told (in_full 0 None (codes "Switch") (content ∷ []))
    ∙ (map-append expected (flat_map in_item (content ∷ [])) (last ∷ [])
    ∙ (ap (λ (bs : List Braces). told bs ++ told (last ∷ [])) (append-nil (in_item content) ∙ in_field 0 (codes "children") (given.Value (raw.NodeList trees)))
    ∙ ap (λ (t : Option NodeType). told (flat_map in_node trees) ++ (t, None) ∷ []) (type_named Switch)))

helpers_told : (helpers : List ℕ) (trees : List NodeText) → length trees ≡ length helpers
    → told (flat_map in_statement (helper_root trees)) ≡ told (flat_map in_node trees) ++ as_switch helpers
helpers_told [] [] l = refl
helpers_told [] (tree ∷ trees) l = absurd (omega (arith, l))
helpers_told (n ∷ ns) [] l = absurd (omega (arith, l))
helpers_told (n ∷ ns) (tree ∷ trees) l =
    ap told (append-nil (in_statement (statement.Node (switch_of (tree ∷ trees)))) ∙ in_node_statement (switch_of (tree ∷ trees))) ∙ switch_told (tree ∷ trees)

routes_told : (s : SceneView) (routes : List Route) → flat_map in_statement (routes_of s routes) ≡ []
routes_told s [] = refl
routes_told s (route ∷ routes) =
    ap (λ (bs : List Braces). bs ++ flat_map in_statement (routes_of s routes)) (in_route (route_of s route)) ∙ routes_told s routes

-- ---- a plan

module _ (p : PlanView) (nodes : List FlatNode) (stand : Stand p nodes)
    (roots_fit : AllByRecursion (IsShallow p.scene max_depth) p.scene.roots) (helpers_fit : AllByRecursion (IsShallow p.scene max_depth) p.scene.helpers)
    (numbered : numbering nodes p.scene.roots p.scene.helpers ≡ in_place (length nodes)) where
  abbrev G : Numbering → ℕ → Numbering
  G = F p nodes

  trees_close : Making p nodes (IsShallow p.scene max_depth) one in_node (tree p)
  trees_close = nodes_close p nodes stand max_depth

  roots_close : Making p nodes (IsShallow p.scene max_depth) one in_statement (root_tree (tree p))
  roots_close s n l q =
      let c = trees_close s n l q in
      record {
        seen = c.seen;
        sized = c.sized;
        closed = c.closed ∙ ap (λ (bs : List Braces). ended p nodes s ++ told bs) (sym (in_node_statement ((tree p) s.opened n).made));
      }

  abbrev helpers_made : Grows (List NodeText)
  helpers_made = each (tree p) (s1 p nodes).opened p.scene.helpers

  roots_closed : Closes p nodes (flat_map in_statement) (s0 p nodes) (s1 p nodes) (roots_made p nodes)
  roots_closed =
      nodes_in_turn p nodes (IsShallow p.scene max_depth) in_statement (root_tree (tree p)) roots_close (s0 p nodes) p.scene.roots (length-replicate (length nodes) false) roots_fit

  helpers_closed : Closes p nodes (flat_map in_node) (s1 p nodes) (s2 p nodes) helpers_made
  helpers_closed =
      nodes_in_turn p nodes (IsShallow p.scene max_depth) in_node (tree p) trees_close (s1 p nodes) p.scene.helpers roots_closed.sized helpers_fit

  abbrev helper_statements : List Bool → List Statement
  helper_statements seen = helper_root (helpers_of p seen).made

  abbrev parted : Grows (List Statement) → List Braces
  parted m = flat_map in_statement (m.made ++ helper_statements m.seen ++ routes_of p.scene p.routes)

  apart : flat_map in_statement (statements_of p) ≡ parted (roots_of p)
  unfolding statements_of
  apart = refl

  in_parts : (m : Grows (List Statement)) → told (parted m) ≡ told (flat_map in_statement m.made) ++ told (flat_map in_statement (helper_statements m.seen))
  in_parts m =
      let front : List Statement = m.made ++ helper_statements m.seen in
      ap told (flat_map-append in_statement front (routes_of p.scene p.routes))
      ∙ (ap (λ (bs : List Braces). told (flat_map in_statement front ++ bs)) (routes_told p.scene p.routes)
      ∙ (ap told (append-nil (flat_map in_statement front))
      ∙ (ap told (flat_map-append in_statement m.made (helper_statements m.seen))
      ∙ map-append expected (flat_map in_statement m.made) (flat_map in_statement (helper_statements m.seen)))))

  made_as_many : length helpers_made.made ≡ length p.scene.helpers
  made_as_many = let k = made_many (tree p) (record { seen = (s1 p nodes).opened; made = [] }) p.scene.helpers in omega (arith, k)

  pub all_told : told (flat_map in_statement (statements_of p)) ≡ map (as_written p nodes) (range_with_len 0 (length nodes)) ++ as_switch p.scene.helpers
  all_told =
      let first : ended p nodes (s1 p nodes) ≡ told (flat_map in_statement (roots_made p nodes).made) = roots_closed.closed in
      ap told (apart ∙ ap parted (roots_are p nodes stand))
      ∙ (in_parts (roots_made p nodes)
      ∙ (ap (λ (seen : List Bool). told (flat_map in_statement (roots_made p nodes).made) ++ told (flat_map in_statement (helper_statements seen))) roots_closed.seen
      ∙ (ap (λ (l : List Shown). l ++ told (flat_map in_statement (helper_statements (s1 p nodes).opened))) (sym first)
      ∙ (ap (λ (l : List Shown). ended p nodes (s1 p nodes) ++ l) (helpers_told p.scene.helpers helpers_made.made made_as_many)
      ∙ (sym (append_assoc (ended p nodes (s1 p nodes)) (told (flat_map in_node helpers_made.made)) (as_switch p.scene.helpers))
      ∙ (ap (λ (l : List Shown). l ++ as_switch p.scene.helpers) (sym helpers_closed.closed)
      ∙ ap (λ (l : List ℕ). map (as_written p nodes) l ++ as_switch p.scene.helpers) (order_is p nodes numbered)))))))

-- ---- a document's scene

same_range : (f g : ℕ → Shown) (from many : ℕ) → ((n : ℕ) → n < from + many → f n ≡ g n) → map f (range_with_len from many) ≡ map g (range_with_len from many)
same_range f g from zero k = refl
same_range f g from (suc many) k =
    ap (λ (x : Shown). x ∷ map f (range_with_len (from + 1) many)) (k from (omega arith))
    ∙ ap (λ (l : List Shown). g from ∷ l) (same_range f g (from + 1) many (λ n l. k n (omega (arith, l))))

module _ (from : Flat) (scene : SceneView) (routes : List Route) (state : List Fields) (is : scene_of from ≡ Ok scene) (kept : AreKeepable state) where
  abbrev p : PlanView
  p = plan scene routes state

  abbrev nodes : List FlatNode
  nodes = holders scene

  fit : (ns : List ℕ) → AllByRecursion (λ (n : ℕ). n < length scene.nodes) ns → AllByRecursion (IsShallow scene max_depth) ns
  fit ns h = all_weaker (λ (n : ℕ). n < length scene.nodes) (IsShallow scene max_depth) (λ n l. low_shallow from scene is n l) ns h

  name_is : (n : ℕ) → n < length scene.nodes → as_written p nodes n ≡ written_as scene routes n
  unfolding named
  name_is n l =
      let start : 0 + n ≡ n = omega arith in
      ap (λ (b : Bool). (type_at scene n, if b then Some (label_of scene n) else None))
      (get_or-map-range_with_len (is_named scene routes) 0 (length scene.nodes) n n false l start)

  document_is : map expected (closings (scene_document scene routes state)) ≡ told (flat_map in_statement (statements_of p))
  unfolding scene_document
  document_is = refl

  document_closes : map expected (closings (scene_document scene routes state)) ≡ written_braces scene routes
  document_closes =
      document_is
      ∙ (all_told p nodes (stands from scene is routes state kept) (fit scene.roots (roots_there from scene is)) (fit scene.helpers (helpers_there from scene is)) (numbered from scene is)
      ∙ (ap (λ (k : ℕ). map (as_written p nodes) (range_with_len 0 k) ++ as_switch scene.helpers) (as_many scene)
      ∙ ap (λ (l : List Shown). l ++ as_switch scene.helpers)
      (same_range (as_written p nodes) (written_as scene routes) 0 (length scene.nodes) (λ n l. name_is n (omega (arith, l))))))

pub all_close : WrittenNodesClose
all_close from scene routes state is kept = document_closes from scene routes state is kept
