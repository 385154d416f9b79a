-- What each node and each item of a tree does.
use Rattle.std.proofs.Common.{◌≡◌, ℕ, List, Option, Bor, map, Err, ap, sym, ◌∙◌}
use Rattle.classic_tree.specs.declared.tree.Declaration.{Declaration}
use Rattle.classic_tree.specs.declared.tree.NodeText.{NodeText}
use Rattle.classic_tree.specs.declared.tree.RouteText.{RouteText}
use Rattle.proto_flat.specs.declared.fault.ExpandFault.{ExpandFault}
use Rattle.proto_meaning.specs.Flat as flat
use Rattle.proto_meaning.specs.Flat.{◌>>=◌, Node, Item, pure, comes, full_node, note_route}
use Rattle.proto_meaning.specs.Sight.{Prototype}
use Rattle.proto_nodes.specs.Steps.{using}
use Rattle.proto_meaning.specs.trees.Given.{GivenTree}
use Rattle.proto_meaning.specs.declared.tree.GivenTree.TheVariants as tree
use Rattle.proto_meaning.specs.declared.tree.ItemTree.{ItemTree, fold-roll-ItemTree}
use Rattle.proto_meaning.specs.declared.tree.ItemTree.TheVariants as tree_item
use Rattle.proto_meaning.specs.declared.tree.ItemTree.TheOpen.{ItemTree-F, NodeTree-F}
use Rattle.proto_meaning.specs.declared.tree.NodeTree.{NodeTree, fold-roll-NodeTree}
use Rattle.proto_meaning.specs.declared.tree.NodeTree.TheVariants as tree_node
use Rattle.proto_meaning.specs.declared.tree.Word.{Word}
use Rattle.proto_meaning.specs.trees.Meaning.{owner, item, node, item_step, node_step, declares}
use Rattle.proto_nodes.specs.Does.{given_by, field_does}

module _ (ps : List Prototype) where
  field_rolls : (line : ℕ) (name : Bor (List ℕ)) (t : GivenTree NodeTree) → item ps (tree_item.Field line name t) ≡ item_step ps (ItemTree-F.Field line name (given_by ps t))
  field_rolls line name tree.Nothing = ap (item ps) (sym (tree_item.rolls-Field line name tree.Nothing)) ∙ fold-roll-ItemTree Item Node (item_step ps) (node_step ps) (ItemTree-F.Field line name tree.Nothing)
  field_rolls line name (tree.Is n) = ap (item ps) (sym (tree_item.rolls-Field line name (tree.Is n))) ∙ fold-roll-ItemTree Item Node (item_step ps) (node_step ps) (ItemTree-F.Field line name (tree.Is n))
  field_rolls line name (tree.Plain v) = ap (item ps) (sym (tree_item.rolls-Field line name (tree.Plain v))) ∙ fold-roll-ItemTree Item Node (item_step ps) (node_step ps) (ItemTree-F.Field line name (tree.Plain v))
  field_rolls line name (tree.One n) = ap (item ps) (sym (tree_item.rolls-Field line name (tree.One n))) ∙ fold-roll-ItemTree Item Node (item_step ps) (node_step ps) (ItemTree-F.Field line name (tree.One n))
  field_rolls line name (tree.Many c ns) = ap (item ps) (sym (tree_item.rolls-Field line name (tree.Many c ns))) ∙ fold-roll-ItemTree Item Node (item_step ps) (node_step ps) (ItemTree-F.Field line name (tree.Many c ns))
  field_rolls line name (tree.LeftOut x) = ap (item ps) (sym (tree_item.rolls-Field line name (tree.LeftOut x))) ∙ fold-roll-ItemTree Item Node (item_step ps) (node_step ps) (ItemTree-F.Field line name (tree.LeftOut x))

  declaration_rolls : (d : Bor (Declaration NodeText)) (t : GivenTree NodeTree) → item ps (tree_item.Declaration d t) ≡ item_step ps (ItemTree-F.Declaration d (given_by ps t))
  declaration_rolls d tree.Nothing = ap (item ps) (sym (tree_item.rolls-Declaration d tree.Nothing)) ∙ fold-roll-ItemTree Item Node (item_step ps) (node_step ps) (ItemTree-F.Declaration d tree.Nothing)
  declaration_rolls d (tree.Is n) = ap (item ps) (sym (tree_item.rolls-Declaration d (tree.Is n))) ∙ fold-roll-ItemTree Item Node (item_step ps) (node_step ps) (ItemTree-F.Declaration d (tree.Is n))
  declaration_rolls d (tree.Plain v) = ap (item ps) (sym (tree_item.rolls-Declaration d (tree.Plain v))) ∙ fold-roll-ItemTree Item Node (item_step ps) (node_step ps) (ItemTree-F.Declaration d (tree.Plain v))
  declaration_rolls d (tree.One n) = ap (item ps) (sym (tree_item.rolls-Declaration d (tree.One n))) ∙ fold-roll-ItemTree Item Node (item_step ps) (node_step ps) (ItemTree-F.Declaration d (tree.One n))
  declaration_rolls d (tree.Many c ns) = ap (item ps) (sym (tree_item.rolls-Declaration d (tree.Many c ns))) ∙ fold-roll-ItemTree Item Node (item_step ps) (node_step ps) (ItemTree-F.Declaration d (tree.Many c ns))
  declaration_rolls d (tree.LeftOut x) = ap (item ps) (sym (tree_item.rolls-Declaration d (tree.LeftOut x))) ∙ fold-roll-ItemTree Item Node (item_step ps) (node_step ps) (ItemTree-F.Declaration d (tree.LeftOut x))

  pub item-field : (line : ℕ) (name : Bor (List ℕ)) (t : GivenTree NodeTree) → (item ps (tree_item.Field line name t)).does ≡ field_does line name.now (given_by ps t)
  unfolding item_step
  item-field line name t = ap (λ (i : Item). i.does) (field_rolls line name t)

  pub item-declaration : (d : Bor (Declaration NodeText)) (t : GivenTree NodeTree) → (item ps (tree_item.Declaration d t)).does ≡ declares d.now (given_by ps t)
  unfolding item_step
  item-declaration d t = ap (λ (i : Item). i.does) (declaration_rolls d t)

  pub item-route : (r : Bor RouteText) → (item ps (tree_item.Route r)).does ≡ (λ i. note_route r.now >>= λ _. pure i)
  unfolding item_step
  item-route r = ap (λ (i : Item). i.does) (ap (item ps) (sym (tree_item.rolls-Route r)) ∙ fold-roll-ItemTree Item Node (item_step ps) (node_step ps) (ItemTree-F.Route r))

  pub item-wrong : (e : ExpandFault) → (item ps (tree_item.Wrong e)).does ≡ (λ i w. comes (Err e))
  unfolding item_step
  item-wrong e = ap (λ (i : Item). i.does) (ap (item ps) (sym (tree_item.rolls-Wrong e)) ∙ fold-roll-ItemTree Item Node (item_step ps) (node_step ps) (ItemTree-F.Wrong e))

  pub node-use : (line : ℕ) (name : Bor (List ℕ)) → (node ps (tree_node.Use line name)).does ≡ using line name.now
  unfolding node_step flat.node_step
  node-use line name = ap (λ (n : Node). n.does) (ap (node ps) (sym (tree_node.rolls-Use line name)) ∙ fold-roll-NodeTree Item Node (item_step ps) (node_step ps) (NodeTree-F.Use line name))

  pub node-full : (line : ℕ) (name : Bor (Option (List ℕ))) (w : Word) (ts : List ItemTree) → (node ps (tree_node.Full line name w ts)).does ≡ full_node line name.now (map (item ps) ts) (owner ps w)
  unfolding node_step
  node-full line name w ts = ap (λ (n : Node). n.does) (ap (node ps) (sym (tree_node.rolls-Full line name w ts)) ∙ fold-roll-NodeTree Item Node (item_step ps) (node_step ps) (NodeTree-F.Full line name w ts))
