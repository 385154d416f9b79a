-- A worked document and its tree, by the rules.
use Rattle.std.proofs.Common.{◌≡◌, [], ◌∷◌, None, Some, Ok, refl, ap}
use Rattle.std.specs.Borrow.{Bor}
use Rattle.std.specs.Prelude.{codes}
use Rattle.x3d_values.specs.declared.field_type.Access.TheVariants.{InitializeOnly}
use Rattle.x3d_values.specs.declared.field_type.FieldType.TheVariants.{SFNode}
use Rattle.x3d_values.specs.declared.node_type.NodeType.TheVariants as type
use Rattle.classic_tree.specs.declared.tree.Given.TheVariants as given
use Rattle.classic_tree.specs.declared.tree.RawValue.TheVariants as value
use Rattle.proto_meaning.specs.Sight.{Prototype, Sight, no_names, aside, each}
use Rattle.proto_meaning.specs.Flat as flat
use Rattle.proto_meaning.specs.Flat.{Node, Proto, item_step, node_step, statement_step, proto_step}
use Rattle.proto_meaning.proofs.Known.{KnownNode, KnownProto, KnownStatements, all_statements, null, a_node, declares, field, full, proto, a_proto, stands}
use Rattle.proto_meaning.specs.declared.tree.BodyTree.TheVariants as body
use Rattle.proto_meaning.specs.declared.tree.GivenTree.TheVariants as tree_given
use Rattle.proto_meaning.specs.declared.tree.ItemTree.TheVariants as tree_item
use Rattle.proto_meaning.specs.declared.tree.NodeTree.{NodeTree}
use Rattle.proto_meaning.specs.declared.tree.NodeTree.TheVariants as tree_node
use Rattle.proto_meaning.specs.declared.tree.ProtoTree.{ProtoTree}
use Rattle.proto_meaning.specs.declared.tree.Word.TheVariants as word
use Rattle.proto_meaning.specs.trees.Resolved as rule
use Rattle.proto_meaning.specs.trees.Resolved.{AreStatements, IsNode, IsItem, IsProto}

abbrev lent : {A : Type 0} → A → Bor A
lent a = record { ref_ptr = (0, 0); now = a }

abbrev nothing_seen : Sight
nothing_seen = record { here = []; outside = []; taken = no_names }

-- No IS takes f, so the Box goes nowhere.
--     PROTO P [ initializeOnly SFNode f NULL ] { Group {} }
--     P { f Box {} }
abbrev group : KnownNode
group = full 2 "Group" []

abbrev box : KnownNode
box = full 3 "Box" []

abbrev declaration : KnownProto
declaration = proto 2 "P" (declares 2 InitializeOnly SFNode "f" null ∷ []) (stands group ∷ [])

abbrev instance : KnownNode
instance = full 3 "P" (field 3 "f" (a_node box) ∷ [])

abbrev pub document : KnownStatements
document = all_statements (a_proto declaration ∷ stands instance ∷ [])

-- the prototype that the text declares, which has the number 0
abbrev meant_p : Prototype
meant_p =
    flat.prototype 2 (codes "P") ((declares 2 InitializeOnly SFNode "f" null).1 ∷ []) ((stands group).1 ∷ []) [] no_names

abbrev behind : Sight
behind = record { here = meant_p ∷ []; outside = []; taken = no_names }

declared_is : (flat.proto declaration.0).sees nothing_seen ≡ Ok behind
unfolding item_step node_step statement_step proto_step
declared_is = ap (λ (q : Proto). q.sees nothing_seen) declaration.2

box_sees : aside (rule.given_sees (given.Value (value.Node box.0))) behind ≡ Ok behind
unfolding node_step
box_sees = ap (λ (n : Node). aside (λ s. each (λ (m : Node). m.sees) (n ∷ []) s) behind) box.2

abbrev pub tree : NodeTree
tree = tree_node.Full 3 (lent None) (word.Instance 0) (tree_item.Field 3 (lent (codes "f")) (tree_given.LeftOut None) ∷ [])

box_left_out : IsItem (meant_p ∷ []) (Some no_names) (field 3 "f" (a_node box)).0 (tree_item.Field 3 (lent (codes "f")) (tree_given.LeftOut None)) behind (Ok behind)
box_left_out = rule.field (Some no_names) 3 (lent (codes "f")) (a_node box).0 (tree_given.LeftOut None) behind (Ok behind) (rule.left_out (value.Node box.0) behind (Ok behind) box_sees)

instance_is : IsNode (meant_p ∷ []) instance.0 tree behind (Ok behind)
instance_is =
    rule.full 3 (lent None) (codes "P") (word.Instance 0) ((field 3 "f" (a_node box)).0 ∷ []) (tree_item.Field 3 (lent (codes "f")) (tree_given.LeftOut None) ∷ []) behind (Ok behind) refl
    (rule.next_item (Some no_names) (field 3 "f" (a_node box)).0 (tree_item.Field 3 (lent (codes "f")) (tree_given.LeftOut None)) [] [] behind behind (Ok behind) box_left_out (rule.no_items (Some no_names) behind))

pub document_is : AreStatements (meant_p ∷ []) document.0 (body.Node tree ∷ []) nothing_seen (Ok behind)
document_is =
    rule.declared declaration.0 (all_statements (stands instance ∷ [])).0 (body.Node tree ∷ []) nothing_seen behind (Ok behind) declared_is
    (rule.node instance.0 tree [] [] behind behind (Ok behind) instance_is (rule.none behind))

-- the prototype's tree
abbrev group_tree : NodeTree
group_tree = tree_node.Full 2 (lent None) (word.Node type.Group) []

abbrev pub proto_tree : ProtoTree
proto_tree = record { text = lent declaration.0; defaults = []; body = body.Node group_tree ∷ [] }

abbrev inside : Sight
inside = record { here = []; outside = []; taken = no_names }

group_is : IsNode (meant_p ∷ []) group.0 group_tree inside (Ok inside)
group_is = rule.full 2 (lent None) (codes "Group") (word.Node type.Group) [] [] inside (Ok inside) refl (rule.no_items None inside)

pub proto_is : IsProto (meant_p ∷ []) proto_tree nothing_seen inside
proto_is = record {
  behind = inside;
  defaults = rule.left (declares 2 InitializeOnly SFNode "f" null).0 [] [] inside inside inside refl refl (rule.no_defaults inside);
  body = rule.node group.0 group_tree [] [] inside inside (Ok inside) group_is (rule.none inside);
}
