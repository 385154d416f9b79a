-- What is written in each part of a tree, by what is in the parts inside.
use Rattle.std.proofs.Common.{◌≡◌, ℕ, List, [], ◌∷◌, map, Option, refl, ap, sym, ◌∙◌}
use Rattle.classic_tree.specs.declared.tree.BodyItem.{BodyItem, fold-roll-BodyItem}
use Rattle.classic_tree.specs.declared.tree.BodyItem.TheOpen.{BodyItem-F, NodeText-F, Statement-F}
use Rattle.classic_tree.specs.declared.tree.BodyItem.TheVariants as item
use Rattle.classic_tree.specs.declared.tree.Declaration.{Declaration}
use Rattle.classic_tree.specs.declared.tree.Given.{Given}
use Rattle.classic_tree.specs.declared.tree.NodeText.{NodeText, fold-roll-NodeText}
use Rattle.classic_tree.specs.declared.tree.NodeText.TheVariants as node
use Rattle.classic_tree.specs.declared.tree.ProtoText.{ProtoText, fold_out-ProtoText, out-ProtoText}
use Rattle.classic_tree.specs.declared.tree.Statement.{fold-roll-Statement}
use Rattle.classic_tree.specs.declared.tree.Statement.TheVariants as statement
use Rattle.classic_tree.proofs.Mapped.{given_mapped, interface_mapped}
use Rattle.proto_meaning.specs.Names.{Name}
use Rattle.proto_meaning.specs.Flat.{field}
use Rattle.laws_documents.specs.Written.{Written, all_of, and_also, in_default, in_given, in_item, in_node, in_proto, in_statement, item_step, itself, node_step, nothing, proto_step, statement_step}

all_mapped : {A : Type 0} (f : A → Written) (xs : List A) → all_of itself (map f xs) ≡ all_of f xs
all_mapped f [] = refl
all_mapped f (x ∷ xs) = ap (and_also (f x)) (all_mapped f xs)

pub in_field : (line : ℕ) (name : Name) (g : Given NodeText) → in_item (item.Field line name g) ≡ in_given (given_mapped in_node g)
unfolding item_step
in_field line name g = ap in_item (sym (item.rolls-Field line name g)) ∙ fold-roll-BodyItem Written Written Written Written item_step node_step statement_step proto_step (BodyItem-F.Field line name g)

pub in_declaration : (d : Declaration NodeText) → in_item (item.Declaration d) ≡ and_also (record nothing { fields = field d ∷ [] }) (in_given (given_mapped in_node d.given))
unfolding item_step
in_declaration d = ap in_item (sym (item.rolls-Declaration d)) ∙ fold-roll-BodyItem Written Written Written Written item_step node_step statement_step proto_step (BodyItem-F.Declaration d)

pub in_item_proto : (p : ProtoText) → in_item (item.Proto p) ≡ in_proto p
unfolding item_step
in_item_proto p = ap in_item (sym (item.rolls-Proto p)) ∙ fold-roll-BodyItem Written Written Written Written item_step node_step statement_step proto_step (BodyItem-F.BodyItem::Proto p)

pub in_full : (line : ℕ) (name : Option Name) (word : Name) (is : List BodyItem) → in_node (node.Full line name word is) ≡ and_also (record nothing { names = name ∷ [] }) (all_of in_item is)
unfolding node_step
in_full line name word is =
    ap in_node (sym (node.rolls-Full line name word is)) ∙ fold-roll-NodeText Written Written Written Written item_step node_step statement_step proto_step (NodeText-F.Full line name word is)
    ∙ ap (and_also (record nothing { names = name ∷ [] })) (all_mapped in_item is)

pub in_node_statement : (n : NodeText) → in_statement (statement.Node n) ≡ in_node n
unfolding statement_step
in_node_statement n = ap in_statement (sym (statement.rolls-Node n)) ∙ fold-roll-Statement Written Written Written Written item_step node_step statement_step proto_step (Statement-F.Node n)

pub in_proto_statement : (p : ProtoText) → in_statement (statement.Proto p) ≡ in_proto p
unfolding statement_step
in_proto_statement p = ap in_statement (sym (statement.rolls-Proto p)) ∙ fold-roll-Statement Written Written Written Written item_step node_step statement_step proto_step (Statement-F.Statement::Proto p)

abbrev pub in_interface : Declaration NodeText → Written
in_interface d = in_default (interface_mapped in_node d)

defaults_mapped : (ds : List (Declaration NodeText)) → all_of in_default (map (interface_mapped in_node) ds) ≡ all_of in_interface ds
defaults_mapped [] = refl
defaults_mapped (d ∷ ds) = ap (and_also (in_interface d)) (defaults_mapped ds)

pub in_prototype : (p : ProtoText) → in_proto p ≡ and_also (all_of in_interface (out-ProtoText p).interface) (all_of in_statement (out-ProtoText p).body)
unfolding proto_step
in_prototype p =
    fold_out-ProtoText Written Written Written Written item_step node_step statement_step proto_step p
    ∙ ap (λ w. and_also w (all_of itself (map in_statement (out-ProtoText p).body))) (defaults_mapped (out-ProtoText p).interface)
    ∙ ap (and_also (all_of in_interface (out-ProtoText p).interface)) (all_mapped in_statement (out-ProtoText p).body)
