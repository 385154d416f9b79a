-- What each part of a tree is, by the parts inside.
use Rattle.std.proofs.Common.{◌≡◌, ℕ, List, ◌∷◌, Option, map, ap, sym, ◌∙◌}
use Rattle.classic_tree.specs.declared.tree.RouteText.{RouteText}
use Rattle.classic_tree.specs.declared.tree.RawValue.TheVariants as value
use Rattle.classic_tree.specs.declared.tree.Given.{Given}
use Rattle.classic_tree.specs.declared.tree.Given.TheVariants as given
use Rattle.classic_tree.specs.declared.tree.Declaration.{Declaration}
use Rattle.classic_tree.specs.declared.tree.BodyItem.{BodyItem, fold-roll-BodyItem}
use Rattle.classic_tree.specs.declared.tree.BodyItem.TheVariants as item
use Rattle.classic_tree.specs.declared.tree.BodyItem.TheOpen.{BodyItem-F, NodeText-F, Statement-F}
use Rattle.classic_tree.specs.declared.tree.NodeText.{NodeText, fold-roll-NodeText}
use Rattle.classic_tree.specs.declared.tree.NodeText.TheVariants as node
use Rattle.classic_tree.specs.declared.tree.Statement.{Statement, fold-roll-Statement}
use Rattle.classic_tree.specs.declared.tree.Statement.TheVariants as statement
use Rattle.classic_tree.specs.declared.tree.ProtoText.{ProtoText, roll-ProtoText, fold-roll-ProtoText}
use Rattle.classic_tree.proofs.Mapped.{given_mapped, declaration_mapped, interface_mapped}
use Rattle.proto_meaning.specs.Flat.{Item, Node, Stated, Proto, item_step, node_step, statement_step, proto_step}
use Rattle.proto_meaning.specs.Flat.{statement as stated, item as item_part, node as node_part, proto as proto_part}

pub given-node : (n : NodeText) {p : Node} → node_part n ≡ p → given_mapped node_part (given.Value (value.Node n)) ≡ given.Value (value.Node p)
given-node n e = ap (λ x. given.Value (value.Node x)) e

pub given-nodes : (ns : List NodeText) {ps : List Node} → map node_part ns ≡ ps → given_mapped node_part (given.Value (value.NodeList ns)) ≡ given.Value (value.NodeList ps)
given-nodes ns e = ap (λ x. given.Value (value.NodeList x)) e

cons-is : {A B : Type 0} (f : A → B) (a : A) (b : B) (xs : List A) (ys : List B) → f a ≡ b → map f xs ≡ ys → map f (a ∷ xs) ≡ b ∷ ys
cons-is f a b xs ys e es = ap (λ x. x ∷ map f xs) e ∙ ap (λ zs. b ∷ zs) es

pub nodes-cons : (a : NodeText) {b : Node} (xs : List NodeText) {ys : List Node} → node_part a ≡ b → map node_part xs ≡ ys → map node_part (a ∷ xs) ≡ b ∷ ys
nodes-cons a {b} xs {ys} e es = cons-is node_part a b xs ys e es

pub items-cons : (a : BodyItem) {b : Item} (xs : List BodyItem) {ys : List Item} → item_part a ≡ b → map item_part xs ≡ ys → map item_part (a ∷ xs) ≡ b ∷ ys
items-cons a {b} xs {ys} e es = cons-is item_part a b xs ys e es

pub stated-cons : (a : Statement) {b : Stated} (xs : List Statement) {ys : List Stated} → stated a ≡ b → map stated xs ≡ ys → map stated (a ∷ xs) ≡ b ∷ ys
stated-cons a {b} xs {ys} e es = cons-is stated a b xs ys e es

pub declared-cons : (a : Declaration NodeText) {b : Declaration Node} (xs : List (Declaration NodeText)) {ys : List (Declaration Node)} → interface_mapped node_part a ≡ b → map (interface_mapped node_part) xs ≡ ys → map (interface_mapped node_part) (a ∷ xs) ≡ b ∷ ys
declared-cons a {b} xs {ys} e es = cons-is (interface_mapped node_part) a b xs ys e es

pub item-field : (line : ℕ) (name : List ℕ) (g : Given NodeText) {h : Given Node} → given_mapped node_part g ≡ h → item_part (item.Field line name g) ≡ item_step (BodyItem-F.Field line name h)
item-field line name g {h} e = ap item_part (sym (item.rolls-Field line name g))
    ∙ fold-roll-BodyItem Item Node Stated Proto item_step node_step statement_step proto_step (BodyItem-F.Field line name g)
    ∙ ap (λ x. item_step (BodyItem-F.Field line name x)) e

pub item-declaration : (d : Declaration NodeText) {h : Declaration Node} → declaration_mapped node_part d ≡ h → item_part (item.Declaration d) ≡ item_step (BodyItem-F.Declaration h)
item-declaration d {h} e = ap item_part (sym (item.rolls-Declaration d))
    ∙ fold-roll-BodyItem Item Node Stated Proto item_step node_step statement_step proto_step (BodyItem-F.Declaration d)
    ∙ ap (λ x. item_step (BodyItem-F.Declaration x)) e

pub item-route : (r : RouteText) → item_part (item.Route r) ≡ item_step (BodyItem-F.BodyItem::Route r)
item-route r = ap item_part (sym (item.rolls-Route r))
    ∙ fold-roll-BodyItem Item Node Stated Proto item_step node_step statement_step proto_step (BodyItem-F.BodyItem::Route r)

pub item-proto : (p : ProtoText) {q : Proto} → proto_part p ≡ q → item_part (item.Proto p) ≡ item_step (BodyItem-F.BodyItem::Proto q)
item-proto p {q} e = ap item_part (sym (item.rolls-Proto p))
    ∙ fold-roll-BodyItem Item Node Stated Proto item_step node_step statement_step proto_step (BodyItem-F.BodyItem::Proto p)
    ∙ ap (λ x. item_step (BodyItem-F.BodyItem::Proto x)) e

pub node-use : (line : ℕ) (name : List ℕ) → node_part (node.Use line name) ≡ node_step (NodeText-F.Use line name)
node-use line name = ap node_part (sym (node.rolls-Use line name))
    ∙ fold-roll-NodeText Item Node Stated Proto item_step node_step statement_step proto_step (NodeText-F.Use line name)

pub node-full : (line : ℕ) (name : Option (List ℕ)) (word : List ℕ) (is : List BodyItem) {ps : List Item} → map item_part is ≡ ps → node_part (node.Full line name word is) ≡ node_step (NodeText-F.Full line name word ps)
node-full line name word is {ps} e = ap node_part (sym (node.rolls-Full line name word is))
    ∙ fold-roll-NodeText Item Node Stated Proto item_step node_step statement_step proto_step (NodeText-F.Full line name word is)
    ∙ ap (λ x. node_step (NodeText-F.Full line name word x)) e

pub statement-node : (n : NodeText) {p : Node} → node_part n ≡ p → stated (statement.Node n) ≡ statement_step (Statement-F.Node p)
statement-node n {p} e = ap stated (sym (statement.rolls-Node n))
    ∙ fold-roll-Statement Item Node Stated Proto item_step node_step statement_step proto_step (Statement-F.Node n)
    ∙ ap (λ x. statement_step (Statement-F.Node x)) e

pub statement-route : (r : RouteText) → stated (statement.Route r) ≡ statement_step (Statement-F.Statement::Route r)
statement-route r = ap stated (sym (statement.rolls-Route r))
    ∙ fold-roll-Statement Item Node Stated Proto item_step node_step statement_step proto_step (Statement-F.Statement::Route r)

pub statement-proto : (p : ProtoText) {q : Proto} → proto_part p ≡ q → stated (statement.Proto p) ≡ statement_step (Statement-F.Statement::Proto q)
statement-proto p {q} e = ap stated (sym (statement.rolls-Proto p))
    ∙ fold-roll-Statement Item Node Stated Proto item_step node_step statement_step proto_step (Statement-F.Statement::Proto p)
    ∙ ap (λ x. statement_step (Statement-F.Statement::Proto x)) e

-- a prototype by its parts
abbrev pub proto_of : ℕ → List ℕ → List (Declaration Node) → List Stated → Proto
proto_of line name ds ss = proto_step (record { line = line; name = name; interface = ds; body = ss })

pub proto-is : (line : ℕ) (name : List ℕ) (ds : List (Declaration NodeText)) {es : List (Declaration Node)} (ss : List Statement) {ts : List Stated} → map (interface_mapped node_part) ds ≡ es → map stated ss ≡ ts
    → proto_part (roll-ProtoText (record { line = line; name = name; interface = ds; body = ss })) ≡ proto_of line name es ts
proto-is line name ds {es} ss {ts} d s = fold-roll-ProtoText Item Node Stated Proto item_step node_step statement_step proto_step (record { line = line; name = name; interface = ds; body = ss })
    ∙ ap (λ x. proto_of line name x (map stated ss)) d ∙ ap (λ x. proto_of line name es x) s
