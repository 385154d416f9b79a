-- What stands in each part of a tree.
use Rattle.std.proofs.Common.{◌≡◌, ℕ, List, [], ◌∷◌, ◌++◌, map, Option, refl, ap, sym, ◌∙◌}
use Rattle.std.specs.List.{flat_map}
use Rattle.classic_tree.specs.declared.tree.BodyItem.{BodyItem, fold-roll-BodyItem}
use Rattle.classic_tree.specs.declared.tree.BodyItem.TheOpen.{BodyItem-F, NodeText-F, Statement-F}
use Rattle.classic_tree.specs.declared.tree.BodyItem.TheVariants as item
use Rattle.classic_tree.specs.declared.tree.Declaration.{Declaration}
use Rattle.classic_tree.specs.declared.tree.Given.{Given}
use Rattle.classic_tree.specs.declared.tree.Given.TheVariants as given
use Rattle.classic_tree.specs.declared.tree.NodeText.{NodeText, fold-roll-NodeText}
use Rattle.classic_tree.specs.declared.tree.NodeText.TheVariants as node
use Rattle.classic_tree.specs.declared.tree.ProtoText.{ProtoText}
use Rattle.classic_tree.specs.declared.tree.RawValue.TheVariants as value
use Rattle.classic_tree.specs.declared.tree.RouteText.{RouteText}
use Rattle.classic_tree.specs.declared.tree.Statement.{fold-roll-Statement}
use Rattle.classic_tree.specs.declared.tree.Statement.TheVariants as statement
use Rattle.classic_tree.proofs.Mapped.{given_mapped}
use Rattle.laws_documents.specs.Signatures.{signature}
use Rattle.laws_documents.specs.Parts.{Braces, Declares, BraceField, Gives, Inside, BraceItem, Prototype, entries, in_given, in_item, in_node, in_statement, item_step, node_step, proto_step, statement_step, these}
use Rattle.laws_documents.specs.Parts.{item as part}

flat_mapped : {A : Type 0} (f : A → Inside) (xs : List A) → flat_map these (map f xs) ≡ flat_map f xs
flat_mapped f [] = refl
flat_mapped f (x ∷ xs) = ap (λ rest. f x ++ rest) (flat_mapped f xs)

in_mapped : (f : NodeText → Inside) (g : Given NodeText) → in_given these (given_mapped f g) ≡ in_given f g
in_mapped f given.Nothing = refl
in_mapped f (given.Value value.Null) = refl
in_mapped f (given.Value (value.Truth truth)) = refl
in_mapped f (given.Value (value.String text)) = refl
in_mapped f (given.Value (value.Numbers numbers)) = refl
in_mapped f (given.Value (value.Node inner)) = refl
in_mapped f (given.Value value.EmptyList) = refl
in_mapped f (given.Value (value.TruthList truths)) = refl
in_mapped f (given.Value (value.StringList texts)) = refl
in_mapped f (given.Value (value.NumberList numbers)) = refl
in_mapped f (given.Value (value.NodeList nodes)) = flat_mapped f nodes
in_mapped f (given.Is other) = refl

abbrev field_of : List BraceField → Inside → BraceItem
field_of es ps = record { entries = es; inside = ps }

pub part_field : (line : ℕ) (name : List ℕ) (g : Given NodeText) → part (item.Field line name g) ≡ record { entries = Gives name ∷ []; inside = in_given in_node g }
unfolding item_step
part_field line name g =
    ap part (sym (item.rolls-Field line name g))
    ∙ (fold-roll-BodyItem BraceItem Inside Inside Inside item_step node_step statement_step proto_step (BodyItem-F.Field line name g)
    ∙ ap (λ (ps : Inside). field_of (Gives name ∷ []) ps) (in_mapped in_node g))

pub part_declaration : (d : Declaration NodeText) → part (item.Declaration d) ≡ record { entries = Declares (signature d) ∷ []; inside = in_given in_node d.given }
unfolding item_step
part_declaration d =
    ap part (sym (item.rolls-Declaration d))
    ∙ (fold-roll-BodyItem BraceItem Inside Inside Inside item_step node_step statement_step proto_step (BodyItem-F.Declaration d)
    ∙ ap (λ (ps : Inside). field_of (Declares (signature d) ∷ []) ps) (in_mapped in_node d.given))

pub part_route : (route : RouteText) → part (item.Route route) ≡ record { entries = []; inside = [] }
unfolding item_step
part_route route =
    ap part (sym (item.rolls-Route route)) ∙ fold-roll-BodyItem BraceItem Inside Inside Inside item_step node_step statement_step proto_step (BodyItem-F.BodyItem::Route route)

pub part_proto : (p : ProtoText) → part (item.Proto p) ≡ record { entries = []; inside = Prototype ∷ [] }
unfolding item_step
part_proto p =
    ap part (sym (item.rolls-Proto p)) ∙ fold-roll-BodyItem BraceItem Inside Inside Inside item_step node_step statement_step proto_step (BodyItem-F.BodyItem::Proto p)

pub in_use : (line : ℕ) (name : List ℕ) → in_node (node.Use line name) ≡ []
unfolding node_step
in_use line name =
    ap in_node (sym (node.rolls-Use line name)) ∙ fold-roll-NodeText BraceItem Inside Inside Inside item_step node_step statement_step proto_step (NodeText-F.Use line name)

inside_mapped : (items : List BodyItem) → flat_map (λ (i : BraceItem). i.inside) (map part items) ≡ flat_map in_item items
inside_mapped [] = refl
inside_mapped (i ∷ items) = ap (λ (rest : Inside). in_item i ++ rest) (inside_mapped items)

entries_mapped : (items : List BodyItem) → flat_map (λ (i : BraceItem). i.entries) (map part items) ≡ flat_map entries items
entries_mapped [] = refl
entries_mapped (i ∷ items) = ap (λ (rest : List BraceField). entries i ++ rest) (entries_mapped items)

pub in_full : (line : ℕ) (name : Option (List ℕ)) (word : List ℕ) (items : List BodyItem)
    → in_node (node.Full line name word items) ≡ flat_map in_item items ++ Braces word (flat_map entries items) ∷ []
unfolding node_step
in_full line name word items =
    ap in_node (sym (node.rolls-Full line name word items))
    ∙ (fold-roll-NodeText BraceItem Inside Inside Inside item_step node_step statement_step proto_step (NodeText-F.Full line name word items)
    ∙ (ap (λ (ps : Inside). ps ++ Braces word (flat_map (λ (i : BraceItem). i.entries) (map part items)) ∷ []) (inside_mapped items)
    ∙ ap (λ (es : List BraceField). flat_map in_item items ++ Braces word es ∷ []) (entries_mapped items)))

pub in_node_statement : (n : NodeText) → in_statement (statement.Node n) ≡ in_node n
unfolding statement_step
in_node_statement n =
    ap in_statement (sym (statement.rolls-Node n)) ∙ fold-roll-Statement BraceItem Inside Inside Inside item_step node_step statement_step proto_step (Statement-F.Node n)

pub in_route : (route : RouteText) → in_statement (statement.Route route) ≡ []
unfolding statement_step
in_route route =
    ap in_statement (sym (statement.rolls-Route route))
    ∙ fold-roll-Statement BraceItem Inside Inside Inside item_step node_step statement_step proto_step (Statement-F.Statement::Route route)

pub in_proto : (p : ProtoText) → in_statement (statement.Proto p) ≡ Prototype ∷ []
unfolding statement_step
in_proto p =
    ap in_statement (sym (statement.rolls-Proto p))
    ∙ fold-roll-Statement BraceItem Inside Inside Inside item_step node_step statement_step proto_step (Statement-F.Statement::Proto p)
