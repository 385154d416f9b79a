-- The blamed tree of each part, by what it holds.
use Rattle.std.proofs.Common.{◌≡◌, ℕ, List, [], ◌∷◌, ◌++◌, Option, None, Some, map, option_map, refl, ap, sym, ◌∙◌}
use Rattle.std.proofs.lemmas.Grind.{common_steps}
use Rattle.std.specs.Option.{option_to_list}
use Rattle.classic_tree.specs.declared.tree.RouteText.{RouteText}
use Rattle.classic_tree.specs.declared.tree.RawValue.TheVariants as value
use Rattle.classic_tree.specs.declared.tree.Given.{Given}
use Rattle.classic_tree.specs.declared.tree.Given.TheVariants as given
use Rattle.classic_tree.specs.declared.tree.Declaration.{Declaration}
use Rattle.classic_tree.specs.declared.tree.BodyItem.{BodyItem, fold-roll-BodyItem}
use Rattle.classic_tree.specs.declared.tree.BodyItem.TheVariants as item
use Rattle.classic_tree.specs.declared.tree.BodyItem.TheOpen.{BodyItem-F, NodeText-F, Statement-F}
use Rattle.classic_tree.specs.declared.tree.NodeText.{NodeText, fold-roll-NodeText}
use Rattle.classic_tree.specs.declared.tree.NodeText.TheVariants as node
use Rattle.classic_tree.specs.declared.tree.Statement.{fold-roll-Statement}
use Rattle.classic_tree.specs.declared.tree.Statement.TheVariants as statement
use Rattle.classic_tree.specs.declared.tree.ProtoText.{ProtoText, out-ProtoText, fold_out-ProtoText}
use Rattle.classic_tree.proofs.Mapped.{given_mapped, declaration_mapped, interface_mapped}
use Rattle.proto_blame.specs.Blames.{blame}
use Rattle.proto_blame.specs.Blamed.{kept_in, list_or_blame, given_blamed, declaration_blamed, holder, proto_of, Item, Node, Stated, item_step, node_step, statement_step, proto_step, item_blamed, node_blamed, statement_blamed, proto_blamed}

-- ---- lists of parts

kept_map : {A B C : Type 0} (p : B → Option C) (q : A → Option C) (g : A → B) → ((x : A) → p (g x) ≡ q x) → (xs : List A) → kept_in p (map g xs) ≡ kept_in q xs
kept_map p q g e [] = refl
kept_map p q g e (x ∷ xs) = rw (e x) (ap (λ ys. option_to_list (q x) ++ ys) (kept_map p q g e xs))

map_map : {A B C : Type 0} (p : B → C) (q : A → C) (g : A → B) → ((x : A) → p (g x) ≡ q x) → (xs : List A) → map p (map g xs) ≡ map q xs
map_map p q g e [] = refl
map_map p q g e (x ∷ xs) = rw (e x) (ap (λ ys. q x ∷ ys) (map_map p q g e xs))

-- ---- what a name is given, by what stays of the nodes in it

abbrev inner : ℕ → Node → Option NodeText
inner line n = n line

abbrev by : (NodeText → Node) → ℕ → NodeText → Option NodeText
by f line n = f n line

given_map : (f : NodeText → Node) (line : ℕ) (g : Given NodeText) → given_blamed inner line (given_mapped f g) ≡ given_blamed (by f) line g
given_map f line given.Nothing = refl
given_map f line (given.Value value.Null) = refl
given_map f line (given.Value (value.Truth truth)) = refl
given_map f line (given.Value (value.String text)) = refl
given_map f line (given.Value (value.Numbers numbers)) = refl
given_map f line (given.Value (value.Node n)) = refl
given_map f line (given.Value value.EmptyList) = refl
given_map f line (given.Value (value.TruthList truths)) = refl
given_map f line (given.Value (value.StringList texts)) = refl
given_map f line (given.Value (value.NumberList numbers)) = refl
given_map f line (given.Value (value.NodeList nodes)) =
    ap (λ ks. given.Value (list_or_blame line ks)) (kept_map (inner line) (by f line) f (λ n. refl) nodes)
given_map f line (given.Is outer) = refl

abbrev given_by : Declaration NodeText → Given NodeText → Declaration NodeText
given_by d g = record d { given = g }

declaration_map : (f : NodeText → Node) (d : Declaration NodeText) → declaration_blamed inner (declaration_mapped f d) ≡ declaration_blamed (by f) d
declaration_map f d = ap (given_by d) (given_map f 0 d.given)

interface_map : (f : NodeText → Node) (d : Declaration NodeText) → declaration_blamed inner (interface_mapped f d) ≡ declaration_blamed (by f) d
interface_map f d = ap (given_by d) (given_map f 0 d.given)

-- ---- items of a body

pub item_blamed-field : (at : ℕ) (name : List ℕ) (g : Given NodeText) (line : ℕ) → item_blamed (item.Field at name g) line ≡ Some (item.Field at name (given_blamed (λ l n. node_blamed n l) line g))
unfolding item_step
item_blamed-field at name g line = ap (λ whole. item_blamed whole line) (sym (item.rolls-Field at name g))
    ∙ ap (λ (p : Item). p line) (fold-roll-BodyItem Item Node Stated ProtoText item_step node_step statement_step proto_step (BodyItem-F.Field at name g))
    ∙ ap (λ h. Some (item.Field at name h)) (given_map node_blamed line g)

pub item_blamed-declaration : (d : Declaration NodeText) (line : ℕ) → item_blamed (item.Declaration d) line ≡ Some (item.Declaration (declaration_blamed (λ l n. node_blamed n l) d))
unfolding item_step
item_blamed-declaration d line = ap (λ whole. item_blamed whole line) (sym (item.rolls-Declaration d))
    ∙ ap (λ (p : Item). p line) (fold-roll-BodyItem Item Node Stated ProtoText item_step node_step statement_step proto_step (BodyItem-F.Declaration d))
    ∙ ap (λ h. Some (item.Declaration h)) (declaration_map node_blamed d)

pub item_blamed-route : (route : RouteText) (line : ℕ) → item_blamed (item.Route route) line ≡ None
unfolding item_step
item_blamed-route route line = ap (λ whole. item_blamed whole line) (sym (item.rolls-Route route))
    ∙ ap (λ (p : Item). p line) (fold-roll-BodyItem Item Node Stated ProtoText item_step node_step statement_step proto_step (BodyItem-F.BodyItem::Route route))

pub item_blamed-proto : (proto : ProtoText) (line : ℕ) → item_blamed (item.Proto proto) line ≡ Some (item.Proto (proto_blamed proto))
unfolding item_step
item_blamed-proto proto line = ap (λ whole. item_blamed whole line) (sym (item.rolls-Proto proto))
    ∙ ap (λ (p : Item). p line) (fold-roll-BodyItem Item Node Stated ProtoText item_step node_step statement_step proto_step (BodyItem-F.BodyItem::Proto proto))

-- ---- nodes

pub node_blamed-use : (at : ℕ) (name : List ℕ) (line : ℕ) → node_blamed (node.Use at name) line ≡ None
unfolding node_step
node_blamed-use at name line = ap (λ whole. node_blamed whole line) (sym (node.rolls-Use at name))
    ∙ ap (λ (p : Node). p line) (fold-roll-NodeText Item Node Stated ProtoText item_step node_step statement_step proto_step (NodeText-F.Use at name))

pub node_blamed-full : (at : ℕ) (name : Option (List ℕ)) (word : List ℕ) (items : List BodyItem) (line : ℕ) → node_blamed (node.Full at name word items) line
    ≡ Some (node.Full at (blame line) word (kept_in (λ i. item_blamed i (holder at word)) items))
unfolding node_step
node_blamed-full at name word items line = ap (λ whole. node_blamed whole line) (sym (node.rolls-Full at name word items))
    ∙ ap (λ (p : Node). p line) (fold-roll-NodeText Item Node Stated ProtoText item_step node_step statement_step proto_step (NodeText-F.Full at name word items))
    ∙ ap (λ ks. Some (node.Full at (blame line) word ks))
    (kept_map (λ (i : Item). i (holder at word)) (λ i. item_blamed i (holder at word)) item_blamed (λ i. refl) items)

-- ---- statements

pub statement_blamed-node : (n : NodeText) → statement_blamed (statement.Node n) ≡ option_map statement.Node (node_blamed n 0)
unfolding statement_step
statement_blamed-node n = ap (λ whole. statement_blamed whole) (sym (statement.rolls-Node n))
    ∙ fold-roll-Statement Item Node Stated ProtoText item_step node_step statement_step proto_step (Statement-F.Node n)

pub statement_blamed-route : (route : RouteText) → statement_blamed (statement.Route route) ≡ None
unfolding statement_step
statement_blamed-route route = ap (λ whole. statement_blamed whole) (sym (statement.rolls-Route route))
    ∙ fold-roll-Statement Item Node Stated ProtoText item_step node_step statement_step proto_step (Statement-F.Statement::Route route)

pub statement_blamed-proto : (proto : ProtoText) → statement_blamed (statement.Proto proto) ≡ Some (statement.Proto (proto_blamed proto))
unfolding statement_step
statement_blamed-proto proto = ap (λ whole. statement_blamed whole) (sym (statement.rolls-Proto proto))
    ∙ fold-roll-Statement Item Node Stated ProtoText item_step node_step statement_step proto_step (Statement-F.Statement::Proto proto)

-- ---- prototypes

pub proto_blamed_is : (p : ProtoText) → proto_blamed p
    ≡ proto_of (out-ProtoText p).line (out-ProtoText p).name
    (map (declaration_blamed (λ l n. node_blamed n l)) (out-ProtoText p).interface)
    (kept_in statement_blamed (out-ProtoText p).body)
unfolding proto_step
proto_blamed_is p =
    let q = out-ProtoText p in
    fold_out-ProtoText Item Node Stated ProtoText item_step node_step statement_step proto_step p
    ∙ ap (λ ks. proto_of q.line q.name ks (kept_in (λ (s : Stated). s) (map statement_blamed q.body)))
    (map_map (declaration_blamed inner) (declaration_blamed (by node_blamed)) (interface_mapped node_blamed) (interface_map node_blamed) q.interface)
    ∙ ap (λ ks. proto_of q.line q.name (map (declaration_blamed (by node_blamed)) q.interface) ks)
    (kept_map (λ (s : Stated). s) statement_blamed statement_blamed (λ s. refl) q.body)

pub ruleset item_lemmas = (common_steps, item_blamed-field, item_blamed-declaration, item_blamed-route, item_blamed-proto)

pub ruleset node_lemmas = (common_steps, node_blamed-use, node_blamed-full)

pub ruleset statement_lemmas = (common_steps, statement_blamed-node, statement_blamed-route, statement_blamed-proto)

pub ruleset proto_lemmas = (common_steps, proto_blamed_is)
