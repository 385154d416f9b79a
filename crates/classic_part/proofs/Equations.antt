-- What stays of each part, by what it holds.
use Rattle.std.proofs.Common.{◌≡◌, ℕ, List, [], ◌∷◌, ◌++◌, Bool, true, false, Option, Some, map, refl, ap, sym, ◌∙◌, if◌then◌else◌}
use Rattle.std.proofs.lemmas.Grind.{common_steps}
use Rattle.std.specs.Prelude.{codes}
use Rattle.std.specs.Option.{option_to_list}
use Rattle.classic_tree.specs.declared.tree.RouteText.{RouteText}
use Rattle.classic_tree.specs.declared.tree.RawValue.TheVariants as value
use Rattle.classic_tree.specs.declared.tree.Given.{Given}
use Rattle.classic_tree.specs.declared.tree.Given.TheVariants as given
use Rattle.classic_tree.specs.declared.tree.Declaration.{Declaration}
use Rattle.classic_tree.specs.declared.tree.BodyItem.{BodyItem, fold-roll-BodyItem}
use Rattle.classic_tree.specs.declared.tree.BodyItem.TheVariants as item
use Rattle.classic_tree.specs.declared.tree.BodyItem.TheOpen.{BodyItem-F, NodeText-F, Statement-F}
use Rattle.classic_tree.specs.declared.tree.NodeText.{NodeText, fold-roll-NodeText}
use Rattle.classic_tree.specs.declared.tree.NodeText.TheVariants as node
use Rattle.classic_tree.specs.declared.tree.Statement.{Statement, fold-roll-Statement}
use Rattle.classic_tree.specs.declared.tree.Statement.TheVariants as statement
use Rattle.classic_tree.specs.declared.tree.ProtoText.{ProtoText, out-ProtoText, fold_out-ProtoText}
use Rattle.classic_tree.proofs.Mapped.{given_mapped, declaration_mapped, interface_mapped}
use Rattle.classic_part.specs.declared.knowing.Known.{Known}
use Rattle.classic_part.specs.declared.notes.Note.{Note}
use Rattle.classic_part.specs.declared.notes.NoteKind.TheVariants as kind
use Rattle.classic_part.specs.declared.rules.FieldRule.{FieldRule}
use Rattle.classic_part.specs.declared.rules.FieldRule.TheVariants as rule
use Rattle.classic_part.specs.declared.rules.Meant.{Meant}
use Rattle.classic_part.specs.Notes.{refuses}
use Rattle.classic_part.specs.Rules.{meaning_of, turns, field_rule}
use Rattle.classic_part.specs.Part.{Part, gone, kept_in, notes_in, part_by, list_of, given_part, declared_part, declaration_part, named_part, ruled_part, field_part, route_part, use_part, is_nothing, braces_part, node_statement, is_node, body_part, Item, Node, Stated, Proto, item_step, node_step, statement_step, proto_step, item_part, node_part, statement_part, proto_part}

-- ---- lists of parts

kept_map : {A B C : Type 0} (p : B → Part C) (q : A → Part C) (g : A → B) → ((x : A) → p (g x) ≡ q x) → (xs : List A) → kept_in p (map g xs) ≡ kept_in q xs
kept_map p q g e [] = refl
kept_map p q g e (x ∷ xs) = rw (e x) (ap (λ ys. option_to_list (q x).kept ++ ys) (kept_map p q g e xs))

notes_map : {A B C : Type 0} (p : B → Part C) (q : A → Part C) (g : A → B) → ((x : A) → p (g x) ≡ q x) → (xs : List A) → notes_in p (map g xs) ≡ notes_in q xs
notes_map p q g e [] = refl
notes_map p q g e (x ∷ xs) = rw (e x) (ap (λ ys. (q x).notes ++ ys) (notes_map p q g e xs))

-- ---- what a name is given, by what stays of the nodes in it

abbrev inner : List ℕ → Node → Part NodeText
inner field n = n field

abbrev by : (NodeText → Node) → List ℕ → NodeText → Part NodeText
by f field n = f n field

abbrev listed : List NodeText → List Note → Part (Given NodeText)
listed nodes notes = record { kept = Some (given.Value (list_of nodes)); notes = notes }

given_map : (f : NodeText → Node) (name : List ℕ) (g : Given NodeText) → given_part inner name (given_mapped f g) ≡ given_part (by f) name g
given_map f name given.Nothing = refl
given_map f name (given.Value value.Null) = refl
given_map f name (given.Value (value.Truth truth)) = refl
given_map f name (given.Value (value.String text)) = refl
given_map f name (given.Value (value.Numbers numbers)) = refl
given_map f name (given.Value (value.Node n)) = refl
given_map f name (given.Value value.EmptyList) = refl
given_map f name (given.Value (value.TruthList truths)) = refl
given_map f name (given.Value (value.StringList texts)) = refl
given_map f name (given.Value (value.NumberList numbers)) = refl
given_map f name (given.Value (value.NodeList nodes)) =
    ap (λ ks. listed ks (notes_in (inner name) (map f nodes))) (kept_map (inner name) (by f name) f (λ n. refl) nodes)
    ∙ ap (λ ns. listed (kept_in (by f name) nodes) ns) (notes_map (inner name) (by f name) f (λ n. refl) nodes)
given_map f name (given.Is outer) = refl

turns_map : (f : NodeText → Node) (g : Given NodeText) → turns (given_mapped f g) ≡ turns g
turns_map f given.Nothing = refl
turns_map f (given.Value value.Null) = refl
turns_map f (given.Value (value.Truth truth)) = refl
turns_map f (given.Value (value.String text)) = refl
turns_map f (given.Value (value.Numbers numbers)) = refl
turns_map f (given.Value (value.Node n)) = refl
turns_map f (given.Value value.EmptyList) = refl
turns_map f (given.Value (value.TruthList truths)) = refl
turns_map f (given.Value (value.StringList texts)) = refl
turns_map f (given.Value (value.NumberList numbers)) = refl
turns_map f (given.Value (value.NodeList nodes)) = refl
turns_map f (given.Is outer) = refl

ruled_map : (f : NodeText → Node) (line : ℕ) (name : List ℕ) (g : Given NodeText) (r : FieldRule) → ruled_part inner line name (given_mapped f g) r ≡ ruled_part (by f) line name g r
ruled_map f line name g rule.Stays = ap (named_part line name) (given_map f name g)
ruled_map f line name g rule.Children = ap (named_part line (codes "children")) (given_map f (codes "children") g)
ruled_map f line name g rule.Unknown = refl
ruled_map f line name g rule.Turned = refl

field_map : (f : NodeText → Node) (known : Known) (line : ℕ) (name : List ℕ) (g : Given NodeText) (owner : Meant) → field_part inner known line name (given_mapped f g) owner ≡ field_part (by f) known line name g owner
field_map f known line name g owner =
    ap (λ p. if refuses known line then gone kind.Refused line name [] else p)
    (ap (λ t. ruled_part inner line name (given_mapped f g) (field_rule owner name t)) (turns_map f g)
    ∙ ruled_map f line name g (field_rule owner name (turns g)))

declaration_map : (f : NodeText → Node) (known : Known) (d : Declaration NodeText) → declaration_part inner known (declaration_mapped f d) ≡ declaration_part (by f) known d
declaration_map f known d =
    ap (λ g. if refuses known d.line then gone kind.Refused d.line d.name [] else declared_part d g) (given_map f d.name d.given)

interface_map : (f : NodeText → Node) (known : Known) (d : Declaration NodeText) → declaration_part inner known (interface_mapped f d) ≡ declaration_part (by f) known d
interface_map f known d =
    ap (λ g. if refuses known d.line then gone kind.Refused d.line d.name [] else declared_part d g) (given_map f d.name d.given)

-- ---- items of a body

pub item_part-field : (known : Known) (line : ℕ) (name : List ℕ) (g : Given NodeText) (m : Meant) → item_part known (item.Field line name g) m ≡ field_part (λ field n. node_part known n field) known line name g m
unfolding item_step
item_part-field known line name g m = ap (λ whole. item_part known whole m) (sym (item.rolls-Field line name g))
    ∙ ap (λ (p : Item). p m) (fold-roll-BodyItem Item Node Stated Proto (item_step known) (node_step known) (statement_step known) (proto_step known) (BodyItem-F.Field line name g))
    ∙ field_map (node_part known) known line name g m

pub item_part-declaration : (known : Known) (d : Declaration NodeText) (m : Meant) → item_part known (item.Declaration d) m ≡ part_by item.Declaration (declaration_part (λ field n. node_part known n field) known d)
unfolding item_step
item_part-declaration known d m = ap (λ whole. item_part known whole m) (sym (item.rolls-Declaration d))
    ∙ ap (λ (p : Item). p m) (fold-roll-BodyItem Item Node Stated Proto (item_step known) (node_step known) (statement_step known) (proto_step known) (BodyItem-F.Declaration d))
    ∙ ap (part_by item.Declaration) (declaration_map (node_part known) known d)

pub item_part-route : (known : Known) (route : RouteText) (m : Meant) → item_part known (item.Route route) m ≡ part_by item.Route (route_part known route)
unfolding item_step
item_part-route known route m = ap (λ whole. item_part known whole m) (sym (item.rolls-Route route))
    ∙ ap (λ (p : Item). p m) (fold-roll-BodyItem Item Node Stated Proto (item_step known) (node_step known) (statement_step known) (proto_step known) (BodyItem-F.BodyItem::Route route))

pub item_part-proto : (known : Known) (proto : ProtoText) (m : Meant) → item_part known (item.Proto proto) m ≡ part_by item.Proto (proto_part known proto)
unfolding item_step
item_part-proto known proto m = ap (λ whole. item_part known whole m) (sym (item.rolls-Proto proto))
    ∙ ap (λ (p : Item). p m) (fold-roll-BodyItem Item Node Stated Proto (item_step known) (node_step known) (statement_step known) (proto_step known) (BodyItem-F.BodyItem::Proto proto))

-- ---- nodes

pub node_part-use : (known : Known) (line : ℕ) (name field : List ℕ) → node_part known (node.Use line name) field ≡ use_part known line name field
unfolding node_step
node_part-use known line name field = ap (λ whole. node_part known whole field) (sym (node.rolls-Use line name))
    ∙ ap (λ (p : Node). p field) (fold-roll-NodeText Item Node Stated Proto (item_step known) (node_step known) (statement_step known) (proto_step known) (NodeText-F.Use line name))

abbrev full_by : Known → ℕ → Option (List ℕ) → List ℕ → List ℕ → List BodyItem → List Note → Part NodeText
full_by known line name word field items notes =
    if refuses known line then gone kind.Refused line word field
    else if is_nothing (meaning_of known word) then gone kind.Node line word field
    else braces_part line name word field (meaning_of known word) items notes

pub node_part-full : (known : Known) (line : ℕ) (name : Option (List ℕ)) (word : List ℕ) (items : List BodyItem) (field : List ℕ) → node_part known (node.Full line name word items) field
    ≡ (if refuses known line then gone kind.Refused line word field
    else if is_nothing (meaning_of known word) then gone kind.Node line word field
    else braces_part line name word field (meaning_of known word) (kept_in (λ i. item_part known i (meaning_of known word)) items)
    (notes_in (λ i. item_part known i (meaning_of known word)) items))
unfolding node_step
node_part-full known line name word items field =
    let m = meaning_of known word in
    ap (λ whole. node_part known whole field) (sym (node.rolls-Full line name word items))
    ∙ ap (λ (p : Node). p field) (fold-roll-NodeText Item Node Stated Proto (item_step known) (node_step known) (statement_step known) (proto_step known) (NodeText-F.Full line name word items))
    ∙ ap (λ ks. full_by known line name word field ks (notes_in (λ (i : Item). i m) (map (item_part known) items)))
    (kept_map (λ (i : Item). i m) (λ i. item_part known i m) (item_part known) (λ i. refl) items)
    ∙ ap (λ ns. full_by known line name word field (kept_in (λ i. item_part known i m) items) ns)
    (notes_map (λ (i : Item). i m) (λ i. item_part known i m) (item_part known) (λ i. refl) items)

-- ---- statements

pub statement_part-node : (known : Known) (n : NodeText) → statement_part known (statement.Node n) ≡ part_by statement.Node (node_part known n [])
unfolding statement_step
statement_part-node known n = ap (λ whole. statement_part known whole) (sym (statement.rolls-Node n))
    ∙ fold-roll-Statement Item Node Stated Proto (item_step known) (node_step known) (statement_step known) (proto_step known) (Statement-F.Node n)

pub statement_part-route : (known : Known) (route : RouteText) → statement_part known (statement.Route route) ≡ part_by statement.Route (route_part known route)
unfolding statement_step
statement_part-route known route = ap (λ whole. statement_part known whole) (sym (statement.rolls-Route route))
    ∙ fold-roll-Statement Item Node Stated Proto (item_step known) (node_step known) (statement_step known) (proto_step known) (Statement-F.Statement::Route route)

pub statement_part-proto : (known : Known) (proto : ProtoText) → statement_part known (statement.Proto proto) ≡ part_by statement.Proto (proto_part known proto)
unfolding statement_step
statement_part-proto known proto = ap (λ whole. statement_part known whole) (sym (statement.rolls-Proto proto))
    ∙ fold-roll-Statement Item Node Stated Proto (item_step known) (node_step known) (statement_step known) (proto_step known) (Statement-F.Statement::Proto proto)

-- ---- prototypes

abbrev proto_by : Known → ProtoText → List (Declaration NodeText) → List Statement → List Note → List Note → Part ProtoText
proto_by known p interface body first second =
    if refuses known (out-ProtoText p).line then gone kind.Refused (out-ProtoText p).line (out-ProtoText p).name []
    else body_part (out-ProtoText p).line (out-ProtoText p).name interface body (first ++ second)

pub proto_part_is : (known : Known) (p : ProtoText) → proto_part known p
    ≡ (if refuses known (out-ProtoText p).line then gone kind.Refused (out-ProtoText p).line (out-ProtoText p).name []
    else body_part (out-ProtoText p).line (out-ProtoText p).name
    (kept_in (declaration_part (λ field n. node_part known n field) known) (out-ProtoText p).interface)
    (kept_in (statement_part known) (out-ProtoText p).body)
    (notes_in (declaration_part (λ field n. node_part known n field) known) (out-ProtoText p).interface
    ++ notes_in (statement_part known) (out-ProtoText p).body))
unfolding proto_step
proto_part_is known p =
    let q = out-ProtoText p in
    let d = declaration_part (by (node_part known)) known in
    let e = declaration_part inner known in
    let g = interface_mapped (node_part known) in
    let i = interface_map (node_part known) known in
    fold_out-ProtoText Item Node Stated Proto (item_step known) (node_step known) (statement_step known) (proto_step known) p
    ∙ ap (λ ks. proto_by known p ks (kept_in (λ (s : Stated). s) (map (statement_part known) q.body)) (notes_in e (map g q.interface)) (notes_in (λ (s : Stated). s) (map (statement_part known) q.body))) (kept_map e d g i q.interface)
    ∙ ap (λ ks. proto_by known p (kept_in d q.interface) ks (notes_in e (map g q.interface)) (notes_in (λ (s : Stated). s) (map (statement_part known) q.body))) (kept_map (λ (s : Stated). s) (statement_part known) (statement_part known) (λ s. refl) q.body)
    ∙ ap (λ ns. proto_by known p (kept_in d q.interface) (kept_in (statement_part known) q.body) ns (notes_in (λ (s : Stated). s) (map (statement_part known) q.body))) (notes_map e d g i q.interface)
    ∙ ap (λ ns. proto_by known p (kept_in d q.interface) (kept_in (statement_part known) q.body) (notes_in d q.interface) ns) (notes_map (λ (s : Stated). s) (statement_part known) (statement_part known) (λ s. refl) q.body)

-- ---- which statements are nodes

pub is_node-node : (n : NodeText) → is_node (statement.Node n) ≡ true
unfolding node_statement
is_node-node n = ap is_node (sym (statement.rolls-Node n))
    ∙ fold-roll-Statement (Unit {0}) (Unit {0}) Bool (Unit {0}) (λ _. tt) (λ _. tt) node_statement (λ _. tt) (Statement-F.Node n)

pub is_node-route : (route : RouteText) → is_node (statement.Route route) ≡ false
unfolding node_statement
is_node-route route = ap is_node (sym (statement.rolls-Route route))
    ∙ fold-roll-Statement (Unit {0}) (Unit {0}) Bool (Unit {0}) (λ _. tt) (λ _. tt) node_statement (λ _. tt) (Statement-F.Statement::Route route)

pub is_node-proto : (proto : ProtoText) → is_node (statement.Proto proto) ≡ false
unfolding node_statement
is_node-proto proto = ap is_node (sym (statement.rolls-Proto proto))
    ∙ fold-roll-Statement (Unit {0}) (Unit {0}) Bool (Unit {0}) (λ _. tt) (λ _. tt) node_statement (λ _. tt) (Statement-F.Statement::Proto proto)

pub ruleset item_lemmas = (common_steps, item_part-field, item_part-declaration, item_part-route, item_part-proto)

pub ruleset node_lemmas = (common_steps, node_part-use, node_part-full)

pub ruleset statement_lemmas = (common_steps, statement_part-node, statement_part-route, statement_part-proto)

pub ruleset proto_lemmas = (common_steps, proto_part_is)

pub ruleset is_node_lemmas = (common_steps, is_node-node, is_node-route, is_node-proto)
