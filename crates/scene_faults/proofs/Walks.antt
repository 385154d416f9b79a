-- The blames of each part of a text, by what it holds.
use Rattle.std.proofs.Common.{◌≡◌, ℕ, List, [], ◌∷◌, ◌++◌, Option, Some, None, map, append_assoc, refl, ap, sym, ◌∙◌}
use Rattle.std.proofs.lemmas.Grind.{common_steps}
use Rattle.std.specs.List.{flat_map}
use Rattle.std.specs.Option.{option_to_list}
use Rattle.classic_tree.specs.declared.tree.BodyItem.{BodyItem, fold-roll-BodyItem}
use Rattle.classic_tree.specs.declared.tree.BodyItem.TheOpen.{BodyItem-F, NodeText-F, Statement-F}
use Rattle.classic_tree.specs.declared.tree.BodyItem.TheVariants as held
use Rattle.classic_tree.specs.declared.tree.Declaration.{Declaration}
use Rattle.classic_tree.specs.declared.tree.Given.{Given}
use Rattle.classic_tree.specs.declared.tree.Given.TheVariants as given
use Rattle.classic_tree.specs.declared.tree.NodeText.{NodeText, fold-roll-NodeText}
use Rattle.classic_tree.specs.declared.tree.NodeText.TheVariants as made
use Rattle.classic_tree.specs.declared.tree.ProtoText.{ProtoText, out-ProtoText, fold_out-ProtoText}
use Rattle.classic_tree.specs.declared.tree.RawValue.TheVariants as value
use Rattle.classic_tree.specs.declared.tree.RouteText.{RouteText}
use Rattle.classic_tree.specs.declared.tree.Statement.{Statement, fold-roll-Statement}
use Rattle.classic_tree.specs.declared.tree.Statement.TheVariants as stands
use Rattle.classic_tree.proofs.Mapped.{given_mapped, interface_mapped}
use Rattle.proto_flat.specs.declared.fault.ExpandFaultKind.TheVariants.{FieldTwice, ProtoTwice}
use Rattle.scene_faults.specs.Texts.{Names, Item, Node, Stated, Proto, entry, twice, given_blames, default_blames, declared_name, names_of, type_blames, statements_by, statements_blames, item_step, node_step, statement_step, proto_step, item, node, statement, proto}
use Rattle.scene_faults.specs.declared.blame.Blame.{Blame}

-- ---- lists

each_map : {A B C : Type 0} (p : B → List C) (q : A → List C) (g : A → B) → ((x : A) → p (g x) ≡ q x) → (xs : List A) → flat_map p (map g xs) ≡ flat_map q xs
each_map p q g e [] = refl
each_map p q g e (x ∷ xs) = rw (e x) (ap (λ ys. q x ++ ys) (each_map p q g e xs))

names_map : {A B C : Type 0} (p : B → C) (q : A → C) (g : A → B) → ((x : A) → p (g x) ≡ q x) → (xs : List A) → map p (map g xs) ≡ map q xs
names_map p q g e [] = refl
names_map p q g e (x ∷ xs) = rw (e x) (ap (λ ys. q x ∷ ys) (names_map p q g e xs))

-- ---- what a name is given, by the blames of the nodes in it

abbrev inner : Names → Node → List Blame
inner names n = n names

abbrev pub by : Names → NodeText → List Blame
by names n = node n names

given_map : (names : Names) (line : ℕ) (g : Given NodeText) → given_blames inner names line (given_mapped node g) ≡ given_blames by names line g
given_map names line given.Nothing = refl
given_map names line (given.Value value.Null) = refl
given_map names line (given.Value (value.Truth truth)) = refl
given_map names line (given.Value (value.String text)) = refl
given_map names line (given.Value (value.Numbers numbers)) = refl
given_map names line (given.Value (value.Node n)) = refl
given_map names line (given.Value value.EmptyList) = refl
given_map names line (given.Value (value.TruthList truths)) = refl
given_map names line (given.Value (value.StringList texts)) = refl
given_map names line (given.Value (value.NumberList numbers)) = refl
given_map names line (given.Value (value.NodeList nodes)) = each_map (inner names) (by names) node (λ n. refl) nodes
given_map names line (given.Is outer) = refl

default_map : (d : Declaration NodeText) → default_blames inner (interface_mapped node d) ≡ default_blames by d
default_map d = given_map [] d.line d.given

-- ---- items

pub item_blames-field : (line : ℕ) (name : List ℕ) (g : Given NodeText) (names : Names) → (item (held.Field line name g)).blames names ≡ given_blames by names line g
unfolding item_step
item_blames-field line name g names = ap (λ whole. (item whole).blames names) (sym (held.rolls-Field line name g))
    ∙ ap (λ (p : Item). p.blames names) (fold-roll-BodyItem Item Node Stated Proto item_step node_step statement_step proto_step (BodyItem-F.Field line name g))
    ∙ given_map names line g

pub item_named-field : (line : ℕ) (name : List ℕ) (g : Given NodeText) → (item (held.Field line name g)).named ≡ Some (entry line name)
unfolding item_step
item_named-field line name g = ap (λ whole. (item whole).named) (sym (held.rolls-Field line name g))
    ∙ ap (λ (p : Item). p.named) (fold-roll-BodyItem Item Node Stated Proto item_step node_step statement_step proto_step (BodyItem-F.Field line name g))

pub item_blames-declaration : (d : Declaration NodeText) (names : Names) → (item (held.Declaration d)).blames names ≡ given_blames by names d.line d.given
unfolding item_step
item_blames-declaration d names = ap (λ whole. (item whole).blames names) (sym (held.rolls-Declaration d))
    ∙ ap (λ (p : Item). p.blames names) (fold-roll-BodyItem Item Node Stated Proto item_step node_step statement_step proto_step (BodyItem-F.Declaration d))
    ∙ given_map names d.line d.given

pub item_named-declaration : (d : Declaration NodeText) → (item (held.Declaration d)).named ≡ Some (entry d.line d.name)
unfolding item_step
item_named-declaration d = ap (λ whole. (item whole).named) (sym (held.rolls-Declaration d))
    ∙ ap (λ (p : Item). p.named) (fold-roll-BodyItem Item Node Stated Proto item_step node_step statement_step proto_step (BodyItem-F.Declaration d))

pub item_blames-route : (route : RouteText) (names : Names) → (item (held.Route route)).blames names ≡ []
unfolding item_step
item_blames-route route names = ap (λ whole. (item whole).blames names) (sym (held.rolls-Route route))
    ∙ ap (λ (p : Item). p.blames names) (fold-roll-BodyItem Item Node Stated Proto item_step node_step statement_step proto_step (BodyItem-F.BodyItem::Route route))

pub item_named-route : (route : RouteText) → (item (held.Route route)).named ≡ None
unfolding item_step
item_named-route route = ap (λ whole. (item whole).named) (sym (held.rolls-Route route))
    ∙ ap (λ (p : Item). p.named) (fold-roll-BodyItem Item Node Stated Proto item_step node_step statement_step proto_step (BodyItem-F.BodyItem::Route route))

pub item_blames-proto : (p : ProtoText) (names : Names) → (item (held.Proto p)).blames names ≡ (proto p).blames
unfolding item_step
item_blames-proto p names = ap (λ whole. (item whole).blames names) (sym (held.rolls-Proto p))
    ∙ ap (λ (q : Item). q.blames names) (fold-roll-BodyItem Item Node Stated Proto item_step node_step statement_step proto_step (BodyItem-F.BodyItem::Proto p))

pub item_named-proto : (p : ProtoText) → (item (held.Proto p)).named ≡ None
unfolding item_step
item_named-proto p = ap (λ whole. (item whole).named) (sym (held.rolls-Proto p))
    ∙ ap (λ (q : Item). q.named) (fold-roll-BodyItem Item Node Stated Proto item_step node_step statement_step proto_step (BodyItem-F.BodyItem::Proto p))

-- ---- nodes

pub node-use : (line : ℕ) (name : List ℕ) (names : Names) → node (made.Use line name) names ≡ []
unfolding node_step
node-use line name names = ap (λ whole. node whole names) (sym (made.rolls-Use line name))
    ∙ ap (λ (p : Node). p names) (fold-roll-NodeText Item Node Stated Proto item_step node_step statement_step proto_step (NodeText-F.Use line name))

pub node-full : (line : ℕ) (name : Option (List ℕ)) (word : List ℕ) (items : List BodyItem) (names : Names) → node (made.Full line name word items) names
    ≡ twice FieldTwice [] (flat_map (λ i. option_to_list (item i).named) items) ++ flat_map (λ i. (item i).blames names) items
unfolding node_step
node-full line name word items names =
    ap (λ whole. node whole names) (sym (made.rolls-Full line name word items))
    ∙ ap (λ (p : Node). p names) (fold-roll-NodeText Item Node Stated Proto item_step node_step statement_step proto_step (NodeText-F.Full line name word items))
    ∙ ap (λ ns. twice FieldTwice [] ns ++ flat_map (λ (i : Item). i.blames names) (map item items))
    (each_map (λ (i : Item). option_to_list i.named) (λ i. option_to_list (item i).named) item (λ i. refl) items)
    ∙ ap (λ bs. twice FieldTwice [] (flat_map (λ i. option_to_list (item i).named) items) ++ bs)
    (each_map (λ (i : Item). i.blames names) (λ i. (item i).blames names) item (λ i. refl) items)

-- ---- statements

pub statement_blames-node : (n : NodeText) (names : Names) → (statement (stands.Node n)).blames names ≡ node n names
unfolding statement_step
statement_blames-node n names = ap (λ whole. (statement whole).blames names) (sym (stands.rolls-Node n))
    ∙ ap (λ (p : Stated). p.blames names) (fold-roll-Statement Item Node Stated Proto item_step node_step statement_step proto_step (Statement-F.Node n))

pub statement_named-node : (n : NodeText) → (statement (stands.Node n)).named ≡ None
unfolding statement_step
statement_named-node n = ap (λ whole. (statement whole).named) (sym (stands.rolls-Node n))
    ∙ ap (λ (p : Stated). p.named) (fold-roll-Statement Item Node Stated Proto item_step node_step statement_step proto_step (Statement-F.Node n))

pub statement_blames-route : (route : RouteText) (names : Names) → (statement (stands.Route route)).blames names ≡ []
unfolding statement_step
statement_blames-route route names = ap (λ whole. (statement whole).blames names) (sym (stands.rolls-Route route))
    ∙ ap (λ (p : Stated). p.blames names) (fold-roll-Statement Item Node Stated Proto item_step node_step statement_step proto_step (Statement-F.Statement::Route route))

pub statement_named-route : (route : RouteText) → (statement (stands.Route route)).named ≡ None
unfolding statement_step
statement_named-route route = ap (λ whole. (statement whole).named) (sym (stands.rolls-Route route))
    ∙ ap (λ (p : Stated). p.named) (fold-roll-Statement Item Node Stated Proto item_step node_step statement_step proto_step (Statement-F.Statement::Route route))

pub statement_blames-proto : (p : ProtoText) (names : Names) → (statement (stands.Proto p)).blames names ≡ (proto p).blames
unfolding statement_step
statement_blames-proto p names = ap (λ whole. (statement whole).blames names) (sym (stands.rolls-Proto p))
    ∙ ap (λ (q : Stated). q.blames names) (fold-roll-Statement Item Node Stated Proto item_step node_step statement_step proto_step (Statement-F.Statement::Proto p))

pub statement_named-proto : (p : ProtoText) → (statement (stands.Proto p)).named ≡ Some (entry (out-ProtoText p).line (out-ProtoText p).name)
unfolding statement_step proto_step
statement_named-proto p = ap (λ whole. (statement whole).named) (sym (stands.rolls-Proto p))
    ∙ ap (λ (q : Stated). q.named) (fold-roll-Statement Item Node Stated Proto item_step node_step statement_step proto_step (Statement-F.Statement::Proto p))
    ∙ ap (λ (q : Proto). Some q.named) (fold_out-ProtoText Item Node Stated Proto item_step node_step statement_step proto_step p)

-- the blames for a list of statements
pub statements_are : (names : Names) (ss : List Statement) → statements_blames names ss
    ≡ twice ProtoTwice [] (flat_map (λ s. option_to_list (statement s).named) ss) ++ flat_map (λ s. (statement s).blames names) ss
statements_are names ss =
    ap (λ ns. twice ProtoTwice [] ns ++ flat_map (λ (s : Stated). s.blames names) (map statement ss))
    (each_map (λ (s : Stated). option_to_list s.named) (λ s. option_to_list (statement s).named) statement (λ s. refl) ss)
    ∙ ap (λ bs. twice ProtoTwice [] (flat_map (λ s. option_to_list (statement s).named) ss) ++ bs)
    (each_map (λ (s : Stated). s.blames names) (λ s. (statement s).blames names) statement (λ s. refl) ss)

-- those of names that are given twice, and then those of each statement
pub statements_told : (names : Names) (ss : List Statement) (old twofold all : List Blame)
    → twofold ≡ old ++ twice ProtoTwice [] (flat_map (λ s. option_to_list (statement s).named) ss)
    → all ≡ twofold ++ flat_map (λ s. (statement s).blames names) ss
    → all ≡ old ++ statements_blames names ss
statements_told names ss old twofold all first second =
    let front = twice ProtoTwice [] (flat_map (λ s. option_to_list (statement s).named) ss) in
    let each = flat_map (λ s. (statement s).blames names) ss in
    second ∙ ap (λ bs. bs ++ each) first ∙ append_assoc old front each ∙ ap (λ bs. old ++ bs) (sym (statements_are names ss))

-- ---- prototypes

pub proto_is : (p : ProtoText) → (proto p).blames
    ≡ type_blames (out-ProtoText p).line (out-ProtoText p).name
    ++ twice FieldTwice [] (map declared_name (out-ProtoText p).interface)
    ++ flat_map (default_blames by) (out-ProtoText p).interface
    ++ statements_blames (names_of (out-ProtoText p).interface) (out-ProtoText p).body
unfolding proto_step
proto_is p =
    let q = out-ProtoText p in
    let interface = map (interface_mapped node) q.interface in
    ap (λ (r : Proto). r.blames) (fold_out-ProtoText Item Node Stated Proto item_step node_step statement_step proto_step p)
    ∙ ap (λ ns. type_blames q.line q.name ++ twice FieldTwice [] ns ++ flat_map (default_blames inner) interface ++ statements_by (names_of interface) (map statement q.body))
    (names_map declared_name declared_name (interface_mapped node) (λ d. refl) q.interface)
    ∙ ap (λ bs. type_blames q.line q.name ++ twice FieldTwice [] (map declared_name q.interface) ++ bs ++ statements_by (names_of interface) (map statement q.body))
    (each_map (default_blames inner) (default_blames by) (interface_mapped node) default_map q.interface)
    ∙ ap (λ ns. type_blames q.line q.name ++ twice FieldTwice [] (map declared_name q.interface) ++ flat_map (default_blames by) q.interface ++ statements_by ns (map statement q.body))
    (names_map (λ (d : Declaration Node). d.name) (λ (d : Declaration NodeText). d.name) (interface_mapped node) (λ d. refl) q.interface)

pub ruleset item_names = (common_steps, item_named-field, item_named-declaration, item_named-route, item_named-proto)

pub ruleset statement_names = (common_steps, statement_named-node, statement_named-route, statement_named-proto)

pub ruleset item_lemmas = (common_steps, item_blames-field, item_blames-declaration, item_blames-route, item_blames-proto)

pub ruleset node_lemmas = (common_steps, node-use, node-full)

pub ruleset statement_lemmas = (common_steps, statement_blames-node, statement_blames-route, statement_blames-proto)

pub ruleset proto_lemmas = (common_steps, proto_is)
