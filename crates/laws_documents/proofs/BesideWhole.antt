-- A document without instances is read plainly.
use Rattle.std.proofs.Common.{◌≡◌, ℕ, List, [], ◌∷◌, ◌++◌, Option, Result, Ok, Err, map, refl, ap, sym, ◌∙◌, subst}
use Rattle.std.specs.List.{AllByRecursion, flat_map}
use Rattle.classic_tree.specs.declared.tree.BodyItem.{BodyItem}
use Rattle.classic_tree.specs.declared.tree.BodyItem.TheVariants as item_text
use Rattle.classic_tree.specs.declared.tree.Declaration.{Declaration}
use Rattle.classic_tree.specs.declared.tree.Document.{Document}
use Rattle.classic_tree.specs.declared.tree.Given.{Given}
use Rattle.classic_tree.specs.declared.tree.NodeText.{NodeText}
use Rattle.classic_tree.specs.declared.tree.NodeText.TheVariants as node_text
use Rattle.classic_tree.specs.declared.tree.ProtoText.{ProtoText, fold_out-ProtoText}
use Rattle.classic_tree.specs.declared.tree.RouteText.{RouteText}
use Rattle.classic_tree.specs.declared.tree.Statement.{Statement}
use Rattle.classic_tree.specs.declared.tree.Statement.TheVariants as statement_text
use Rattle.classic_tree.proofs.Mapped.{given_mapped}
use Rattle.proto_flat.specs.declared.fault.ExpandFault.{ExpandFault}
use Rattle.proto_flat.specs.declared.flat.Flat.{Flat}
use Rattle.proto_meaning.specs.Limits.{Met, Outcome, follow, and_then, is_within, limited}
use Rattle.proto_meaning.specs.Names.{Name}
use Rattle.proto_meaning.specs.Sight.{Sight, no_names}
use Rattle.proto_meaning.specs.Flat.{Walk, Does, Node, Item, Stated, Proto, header_of, item_step, node_step, statement_step, proto_step, flat, comes}
use Rattle.proto_meaning.specs.Flat as walk
use Rattle.proto_meaning.specs.Flat.{item as item_part, node as node_part, proto as proto_part, statement as stated}
use Rattle.proto_meaning.proofs.Trees.{item-field, item-declaration, item-route, item-proto, node-use, node-full, statement-node, statement-route, statement-proto}
use Rattle.proto_meaning.proofs.Induction.{OfGiven, OfDeclaration, Layers, every}
use Rattle.laws_documents.specs.Plain.{Reading, PlainRead, ◌>>=◌, pure, in_turn, route_of, Between, ItemReads, read_item, read_text, read_statement, read_all}
use Rattle.laws_documents.proofs.PlainTexts as texts
use Rattle.laws_documents.proofs.PlainRoutes.{all_wired}
use Rattle.laws_documents.specs.Closings.{IsOfNode, in_item, in_statement}
use Rattle.laws_documents.proofs.ClosingParts.{in_field, in_declaration, in_full, in_node_statement}
use Rattle.laws_documents.proofs.Lists.{all_split}
use Rattle.laws_documents.proofs.Limited.{refused}
use Rattle.laws_documents.specs.PlainLaws.{DocumentsAreReadPlainly}
use Rattle.laws_documents.proofs.Beside.{same, Ends, Comes, Follows, follows_pure, follows_then, walk_at}
use Rattle.laws_documents.proofs.BesideParts.{NodeFollows, ItemFollows, Passes, inside_of, given_follows, field_follows, declaration_follows, route_item_follows, proto_passes, proto_item_follows, full_node_follows, use_follows, node_statement_follows, route_statement_follows, proto_statement_follows}

abbrev StatementFollows : Statement → Type 0
StatementFollows s = AllByRecursion IsOfNode (in_statement s) → Follows same (read_statement s) (stated s).1.does

abbrev ProtoPasses : ProtoText → Type 0
ProtoPasses p = Passes (proto_part p)

-- ---- by the parts of a text

item_by : (i : BodyItem) (m : ItemReads) (o : Item) → read_item i ≡ m → item_part i ≡ o → ((at : ℕ) (t : _) (b : Between) → Follows (inside_of at t) (m t b) (o.does (inside_of at t b))) → ItemFollows i
item_by i m o e f h k at t b =
    subst (λ (x : ItemReads). Follows (inside_of at t) (x t b) ((item_part i).does (inside_of at t b))) (sym e) (subst (λ (x : Item). Follows (inside_of at t) (m t b) (x.does (inside_of at t b))) (sym f) (h at t b))

node_by : (n : NodeText) (m : PlainRead ℕ) (o : Node) → read_text n ≡ m → node_part n ≡ o → Follows same m o.does → Follows same (read_text n) (node_part n).does
node_by n m o e f h = subst (λ (x : PlainRead ℕ). Follows same x (node_part n).does) (sym e) (subst (λ (x : Node). Follows same m x.does) (sym f) h)

statement_by : (s : Statement) (m : PlainRead (List ℕ)) (o : Stated) → read_statement s ≡ m → stated s ≡ o → Follows same m o.1.does → Follows same (read_statement s) (stated s).1.does
statement_by s m o e f h = subst (λ (x : PlainRead (List ℕ)). Follows same x (stated s).1.does) (sym e) (subst (λ (x : Stated). Follows same m x.1.does) (sym f) h)

field_layer : (line : ℕ) (name : Name) (g : Given NodeText) → OfGiven NodeFollows g → ItemFollows (item_text.Field line name g)
field_layer line name g h k =
    item_by _ _ _ (texts.read-field line name g) (item-field line name g refl)
    (field_follows line name (given_mapped read_text g) (given_mapped node_part g) (given_follows g h (subst (AllByRecursion IsOfNode) (in_field line name g) k))) k

declaration_layer : (d : Declaration NodeText) → OfDeclaration NodeFollows d → ItemFollows (item_text.Declaration d)
declaration_layer d h k =
    item_by _ _ _ (texts.read-declaration d) (item-declaration d refl) (declaration_follows d (given_follows d.given h (subst (AllByRecursion IsOfNode) (in_declaration d) k))) k

route_item_layer : (route : RouteText) → ItemFollows (item_text.Route route)
route_item_layer route k = item_by _ _ _ (texts.read-item-route route) (item-route route) (route_item_follows route) k

proto_item_layer : (p : ProtoText) → ProtoPasses p → ItemFollows (item_text.Proto p)
proto_item_layer p h k = item_by _ _ _ (texts.read-item-proto p) (item-proto p refl) (proto_item_follows (proto_part p) h) k

full_layer : (line : ℕ) (name : Option Name) (word : Name) (is : List BodyItem) → AllByRecursion ItemFollows is → NodeFollows (node_text.Full line name word is)
full_layer line name word is h k =
    let both = all_split IsOfNode (flat_map in_item is) (record { word = word; name = name } ∷ []) (subst (AllByRecursion IsOfNode) (in_full line name word is) k) in
    node_by _ _ _ (texts.read-full line name word is) (node-full line name word is refl) (full_node_follows line name is h both.0 word both.1.0)

node_layer : (n : NodeText) → NodeFollows n → StatementFollows (statement_text.Node n)
node_layer n h k = statement_by _ _ _ (texts.read-node n) (statement-node n refl) (node_statement_follows n (h (subst (AllByRecursion IsOfNode) (in_node_statement n) k)))

layers : Layers ItemFollows NodeFollows StatementFollows ProtoPasses
layers = record {
  field = field_layer;
  declaration = declaration_layer;
  item_route = route_item_layer;
  item_proto = proto_item_layer;
  used = λ line name k. node_by _ _ _ (texts.read-use line name) (node-use line name) (use_follows line name);
  full = full_layer;
  node = node_layer;
  route = λ r k. statement_by _ _ _ (texts.read-route r) (statement-route r) (route_statement_follows r);
  proto = λ p h k. statement_by _ _ _ (texts.read-proto p) (statement-proto p refl) (proto_statement_follows (proto_part p) h);
  prototype = λ p hd hs. subst Passes (sym (fold_out-ProtoText Item Node Stated Proto item_step node_step statement_step proto_step p)) (proto_passes _);
}

-- ---- a document

abbrev next_root : PlainRead (List ℕ) → List ℕ → PlainRead (List ℕ)
next_root s roots = s >>= λ ns. pure (roots ++ ns)

abbrev root : Stated → List ℕ → Does (List ℕ)
root s roots = λ w. and_then (s.1.does w) (λ p. walk.pure (roots ++ p.0) p.1)

roots_follow : (ss : List Statement) → AllByRecursion StatementFollows ss → AllByRecursion IsOfNode (flat_map in_statement ss) → (roots : List ℕ)
    → Follows same (in_turn next_root (map read_statement ss) roots) (walk.through root (map stated ss) roots)
roots_follow [] h k roots = follows_pure same roots
roots_follow (s ∷ ss) h k roots =
    let both = all_split IsOfNode (in_statement s) (flat_map in_statement ss) k in
    follows_then same same (next_root (read_statement s) roots) (root (stated s) roots) (in_turn next_root (map read_statement ss)) (walk.through root (map stated ss))
    (follows_then same same (read_statement s) (stated s).1.does (λ ns. pure (roots ++ ns)) (λ ns. walk.pure (roots ++ ns)) (h.0 both.0) (λ ns. follows_pure same (roots ++ ns)))
    (λ all. roots_follow ss h.1 both.1 all)

abbrev finish : Document → List ℕ × Walk → Outcome Flat
finish d p = walk.comes (Ok (record {
  header = header_of d;
  nodes = p.1.put.nodes;
  roots = p.0;
  helpers = p.1.put.helpers;
  routes = p.1.scope.routes p.1.scope.braces;
}))

abbrev read_finish : Document → List ℕ × Reading → Outcome Flat
read_finish d p = comes (Ok (record {
  header = header_of d;
  nodes = p.1.nodes;
  roots = p.0;
  helpers = [];
  routes = map (route_of p.1.pairs) p.1.wires;
}))

finished : (d : Document) (o : Outcome (List ℕ × Reading)) (met : List Met) (p : List ℕ × Walk) → Ends same o met p.0 p.1 → and_then o (read_finish d) ≡ follow met (Ok p) (finish d)
finished d o met p h =
    ap (λ x. and_then x (read_finish d)) h.read
    ∙ ap (λ routes. record { met = met ++ []; comes = Ok (record { header = header_of d; nodes = h.after.nodes; roots = h.what; helpers = []; routes = routes }) }) (sym (all_wired h.after.pairs h.after.wires))
    ∙ ap (λ v. follow met (Ok (h.what, v)) (finish d)) (sym h.walked) ∙ ap (λ b. follow met (Ok (b, p.1)) (finish d)) (sym h.given)

both_end : (d : Document) (f : Flat) (o : Outcome (List ℕ × Reading)) (met : List Met) (c : Result (List ℕ × Walk) ExpandFault) → Comes same o met c
    → limited (follow met c (finish d)) ≡ Ok f → limited (and_then o (read_finish d)) ≡ Ok f
both_end d f o met (Ok p) h k = ap limited (finished d o met p h) ∙ k
both_end d f o met (Err e) h k = absurd (refused (is_within met) e f k)

abbrev nothing : Reading
nothing = record { nodes = []; pairs = []; wires = [] }

abbrev in_sight : Sight
in_sight = record { here = []; outside = []; taken = no_names }

pub documents_are_read_plainly : DocumentsAreReadPlainly
unfolding flat
documents_are_read_plainly d f k e =
    let q = walk.through root (map stated d.statements) [] (walk_at in_sight nothing) in
    both_end d f (read_all (map read_statement d.statements)) q.met q.comes
    (roots_follow d.statements (every ItemFollows NodeFollows StatementFollows ProtoPasses layers d.statements) k [] in_sight nothing) e
