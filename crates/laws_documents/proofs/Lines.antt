-- Documents that differ in lines alone have flat forms that do, or faults of one kind.
use Rattle.std.proofs.Common.{◌≡◌, ℕ, Bool, true, false, if◌then◌else◌, nat_lt, List, [], ◌∷◌, ◌++◌, length, Result, Ok, Err, map, refl, ap, sym, ◌∙◌, subst}
use Rattle.std.specs.List.{AllByRecursion}
use Rattle.std.proofs.lemmas.List.{length-map}
use Rattle.classic_tree.specs.declared.tree.BodyItem.{BodyItem}
use Rattle.classic_tree.specs.declared.tree.Declaration.{Declaration}
use Rattle.classic_tree.specs.declared.tree.Document.{Document}
use Rattle.classic_tree.specs.declared.tree.Given.{Given}
use Rattle.classic_tree.specs.declared.tree.Given.TheVariants as given
use Rattle.classic_tree.specs.declared.tree.NodeText.{NodeText}
use Rattle.classic_tree.specs.declared.tree.ProtoText.{ProtoText, fold_out-ProtoText, out-ProtoText}
use Rattle.classic_tree.specs.declared.tree.RawValue.TheVariants as value
use Rattle.classic_tree.specs.declared.tree.Statement.{Statement}
use Rattle.classic_tree.proofs.Mapped.{given_mapped, declaration_mapped, interface_mapped}
use Rattle.proto_flat.specs.Fault.{fault}
use Rattle.proto_flat.specs.declared.fault.ExpandFault.{ExpandFault}
use Rattle.proto_flat.specs.declared.fault.ExpandFaultKind.TheVariants.{TooLarge}
use Rattle.proto_flat.specs.declared.flat.Flat.{Flat}
use Rattle.proto_flat.specs.declared.flat.FlatRoute.{FlatRoute}
use Rattle.proto_meaning.specs.Limits.{Met, follow, is_within, limited}
use Rattle.proto_meaning.specs.Sight.{Put}
use Rattle.proto_meaning.specs.Flat.{Walk, Does, ◌>>=◌, Item, Node, Stated, Proto, begin, comes, flat, header_of, item_step, node_step, proto_step, pure, statement_step, through}
use Rattle.proto_meaning.specs.Flat.{item as item_part, node as node_part, proto as proto_part, statement as stated}
use Rattle.proto_meaning.proofs.Trees.{item-field, item-declaration, item-route, item-proto, node-use, node-full, proto_of, statement-node, statement-route, statement-proto}
use Rattle.proto_meaning.proofs.Induction.{OfDeclaration, OfGiven, Layers, every}
use Rattle.laws_documents.specs.Lines.{AreAlike, unlined, unlined_flat, unlined_flat_route, unlined_item, unlined_node, unlined_proto, unlined_route, unlined_statement}
use Rattle.laws_documents.proofs.LinesParts as texts
use Rattle.laws_documents.proofs.LinesParts.{OpenProto, proto-open, unlined_given, unlined_interface, unlined_own}
use Rattle.laws_documents.specs.PlainLaws.{LinesAreForFaults}
use Rattle.laws_documents.proofs.LineWalks.{Both, ComesAlike, DoesAlike, Equal, WalkAlike, bare_put, pure_alike, then_alike, through_alike}
use Rattle.laws_documents.proofs.LineParts.{GivenAlike, ItemAlike, NodeAlike, ProtoAlike, StatedAlike, declaration_alike, field_alike, list_alike, node_value, proto_item_alike, route_item_alike}
use Rattle.laws_documents.proofs.LineNodes.{full_node_alike, node_stated, proto_stated, route_stated, use_node_alike}
use Rattle.laws_documents.proofs.LineProtos.{DefaultAlike, begin_alike, proto_alike}

-- ---- the parts of a text

abbrev OfItem : BodyItem → Type 0
OfItem i = ItemAlike (item_part i) (item_part (unlined_item i))

abbrev OfNode : NodeText → Type 0
OfNode n = NodeAlike (node_part n) (node_part (unlined_node n))

abbrev OfStatement : Statement → Type 0
OfStatement s = StatedAlike (stated s) (stated (unlined_statement s))

abbrev OfProto : ProtoText → Type 0
OfProto p = ProtoAlike (proto_part p) (proto_part (unlined_proto p))

both_mapped : {X A : Type 0} (R : A → A → Type 0) (of : X → A) (bare : X → X) (xs : List X) → AllByRecursion (λ (x : X). R (of x) (of (bare x))) xs → Both R (map of xs) (map of (map bare xs))
both_mapped R of bare [] h = tt
both_mapped R of bare (x ∷ xs) h = (h.0, both_mapped R of bare xs h.1)

given_alike : (g : Given NodeText) → OfGiven OfNode g → GivenAlike (given_mapped node_part g) (given_mapped node_part (unlined_given g))
given_alike given.Nothing h = record { kind = tt; nodes = tt }
given_alike (given.Value value.Null) h = record { kind = (refl, pure_alike Equal value.Null value.Null refl); nodes = tt }
given_alike (given.Value (value.Truth truth)) h = record { kind = (refl, pure_alike Equal (value.Truth truth) (value.Truth truth) refl); nodes = tt }
given_alike (given.Value (value.String text)) h = record { kind = (refl, pure_alike Equal (value.String text) (value.String text) refl); nodes = tt }
given_alike (given.Value (value.Numbers numbers)) h = record { kind = (refl, pure_alike Equal (value.Numbers numbers) (value.Numbers numbers) refl); nodes = tt }
given_alike (given.Value (value.Node n)) h = record { kind = (refl, node_value (node_part n) (node_part (unlined_node n)) h); nodes = (h, tt) }
given_alike (given.Value value.EmptyList) h = record { kind = (refl, pure_alike Equal value.EmptyList value.EmptyList refl); nodes = tt }
given_alike (given.Value (value.TruthList truths)) h = record { kind = (refl, pure_alike Equal (value.TruthList truths) (value.TruthList truths) refl); nodes = tt }
given_alike (given.Value (value.StringList texts)) h = record { kind = (refl, pure_alike Equal (value.StringList texts) (value.StringList texts) refl); nodes = tt }
given_alike (given.Value (value.NumberList numbers)) h = record { kind = (refl, pure_alike Equal (value.NumberList numbers) (value.NumberList numbers) refl); nodes = tt }
given_alike (given.Value (value.NodeList ns)) h =
    let both = both_mapped NodeAlike node_part unlined_node ns h in
    record { kind = (lengths ns, list_alike (map node_part ns) (map node_part (map unlined_node ns)) both); nodes = both } where
      lengths : (ns : List NodeText) → length (map node_part (map unlined_node ns)) ≡ length (map node_part ns)
      lengths ns = length-map (map unlined_node ns) node_part ∙ length-map ns unlined_node ∙ sym (length-map ns node_part)
given_alike (given.Is name) h = record { kind = refl; nodes = tt }

abbrev parts : Declaration NodeText → Declaration Node
parts d = interface_mapped node_part d

defaults_alike : (ds : List (Declaration NodeText)) → AllByRecursion (OfDeclaration OfNode) ds → Both DefaultAlike (map parts ds) (map parts (unlined_interface ds))
defaults_alike [] h = tt
defaults_alike (d ∷ ds) h = (record { same = refl; given = given_alike d.given h.0 }, defaults_alike ds h.1)

item_by : (l m n o : Item) → l ≡ m → o ≡ n → ItemAlike m n → ItemAlike l o
item_by l m n o e f h = subst (λ x. ItemAlike x o) (sym e) (subst (λ x. ItemAlike m x) (sym f) h)

node_by : (l m n o : Node) → l ≡ m → o ≡ n → NodeAlike m n → NodeAlike l o
node_by l m n o e f h = subst (λ x. NodeAlike x o) (sym e) (subst (λ x. NodeAlike m x) (sym f) h)

stated_by : (l m n o : Stated) → l ≡ m → o ≡ n → StatedAlike m n → StatedAlike l o
stated_by l m n o e f h = subst (λ x. StatedAlike x o) (sym e) (subst (λ x. StatedAlike m x) (sym f) h)

proto_by : (l m n o : Proto) → l ≡ m → o ≡ n → ProtoAlike m n → ProtoAlike l o
proto_by l m n o e f h = subst (λ x. ProtoAlike x o) (sym e) (subst (λ x. ProtoAlike m x) (sym f) h)

abbrev of_open : OpenProto → Proto
of_open q = proto_of q.line q.name (map parts q.interface) (map stated q.body)

prototype_layer : (p : ProtoText) → AllByRecursion (OfDeclaration OfNode) (out-ProtoText p).interface → AllByRecursion OfStatement (out-ProtoText p).body → OfProto p
prototype_layer p ds ss =
    let q = out-ProtoText p in
    proto_by (proto_part p) (of_open q) (proto_of 0 q.name (map parts (unlined_interface q.interface)) (map stated (map unlined_statement q.body))) (proto_part (unlined_proto p))
    (fold_out-ProtoText Item Node Stated Proto item_step node_step statement_step proto_step p)
    (fold_out-ProtoText Item Node Stated Proto item_step node_step statement_step proto_step (unlined_proto p) ∙ ap of_open (proto-open p))
    (proto_alike q.line q.name (map parts q.interface) (map parts (unlined_interface q.interface)) (map stated q.body) (map stated (map unlined_statement q.body)) (defaults_alike q.interface ds) (both_mapped StatedAlike stated unlined_statement q.body ss))

layers : Layers OfItem OfNode OfStatement OfProto
layers = record {
  field = λ line name g h. item_by _ _ _ _ (item-field line name g refl) (ap item_part (texts.item-field line name g) ∙ item-field 0 name (unlined_given g) refl) (field_alike line name (given_mapped node_part g) (given_mapped node_part (unlined_given g)) (given_alike g h));
  declaration = λ d h. item_by _ _ _ _ (item-declaration d refl) (ap item_part (texts.item-declaration d) ∙ item-declaration (unlined_own d) refl)
      (declaration_alike (declaration_mapped node_part d) (declaration_mapped node_part (unlined_own d)) refl (given_alike d.given h));
  item_route = λ r. item_by _ _ _ _ (item-route r) (ap item_part (texts.item-route r) ∙ item-route (unlined_route r)) (route_item_alike r);
  item_proto = λ p h. item_by _ _ _ _ (item-proto p refl) (ap item_part (texts.item-proto p) ∙ item-proto (unlined_proto p) refl) (proto_item_alike (proto_part p) (proto_part (unlined_proto p)) h);
  used = λ line name. node_by _ _ _ _ (node-use line name) (ap node_part (texts.node-use line name) ∙ node-use 0 name) (use_node_alike line name);
  full = λ line name word is h. node_by _ _ _ _ (node-full line name word is refl) (ap node_part (texts.node-full line name word is) ∙ node-full 0 name word (map unlined_item is) refl)
      (full_node_alike line name word (map item_part is) (map item_part (map unlined_item is)) (both_mapped ItemAlike item_part unlined_item is h));
  node = λ n h. stated_by _ _ _ _ (statement-node n refl) (ap stated (texts.statement-node n) ∙ statement-node (unlined_node n) refl) (node_stated (node_part n) (node_part (unlined_node n)) h);
  route = λ r. stated_by _ _ _ _ (statement-route r) (ap stated (texts.statement-route r) ∙ statement-route (unlined_route r)) (route_stated r);
  proto = λ p h. stated_by _ _ _ _ (statement-proto p refl) (ap stated (texts.statement-proto p) ∙ statement-proto (unlined_proto p) refl) (proto_stated (proto_part p) (proto_part (unlined_proto p)) h);
  prototype = prototype_layer;
}

-- ---- the document

abbrev root : Stated → List ℕ → Does (List ℕ)
root s roots = s.1.does >>= λ ns. pure (roots ++ ns)

root_alike : (m n : Stated) → StatedAlike m n → (ks ls : List ℕ) → ls ≡ ks → DoesAlike (Equal {A = List ℕ}) (root m ks) (root n ls)
root_alike m n h ks ls e =
    then_alike Equal Equal m.1.does n.1.does (λ ns. pure (ks ++ ns)) (λ ns. pure (ls ++ ns)) h.does (λ a b i. pure_alike Equal (ks ++ a) (ls ++ b) (ap (λ xs. xs ++ b) e ∙ ap (λ xs. ks ++ xs) i))

-- the second is the first without lines
abbrev IsBare : Result Flat ExpandFault → Result Flat ExpandFault → Type 0
IsBare (Ok f) (Ok g) = unlined_flat f ≡ g
IsBare (Err e) (Err f) = e.kind ≡ f.kind
IsBare (Ok f) (Err e) = ⊥
IsBare (Err e) (Ok g) = ⊥

bare_if : (b : Bool) (r q s t : Result Flat ExpandFault) → IsBare r q → IsBare s t → IsBare (if b then r else s) (if b then q else t)
bare_if true r q s t h k = h
bare_if false r q s t h k = k

abbrev flat_of : Document → List ℕ → Walk → Flat
flat_of d roots w =
    record {
      header = header_of d;
      nodes = w.put.nodes;
      roots = roots;
      helpers = w.put.helpers;
      routes = w.scope.routes w.scope.braces;
    }

abbrev flat_with : Document → List ℕ → Put → List FlatRoute → Flat
flat_with d roots put routes = record { header = header_of d; nodes = put.nodes; roots = roots; helpers = put.helpers; routes = routes }

flats_bare : (d : Document) (ks ls : List ℕ) (w v : Walk) → ls ≡ ks → WalkAlike w v → unlined_flat (flat_of d ks w) ≡ flat_of d ls v
flats_bare d ks ls w v e k =
    let routes = ap (λ bs. v.scope.routes bs) k.scope.braces ∙ k.scope.routes w.scope.braces in
    sym (ap (λ ns. flat_of d ns v) e ∙ ap (λ p. flat_with d ks p (v.scope.routes v.scope.braces)) k.put ∙ ap (flat_with d ks (bare_put w.put)) routes)

few : Flat → Bool
few f = nat_lt 65536 (length f.routes)

few_bare : (f g : Flat) → unlined_flat f ≡ g → few g ≡ few f
unfolding few
few_bare f g e = ap few (sym e) ∙ ap (nat_lt 65536) (length-map f.routes unlined_flat_route)

too_large : IsBare (Err (fault TooLarge 0)) (Err (fault TooLarge 0))
too_large = refl

limited_bare : (d : Document) (m n : List Met) (c e : Result (List ℕ × Walk) ExpandFault) → n ≡ m → ComesAlike (Equal {A = List ℕ}) c e
    → IsBare (limited (follow m c (λ p. comes (Ok (flat_of d p.0 p.1))))) (limited (follow n e (λ p. comes (Ok (flat_of d p.0 p.1)))))
unfolding few
limited_bare d m n (Ok p) (Ok q) i h =
    let f = flat_of d p.0 p.1 in
    let g = flat_of d q.0 q.1 in
    let same = flats_bare d p.0 q.0 p.1 q.1 h.0 h.1 in
    subst (λ x. IsBare (limited (record { met = m ++ []; comes = Ok f })) (limited (record { met = x ++ []; comes = Ok g }))) (sym i)
    (bare_if (is_within (m ++ [])) (if few f then Err (fault TooLarge 0) else Ok f) (if few g then Err (fault TooLarge 0) else Ok g) (Err (fault TooLarge 0)) (Err (fault TooLarge 0))
    (subst (λ b. IsBare (if few f then Err (fault TooLarge 0) else Ok f) (if b then Err (fault TooLarge 0) else Ok g)) (sym (few_bare f g same))
    (bare_if (few f) (Err (fault TooLarge 0)) (Err (fault TooLarge 0)) (Ok f) (Ok g) too_large same)) too_large)
limited_bare d m n (Err x) (Err y) i h =
    subst (λ z. IsBare (limited (record { met = m; comes = Err x })) (limited (record { met = z; comes = Err y }))) (sym i)
    (bare_if (is_within m) (Err x) (Err y) (Err (fault TooLarge 0)) (Err (fault TooLarge 0)) (sym (ap (λ (z : ExpandFault). z.kind) h)) too_large)
limited_bare d m n (Ok p) (Err y) i h = absurd h
limited_bare d m n (Err x) (Ok q) i h = absurd h

flat_bare : (d : Document) → IsBare (flat d) (flat (unlined d))
unfolding flat
flat_bare d =
    let start = begin [] (record { nodes = []; helpers = [] }) in
    let o = through root (map stated d.statements) [] start in
    let q = through root (map stated (map unlined_statement d.statements)) [] start in
    let both = through_alike StatedAlike Equal root root root_alike (map stated d.statements) (map stated (map unlined_statement d.statements))
    (both_mapped StatedAlike stated unlined_statement d.statements (every OfItem OfNode OfStatement OfProto layers d.statements)) [] [] refl start start (begin_alike [] [] (record { nodes = []; helpers = [] }) tt) in
    limited_bare d o.met q.met o.comes q.comes both.met both.comes_to

both_bare : (r s t : Result Flat ExpandFault) → IsBare r t → IsBare s t → AreAlike r s
both_bare (Ok f) (Ok g) (Ok x) h k = h ∙ sym k
both_bare (Err e) (Err f) (Err x) h k = h ∙ sym k
both_bare (Ok f) (Ok g) (Err x) h k = absurd h
both_bare (Ok f) (Err e) (Ok x) h k = absurd k
both_bare (Ok f) (Err e) (Err x) h k = absurd h
both_bare (Err e) (Ok g) (Ok x) h k = absurd h
both_bare (Err e) (Ok g) (Err x) h k = absurd k
both_bare (Err e) (Err f) (Ok x) h k = absurd h

pub lines_are_for_faults : LinesAreForFaults
lines_are_for_faults d e h =
    both_bare (flat d) (flat e) (flat (unlined d)) (flat_bare d) (subst (λ (x : Document). IsBare (flat e) (flat x)) (sym h) (flat_bare e))
