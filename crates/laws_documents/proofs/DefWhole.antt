-- A document with other DEF names stands for the same, but for the names of nodes.
use Rattle.std.proofs.Common.{◌≡◌, ℕ, Bool, true, false, if◌then◌else◌, nat_lt, List, [], ◌∷◌, ◌++◌, length, option_map, Result, Ok, Err, map, refl, ap, sym, ◌∙◌, subst}
use Rattle.std.specs.List.{AllByRecursion}
use Rattle.std.proofs.lemmas.List.{length-map}
use Rattle.x3d_values.specs.Ranges.{max_routes}
use Rattle.classic_tree.specs.declared.tree.BodyItem.{BodyItem}
use Rattle.classic_tree.specs.declared.tree.Declaration.{Declaration}
use Rattle.classic_tree.specs.declared.tree.Document.{Document}
use Rattle.classic_tree.specs.declared.tree.Given.{Given}
use Rattle.classic_tree.specs.declared.tree.Given.TheVariants as given
use Rattle.classic_tree.specs.declared.tree.NodeText.{NodeText}
use Rattle.classic_tree.specs.declared.tree.ProtoText.{ProtoText, fold_out-ProtoText, out-ProtoText}
use Rattle.classic_tree.specs.declared.tree.RawValue.TheVariants as value
use Rattle.classic_tree.specs.declared.tree.Statement.{Statement}
use Rattle.classic_tree.proofs.Mapped.{given_mapped, declaration_mapped, interface_mapped}
use Rattle.proto_flat.specs.Fault.{fault}
use Rattle.proto_flat.specs.declared.fault.ExpandFault.{ExpandFault}
use Rattle.proto_flat.specs.declared.fault.ExpandFaultKind.TheVariants.{TooLarge}
use Rattle.proto_flat.specs.declared.flat.Flat.{Flat}
use Rattle.proto_flat.specs.declared.flat.FlatNode.{FlatNode}
use Rattle.proto_flat.specs.declared.flat.FlatRoute.{FlatRoute}
use Rattle.proto_meaning.specs.Limits.{Met, follow, is_within, limited}
use Rattle.proto_meaning.specs.Names.{Name}
use Rattle.proto_meaning.specs.Flat.{Walk, Does, ◌>>=◌, Item, Node, Stated, Proto, begin, comes, flat, header_of, item_step, node_step, proto_step, pure, statement_step, through}
use Rattle.proto_meaning.specs.Flat.{item as item_part, node as node_part, proto as proto_part, statement as stated}
use Rattle.proto_meaning.proofs.Trees.{item-field, item-declaration, item-route, item-proto, node-use, node-full, proto_of, statement-node, statement-route, statement-proto}
use Rattle.proto_meaning.proofs.Induction.{OfDeclaration, OfGiven, Layers, every}
use Rattle.laws_documents.specs.RenamedDefs.{AreNamedAlike, DefNamesDontMatter, InScope, IsOneToOne, declaration_in, nameless, nameless_flat, renamed_item, renamed_node, renamed_proto, renamed_statement, route_in}
use Rattle.laws_documents.proofs.DefTexts as texts
use Rattle.laws_documents.proofs.DefTexts.{OpenProto, in_item, in_statement, other_declaration, other_given, other_open, proto-open}
use Rattle.laws_documents.proofs.LineWalks.{Both, Equal}
use Rattle.laws_documents.proofs.DefWalks.{Apart, ComesAlike, DoesAlike, WalkAlike, apart, pure_alike, then_alike, through_alike}
use Rattle.laws_documents.proofs.DefParts.{GivenAlike, ItemAlike, NodeAlike, ProtoAlike, StatedAlike, declaration_alike, field_alike, list_alike, node_value, proto_item_alike, route_item_alike}
use Rattle.laws_documents.proofs.DefNodes.{full_node_alike, node_stated, proto_stated, route_stated, use_node_alike}
use Rattle.laws_documents.proofs.DefProtos.{DefaultAlike, begin_alike, proto_alike}

-- ---- lists of parts

both_mapped : {X A F : Type 0} (P : X → Type 0) (R : A → A → Type 0) (of : X → A) (new : X → F) (at : F → X) → ((x : X) → P x → R (of x) (of (at (new x)))) → (xs : List X) → AllByRecursion P xs → Both R (map of xs) (map of (map at (map new xs)))
both_mapped P R of new at k [] h = tt
both_mapped P R of new at k (x ∷ xs) h = (k x h.0, both_mapped P R of new at k xs h.1)

both_once : {X A : Type 0} (P : X → Type 0) (R : A → A → Type 0) (of : X → A) (new : X → X) → ((x : X) → P x → R (of x) (of (new x))) → (xs : List X) → AllByRecursion P xs → Both R (map of xs) (map of (map new xs))
both_once P R of new k [] h = tt
both_once P R of new k (x ∷ xs) h = (k x h.0, both_once P R of new k xs h.1)

item_by : (r : Name → Name) (l m n o : Item) → l ≡ m → o ≡ n → ItemAlike r m n → ItemAlike r l o
item_by r l m n o e f h = subst (λ x. ItemAlike r x o) (sym e) (subst (λ x. ItemAlike r m x) (sym f) h)

node_by : (r : Name → Name) (l m n o : Node) → l ≡ m → o ≡ n → NodeAlike r m n → NodeAlike r l o
node_by r l m n o e f h = subst (λ x. NodeAlike r x o) (sym e) (subst (λ x. NodeAlike r m x) (sym f) h)

stated_by : (r : Name → Name) (l m n o : Stated) → l ≡ m → o ≡ n → StatedAlike r m n → StatedAlike r l o
stated_by r l m n o e f h = subst (λ x. StatedAlike r x o) (sym e) (subst (λ x. StatedAlike r m x) (sym f) h)

proto_by : (r : Name → Name) (l m n o : Proto) → l ≡ m → o ≡ n → ProtoAlike r m n → ProtoAlike r l o
proto_by r l m n o e f h = subst (λ x. ProtoAlike r x o) (sym e) (subst (λ x. ProtoAlike r m x) (sym f) h)

abbrev parts : Declaration NodeText → Declaration Node
parts d = interface_mapped node_part d

abbrev of_open : OpenProto → Proto
of_open q = proto_of q.line q.name (map parts q.interface) (map stated q.body)

module _ (rename : Name → Name → Name) (one : (proto : Name) → IsOneToOne (rename proto)) where
  -- ---- the parts of a text, in whatever scope

  abbrev OfItem : BodyItem → Type 0
  OfItem i = (r : Name → Name) → Apart r → ItemAlike r (item_part i) (item_part (renamed_item rename i r))

  abbrev OfNode : NodeText → Type 0
  OfNode n = (r : Name → Name) → Apart r → NodeAlike r (node_part n) (node_part (renamed_node rename n r))

  abbrev OfStatement : Statement → Type 0
  OfStatement s = (r : Name → Name) → Apart r → StatedAlike r (stated s) (stated (renamed_statement rename s r))

  abbrev OfProto : ProtoText → Type 0
  OfProto p = (r : Name → Name) → Apart r → ProtoAlike r (proto_part p) (proto_part (renamed_proto rename p r))

  module _ (r : Name → Name) (good : Apart r) where
    abbrev in_node : InScope NodeText → NodeText
    in_node n = n r

    nodes_both : (ns : List NodeText) → AllByRecursion OfNode ns → Both (NodeAlike r) (map node_part ns) (map node_part (map in_node (map (renamed_node rename) ns)))
    nodes_both ns h = both_mapped OfNode (NodeAlike r) node_part (renamed_node rename) in_node (λ n k. k r good) ns h

    items_both : (is : List BodyItem) → AllByRecursion OfItem is → Both (ItemAlike r) (map item_part is) (map item_part (map (in_item rename r) (map (renamed_item rename) is)))
    items_both is h = both_mapped OfItem (ItemAlike r) item_part (renamed_item rename) (in_item rename r) (λ i k. k r good) is h

    statements_both : (ss : List Statement) → AllByRecursion OfStatement ss → Both (StatedAlike r) (map stated ss) (map stated (map (in_statement rename r) (map (renamed_statement rename) ss)))
    statements_both ss h = both_mapped OfStatement (StatedAlike r) stated (renamed_statement rename) (in_statement rename r) (λ s k. k r good) ss h

    lengths : (ns : List NodeText) → length (map node_part (map in_node (map (renamed_node rename) ns))) ≡ length (map node_part ns)
    lengths ns =
        length-map (map in_node (map (renamed_node rename) ns)) node_part ∙ length-map (map (renamed_node rename) ns) in_node
        ∙ length-map ns (renamed_node rename) ∙ sym (length-map ns node_part)

    given_alike : (g : Given NodeText) → OfGiven OfNode g → GivenAlike r (given_mapped node_part g) (given_mapped node_part (other_given rename r g))
    given_alike given.Nothing h = record { kind = tt; nodes = tt }
    given_alike (given.Value value.Null) h = record { kind = (refl, pure_alike r Equal value.Null value.Null refl); nodes = tt }
    given_alike (given.Value (value.Truth truth)) h = record { kind = (refl, pure_alike r Equal (value.Truth truth) (value.Truth truth) refl); nodes = tt }
    given_alike (given.Value (value.String text)) h = record { kind = (refl, pure_alike r Equal (value.String text) (value.String text) refl); nodes = tt }
    given_alike (given.Value (value.Numbers numbers)) h = record { kind = (refl, pure_alike r Equal (value.Numbers numbers) (value.Numbers numbers) refl); nodes = tt }
    given_alike (given.Value (value.Node n)) h = record { kind = (refl, node_value r (node_part n) (node_part (renamed_node rename n r)) (h r good)); nodes = (h r good, tt) }
    given_alike (given.Value value.EmptyList) h = record { kind = (refl, pure_alike r Equal value.EmptyList value.EmptyList refl); nodes = tt }
    given_alike (given.Value (value.TruthList truths)) h = record { kind = (refl, pure_alike r Equal (value.TruthList truths) (value.TruthList truths) refl); nodes = tt }
    given_alike (given.Value (value.StringList texts)) h = record { kind = (refl, pure_alike r Equal (value.StringList texts) (value.StringList texts) refl); nodes = tt }
    given_alike (given.Value (value.NumberList numbers)) h = record { kind = (refl, pure_alike r Equal (value.NumberList numbers) (value.NumberList numbers) refl); nodes = tt }
    given_alike (given.Value (value.NodeList ns)) h =
        let both = nodes_both ns h in
        record { kind = (lengths ns, list_alike r (map node_part ns) (map node_part (map in_node (map (renamed_node rename) ns))) both); nodes = both }
    given_alike (given.Is name) h = record { kind = refl; nodes = tt }

    defaults_alike : (ds : List (Declaration NodeText)) → AllByRecursion (OfDeclaration OfNode) ds → Both (DefaultAlike r) (map parts ds) (map parts (map (declaration_in r) (map (interface_mapped (renamed_node rename)) ds)))
    defaults_alike [] h = tt
    defaults_alike (d ∷ ds) h = (record { same = refl; given = given_alike d.given h.0 }, defaults_alike ds h.1)

  prototype_layer : (p : ProtoText) → AllByRecursion (OfDeclaration OfNode) (out-ProtoText p).interface → AllByRecursion OfStatement (out-ProtoText p).body → OfProto p
  prototype_layer p ds ss r good =
      let q = out-ProtoText p in
      let x = other_open rename q in
      let inner = rename q.name in
      let fine = apart inner (one q.name) in
      proto_by r (proto_part p) (of_open q) (of_open x) (proto_part (renamed_proto rename p r))
      (fold_out-ProtoText Item Node Stated Proto item_step node_step statement_step proto_step p)
      (fold_out-ProtoText Item Node Stated Proto item_step node_step statement_step proto_step (renamed_proto rename p r) ∙ ap of_open (proto-open rename p r))
      (proto_alike inner fine q.line q.name (map parts q.interface) (map parts x.interface) (map stated q.body) (map stated x.body) (defaults_alike inner fine q.interface ds) (statements_both inner fine q.body ss) r)

  layers : Layers OfItem OfNode OfStatement OfProto
  layers = record {
    field = λ line name g h r good. item_by r _ _ _ _ (item-field line name g refl) (ap item_part (texts.item-field rename r line name g) ∙ item-field line name (other_given rename r g) refl)
        (field_alike r good line name (given_mapped node_part g) (given_mapped node_part (other_given rename r g)) (given_alike r good g h));
    declaration = λ d h r good. item_by r _ _ _ _ (item-declaration d refl) (ap item_part (texts.item-declaration rename r d) ∙ item-declaration (other_declaration rename r d) refl)
        (declaration_alike r good (declaration_mapped node_part d) (declaration_mapped node_part (other_declaration rename r d)) refl (given_alike r good d.given h));
    item_route = λ route r good. item_by r _ _ _ _ (item-route route) (ap item_part (texts.item-route rename r route) ∙ item-route (route_in r route)) (route_item_alike r good route);
    item_proto = λ p h r good. item_by r _ _ _ _ (item-proto p refl) (ap item_part (texts.item-proto rename r p) ∙ item-proto (renamed_proto rename p r) refl) (proto_item_alike r good (proto_part p) (proto_part (renamed_proto rename p r)) (h r good));
    used = λ line name r good. node_by r _ _ _ _ (node-use line name) (ap node_part (texts.node-use rename r line name) ∙ node-use line (r name)) (use_node_alike r good line name);
    full = λ line name word is h r good. node_by r _ _ _ _ (node-full line name word is refl) (ap node_part (texts.node-full rename r line name word is) ∙ node-full line (option_map r name) word (map (in_item rename r) (map (renamed_item rename) is)) refl)
        (full_node_alike r good line name word (map item_part is) (map item_part (map (in_item rename r) (map (renamed_item rename) is))) (items_both r good is h));
    node = λ n h r good. stated_by r _ _ _ _ (statement-node n refl) (ap stated (texts.statement-node rename r n) ∙ statement-node (renamed_node rename n r) refl) (node_stated r good (node_part n) (node_part (renamed_node rename n r)) (h r good));
    route = λ route r good. stated_by r _ _ _ _ (statement-route route) (ap stated (texts.statement-route rename r route) ∙ statement-route (route_in r route)) (route_stated r good route);
    proto = λ p h r good. stated_by r _ _ _ _ (statement-proto p refl) (ap stated (texts.statement-proto rename r p) ∙ statement-proto (renamed_proto rename p r) refl) (proto_stated r good (proto_part p) (proto_part (renamed_proto rename p r)) (h r good));
    prototype = prototype_layer;
  }

-- ---- the document

abbrev root : Stated → List ℕ → Does (List ℕ)
root s roots = s.1.does >>= λ ns. pure (roots ++ ns)

abbrev flat_with : Document → List ℕ → List FlatNode → List ℕ → List FlatRoute → Flat
flat_with d roots nodes helpers routes = record { header = header_of d; nodes = nodes; roots = roots; helpers = helpers; routes = routes }

abbrev flat_of : Document → List ℕ → Walk → Flat
flat_of d roots w = flat_with d roots w.put.nodes w.put.helpers (w.scope.routes w.scope.braces)

alike_if : (b : Bool) (x y u v : Result Flat ExpandFault) → AreNamedAlike x y → AreNamedAlike u v → AreNamedAlike (if b then x else u) (if b then y else v)
alike_if true x y u v h k = h
alike_if false x y u v h k = k

too_large : AreNamedAlike (Err (fault TooLarge 0)) (Err (fault TooLarge 0))
too_large = refl

module _ (own : Name → Name) (good : Apart own) (d : Document) where
  root_alike : (m n : Stated) → StatedAlike own m n → (ks ls : List ℕ) → ls ≡ ks → DoesAlike own (Equal {A = List ℕ}) (root m ks) (root n ls)
  root_alike m n h ks ls e =
      then_alike own Equal Equal m.1.does n.1.does (λ ns. pure (ks ++ ns)) (λ ns. pure (ls ++ ns)) h.does (λ a b i. pure_alike own Equal (ks ++ a) (ls ++ b) (ap (λ xs. xs ++ b) e ∙ ap (λ xs. ks ++ xs) i))

  routes_same : (w v : Walk) → WalkAlike own w v → v.scope.routes v.scope.braces ≡ w.scope.routes w.scope.braces
  routes_same w v k = ap (λ bs. v.scope.routes bs) k.scope.braces ∙ k.scope.routes w.scope.braces

  flats_alike : (ks ls : List ℕ) (w v : Walk) → ls ≡ ks → WalkAlike own w v → nameless_flat (flat_of d ls v) ≡ nameless_flat (flat_of d ks w)
  flats_alike ks ls w v e k =
      ap (λ x. flat_with d x (map nameless v.put.nodes) v.put.helpers (v.scope.routes v.scope.braces)) e
      ∙ ap (λ x. flat_with d ks x v.put.helpers (v.scope.routes v.scope.braces)) k.put.nodes
      ∙ ap (λ x. flat_with d ks (map nameless w.put.nodes) x (v.scope.routes v.scope.braces)) k.put.helpers
      ∙ ap (flat_with d ks (map nameless w.put.nodes) w.put.helpers) (routes_same w v k)

  limited_alike : (m n : List Met) (c e : Result (List ℕ × Walk) ExpandFault) → n ≡ m → ComesAlike own (Equal {A = List ℕ}) c e
      → AreNamedAlike (limited (follow m c (λ p. comes (Ok (flat_of d p.0 p.1))))) (limited (follow n e (λ p. comes (Ok (flat_of d p.0 p.1)))))
  limited_alike m n (Ok p) (Ok q) i h =
      let f = flat_of d p.0 p.1 in
      let g = flat_of d q.0 q.1 in
      let few : Flat → Bool = λ x. nat_lt max_routes (length x.routes) in
      let large : Result Flat ExpandFault = Err (fault TooLarge 0) in
      subst (λ x. AreNamedAlike (limited (record { met = m ++ []; comes = Ok f })) (limited (record { met = x ++ []; comes = Ok g }))) (sym i)
      (alike_if (is_within (m ++ [])) (if few f then large else Ok f) (if few g then large else Ok g) large large
      (subst (λ b. AreNamedAlike (if few f then large else Ok f) (if b then large else Ok g)) (sym (ap (λ rs. nat_lt max_routes (length rs)) (routes_same p.1 q.1 h.1)))
      (alike_if (few f) large large (Ok f) (Ok g) too_large (flats_alike p.0 q.0 p.1 q.1 h.0 h.1))) too_large)
  limited_alike m n (Err x) (Err y) i h =
      let large : Result Flat ExpandFault = Err (fault TooLarge 0) in
      subst (λ z. AreNamedAlike (limited (record { met = m; comes = Err x })) (limited (record { met = z; comes = Err y }))) (sym i)
      (alike_if (is_within m) (Err x) (Err y) large large h too_large)
  limited_alike m n (Ok p) (Err y) i h = absurd h
  limited_alike m n (Err x) (Ok q) i h = absurd h

pub def_names_dont_matter : DefNamesDontMatter
unfolding flat
def_names_dont_matter rename own one alone d =
    let good = apart own alone in
    let start = begin [] (record { nodes = []; helpers = [] }) in
    let new : Statement → Statement = λ s. renamed_statement rename s own in
    let o = through root (map stated d.statements) [] start in
    let q = through root (map stated (map new d.statements)) [] start in
    let parts = every (OfItem rename one) (OfNode rename one) (OfStatement rename one) (OfProto rename one) (layers rename one) d.statements in
    let all = both_once (OfStatement rename one) (StatedAlike own) stated new (λ s k. k own good) d.statements parts in
    let both = through_alike own (StatedAlike own) Equal root root (root_alike own good d) (map stated d.statements) (map stated (map new d.statements)) all [] [] refl start start
    (begin_alike own [] [] (record { nodes = []; helpers = [] }) (record { nodes = []; helpers = [] }) tt (record { nodes = refl; helpers = refl })) in
    limited_alike own good d o.met q.met o.comes q.comes both.met both.comes_to
