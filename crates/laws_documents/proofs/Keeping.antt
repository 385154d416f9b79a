-- What every part of a text keeps of a plain reading, where its steps keep it: what a USE, a ROUTE and
-- the braces of a node do.
use Rattle.std.proofs.Common.{◌≡◌, ℕ, Bool, List, [], ◌∷◌, ◌++◌, length, Option, Some, None, option_map, slice_set, map, refl, ap, sym, ◌∙◌, subst}
use Rattle.std.specs.Prelude.{is_some}
use Rattle.std.specs.List.{AllByRecursion, cons_option, filter_map, flat_map}
use Rattle.std.specs.Option.{option_map_or}
use Rattle.std.proofs.lemmas.List.{append-nil, append_assoc}
use denote.Enum.Bare.{sameb}
use Rattle.x3d_values.specs.contracts.node_type.NodeType as node_types
use Rattle.x3d_values.specs.declared.node_type.NodeType.{NodeType}
use Rattle.x3d_values.specs.declared.node_type.NodeType.TheVariants.{Script}
use Rattle.x3d_values.specs.Names.{node_type_named}
use Rattle.classic_tree.specs.declared.tree.BodyItem.{BodyItem}
use Rattle.classic_tree.specs.declared.tree.BodyItem.TheOpen.{BodyItem-F, NodeText-F, Statement-F}
use Rattle.classic_tree.specs.declared.tree.BodyItem.TheVariants as item_text
use Rattle.classic_tree.specs.declared.tree.Declaration.{Declaration}
use Rattle.classic_tree.specs.declared.tree.Given.{Given}
use Rattle.classic_tree.specs.declared.tree.Given.TheVariants as given
use Rattle.classic_tree.specs.declared.tree.NodeText.{NodeText}
use Rattle.classic_tree.specs.declared.tree.NodeText.TheVariants as node_text
use Rattle.classic_tree.specs.declared.tree.ProtoText.{ProtoText}
use Rattle.classic_tree.specs.declared.tree.RawValue.{RawValue}
use Rattle.classic_tree.specs.declared.tree.RawValue.TheVariants as value
use Rattle.classic_tree.specs.declared.tree.RouteText.{RouteText}
use Rattle.classic_tree.specs.declared.tree.Statement.{Statement}
use Rattle.classic_tree.specs.declared.tree.Statement.TheVariants as statement_text
use Rattle.classic_tree.proofs.Mapped.{given_mapped, declaration_mapped}
use Rattle.proto_flat.specs.declared.fault.ExpandFaultKind.TheVariants.{UnknownField, UnknownNode, UseWithoutDef, FieldTwice}
use Rattle.proto_flat.specs.declared.flat.FlatField.{FlatField}
use Rattle.proto_flat.specs.declared.flat.FlatNode.{FlatNode}
use Rattle.proto_meaning.specs.Limits.{AField, item_count}
use Rattle.proto_meaning.specs.Names.{Name, Field, Filled}
use Rattle.proto_meaning.specs.Flat.{field, fields_of, numbered_from}
use Rattle.proto_meaning.proofs.Induction.{OfGiven, Layers, every}
use Rattle.laws_documents.specs.Plain.{Pair, Wire, Reading, PlainRead, ◌>>=◌, pure, refuse, meet, in_turn, last_closed, last_from, read_value, Between, ItemReads, fill, give, is_filled, flat_field, flat_node, close_pair, read_node, item_step, node_step, statement_step, read_item, read_text, read_statement}
use Rattle.laws_documents.proofs.PlainTexts as texts
use Rattle.laws_documents.specs.Order.{nodes_in}
use Rattle.laws_documents.specs.Readings as steps
use Rattle.laws_documents.specs.Readings.{each}
use Rattle.laws_documents.proofs.Reading.{Ends, ends_then, ends_if, ends_option}

-- ---- what a reading comes to

abbrev pub opened : Option Name → Reading → Reading
opened name r = record r { pairs = r.pairs ++ record { name = name; node = None } ∷ [] }

-- the braces that opened at that place close
abbrev pub closed : Option Name → ℕ → FlatNode → Reading → Reading
closed name at node r = record r {
  nodes = r.nodes ++ node ∷ [];
  pairs = slice_set r.pairs at (record { name = name; node = Some (length r.nodes) });
}

abbrev pub wire_of : RouteText → List Pair → Wire
wire_of route pairs = record {
  route = route;
  source = last_from 0 route.source.node pairs;
  target = last_from 0 route.target.node pairs;
}

abbrev pub wired : RouteText → Reading → Reading
wired route r = record r { wires = r.wires ++ wire_of route r.pairs ∷ [] }

-- ---- the nodes that stand in what was given

abbrev pub nodes_held : FlatField → List ℕ
nodes_held f = nodes_in f.value

abbrev nodes_of : Filled → List ℕ
nodes_of f = option_map_or nodes_in f.value []

abbrev pub held_in : List Filled → List ℕ
held_in filled = flat_map nodes_of filled

held_more : (fs : List Filled) (f : Filled) → held_in (fs ++ f ∷ []) ≡ held_in fs ++ nodes_of f
held_more [] f = append-nil (nodes_of f)
held_more (g ∷ fs) f = ap (λ ns. nodes_of g ++ ns) (held_more fs f) ∙ sym (append_assoc (nodes_of g) (held_in fs) (nodes_of f))

one_field : (f : Filled) (v : Option (RawValue ℕ)) (rest : List FlatField)
    → flat_map nodes_held (cons_option (option_map (λ (x : RawValue ℕ). record { line = f.line; number = f.number; value = x }) v) rest) ≡ option_map_or nodes_in v [] ++ flat_map nodes_held rest
one_field f None rest = refl
one_field f (Some v) rest = refl

-- the node has the nodes that stand in what was given
pub fields_held : (fs : List Filled) → flat_map nodes_held (filter_map flat_field fs) ≡ held_in fs
fields_held [] = refl
fields_held (f ∷ fs) = one_field f f.value (filter_map flat_field fs) ∙ ap (λ ns. nodes_of f ++ ns) (fields_held fs)

-- ---- laws of the steps of a text

-- what is known of the text up to some place; Inv says it of the nodes that stand between the braces
-- that are open, and of the reading
pub record Law {X : Type 0} (Inv : List ℕ → Reading → X → Type 0) : Type 0 where
  pub node : NodeText → X → X
  pub item : BodyItem → X → X
  pub statement : Statement → X → X
  pub uses : Name → X → X
  pub routes : RouteText → X → X
  pub opens : Option Name → X → X
  pub closes : Option Name → Name → X → X → X
  pub at_field : (line : ℕ) (name : Name) (g : Given NodeText) (x : X) → item (item_text.Field line name g) x ≡ steps.read_given node g x
  pub at_declaration : (d : Declaration NodeText) (x : X) → item (item_text.Declaration d) x ≡ steps.read_given node d.given x
  pub at_item_route : (route : RouteText) (x : X) → item (item_text.Route route) x ≡ routes route x
  pub at_item_proto : (p : ProtoText) (x : X) → item (item_text.Proto p) x ≡ x
  pub at_use : (line : ℕ) (name : Name) (x : X) → node (node_text.Use line name) x ≡ uses name x
  pub at_full : (line : ℕ) (name : Option Name) (word : Name) (is : List BodyItem) (x : X) → node (node_text.Full line name word is) x ≡ closes name word x (each item is (opens name x))
  pub at_node : (n : NodeText) (x : X) → statement (statement_text.Node n) x ≡ node n x
  pub at_route : (route : RouteText) (x : X) → statement (statement_text.Route route) x ≡ routes route x
  pub at_proto : (p : ProtoText) (x : X) → statement (statement_text.Proto p) x ≡ x
  pub used : (name : Name) (here : List ℕ) (r : Reading) (x : X) (k : ℕ) → Inv here r x → last_closed name r.pairs ≡ Some k → Inv (here ++ k ∷ []) r (uses name x)
  pub routed : (route : RouteText) (here : List ℕ) (r : Reading) (x : X) → Inv here r x → Inv here (wired route r) (routes route x)
  pub opened_by : (name : Option Name) (here : List ℕ) (r : Reading) (x : X) → Inv here r x → Inv [] (opened name r) (opens name x)
  pub closed_by : (name : Option Name) (word : Name) (t : NodeType) (node : FlatNode) (here inner : List ℕ) (r q : Reading) (x y : X) → node_type_named word ≡ Some t → node.node_type ≡ t → node.name ≡ name
      → flat_map nodes_held node.fields ≡ inner → Inv here r x → Inv inner q y → Inv (here ++ length q.nodes ∷ []) (closed name (length r.pairs) node q) (closes name word x y)

module _ {X : Type 0} (Inv : List ℕ → Reading → X → Type 0) (l : Law Inv) where
  -- the nodes that a part gives stand behind those before
  abbrev pub Then : List ℕ → X → List ℕ → Reading → Type 0
  Then here x more r = Inv (here ++ more) r x

  abbrev pub Amid : X → Between → Reading → Type 0
  Amid x b r = Inv (held_in b.filled) r x

  abbrev pub NodeKeeps : NodeText → Type 0
  NodeKeeps n = (here : List ℕ) (r : Reading) (x : X) → Inv here r x → Ends (λ k q. Inv (here ++ k ∷ []) q (l.node n x)) (read_text n r)

  abbrev pub ItemKeeps : BodyItem → Type 0
  ItemKeeps i = (t : NodeType) (b : Between) (r : Reading) (x : X) → Amid x b r → Ends (Amid (l.item i x)) (read_item i t b r)

  abbrev pub StatementKeeps : Statement → Type 0
  StatementKeeps s = (here : List ℕ) (r : Reading) (x : X) → Inv here r x → Ends (Then here (l.statement s x)) (read_statement s r)

  -- ---- values

  abbrev next_number : PlainRead ℕ → List ℕ → PlainRead (List ℕ)
  next_number node ns = node >>= λ n. pure (ns ++ n ∷ [])

  nodes_keep : (ns : List NodeText) → AllByRecursion NodeKeeps ns → (here ks : List ℕ) (r : Reading) (x : X) → Inv (here ++ ks) r x → Ends (Then here (each l.node ns x)) (in_turn next_number (map read_text ns) ks r)
  nodes_keep [] h here ks r x i = i
  nodes_keep (n ∷ ns) h here ks r x i =
      ends_then (Then here (l.node n x)) (Then here (each l.node (n ∷ ns) x)) (in_turn next_number (map read_text ns)) (next_number (read_text n) ks r)
      (ends_then (λ k q. Inv ((here ++ ks) ++ k ∷ []) q (l.node n x)) (Then here (l.node n x)) (λ k. pure (ks ++ k ∷ [])) (read_text n r) (h.0 (here ++ ks) r x i)
      (λ k q j. subst (λ ms. Inv ms q (l.node n x)) (append_assoc here ks (k ∷ [])) j))
      (λ ms q j. nodes_keep ns h.1 here ms q (l.node n x) j)

  abbrev ValueKeeps : RawValue (PlainRead ℕ) → (X → X) → Type 0
  ValueKeeps v step = (here : List ℕ) (r : Reading) (x : X) → Inv here r x → Ends (λ u q. Inv (here ++ nodes_in u) q (step x)) (read_value v r)

  abbrev GivenKeeps : Given (PlainRead ℕ) → (X → X) → Type 0
  GivenKeeps given.Nothing step = (x : X) → step x ≡ x
  GivenKeeps (given.Is a) step = Unit {0}
  GivenKeeps (given.Value v) step = ValueKeeps v step

  no_nodes : (here : List ℕ) (r : Reading) (x : X) → Inv here r x → Inv (here ++ []) r x
  no_nodes here r x i = subst (λ ms. Inv ms r x) (sym (append-nil here)) i

  given_keeps : (g : Given NodeText) → OfGiven NodeKeeps g → GivenKeeps (given_mapped read_text g) (steps.read_given l.node g)
  given_keeps given.Nothing h = λ x. refl
  given_keeps (given.Is name) h = tt
  given_keeps (given.Value value.Null) h = no_nodes
  given_keeps (given.Value (value.Truth truth)) h = no_nodes
  given_keeps (given.Value (value.String text)) h = no_nodes
  given_keeps (given.Value (value.Numbers numbers)) h = no_nodes
  given_keeps (given.Value (value.Node n)) h = λ here r x i. ends_then (λ k q. Inv (here ++ k ∷ []) q (l.node n x)) (λ u q. Inv (here ++ nodes_in u) q (l.node n x)) (λ k. pure (value.Node k)) (read_text n r) (h here r x i) (λ k q j. j)
  given_keeps (given.Value value.EmptyList) h = no_nodes
  given_keeps (given.Value (value.TruthList truths)) h = no_nodes
  given_keeps (given.Value (value.StringList texts)) h = no_nodes
  given_keeps (given.Value (value.NumberList numbers)) h = no_nodes
  given_keeps (given.Value (value.NodeList ns)) h = λ here r x i.
      ends_then (Then here (each l.node ns x)) (λ u q. Inv (here ++ nodes_in u) q (each l.node ns x)) (λ ks. pure (value.NodeList ks)) (in_turn next_number (map read_text ns) [] r)
      (nodes_keep ns h here [] r x (no_nodes here r x i)) (λ ks q j. j)

  -- ---- fields

  filled_keeps : (line : ℕ) (f : ℕ × Field) (b : Between) (v : Option (RawValue ℕ)) (r : Reading) (x : X) → Inv (held_in b.filled ++ option_map_or nodes_in v []) r x → Amid x (fill line f b v) r
  filled_keeps line f b v r x i = subst (λ ms. Inv ms r x) (sym (held_more b.filled (record { line = line; name = f.1.name; number = f.0; value = v }))) i

  give_keeps : (line : ℕ) (f : ℕ × Field) (twice : Bool) (g : Given (PlainRead ℕ)) (step : X → X) → GivenKeeps g step → (b : Between) (r : Reading) (x : X) → Amid x b r → Ends (Amid (step x)) (give line f twice g b r)
  give_keeps line f twice given.Nothing step h b r x i =
      ends_if (Amid (step x)) r twice (refuse FieldTwice line) (meet (AField f.0 0) >>= λ _. pure (fill line f b None)) tt
      (filled_keeps line f b None r (step x) (subst (λ y. Inv (held_in b.filled ++ []) r y) (sym (h x)) (no_nodes (held_in b.filled) r x i)))
  give_keeps line f twice (given.Is a) step h b r x i = tt
  give_keeps line f twice (given.Value v) step h b r x i =
      ends_if (Amid (step x)) r twice (refuse FieldTwice line) (meet (AField f.0 (item_count v)) >>= λ _. read_value v >>= λ u. pure (fill line f b (Some u))) tt
      (ends_then (λ u q. Inv (held_in b.filled ++ nodes_in u) q (step x)) (Amid (step x)) (λ u. pure (fill line f b (Some u))) (read_value v r) (h (held_in b.filled) r x i)
      (λ u q j. filled_keeps line f b (Some u) q (step x) j))

  -- ---- items

  item_by : (i : BodyItem) (m : ItemReads) (step : X → X) → read_item i ≡ m → ((x : X) → l.item i x ≡ step x) → ((t : NodeType) (b : Between) (r : Reading) (x : X) → Amid x b r → Ends (Amid (step x)) (m t b r)) → ItemKeeps i
  item_by i m step e f h t b r x k = subst (λ (n : ItemReads). Ends (Amid (l.item i x)) (n t b r)) (sym e) (subst (λ y. Ends (Amid y) (m t b r)) (sym (f x)) (h t b r x k))

  field_keeps : (line : ℕ) (name : Name) (g : Given (PlainRead ℕ)) (step : X → X) → GivenKeeps g step → (t : NodeType) (b : Between) (r : Reading) (x : X) → Amid x b r → Ends (Amid (step x)) (item_step (BodyItem-F.Field line name g) t b r)
  unfolding item_step
  field_keeps line name g step h t b r x i =
      ends_option (Amid (step x)) r (numbered_from 0 name b.fields) (λ f. give line f (is_filled name b) g b) (refuse UnknownField line) (λ f. give_keeps line f (is_filled name b) g step h b r x i) tt

  declaration_keeps : (d : Declaration (PlainRead ℕ)) (step : X → X) → GivenKeeps d.given step → (t : NodeType) (b : Between) (r : Reading) (x : X) → Amid x b r → Ends (Amid (step x)) (item_step (BodyItem-F.Declaration d) t b r)
  unfolding item_step
  declaration_keeps d step h t b r x i =
      let c : Between = record b { fields = b.fields ++ field d ∷ [] } in
      ends_if (Amid (step x)) r (sameb node_types.the_type t Script) (give d.line (length b.fields, field d) (is_some (numbered_from 0 d.name b.fields)) d.given c) (refuse UnknownField d.line)
      (give_keeps d.line (length b.fields, field d) (is_some (numbered_from 0 d.name b.fields)) d.given step h c r x i) tt

  route_item_keeps : (route : RouteText) (t : NodeType) (b : Between) (r : Reading) (x : X) → Amid x b r → Ends (Amid (l.routes route x)) (item_step (BodyItem-F.BodyItem::Route route) t b r)
  unfolding item_step
  route_item_keeps route t b r x i = l.routed route (held_in b.filled) r x i

  proto_item_keeps : (t : NodeType) (b : Between) (r : Reading) (x : X) → Amid x b r → Ends (Amid x) (item_step (BodyItem-F.BodyItem::Proto (tt {0})) t b r)
  unfolding item_step
  proto_item_keeps t b r x i = i

  -- ---- nodes

  items_keep : (is : List BodyItem) → AllByRecursion ItemKeeps is → (t : NodeType) (b : Between) (r : Reading) (x : X) → Amid x b r → Ends (Amid (each l.item is x)) (in_turn (λ (i : ItemReads). i t) (map read_item is) b r)
  items_keep [] h t b r x i = i
  items_keep (i ∷ is) h t b r x k =
      ends_then (Amid (l.item i x)) (Amid (each l.item (i ∷ is) x)) (in_turn (λ (i : ItemReads). i t) (map read_item is)) (read_item i t b r) (h.0 t b r x k) (λ c q j. items_keep is h.1 t c q (l.item i x) j)

  abbrev Placed : List ℕ → X → ℕ → Reading → Type 0
  Placed here x k r = Inv (here ++ k ∷ []) r x

  full_keeps : (line : ℕ) (name : Option Name) (word : Name) (is : List BodyItem) → AllByRecursion ItemKeeps is → (o : Option NodeType) → node_type_named word ≡ o → (here : List ℕ) (r : Reading) (x : X) → Inv here r x
      → Ends (Placed here (l.closes name word x (each l.item is (l.opens name x)))) (option_map_or (read_node line name (map read_item is)) o (refuse UnknownNode line) r)
  full_keeps line name word is h None e here r x i = tt
  full_keeps line name word is h (Some t) e here r x i =
      let y = each l.item is (l.opens name x) in
      ends_then (Amid y) (Placed here (l.closes name word x y)) (λ b. close_pair name (length r.pairs) (flat_node line name t b))
      (in_turn (λ (i : ItemReads). i t) (map read_item is) (record { fields = fields_of t; filled = [] }) (opened name r))
      (items_keep is h t (record { fields = fields_of t; filled = [] }) (opened name r) (l.opens name x) (l.opened_by name here r x i))
      (λ b q j. l.closed_by name word t (flat_node line name t b) here (held_in b.filled) r q x y e refl refl (fields_held b.filled) i j)

  node_by : (n : NodeText) (m : PlainRead ℕ) (step : X → X) → read_text n ≡ m → ((x : X) → l.node n x ≡ step x) → ((here : List ℕ) (r : Reading) (x : X) → Inv here r x → Ends (Placed here (step x)) (m r)) → NodeKeeps n
  node_by n m step e f h here r x i = subst (λ (k : PlainRead ℕ). Ends (Placed here (l.node n x)) (k r)) (sym e) (subst (λ y. Ends (Placed here y) (m r)) (sym (f x)) (h here r x i))

  full_layer : (line : ℕ) (name : Option Name) (word : Name) (is : List BodyItem) → AllByRecursion ItemKeeps is → NodeKeeps (node_text.Full line name word is)
  unfolding node_step
  full_layer line name word is h =
      node_by (node_text.Full line name word is) (option_map_or (read_node line name (map read_item is)) (node_type_named word) (refuse UnknownNode line)) (λ x. l.closes name word x (each l.item is (l.opens name x)))
      (texts.read-full line name word is) (l.at_full line name word is) (full_keeps line name word is h (node_type_named word) refl)

  use_keeps : (line : ℕ) (name : Name) (here : List ℕ) (r : Reading) (x : X) → Inv here r x → (o : Option ℕ) → last_closed name r.pairs ≡ o → Ends (Placed here (l.uses name x)) (option_map_or pure o (refuse UseWithoutDef line) r)
  use_keeps line name here r x i None e = tt
  use_keeps line name here r x i (Some k) e = l.used name here r x k i e

  use_layer : (line : ℕ) (name : Name) → NodeKeeps (node_text.Use line name)
  unfolding node_step
  use_layer line name =
      node_by (node_text.Use line name) (node_step (NodeText-F.Use line name)) (l.uses name) (texts.read-use line name) (l.at_use line name) (λ here r x i. use_keeps line name here r x i (last_closed name r.pairs) refl)

  -- ---- statements

  statement_by : (s : Statement) (m : PlainRead (List ℕ)) (step : X → X) → read_statement s ≡ m → ((x : X) → l.statement s x ≡ step x) → ((here : List ℕ) (r : Reading) (x : X) → Inv here r x → Ends (Then here (step x)) (m r)) → StatementKeeps s
  statement_by s m step e f h here r x i = subst (λ (k : PlainRead (List ℕ)). Ends (Then here (l.statement s x)) (k r)) (sym e) (subst (λ y. Ends (Then here y) (m r)) (sym (f x)) (h here r x i))

  node_statement : (n : NodeText) → NodeKeeps n → StatementKeeps (statement_text.Node n)
  unfolding statement_step
  node_statement n h =
      statement_by (statement_text.Node n) (statement_step (Statement-F.Node (read_text n))) (l.node n) (texts.read-node n) (l.at_node n)
      (λ here r x i. ends_then (Placed here (l.node n x)) (Then here (l.node n x)) (λ k. pure (k ∷ [])) (read_text n r) (h here r x i) (λ k q j. j))

  route_statement : (route : RouteText) → StatementKeeps (statement_text.Route route)
  unfolding statement_step
  route_statement route =
      statement_by (statement_text.Route route) (statement_step (Statement-F.Statement::Route route)) (l.routes route) (texts.read-route route) (l.at_route route)
      (λ here r x i. no_nodes here (wired route r) (l.routes route x) (l.routed route here r x i))

  proto_statement : (p : ProtoText) → StatementKeeps (statement_text.Proto p)
  unfolding statement_step
  proto_statement p = statement_by (statement_text.Proto p) (statement_step (Statement-F.Statement::Proto (tt {0}))) (λ x. x) (texts.read-proto p) (l.at_proto p) no_nodes

  pub layers : Layers ItemKeeps NodeKeeps StatementKeeps (λ p. Unit {0})
  unfolding item_step
  layers = record {
    field = λ line name g h. item_by (item_text.Field line name g) (item_step (BodyItem-F.Field line name (given_mapped read_text g))) (steps.read_given l.node g) (texts.read-field line name g) (l.at_field line name g)
        (field_keeps line name (given_mapped read_text g) (steps.read_given l.node g) (given_keeps g h));
    declaration = λ d h. item_by (item_text.Declaration d) (item_step (BodyItem-F.Declaration (declaration_mapped read_text d))) (steps.read_given l.node d.given) (texts.read-declaration d) (l.at_declaration d)
        (declaration_keeps (declaration_mapped read_text d) (steps.read_given l.node d.given) (given_keeps d.given h));
    item_route = λ route. item_by (item_text.Route route) (item_step (BodyItem-F.BodyItem::Route route)) (l.routes route) (texts.read-item-route route) (l.at_item_route route) (route_item_keeps route);
    item_proto = λ p h. item_by (item_text.Proto p) (item_step (BodyItem-F.BodyItem::Proto (tt {0}))) (λ x. x) (texts.read-item-proto p) (l.at_item_proto p) proto_item_keeps;
    used = use_layer;
    full = full_layer;
    node = node_statement;
    route = route_statement;
    proto = λ p h. proto_statement p;
    prototype = λ p h k. tt;
  }

  abbrev next_root : PlainRead (List ℕ) → List ℕ → PlainRead (List ℕ)
  next_root s roots = s >>= λ ns. pure (roots ++ ns)

  roots_keep : (ss : List Statement) → AllByRecursion StatementKeeps ss → (here roots : List ℕ) (r : Reading) (x : X) → Inv (here ++ roots) r x → Ends (Then here (each l.statement ss x)) (in_turn next_root (map read_statement ss) roots r)
  roots_keep [] h here roots r x i = i
  roots_keep (s ∷ ss) h here roots r x i =
      ends_then (Then here (l.statement s x)) (Then here (each l.statement (s ∷ ss) x)) (in_turn next_root (map read_statement ss)) (next_root (read_statement s) roots r)
      (ends_then (Then (here ++ roots) (l.statement s x)) (Then here (l.statement s x)) (λ ns. pure (roots ++ ns)) (read_statement s r) (h.0 (here ++ roots) r x i)
      (λ ns q j. subst (λ ms. Inv ms q (l.statement s x)) (append_assoc here roots ns) j))
      (λ all q j. roots_keep ss h.1 here all q (l.statement s x) j)

  pub all_keep : (ss : List Statement) (r : Reading) (x : X) → Inv [] r x → Ends (λ roots q. Inv roots q (each l.statement ss x)) (in_turn next_root (map read_statement ss) [] r)
  all_keep ss r x i = roots_keep ss (every ItemKeeps NodeKeeps StatementKeeps (λ p. Unit {0}) layers ss) [] [] r x i
