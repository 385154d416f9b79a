-- A document without PROTO, read plainly. Each pair of braces is a node, numbered when it closes;
-- USE is the last node of a name; ROUTE names the last braces of a name (ISO/IEC 19775-1, 4.4.3 and
-- 4.4.8).
use Rattle.std.specs.Prelude.{◌≡◌, ℕ, ◌+◌, Bool, true, false, if◌then◌else◌, List, [], ◌∷◌, ◌++◌, drop, length, map, Option, Some, None, option_map, is_some, Result, Ok, Err, slice_get, slice_set}
use Rattle.std.specs.List.{filter_map, list_all, list_any}
use Rattle.std.specs.Option.{option_and_then, option_map_or, option_or}
use Rattle.std.specs.Str.{bytes_eq}
use denote.Enum.Bare.{sameb}
use Rattle.x3d_values.specs.Names.{node_type_named}
use Rattle.x3d_values.specs.Tables.{rows}
use Rattle.x3d_values.specs.contracts.node_type.NodeType as node_types
use Rattle.x3d_values.specs.declared.node_type.NodeType.{NodeType}
use Rattle.x3d_values.specs.declared.node_type.NodeType.TheVariants.{Script}
use Rattle.classic_tree.specs.declared.tree.BodyItem.{BodyItem, fold-BodyItem}
use Rattle.classic_tree.specs.declared.tree.BodyItem.TheOpen.{BodyItem-F, NodeText-F, Statement-F, ProtoText-F}
use Rattle.classic_tree.specs.declared.tree.Document.{Document}
use Rattle.classic_tree.specs.declared.tree.Given.{Given}
use Rattle.classic_tree.specs.declared.tree.Given.TheVariants as given
use Rattle.classic_tree.specs.declared.tree.NodeText.{NodeText, fold-NodeText}
use Rattle.classic_tree.specs.declared.tree.RawValue.{RawValue}
use Rattle.classic_tree.specs.declared.tree.RawValue.TheVariants as value
use Rattle.classic_tree.specs.declared.tree.RouteText.{RouteText}
use Rattle.classic_tree.specs.declared.tree.Statement.{Statement, fold-Statement}
use Rattle.proto_flat.specs.Fault.{fault}
use Rattle.proto_flat.specs.declared.fault.ExpandFault.{ExpandFault}
use Rattle.proto_flat.specs.declared.fault.ExpandFaultKind.{ExpandFaultKind}
use Rattle.proto_flat.specs.declared.fault.ExpandFaultKind.TheVariants.{UnknownNode, UnknownField, BadIs, UseWithoutDef, FieldTwice}
use Rattle.proto_flat.specs.declared.flat.Flat.{Flat}
use Rattle.proto_flat.specs.declared.flat.FlatEnd.{FlatEnd}
use Rattle.proto_flat.specs.declared.flat.FlatEnd.TheVariants.{At, NoNode}
use Rattle.proto_flat.specs.declared.flat.FlatField.{FlatField}
use Rattle.proto_flat.specs.declared.flat.FlatNode.{FlatNode}
use Rattle.proto_flat.specs.declared.flat.FlatRoute.{FlatRoute}
use Rattle.proto_meaning.specs.Limits.{Met, ANode, AField, AnItem, item_count, Outcome, and_then, limited}
use Rattle.proto_meaning.specs.Names.{Name, Field, Filled}
use Rattle.proto_meaning.specs.Flat.{comes, field, fields_of, numbered_from, header_of, flat}
use Rattle.laws_documents.specs.Steps.{is_true, plain_item_step, plain_statement_step, plain_proto_step}

-- ---- texts without PROTO

unfoldable pub plain_node_step : NodeText-F Bool Bool Bool Bool → Bool
plain_node_step (NodeText-F.Use line name) = true
plain_node_step (NodeText-F.Full line name word items) = list_all is_true items

abbrev pub is_plain_item : BodyItem → Bool
is_plain_item =
    fold-BodyItem Bool Bool Bool Bool plain_item_step plain_node_step plain_statement_step
    plain_proto_step

abbrev pub is_plain_node : NodeText → Bool
is_plain_node =
    fold-NodeText Bool Bool Bool Bool plain_item_step plain_node_step plain_statement_step
    plain_proto_step

abbrev pub is_plain_statement : Statement → Bool
is_plain_statement =
    fold-Statement Bool Bool Bool Bool plain_item_step plain_node_step plain_statement_step
    plain_proto_step

-- the document contains no PROTO, at any depth
abbrev pub is_plain : Document → Bool
is_plain d = list_all is_plain_statement d.statements

-- ---- a reading

-- a pair of braces: the name that DEF gives, and the number of its node once it closes
pub record Pair : Type 0 where
  pub name : Option Name
  pub node : Option ℕ

-- a ROUTE, and which braces it names, by the number of braces that opened before them
pub record Wire : Type 0 where
  pub route : RouteText
  pub source : Option ℕ
  pub target : Option ℕ

-- the nodes so far, the braces in the order in which they open, and the ROUTEs
pub record Reading : Type 0 where
  pub nodes : List FlatNode
  pub pairs : List Pair
  pub wires : List Wire

abbrev pub PlainRead : Type 0 → Type 0
PlainRead A = Reading → Outcome (A × Reading)

infixl 10 ◌>>=◌
abbrev pub ◌>>=◌ : {A B : Type 0} → PlainRead A → (A → PlainRead B) → PlainRead B
m >>= f = λ r. and_then (m r) (λ p. f p.0 p.1)

abbrev pub pure : {A : Type 0} → A → PlainRead A
pure a = λ r. comes (Ok (a, r))

abbrev pub refuse : {A : Type 0} → ExpandFaultKind → ℕ → PlainRead A
refuse kind line = λ r. comes (Err (fault kind line))

abbrev pub meet : Met → PlainRead (Unit {0})
meet m = λ r. record { met = m ∷ []; comes = Ok (tt, r) }

abbrev pub in_turn : {A X : Type 0} → (A → X → PlainRead X) → List A → X → PlainRead X
in_turn f [] x = pure x
in_turn f (a ∷ rest) x = f a x >>= in_turn f rest

-- ---- names

abbrev pub has_name : Name → Pair → Bool
has_name name p = option_map_or (bytes_eq name) p.name false

-- the node of the last closed braces of that name
abbrev pub last_closed : Name → List Pair → Option ℕ
last_closed name [] = None
last_closed name (p ∷ ps) =
    option_or (last_closed name ps) (if has_name name p then p.node else None)

-- the place of the last braces of that name, closed or not; the first of the list has the place
-- `at`
abbrev pub last_from : ℕ → Name → List Pair → Option ℕ
last_from at name [] = None
last_from at name (p ∷ ps) =
    option_or (last_from (at + 1) name ps) (if has_name name p then Some at else None)

abbrev pub wire_route : RouteText → PlainRead (Unit {0})
wire_route route = meet AnItem >>= λ _ r. comes (Ok (
  tt,
  record r {
    wires = r.wires
        ++ record {
          route = route;
          source = last_from 0 route.source.node r.pairs;
          target = last_from 0 route.target.node r.pairs;
        } ∷ [];
  },
))

-- the node of the braces at a place
abbrev pub end_of : List Pair → Option ℕ → Name → FlatEnd
end_of pairs at field =
    option_map_or (λ n. At n field)
    (option_and_then (λ (p : Pair). p.node) (option_and_then (slice_get pairs) at)) NoNode

abbrev pub route_of : List Pair → Wire → FlatRoute
route_of pairs w =
    record {
      line = w.route.line;
      source = end_of pairs w.source w.route.source.field;
      target = end_of pairs w.target w.route.target.field;
    }

-- ---- fields

abbrev pub read_value : RawValue (PlainRead ℕ) → PlainRead (RawValue ℕ)
read_value value.Null = pure value.Null
read_value (value.Truth truth) = pure (value.Truth truth)
read_value (value.String text) = pure (value.String text)
read_value (value.Numbers numbers) = pure (value.Numbers numbers)
read_value (value.Node node) = node >>= λ n. pure (value.Node n)
read_value value.EmptyList = pure value.EmptyList
read_value (value.TruthList truths) = pure (value.TruthList truths)
read_value (value.StringList texts) = pure (value.StringList texts)
read_value (value.NumberList numbers) = pure (value.NumberList numbers)
read_value (value.NodeList nodes) =
    in_turn (λ (node : PlainRead ℕ) ns. node >>= λ n. pure (ns ++ n ∷ [])) nodes []
    >>= λ ns. pure (value.NodeList ns)

-- the state between the braces of a node: its fields, and what was given so far
pub record Between : Type 0 where
  pub fields : List Field
  pub filled : List Filled

abbrev pub fill : ℕ → ℕ × Field → Between → Option (RawValue ℕ) → Between
fill line f b v =
    record b {
      filled = b.filled
          ++ record { line = line; name = f.1.name; number = f.0; value = v } ∷ [];
    }

-- f is the field with its number; `twice`: it was given something before. An IS finds no interface
abbrev pub give : ℕ → ℕ × Field → Bool → Given (PlainRead ℕ) → Between → PlainRead Between
give line f twice (given.Is outer) b = refuse BadIs line
give line f twice (given.Value v) b =
    if twice then refuse FieldTwice line
    else meet (AField f.0 (item_count v)) >>= λ _. read_value v
    >>= λ r. pure (fill line f b (Some r))
give line f twice given.Nothing b =
    if twice then refuse FieldTwice line
    else meet (AField f.0 0) >>= λ _. pure (fill line f b None)

abbrev pub is_filled : Name → Between → Bool
is_filled name b = list_any (λ (f : Filled). bytes_eq f.name name) b.filled

-- ---- each part of a tree

-- an item between the braces of a node of that type
abbrev pub ItemReads : Type 0
ItemReads = NodeType → Between → PlainRead Between

unfoldable pub item_step : BodyItem-F ItemReads (PlainRead ℕ) (PlainRead (List ℕ)) (Unit {0})
    → ItemReads
item_step (BodyItem-F.Field line name g) = λ t b.
    option_map_or (λ f. give line f (is_filled name b) g b) (numbered_from 0 name b.fields)
    (refuse UnknownField line)
item_step (BodyItem-F.Declaration d) = λ t b.
    if sameb node_types.the_type t Script
    then give d.line (length b.fields, field d) (is_some (numbered_from 0 d.name b.fields)) d.given
    (record b { fields = b.fields ++ field d ∷ [] })
    else refuse UnknownField d.line
item_step (BodyItem-F.BodyItem::Route route) = λ t b. wire_route route >>= λ _. pure b
item_step (BodyItem-F.BodyItem::Proto p) = λ t b. pure b

abbrev pub flat_field : Filled → Option FlatField
flat_field f = option_map (λ v. record { line = f.line; number = f.number; value = v }) f.value

abbrev pub flat_node : ℕ → Option Name → NodeType → Between → FlatNode
flat_node line name t b =
    record {
      line = line;
      name = name;
      node_type = t;
      fields = filter_map flat_field b.filled;
      interface = drop (length (rows t)) b.fields;
    }

-- opens braces, which have no number yet
abbrev pub open_pair : Option Name → PlainRead ℕ
open_pair name = λ r. comes (Ok (
  length r.pairs,
  record r {
    pairs = r.pairs ++ record { name = name; node = None } ∷ [];
  },
))

-- closes the braces at that place, which get the next number
abbrev pub close_pair : Option Name → ℕ → FlatNode → PlainRead ℕ
close_pair name at node = λ r. comes (Ok (
  length r.nodes,
  record r {
    nodes = r.nodes ++ node ∷ [];
    pairs = slice_set r.pairs at (record { name = name; node = Some (length r.nodes) });
  },
))

abbrev pub read_node : ℕ → Option Name → List ItemReads → NodeType → PlainRead ℕ
read_node line name items t =
    meet ANode >>= λ _. open_pair name
    >>= λ at. in_turn (λ (i : ItemReads). i t) items (record { fields = fields_of t; filled = [] })
    >>= λ b. close_pair name at (flat_node line name t b)

unfoldable pub node_step : NodeText-F ItemReads (PlainRead ℕ) (PlainRead (List ℕ)) (Unit {0})
    → PlainRead ℕ
node_step (NodeText-F.Use line name) =
    meet AnItem
    >>= λ _ r. option_map_or pure (last_closed name r.pairs) (refuse UseWithoutDef line) r
node_step (NodeText-F.Full line name word items) =
    option_map_or (read_node line name items) (node_type_named word) (refuse UnknownNode line)

unfoldable pub statement_step : Statement-F ItemReads (PlainRead ℕ) (PlainRead (List ℕ)) (Unit {0})
    → PlainRead (List ℕ)
statement_step (Statement-F.Node node) = node >>= λ n. pure (n ∷ [])
statement_step (Statement-F.Statement::Route route) = wire_route route >>= λ _. pure []
statement_step (Statement-F.Statement::Proto p) = pure []

unfoldable pub proto_step : ProtoText-F ItemReads (PlainRead ℕ) (PlainRead (List ℕ)) (Unit {0})
    → Unit {0}
proto_step p = tt

abbrev pub read_item : BodyItem → ItemReads
read_item =
    fold-BodyItem ItemReads (PlainRead ℕ) (PlainRead (List ℕ)) (Unit {0}) item_step node_step
    statement_step
    proto_step

abbrev pub read_text : NodeText → PlainRead ℕ
read_text =
    fold-NodeText ItemReads (PlainRead ℕ) (PlainRead (List ℕ)) (Unit {0}) item_step node_step
    statement_step
    proto_step

abbrev pub read_statement : Statement → PlainRead (List ℕ)
read_statement =
    fold-Statement ItemReads (PlainRead ℕ) (PlainRead (List ℕ)) (Unit {0}) item_step node_step
    statement_step proto_step

-- ---- a document

abbrev pub read_all : List (PlainRead (List ℕ)) → Outcome (List ℕ × Reading)
read_all statements =
    in_turn (λ (s : PlainRead (List ℕ)) roots. s >>= λ ns. pure (roots ++ ns)) statements []
    (record { nodes = []; pairs = []; wires = [] })

abbrev pub plain : Document → Result Flat ExpandFault
plain d =
    limited (and_then (read_all (map read_statement d.statements)) (λ p. comes (Ok (record {
      header = header_of d;
      nodes = p.1.nodes;
      roots = p.0;
      helpers = [];
      routes = map (route_of p.1.pairs) p.1.wires;
    }))))

abbrev pub PlainDocumentsAreThemselves : Type 0
PlainDocumentsAreThemselves = (d : Document) → is_plain d ≡ true → flat d ≡ plain d
