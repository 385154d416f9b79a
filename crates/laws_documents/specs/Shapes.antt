-- The fields of nodes without the nodes in them (ISO/IEC 19775-1, object model, fields). They
-- depend on no name, and on no number of a node.
use Rattle.std.specs.Prelude.{◌≡◌, ℕ, List, [], ◌∷◌, ◌++◌, map, Option, Some}
use Rattle.std.specs.List.{flat_map}
use Rattle.x3d_values.specs.Names.{node_type_named}
use Rattle.classic_tree.specs.declared.tree.BodyItem.{BodyItem, fold-BodyItem}
use Rattle.classic_tree.specs.declared.tree.BodyItem.TheOpen.{BodyItem-F, NodeText-F, Statement-F, ProtoText-F}
use Rattle.classic_tree.specs.declared.tree.Document.{Document}
use Rattle.classic_tree.specs.declared.tree.Given.{Given}
use Rattle.classic_tree.specs.declared.tree.Given.TheVariants as given
use Rattle.classic_tree.specs.declared.tree.NodeText.{NodeText, fold-NodeText}
use Rattle.classic_tree.specs.declared.tree.RawValue.{RawValue}
use Rattle.classic_tree.specs.declared.tree.RawValue.TheVariants as value
use Rattle.classic_tree.specs.declared.tree.Statement.{Statement, fold-Statement}
use Rattle.proto_flat.specs.declared.flat.FlatField.{FlatField}
use Rattle.proto_flat.specs.declared.flat.FlatNode.{FlatNode}
use Rattle.laws_documents.specs.Uses.{held}
use Rattle.laws_documents.specs.Fields.{Numbering, interface_of, numbering}
use Rattle.laws_documents.specs.Signatures.{Signature, signature, signatures}

-- a value without the nodes in it
abbrev pub no_node : {N : Type 0} → N → Unit {0}
no_node node = tt

abbrev pub blank : {N : Type 0} → RawValue N → RawValue (Unit {0})
blank value.Null = value.Null
blank (value.Truth truth) = value.Truth truth
blank (value.String text) = value.String text
blank (value.Numbers numbers) = value.Numbers numbers
blank (value.Node node) = value.Node (no_node node)
blank value.EmptyList = value.EmptyList
blank (value.TruthList truths) = value.TruthList truths
blank (value.StringList texts) = value.StringList texts
blank (value.NumberList numbers) = value.NumberList numbers
blank (value.NodeList nodes) = value.NodeList (map no_node nodes)

pub record FieldShape : Type 0 where
  pub line : ℕ
  pub number : Option ℕ
  pub value : RawValue (Unit {0})

pub record NodeShape : Type 0 where
  pub fields : List FieldShape
  pub interface : List Signature

-- ---- the braces in each part of a tree, in the order in which they close

module _ {N : Type 0} (inside : N → List NodeShape) where
  abbrev pub in_value : RawValue N → List NodeShape
  in_value (value.Node node) = inside node
  in_value (value.NodeList nodes) = flat_map inside nodes
  in_value _ = []

  abbrev pub in_given : Given N → List NodeShape
  in_given (given.Value v) = in_value v
  in_given _ = []

-- a field with a value
abbrev pub given_shape : {N : Type 0} → ℕ → Option ℕ → Given N → List FieldShape
given_shape line number (given.Value v) =
    record { line = line; number = number; value = blank v } ∷ []
given_shape line number _ = []

abbrev pub Shapes : Type 0
Shapes = List NodeShape

-- an item between braces: the braces inside it; given the numbers of the fields there, its field,
-- if it has a value; and the field that it declares
pub record ItemShape : Type 0 where
  pub inside : Shapes
  pub fields : Numbering → List FieldShape
  pub declares : List Signature

abbrev pub no_shape : ItemShape
no_shape = record { inside = []; fields = λ numbers. []; declares = [] }

unfoldable pub item_step : BodyItem-F ItemShape Shapes Shapes Shapes → ItemShape
item_step (BodyItem-F.Field line name g) =
    record {
      inside = in_given (λ shapes. shapes) g;
      fields = λ numbers. given_shape line (numbers name) g;
      declares = [];
    }
item_step (BodyItem-F.Declaration d) =
    record {
      inside = in_given (λ shapes. shapes) d.given;
      fields = λ numbers. given_shape d.line (numbers d.name) d.given;
      declares = signature d ∷ [];
    }
item_step (BodyItem-F.BodyItem::Route route) = no_shape
item_step (BodyItem-F.BodyItem::Proto proto) = no_shape

-- a node, from its word and the fields that are declared in it
abbrev pub node_of : List ℕ → List Signature → (Numbering → List FieldShape) → NodeShape
node_of word declared fields =
    record {
      fields = fields (numbering (node_type_named word) declared);
      interface = interface_of (node_type_named word) declared;
    }

unfoldable pub node_step : NodeText-F ItemShape Shapes Shapes Shapes → Shapes
node_step (NodeText-F.Use line name) = []
node_step (NodeText-F.Full line name word items) =
    flat_map (λ (i : ItemShape). i.inside) items
    ++ node_of word (flat_map (λ (i : ItemShape). i.declares) items)
    (λ numbers. flat_map (λ (i : ItemShape). i.fields numbers) items) ∷ []

unfoldable pub statement_step : Statement-F ItemShape Shapes Shapes Shapes → Shapes
statement_step (Statement-F.Node node) = node
statement_step (Statement-F.Statement::Route route) = []
statement_step (Statement-F.Statement::Proto proto) = []

-- the declaration of a prototype has no nodes of the document
unfoldable pub proto_step : ProtoText-F ItemShape Shapes Shapes Shapes → Shapes
proto_step p = []

abbrev pub item_shape : BodyItem → ItemShape
item_shape =
    fold-BodyItem ItemShape Shapes Shapes Shapes item_step node_step statement_step proto_step

abbrev pub in_node : NodeText → Shapes
in_node =
    fold-NodeText ItemShape Shapes Shapes Shapes item_step node_step statement_step proto_step

abbrev pub in_statement : Statement → Shapes
in_statement =
    fold-Statement ItemShape Shapes Shapes Shapes item_step node_step statement_step proto_step

abbrev pub shapes : Document → Shapes
shapes document = flat_map in_statement document.statements

-- ---- the law

abbrev pub field_shape : FlatField → FieldShape
field_shape field =
    record { line = field.line; number = Some field.number; value = blank field.value }

abbrev pub node_shape : FlatNode → NodeShape
node_shape node =
    record { fields = map field_shape node.fields; interface = signatures node.interface }

-- only the nodes in a node are left open: nodes with the same shape that hold the same nodes have
-- the same fields
abbrev pub NodesTellTheRest : Type 0
NodesTellTheRest =
    (m n : FlatNode) → node_shape m ≡ node_shape n → held m ≡ held n → m.fields ≡ n.fields
