-- Which fields a node has in the flat form of a document without instances, and their values
-- (ISO/IEC 19775-1, object model, fields): the fields between its braces.
use Rattle.std.specs.Prelude.{ℕ, List, [], ◌∷◌, ◌++◌, length, map, Option, Some, None, option_map, slice_set}
use Rattle.std.specs.List.{flat_map, fold}
use Rattle.std.specs.Option.{option_or}
use Rattle.x3d_values.specs.declared.node_type.NodeType.{NodeType}
use Rattle.x3d_values.specs.Names.{node_type_named}
use Rattle.classic_tree.specs.declared.tree.BodyItem.{BodyItem, fold-BodyItem}
use Rattle.classic_tree.specs.declared.tree.BodyItem.TheOpen.{BodyItem-F, NodeText-F, Statement-F, ProtoText-F}
use Rattle.classic_tree.specs.declared.tree.Document.{Document}
use Rattle.classic_tree.specs.declared.tree.Given.{Given}
use Rattle.classic_tree.specs.declared.tree.Given.TheVariants as given
use Rattle.classic_tree.specs.declared.tree.NodeText.{NodeText, fold-NodeText}
use Rattle.classic_tree.specs.declared.tree.RawValue.{RawValue}
use Rattle.classic_tree.specs.declared.tree.RawValue.TheVariants as value
use Rattle.classic_tree.specs.declared.tree.Statement.{Statement, fold-Statement}
use Rattle.proto_flat.specs.declared.flat.FlatField.{FlatField}
use Rattle.proto_flat.specs.declared.flat.FlatNode.{FlatNode}
use Rattle.laws_documents.specs.Readings.{StateChange, same}
use Rattle.laws_documents.specs.Signatures.{KnownField, Signature, signature, signatures, of_type, of_declared, own_interface}
use Rattle.laws_documents.specs.Uses.{OpenBraces, named, some}

-- a field between braces: the line of its name; its number among the fields of the node, or None if
-- the node has no such field; and its value. In the value a node is its number, and a USE is the
-- number of the node that it names, or None if it names none
pub record FieldRead : Type 0 where
  pub line : ℕ
  pub number : Option ℕ
  pub value : RawValue (Option ℕ)

-- what is between braces: the fields with a value, in the order of the text, and the fields that a
-- Script declares there
pub record NodeRead : Type 0 where
  pub fields : List FieldRead
  pub interface : List Signature

-- a text up to some place: all braces that opened, in that order, and what is between those that
-- are closed, in the order in which they close
pub record Reading : Type 0 where
  pub opened : List OpenBraces
  pub closed : List NodeRead

abbrev pub nothing_read : Reading
nothing_read = record { opened = []; closed = [] }

-- what a part of the text is read as, and the reading up to its end
pub record Got (A : Type 0) : Type 0 where
  pub what : A
  pub after : Reading

abbrev pub gives : {A : Type 0} → A → Reading → Got A
gives a r = record { what = a; after = r }

abbrev pub got_map : {A B : Type 0} → (A → B) → Got A → Got B
got_map f g = record { what = f g.what; after = g.after }

-- parts in turn, passing on what is read
abbrev pub each : {A B : Type 0} → (A → B → Reading → Got B) → List A → B → Reading → Got B
each read [] b r = gives b r
each read (part ∷ parts) b r = each read parts (read part b r).what (read part b r).after

-- ---- the numbers of fields

-- the number of the field of that name, between braces
abbrev pub Numbering : Type 0
Numbering = List ℕ → Option ℕ

abbrev pub number_of : KnownField → ℕ
number_of field = field.number

-- the number of the field's row among those of the node type; after these come the declared fields
-- of a Script, in the order of the text
abbrev pub numbering : Option NodeType → List Signature → Numbering
numbering None declared name = None
numbering (Some t) declared name =
    option_map number_of (option_or (of_type t name) (of_declared t declared name))

-- only a Script declares fields
abbrev pub interface_of : Option NodeType → List Signature → List Signature
interface_of None declared = []
interface_of (Some t) declared = own_interface t declared

-- ---- nodes

abbrev pub NodeStep : Type 0
NodeStep = Reading → Got (Option ℕ)

abbrev pub opens : Option (List ℕ) → Reading → Reading
opens name r = record r { opened = r.opened ++ record { name = name; node = None } ∷ [] }

-- the braces that opened after `before` close: their node gets the next number
abbrev pub closes : Option (List ℕ) → Reading → List Signature → Got (List FieldRead)
    → Got (Option ℕ)
closes name before interface g =
    record {
      what = Some (length g.after.closed);
      after = record {
        opened = slice_set g.after.opened (length before.opened)
            (record { name = name; node = Some (length g.after.closed) });
        closed = g.after.closed ++ record { fields = g.what; interface = interface } ∷ [];
      };
    }

-- ---- values

module _ {N : Type 0} (read : N → NodeStep) where
  abbrev pub read_one : N → List (Option ℕ) → Reading → Got (List (Option ℕ))
  read_one node before r = got_map (λ n. before ++ n ∷ []) (read node r)

  -- a value, with its nodes read
  abbrev pub read_value : RawValue N → Reading → Got (RawValue (Option ℕ))
  read_value value.Null r = gives value.Null r
  read_value (value.Truth truth) r = gives (value.Truth truth) r
  read_value (value.String text) r = gives (value.String text) r
  read_value (value.Numbers numbers) r = gives (value.Numbers numbers) r
  read_value (value.Node node) r = got_map (λ n. value.Node n) (read node r)
  read_value value.EmptyList r = gives value.EmptyList r
  read_value (value.TruthList truths) r = gives (value.TruthList truths) r
  read_value (value.StringList texts) r = gives (value.StringList texts) r
  read_value (value.NumberList numbers) r = gives (value.NumberList numbers) r
  read_value (value.NodeList nodes) r = got_map (λ ns. value.NodeList ns) (each read_one nodes [] r)

  -- a field with a value
  abbrev pub read_given : ℕ → Option ℕ → Given N → List FieldRead → Reading → Got (List FieldRead)
  read_given line number (given.Value v) before r =
      got_map (λ x. before ++ record { line = line; number = number; value = x } ∷ [])
      (read_value v r)
  read_given line number _ before r = gives before r

-- ---- each part of a tree, from its own parts

-- an item between braces: given the numbers of the fields there, the fields with a value, after
-- those before; and the field that it declares
pub record FieldItem : Type 0 where
  pub reads : Numbering → List FieldRead → Reading → Got (List FieldRead)
  pub declares : List Signature

abbrev pub no_field : FieldItem
no_field = record { reads = λ numbers before r. gives before r; declares = [] }

-- what a statement or the declaration of a prototype adds; a declaration adds no nodes
abbrev pub StatementStep : Type 0
StatementStep = StateChange Reading

unfoldable pub item_step : BodyItem-F FieldItem NodeStep StatementStep StatementStep → FieldItem
item_step (BodyItem-F.Field line name g) =
    record {
      reads = λ numbers. read_given (λ step. step) line (numbers name) g;
      declares = [];
    }
item_step (BodyItem-F.Declaration d) =
    record {
      reads = λ numbers. read_given (λ step. step) d.line (numbers d.name) d.given;
      declares = signature d ∷ [];
    }
item_step (BodyItem-F.BodyItem::Route route) = no_field
item_step (BodyItem-F.BodyItem::Proto proto) = no_field

-- the items between the braces of a node
abbrev pub read_full : Option (List ℕ) → Option NodeType → List Signature
    → (Numbering → List FieldRead → Reading → Got (List FieldRead)) → NodeStep
read_full name t declared items r =
    closes name r (interface_of t declared) (items (numbering t declared) [] (opens name r))

unfoldable pub node_step : NodeText-F FieldItem NodeStep StatementStep StatementStep → NodeStep
node_step (NodeText-F.Use line name) = λ r. gives (named name r.opened) r
node_step (NodeText-F.Full line name word items) =
    read_full name (node_type_named word) (flat_map (λ (item : FieldItem). item.declares) items)
    (λ numbers. each (λ (item : FieldItem). item.reads numbers) items)

unfoldable pub statement_step : Statement-F FieldItem NodeStep StatementStep StatementStep
    → StatementStep
statement_step (Statement-F.Node node) = λ r. (node r).after
statement_step (Statement-F.Statement::Route route) = same
statement_step (Statement-F.Statement::Proto proto) = same

unfoldable pub proto_step : ProtoText-F FieldItem NodeStep StatementStep StatementStep
    → StatementStep
proto_step p = same

abbrev pub item : BodyItem → FieldItem
item =
    fold-BodyItem FieldItem NodeStep StatementStep StatementStep item_step node_step statement_step
    proto_step

abbrev pub read_item : Numbering → BodyItem → List FieldRead → Reading → Got (List FieldRead)
read_item numbers i = (item i).reads numbers

abbrev pub declares : BodyItem → List Signature
declares i = (item i).declares

abbrev pub read_node : NodeText → NodeStep
read_node =
    fold-NodeText FieldItem NodeStep StatementStep StatementStep item_step node_step statement_step
    proto_step

abbrev pub read_statement : Statement → StatementStep
read_statement =
    fold-Statement FieldItem NodeStep StatementStep StatementStep item_step node_step statement_step
    proto_step

abbrev pub read_on : Reading → Statement → Reading
read_on r s = read_statement s r

abbrev pub read : Document → Reading
read document = fold read_on nothing_read document.statements

-- ---- a flat document

-- a value of a flat document
abbrev pub as_read : RawValue ℕ → RawValue (Option ℕ)
as_read value.Null = value.Null
as_read (value.Truth truth) = value.Truth truth
as_read (value.String text) = value.String text
as_read (value.Numbers numbers) = value.Numbers numbers
as_read (value.Node node) = value.Node (Some node)
as_read value.EmptyList = value.EmptyList
as_read (value.TruthList truths) = value.TruthList truths
as_read (value.StringList texts) = value.StringList texts
as_read (value.NumberList numbers) = value.NumberList numbers
as_read (value.NodeList nodes) = value.NodeList (map some nodes)

abbrev pub field_read : FlatField → FieldRead
field_read field =
    record { line = field.line; number = Some field.number; value = as_read field.value }

abbrev pub node_read : FlatNode → NodeRead
node_read node =
    record { fields = map field_read node.fields; interface = signatures node.interface }
