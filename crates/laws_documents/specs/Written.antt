-- What is written in a text (ISO/IEC 19776-2, grammar), including inside declarations of
-- prototypes: all that the nodes of its flat form can hold.
use Rattle.std.specs.Prelude.{◌≡◌, ◌⊎◌, List, [], ◌∷◌, ◌++◌, Option}
use Rattle.std.specs.List.{AllByRecursion, Contains}
use Rattle.x3d_values.specs.declared.node_type.NodeType.TheVariants.{Script}
use Rattle.classic_tree.specs.declared.tree.BodyItem.{BodyItem, fold-BodyItem}
use Rattle.classic_tree.specs.declared.tree.BodyItem.TheOpen.{BodyItem-F, NodeText-F, Statement-F, ProtoText-F}
use Rattle.classic_tree.specs.declared.tree.Declaration.{Declaration}
use Rattle.classic_tree.specs.declared.tree.Document.{Document}
use Rattle.classic_tree.specs.declared.tree.Given.{Given}
use Rattle.classic_tree.specs.declared.tree.Given.TheVariants as given
use Rattle.classic_tree.specs.declared.tree.NodeText.{NodeText, fold-NodeText}
use Rattle.classic_tree.specs.declared.tree.ProtoText.{ProtoText, fold-ProtoText}
use Rattle.classic_tree.specs.declared.tree.RawValue.{RawValue}
use Rattle.classic_tree.specs.declared.tree.RawValue.TheVariants as value
use Rattle.classic_tree.specs.declared.tree.Statement.{Statement, fold-Statement}
use Rattle.proto_flat.specs.declared.flat.FlatField.{FlatField}
use Rattle.proto_flat.specs.declared.flat.FlatNode.{FlatNode}
use Rattle.proto_meaning.specs.Names.{Name, Field}
use Rattle.proto_meaning.specs.Flat.{field}
use Rattle.laws_documents.specs.Shapes.{blank}

-- the name that DEF gives each pair of braces; the fields that are declared between braces; and the
-- values of fields and interfaces, except for the nodes in them
pub record Written : Type 0 where
  pub names : List (Option Name)
  pub fields : List Field
  pub values : List (RawValue (Unit {0}))

abbrev pub nothing : Written
nothing = record { names = []; fields = []; values = [] }

abbrev pub and_also : Written → Written → Written
and_also a b =
    record {
      names = a.names ++ b.names;
      fields = a.fields ++ b.fields;
      values = a.values ++ b.values;
    }

abbrev pub all_of : {A : Type 0} → (A → Written) → List A → Written
all_of f [] = nothing
all_of f (x ∷ xs) = and_also (f x) (all_of f xs)

abbrev pub itself : Written → Written
itself w = w

abbrev pub in_value : RawValue Written → Written
in_value (value.Node w) = w
in_value (value.NodeList ws) = all_of itself ws
in_value _ = nothing

abbrev pub in_given : Given Written → Written
in_given (given.Value v) = and_also (record nothing { values = blank v ∷ [] }) (in_value v)
in_given _ = nothing

abbrev pub in_default : Declaration Written → Written
in_default d = in_given d.given

unfoldable pub item_step : BodyItem-F Written Written Written Written → Written
item_step (BodyItem-F.Field line name g) = in_given g
item_step (BodyItem-F.Declaration d) =
    and_also (record nothing { fields = field d ∷ [] }) (in_given d.given)
item_step (BodyItem-F.BodyItem::Route route) = nothing
item_step (BodyItem-F.BodyItem::Proto p) = p

unfoldable pub node_step : NodeText-F Written Written Written Written → Written
node_step (NodeText-F.Use line name) = nothing
node_step (NodeText-F.Full line name word items) =
    and_also (record nothing { names = name ∷ [] }) (all_of itself items)

unfoldable pub statement_step : Statement-F Written Written Written Written → Written
statement_step (Statement-F.Node n) = n
statement_step (Statement-F.Statement::Route route) = nothing
statement_step (Statement-F.Statement::Proto p) = p

unfoldable pub proto_step : ProtoText-F Written Written Written Written → Written
proto_step p = and_also (all_of in_default p.interface) (all_of itself p.body)

abbrev pub in_item : BodyItem → Written
in_item =
    fold-BodyItem Written Written Written Written item_step node_step statement_step proto_step

abbrev pub in_node : NodeText → Written
in_node =
    fold-NodeText Written Written Written Written item_step node_step statement_step proto_step

abbrev pub in_statement : Statement → Written
in_statement =
    fold-Statement Written Written Written Written item_step node_step statement_step proto_step

abbrev pub in_proto : ProtoText → Written
in_proto =
    fold-ProtoText Written Written Written Written item_step node_step statement_step proto_step

abbrev pub written : Document → Written
written d = all_of in_statement d.statements

-- ---- a node that holds only what is written

abbrev pub IsWrittenValue : Written → FlatField → Type 0
IsWrittenValue w f = Contains w.values (blank f.value)

pub record IsWritten (w : Written) (node : FlatNode) : Type 0 where
  pub named : Contains w.names node.name
  pub scripted : (node.node_type ≡ Script) ⊎ (node.interface ≡ [])
  pub declared : AllByRecursion (Contains w.fields) node.interface
  pub values : AllByRecursion (IsWrittenValue w) node.fields
