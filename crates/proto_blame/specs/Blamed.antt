-- The blamed document of a document: the same nodes and prototypes, in which each value is a blame
-- of the instance whose braces hold it (ISO/IEC 19775-1, 4.4.4, prototypes; the blames are our
-- choice). What gives no value and adds no node is left out: names, USEs and ROUTEs. So its flat
-- document has the nodes and fields of the document's own, with blames for values.
--
-- An example:
--     1  PROTO Lamp [ inputOutput SFFloat power 1 ] { PointLight { intensity IS power } }
--     2  DEF L Lamp { power 0.5 }
-- is blamed as
--     1  PROTO Lamp [ inputOutput SFFloat power NULL ] { PointLight { intensity IS power } }
--     2  Lamp { power "2" }
-- so in its flat document `intensity` of the PointLight is "2": the value was given on line 2.
use Rattle.std.specs.Prelude.{ℕ, List, [], Option, None, Some, map, option_map, is_some, if◌then◌else◌}
use Rattle.std.specs.List.{flat_map}
use Rattle.std.specs.Option.{option_to_list}
use Rattle.x3d_values.specs.Names.{node_type_named}
use Rattle.classic_tree.specs.declared.tree.BodyItem.{BodyItem, fold-BodyItem}
use Rattle.classic_tree.specs.declared.tree.BodyItem.TheOpen.{BodyItem-F, NodeText-F, Statement-F, ProtoText-F}
use Rattle.classic_tree.specs.declared.tree.BodyItem.TheVariants as item
use Rattle.classic_tree.specs.declared.tree.Declaration.{Declaration}
use Rattle.classic_tree.specs.declared.tree.Document.{Document}
use Rattle.classic_tree.specs.declared.tree.Given.{Given}
use Rattle.classic_tree.specs.declared.tree.Given.TheVariants as given
use Rattle.classic_tree.specs.declared.tree.NodeText.{NodeText, fold-NodeText}
use Rattle.classic_tree.specs.declared.tree.NodeText.TheVariants as node
use Rattle.classic_tree.specs.declared.tree.ProtoText.{ProtoText, fold-ProtoText, roll-ProtoText}
use Rattle.classic_tree.specs.declared.tree.RawValue.{RawValue}
use Rattle.classic_tree.specs.declared.tree.RawValue.TheVariants as value
use Rattle.classic_tree.specs.declared.tree.Statement.{Statement, fold-Statement}
use Rattle.classic_tree.specs.declared.tree.Statement.TheVariants as statement
use Rattle.proto_blame.specs.Blames.{blame}

-- what stays of each, in its order
abbrev pub kept_in : {A B : Type 0} → (A → Option B) → List A → List B
kept_in stays xs = flat_map (λ x. option_to_list (stays x)) xs

-- ---- values, by the line of the instance whose braces hold them, or 0

abbrev pub blaming : Option (List ℕ) → RawValue NodeText
blaming None = value.Null
blaming (Some text) = value.String text

-- a node, or the blame if it was a USE
abbrev pub one_or_blame : ℕ → Option NodeText → RawValue NodeText
one_or_blame line None = blaming (blame line)
one_or_blame line (Some n) = value.Node n

-- nodes, or the blame if all were USEs
abbrev pub list_or_blame : ℕ → List NodeText → RawValue NodeText
list_or_blame line [] = blaming (blame line)
list_or_blame line nodes = value.NodeList nodes

module _ {N : Type 0} (node : ℕ → N → Option NodeText) where
  abbrev pub value_blamed : ℕ → RawValue N → RawValue NodeText
  value_blamed line (value.Node n) = one_or_blame line (node line n)
  value_blamed line (value.NodeList nodes) = list_or_blame line (kept_in (node line) nodes)
  value_blamed line _ = blaming (blame line)

  abbrev pub given_blamed : ℕ → Given N → Given NodeText
  given_blamed line given.Nothing = given.Nothing
  given_blamed line (given.Value v) = given.Value (value_blamed line v)
  given_blamed line (given.Is outer) = given.Is outer

  -- the value of a declaration is in no instance's braces
  abbrev pub declaration_blamed : Declaration N → Declaration NodeText
  declaration_blamed d =
      record {
        line = d.line;
        access = d.access;
        field_type = d.field_type;
        name = d.name;
        given = given_blamed 0 d.given;
      }

-- ---- each part, from its own parts

-- by the line of the instance whose braces hold the item, or 0 between the braces of a node
abbrev pub Item : Type 0
Item = ℕ → Option BodyItem

-- by the line of the instance whose braces hold the node in a value, or 0
abbrev pub Node : Type 0
Node = ℕ → Option NodeText

abbrev pub Stated : Type 0
Stated = Option Statement

-- the line of what holds the items of braces: of an instance, whose word is no node type, or 0
abbrev pub holder : ℕ → List ℕ → ℕ
holder line word = if is_some (node_type_named word) then 0 else line

unfoldable pub item_step : BodyItem-F Item Node Stated ProtoText → Item
item_step (BodyItem-F.Field at name g) line =
    Some (item.Field at name (given_blamed (λ l (n : Node). n l) line g))
item_step (BodyItem-F.Declaration d) line =
    Some (item.Declaration (declaration_blamed (λ l (n : Node). n l) d))
item_step (BodyItem-F.BodyItem::Route route) line = None
item_step (BodyItem-F.BodyItem::Proto proto) line = Some (item.Proto proto)

-- the name of a node is the blame of the instance whose braces hold it in a value
unfoldable pub node_step : NodeText-F Item Node Stated ProtoText → Node
node_step (NodeText-F.Use at name) line = None
node_step (NodeText-F.Full at name word items) line =
    Some (node.Full at (blame line) word (kept_in (λ (i : Item). i (holder at word)) items))

unfoldable pub statement_step : Statement-F Item Node Stated ProtoText → Stated
statement_step (Statement-F.Node n) = option_map statement.Node (n 0)
statement_step (Statement-F.Statement::Route route) = None
statement_step (Statement-F.Statement::Proto proto) = Some (statement.Proto proto)

abbrev pub proto_of : ℕ → List ℕ → List (Declaration NodeText) → List Statement → ProtoText
proto_of line name interface body =
    roll-ProtoText (record { line = line; name = name; interface = interface; body = body })

unfoldable pub proto_step : ProtoText-F Item Node Stated ProtoText → ProtoText
proto_step p =
    proto_of p.line p.name (map (declaration_blamed (λ l (n : Node). n l)) p.interface)
    (kept_in (λ (s : Stated). s) p.body)

abbrev pub item_blamed : BodyItem → Item
item_blamed =
    fold-BodyItem Item Node Stated ProtoText item_step node_step statement_step proto_step

abbrev pub node_blamed : NodeText → Node
node_blamed =
    fold-NodeText Item Node Stated ProtoText item_step node_step statement_step proto_step

abbrev pub statement_blamed : Statement → Stated
statement_blamed =
    fold-Statement Item Node Stated ProtoText item_step node_step statement_step proto_step

abbrev pub proto_blamed : ProtoText → ProtoText
proto_blamed =
    fold-ProtoText Item Node Stated ProtoText item_step node_step statement_step proto_step

-- the blamed document, without header statements
abbrev pub blamed : Document → Document
blamed d =
    record {
      version = d.version;
      profile = None;
      components = [];
      metas = [];
      statements = kept_in statement_blamed d.statements;
    }
