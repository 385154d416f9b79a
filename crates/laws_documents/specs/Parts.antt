-- The parts of a tree that decide whether the flat form exists: braces, with the names of the
-- fields between them, prototypes, and ISs (ISO/IEC 19776-2, grammar).
use Rattle.std.specs.Prelude.{ℕ, List, [], ◌∷◌, ◌++◌}
use Rattle.std.specs.List.{flat_map}
use Rattle.classic_tree.specs.declared.tree.BodyItem.{BodyItem, fold-BodyItem}
use Rattle.classic_tree.specs.declared.tree.BodyItem.TheOpen.{BodyItem-F, NodeText-F, Statement-F, ProtoText-F}
use Rattle.classic_tree.specs.declared.tree.Document.{Document}
use Rattle.classic_tree.specs.declared.tree.Given.{Given}
use Rattle.classic_tree.specs.declared.tree.Given.TheVariants as given
use Rattle.classic_tree.specs.declared.tree.NodeText.{NodeText, fold-NodeText}
use Rattle.classic_tree.specs.declared.tree.RawValue.{RawValue}
use Rattle.classic_tree.specs.declared.tree.RawValue.TheVariants as value
use Rattle.classic_tree.specs.declared.tree.Statement.{Statement, fold-Statement}
use Rattle.laws_documents.specs.Signatures.{Signature, signature}

-- a field between braces that is given something, or one that is declared there
pub data BraceField : Type 0 where
  Gives : List ℕ → BraceField
  Declares : Signature → BraceField

-- braces, with the word before them and the fields between them; a prototype; or an IS
pub data TreePart : Type 0 where
  Braces : List ℕ → List BraceField → TreePart
  Prototype : TreePart
  Joins : TreePart

-- ---- each part of a tree, from its own parts

abbrev pub Inside : Type 0
Inside = List TreePart

module _ {N : Type 0} (parts : N → Inside) where
  abbrev pub in_value : RawValue N → Inside
  in_value (value.Node node) = parts node
  in_value (value.NodeList nodes) = flat_map parts nodes
  in_value _ = []

  abbrev pub in_given : Given N → Inside
  in_given given.Nothing = []
  in_given (given.Value v) = in_value v
  in_given (given.Is name) = Joins ∷ []

-- an item between braces: the field that it names, and the parts inside
pub record BraceItem : Type 0 where
  pub entries : List BraceField
  pub inside : Inside

abbrev pub these : Inside → Inside
these parts = parts

unfoldable pub item_step : BodyItem-F BraceItem Inside Inside Inside → BraceItem
item_step (BodyItem-F.Field line name g) =
    record { entries = Gives name ∷ []; inside = in_given these g }
item_step (BodyItem-F.Declaration d) =
    record { entries = Declares (signature d) ∷ []; inside = in_given these d.given }
item_step (BodyItem-F.BodyItem::Route route) = record { entries = []; inside = [] }
item_step (BodyItem-F.BodyItem::Proto proto) = record { entries = []; inside = Prototype ∷ [] }

unfoldable pub node_step : NodeText-F BraceItem Inside Inside Inside → Inside
node_step (NodeText-F.Use line name) = []
node_step (NodeText-F.Full line name word items) =
    flat_map (λ (item : BraceItem). item.inside) items
    ++ Braces word (flat_map (λ (item : BraceItem). item.entries) items) ∷ []

unfoldable pub statement_step : Statement-F BraceItem Inside Inside Inside → Inside
statement_step (Statement-F.Node node) = node
statement_step (Statement-F.Statement::Route route) = []
statement_step (Statement-F.Statement::Proto proto) = Prototype ∷ []

unfoldable pub proto_step : ProtoText-F BraceItem Inside Inside Inside → Inside
proto_step p = []

abbrev pub item : BodyItem → BraceItem
item =
    fold-BodyItem BraceItem Inside Inside Inside item_step node_step statement_step proto_step

abbrev pub entries : BodyItem → List BraceField
entries i = (item i).entries

abbrev pub in_item : BodyItem → Inside
in_item i = (item i).inside

abbrev pub in_node : NodeText → Inside
in_node =
    fold-NodeText BraceItem Inside Inside Inside item_step node_step statement_step proto_step

abbrev pub in_statement : Statement → Inside
in_statement =
    fold-Statement BraceItem Inside Inside Inside item_step node_step statement_step proto_step

-- the parts of a document
abbrev pub parts : Document → Inside
parts document = flat_map in_statement document.statements
