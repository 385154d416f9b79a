-- An instance is its prototype's body, written in its place (ISO/IEC 19775-1, 4.4.4, prototypes).
-- Here the prototype has an interface, its body is one node, and instances may be anywhere in a
-- text without other prototypes, USE and ROUTE.
use Rattle.std.specs.Prelude.{◌≡◌, ℕ, Bool, true, false, ◌&&◌, if◌then◌else◌, List, [], ◌∷◌, map, Option, Some, None, Ok}
use Rattle.std.specs.List.{filter_map, list_all}
use Rattle.std.specs.Option.{option_map_or, option_or}
use Rattle.std.specs.Str.{bytes_eq}
use Rattle.classic_tree.specs.declared.tree.BodyItem.{BodyItem, fold-BodyItem, out-BodyItem}
use Rattle.classic_tree.specs.declared.tree.BodyItem.TheOpen.{BodyItem-F, NodeText-F, Statement-F, ProtoText-F}
use Rattle.classic_tree.specs.declared.tree.BodyItem.TheVariants as item
use Rattle.classic_tree.specs.declared.tree.Declaration.{Declaration}
use Rattle.classic_tree.specs.declared.tree.Document.{Document}
use Rattle.classic_tree.specs.declared.tree.Given.{Given}
use Rattle.classic_tree.specs.declared.tree.Given.TheVariants as given
use Rattle.classic_tree.specs.declared.tree.NodeText.{NodeText, fold-NodeText, out-NodeText}
use Rattle.classic_tree.specs.declared.tree.NodeText.TheVariants as node
use Rattle.classic_tree.specs.declared.tree.ProtoText.{ProtoText, roll-ProtoText}
use Rattle.classic_tree.specs.declared.tree.RawValue.{RawValue}
use Rattle.classic_tree.specs.declared.tree.RawValue.TheVariants as value
use Rattle.classic_tree.specs.declared.tree.Statement.{Statement, fold-Statement}
use Rattle.classic_tree.specs.declared.tree.Statement.TheVariants as statement
use Rattle.proto_flat.specs.declared.flat.Flat.{Flat}
use Rattle.proto_meaning.specs.Names.{Name}
use Rattle.proto_meaning.specs.Flat.{flat}
use Rattle.laws_documents.specs.Steps.{all_in}

-- ---- texts without PROTO, USE and ROUTE

-- what is given holds no node
abbrev pub is_plain : {N : Type 0} → Given N → Bool
is_plain (given.Value (value.Node n)) = false
is_plain (given.Value (value.NodeList ns)) = false
is_plain _ = true

-- an item between braces: whether it has no PROTO, USE and ROUTE, and whether an instance may have
-- it
pub record Quiet : Type 0 where
  pub anywhere : Bool
  pub in_instance : Bool

-- braces after the prototype's name are those of an instance, whose values hold no nodes, if
-- instances are allowed there
abbrev pub may_stand : Name → Bool → Name → List Quiet → Bool
may_stand proto allowed word items =
    if bytes_eq proto word then allowed && list_all (λ (i : Quiet). i.in_instance) items
    else list_all (λ (i : Quiet). i.anywhere) items

unfoldable pub quiet_item_step : BodyItem-F Quiet Bool Bool Bool → Quiet
quiet_item_step (BodyItem-F.Field line name g) =
    record { anywhere = all_in g; in_instance = is_plain g }
quiet_item_step (BodyItem-F.Declaration d) =
    record { anywhere = all_in d.given; in_instance = false }
quiet_item_step (BodyItem-F.BodyItem::Route route) =
    record { anywhere = false; in_instance = false }
quiet_item_step (BodyItem-F.BodyItem::Proto b) =
    record { anywhere = false; in_instance = false }

unfoldable pub quiet_node_step : Name → Bool → NodeText-F Quiet Bool Bool Bool → Bool
quiet_node_step proto allowed (NodeText-F.Use line name) = false
quiet_node_step proto allowed (NodeText-F.Full line name word items) =
    may_stand proto allowed word items

unfoldable pub quiet_statement_step : Statement-F Quiet Bool Bool Bool → Bool
quiet_statement_step (Statement-F.Node b) = b
quiet_statement_step (Statement-F.Statement::Route route) = false
quiet_statement_step (Statement-F.Statement::Proto b) = false

unfoldable pub quiet_proto_step : ProtoText-F Quiet Bool Bool Bool → Bool
quiet_proto_step p = false

abbrev pub quiet_item : Name → Bool → BodyItem → Quiet
quiet_item proto allowed =
    fold-BodyItem Quiet Bool Bool Bool quiet_item_step (quiet_node_step proto allowed)
    quiet_statement_step quiet_proto_step

abbrev pub is_quiet_node : Name → Bool → NodeText → Bool
is_quiet_node proto allowed =
    fold-NodeText Quiet Bool Bool Bool quiet_item_step (quiet_node_step proto allowed)
    quiet_statement_step quiet_proto_step

abbrev pub is_quiet_statement : Name → Bool → Statement → Bool
is_quiet_statement proto allowed =
    fold-Statement Quiet Bool Bool Bool quiet_item_step (quiet_node_step proto allowed)
    quiet_statement_step quiet_proto_step

-- ---- a text in which each IS is replaced by what it finds, and braces are rewritten

-- what an IS finds, by the name after it
abbrev pub Finds : Type 0
Finds = Name → Option (RawValue NodeText)

-- how braces are written: from their line, the name that DEF gives, the word before them, and the
-- items between them
abbrev pub Braces : Type 0
Braces = ℕ → Option Name → Name → List BodyItem → NodeText

-- IS is replaced by the value that it finds
abbrev pub replaced : Finds → Given NodeText → Given NodeText
replaced finds (given.Is name) = option_map_or (λ v. given.Value v) (finds name) given.Nothing
replaced finds g = g

-- a field that is given nothing is left out
abbrev pub field_of : ℕ → Name → Given NodeText → Option BodyItem
field_of line name given.Nothing = None
field_of line name g = Some (item.Field line name g)

unfoldable pub item_step : Finds → BodyItem-F (Option BodyItem) NodeText Statement ProtoText
    → Option BodyItem
item_step finds (BodyItem-F.Field line name g) = field_of line name (replaced finds g)
item_step finds (BodyItem-F.Declaration d) =
    Some (item.Declaration (record d { given = replaced finds d.given }))
item_step finds (BodyItem-F.BodyItem::Route route) = Some (item.Route route)
item_step finds (BodyItem-F.BodyItem::Proto p) = Some (item.Proto p)

abbrev pub those_there : List (Option BodyItem) → List BodyItem
those_there items = filter_map (λ (i : Option BodyItem). i) items

unfoldable pub node_step : Braces → NodeText-F (Option BodyItem) NodeText Statement ProtoText
    → NodeText
node_step braces (NodeText-F.Use line name) = node.Use line name
node_step braces (NodeText-F.Full line name word items) =
    braces line name word (those_there items)

unfoldable pub statement_step : Statement-F (Option BodyItem) NodeText Statement ProtoText
    → Statement
statement_step (Statement-F.Node n) = statement.Node n
statement_step (Statement-F.Statement::Route route) = statement.Route route
statement_step (Statement-F.Statement::Proto p) = statement.Proto p

unfoldable pub proto_step : ProtoText-F (Option BodyItem) NodeText Statement ProtoText → ProtoText
proto_step p =
    roll-ProtoText (record { line = p.line; name = p.name; interface = p.interface; body = p.body })

abbrev pub written_item : Finds → Braces → BodyItem → Option BodyItem
written_item finds braces =
    fold-BodyItem (Option BodyItem) NodeText Statement ProtoText (item_step finds)
    (node_step braces) statement_step proto_step

abbrev pub written_node : Finds → Braces → NodeText → NodeText
written_node finds braces =
    fold-NodeText (Option BodyItem) NodeText Statement ProtoText (item_step finds)
    (node_step braces) statement_step proto_step

abbrev pub written_statement : Finds → Braces → Statement → Statement
written_statement finds braces =
    fold-Statement (Option BodyItem) NodeText Statement ProtoText (item_step finds)
    (node_step braces) statement_step proto_step

-- ---- the body in place of an instance

-- the value of the field of that name, if the item gives it one
abbrev pub gives : Name → BodyItem-F BodyItem NodeText Statement ProtoText
    → Option (RawValue NodeText)
gives name (BodyItem-F.Field line field (given.Value v)) =
    if bytes_eq field name then Some v else None
gives name _ = None

abbrev pub given_by : List BodyItem → Finds
given_by [] name = None
given_by (i ∷ is) name = option_or (gives name (out-BodyItem i)) (given_by is name)

abbrev pub value_in : Given NodeText → Option (RawValue NodeText)
value_in (given.Value v) = Some v
value_in _ = None

abbrev pub default_of : List (Declaration NodeText) → Finds
default_of [] name = None
default_of (d ∷ ds) name =
    option_or (if bytes_eq d.name name then value_in d.given else None) (default_of ds name)

-- what the instance gives, or the default value if it gives nothing
abbrev pub found : List (Declaration NodeText) → List BodyItem → Finds
found interface items name = option_or (given_by items name) (default_of interface name)

abbrev pub as_written : Braces
as_written line name word items = node.Full line name word items

-- the node gets the instance's name, if it has one
abbrev pub named_as : Name → NodeText-F BodyItem NodeText Statement ProtoText → NodeText
named_as name (NodeText-F.Use line other) = node.Use line other
named_as name (NodeText-F.Full line other word items) = node.Full line (Some name) word items

abbrev pub named : Option Name → NodeText → NodeText
named None n = n
named (Some name) n = named_as name (out-NodeText n)

-- the body for an instance, by its name and the items between its braces
abbrev pub body_for : List (Declaration NodeText) → NodeText → Option Name → List BodyItem
    → NodeText
body_for interface body name items =
    named name (written_node (found interface items) as_written body)

abbrev pub in_place : Name → List (Declaration NodeText) → NodeText → Braces
in_place proto interface body line name word items =
    if bytes_eq proto word then body_for interface body name items
    else as_written line name word items

-- outside of bodies an IS finds nothing
abbrev pub finds_nothing : Finds
finds_nothing name = None

-- ---- the law

-- PROTO proto [ interface ] { body }
abbrev pub declaration_of : ℕ → Name → List (Declaration NodeText) → NodeText → Statement
declaration_of line proto interface body =
    statement.Proto (roll-ProtoText (record {
      line = line;
      name = proto;
      interface = interface;
      body = statement.Node body ∷ [];
    }))

abbrev pub declared : Document → ℕ → Name → List (Declaration NodeText) → NodeText
    → List Statement → Document
declared d line proto interface body rest =
    record d { statements = declaration_of line proto interface body ∷ rest }

abbrev pub written_out : Document → Name → List (Declaration NodeText) → NodeText → List Statement
    → Document
written_out d proto interface body rest =
    record d {
      statements = map (written_statement finds_nothing (in_place proto interface body)) rest;
    }

-- a document that begins with the declaration and has no fault stands for the same as the document
-- in which the body replaces each instance. Default values and what instances give hold no nodes
abbrev pub InstancesWithFieldsAreTheirBodies : Type 0
InstancesWithFieldsAreTheirBodies =
    (d : Document) (line : ℕ) (proto : Name) (interface : List (Declaration NodeText))
    (body : NodeText) (rest : List Statement) (f : Flat)
    → list_all (λ (i : Declaration NodeText). is_plain i.given) interface ≡ true
    → is_quiet_node proto false body ≡ true
    → list_all (is_quiet_statement proto true) rest ≡ true
    → flat (declared d line proto interface body rest) ≡ Ok f
    → flat (written_out d proto interface body rest) ≡ Ok f
