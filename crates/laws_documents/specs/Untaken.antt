-- A value that no IS takes doesn't matter (ISO/IEC 19775-1, 4.4.4). If no IS of its prototype's
-- body takes a field, the value that an instance gives it, and its default, may be any other value
-- that declares the same.
use Rattle.std.specs.Prelude.{◌≡◌, ℕ, Bool, true, false, ◌&&◌, is_some, List, [], ◌∷◌, map, Option, None, Result, Ok, Err}
use Rattle.std.specs.List.{list_all}
use Rattle.x3d_values.specs.Names.{node_type_named}
use Rattle.classic_tree.specs.declared.tree.BodyItem.{BodyItem, fold-BodyItem}
use Rattle.classic_tree.specs.declared.tree.BodyItem.TheOpen.{BodyItem-F, NodeText-F, Statement-F, ProtoText-F}
use Rattle.classic_tree.specs.declared.tree.BodyItem.TheVariants as item_text
use Rattle.classic_tree.specs.declared.tree.Declaration.{Declaration}
use Rattle.classic_tree.specs.declared.tree.Document.{Document}
use Rattle.classic_tree.specs.declared.tree.Given.{Given}
use Rattle.classic_tree.specs.declared.tree.Given.TheVariants as given
use Rattle.classic_tree.specs.declared.tree.NodeText.{NodeText, fold-NodeText}
use Rattle.classic_tree.specs.declared.tree.NodeText.TheVariants as node_text
use Rattle.classic_tree.specs.declared.tree.ProtoText.{ProtoText, fold-ProtoText, roll-ProtoText}
use Rattle.classic_tree.specs.declared.tree.RawValue.{RawValue}
use Rattle.classic_tree.specs.declared.tree.RawValue.TheVariants as value
use Rattle.classic_tree.specs.declared.tree.Statement.{Statement, fold-Statement}
use Rattle.classic_tree.specs.declared.tree.Statement.TheVariants as statement_text
use Rattle.proto_flat.specs.declared.fault.ExpandFault.{ExpandFault}
use Rattle.proto_meaning.specs.Names.{Name}
use Rattle.proto_meaning.specs.Sight.{Sight, Look, Names, Search, no_names, each, opened, aside, nodes_in, taking, meant, taken_by, is_kept}
use Rattle.proto_meaning.specs.Flat.{item, node, statement, flat}
use Rattle.laws_documents.specs.Steps.{is_true, plain_item_step, plain_statement_step, plain_proto_step}

-- ---- what a value declares

-- what the nodes in the value declare, and what ISs take there
abbrev pub given_declares : Given NodeText → Look
given_declares g s =
    each (λ n. (node n).sees) (nodes_in g) (record s { taken = taking g s.taken })

-- the search for an instance of a prototype in the value
abbrev pub given_holds : Given NodeText → Name → Search
given_holds g own = each (λ n. (node n).finds own) (nodes_in g)

-- a value that replaces another, by the line and the name of its field
abbrev pub Change : Type 0
Change = ℕ → Name → RawValue NodeText → RawValue NodeText

-- whatever is in sight, the new value declares what the old one declares, with the same faults; and
-- the search for an instance of a prototype, whose name is not that of a node type, gives the same
pub record KeepsDeclarations (change : Change) : Type 0 where
  pub declares : (line : ℕ) (name : Name) (v : RawValue NodeText) (s : Sight)
      → aside (given_declares (given.Value (change line name v))) s
      ≡ aside (given_declares (given.Value v)) s
  pub holds : (line : ℕ) (name : Name) (v : RawValue NodeText) (own : Name)
      → node_type_named own ≡ None → (hidden : Bool)
      → given_holds (given.Value (change line name v)) own hidden
      ≡ given_holds (given.Value v) own hidden

-- ---- parts of a text by what is in sight before them

-- what is in sight after a part; unchanged if the part has a fault
abbrev pub seen_or : Sight → Result Sight ExpandFault → Sight
seen_or s (Ok t) = t
seen_or s (Err e) = s

abbrev pub past : Look → Sight → Sight
past step s = seen_or s (step s)

-- parts in turn
abbrev pub in_turn : {F T : Type 0} → (F → Sight → T) → (T → Look) → List F → Sight → List T
in_turn at sees [] s = []
in_turn at sees (f ∷ fs) s = at f s ∷ in_turn at sees fs (past (sees (at f s)) s)

abbrev pub NodeAt : Type 0
NodeAt = Sight → NodeText

-- an item, by the names that the braces around it keep
abbrev pub ItemAt : Type 0
ItemAt = Option Names → Sight → BodyItem

abbrev pub StatementAt : Type 0
StatementAt = Sight → Statement

abbrev pub ProtoAt : Type 0
ProtoAt = Sight → ProtoText

abbrev pub given_at : Given NodeAt → Sight → Given NodeText
given_at given.Nothing s = given.Nothing
given_at (given.Is name) s = given.Is name
given_at (given.Value value.Null) s = given.Value value.Null
given_at (given.Value (value.Truth truth)) s = given.Value (value.Truth truth)
given_at (given.Value (value.String text)) s = given.Value (value.String text)
given_at (given.Value (value.Numbers numbers)) s = given.Value (value.Numbers numbers)
given_at (given.Value (value.Node n)) s = given.Value (value.Node (n s))
given_at (given.Value value.EmptyList) s = given.Value value.EmptyList
given_at (given.Value (value.TruthList truths)) s = given.Value (value.TruthList truths)
given_at (given.Value (value.StringList texts)) s = given.Value (value.StringList texts)
given_at (given.Value (value.NumberList numbers)) s = given.Value (value.NumberList numbers)
given_at (given.Value (value.NodeList ns)) s =
    given.Value (value.NodeList (in_turn (λ (n : NodeAt). n) (λ n. (node n).sees) ns s))

abbrev pub declaration_at : Declaration NodeAt → Sight → Declaration NodeText
declaration_at d s =
    record {
      line = d.line;
      access = d.access;
      field_type = d.field_type;
      name = d.name;
      given = given_at d.given s;
    }

-- ---- a text with other values where no IS takes them

abbrev pub unless_kept : Change → Bool → ℕ → Name → Given NodeText → Given NodeText
unless_kept change false line name (given.Value v) = given.Value (change line name v)
unless_kept change kept line name g = g

abbrev pub with_default : Change → Names → Declaration NodeText → Declaration NodeText
with_default change takes d =
    record d { given = unless_kept change (takes d.name) d.line d.name d.given }

abbrev pub defaults_declare : List (Declaration NodeText) → Look
defaults_declare ds = aside (each (λ d. given_declares d.given) ds)

abbrev pub statements_declare : List Statement → Look
statements_declare ss = each (λ s. (statement s).1.sees) ss

-- the prototype with these parts; `body` is what is in sight where its body begins
abbrev pub proto_with : Change → ℕ → Name → List (Declaration NodeText) → List Statement → Sight
    → ProtoText
proto_with change line name ds ss body =
    roll-ProtoText (record {
      line = line;
      name = name;
      interface = map (with_default change (past (statements_declare ss) body).taken) ds;
      body = ss;
    })

unfoldable pub item_step : Change → BodyItem-F ItemAt NodeAt StatementAt ProtoAt → ItemAt
item_step change (BodyItem-F.Field line name g) = λ taken s.
    item_text.Field line name (unless_kept change (is_kept taken name) line name (given_at g s))
item_step change (BodyItem-F.Declaration d) = λ taken s. item_text.Declaration (declaration_at d s)
item_step change (BodyItem-F.BodyItem::Route route) = λ taken s. item_text.Route route
item_step change (BodyItem-F.BodyItem::Proto p) = λ taken s. item_text.Proto (p s)

unfoldable pub node_step : Change → NodeText-F ItemAt NodeAt StatementAt ProtoAt → NodeAt
node_step change (NodeText-F.Use line name) = λ s. node_text.Use line name
node_step change (NodeText-F.Full line name word items) = λ s.
    node_text.Full line name word (in_turn (λ (i : ItemAt). i (taken_by (meant word s)))
    (λ i. (item i).sees (taken_by (meant word s))) items s)

unfoldable pub statement_step : Change → Statement-F ItemAt NodeAt StatementAt ProtoAt → StatementAt
statement_step change (Statement-F.Node n) = λ s. statement_text.Node (n s)
statement_step change (Statement-F.Statement::Route route) = λ s. statement_text.Route route
statement_step change (Statement-F.Statement::Proto p) = λ s. statement_text.Proto (p s)

abbrev pub interface_at : List (Declaration NodeAt) → Sight → List (Declaration NodeText)
interface_at ds s = in_turn declaration_at (λ d. given_declares d.given) ds s

abbrev pub statements_at : List StatementAt → Sight → List Statement
statements_at ss s = in_turn (λ (x : StatementAt). x) (λ x. (statement x).1.sees) ss s

abbrev pub body_at : Change → ℕ → Name → List (Declaration NodeText) → List StatementAt → Sight
    → ProtoText
body_at change line name ds ss s = proto_with change line name ds (statements_at ss s) s

abbrev pub with_parts : Change → ℕ → Name → List (Declaration NodeText) → List StatementAt → Sight
    → ProtoText
with_parts change line name ds ss s = body_at change line name ds ss (past (defaults_declare ds) s)

unfoldable pub proto_step : Change → ProtoText-F ItemAt NodeAt StatementAt ProtoAt → ProtoAt
proto_step change p = λ s.
    with_parts change p.line p.name (interface_at p.interface (opened s)) p.body (opened s)

abbrev pub item_at : Change → BodyItem → ItemAt
item_at change =
    fold-BodyItem ItemAt NodeAt StatementAt ProtoAt (item_step change) (node_step change)
    (statement_step change) (proto_step change)

abbrev pub node_at : Change → NodeText → NodeAt
node_at change =
    fold-NodeText ItemAt NodeAt StatementAt ProtoAt (item_step change) (node_step change)
    (statement_step change) (proto_step change)

abbrev pub statement_at : Change → Statement → StatementAt
statement_at change =
    fold-Statement ItemAt NodeAt StatementAt ProtoAt (item_step change) (node_step change)
    (statement_step change) (proto_step change)

abbrev pub prototype_at : Change → ProtoText → ProtoAt
prototype_at change =
    fold-ProtoText ItemAt NodeAt StatementAt ProtoAt (item_step change) (node_step change)
    (statement_step change) (proto_step change)

-- the document, with other values where no IS takes them
abbrev pub with_untaken : Change → Document → Document
with_untaken change d =
    record d {
      statements = statements_at (map (statement_at change) d.statements)
          (record { here = []; outside = []; taken = no_names });
    }

-- ---- the laws

abbrev pub UntakenValuesDontMatter : Type 0
UntakenValuesDontMatter =
    (change : Change) → KeepsDeclarations change → (d : Document)
    → flat (with_untaken change d) ≡ flat d

-- ---- values without prototypes

unfoldable pub bare_node_step : NodeText-F Bool Bool Bool Bool → Bool
bare_node_step (NodeText-F.Use line name) = true
bare_node_step (NodeText-F.Full line name word items) =
    is_some (node_type_named word) && list_all is_true items

abbrev pub is_bare_item : BodyItem → Bool
is_bare_item =
    fold-BodyItem Bool Bool Bool Bool plain_item_step bare_node_step plain_statement_step
    plain_proto_step

-- the node contains no PROTO, and each word before braces is the name of a node type
abbrev pub is_bare_node : NodeText → Bool
is_bare_node =
    fold-NodeText Bool Bool Bool Bool plain_item_step bare_node_step plain_statement_step
    plain_proto_step

abbrev pub is_bare_statement : Statement → Bool
is_bare_statement =
    fold-Statement Bool Bool Bool Bool plain_item_step bare_node_step plain_statement_step
    plain_proto_step

-- NULL for a value that has nothing to do with prototypes
abbrev pub null_if : Bool → RawValue NodeText → RawValue NodeText
null_if true v = value.Null
null_if false v = v

abbrev pub blanked : Change
blanked line name v = null_if (list_all is_bare_node (nodes_in (given.Value v))) v

-- for documents that differ only in such values that no IS takes
abbrev pub UntakenPlainValuesDontMatter : Type 0
UntakenPlainValuesDontMatter =
    (d e : Document) → with_untaken blanked d ≡ with_untaken blanked e → flat d ≡ flat e
