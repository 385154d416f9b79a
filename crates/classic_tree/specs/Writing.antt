-- The text of a tree (ISO/IEC 19776-2, grammar; which of the possible texts to write is our
-- choice).
use Rattle.std.specs.Prelude.{ℕ, ◌+◌, ℤ, List, [], ◌∷◌, ◌++◌, Option, Some, None, map, replicate, codes}
use Rattle.std.specs.List.{flat_map, join_with_byte}
use Rattle.x3d_numerals.specs.NumberText.{number_text}
use Rattle.x3d_values.specs.Names.{access_name, field_type_name}
use Rattle.x3d_values.specs.ValueText.{truth_text, string_text, list_text}
use Rattle.classic_lex.specs.declared.versions.Version.{Version}
use Rattle.classic_lex.specs.Header.{version_text}
use Rattle.classic_tree.specs.declared.tree.RouteEnd.{RouteEnd}
use Rattle.classic_tree.specs.declared.tree.RouteText.{RouteText}
use Rattle.classic_tree.specs.declared.tree.RawValue.{RawValue}
use Rattle.classic_tree.specs.declared.tree.RawValue.TheVariants as value
use Rattle.classic_tree.specs.declared.tree.Given.{Given}
use Rattle.classic_tree.specs.declared.tree.Given.TheVariants as given
use Rattle.classic_tree.specs.declared.tree.Declaration.{Declaration}
use Rattle.classic_tree.specs.declared.tree.BodyItem.{BodyItem, fold-BodyItem}
use Rattle.classic_tree.specs.declared.tree.BodyItem.TheOpen.{BodyItem-F, NodeText-F, Statement-F, ProtoText-F}
use Rattle.classic_tree.specs.declared.tree.NodeText.{NodeText, fold-NodeText}
use Rattle.classic_tree.specs.declared.tree.Statement.{Statement, fold-Statement}
use Rattle.classic_tree.specs.declared.tree.ProtoText.{ProtoText, fold-ProtoText}
use Rattle.classic_tree.specs.declared.tree.Meta.{Meta}
use Rattle.classic_tree.specs.declared.tree.Document.{Document}

-- ---- lines

-- the text of a part of a tree, given the number of spaces before its line
abbrev pub Writes : Type 0
Writes = ℕ → List ℕ

-- a part on a line of its own
abbrev pub line_text : {A : Type 0} → (A → Writes) → ℕ → A → List ℕ
line_text text indent part = replicate indent 32 ++ text part indent ++ 10 ∷ []

-- each part on a line of its own
abbrev pub lines_text : {A : Type 0} → (A → Writes) → ℕ → List A → List ℕ
lines_text text indent parts = flat_map (line_text text indent) parts

-- the end of the line, each part on a line of its own two spaces deeper, and the spaces of the next
-- line
abbrev pub deeper_text : {A : Type 0} → (A → Writes) → ℕ → List A → List ℕ
deeper_text text indent parts = 10 ∷ lines_text text (indent + 2) parts ++ replicate indent 32

-- like deeper_text, but nothing if there are no parts
abbrev pub block_text : {A : Type 0} → (A → Writes) → ℕ → List A → List ℕ
block_text text indent [] = []
block_text text indent (part ∷ parts) = deeper_text text indent (part ∷ parts)

-- ---- parts without nodes

abbrev pub place_text : RouteEnd → List ℕ
place_text place = place.node ++ 46 ∷ place.field

abbrev pub route_text : RouteText → List ℕ
route_text route =
    codes "ROUTE " ++ place_text route.source ++ codes " TO " ++ place_text route.target

abbrev pub def_text : Option (List ℕ) → List ℕ
def_text None = []
def_text (Some name) = codes "DEF " ++ name ++ 32 ∷ []

-- numerals without brackets, with one space between two numerals
abbrev pub run_text : List ℤ → List ℕ
run_text numbers = join_with_byte 32 (map number_text numbers)

-- ---- parts with nodes, given the texts of the nodes in them

module _ {N : Type 0} (node_text : N → Writes) where
  abbrev pub value_text : RawValue N → Writes
  value_text value.Null indent = codes "NULL"
  value_text (value.Truth truth) indent = truth_text truth
  value_text (value.String text) indent = string_text text
  value_text (value.Numbers numbers) indent = run_text numbers
  value_text (value.Node node) indent = node_text node indent
  value_text value.EmptyList indent = codes "[]"
  value_text (value.TruthList truths) indent = list_text truth_text truths
  value_text (value.StringList texts) indent = list_text string_text texts
  value_text (value.NumberList numbers) indent = list_text number_text numbers
  value_text (value.NodeList nodes) indent = 91 ∷ block_text node_text indent nodes ++ 93 ∷ []

  -- what follows a name
  abbrev pub given_text : Given N → Writes
  given_text given.Nothing indent = []
  given_text (given.Value value) indent = 32 ∷ value_text value indent
  given_text (given.Is name) indent = codes " IS " ++ name

  abbrev pub declaration_text : Declaration N → Writes
  declaration_text declaration indent =
      access_name declaration.access ++ 32 ∷ field_type_name declaration.field_type
      ++ 32 ∷ declaration.name ++ given_text declaration.given indent

-- ---- nodes, statements and prototypes: each step takes the texts of the parts inside

unfoldable pub item_step : BodyItem-F Writes Writes Writes Writes → Writes
item_step (BodyItem-F.Field line name given) indent = name ++ given_text (λ text. text) given indent
item_step (BodyItem-F.Declaration declaration) indent =
    declaration_text (λ text. text) declaration indent
item_step (BodyItem-F.BodyItem::Route route) indent = route_text route
item_step (BodyItem-F.BodyItem::Proto proto) indent = proto indent

unfoldable pub node_step : NodeText-F Writes Writes Writes Writes → Writes
node_step (NodeText-F.Use line name) indent = codes "USE " ++ name
node_step (NodeText-F.Full line name node_type items) indent =
    def_text name ++ node_type ++ codes " {" ++ block_text (λ text. text) indent items ++ 125 ∷ []

unfoldable pub statement_step : Statement-F Writes Writes Writes Writes → Writes
statement_step (Statement-F.Node node) indent = node indent
statement_step (Statement-F.Statement::Route route) indent = route_text route
statement_step (Statement-F.Statement::Proto proto) indent = proto indent

-- the braces of an empty body are on two lines
unfoldable pub proto_step : ProtoText-F Writes Writes Writes Writes → Writes
proto_step proto indent =
    codes "PROTO " ++ proto.name
    ++ codes " [" ++ block_text (declaration_text (λ text. text)) indent proto.interface
    ++ codes "] {" ++ deeper_text (λ text. text) indent proto.body ++ 125 ∷ []

abbrev pub item_text : BodyItem → Writes
item_text = fold-BodyItem Writes Writes Writes Writes item_step node_step statement_step proto_step

abbrev pub node_text : NodeText → Writes
node_text = fold-NodeText Writes Writes Writes Writes item_step node_step statement_step proto_step

abbrev pub statement_text : Statement → Writes
statement_text =
    fold-Statement Writes Writes Writes Writes item_step node_step statement_step proto_step

abbrev pub proto_text : ProtoText → Writes
proto_text =
    fold-ProtoText Writes Writes Writes Writes item_step node_step statement_step proto_step

-- ---- a whole text

abbrev pub header_line : Version → List ℕ
header_line version = codes "#X3D V" ++ version_text version ++ codes " utf8" ++ 10 ∷ []

abbrev pub profile_line : Option (List ℕ) → List ℕ
profile_line None = []
profile_line (Some name) = codes "PROFILE " ++ name ++ 10 ∷ []

abbrev pub component_line : List ℕ → List ℕ
component_line component = codes "COMPONENT " ++ component ++ 10 ∷ []

abbrev pub meta_line : Meta → List ℕ
meta_line meta = codes "META " ++ string_text meta.key ++ 32 ∷ string_text meta.content ++ 10 ∷ []

-- the header line, the header statements, one per line, and the statements
unfoldable pub document_text : Document → List ℕ
document_text document =
    header_line document.version ++ profile_line document.profile
    ++ flat_map component_line document.components ++ flat_map meta_line document.metas
    ++ lines_text statement_text 0 document.statements
