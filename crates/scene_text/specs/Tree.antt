-- The trees of the nodes of a scene. A node's first appearance is written in full, later ones as
-- USE (ISO/IEC 19776-2, DEF and USE).
use Rattle.std.specs.Prelude.{ℕ, zero, suc, ◌+◌, Bool, true, false, not, List, [], ◌∷◌, ◌++◌, Option, Some, None, get_or, length, slice_get, slice_set, fold, option_and_then, if◌then◌else◌}
use Rattle.std.specs.Option.{option_or}
use Rattle.x3d_values.specs.declared.default.FieldDefault.{FieldDefault}
use Rattle.x3d_values.specs.declared.field_type.Access.{Access}
use Rattle.x3d_values.specs.declared.field_type.FieldType.{FieldType}
use Rattle.x3d_values.specs.declared.node_type.NodeType.{NodeType}
use Rattle.x3d_values.specs.declared.fields.Fields.{Fields}
use Rattle.x3d_values.specs.declared.value.Value.{Value}
use Rattle.x3d_values.specs.declared.value.Value.TheVariants.{SFNode, MFNode}
use Rattle.x3d_values.specs.Access.{is_initial, is_kept}
use Rattle.x3d_values.specs.Kept.{field_value}
use Rattle.x3d_values.specs.Names.{node_type_name}
use Rattle.x3d_values.specs.Tables.{FieldRowView, rows}
use Rattle.classic_tree.specs.declared.tree.RawValue.{RawValue}
use Rattle.classic_tree.specs.declared.tree.RawValue.TheVariants as raw
use Rattle.classic_tree.specs.declared.tree.Given.{Given}
use Rattle.classic_tree.specs.declared.tree.Given.TheVariants as given
use Rattle.classic_tree.specs.declared.tree.BodyItem.{BodyItem}
use Rattle.classic_tree.specs.declared.tree.BodyItem.TheVariants as item
use Rattle.classic_tree.specs.declared.tree.NodeText.{NodeText}
use Rattle.classic_tree.specs.declared.tree.NodeText.TheVariants as node
use Rattle.scene_core.specs.declared.scene.Route.{Route}
use Rattle.scene_core.specs.declared.row.DeclaredField.{DeclaredField}
use Rattle.scene_core.specs.Scene.{SceneView, declared_at, label_of, type_at, value_at}
use Rattle.scene_text.specs.Defaulted.{is_default}
use Rattle.scene_text.specs.Raw.{plain}

-- a scene with its routes, what its nodes keep, and, by node number, which nodes have a DEF where
-- they first appear
pub record PlanView : Type 0 where
  pub scene : SceneView
  pub routes : List Route
  pub state : List Fields
  pub named : List Bool

-- ---- the fields of a node that appear in the text

-- a field of the node's type with its present value, or a declared field with what it holds
pub data Shown : Type 0 where
  Plain : List ℕ → Value → Shown
  Declared : DeclaredField → Option Value → Shown

-- what the node keeps of an inputOutput field that holds no nodes
abbrev pub kept_value : PlanView → ℕ → ℕ → Access → FieldType → Option Value
kept_value p n number access field_type =
    if is_kept access field_type
    then option_and_then (λ (fields : Fields). field_value fields number) (slice_get p.state n)
    else None

-- what the node keeps, or else what the scene gives
abbrev pub present_value : PlanView → ℕ → ℕ → Access → FieldType → Option Value
present_value p n number access field_type =
    option_or (kept_value p n number access field_type) (value_at p.scene n number)

abbrev pub shown_if : Bool → List ℕ → Value → List Shown
shown_if stands name value = if stands then Plain name value ∷ [] else []

-- a field appears if it can hold a value, and its value isn't the default
abbrev pub shown_field : List ℕ → Option FieldDefault → Option Value → List Shown
shown_field name (Some default) (Some value) = shown_if (not (is_default default value)) name value
shown_field name _ _ = []

-- in the order of the table, numbered from `number` on
abbrev pub shown_from : PlanView → ℕ → ℕ → List FieldRowView → List Shown
shown_from p n number [] = []
shown_from p n number (e ∷ others) =
    shown_field e.name e.default (present_value p n number e.access e.field_type)
    ++ shown_from p n (number + 1) others

-- what a declared field holds: inputOnly and outputOnly fields hold nothing
abbrev pub held_value : PlanView → ℕ → ℕ → DeclaredField → Option Value
held_value p n number d =
    if is_initial d.access then present_value p n number d.access d.field_type else None

-- all declared fields appear, numbered from `number` on
abbrev pub declared_from : PlanView → ℕ → ℕ → List DeclaredField → List Shown
declared_from p n number [] = []
declared_from p n number (d ∷ others) =
    Declared d (held_value p n number d) ∷ declared_from p n (number + 1) others

-- the fields of the type, then those that a Script declares
unfoldable pub shown_fields : PlanView → ℕ → NodeType → List Shown
shown_fields p n t =
    shown_from p n 0 (rows t) ++ declared_from p n (length (rows t)) (declared_at p.scene n)

-- ---- trees; they depend on which nodes have appeared

-- which nodes have appeared, and what was made
pub record Grows (A : Type 0) : Type 0 where
  pub seen : List Bool
  pub made : A

abbrev pub Makes : Type 0 → Type 0 → Type 0
Makes A B = List Bool → A → Grows B

abbrev pub one_more : {A B : Type 0} → Makes A B → Grows (List B) → A → Grows (List B)
one_more make s x = let m = make s.seen x in record { seen = m.seen; made = s.made ++ m.made ∷ [] }

-- makes something of each item in turn
abbrev pub each : {A B : Type 0} → Makes A B → Makes (List A) (List B)
each make seen xs = fold (one_more make) (record { seen = seen; made = [] }) xs

abbrev pub as_node : {N : Type 0} → Grows N → Grows (RawValue N)
as_node m = record { seen = m.seen; made = raw.Node m.made }

abbrev pub as_nodes : {N : Type 0} → Grows (List N) → Grows (RawValue N)
as_nodes m = record { seen = m.seen; made = raw.NodeList m.made }

abbrev pub node_list : Makes ℕ NodeText → Makes (List ℕ) (RawValue NodeText)
node_list tree seen [] = record { seen = seen; made = raw.EmptyList }
node_list tree seen (n ∷ others) = as_nodes (each tree seen (n ∷ others))

abbrev pub value_tree : Makes ℕ NodeText → Makes Value (RawValue NodeText)
value_tree tree seen (SFNode (Some n)) = as_node (tree seen n)
value_tree tree seen (MFNode ns) = node_list tree seen ns
value_tree tree seen value = record { seen = seen; made = plain value }

abbrev pub plain_tree : List ℕ → Grows (RawValue NodeText) → Grows BodyItem
plain_tree name m = record { seen = m.seen; made = item.Field 0 name (given.Value m.made) }

abbrev pub given_tree : Makes ℕ NodeText → Makes (Option Value) (Given NodeText)
given_tree tree seen None = record { seen = seen; made = given.Nothing }
given_tree tree seen (Some value) =
    let m = value_tree tree seen value in record { seen = m.seen; made = given.Value m.made }

abbrev pub declaration : DeclaredField → Given NodeText → BodyItem
declaration d held = item.Declaration (record {
  line = 0;
  access = d.access;
  field_type = d.field_type;
  name = d.name;
  given = held;
})

abbrev pub declared_tree : DeclaredField → Grows (Given NodeText) → Grows BodyItem
declared_tree d m = record { seen = m.seen; made = declaration d m.made }

abbrev pub field_tree : Makes ℕ NodeText → Makes Shown BodyItem
field_tree tree seen (Plain name value) = plain_tree name (value_tree tree seen value)
field_tree tree seen (Declared d held) = declared_tree d (given_tree tree seen held)

-- the type of a node that has not appeared
abbrev pub new_type : PlanView → List Bool → ℕ → Option NodeType
new_type p seen n = if get_or seen n true then None else type_at p.scene n

abbrev pub use_tree : PlanView → ℕ → NodeText
use_tree p n = node.Use 0 (label_of p.scene n)

abbrev pub def_name : PlanView → ℕ → Option (List ℕ)
def_name p n = if get_or p.named n false then Some (label_of p.scene n) else None

abbrev pub full_tree : PlanView → ℕ → NodeType → Grows (List BodyItem) → Grows NodeText
full_tree p n t m =
    record { seen = m.seen; made = node.Full 0 (def_name p n) (node_type_name t) m.made }

-- the type is given for a node that appears for the first time
abbrev pub opened : PlanView → Makes ℕ NodeText → List Bool → ℕ → Option NodeType → Grows NodeText
opened p tree seen n (Some t) =
    full_tree p n t (each (field_tree tree) (slice_set seen n true) (shown_fields p n t))
opened p tree seen n None = record { seen = seen; made = use_tree p n }

-- nodes nested deeper than the depth would be written as USE; with a depth of 64 no scene has any
unfoldable pub node_tree : ℕ → PlanView → Makes ℕ NodeText
node_tree zero p seen n = record { seen = seen; made = use_tree p n }
node_tree (suc depth) p seen n = opened p (node_tree depth p) seen n (new_type p seen n)
