-- The scripts that a scene asks for (ISO/IEC 19775-1, Script: its `url` says where the script is;
-- that some urls name kinds of this core is our choice).
use Rattle.std.specs.Prelude.{ℕ, ℤ, pos, Bool, true, false, ◌&&◌, ◌==◌, List, [], ◌∷◌, ◌++◌, Option, Some, None, codes, drop, length, nat_eq, if◌then◌else◌}
use Rattle.std.specs.Cmp.Lexicographic.{pointwise}
use Rattle.std.specs.List.{filter_map, list_all, list_any, range_with_len, starts_with}
use Rattle.std.specs.Option.{option_and_then, option_map, option_or}
use denote.Enum.Bare.{sameb}
use Rattle.x3d_values.specs.contracts.field_type.Access as accesses
use Rattle.x3d_values.specs.contracts.field_type.FieldType as types
use Rattle.x3d_values.specs.declared.node_type.NodeType.{NodeType}
use Rattle.x3d_values.specs.declared.node_type.NodeType.TheVariants.{Script}
use Rattle.x3d_values.specs.declared.script.Kind.{Kind}
use Rattle.x3d_values.specs.declared.script.Kind.TheVariants.{Counter, Gate, Adder, Batch, Mover, Meter}
use Rattle.x3d_values.specs.declared.script.ScriptSpec.{ScriptSpec}
use Rattle.x3d_values.specs.declared.value.Value.{Value}
use Rattle.x3d_values.specs.declared.value.Value.TheVariants.{SFBool, SFInt32, SFVec3f, MFString}
use Rattle.x3d_values.specs.Tables.{FieldRowView, row_named}
use Rattle.script_host.specs.Interface.{interface, kind_named}
use Rattle.scene_core.specs.declared.row.DeclaredField.{DeclaredField}
use Rattle.scene_core.specs.Scene.{SceneView, declared_at, rows_at, type_at, value_at}

-- ---- what the fields of a node hold at the start

-- the opening value of the field with that name
abbrev pub value_named : SceneView → ℕ → List ℕ → Option Value
value_named s node name =
    option_and_then (λ row. value_at s node row.number) (row_named 0 name (rows_at s node))

abbrev pub strings_in : Option Value → List (List ℕ)
strings_in (Some (MFString strings)) = strings
strings_in _ = []

abbrev pub integer_in : Option Value → ℤ
integer_in (Some (SFInt32 number)) = number
integer_in _ = pos 0

-- TRUE is 1
abbrev pub truth_in : Option Value → ℤ
truth_in (Some (SFBool true)) = pos 1
truth_in _ = pos 0

abbrev pub place_in : Option Value → List ℤ
place_in (Some (SFVec3f place)) = place.x ∷ place.y ∷ place.z ∷ []
place_in _ = pos 0 ∷ pos 0 ∷ pos 0 ∷ []

-- -- which Scripts are run, by the word after `x3dshare:`

abbrev pub scheme : List ℕ
scheme = codes "x3dshare:"

abbrev pub word_in : List ℕ → Option (List ℕ)
word_in url = if starts_with nat_eq url scheme then Some (drop (length scheme) url) else None

-- the word of the first of these urls that has one
abbrev pub first_word : List (List ℕ) → Option (List ℕ)
first_word [] = None
first_word (url ∷ urls) = option_or (word_in url) (first_word urls)

-- only Scripts are run
abbrev pub word_by : SceneView → ℕ → Option NodeType → Option (List ℕ)
word_by s node (Some Script) = first_word (strings_in (value_named s node (codes "url")))
word_by s node _ = None

-- the word by which a node asks to be run
abbrev pub word_of : SceneView → ℕ → Option (List ℕ)
word_of s node = word_by s node (type_at s node)

-- ---- what a Script that is run asks for

-- a declared field has the name, the access and the type of a field of an interface
abbrev pub is_field : FieldRowView → DeclaredField → Bool
is_field e d =
    pointwise nat_eq d.name e.name
    && (sameb accesses.the_type d.access e.access && sameb types.the_type d.field_type e.field_type)

-- the declared fields are those of the kind, in any order: no two fields of a kind have the same
-- name, so if there are as many declared fields as the kind has, and each field of the kind is
-- among them, there are no others
abbrev pub declares : Kind → List DeclaredField → Bool
declares kind declared =
    (length declared == length (interface kind))
    && list_all (λ e. list_any (λ d. is_field e d) declared) (interface kind)

-- the state in which a script of the kind starts
abbrev pub start_of : SceneView → ℕ → Kind → List ℤ
start_of s node Counter =
    integer_in (value_named s node (codes "start"))
    ∷ integer_in (value_named s node (codes "step")) ∷ []
start_of s node Gate = truth_in (value_named s node (codes "startOpen")) ∷ []
start_of s node Adder = pos 0 ∷ pos 0 ∷ []
start_of s node Batch = pos 0 ∷ []
start_of s node Mover =
    place_in (value_named s node (codes "from")) ++ place_in (value_named s node (codes "to"))
start_of s node Meter = []

-- if the interface isn't that of the kind, no state is asked for
abbrev pub start_where : SceneView → ℕ → Kind → Bool → List ℤ
start_where s node kind fits = if fits then start_of s node kind else []

abbrev pub known_spec : SceneView → ℕ → Kind → Bool → ScriptSpec
known_spec s node kind fits = record {
  node = node;
  kind = Some kind;
  fits = fits;
  start = start_where s node kind fits;
}

abbrev pub spec_by : SceneView → ℕ → Option Kind → ScriptSpec
spec_by s node (Some kind) = known_spec s node kind (declares kind (declared_at s node))
spec_by s node None = record { node = node; kind = None; fits = false; start = [] }

-- what a node asks for, if it asks to be run
abbrev pub script_at : SceneView → ℕ → Option ScriptSpec
script_at s node = option_map (λ word. spec_by s node (kind_named word)) (word_of s node)

-- what the Scripts of the scene ask for, in the order of the nodes' numbers
unfoldable pub script_list : SceneView → List ScriptSpec
script_list s = filter_map (script_at s) (range_with_len 0 (length s.nodes))
