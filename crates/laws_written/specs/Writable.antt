-- Which scenes can be written so that they are read again: names are names, texts are UTF-8,
-- numbers are in their ranges, and chains of nodes are short enough (ISO/IEC 19775-1, scene graph;
-- ISO/IEC 19776-2, grammar; the limit is our choice).
use Rattle.std.specs.Prelude.{◌≡◌, ◌⊎◌, ℕ, zero, suc, ◌+◌, ◌-◌, ◌^◌, ◌<◌, ◌≤◌, Bool, true, List, [], ◌∷◌, Option, Some, length, slice_get}
use Rattle.std.specs.List.{AllByRecursion, list_all}
use Rattle.std.specs.Option.{option_and_then, option_map_or}
use Rattle.x3d_values.specs.declared.fields.Fields.{Fields}
use Rattle.x3d_values.specs.declared.node_type.NodeType.TheVariants.{Script}
use Rattle.x3d_values.specs.declared.value.Value.{Value}
use Rattle.x3d_values.specs.Access.{is_initial}
use Rattle.x3d_values.specs.Kept.{field_value}
use Rattle.x3d_values.specs.Ranges.{max_depth}
use Rattle.x3d_values.specs.Tables.{FieldRowView, rows}
use Rattle.x3d_values.specs.Values.{nodes_of}
use Rattle.classic_round_trip.specs.Spellable.{IsFreeName, IsNameOrNone, IsSpellableComponent, IsSpellableMeta}
use Rattle.scene_core.specs.declared.row.DeclaredField.{DeclaredField}
use Rattle.scene_core.specs.declared.scene.End.{End}
use Rattle.scene_core.specs.declared.scene.Route.{Route}
use Rattle.scene_core.specs.declared.scene.SceneNode.{SceneNode}
use Rattle.scene_core.specs.Deep.{linked}
use Rattle.scene_core.specs.Scene.{SceneView, rows_at, value_at}
use Rattle.scene_core.specs.Shape.{numbered_fields}
use Rattle.laws_written.specs.Values.{is_sound}

-- ---- nodes

-- a node of the scene from which every chain has at most this many nodes
unfoldable pub IsShallow : SceneView → ℕ → ℕ → Type 0
IsShallow s zero n = ⊥
IsShallow s (suc depth) n =
    (n < length s.nodes)
    × ((number : ℕ) → AllByRecursion (IsShallow s depth) (linked (value_at s n number)))

-- the field holds a sound value, or nothing
abbrev pub is_sound_or_none : Option Value → Bool
is_sound_or_none value = option_map_or is_sound value true

-- the declared field holds a value under this number, if it can hold one
abbrev pub HoldsValue : List (Option Value) → ℕ → DeclaredField → Type 0
HoldsValue values number d =
    is_initial d.access ≡ true
    → (v : Value) × (option_and_then (λ o. o) (slice_get values number) ≡ Some v)

-- each of these fields, numbered from this number on, holds a value
abbrev pub HoldValues : List (Option Value) → ℕ → List DeclaredField → Type 0
HoldValues values number [] = Unit {0}
HoldValues values number (d ∷ ds) =
    HoldsValue values number d × HoldValues values (number + 1) ds

pub record IsWritableNode (n : SceneNode) : Type 0 where
  pub named : IsNameOrNone n.label
  pub scripted : (n.node_type ≡ Script) ⊎ (n.declared ≡ [])
  pub declared : AllByRecursion (λ (d : DeclaredField). IsFreeName d.name) n.declared
  pub sound : list_all is_sound_or_none n.values ≡ true
  pub held : HoldValues n.values (length (rows n.node_type))
      (numbered_fields n.node_type n.declared)

-- ---- what nodes keep

-- a sound value without nodes
abbrev pub IsKeepable : Value → Type 0
IsKeepable v = (is_sound v ≡ true) × (nodes_of v ≡ [])

-- each value that is kept is keepable
abbrev pub AreKeepable : List Fields → Type 0
AreKeepable state =
    (n number : ℕ) (fields : Fields) (v : Value)
    → slice_get state n ≡ Some fields → field_value fields number ≡ Some v → IsKeepable v

-- ---- routes

abbrev pub HasField : SceneView → End → Type 0
HasField s end = (e : FieldRowView) × (slice_get (rows_at s end.node) end.field ≡ Some e)

-- an end that is a field of a node of the scene
abbrev pub IsEnd : SceneView → End → Type 0
IsEnd s end = (end.node < length s.nodes) × HasField s end

abbrev pub IsWritableRoute : SceneView → Route → Type 0
IsWritableRoute s r = IsEnd s r.source × IsEnd s r.target

-- ---- a scene, with its routes and what its nodes keep

-- helpers are written in a Switch, so one node deeper
pub record IsWritable (s : SceneView) (routes : List Route) (state : List Fields) : Type 0 where
  pub few : length s.nodes ≤ 2 ^ 64
  pub profile : IsNameOrNone s.header.profile
  pub components : AllByRecursion IsSpellableComponent s.header.components
  pub metas : AllByRecursion IsSpellableMeta s.header.metas
  pub nodes : (n : ℕ) (node : SceneNode) → slice_get s.nodes n ≡ Some node → IsWritableNode node
  pub kept : AreKeepable state
  pub roots : AllByRecursion (IsShallow s max_depth) s.roots
  pub helpers : AllByRecursion (IsShallow s (max_depth - 1)) s.helpers
  pub ends : AllByRecursion (IsWritableRoute s) routes
