-- The states in which the scripts of a document's scene start are states of their kinds.
use Rattle.std.proofs.Common.{◌≡◌, ℕ, zero, suc, ℤ, pos, Bool, true, false, List, [], ◌∷◌, ◌++◌, codes, length, Option, Some, None, is_none, slice_get, refl, sym, ap, subst}
use Rattle.std.specs.Prelude.{All}
use Rattle.std.specs.List.{cons_option, filter_map, list_all, range_with_len}
use Rattle.std.specs.Option.{option_and_then, option_map}
use Rattle.std.proofs.lemmas.List.Elements.{All-head, All-tail}
use Rattle.byte_codec.proofs.Laws.{both, and_true}
use Rattle.x3d_values.specs.declared.script.Kind.{Kind}
use Rattle.x3d_values.specs.declared.script.Kind.TheVariants.{Counter, Gate, Adder, Batch, Mover, Meter}
use Rattle.x3d_values.specs.declared.script.ScriptSpec.{ScriptSpec}
use Rattle.x3d_values.specs.declared.table.FieldRow.{FieldRow}
use Rattle.x3d_values.specs.declared.value.Value.{Value}
use Rattle.x3d_values.specs.declared.value.Value.TheVariants as value
use Rattle.x3d_values.specs.declared.vector.Vec3.{Vec3}
use Rattle.x3d_values.specs.Ranges.{coordinates_fit}
use Rattle.x3d_values.specs.Tables.{row_named}
use Rattle.script_host.specs.Events.{truth_fits}
use Rattle.script_host.specs.Interface.{kind_named}
use Rattle.script_host.specs.States.{integer_fits, mover_fault, range_fault, state_fault}
use Rattle.scene_core.specs.declared.scene.SceneNode.{SceneNode}
use Rattle.scene_core.specs.Scene.{SceneView, declared_at, rows_at, value_at}
use Rattle.script_running.specs.Scripts.{declares, integer_in, known_spec, place_in, script_at, script_list, spec_by, start_of, truth_in, value_named, word_of}
use Rattle.laws_worlds.specs.Nodes.{RunsAll, runs}
use Rattle.cascade_core.specs.Scripts.{script_for, scripts_in}
use Rattle.laws_worlds.specs.Fits.{StartsFit}
use Rattle.laws_worlds.proofs.Calls.{in_state, states_are}
use Rattle.laws_worlds.proofs.Ranged.{ranged_if}

-- the values that the node begins with are in range
abbrev pub IsRanged : SceneNode → Type 0
IsRanged n = list_all ranged_if n.values ≡ true

-- ---- the value of a field

place_ranged : (vs : List (Option Value)) (field : ℕ) → list_all ranged_if vs ≡ true → ranged_if (option_and_then (λ v. v) (slice_get vs field)) ≡ true
place_ranged [] field a = refl
place_ranged (v ∷ vs) zero a = (both (ranged_if v) (list_all ranged_if vs) a).0
place_ranged (v ∷ vs) (suc field) a = place_ranged vs field (both (ranged_if v) (list_all ranged_if vs) a).1

pub node_ranged : (ns : List SceneNode) (node field : ℕ) → All IsRanged ns → ranged_if (option_and_then (λ (n : SceneNode). option_and_then (λ v. v) (slice_get n.values field)) (slice_get ns node)) ≡ true
node_ranged [] node field a = refl
node_ranged (n ∷ ns) zero field a = place_ranged n.values field (All-head IsRanged n ns a)
node_ranged (n ∷ ns) (suc node) field a = node_ranged ns node field (All-tail IsRanged n ns a)

then_ranged : (o : Option FieldRow) (f : FieldRow → Option Value) → ((row : FieldRow) → ranged_if (f row) ≡ true) → ranged_if (option_and_then f o) ≡ true
then_ranged None f k = refl
then_ranged (Some row) f k = k row

-- ---- the start of a script

integer_start : (o : Option Value) → ranged_if o ≡ true → integer_fits (integer_in o) ≡ true
integer_start (Some (value.SFInt32 number)) h = h
integer_start _ h = refl

truth_start : (o : Option Value) → truth_fits (truth_in o) ≡ true
truth_start (Some (value.SFBool true)) = refl
truth_start _ = refl

abbrev IsPlace : Option Value → Type 0
IsPlace o = (p : Vec3) × (place_in o ≡ p.x ∷ p.y ∷ p.z ∷ []) × (coordinates_fit p ≡ true)

origin : Vec3
origin = record { x = pos 0; y = pos 0; z = pos 0 }

place_start : (o : Option Value) → ranged_if o ≡ true → IsPlace o
unfolding origin
place_start (Some (value.SFVec3f place)) h = (place, refl, h)
place_start _ h = (origin, refl, refl)

no_fault : (b : Bool) → b ≡ true → range_fault b ≡ None
no_fault true h = refl
no_fault false h = absurd cc

places_start : (a b : Option Value) → IsPlace a → IsPlace b → mover_fault (place_in a ++ place_in b) ≡ None
places_start a b p q =
    subst (λ (xs : List ℤ). mover_fault (xs ++ place_in b) ≡ None) (sym p.1)
    (subst (λ (ys : List ℤ). mover_fault ((p.0.x ∷ p.0.y ∷ p.0.z ∷ []) ++ ys) ≡ None) (sym q.1) (no_fault _ (and_true _ _ p.2 q.2)))

module _ (scene : SceneView) (all : All IsRanged scene.nodes) where
  named_ranged : (node : ℕ) (name : List ℕ) → ranged_if (value_named scene node name) ≡ true
  named_ranged node name =
      then_ranged (row_named 0 name (rows_at scene node)) (λ row. value_at scene node row.number) (λ row. node_ranged scene.nodes node row.number all)

  starts : (node : ℕ) (kind : Kind) → state_fault kind (start_of scene node kind) ≡ None
  starts node Counter =
      no_fault _ (and_true _ _ (integer_start (value_named scene node (codes "start")) (named_ranged node (codes "start")))
      (integer_start (value_named scene node (codes "step")) (named_ranged node (codes "step"))))
  starts node Gate = no_fault _ (truth_start (value_named scene node (codes "startOpen")))
  starts node Adder = refl
  starts node Batch = refl
  starts node Mover =
      places_start (value_named scene node (codes "from")) (value_named scene node (codes "to"))
      (place_start (value_named scene node (codes "from")) (named_ranged node (codes "from")))
      (place_start (value_named scene node (codes "to")) (named_ranged node (codes "to")))
  starts node Meter = refl

  -- ---- all scripts

  abbrev Rest : List ScriptSpec → Type 0
  Rest specs = list_all runs specs ≡ true → list_all in_state (filter_map script_for specs) ≡ true

  by_fits : (node : ℕ) (kind : Kind) (b : Bool) (specs : List ScriptSpec) → Rest specs → Rest (known_spec scene node kind b ∷ specs)
  by_fits node kind true specs rest all = and_true _ _ (ap is_none (starts node kind)) (rest all)
  by_fits node kind false specs rest all = absurd cc

  by_kind : (node : ℕ) (o : Option Kind) (specs : List ScriptSpec) → Rest specs → Rest (spec_by scene node o ∷ specs)
  by_kind node None specs rest all = absurd cc
  by_kind node (Some kind) specs rest all = by_fits node kind (declares kind (declared_at scene node)) specs rest all

  by_word : (node : ℕ) (o : Option (List ℕ)) (specs : List ScriptSpec) → Rest specs → Rest (cons_option (option_map (λ word. spec_by scene node (kind_named word)) o) specs)
  by_word node None specs rest = rest
  by_word node (Some word) specs rest = by_kind node (kind_named word) specs rest

  all_start : (nodes : List ℕ) → Rest (filter_map (script_at scene) nodes)
  all_start [] h = refl
  all_start (node ∷ nodes) h = by_word node (word_of scene node) (filter_map (script_at scene) nodes) (all_start nodes) h

  pub starts_fit : RunsAll scene → StartsFit scene
  unfolding script_list
  starts_fit run = states_are (scripts_in scene) (scripts_in scene) refl (all_start (range_with_len 0 (length scene.nodes)) run)
