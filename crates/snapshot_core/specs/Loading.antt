-- The world of a snapshot, or what is wrong with the bytes (our choice).
use Rattle.std.specs.Prelude.{◌≡◌, ℕ, ℤ, ◌&&◌, is_none, Bool, true, false, List, [], ◌∷◌, Option, Some, None, Result, Ok, Err, nat_lt, if◌then◌else◌}
use Rattle.byte_codec.specs.Codec.{whole}
use Rattle.scene_core.specs.Scene.{SceneView}
use Rattle.snapshot_codec.specs.declared.head.HeadFault.{HeadFault}
use Rattle.snapshot_codec.specs.declared.head.HeadFault.TheVariants as head_fault
use Rattle.cascade_core.specs.Course.{Scripted}
use Rattle.cascade_core.specs.Held.{StageView, Running, holding}
use Rattle.cascade_core.specs.Installing.{StatesFit}
use Rattle.cascade_core.specs.Scripts.{kinds_in}
use Rattle.script_host.specs.States.{state_fault}
use Rattle.x3d_values.specs.declared.script.Kind.{Kind}
use Rattle.snapshot_core.specs.declared.version.Version.{Version}
use Rattle.snapshot_core.specs.Opening.{found_body, version_in}
pub use Rattle.snapshot_core.specs.Opening.{fault_before, newest}
use Rattle.snapshot_core.specs.declared.fault.SnapFault.{SnapFault}
use Rattle.snapshot_core.specs.declared.fault.SnapFault.TheVariants.{Short, BadMagic, BadVersion, WrongScene, BadDigest, NotCanonical, BootNotNew, ScriptState}
use Rattle.snapshot_core.specs.declared.loading.Saved.{Saved}
use Rattle.snapshot_core.specs.Shot.{body_codec}
use Rattle.snapshot_core.specs.WorldCodec.{world_codec}

abbrev pub fault_of : HeadFault → SnapFault
fault_of head_fault.Short = Short
fault_of head_fault.BadMagic = BadMagic
fault_of head_fault.BadVersion = BadVersion
fault_of head_fault.WrongScene = WrongScene
fault_of head_fault.BadDigest = BadDigest

-- only a snapshot of an earlier boot is accepted
abbrev pub newer : (boot : ℕ) → Option (ℕ × Scripted) → Result (ℕ × Scripted) SnapFault
newer boot None = Err NotCanonical
newer boot (Some x) = if nat_lt x.0 boot then Ok x else Err BootNotNew

-- the world of a body in a snapshot of a version, with the boot that the snapshot names
abbrev pub loaded_body : Version → SceneView → (boot : ℕ) → List ℕ
    → Result (ℕ × Scripted) SnapFault
loaded_body version scene boot body = newer boot (whole ((body_codec version scene).read body))

abbrev pub behind_head : Version → SceneView → (boot : ℕ) → Result (List ℕ) HeadFault
    → Result (ℕ × Scripted) SnapFault
behind_head version scene boot (Ok body) = loaded_body version scene boot body
behind_head version scene boot (Err fault) = Err (fault_of fault)

-- ---- the states of scripts

-- there is one state for each kind, and each is a state of a script of its kind
abbrev pub states_fit : List Kind → List (List ℤ) → Bool
states_fit [] [] = true
states_fit [] (state ∷ states) = false
states_fit (kind ∷ kinds) [] = false
states_fit (kind ∷ kinds) (state ∷ states) =
    is_none (state_fault kind state) && states_fit kinds states

abbrev pub with_states : SceneView → Result (ℕ × Scripted) SnapFault
    → Result (ℕ × Scripted) SnapFault
with_states scene (Ok x) =
    if states_fit (kinds_in scene) x.1.states then Ok x else Err ScriptState
with_states scene (Err fault) = Err fault

-- ---- a snapshot

-- the boot and the world of a snapshot, of the version that it names, for a viewer that starts
-- again as `boot`; otherwise the first of these faults that holds: Short, BadMagic, BadVersion,
-- WrongScene, BadDigest, NotCanonical, BootNotNew, ScriptState
unfoldable pub loaded : (mark : List ℕ) → SceneView → (boot : ℕ) → (bytes : List ℕ)
    → Result (ℕ × Scripted) SnapFault
loaded mark scene boot bytes =
    with_states scene (behind_head (version_in bytes) scene boot (found_body mark bytes))

-- the world has a snapshot that can be loaded
pub record HasSnapshot (scene : SceneView) (w : Scripted) : Type 0 where
  pub fits : (world_codec newest scene).fits w ≡ true
  pub states : StatesFit scene w.states

-- ---- a stage

-- the result, and what the stage holds afterwards
abbrev pub load_outcome : StageView → Result (ℕ × Scripted) SnapFault
    → Result Saved SnapFault × StageView
load_outcome stage (Ok x) =
    (Ok (record { boot = x.0; applied = x.1.world.applied }), holding stage (Running x.1))
load_outcome stage (Err fault) = (Err fault, stage)
