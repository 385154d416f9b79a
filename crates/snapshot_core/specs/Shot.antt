-- A snapshot: the one byte list of a boot and a world (our choice).
use Rattle.std.specs.Prelude.{ℕ, List}
use Rattle.std.specs.Int.{w32}
use Rattle.byte_codec.specs.Codec.{Codec, pair, number}
use Rattle.scene_core.specs.Scene.{SceneView}
use Rattle.cascade_core.specs.Course.{Scripted}
use Rattle.snapshot_codec.specs.Head.{snapshot}
use Rattle.snapshot_core.specs.declared.version.Version.{Version}
use Rattle.snapshot_core.specs.Opening.{newest, version_number}
use Rattle.snapshot_core.specs.WorldCodec.{world_codec}

-- the bytes between the mark and the digest: the boot, and the world
abbrev pub body_codec : Version → SceneView → Codec (ℕ × Scripted)
body_codec version scene = pair (number w32) (world_codec version scene)

-- the snapshot of this version of a scene's world, with the scene's mark and a boot
abbrev pub shot_as : Version → (mark : List ℕ) → (boot : ℕ) → SceneView → Scripted → List ℕ
shot_as version mark boot scene w =
    snapshot (version_number version) mark ((body_codec version scene).write (boot, w))

-- the snapshot that is written
abbrev pub shot : (mark : List ℕ) → (boot : ℕ) → SceneView → Scripted → List ℕ
shot mark boot scene w = shot_as newest mark boot scene w
