-- The world of a document before anything has happened fits, if its lengths can be counted (our
-- choice: 32 bits), and so do the states in which its scripts start.
use Rattle.std.specs.Prelude.{◌≡◌, ℕ, ◌^◌, ◌&&◌, Bool, true, List, length, nat_lt, Ok}
use Rattle.std.specs.List.{list_all}
use Rattle.std.specs.Option.{option_map_or}
use Rattle.std.specs.Str.{is_utf8}
use Rattle.x3d_values.specs.declared.value.Value.{Value}
use Rattle.x3d_values.specs.declared.value.Value.TheVariants.{SFString, MFBool, MFInt32, MFFloat, MFTime, MFString, MFVec2f, MFVec3f, MFColor}
use Rattle.proto_flat.specs.declared.flat.Flat.{Flat}
use Rattle.scene_core.specs.declared.scene.SceneNode.{SceneNode}
use Rattle.scene_core.specs.Building.{scene_of}
use Rattle.scene_core.specs.Scene.{SceneView, shapes_of}
use Rattle.laws_worlds.specs.Nodes.{RunsAll}
use Rattle.cascade_core.specs.Apply.{untold}
use Rattle.laws_worlds.specs.Fits.{StartsFit, WorldFits}

-- fewer than 2^32 items
abbrev pub is_counted : {A : Type 0} → List A → Bool
is_counted items = nat_lt (length items) (2 ^ 32)

-- a text: UTF-8, of fewer than 2^32 bytes
abbrev pub is_text : List ℕ → Bool
is_text bytes = is_utf8 bytes && is_counted bytes

-- every text in the value is a text as above, and a list has fewer than 2^32 items
abbrev pub is_countable : Value → Bool
is_countable (SFString text) = is_text text
is_countable (MFBool truths) = is_counted truths
is_countable (MFInt32 numbers) = is_counted numbers
is_countable (MFFloat numbers) = is_counted numbers
is_countable (MFTime times) = is_counted times
is_countable (MFString texts) = is_counted texts && list_all is_text texts
is_countable (MFVec2f vectors) = is_counted vectors
is_countable (MFVec3f vectors) = is_counted vectors
is_countable (MFColor colors) = is_counted colors
is_countable _ = true

-- each value that the node begins with is countable
abbrev pub is_countable_node : SceneNode → Bool
is_countable_node n = list_all (λ v. option_map_or is_countable v true) n.values

abbrev pub IsCountable : SceneView → Type 0
IsCountable scene = list_all is_countable_node scene.nodes ≡ true

-- the world of a document's scene in which nothing has happened yet fits
abbrev pub UntoldWorldsFit : Type 0
UntoldWorldsFit =
    (flat : Flat) (scene : SceneView)
    → scene_of flat ≡ Ok scene → IsCountable scene → WorldFits (shapes_of scene) (untold scene)

-- if all its scripts run, the states in which they start are states of their kinds
abbrev pub StartsAreStates : Type 0
StartsAreStates =
    (flat : Flat) (scene : SceneView)
    → scene_of flat ≡ Ok scene → RunsAll scene → StartsFit scene
