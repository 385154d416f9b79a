-- How long the texts and lists are in a scene that was read from a text.
use Rattle.std.specs.Prelude.{◌≡◌, ℕ, ◌≤◌, List, length, Option, Some, None, Ok}
use Rattle.std.specs.List.{AllByRecursion}
use Rattle.x3d_values.specs.declared.value.Value.{Value}
use Rattle.x3d_values.specs.declared.value.Value.TheVariants.{SFString, MFBool, MFInt32, MFFloat, MFTime, MFString, MFVec2f, MFVec3f, MFColor}
use Rattle.classic_lex.specs.Header.{max_len}
use Rattle.classic_tree.specs.declared.tree.Document.{Document}
use Rattle.classic_text.specs.Reading.{read_text}
use Rattle.proto_flat.specs.declared.flat.Flat.{Flat}
use Rattle.proto_meaning.specs.Flat.{flat}
use Rattle.scene_core.specs.declared.scene.SceneNode.{SceneNode}
use Rattle.scene_core.specs.Building.{scene_of}
use Rattle.scene_core.specs.Scene.{SceneView}
use Rattle.laws_documents.specs.Lengths.{IsShortText}

-- texts are UTF-8 with at most this many bytes, and the list has at most this many items; nodes do
-- not count
abbrev pub IsShortValue : ℕ → Value → Type 0
IsShortValue most (SFString text) = IsShortText most text
IsShortValue most (MFBool truths) = length truths ≤ most
IsShortValue most (MFInt32 numbers) = length numbers ≤ most
IsShortValue most (MFFloat numbers) = length numbers ≤ most
IsShortValue most (MFTime times) = length times ≤ most
IsShortValue most (MFString texts) =
    (length texts ≤ most) × AllByRecursion (IsShortText most) texts
IsShortValue most (MFVec2f vectors) = length vectors ≤ most
IsShortValue most (MFVec3f vectors) = length vectors ≤ most
IsShortValue most (MFColor colors) = length colors ≤ most
IsShortValue most _ = Unit {0}

abbrev pub IsShortIfAny : ℕ → Option Value → Type 0
IsShortIfAny most None = Unit {0}
IsShortIfAny most (Some value) = IsShortValue most value

-- every value that the node begins with is short, those of the type's table included
abbrev pub IsShortSceneNode : ℕ → SceneNode → Type 0
IsShortSceneNode most node = AllByRecursion (IsShortIfAny most) node.values

abbrev pub IsShortScene : ℕ → SceneView → Type 0
IsShortScene most scene = AllByRecursion (IsShortSceneNode most) scene.nodes

-- a text has at most 16 MiB, and the scene that was read from it has no longer texts or lists
abbrev pub ScenesAreShort : Type 0
ScenesAreShort =
    (text : List ℕ) (d : Document) (f : Flat) (scene : SceneView)
    → read_text text ≡ Ok d → flat d ≡ Ok f → scene_of f ≡ Ok scene → IsShortScene max_len scene
