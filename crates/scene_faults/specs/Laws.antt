-- Laws of blames: what is blamed in an expanded document is what a scene (scene_core) refuses.
use Rattle.std.specs.Prelude.{◌≡◌, ◌⊎◌, ℕ, ◌++◌, List, [], ◌∷◌, Bool, true, false, Option, Some, None, Result, Ok, Err}
use Rattle.x3d_values.specs.Tables.{FieldRowView}
use Rattle.classic_tree.specs.declared.tree.Declaration.{Declaration}
use Rattle.proto_flat.specs.declared.flat.Flat.{Flat}
use Rattle.proto_flat.specs.declared.flat.FlatField.{FlatField}
use Rattle.proto_flat.specs.declared.flat.FlatNode.{FlatNode}
use Rattle.scene_core.specs.Building.{scene_of}
use Rattle.scene_core.specs.Typed as scene
use Rattle.scene_core.specs.declared.fault.SceneFault.{SceneFault}
use Rattle.scene_core.specs.declared.fault.SceneFaultKind.TheVariants.{TooDeep, TooMany}
use Rattle.scene_faults.specs.Fields.{by_declaration, by_row, child_blames, rotation_blames, scene_blames}
use Rattle.scene_faults.specs.declared.blame.Blame.{Blame}

abbrev pub is_blameless : List Blame → Bool
is_blameless [] = true
is_blameless (_ ∷ _) = false

abbrev pub is_made : {A E : Type 0} → Result A E → Bool
is_made (Ok a) = true
is_made (Err e) = false

-- a field of a node type is blamed exactly if a scene refuses its value, whatever numbers the nodes
-- have there
abbrev pub FieldsAreBlamed : Type 0
FieldsAreBlamed =
    (nodes : List FlatNode) (numbers : List ℕ) (row : FieldRowView) (f : FlatField)
    → is_blameless (by_row nodes (Some row) f) ≡ is_made (scene.given_value nodes numbers row f)

-- a declared field, and its declaration
abbrev pub declared_blames : List FlatNode → Declaration ℕ → Option FlatField → List Blame
declared_blames nodes d None = rotation_blames d
declared_blames nodes d (Some f) = by_declaration nodes (Some d) f ++ rotation_blames d

-- a declared field is blamed, or its declaration, exactly if a scene refuses what it holds
abbrev pub DeclarationsAreBlamed : Type 0
DeclarationsAreBlamed =
    (nodes : List FlatNode) (numbers : List ℕ) (d : Declaration ℕ) (given : Option FlatField)
    → is_blameless (declared_blames nodes d given)
    ≡ is_made (scene.declared_value nodes numbers d given)

-- a root or a helper is blamed exactly if a scene refuses it
abbrev pub ChildrenAreBlamed : Type 0
ChildrenAreBlamed =
    (nodes : List FlatNode) (n : ℕ)
    → is_blameless (child_blames nodes n) ≡ is_made (scene.child nodes n)

-- where nothing is blamed, a scene is refused for a limit alone
abbrev pub ScenesWithoutBlamesPassLimits : Type 0
ScenesWithoutBlamesPassLimits =
    (flat : Flat) (fault : SceneFault) → scene_blames flat ≡ [] → scene_of flat ≡ Err fault
    → (fault.kind ≡ TooDeep) ⊎ (fault.kind ≡ TooMany)
