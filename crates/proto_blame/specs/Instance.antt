-- Which instance a scene's fault is about (our choice): the one whose braces hold the value of the
-- field at fault. The scene is built again of the same flat document with the lines of instances
-- for its own. Lines decide nothing in it, so the same field is at fault, on the instance's line.
use Rattle.std.specs.Prelude.{ℕ, Bool, true, false, List, Option, None, Some, Result, Ok, Err}
use Rattle.std.specs.Option.{option_map_or}
use Rattle.classic_text.specs.declared.fault.ReadFaultKind.{ReadFaultKind}
use Rattle.classic_text.specs.declared.fault.ReadFaultKind.TheVariants as read_fault
use Rattle.classic_text.specs.Reading.{read_text}
use Rattle.classic_tree.specs.declared.tree.Document.{Document}
use Rattle.proto_flat.specs.declared.fault.ExpandFaultKind.{ExpandFaultKind}
use Rattle.proto_flat.specs.declared.fault.ExpandFaultKind.TheVariants as expand_fault
use Rattle.proto_flat.specs.declared.flat.Flat.{Flat}
use Rattle.proto_meaning.specs.Flat.{flat}
use Rattle.scene_core.specs.declared.fault.SceneFault.{SceneFault}
use Rattle.scene_core.specs.declared.fault.SceneFaultKind.{SceneFaultKind}
use Rattle.scene_core.specs.declared.fault.SceneFaultKind.TheVariants as scene_fault
use Rattle.scene_core.specs.Building.{scene_of}
use Rattle.proto_blame.specs.Blamed.{blamed}
use Rattle.proto_blame.specs.Relined.{relined}

abbrev pub ok_of : {A E : Type 0} → Result A E → Option A
ok_of (Ok a) = Some a
ok_of (Err e) = None

abbrev pub fault_line : {A : Type 0} → Result A SceneFault → ℕ
fault_line (Ok _) = 0
fault_line (Err f) = f.line

-- the line of the fault of a flat document's scene, or 0
abbrev pub scene_line : Flat → ℕ
scene_line f = fault_line (scene_of f)

abbrev pub flat_line : Flat → Flat → ℕ
flat_line blames f = scene_line (relined blames f)

abbrev pub blamed_line : Document → Flat → ℕ
blamed_line blames f = option_map_or (λ m. flat_line m f) (ok_of (flat blames)) 0

abbrev pub document_line : Document → ℕ
document_line d = option_map_or (blamed_line (blamed d)) (ok_of (flat d)) 0

-- the line of the instance whose braces hold the value of the field at fault, or 0: no field is at
-- fault, or no instance's braces hold its value
abbrev pub instance_line : List ℕ → ℕ
instance_line text = option_map_or document_line (ok_of (read_text text)) 0

-- ---- memory that was refused

abbrev pub is_read_memory : ReadFaultKind → Bool
is_read_memory read_fault.Memory = true
is_read_memory _ = false

abbrev pub is_expand_memory : ExpandFaultKind → Bool
is_expand_memory expand_fault.Memory = true
is_expand_memory _ = false

abbrev pub is_scene_memory : SceneFaultKind → Bool
is_scene_memory scene_fault.Memory = true
is_scene_memory _ = false
