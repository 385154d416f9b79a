-- A part of a text that is at fault: why, and the line on which it begins.
use Rattle.std.specs.Prelude.{ℕ, List, Bool, codes, if◌then◌else◌}
use Rattle.proto_flat.specs.FaultName.{fault_name as expand_fault_name}
use Rattle.proto_flat.specs.declared.fault.ExpandFaultKind.{ExpandFaultKind}
use Rattle.route_core.specs.FaultName.{fault_name as route_fault_name}
use Rattle.route_core.specs.declared.fault.RouteFaultKind.{RouteFaultKind}
use Rattle.scene_core.specs.Faults.{fault_name as scene_fault_name}
use Rattle.scene_core.specs.declared.fault.SceneFaultKind.{SceneFaultKind}
use Rattle.scene_faults.specs.declared.blame.Blame.{Blame}
use Rattle.scene_faults.specs.declared.blame.Reason.{Reason}
use Rattle.scene_faults.specs.declared.blame.Reason.TheVariants.{Expand, Scene, Route, Rotation}

-- the name of a fault; of a ROUTE with an end that is a rotation, the type of that end
abbrev pub reason_name : Reason → List ℕ
reason_name (Expand kind) = expand_fault_name kind
reason_name (Scene kind) = scene_fault_name kind
reason_name (Route kind) = route_fault_name kind
reason_name Rotation = codes "SFRotation"

-- of a part of a text
abbrev pub of_expand : ExpandFaultKind → ℕ → Blame
of_expand kind line = record { line = line; reason = Expand kind }

-- of a field or a node
abbrev pub of_scene : SceneFaultKind → ℕ → Blame
of_scene kind line = record { line = line; reason = Scene kind }

abbrev pub route_reason : RouteFaultKind → Bool → Reason
route_reason kind turns = if turns then Rotation else Route kind

-- of a ROUTE; it turns if an end is a rotation
abbrev pub of_route : RouteFaultKind → Bool → ℕ → Blame
of_route kind turns line = record { line = line; reason = route_reason kind turns }
