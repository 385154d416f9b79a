-- Which part of a text is left out for a fault (our choice): the one that begins where the fault
-- is. In a text with its tokens apart, no other part begins there.
use Rattle.std.specs.Prelude.{ℕ, Bool, true, false, not, List, [], ◌∷◌, map, Option, Some, None, is_none, ◌&&◌, ◌==◌, if◌then◌else◌}
use Rattle.std.specs.List.{list_any}
use denote.Enum.Bare.{sameb}
use Rattle.classic_text.specs.contracts.fault.ReadFaultKind as reads
use Rattle.classic_text.specs.declared.fault.ReadFaultKind.TheVariants.{Unsupported}
use Rattle.proto_flat.specs.declared.fault.ExpandFaultKind.{ExpandFaultKind}
use Rattle.proto_flat.specs.declared.fault.ExpandFaultKind.TheVariants as expand
use Rattle.scene_core.specs.declared.fault.SceneFaultKind.{SceneFaultKind}
use Rattle.scene_core.specs.declared.fault.SceneFaultKind.TheVariants as scene
use Rattle.route_core.specs.declared.fault.RouteFaultKind.{RouteFaultKind}
use Rattle.route_core.specs.declared.fault.RouteFaultKind.TheVariants as route
use Rattle.app_jobs.specs.declared.fault.JobFault.{JobFault}
use Rattle.app_jobs.specs.declared.fault.JobFault.TheVariants as job
use Rattle.scene_faults.specs.declared.blame.Blame.{Blame}
use Rattle.scene_faults.specs.declared.blame.Reason.{Reason}
use Rattle.scene_faults.specs.declared.blame.Reason.TheVariants as reason

-- ---- faults of a part of a text, and no limit

abbrev pub of_expand : ExpandFaultKind → Bool
of_expand expand.TooLarge = false
of_expand expand.Memory = false
of_expand _ = true

abbrev pub of_scene : SceneFaultKind → Bool
of_scene scene.TooDeep = false
of_scene scene.TooMany = false
of_scene scene.Memory = false
of_scene _ = true

abbrev pub of_route : RouteFaultKind → Bool
of_route route.TooMany = false
of_route route.Memory = false
of_route _ = true

abbrev pub blame_if : Bool → ℕ → Reason → Option Blame
blame_if is_blamed line reason =
    if is_blamed then Some (record { line = line; reason = reason }) else None

-- the part that is at fault; none for a limit, for memory, or for a fault of reading
abbrev pub blame_of : JobFault → Option Blame
blame_of (job.Expand fault) =
    blame_if (of_expand fault.kind) fault.line (reason.Expand fault.kind)
blame_of (job.Scene fault) = blame_if (of_scene fault.kind) fault.line (reason.Scene fault.kind)
blame_of (job.Route fault) = blame_if (of_route fault.kind) fault.line (reason.Route fault.kind)
blame_of _ = None

-- ---- what goes

-- where the parts begin that are at fault
abbrev pub place : Blame → ℕ
place blame = blame.line

abbrev pub places : List Blame → List ℕ
places blames = map place blames

-- what begins there was left out before
abbrev pub is_gone : List ℕ → ℕ → Bool
is_gone refused at = list_any (λ r. r == at) refused

-- what a node or a route alone tells, if some of it was not left out before; or else the first
-- fault, if that was not
abbrev pub not_gone : List ℕ → List Blame → Blame → Option (List Blame)
not_gone refused blames first =
    if list_any (λ b. not (is_gone refused (place b))) blames then Some blames
    else if is_gone refused first.line then None
    else Some (first ∷ [])

abbrev pub with_first : List ℕ → List Blame → Option Blame → Option (List Blame)
with_first refused blames None = None
with_first refused blames (Some first) = not_gone refused blames first

-- what goes of a part that has this first fault, besides what begins at these places
abbrev pub mends : List ℕ → JobFault → List Blame → Option (List Blame)
mends refused fault blames = with_first refused blames (blame_of fault)

-- ---- which faults a part is refused for

abbrev pub is_unsupported : JobFault → Bool
is_unsupported (job.Read fault) = sameb reads.the_type fault.kind Unsupported
is_unsupported _ = false

-- a limit, memory, a device, or a fault of the characters or the grammar of a text
abbrev pub is_limit : JobFault → Bool
is_limit fault = is_none (blame_of fault) && not (is_unsupported fault)
