-- The faults of the layers, as faults of a job. A layer's refusal of memory becomes the job's own.
use Rattle.std.specs.Prelude.{if◌then◌else◌}
use denote.Enum.Bare.{sameb}
use Rattle.classic_text.specs.declared.fault.ReadFault.{ReadFault}
use Rattle.classic_text.specs.declared.fault.ReadFaultKind.TheVariants as read
use Rattle.classic_text.specs.contracts.fault.ReadFaultKind as reads
use Rattle.proto_flat.specs.declared.fault.ExpandFault.{ExpandFault}
use Rattle.proto_flat.specs.declared.fault.ExpandFaultKind.TheVariants as expand
use Rattle.proto_flat.specs.contracts.fault.ExpandFaultKind as expands
use Rattle.scene_core.specs.declared.fault.SceneFault.{SceneFault}
use Rattle.scene_core.specs.declared.fault.SceneFaultKind.TheVariants as scene
use Rattle.scene_core.specs.contracts.fault.SceneFaultKind as scenes
use Rattle.route_core.specs.declared.fault.RouteFault.{RouteFault}
use Rattle.route_core.specs.declared.fault.RouteFaultKind.TheVariants as route
use Rattle.route_core.specs.contracts.fault.RouteFaultKind as routes
use Rattle.script_host.specs.declared.fault.AttachFault.{AttachFault}
use Rattle.script_host.specs.declared.fault.AttachFault.TheVariants as attach
use Rattle.app_jobs.specs.declared.fault.JobFault.{JobFault}
use Rattle.app_jobs.specs.declared.fault.JobFault.TheVariants.{Read, Expand, Scene, Route, Attach, Memory}

abbrev pub of_read : ReadFault → JobFault
of_read fault = if sameb reads.the_type fault.kind read.Memory then Memory else Read fault

abbrev pub of_expand : ExpandFault → JobFault
of_expand fault = if sameb expands.the_type fault.kind expand.Memory then Memory else Expand fault

abbrev pub of_scene : SceneFault → JobFault
of_scene fault = if sameb scenes.the_type fault.kind scene.Memory then Memory else Scene fault

abbrev pub of_route : RouteFault → JobFault
of_route fault = if sameb routes.the_type fault.kind route.Memory then Memory else Route fault

abbrev pub of_attach : AttachFault → JobFault
of_attach attach.Memory = Memory
of_attach fault = Attach fault
