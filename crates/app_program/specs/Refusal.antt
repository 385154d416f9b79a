-- The status and the line of each fault.
use Rattle.std.specs.Prelude.{ℕ, List, [], ◌++◌, codes, decimal, nat_eq, if◌then◌else◌}
use Rattle.classic_text.specs.declared.fault.ReadFaultKind.{ReadFaultKind}
use Rattle.classic_text.specs.declared.fault.ReadFaultKind.TheVariants as read
use Rattle.classic_text.specs.FaultName.{fault_name}
use Rattle.proto_flat.specs.declared.fault.ExpandFaultKind.{ExpandFaultKind}
use Rattle.proto_flat.specs.declared.fault.ExpandFaultKind.TheVariants as expand
use Rattle.proto_flat.specs.FaultName.{fault_name as expand_fault_name}
use Rattle.scene_core.specs.declared.fault.SceneFaultKind.{SceneFaultKind}
use Rattle.scene_core.specs.declared.fault.SceneFaultKind.TheVariants as scene
use Rattle.scene_core.specs.Faults.{fault_name as scene_fault_name}
use Rattle.route_core.specs.declared.fault.RouteFaultKind.{RouteFaultKind}
use Rattle.route_core.specs.declared.fault.RouteFaultKind.TheVariants as route
use Rattle.route_core.specs.FaultName.{fault_name as route_fault_name}
use Rattle.script_host.specs.declared.fault.AttachFault.{AttachFault}
use Rattle.script_host.specs.declared.fault.AttachFault.TheVariants as attach
use Rattle.script_host.specs.Faults.{attach_fault_name}
use Rattle.app_faults.specs.declared.fault.OrderFault.TheVariants as order
use Rattle.app_jobs.specs.declared.fault.JobFault.{JobFault}
use Rattle.app_jobs.specs.declared.fault.JobFault.TheVariants as job
use Rattle.app_program.specs.declared.run_fault.RunFault.{RunFault}
use Rattle.app_program.specs.declared.run_fault.RunFault.TheVariants as run
use Rattle.app_program.specs.declared.fault.ShareFault.{ShareFault}
use Rattle.app_program.specs.declared.fault.ShareFault.TheVariants as share
use Rattle.app_program.specs.declared.refusal.Failure.{Failure}
use Rattle.app_program.specs.declared.refusal.Failure.TheVariants.{Order, Job, Run, Share}

-- ---- statuses: 1 for scenes, scripts and snapshots, 2 for words, boots and jobs, 3 for turns that
-- are used up and for a run that a viewer can't be in, 4 for devices, 5 for memory

abbrev pub read_status : ReadFaultKind → ℕ
read_status read.Memory = 5
read_status _ = 1

abbrev pub expand_status : ExpandFaultKind → ℕ
expand_status expand.Memory = 5
expand_status _ = 1

abbrev pub scene_status : SceneFaultKind → ℕ
scene_status scene.Memory = 5
scene_status _ = 1

abbrev pub route_status : RouteFaultKind → ℕ
route_status route.Memory = 5
route_status _ = 1

abbrev pub attach_status : AttachFault → ℕ
attach_status attach.Memory = 5
attach_status _ = 1

abbrev pub job_status : JobFault → ℕ
job_status job.Device = 4
job_status (job.BadJob _) = 2
job_status (job.Read fault) = read_status fault.kind
job_status (job.Expand fault) = expand_status fault.kind
job_status (job.Scene fault) = scene_status fault.kind
job_status (job.Route fault) = route_status fault.kind
job_status (job.Attach fault) = attach_status fault
job_status job.Memory = 5

abbrev pub run_status : RunFault → ℕ
run_status (run.Attach fault) = attach_status fault
run_status run.Device = 4
run_status run.Memory = 5

abbrev pub share_status : ShareFault → ℕ
share_status share.Port = 4
share_status share.TurnsUsedUp = 3
share_status share.BootNotNew = 2
share_status share.BootsSpent = 2
share_status share.BadSnapshot = 1
share_status share.OtherRun = 3
share_status share.OtherList = 3
share_status share.NoWelcome = 3
share_status share.Spoiled = 5
share_status share.Memory = 5

abbrev pub status : Failure → ℕ
status (Order order.Words) = 2
status (Order order.Memory) = 5
status (Job fault) = job_status fault
status (Run fault) = run_status fault
status (Share fault) = share_status fault

-- -- names: the name of the innermost fault

abbrev pub job_fault_name : JobFault → List ℕ
job_fault_name job.Device = codes "Device"
job_fault_name (job.BadJob _) = codes "BadJob"
job_fault_name (job.Read fault) = fault_name fault.kind
job_fault_name (job.Expand fault) = expand_fault_name fault.kind
job_fault_name (job.Scene fault) = scene_fault_name fault.kind
job_fault_name (job.Route fault) = route_fault_name fault.kind
job_fault_name (job.Attach fault) = attach_fault_name fault
job_fault_name job.Memory = codes "Memory"

abbrev pub run_fault_name : RunFault → List ℕ
run_fault_name (run.Attach fault) = attach_fault_name fault
run_fault_name run.Device = codes "Device"
run_fault_name run.Memory = codes "Memory"

abbrev pub share_fault_name : ShareFault → List ℕ
share_fault_name share.Port = codes "Port"
share_fault_name share.TurnsUsedUp = codes "TurnsUsedUp"
share_fault_name share.BootNotNew = codes "BootNotNew"
share_fault_name share.BootsSpent = codes "BootsSpent"
share_fault_name share.BadSnapshot = codes "BadSnapshot"
share_fault_name share.OtherRun = codes "OtherRun"
share_fault_name share.OtherList = codes "OtherList"
share_fault_name share.NoWelcome = codes "NoWelcome"
share_fault_name share.Spoiled = codes "Spoiled"
share_fault_name share.Memory = codes "Memory"

abbrev pub failure_name : Failure → List ℕ
failure_name (Order order.Words) = codes "Words"
failure_name (Order order.Memory) = codes "Memory"
failure_name (Job fault) = job_fault_name fault
failure_name (Run fault) = run_fault_name fault
failure_name (Share fault) = share_fault_name fault

-- -- lines; 0 for a fault without a line

abbrev pub job_fault_line : JobFault → ℕ
job_fault_line (job.BadJob line) = line
job_fault_line (job.Read fault) = fault.line
job_fault_line (job.Expand fault) = fault.line
job_fault_line (job.Scene fault) = fault.line
job_fault_line (job.Route fault) = fault.line
job_fault_line _ = 0

abbrev pub failure_line : Failure → ℕ
failure_line (Job fault) = job_fault_line fault
failure_line _ = 0

-- `refused NAME`, followed by ` line N` if there is a line other than 0
abbrev pub refusal_text : Failure → List ℕ
refusal_text f =
    codes "refused " ++ failure_name f
    ++ (if nat_eq (failure_line f) 0 then [] else codes " line " ++ decimal (failure_line f))
