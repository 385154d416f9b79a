-- The faults of reading, of writing and of boxes, as faults of a job and of its run.
use Rattle.script_host.specs.declared.fault.AttachFault.{AttachFault}
use Rattle.script_host.specs.declared.fault.AttachFault.TheVariants as attach
use Rattle.app_jobs.specs.declared.fault.JobFault.{JobFault}
use Rattle.app_jobs.specs.declared.fault.JobFault.TheVariants as job
use Rattle.app_program.specs.declared.stream.StreamFault.{StreamFault}
use Rattle.app_program.specs.declared.stream.StreamFault.TheVariants as stream
use Rattle.app_program.specs.declared.run_fault.RunFault.{RunFault}
use Rattle.app_program.specs.declared.run_fault.RunFault.TheVariants as run

abbrev pub job_fault_of : StreamFault → JobFault
job_fault_of stream.Device = job.Device
job_fault_of stream.Memory = job.Memory

abbrev pub run_fault_of : StreamFault → RunFault
run_fault_of stream.Device = run.Device
run_fault_of stream.Memory = run.Memory

-- the fault of boxes as one of a run. A refusal of memory becomes the run's own
abbrev pub run_fault_of_boxes : AttachFault → RunFault
run_fault_of_boxes attach.Memory = run.Memory
run_fault_of_boxes fault = run.Attach fault
