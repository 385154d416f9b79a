-- Why the run of a viewer ended (our choice).
use Rattle.std.specs.Prelude.{ℕ, Bool, Option, None, Some, if◌then◌else◌, unwrap_or}
use Rattle.app_program.specs.declared.fault.ShareFault.{ShareFault}
use Rattle.app_program.specs.declared.fault.ShareFault.TheVariants as share
use Rattle.share_runs.specs.Arrival.{is_over}
use Rattle.app_commands.specs.declared.viewer_port.ViewerPort.{ViewerPort}
use Rattle.app_commands.specs.declared.viewer_port.ViewerPort.TheVariants.{Plain, InRun}

-- other runs alone have answered for 10 seconds, or an input of another list came
abbrev pub end_if : (is_over is_other_list : Bool) → Option ShareFault
end_if is_over is_other_list =
    if is_over then Some share.OtherRun
    else if is_other_list then Some share.OtherList
    else None

abbrev pub end_of : {P : Type 0} → ViewerPort P → Option ShareFault
end_of (Plain port) = None
end_of (InRun port) = end_if (is_over port.greetings.arrival) port.run.is_other_list

-- why a viewer ends whose turns ended with a fault. The port of a viewer fails once its run ended
abbrev pub failed_with : Option ShareFault → ShareFault → ShareFault
failed_with end share.Port = unwrap_or end share.Port
failed_with end fault = fault

-- how many datagrams of other runs came
abbrev pub others_of : {P : Type 0} → ViewerPort P → ℕ
others_of (Plain port) = 0
others_of (InRun port) = port.greetings.others

-- how many sends and receives failed, and how many milliseconds the rests took
abbrev pub failures_in : {P : Type 0} → (P → ℕ) → ViewerPort P → ℕ
failures_in count (Plain port) = count port
failures_in count (InRun port) = port.failed

abbrev pub rested_in : {P : Type 0} → (P → ℕ) → ViewerPort P → ℕ
rested_in rested (Plain port) = rested port
rested_in rested (InRun port) = rested port.port
