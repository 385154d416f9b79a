-- Why turns end early, as faults of the program.
use Rattle.std.specs.Prelude.{ℕ, Result, Err}
use Rattle.share_turns.specs.Told.{one_more}
use Rattle.snapshot_core.specs.declared.fault.SnapFault.{SnapFault}
use Rattle.snapshot_core.specs.declared.fault.SnapFault.TheVariants as snap
use Rattle.share_turns.specs.declared.fault.SeriesFault.{SeriesFault}
use Rattle.share_turns.specs.declared.fault.SeriesFault.TheVariants as series
use Rattle.share_turns.specs.declared.fault.TurnFault.{TurnFault}
use Rattle.share_turns.specs.declared.fault.TurnFault.TheVariants as turn
use Rattle.app_program.specs.declared.fault.ShareFault.{ShareFault}
use Rattle.app_program.specs.declared.fault.ShareFault.TheVariants as share

abbrev pub share_fault : TurnFault → ShareFault
share_fault turn.Port = share.Port
share_fault turn.Spoiled = share.Spoiled
share_fault turn.Memory = share.Memory

-- why a viewer can't begin from what it gathered
abbrev pub join_fault : SnapFault → ShareFault
join_fault snap.BootNotNew = share.BootNotNew
join_fault fault = share.BadSnapshot

abbrev pub series_fault : SeriesFault → ShareFault
series_fault (series.Turn fault) = share_fault fault
series_fault series.TurnsUsedUp = share.TurnsUsedUp
series_fault (series.Join fault) = join_fault fault

-- how many sends and receives of a port failed, after work: one more if a failure ended the work
abbrev pub failures_after : {A : Type 0} → Result A ShareFault → ℕ → ℕ
failures_after (Err share.Port) n = one_more n
failures_after result n = n
