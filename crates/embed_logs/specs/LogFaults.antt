-- Why a log in a file doesn't do what it was asked: of which faults, and the numbers that C sees
-- (our choice).
use Rattle.std.specs.Prelude.{ℕ}
use Rattle.embed_disk.specs.declared.fault.FileFault.{FileFault}
use Rattle.embed_disk.specs.declared.fault.FileFault.TheVariants as disk
use Rattle.share_file.specs.declared.fault.OpenFault.{OpenFault}
use Rattle.share_file.specs.declared.fault.OpenFault.TheVariants as file
use Rattle.embed_logs.specs.declared.fault.LogFileFault.{LogFileFault}
use Rattle.embed_logs.specs.declared.fault.LogFileFault.TheVariants.{Viewers, NoLog, LogBusy, Device, NotEmpty, BadHead, WrongScene, WrongSeats, LogDamaged, HasBase, NotEntries, LogFull, InDoubt, Memory}

abbrev pub fault_of_file : FileFault → LogFileFault
fault_of_file disk.Missing = NoLog
fault_of_file disk.Busy = LogBusy
fault_of_file disk.Device = Device
fault_of_file disk.Memory = Memory

abbrev pub fault_of_open : OpenFault → LogFileFault
fault_of_open file.Device = Device
fault_of_open file.NotEmpty = NotEmpty
fault_of_open (file.BadHead why) = BadHead
fault_of_open file.WrongScene = WrongScene
fault_of_open file.WrongSeats = WrongSeats
fault_of_open (file.LogDamaged frame) = LogDamaged frame
fault_of_open file.Memory = Memory

abbrev pub status_of_log_file : LogFileFault → ℕ
status_of_log_file Viewers = 11
status_of_log_file NoLog = 70
status_of_log_file LogBusy = 71
status_of_log_file Device = 72
status_of_log_file NotEmpty = 73
status_of_log_file BadHead = 74
status_of_log_file WrongScene = 33
status_of_log_file WrongSeats = 75
status_of_log_file (LogDamaged frame) = 76
status_of_log_file HasBase = 80
status_of_log_file NotEntries = 77
status_of_log_file LogFull = 78
status_of_log_file InDoubt = 79
status_of_log_file Memory = 5

-- the number of the damaged frame, if a fault has one; else the old number
abbrev pub frame_of : (old : ℕ) → LogFileFault → ℕ
frame_of old (LogDamaged frame) = frame
frame_of old _ = old
