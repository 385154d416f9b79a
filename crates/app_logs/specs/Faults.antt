-- The faults of a log: of which other faults they are, and what is printed of each (our choice).
use Rattle.std.specs.Prelude.{ℕ, List, [], ◌++◌, codes, decimal}
use Rattle.share_file.specs.declared.fault.OpenFault.{OpenFault}
use Rattle.share_file.specs.declared.fault.OpenFault.TheVariants as file
use Rattle.share_logged.specs.declared.fault.ResumeFault.{ResumeFault}
use Rattle.share_logged.specs.declared.fault.ResumeFault.TheVariants as resume
use Rattle.share_store.specs.declared.fault.AppendFault.{AppendFault}
use Rattle.share_store.specs.declared.fault.AppendFault.TheVariants as append
use Rattle.app_logs.specs.declared.fault.LogFault.{LogFault}
use Rattle.app_logs.specs.declared.fault.LogFault.TheVariants.{NoLog, LogBusy, NotEmpty, BadHead, WrongScene, WrongSeats, LogDamaged, NotALog, HasBase, LogFull, Device, Memory}

-- why a file isn't opened as a log
abbrev pub open_fault_of : OpenFault → LogFault
open_fault_of file.Device = Device
open_fault_of file.NotEmpty = NotEmpty
open_fault_of (file.BadHead why) = BadHead
open_fault_of file.WrongScene = WrongScene
open_fault_of file.WrongSeats = WrongSeats
open_fault_of (file.LogDamaged frame) = LogDamaged frame
open_fault_of file.Memory = Memory

-- why a host doesn't begin with entries
abbrev pub resume_fault_of : ResumeFault → LogFault
resume_fault_of (resume.NotALog n) = NotALog n
resume_fault_of resume.Memory = Memory

-- why entries weren't appended
abbrev pub append_fault_of : AppendFault → LogFault
append_fault_of append.Taken = Device
append_fault_of append.InDoubt = Device
append_fault_of append.Memory = Memory
append_fault_of append.Full = LogFull

-- ---- what is printed

-- 1 for what a file has, 2 for a file that doesn't fit the words, 4 for devices, 5 for memory
abbrev pub log_status : LogFault → ℕ
log_status NoLog = 2
log_status LogBusy = 4
log_status NotEmpty = 2
log_status BadHead = 1
log_status WrongScene = 2
log_status WrongSeats = 2
log_status (LogDamaged frame) = 1
log_status (NotALog entry) = 1
log_status (HasBase entry) = 2
log_status LogFull = 4
log_status Device = 4
log_status Memory = 5

abbrev pub log_fault_name : LogFault → List ℕ
log_fault_name NoLog = codes "NoLog"
log_fault_name LogBusy = codes "LogBusy"
log_fault_name NotEmpty = codes "NotEmpty"
log_fault_name BadHead = codes "BadHead"
log_fault_name WrongScene = codes "WrongScene"
log_fault_name WrongSeats = codes "WrongSeats"
log_fault_name (LogDamaged frame) = codes "LogDamaged"
log_fault_name (NotALog entry) = codes "NotALog"
log_fault_name (HasBase entry) = codes "HasBase"
log_fault_name LogFull = codes "LogFull"
log_fault_name Device = codes "Device"
log_fault_name Memory = codes "Memory"

-- the frame or the entry of a fault, if it has one
abbrev pub place_text : LogFault → List ℕ
place_text NoLog = []
place_text LogBusy = []
place_text NotEmpty = []
place_text BadHead = []
place_text WrongScene = []
place_text WrongSeats = []
place_text (LogDamaged frame) = codes " frame " ++ decimal frame
place_text (NotALog entry) = codes " entry " ++ decimal entry
place_text (HasBase entry) = codes " entry " ++ decimal entry
place_text LogFull = []
place_text Device = []
place_text Memory = []

-- `refused NAME`, followed by ` frame N` or ` entry N` if the fault has one
abbrev pub log_refusal_text : LogFault → List ℕ
log_refusal_text f = codes "refused " ++ log_fault_name f ++ place_text f
