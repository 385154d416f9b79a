-- Write-ahead: what every call on a host that was resumed keeps.
use Rattle.std.specs.Prelude.{ℕ, ◌+◌, ℤ, Bool, List, ◌++◌, length, Some, Result}
use Rattle.share_entries.specs.Entry.{EntryView}
use Rattle.share_law.specs.declared.fault.FloorFault.{FloorFault}
use Rattle.share_law.specs.declared.fault.HostFault.{HostFault}
use Rattle.share_law.specs.declared.fault.NumberFault.{NumberFault}
use Rattle.share_law.specs.declared.reply.HostReply.{HostReply}
use Rattle.share_pending.specs.declared.answer.AppendAnswer.{AppendAnswer}
use Rattle.embed_entries.specs.Appends.{IsLogText, append_text, log_text}
use Rattle.embed_world.specs.Hosts.{Clocks, Drops, HostTakes, HostTakesFrom, ack_bytes, floor_bytes, input_bytes, keeping}
use Rattle.embed_world.specs.Lasting.{Answers, Begins, GrowsLog, KeepsLog, Shows}
use Rattle.embed_world.specs.declared.host.EmbeddedHost.{EmbeddedHost}
use Rattle.embed_world.specs.declared.lasting.Append.{Append}
use Rattle.embed_world.specs.declared.lasting.AppendFault.{AppendFault}

-- ---- calls that keep the log as it was

abbrev pub ClocksKeep : Type 0
ClocksKeep =
    (old new : EmbeddedHost) (time : ℤ) (result : Result ℕ NumberFault)
    → Clocks old time result new → KeepsLog old new

abbrev pub TakesKeep : Type 0
TakesKeep =
    (old new : EmbeddedHost) (bytes : List ℕ) (result : Result HostReply HostFault)
    → HostTakes old bytes result new → KeepsLog old new

abbrev pub TakesFromKeep : Type 0
TakesFromKeep =
    (old new : EmbeddedHost) (who : ℕ) (bytes : List ℕ) (result : Result HostReply HostFault)
    → HostTakesFrom old who bytes result new → KeepsLog old new

abbrev pub DropsKeep : Type 0
DropsKeep =
    (old new : EmbeddedHost) (floor : ℕ) (result : Result ℕ FloorFault)
    → Drops old floor result new → KeepsLog old new

abbrev pub KeepingKeeps : Type 0
KeepingKeeps = (h : EmbeddedHost) (count : ℕ) → KeepsLog h (keeping h count)

abbrev pub BeginsKeep : Type 0
BeginsKeep =
    (old new : EmbeddedHost) (result : Result Append AppendFault)
    → Begins old result new → KeepsLog old new

-- ---- the one that makes it longer

abbrev pub AnswersGrow : Type 0
AnswersGrow =
    (old new : EmbeddedHost) (token : ℕ) (answer : AppendAnswer) (result : Result Bool AppendFault)
    → Answers token answer old result new → GrowsLog answer token old new

-- the bytes of a log and those of an append after it are the bytes of the longer log
abbrev pub AppendsMakeLogs : Type 0
AppendsMakeLogs =
    (mark : List ℕ) (log more : List EntryView)
    → IsLogText mark (log_text mark log ++ append_text mark (length log + 1) more) (log ++ more)

-- ---- what is shown

abbrev pub InputsAreStored : Type 0
InputsAreStored = (h : EmbeddedHost) (number : ℕ) → Shows h (input_bytes h number)

abbrev pub AcksAreStored : Type 0
AcksAreStored = (h : EmbeddedHost) (who : ℕ) → Shows h (ack_bytes h who)

abbrev pub FloorsAreStored : Type 0
FloorsAreStored = (h : EmbeddedHost) → Shows h (Some (floor_bytes h))
