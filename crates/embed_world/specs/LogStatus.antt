-- The numbers that C sees for the answers of a host that was resumed.
use Rattle.std.specs.Prelude.{ℕ, ◌==◌, Option, None, Some, Result, Ok, Err, if◌then◌else◌}
use Rattle.share_pending.specs.declared.answer.AppendAnswer.{AppendAnswer}
use Rattle.share_pending.specs.declared.answer.AppendAnswer.TheVariants.{InDoubt, Stored, Taken}
use Rattle.embed_world.specs.declared.host.EmbeddedHost.{EmbeddedHost}
use Rattle.embed_world.specs.declared.lasting.AppendFault.{AppendFault}
use Rattle.embed_world.specs.declared.lasting.AppendFault.TheVariants as append
use Rattle.embed_world.specs.declared.log_fault.LogFault.{LogFault}
use Rattle.embed_world.specs.declared.log_fault.LogFault.TheVariants as log

abbrev pub status_of_log : LogFault → ℕ
status_of_log log.Viewers = 11
status_of_log log.WrongScene = 33
status_of_log (log.Gap n) = 61
status_of_log (log.NotALog n) = 60
status_of_log log.Memory = 5

-- the number of the first wrong entry, if a fault has one; else the old number
abbrev pub entry_of_log : (old : ℕ) → LogFault → ℕ
entry_of_log old log.Viewers = old
entry_of_log old log.WrongScene = old
entry_of_log old (log.Gap n) = n
entry_of_log old (log.NotALog n) = n
entry_of_log old log.Memory = old

abbrev pub entry_told : (old : ℕ) → Result EmbeddedHost LogFault → ℕ
entry_told old (Ok h) = old
entry_told old (Err fault) = entry_of_log old fault

abbrev pub status_of_append : AppendFault → ℕ
status_of_append append.NotLasting = 62
status_of_append append.NotAwaited = 63
status_of_append append.Memory = 5

-- the answer with this number
abbrev pub answer_of : ℕ → Option AppendAnswer
answer_of number =
    if number == 0 then Some Stored
    else if number == 1 then Some Taken
    else if number == 2 then Some InDoubt
    else None
