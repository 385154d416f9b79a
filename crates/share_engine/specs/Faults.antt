-- What a log that is read reports.
use Rattle.std.specs.Prelude.{ℕ, Option, None, Some, Result, Ok, Err}
use Rattle.share_store.specs.declared.fault.ReadFault.{ReadFault}
use Rattle.share_store.specs.declared.fault.ReadFault.TheVariants as read
use Rattle.share_etcd.specs.declared.outcome.Outcome.{Outcome}
use Rattle.share_etcd.specs.declared.outcome.Outcome.TheVariants as outcome
use Rattle.share_engine.specs.declared.fault.ReadingFault.{ReadingFault}
use Rattle.share_engine.specs.declared.fault.ReadingFault.TheVariants.{Silent, Malformed, NotNext, Memory}
use Rattle.share_engine.specs.declared.fault.WorldFault.{WorldFault}
use Rattle.share_engine.specs.declared.fault.WorldFault.TheVariants as world

-- reading on: after Silent it may help to ask again, after Device the log has to be opened again
abbrev pub read_fault : ReadingFault → ReadFault
read_fault Silent = read.Silent
read_fault Malformed = read.Silent
read_fault NotNext = read.Device
read_fault Memory = read.Memory

-- opening: `next` is the number of the first entry that isn't read
abbrev pub world_fault : ReadingFault → (next : ℕ) → WorldFault
world_fault Silent next = world.Silent
world_fault Malformed next = world.Malformed
world_fault NotNext next = world.Damaged next
world_fault Memory next = world.Memory

-- the revision at which a request was done, if it was
abbrev pub revision_of : Outcome → Result (Option ℕ) ReadingFault
revision_of (outcome.Stored revision) = Ok (Some revision)
revision_of outcome.Refused = Ok None
revision_of outcome.Malformed = Err Malformed
