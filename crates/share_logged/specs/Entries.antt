-- The input of one entry is numbered, by the part of a host.
use Rattle.std.specs.Prelude.{◌≡◌, ℕ, ℤ, pos, ◌+ℤ◌, Result, Ok, Err, ⊤}
use Rattle.share_wire.specs.declared.message.Body.TheVariants as body
use Rattle.share_entries.specs.Entry.{EntryView}
use Rattle.share_entries.specs.declared.entry.Source.{Source}
use Rattle.share_entries.specs.declared.entry.Source.TheVariants.{Clock, Offer}
use Rattle.share_law.specs.declared.fault.HostFault.{HostFault}
use Rattle.share_law.specs.declared.fault.HostFault.TheVariants.{Number}
use Rattle.share_law.specs.declared.fault.NumberFault.{NumberFault}
use Rattle.share_law.specs.declared.fault.NumberFault.TheVariants as number_fault
use Rattle.share_law.specs.declared.reply.HostReply.{HostReply}
use Rattle.share_law.specs.declared.reply.HostReply.TheVariants.{Numbered}
use Rattle.share_law.specs.Parts.{HostPart, part_clock, part_take}
use Rattle.share_logged.specs.declared.fault.ResumeFault.{ResumeFault}
use Rattle.share_logged.specs.declared.fault.ResumeFault.TheVariants.{Memory, NotALog}

-- like `MakesOf`, for the part that a real host holds
abbrev pub PartMakesOf : HostPart → (time : ℤ) → Source → HostPart → Type 0
PartMakesOf p time Clock new = (n : ℕ) × (part_clock p time ≡ (Ok n, new))
PartMakesOf p time (Offer o) new =
    (time ≡ p.last +ℤ pos 1) × ((n : ℕ) × (part_take p (body.Offer o) ≡ (Ok (Numbered n), new)))

abbrev pub PartMakes : HostPart → EntryView → HostPart → Type 0
PartMakes p e new = PartMakesOf p e.time e.source new

-- memory was refused, or no host with this part makes the entry
abbrev pub IsMadeNot : HostPart → (time : ℤ) → Source → (number : ℕ) → ResumeFault → Type 0
IsMadeNot p time source number (NotALog n) =
    (n ≡ number) × ((new : HostPart) → PartMakesOf p time source new → ⊥)
IsMadeNot p time source number Memory = ⊤

-- what is made of a clock of a log, by the host's answer to it
abbrev pub after_clock : (number : ℕ) → Result ℕ NumberFault → Result (Unit {0}) ResumeFault
after_clock number (Ok n) = Ok tt
after_clock number (Err number_fault.Memory) = Err Memory
after_clock number (Err fault) = Err (NotALog number)

-- what is made of an offer of a log, by the host's answer to it
abbrev pub after_offer : (number : ℕ) → Result HostReply HostFault
    → Result (Unit {0}) ResumeFault
after_offer number (Ok (Numbered n)) = Ok tt
after_offer number (Err (Number number_fault.Memory)) = Err Memory
after_offer number answer = Err (NotALog number)
