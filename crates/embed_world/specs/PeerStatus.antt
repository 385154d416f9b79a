-- The numbers that C sees for the answers of hosts and viewers, and what is returned of them.
use Rattle.std.specs.Prelude.{ℕ, ◌^◌, nat_lt, if◌then◌else◌, Result, Ok, Err}
use Rattle.share_law.specs.declared.fault.FloorFault.{FloorFault}
use Rattle.share_law.specs.declared.fault.FloorFault.TheVariants as floor
use Rattle.share_law.specs.declared.fault.GatherFault.{GatherFault}
use Rattle.share_law.specs.declared.fault.GatherFault.TheVariants as gather
use Rattle.share_law.specs.declared.fault.HostFault.{HostFault}
use Rattle.share_law.specs.declared.fault.HostFault.TheVariants as host
use Rattle.share_law.specs.declared.fault.JoinFault.{JoinFault}
use Rattle.share_law.specs.declared.fault.JoinFault.TheVariants as join
use Rattle.share_law.specs.declared.fault.NumberFault.{NumberFault}
use Rattle.share_law.specs.declared.fault.NumberFault.TheVariants as number
use Rattle.share_law.specs.declared.fault.OfferFault.{OfferFault}
use Rattle.share_law.specs.declared.fault.OfferFault.TheVariants as offer
use Rattle.share_law.specs.declared.fault.TakeFault.{TakeFault}
use Rattle.share_law.specs.declared.fault.TakeFault.TheVariants as take
use Rattle.share_law.specs.declared.reply.Gathered.{Gathered}
use Rattle.share_law.specs.declared.reply.Gathered.TheVariants as gathered
use Rattle.share_law.specs.declared.reply.HostReply.{HostReply}
use Rattle.share_law.specs.declared.reply.HostReply.TheVariants as reply
use Rattle.share_law.specs.declared.reply.Taken.{Taken}
use Rattle.share_law.specs.declared.reply.Taken.TheVariants as taken
use Rattle.share_wire.specs.declared.fault.WireFault.{WireFault}
use Rattle.share_wire.specs.declared.fault.WireFault.TheVariants as wire
use Rattle.embed_world.specs.Status.{status_of_snap}
use Rattle.embed_world.specs.declared.tell.ReplyAs.{ReplyAs}
use Rattle.embed_world.specs.declared.tell.TakenAs.{TakenAs}

-- ---- faults

abbrev pub status_of_wire : WireFault → ℕ
status_of_wire wire.BadPacket = 40
status_of_wire wire.BadVersion = 32
status_of_wire wire.BadTag = 41
status_of_wire wire.BadRange = 42
status_of_wire wire.ZeroRay = 43

abbrev pub status_of_number : NumberFault → ℕ
status_of_number number.WorldFull = 45
status_of_number number.TimeNotLater = 22
status_of_number number.TimeRange = 46
status_of_number number.Memory = 5

abbrev pub status_of_host : HostFault → ℕ
status_of_host (host.Wire fault) = status_of_wire fault
status_of_host host.WrongScene = 33
status_of_host host.BadViewer = 44
status_of_host (host.Number fault) = status_of_number fault

abbrev pub status_of_floor : Result ℕ FloorFault → ℕ
status_of_floor (Ok _) = 0
status_of_floor (Err floor.FloorBack) = 47
status_of_floor (Err floor.FloorAhead) = 48

abbrev pub status_of_take : TakeFault → ℕ
status_of_take take.Spoiled = 20
status_of_take (take.Wire fault) = status_of_wire fault
status_of_take take.WrongScene = 33
status_of_take take.NotForMe = 50
status_of_take take.TimeNotLater = 22
status_of_take take.Memory = 5

abbrev pub status_of_offer : OfferFault → ℕ
status_of_offer offer.Spoiled = 20
status_of_offer offer.ZeroRay = 43
status_of_offer offer.PointRange = 51
status_of_offer offer.OfferFull = 52
status_of_offer offer.OffersSpent = 53

abbrev pub status_of_gather : GatherFault → ℕ
status_of_gather (gather.Wire fault) = status_of_wire fault
status_of_gather gather.WrongScene = 33
status_of_gather gather.NotPiece = 54
status_of_gather gather.Memory = 5

abbrev pub status_of_join : JoinFault → ℕ
status_of_join join.NotWhole = 55
status_of_join (join.Snap fault) = status_of_snap fault

-- the bytes of a snapshot are too many for pieces, or not
abbrev pub status_of_size : ℕ → ℕ
status_of_size size = if nat_lt (2 ^ 26) size then 56 else 0

-- ---- answers

-- done, or the fault's number
abbrev pub status_by : {A E : Type 0} → (E → ℕ) → Result A E → ℕ
status_by of_fault (Ok a) = 0
status_by of_fault (Err fault) = of_fault fault

-- the number that was answered; on a fault, the old one
abbrev pub number_by : {E : Type 0} → (old : ℕ) → Result ℕ E → ℕ
number_by old (Ok n) = n
number_by old (Err fault) = old

abbrev pub reply_as : HostReply → ReplyAs
reply_as (reply.Asked first count) = record { kind = 0; number = first; count = count }
reply_as (reply.Numbered n) = record { kind = 1; number = n; count = 0 }
reply_as reply.Repeat = record { kind = 2; number = 0; count = 0 }
reply_as reply.Ahead = record { kind = 3; number = 0; count = 0 }
reply_as reply.OldBoot = record { kind = 4; number = 0; count = 0 }
reply_as (reply.Below n) = record { kind = 5; number = n; count = 0 }
reply_as reply.NothingToDo = record { kind = 6; number = 0; count = 0 }

-- what a host did with a datagram; on a fault, the old value
abbrev pub replied : ReplyAs → Result HostReply HostFault → ReplyAs
replied old (Ok reply) = reply_as reply
replied old (Err fault) = old

abbrev pub taken_as : Taken → TakenAs
taken_as taken.Old = record { kind = 0; count = 0 }
taken_as taken.Beyond = record { kind = 1; count = 0 }
taken_as taken.Held = record { kind = 2; count = 0 }
taken_as (taken.Applied n) = record { kind = 3; count = n }
taken_as taken.Noted = record { kind = 4; count = 0 }
taken_as taken.Behind = record { kind = 5; count = 0 }

-- what a viewer did with a datagram; on a fault, the old value
abbrev pub taken_by : TakenAs → Result Taken TakeFault → TakenAs
taken_by old (Ok taken) = taken_as taken
taken_by old (Err fault) = old

abbrev pub gathered_as : Gathered → ℕ
gathered_as gathered.New = 0
gathered_as gathered.Again = 1
gathered_as gathered.Whole = 2
gathered_as gathered.Other = 3

-- what a viewer did with a piece; on a fault, the old value
abbrev pub gathered_by : ℕ → Result Gathered GatherFault → ℕ
gathered_by old (Ok gathered) = gathered_as gathered
gathered_by old (Err fault) = old
